-- The text of a board of nine numbers.
use Rattle.std.proofs.Common.{◌≡◌, ℕ, List, [], ◌∷◌, ◌++◌, length, get_or, codes, refl, arith}
use Rattle.pb_make.specs.Lines.{line}
use Rattle.pb_make.specs.Boards.{board_text, row_line}

pub board_text-nine : (board : List ℕ) → length board ≡ 9
    → board_text board ≡ line (codes "3 3") ++ (row_line (get_or board 0 0) (get_or board 1 0) (get_or board 2 0)
    ++ (row_line (get_or board 3 0) (get_or board 4 0) (get_or board 5 0) ++ (row_line (get_or board 6 0) (get_or board 7 0) (get_or board 8 0) ++ [])))
board_text-nine (a ∷ b ∷ c ∷ d ∷ e ∷ f ∷ g ∷ h ∷ i ∷ []) nine = refl
board_text-nine other nine = absurd (omega arith)
