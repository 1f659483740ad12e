-- The text of a board of nine numbers below nine is eleven words of one digit.
use Rattle.std.proofs.Common.{◌≡◌, ℕ, ◌+◌, ◌<◌, true, false, ◌&&◌, nat_lt, inl, List, [], ◌∷◌, ◌++◌, length, refl, ap, sym, subst, arith}
use Rattle.std.proofs.lemmas.Bool.{and_parts}
use Rattle.std.proofs.lemmas.Bool.Decides.{nat_tests}
use Rattle.std.proofs.lemmas.Fmt.{decimal_digit}
use Rattle.std.specs.List.{list_all}
use Rattle.pb_task.proofs.Callers.{is_board_by}
use Rattle.pb_tiles.specs.Words.{is_blank}
use Rattle.pb_lines.specs.ShortNumbers.{IsShortNumber}
use Rattle.pb_tiles.specs.Spelling.{AreNumbers, AreWordsOf}
use Rattle.pb_make.specs.Boards.{board_text, goal_board, made_board, row_line}
use Rattle.pb_make_laws.specs.Laws.{MadeBoardsAreSpelled}
use Rattle.pb_tiles.proofs.Callers.{blank_front}
use Rattle.pb_make_laws.proofs.MadeBoards.{made_listed, goal_listed}
use Rattle.pb_make_laws.proofs.Words.{digit_is}

-- ---- words of one digit

digit_is_no_blank : (n : ℕ) → n < 10 → is_blank (48 + n) ≡ false
digit_is_no_blank n small = grind (arith, nat_tests)

digit_number : (n : ℕ) → n < 10 → IsShortNumber ((48 + n) ∷ []) n
digit_number n small = record {
  some = omega arith;
  most = omega arith;
  digits = ap (λ test. test && true) (digit_is n small);
  value = omega arith;
}

-- a digit and a blank before more words
digit_front : (n blank : ℕ) (text : List ℕ) (words : List (List ℕ)) → n < 10 → is_blank blank ≡ true → AreWordsOf text words
    → AreWordsOf ((48 + n) ∷ blank ∷ text) (((48 + n) ∷ []) ∷ words)
digit_front n blank text words small e more = ([], blank ∷ text, refl, tt, (omega arith, (digit_is_no_blank n small, tt)), e, blank_front blank text words e more)

-- ---- boards

row_is : (a b c : ℕ) → a < 10 → b < 10 → c < 10 → row_line a b c ≡ (48 + a) ∷ 32 ∷ (48 + b) ∷ 32 ∷ (48 + c) ∷ 10 ∷ []
row_is a b c p q r = λ i. (decimal_digit a p i ++ 32 ∷ (decimal_digit b q i ++ 32 ∷ decimal_digit c r i)) ++ 10 ∷ []

row_words : (a b c : ℕ) (text : List ℕ) (words : List (List ℕ)) → a < 10 → b < 10 → c < 10 → AreWordsOf text words
    → AreWordsOf (row_line a b c ++ text) (((48 + a) ∷ []) ∷ ((48 + b) ∷ []) ∷ ((48 + c) ∷ []) ∷ words)
row_words a b c text words p q r more =
    subst (λ row. AreWordsOf (row ++ text) (((48 + a) ∷ []) ∷ ((48 + b) ∷ []) ∷ ((48 + c) ∷ []) ∷ words)) (sym (row_is a b c p q r))
    (digit_front a 32 ((48 + b) ∷ 32 ∷ (48 + c) ∷ 10 ∷ text) (((48 + b) ∷ []) ∷ ((48 + c) ∷ []) ∷ words) p refl
    (digit_front b 32 ((48 + c) ∷ 10 ∷ text) (((48 + c) ∷ []) ∷ words) q refl (digit_front c 10 text words r refl more)))

-- nine numbers below 9 are spelled by their digits
pub record SpellsBoard (board : List ℕ) : Type 0 where
  pub words : List (List ℕ)
  pub are_words : AreWordsOf (board_text board) ((51 ∷ []) ∷ (51 ∷ []) ∷ (words ++ []))
  pub numbers : AreNumbers words board

small_front : (n : ℕ) (ns : List ℕ) → list_all (λ number. nat_lt number 9) (n ∷ ns) ≡ true → (n < 10) × (list_all (λ number. nat_lt number 9) ns ≡ true)
small_front n ns e = let parts = and_parts (nat_lt n 9) (list_all (λ number. nat_lt number 9) ns) e in (under n parts.0, parts.1)
  where
    under : (n : ℕ) → nat_lt n 9 ≡ true → n < 10
    under n e = grind (arith, nat_tests)

board_spelled : (board : List ℕ) → length board ≡ 9 → list_all (λ number. nat_lt number 9) board ≡ true → SpellsBoard board
board_spelled (a ∷ b ∷ c ∷ d ∷ e ∷ f ∷ g ∷ h ∷ i ∷ []) nine small =
    let la = small_front a (b ∷ c ∷ d ∷ e ∷ f ∷ g ∷ h ∷ i ∷ []) small in
    let lb = small_front b (c ∷ d ∷ e ∷ f ∷ g ∷ h ∷ i ∷ []) la.1 in
    let lc = small_front c (d ∷ e ∷ f ∷ g ∷ h ∷ i ∷ []) lb.1 in
    let ld = small_front d (e ∷ f ∷ g ∷ h ∷ i ∷ []) lc.1 in
    let le = small_front e (f ∷ g ∷ h ∷ i ∷ []) ld.1 in
    let lf = small_front f (g ∷ h ∷ i ∷ []) le.1 in
    let lg = small_front g (h ∷ i ∷ []) lf.1 in
    let lh = small_front h (i ∷ []) lg.1 in
    let li = small_front i [] lh.1 in
    let third_row = row_line g h i ++ [] in
    let second_row = row_line d e f ++ third_row in
    let first_row = row_line a b c ++ second_row in
    let third = ((48 + g) ∷ []) ∷ ((48 + h) ∷ []) ∷ ((48 + i) ∷ []) ∷ [] in
    let second = ((48 + d) ∷ []) ∷ ((48 + e) ∷ []) ∷ ((48 + f) ∷ []) ∷ third in
    let first = ((48 + a) ∷ []) ∷ ((48 + b) ∷ []) ∷ ((48 + c) ∷ []) ∷ second in
    let rows = row_words a b c second_row second la.0 lb.0 lc.0 (row_words d e f third_row third ld.0 le.0 lf.0 (row_words g h i [] [] lg.0 lh.0 li.0 tt)) in
    let three : 3 < 10 = omega arith in
    record {
      words = first;
      are_words = digit_front 3 32 (51 ∷ 10 ∷ first_row) ((51 ∷ []) ∷ first) three refl (digit_front 3 10 first_row first three refl rows);
      numbers = (digit_number a la.0, (digit_number b lb.0, (digit_number c lc.0, (digit_number d ld.0, (digit_number e le.0, (digit_number f lf.0, (digit_number g lg.0, (digit_number h lh.0, (digit_number i li.0, tt)))))))));
    }
board_spelled other nine small = absurd (omega arith)

pub made_boards_are_spelled : MadeBoardsAreSpelled
made_boards_are_spelled seed moves =
    let board = made_board seed moves in
    let l = made_listed seed moves in
    let s = board_spelled board l.many l.small in
    let three : 3 < 10 = omega arith in
    record {
      says = record {
        rows_word = 51 ∷ [];
        cols_word = 51 ∷ [];
        start_words = s.words;
        goal_words = [];
        words_are = s.are_words;
        rows_is = digit_number 3 three;
        cols_is = digit_number 3 three;
        start_is = s.numbers;
        goal_is = inl (refl, refl);
      };
      are_tiles = record { rows = (omega arith, omega arith); cols = (omega arith, omega arith); start = is_board_by 9 board l; goal = is_board_by 9 goal_board goal_listed };
    }
