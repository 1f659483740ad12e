-- A made board has the numbers 0 to 8, each once: a move exchanges two of them.
use Rattle.std.proofs.Common.{◌≡◌, ℕ, zero, suc, ◌+◌, ◌-◌, ◌%◌, ◌<◌, Bool, true, false, nat_lt, ◌==◌, Option, None, Some, if◌then◌else◌, List, [], ◌∷◌, length, refl, arith}
use Rattle.std.proofs.lemmas.Bool.{ltb-true, eqb-false}
use Rattle.std.specs.List.{fold, position_or_len}
use Rattle.pb_task.proofs.Callers.{Listed, listed, is_board_swapped}
use Rattle.pb_make.specs.Draws.{draws}
use Rattle.pb_make.specs.Boards.{blank_of, cell_beside, exchanged, goal_board, made_board, moved, target_of}

-- the value of a choice with nothing on one side
some_else : (test : Bool) (value other : ℕ) → ◌≡◌ {A = Option ℕ} (if test then None else Some value) (Some other) → (test ≡ false) × (value ≡ other)
some_else true value other e = cc
some_else false value other e = (refl, cc)

some_then : (test : Bool) (value other : ℕ) → ◌≡◌ {A = Option ℕ} (if test then Some value else None) (Some other) → (test ≡ true) × (value ≡ other)
some_then true value other e = (refl, cc)
some_then false value other e = cc

-- a cell beside a cell of the board is on the board
beside_below : (cell direction other : ℕ) → cell < 9 → cell_beside cell direction ≡ Some other → other < 9
beside_below cell zero other on e = let s = some_else (nat_lt cell 3) (cell - 3) other e in omega (arith, s.1)
beside_below cell (suc zero) other on e = let s = some_then (nat_lt cell 6) (cell + 3) other e in omega (arith, s.1, ltb-true cell 6 s.0)
beside_below cell (suc (suc zero)) other on e = let s = some_else (cell % 3 == 0) (cell - 1) other e in omega (arith, s.1)
beside_below cell (suc (suc (suc direction))) other on e =
    let s = some_else (cell % 3 == 2) (cell + 1) other e in
    let no : cell % 3 ≡ 2 → ⊥ = eqb-false (cell % 3) 2 s.0 in
    omega (arith, s.1, no)

position_below : (board : List ℕ) (cell : ℕ) → blank_of board ≡ Some cell → cell < length board
position_below board cell e =
    let at = position_or_len (λ tile. tile == 0) board in
    let s = some_then (nat_lt at (length board)) at cell e in
    omega (arith, s.1, ltb-true at (length board) s.0)

exchanged_listed : (board : List ℕ) (blank other : Option ℕ) → Listed 9 board → ((cell : ℕ) → blank ≡ Some cell → cell < 9) → ((cell : ℕ) → other ≡ Some cell → cell < 9)
    → Listed 9 (exchanged board blank other)
exchanged_listed board None other l p q = l
exchanged_listed board (Some one) None l p q = l
exchanged_listed board (Some one) (Some other) l p q = is_board_swapped 9 board one other l (p one refl) (q other refl)

target_below : (blank : Option ℕ) (direction cell : ℕ) → ((at : ℕ) → blank ≡ Some at → at < 9) → target_of blank direction ≡ Some cell → cell < 9
target_below None direction cell p e = cc
target_below (Some at) direction cell p e = beside_below at direction cell (p at refl) e

moved_listed : (board : List ℕ) (draw : ℕ) → Listed 9 board → Listed 9 (moved board draw)
moved_listed board draw l =
    let on : (cell : ℕ) → blank_of board ≡ Some cell → cell < 9 = λ cell e. omega (arith, position_below board cell e, l.many) in
    exchanged_listed board (blank_of board) (target_of (blank_of board) (draw % 4)) l on (λ cell e. target_below (blank_of board) (draw % 4) cell on e)

all_listed : (board ds : List ℕ) → Listed 9 board → Listed 9 (fold moved board ds)
all_listed board [] l = l
all_listed board (draw ∷ ds) l = all_listed (moved board draw) ds (moved_listed board draw l)

pub goal_listed : Listed 9 goal_board
goal_listed = listed 9 goal_board refl

pub made_listed : (seed moves : ℕ) → Listed 9 (made_board seed moves)
made_listed seed moves = all_listed goal_board (draws moves seed) goal_listed
