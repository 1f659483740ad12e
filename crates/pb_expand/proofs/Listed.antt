-- The successors of a list.
use Rattle.std.proofs.Common.{◌≡◌, ℕ, zero, suc, ◌<◌, List, [], ◌∷◌, length, get_or, sym, subst, arith}
use Rattle.std.specs.List.{AllByRecursion}
use Rattle.pb_model.specs.declared.row.Succ.{Succ}
use Rattle.pb_model.specs.Space.{Space, steps}
use Rattle.pb_model.proofs.Callers.{IsStep, are_steps}

-- what holds of every successor of a list holds of the one at this place
one_of_all : (P : Succ → Type 0) (succs : List Succ) (i : ℕ) (succ : Succ) → AllByRecursion P succs → i < length succs → succ ≡ get_or succs i succ → P succ
one_of_all P [] i succ all less is = absurd (omega (arith, less))
one_of_all P (first ∷ succs) zero succ all less is = subst P (sym is) all.0
one_of_all P (first ∷ succs) (suc i) succ all less is = one_of_all P succs i succ all.1 (omega (arith, less)) is

pub step_at : (space : Space) (state : ℕ) (succs : List Succ) (i : ℕ) (succ : Succ) → succs ≡ steps space state → i < length succs → succ ≡ get_or succs i succ → IsStep space state succ
step_at space state succs i succ are less is = one_of_all (IsStep space state) succs i succ (subst (AllByRecursion (IsStep space state)) (sym are) (are_steps space state)) less is
