-- An answer and a refusal differ, and an answer is one value.
use Rattle.std.proofs.Common.{◌≡◌, Result, Ok, Err}

pub not_fault : {A B C : Type 0} (x : A) (fault : C) → ◌≡◌ {A = Result A C} (Ok x) (Err fault) → B
not_fault x fault e = cc

pub same_value : {A C : Type 0} (one other : A) → ◌≡◌ {A = Result A C} (Ok one) (Ok other)
    → one ≡ other
same_value one other e = cc
