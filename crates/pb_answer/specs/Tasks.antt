-- What reading the texts of a task gives, and those of a task with the tables of a file.
use Rattle.std.specs.Prelude.{◌≡◌, ℕ, List, Result, Ok, Err, ⊤}
use Rattle.pb_answer.specs.declared.input.NoTask.{NoTask}
use Rattle.pb_answer.specs.declared.input.NoTask.TheVariants.{Refused, Stopped, Memory}

-- the texts are refused with this report, unless memory ran out
abbrev pub IsRefusal : NoTask → (report : List ℕ) → Type 0
IsRefusal (Refused given) report = report ≡ given
IsRefusal Stopped report = ⊥
IsRefusal Memory report = ⊤

-- the refusal is this one, or grounding was stopped for this cause, unless memory ran out
abbrev pub IsNoTask : {A : Type 0} → (cause : Type 0) → NoTask → (given : Result A (List ℕ))
    → Type 0
IsNoTask cause (Refused report) given = given ≡ Err report
IsNoTask cause Stopped given = cause
IsNoTask cause Memory given = ⊤

-- What was returned, seen by `view`, is what is given, or grounding was stopped for this cause,
-- unless memory ran out.
abbrev pub GivesBy : {A B : Type 0} → (cause : Type 0) → (view : A → B) → Result A NoTask
    → (given : Result B (List ℕ)) → Type 0
GivesBy cause view (Ok read) given = given ≡ Ok (view read)
GivesBy cause view (Err e) given = IsNoTask cause e given

-- the same of what is seen as it is
abbrev pub GivesTask : {A : Type 0} → (cause : Type 0) → Result A NoTask
    → (given : Result A (List ℕ)) → Type 0
GivesTask cause result given = GivesBy cause (λ read. read) result given
