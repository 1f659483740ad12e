-- Files that are saved one after another: the first ones, and then the others.
use Rattle.std.proofs.Common.{inl, inr, ℕ, Option, None, Some, IsSome, List, [], ◌∷◌, ◌++◌, refl, sym, ap, subst, ◌∙◌, append_assoc, append-nil}
use Rattle.pb_outside.specs.Outside.{Files, IfTold, KeepsAll}
use Rattle.pb_outside.specs.Calls.{Call}
use Rattle.pb_outside.specs.Saves.{Saves, SavesPart}
use Rattle.pb_outside.proofs.Callers.{told_then, told_as}
use Rattle.pb_answer.specs.Outputs.{Output, output}
use Rattle.pb_run.specs.Calls.{SaveAll, FailToSaveAll, CanHold}
use Rattle.pb_run.specs.Contents.{SavesIn, SavesPartIn, Saved, SavedPart}

-- ---- one file

pub one_saved : (old new : List Call) (name text : List ℕ) → Saves old new name text → Saved old new (output name text ∷ [])
one_saved old new name text (calls, are, save) = (calls, are, (calls, [], sym (append-nil calls), save, refl))

pub one_part_saved : (old new : List Call) (name text : List ℕ) → SavesPart old new name text → SavedPart old new (output name text ∷ [])
one_part_saved old new name text (calls, are, fail) = (calls, are, inl fail)

pub none_saved : (old : List Call) → Saved old old []
none_saved old = ([], sym (append-nil old), refl)

-- ---- the calls

pub save_joined : (outputs more : List Output) (calls rest : List Call) → SaveAll calls outputs → SaveAll rest more → SaveAll (calls ++ rest) (outputs ++ more)
save_joined [] more calls rest is saves = subst (λ (c : List Call). SaveAll (c ++ rest) more) (sym is) saves
save_joined (first ∷ outputs) more calls rest (own, others, is, text, later) saves =
    (own, others ++ rest, ap (λ (c : List Call). c ++ rest) is ∙ append_assoc own others rest, text, save_joined outputs more others rest later saves)

pub fail_joined : (outputs more : List Output) (calls rest : List Call) → SaveAll calls outputs → FailToSaveAll rest more → FailToSaveAll (calls ++ rest) (outputs ++ more)
fail_joined [] more calls rest is fails = subst (λ (c : List Call). FailToSaveAll (c ++ rest) more) (sym is) fails
fail_joined (first ∷ outputs) more calls rest (own, others, is, text, later) fails =
    inr (own, others ++ rest, ap (λ (c : List Call). c ++ rest) is ∙ append_assoc own others rest, text, fail_joined outputs more others rest later fails)

pub fail_first : (outputs more : List Output) (calls : List Call) → FailToSaveAll calls outputs → FailToSaveAll calls (outputs ++ more)
fail_first [] more calls fails = absurd fails
fail_first (first ∷ outputs) more calls (inl fails) = inl fails
fail_first (first ∷ outputs) more calls (inr (own, rest, is, text, later)) = inr (own, rest, is, text, fail_first outputs more rest later)

module _ (outputs more : List Output) (old mid new : List Call) where
  pub both_saved : Saved old mid outputs → Saved mid new more → Saved old new (outputs ++ more)
  both_saved (calls, are, saves) (rest, then, others) =
      (calls ++ rest, then ∙ ap (λ (c : List Call). c ++ rest) are ∙ append_assoc old calls rest, save_joined outputs more calls rest saves others)

  pub then_failed : Saved old mid outputs → SavedPart mid new more → SavedPart old new (outputs ++ more)
  then_failed (calls, are, saves) (rest, then, others) =
      (calls ++ rest, then ∙ ap (λ (c : List Call). c ++ rest) are ∙ append_assoc old calls rest, fail_joined outputs more calls rest saves others)

pub first_failed : (outputs more : List Output) (old new : List Call) → SavedPart old new outputs → SavedPart old new (outputs ++ more)
first_failed outputs more old new (calls, are, fails) = (calls, are, fail_first outputs more calls fails)

-- ---- the files

-- files that are kept, and then something is saved
pub after_kept : (outputs : List Output) (x y z : Files) → KeepsAll x y → SavesIn outputs y z → SavesIn outputs x z
after_kept [] x y z kept saves = λ other. saves other ∙ kept other
after_kept (first ∷ outputs) x y z kept (between, here, others, more) = (between, here, λ other apart. others other apart ∙ kept other, more)

pub part_kept : (outputs : List Output) (x y z : Files) → KeepsAll x y → SavesPartIn outputs y z → SavesPartIn outputs x z
part_kept [] x y z kept saves = saves
part_kept (first ∷ outputs) x y z kept (inl (inl same, others)) = inl (inl (same ∙ kept first.name), λ other apart. others other apart ∙ kept other)
part_kept (first ∷ outputs) x y z kept (inl (inr part, others)) = inl (inr part, λ other apart. others other apart ∙ kept other)
part_kept (first ∷ outputs) x y z kept (inr (between, here, others, more)) = inr (between, here, λ other apart. others other apart ∙ kept other, more)

pub in_joined : (outputs more : List Output) (x y z : Files) → SavesIn outputs x y → SavesIn more y z → SavesIn (outputs ++ more) x z
in_joined [] more x y z kept saves = after_kept more x y z kept saves
in_joined (first ∷ outputs) more x y z (between, here, others, later) saves = (between, here, others, in_joined outputs more between y z later saves)

pub part_joined : (outputs more : List Output) (x y z : Files) → SavesIn outputs x y → SavesPartIn more y z → SavesPartIn (outputs ++ more) x z
part_joined [] more x y z kept saves = part_kept more x y z kept saves
part_joined (first ∷ outputs) more x y z (between, here, others, later) saves = inr (between, here, others, part_joined outputs more between y z later saves)

pub in_split : (outputs more : List Output) (x y : Files) → SavesIn (outputs ++ more) x y → (between : Files) × SavesIn outputs x between × SavesIn more between y
in_split [] more x y saves = (x, λ name. refl, saves)
in_split (first ∷ outputs) more x y (between, here, others, later) =
    let rest = in_split outputs more between y later in
    (rest.0, (between, here, others, rest.1), rest.2)

pub part_first : (outputs more : List Output) (x y : Files) → SavesPartIn outputs x y → SavesPartIn (outputs ++ more) x y
part_first [] more x y saves = absurd saves
part_first (first ∷ outputs) more x y (inl part) = inl part
part_first (first ∷ outputs) more x y (inr (between, here, others, later)) = inr (between, here, others, part_first outputs more between y later)

module _ (outputs more : List Output) (old mid new : Option Files) where
  pub told_saved : IfTold old mid (SavesIn outputs) → IfTold mid new (SavesIn more) → IfTold old new (SavesIn (outputs ++ more))
  told_saved saved saves = told_then old mid new (SavesIn outputs) (SavesIn more) (SavesIn (outputs ++ more)) saved saves (in_joined outputs more)

pub told_first : (outputs more : List Output) (old new : Option Files) → IfTold old new (SavesPartIn outputs) → IfTold old new (SavesPartIn (outputs ++ more))
told_first outputs more old new saves = told_as old new (SavesPartIn outputs) (SavesPartIn (outputs ++ more)) saves (part_first outputs more)

pub still_told : (old new : Option Files) (P : Files → Files → Type 0) → IfTold old new P → IsSome old → IsSome new
still_told (Some x) (Some y) P h is = refl
still_told None None P h is = is
still_told None (Some y) P h is = refl
still_told (Some x) None P h is = absurd h

-- ---- what the shelf can hold

pub holds_first : (outputs more : List Output) (can_hold : List ℕ → ℕ → Type 0) → CanHold can_hold (outputs ++ more) → CanHold can_hold outputs
holds_first [] more can_hold h = tt
holds_first (first ∷ outputs) more can_hold h = (h.0, holds_first outputs more can_hold h.1)

pub holds_more : (outputs more : List Output) (can_hold : List ℕ → ℕ → Type 0) → CanHold can_hold (outputs ++ more) → CanHold can_hold more
holds_more [] more can_hold h = h
holds_more (first ∷ outputs) more can_hold h = holds_more outputs more can_hold h.1
