-- Bundles that adopt what was prepared for them.
use Rattle.std.proofs.Common.{◌≡◌, ℕ, zero, suc, ◌<◌, List, [], ◌∷◌, ◌++◌, Option, Some, None, length, get_or, set, refl, ap, ◌∙◌, arith}
use Rattle.pb_model.specs.Weight.{Weight}
use Rattle.pb_model.specs.Work.{reopened_row}
use Rattle.pb_lists.specs.Bundle.{Content}
use Rattle.pb_lists.specs.Reopened.{weight_in, bound_in, reopened}
use Rattle.pb_lists.proofs.Callers.{reopened_found}
use Rattle.pb_lists.specs.declared.reopening.OpenedSet.{OpenedSet}
use Rattle.pb_bundles.specs.Parts.{rows_in}
use Rattle.pb_bundles.specs.Reopened.{IsReady, AreReady, adopted, reopened_if}

module _ (weight : Weight) (bound : ℕ) where
  -- one more set is ready
  pub ready_push : (bundles : List (Option Content)) (sets : List OpenedSet) (last : OpenedSet) → AreReady weight bound bundles sets → length sets < length bundles
      → IsReady weight bound (get_or bundles (length sets) None) last → AreReady weight bound bundles (sets ++ last ∷ [])
  ready_push [] [] last ready within one = absurd (omega arith)
  ready_push (found ∷ bundles) [] last ready within one = (one, tt)
  ready_push [] (other ∷ sets) last ready within one = absurd (omega arith)
  ready_push (found ∷ bundles) (other ∷ sets) last ready within one = (ready.0, ready_push bundles sets last ready.1 (omega (arith, within)) one)

  -- the last set is that of the last bundle so far
  pub last_within : (bundles : List (Option Content)) (front : List OpenedSet) (last : OpenedSet) → AreReady weight bound bundles (front ++ last ∷ []) → length front < length bundles
  last_within [] [] last ready = absurd ready
  last_within (found ∷ bundles) [] last ready = omega arith
  last_within [] (other ∷ front) last ready = absurd ready
  last_within (found ∷ bundles) (other ∷ front) last ready = let less = last_within bundles front last ready.1 in omega (arith, less)

  pub last_ready : (bundles : List (Option Content)) (front : List OpenedSet) (last : OpenedSet) → AreReady weight bound bundles (front ++ last ∷ []) → IsReady weight bound (get_or bundles (length front) None) last
  last_ready [] [] last ready = absurd ready
  last_ready (found ∷ bundles) [] last ready = ready.0
  last_ready [] (other ∷ front) last ready = absurd ready
  last_ready (found ∷ bundles) (other ∷ front) last ready = last_ready bundles front last ready.1

  -- the others are ready still when the last bundle has changed
  pub front_ready : (bundles : List (Option Content)) (front : List OpenedSet) (last : OpenedSet) (new : Option Content) → AreReady weight bound bundles (front ++ last ∷ []) → AreReady weight bound (set bundles (length front) new) front
  front_ready bundles [] last new ready = tt
  front_ready [] (other ∷ front) last new ready = absurd ready
  front_ready (found ∷ bundles) (other ∷ front) last new ready = (ready.0, front_ready bundles front last new ready.1)

  -- what each bundle has then
  pub adopted_at : (bundles : List (Option Content)) (sets : List OpenedSet) (block : ℕ) → AreReady weight bound bundles sets → length sets ≡ length bundles
      → get_or (adopted bundles sets) block None ≡ reopened_if weight bound (get_or bundles block None)
  adopted_at [] [] block ready same = refl
  adopted_at (found ∷ bundles) [] block ready same = absurd (omega (arith, same))
  adopted_at [] (other ∷ sets) block ready same = absurd ready
  adopted_at (None ∷ bundles) (other ∷ sets) block ready same = absurd ready.0
  adopted_at (Some content ∷ bundles) (other ∷ sets) zero ready same = ap (λ w. Some (reopened w (bound_in other) content)) ready.0.weight_is ∙ ap (λ b. Some (reopened weight b content)) ready.0.bound_is
  adopted_at (Some content ∷ bundles) (other ∷ sets) (suc block) ready same = adopted_at bundles sets block ready.1 (let less = same in omega (arith, less))

pub adopted_length : (bundles : List (Option Content)) (sets : List OpenedSet) → length (adopted bundles sets) ≡ length bundles
adopted_length bundles [] = refl
adopted_length [] (other ∷ sets) = refl
adopted_length (found ∷ bundles) (other ∷ sets) = ap suc (adopted_length bundles sets)

-- the last bundle adopts its set, and then the others theirs
pub adopted_last : (bundles : List (Option Content)) (front : List OpenedSet) (last : OpenedSet)
    → adopted (set bundles (length front) (reopened_if (weight_in last) (bound_in last) (get_or bundles (length front) None))) front ≡ adopted bundles (front ++ last ∷ [])
adopted_last [] [] last = refl
adopted_last (found ∷ bundles) [] last = refl
adopted_last [] (other ∷ front) last = refl
adopted_last (found ∷ bundles) (other ∷ front) last = ap (λ rest. reopened_if (weight_in other) (bound_in other) found ∷ rest) (adopted_last bundles front last)

-- the rows of a bundle after it is opened again
pub rows_again : (weight : Weight) (bound : ℕ) (found : Option Content) (state : ℕ) → rows_in (reopened_if weight bound found) state ≡ reopened_row weight (Some bound) (rows_in found state)
rows_again weight bound None state = refl
rows_again weight bound (Some content) state = reopened_found weight bound content.entries state
