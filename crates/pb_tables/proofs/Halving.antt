-- What halving finds in a list that rises is the first place of the image.
use Rattle.std.proofs.Common.{◌≡◌, ℕ, zero, suc, ◌+◌, ◌-◌, ◌<◌, ◌==◌, List, length, slice_index, Option, None, Some, inl, inr, sym, subst, arith}
use Rattle.std.proofs.lemmas.Bool.{cases_eq, eq-eqb, ne_eqb}
use Rattle.pb_tables.specs.Below.{some_if}
use Rattle.pb_tables.specs.Images.{place_in}
use Rattle.pb_tables.specs.Order.{AreRising}
use Rattle.pb_tables.specs.Flat.{AreAscending, IsPlaceOf}
use Rattle.pb_tables.proofs.Searches.{none_first, none_if, found_first, is_if}

pub rises : (listed : List ℕ) → AreRising listed → (low more : ℕ) → low + suc more < length listed → slice_index listed low < slice_index listed (low + suc more)
rises listed rising low zero less =
    let next : low + 1 ≡ suc low = omega arith in
    subst (λ k. slice_index listed low < slice_index listed k) (sym next) (rising low (omega (arith, less)))
rises listed rising low (suc more) less =
    let before : slice_index listed low < slice_index listed (low + suc more) = rises listed rising low more (omega (arith, less)) in
    let next : suc (low + suc more) ≡ low + suc (suc more) = omega arith in
    let here : slice_index listed (low + suc more) < slice_index listed (suc (low + suc more)) = rising (low + suc more) (omega (arith, less)) in
    subst (λ k. slice_index listed low < slice_index listed k) next (omega (arith, before, here))

pub rises_to : (listed : List ℕ) → AreRising listed → (low high : ℕ) → low < high → high < length listed → slice_index listed low < slice_index listed high
rises_to listed rising low high less inside =
    let there : (more : ℕ) × (low + suc more ≡ high) = between low high less in
    subst (λ k. slice_index listed low < slice_index listed k) there.1 (rises listed rising low there.0 (omega (arith, there.1, inside))) where
      between : (low high : ℕ) → low < high → (more : ℕ) × (low + suc more ≡ high)
      between low zero less = absurd (omega (arith, less))
      between low (suc high) less = elim (cases_eq low high) [
        | inl same ↦ (0, omega (arith, same))
        | inr apart ↦ (high - low, omega (arith, apart, less))
      ]

module _ (listed : List ℕ) (image : ℕ) (rising : AreRising listed) where
  pub found : (place : ℕ) → place < length listed → slice_index listed place ≡ image → place_in listed image ≡ Some place
  found place inside there =
      found_first (length listed) (λ p. some_if (slice_index listed p == image) p) place place inside
      (none_first place (λ p. some_if (slice_index listed p == image) p) (λ p less.
      let below : slice_index listed p < slice_index listed place = rises_to listed rising p place less inside in
      none_if (slice_index listed p == image) p (ne_eqb (slice_index listed p) image (λ same. omega (arith, same, below, there)))))
      (is_if (slice_index listed place == image) place (eq-eqb (slice_index listed place) image there))

  -- what is the place of the image, if it has one, is the first such place
  pub place_found : (place : Option ℕ) → IsPlaceOf place listed image → place ≡ place_in listed image
  place_found (Some place) is = sym (found place is.0.0 is.0.1)
  place_found None is =
      sym (none_first (length listed) (λ p. some_if (slice_index listed p == image) p) (λ p inside. none_if (slice_index listed p == image) p (ne_eqb (slice_index listed p) image (is.1 p inside))))

pub ascends : (listed : List ℕ) → AreRising listed → AreAscending listed
ascends listed rising j k less inside = rises_to listed rising j k less inside
