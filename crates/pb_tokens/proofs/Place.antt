-- A text in lower case, and the bytes that stand in the text at a place.
use Rattle.std.proofs.Common.{◌≡◌, ℕ, ◌+◌, ◌<◌, ◌≤◌, List, length, take, drop, map, sym, ap, ◌∙◌, arith}
use Rattle.std.proofs.lemmas.List.{length-drop, length-map, length-take-le, take-map, drop-map}
use Rattle.pb_pddl.specs.Tokens.{lower}
use Rattle.pb_pddl.proofs.Callers.{drop_drop}

place_behind : (at n : ℕ) (source rest : List ℕ) → drop at source ≡ map lower rest → drop (at + n) source ≡ map lower (drop n rest)
place_behind at n source rest place = sym (drop_drop at n source) ∙ ap (drop n) place ∙ drop-map lower n rest

-- the same of the place and the bytes that a loop has at hand
pub place_next : (at next n : ℕ) (source rest after : List ℕ) → next ≡ at + n → after ≡ drop n rest → drop at source ≡ map lower rest → drop next source ≡ map lower after
place_next at next n source rest after next_is after_is place = rw (next_is, after_is) (place_behind at n source rest place)

module _ (at len : ℕ) (source text : List ℕ) (place : drop at source ≡ map lower text) where
  pub slice_is : take len (drop at source) ≡ map lower (take len text)
  slice_is = ap (take len) place ∙ take-map lower len text

  pub slice_len : len ≤ length text → length (take len (drop at source)) ≡ len
  slice_len le = ap length slice_is ∙ length-map (take len text) lower ∙ length-take-le len text le

  pub slice_within : len ≤ length text → 0 < length text → at + len ≤ length source
  slice_within le some = omega (arith, le, some, length-drop at source, ap length place, length-map text lower)
