-- The first refusal, cause by cause.
use Rattle.std.proofs.Common.{◌≡◌, ◌<◌, ◌+◌, ℕ, Option, Some, None, List, length, drop, get_or, sym, ap, ◌∙◌}
use Rattle.std.proofs.lemmas.List.{get_or_default}
use Rattle.pb_pddl.specs.declared.tree.Domain.{Domain}
use Rattle.pb_pddl.specs.declared.tree.Problem.{Problem}
use Rattle.pb_lifted.specs.declared.refusal.Cause.{Cause}
use Rattle.pb_lifted.specs.declared.refusal.Place.{Place}
use Rattle.pb_lifted.specs.declared.refusal.TypingRefusal.{TypingRefusal}
use Rattle.pb_lifted.specs.declared.refusal.TypingRefusal.TheVariants.{Named}
use Rattle.pb_lifted.specs.Refusals.{or_refusal, first_place, first_among}
use Rattle.pb_lifted.proofs.Earliest.{dropped}

one_on : (order : List Cause) (i : ℕ) (d : Cause) (domain : Domain) (problem : Problem) → i < length order
    → first_among (drop i order) domain problem ≡ or_refusal (get_or order i d) (first_place (get_or order i d) domain problem) (first_among (drop (i + 1) order) domain problem)
one_on order i d domain problem less =
    ap (λ (causes : List Cause). first_among causes domain problem) (dropped order (get_or order i d) i less (get_or_default order i d (get_or order i d) less))

-- a cause that has a place is the first, where none before it has
pub told : (order : List Cause) (i : ℕ) (d : Cause) (domain : Domain) (problem : Problem) (place : Place) (all : Option TypingRefusal) → i < length order
    → first_place (get_or order i d) domain problem ≡ Some place → first_among (drop i order) domain problem ≡ all → Some (Named (get_or order i d) place) ≡ all
told order i d domain problem place all less found so_far =
    sym (one_on order i d domain problem less ∙ ap (λ p. or_refusal (get_or order i d) p (first_among (drop (i + 1) order) domain problem)) found) ∙ so_far

-- one that has none leaves it to those behind it
pub passed : (order : List Cause) (i : ℕ) (d : Cause) (domain : Domain) (problem : Problem) (all : Option TypingRefusal) → i < length order
    → first_place (get_or order i d) domain problem ≡ None → first_among (drop i order) domain problem ≡ all → first_among (drop (i + 1) order) domain problem ≡ all
passed order i d domain problem all less none so_far =
    sym (one_on order i d domain problem less ∙ ap (λ p. or_refusal (get_or order i d) p (first_among (drop (i + 1) order) domain problem)) none) ∙ so_far
