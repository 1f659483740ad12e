-- Facts by numbers, as the layers below have them: as a predicate with objects, and as a ground atom.
use Rattle.std.proofs.Common.{◌≡◌, ℕ, true, ◌||◌, List, [], ◌∷◌, refl, ap}
use Rattle.std.specs.List.{list_all}
use Rattle.std.proofs.lemmas.Bool.{and_parts, and_from}
use Rattle.pb_lifted.specs.declared.lifted.LiftedAtom.{LiftedAtom}
use Rattle.pb_lifted.specs.Steps.{GroundFact, is_ground_in, same_ground, ground, ground_all, AllGroundHold}
use Rattle.pb_ground.specs.declared.atoms.GroundAtom.{GroundAtom}
use Rattle.pb_ground.specs.Atoms.{atom_of, grounded}
use Rattle.pb_ground.specs.Steps.{Facts, all_grounded, is_in}

abbrev pub to_atom : GroundFact → GroundAtom
to_atom f = atom_of f.predicate f.objects

pub same_member : (f : GroundFact) (given : List ℕ) (list : List LiftedAtom) → is_ground_in f (ground_all given list) ≡ is_in (to_atom f) (all_grounded given list)
same_member f given [] = refl
same_member f given (a ∷ list) = ap (λ b. same_ground f (ground given a) || b) (same_member f given list)

-- ---- facts that hold

pub to_all : (facts : Facts) (given : List ℕ) (list : List LiftedAtom) → list_all facts (all_grounded given list) ≡ true → AllGroundHold (λ f. facts (to_atom f)) (ground_all given list)
to_all facts given [] all = tt
to_all facts given (a ∷ list) all =
    let both = and_parts (facts (grounded given a)) (list_all facts (all_grounded given list)) all in (both.0, to_all facts given list both.1)

pub from_all : (facts : Facts) (given : List ℕ) (list : List LiftedAtom) → AllGroundHold (λ f. facts (to_atom f)) (ground_all given list) → list_all facts (all_grounded given list) ≡ true
from_all facts given [] all = refl
from_all facts given (a ∷ list) all = and_from (facts (grounded given a)) (list_all facts (all_grounded given list)) all.0 (from_all facts given list all.1)
