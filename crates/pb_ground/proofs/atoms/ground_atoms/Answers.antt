use Rattle.std.proofs.Common.{◌≡◌, ◌≤◌, ◌++◌, ℕ, List, length, drop, sym, subst, ap, ◌∙◌, arith}
use Rattle.std.proofs.lemmas.List.{append-nil, drop_all}
use Rattle.pb_ground.specs.declared.atoms.GroundAtom.{GroundAtom}
use Rattle.pb_ground.specs.Atoms.{atoms_from, ground_atoms}
use Rattle.pb_ground.specs.Order.{AreRising}
use Rattle.pb_ground.proofs.Rising.{atoms_rise}
use Rattle.pb_ground.proofs.atoms.ground_atoms.Goals as goal

pub invariant_of-result : goal.invariant_of-result
invariant_of-result c =
    let lifted = c.args.lifted.now in
    let past : length lifted.predicates ≤ c.loop-predicate.predicate =
    omega (arith, c.loop-predicate-test.false, ap (λ (list : List (List ℕ)). length list) c.as_slice-kinds-items.ensures) in
    let all : c.loop-predicate.items ≡ ground_atoms lifted =
    sym (append-nil c.loop-predicate.items)
    ∙ ap (λ (rest : List (List ℕ)). c.loop-predicate.items ++ atoms_from lifted c.loop-predicate.predicate rest) (sym (drop_all c.loop-predicate.predicate lifted.predicates past))
    ∙ c.loop-predicate.invariant in
    subst AreRising (sym all) (atoms_rise lifted)
