use Rattle.std.proofs.Common.{◌≡◌, ℕ, true, subst, sym}
use Rattle.pb_task.specs.Strips.{action_at, has_atom}
use Rattle.pb_estimate.proofs.Standing.{past_stands}
use Rattle.pb_estimate.proofs.merging.merge.Goals as goal

pub returns-then-is_subset-clause-stand : goal.returns-then-is_subset-clause-stand
returns-then-is_subset-clause-stand c = λ before stand.
    past_stands c.args.count before c.args.merging.now.actions.items stand (action_at c.args.actions.now c.args.at) (λ atom less has.
    subst (λ (s : ℕ). has_atom s atom ≡ true) c.needs-needs.ensures
    (c.is_subset.ensures c.if-is_subset.true atom less (subst (λ (s : ℕ). has_atom s atom ≡ true) (sym c.adds-adds.ensures) has)))
