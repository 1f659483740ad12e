use Rattle.std.proofs.Common.{◌≡◌, ◌<◌, ◌+◌, ℕ, true, length, subst, sym, ap, arith, ◌∙◌}
use Rattle.pb_task.specs.Strips.{action_at, has_atom}
use Rattle.pb_estimate.specs.Indexed.{AreListed}
use Rattle.pb_estimate.proofs.Indexing.{listed_more}
use Rattle.pb_estimate.proofs.action_index.lists_of.Goals as goal

pub loop-action-preserved : goal.loop-action-preserved
loop-action-preserved c =
    let less : c.loop-action.action < length c.args.strips.now.actions = omega (arith, c.loop-action-test.true, c.len-action-end.ensures) in
    let needed : c.rarest-atom.result < c.args.strips.now.atoms → has_atom (action_at c.args.strips.now.actions c.loop-action.action).needs c.rarest-atom.result ≡ true =
    λ below. ap (λ (s : ℕ). has_atom s c.rarest-atom.result) (sym c.needs.ensures) ∙ c.rarest-atom.ensures.has below in
    subst (AreListed c.args.strips.now (c.loop-action.action + 1)) (sym c.in_ok-push_one.ensures)
    (listed_more c.args.strips.now c.loop-action.action c.rarest-atom.result c.loop-action.lists c.loop-action.invariant less c.rarest-atom.ensures.most needed)
