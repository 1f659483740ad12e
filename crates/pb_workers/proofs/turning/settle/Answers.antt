use Rattle.std.proofs.Common.{false, sym, subst, inl, inr}
use Rattle.pb_model.proofs.Callers.{by_cases}
use Rattle.pb_lease.specs.LeaseValue.{LeaseValue}
use Rattle.pb_yard.specs.Order.{HasCause}
use Rattle.pb_workers.proofs.turning.settle.Goals as goal

pub switch-requires-clause-stopped : goal.switch-requires-clause-stopped
switch-requires-clause-stopped g c = by_cases c.args.is_spent (λ e. inl (c.requires.spent e)) (λ e. inr (c.requires.empty e))

pub give_back-requires-clause-cause : goal.give_back-requires-clause-cause
give_back-requires-clause-cause g c = subst (λ (l : LeaseValue). HasCause l false) (sym c.in-Busy.ensures.busy) (c.requires.empty c.if-is_spent.false)
