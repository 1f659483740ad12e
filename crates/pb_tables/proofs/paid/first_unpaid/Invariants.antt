use Rattle.pb_tables.proofs.Paying.{IsLeastUnpaid}
use Rattle.pb_tables.proofs.paid.first_unpaid.Given as goal

abbrev pub invariant-loop-action : goal.invariant-loop-action
invariant-loop-action l = IsLeastUnpaid l.strips l.sums l.tables l.action l.least l.by
