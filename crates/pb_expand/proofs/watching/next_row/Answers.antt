use Rattle.std.proofs.Common.{IsSome, sym, ap, subst}
use Rattle.pb_bundles.specs.Parts.{content_in}
use Rattle.pb_lease.specs.LeaseValue.{LeaseValue, HasWeights}
use Rattle.pb_lease.specs.Rows.{own_opened}
use Rattle.pb_expand.proofs.Watched.{read_taken, taken_copy, taken_answers}
use Rattle.pb_expand.proofs.watching.next_row.Goals as goal

pub first-requires-clause-own : goal.first-requires-clause-own
first-requires-clause-own g c = subst (λ (lease : LeaseValue). IsSome (content_in lease.parts lease.block)) (sym c.take_read.ensures) c.requires.own

pub first-requires-clause-weights : goal.first-requires-clause-weights
first-requires-clause-weights g c = subst HasWeights (sym c.take_read.ensures) c.requires.weights

pub returns-clause-turned : goal.returns-clause-turned
returns-clause-turned g c = λ space guide watched.
    read_taken space guide c.args.lease.now (g.W.Watch.seen c.args.watch.now) c.read-found.result c.take_read.new.lease (g.W.Watch.seen c.read-found.new.self) c.read-found.ensures.read c.take_read.ensures watched

pub returns-clause-opened : goal.returns-clause-opened
returns-clause-opened g c = ap own_opened c.take_read.ensures

pub returns-clause-copy : goal.returns-clause-copy
returns-clause-copy g c = λ space guide watched.
    taken_copy space guide c.args.lease.now (g.W.Watch.seen c.args.watch.now) c.read-found.result c.take_read.new.lease (g.W.Watch.seen c.read-found.new.self) c.read-found.ensures.read c.take_read.ensures watched

pub returns-clause-one : goal.returns-clause-one
returns-clause-one g c = λ space guide watched.
    taken_answers space guide c.args.lease.now (g.W.Watch.seen c.args.watch.now) c.read-found.result c.take_read.new.lease (g.W.Watch.seen c.read-found.new.self) c.read-found.ensures.read c.take_read.ensures watched
