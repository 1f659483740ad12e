use Rattle.std.proofs.Common.{true, not, subst, arith}
use Rattle.pb_task.specs.Parts.{space_of}
use Rattle.pb_lease.specs.Leased.{guide_of}
use Rattle.pb_expand.specs.Watching.{IsAtWatch, HasTurnedWatched}
use Rattle.pb_expand.proofs.Known.{own_there}
use Rattle.pb_expand.proofs.Watched.{none_watched, at_watch_still, then_still}
use Rattle.pb_expand.proofs.watching.settle.Goals as goal

pub loop-row-init : goal.loop-row-init
loop-row-init g c = record {
  can = c.requires.can;
  stays = g.W.Watch.stays_none c.args.watch.now;
  turned = λ abstraction choice at. none_watched (space_of c.args.task.now) (guide_of c.args.task.now abstraction choice) c.args.lease.now (g.W.Watch.seen c.args.watch.now) at.watched;
}

pub next_row-requires-clause-own : goal.next_row-requires-clause-own
next_row-requires-clause-own g c =
    let here : IsAtWatch c.args.task.now c.requires.at.0 c.requires.at.1 (g.W.Watch.seen c.loop-row.watch) c.loop-row.lease = at_watch_still c.args.task.now c.requires.at.0 c.requires.at.1 c.args.lease.now c.loop-row.lease (g.W.Watch.seen c.args.watch.now) (g.W.Watch.seen c.loop-row.watch) (c.loop-row.invariant.turned c.requires.at.0 c.requires.at.1 c.requires.at.2) c.requires.at.2 in
    own_there c.args.task.now c.requires.at.0 c.requires.at.1 c.loop-row.lease here.at_work

pub next_row-requires-clause-weights : goal.next_row-requires-clause-weights
next_row-requires-clause-weights g c =
    let here : IsAtWatch c.args.task.now c.requires.at.0 c.requires.at.1 (g.W.Watch.seen c.loop-row.watch) c.loop-row.lease = at_watch_still c.args.task.now c.requires.at.0 c.requires.at.1 c.args.lease.now c.loop-row.lease (g.W.Watch.seen c.args.watch.now) (g.W.Watch.seen c.loop-row.watch) (c.loop-row.invariant.turned c.requires.at.0 c.requires.at.1 c.requires.at.2) c.requires.at.2 in
    here.at_work.scope.weights

pub settle_row-requires-clause-at : goal.settle_row-requires-clause-at
settle_row-requires-clause-at g c = (
  c.requires.at.0,
  c.requires.at.1,
  at_watch_still c.args.task.now c.requires.at.0 c.requires.at.1 c.args.lease.now c.next_row.new.lease (g.W.Watch.seen c.args.watch.now) (g.W.Watch.seen c.next_row.new.watch)
      (then_still c.args.task.now c.requires.at.0 c.requires.at.1 c.args.lease.now (g.W.Watch.seen c.args.watch.now) c.loop-row.lease (g.W.Watch.seen c.loop-row.watch) c.next_row.new.lease (g.W.Watch.seen c.next_row.new.watch) c.requires.at.2 (c.loop-row.invariant.turned c.requires.at.0 c.requires.at.1 c.requires.at.2) (λ here. c.next_row.ensures.turned (space_of c.args.task.now) (guide_of c.args.task.now c.requires.at.0 c.requires.at.1) here.watched)) c.requires.at.2,
)

pub returns-then-not-settle_row-clause-turned : goal.returns-then-not-settle_row-clause-turned
returns-then-not-settle_row-clause-turned g c = λ abstraction choice at.
    then_still c.args.task.now abstraction choice c.args.lease.now (g.W.Watch.seen c.args.watch.now) c.next_row.new.lease (g.W.Watch.seen c.next_row.new.watch) c.settle_row.new.lease (g.W.Watch.seen c.settle_row.new.watch) at
    (then_still c.args.task.now abstraction choice c.args.lease.now (g.W.Watch.seen c.args.watch.now) c.loop-row.lease (g.W.Watch.seen c.loop-row.watch) c.next_row.new.lease (g.W.Watch.seen c.next_row.new.watch) at (c.loop-row.invariant.turned abstraction choice at) (λ here. c.next_row.ensures.turned (space_of c.args.task.now) (guide_of c.args.task.now abstraction choice) here.watched))
    (λ here. subst (λ settled. HasTurnedWatched (space_of c.args.task.now) (guide_of c.args.task.now abstraction choice) 0 0 true (not settled) c.next_row.new.lease (g.W.Watch.seen c.next_row.new.watch) c.settle_row.new.lease (g.W.Watch.seen c.settle_row.new.watch)) c.if-not-settle_row.true (c.settle_row.ensures.turned abstraction choice here))

pub returns-then-not-settle_row-clause-same : goal.returns-then-not-settle_row-clause-same
returns-then-not-settle_row-clause-same g c = HasTurnedWatched.same
    (then_still c.args.task.now c.requires.at.0 c.requires.at.1 c.args.lease.now (g.W.Watch.seen c.args.watch.now) c.next_row.new.lease (g.W.Watch.seen c.next_row.new.watch) c.settle_row.new.lease (g.W.Watch.seen c.settle_row.new.watch) c.requires.at.2
    (then_still c.args.task.now c.requires.at.0 c.requires.at.1 c.args.lease.now (g.W.Watch.seen c.args.watch.now) c.loop-row.lease (g.W.Watch.seen c.loop-row.watch) c.next_row.new.lease (g.W.Watch.seen c.next_row.new.watch) c.requires.at.2 (c.loop-row.invariant.turned c.requires.at.0 c.requires.at.1 c.requires.at.2) (λ here. c.next_row.ensures.turned (space_of c.args.task.now) (guide_of c.args.task.now c.requires.at.0 c.requires.at.1) here.watched))
    (λ here. c.settle_row.ensures.turned c.requires.at.0 c.requires.at.1 here))

pub returns-then-not-settle_row-clause-used : goal.returns-then-not-settle_row-clause-used
returns-then-not-settle_row-clause-used g c = let used = HasTurnedWatched.used
    (then_still c.args.task.now c.requires.at.0 c.requires.at.1 c.args.lease.now (g.W.Watch.seen c.args.watch.now) c.next_row.new.lease (g.W.Watch.seen c.next_row.new.watch) c.settle_row.new.lease (g.W.Watch.seen c.settle_row.new.watch) c.requires.at.2
    (then_still c.args.task.now c.requires.at.0 c.requires.at.1 c.args.lease.now (g.W.Watch.seen c.args.watch.now) c.loop-row.lease (g.W.Watch.seen c.loop-row.watch) c.next_row.new.lease (g.W.Watch.seen c.next_row.new.watch) c.requires.at.2 (c.loop-row.invariant.turned c.requires.at.0 c.requires.at.1 c.requires.at.2) (λ here. c.next_row.ensures.turned (space_of c.args.task.now) (guide_of c.args.task.now c.requires.at.0 c.requires.at.1) here.watched))
    (λ here. c.settle_row.ensures.turned c.requires.at.0 c.requires.at.1 here)) in omega (arith, used)

pub loop-row-preserved : goal.loop-row-preserved
loop-row-preserved g c = record {
  can = c.settle_row.ensures.can;
  stays = g.W.Watch.stays_on c.args.watch.now c.next_row.new.watch c.settle_row.new.watch (g.W.Watch.stays_on c.args.watch.now c.loop-row.watch c.next_row.new.watch c.loop-row.invariant.stays c.next_row.ensures.stays) c.settle_row.ensures.stays;
  turned = λ abstraction choice at.
      then_still c.args.task.now abstraction choice c.args.lease.now (g.W.Watch.seen c.args.watch.now) c.next_row.new.lease (g.W.Watch.seen c.next_row.new.watch) c.settle_row.new.lease (g.W.Watch.seen c.settle_row.new.watch) at
      (then_still c.args.task.now abstraction choice c.args.lease.now (g.W.Watch.seen c.args.watch.now) c.loop-row.lease (g.W.Watch.seen c.loop-row.watch) c.next_row.new.lease (g.W.Watch.seen c.next_row.new.watch) at (c.loop-row.invariant.turned abstraction choice at) (λ here. c.next_row.ensures.turned (space_of c.args.task.now) (guide_of c.args.task.now abstraction choice) here.watched))
      (λ here. subst (λ settled. HasTurnedWatched (space_of c.args.task.now) (guide_of c.args.task.now abstraction choice) 0 0 true (not settled) c.next_row.new.lease (g.W.Watch.seen c.next_row.new.watch) c.settle_row.new.lease (g.W.Watch.seen c.settle_row.new.watch)) c.if-not-settle_row.false (c.settle_row.ensures.turned abstraction choice here));
}

pub returns-clause-turned : goal.returns-clause-turned
returns-clause-turned g c = λ abstraction choice at. then_still c.args.task.now abstraction choice c.args.lease.now (g.W.Watch.seen c.args.watch.now) c.loop-row.lease (g.W.Watch.seen c.loop-row.watch) c.next_row.new.lease (g.W.Watch.seen c.next_row.new.watch) at (c.loop-row.invariant.turned abstraction choice at) (λ here. c.next_row.ensures.turned (space_of c.args.task.now) (guide_of c.args.task.now abstraction choice) here.watched)

pub returns-clause-same : goal.returns-clause-same
returns-clause-same g c = HasTurnedWatched.same (then_still c.args.task.now c.requires.at.0 c.requires.at.1 c.args.lease.now (g.W.Watch.seen c.args.watch.now) c.loop-row.lease (g.W.Watch.seen c.loop-row.watch) c.next_row.new.lease (g.W.Watch.seen c.next_row.new.watch) c.requires.at.2 (c.loop-row.invariant.turned c.requires.at.0 c.requires.at.1 c.requires.at.2) (λ here. c.next_row.ensures.turned (space_of c.args.task.now) (guide_of c.args.task.now c.requires.at.0 c.requires.at.1) here.watched))

pub returns-clause-used : goal.returns-clause-used
returns-clause-used g c = let used = HasTurnedWatched.used (then_still c.args.task.now c.requires.at.0 c.requires.at.1 c.args.lease.now (g.W.Watch.seen c.args.watch.now) c.loop-row.lease (g.W.Watch.seen c.loop-row.watch) c.next_row.new.lease (g.W.Watch.seen c.next_row.new.watch) c.requires.at.2 (c.loop-row.invariant.turned c.requires.at.0 c.requires.at.1 c.requires.at.2) (λ here. c.next_row.ensures.turned (space_of c.args.task.now) (guide_of c.args.task.now c.requires.at.0 c.requires.at.1) here.watched)) in omega (arith, used)

pub returns-then-not-settle_row-clause-stays : goal.returns-then-not-settle_row-clause-stays
returns-then-not-settle_row-clause-stays g c = g.W.Watch.stays_on c.args.watch.now c.next_row.new.watch c.settle_row.new.watch (g.W.Watch.stays_on c.args.watch.now c.loop-row.watch c.next_row.new.watch c.loop-row.invariant.stays c.next_row.ensures.stays) c.settle_row.ensures.stays

pub returns-clause-stays : goal.returns-clause-stays
returns-clause-stays g c = g.W.Watch.stays_on c.args.watch.now c.loop-row.watch c.next_row.new.watch c.loop-row.invariant.stays c.next_row.ensures.stays

pub returns-then-not-settle_row-clause-copy : goal.returns-then-not-settle_row-clause-copy
returns-then-not-settle_row-clause-copy g c =
    let here : IsAtWatch c.args.task.now c.requires.at.0 c.requires.at.1 (g.W.Watch.seen c.loop-row.watch) c.loop-row.lease = at_watch_still c.args.task.now c.requires.at.0 c.requires.at.1 c.args.lease.now c.loop-row.lease (g.W.Watch.seen c.args.watch.now) (g.W.Watch.seen c.loop-row.watch) (c.loop-row.invariant.turned c.requires.at.0 c.requires.at.1 c.requires.at.2) c.requires.at.2 in
    let there : IsAtWatch c.args.task.now c.requires.at.0 c.requires.at.1 (g.W.Watch.seen c.next_row.new.watch) c.next_row.new.lease =
    at_watch_still c.args.task.now c.requires.at.0 c.requires.at.1 c.args.lease.now c.next_row.new.lease (g.W.Watch.seen c.args.watch.now) (g.W.Watch.seen c.next_row.new.watch) (then_still c.args.task.now c.requires.at.0 c.requires.at.1 c.args.lease.now (g.W.Watch.seen c.args.watch.now) c.loop-row.lease (g.W.Watch.seen c.loop-row.watch) c.next_row.new.lease (g.W.Watch.seen c.next_row.new.watch) c.requires.at.2 (c.loop-row.invariant.turned c.requires.at.0 c.requires.at.1 c.requires.at.2) (λ at. c.next_row.ensures.turned (space_of c.args.task.now) (guide_of c.args.task.now c.requires.at.0 c.requires.at.1) at.watched)) c.requires.at.2 in
    HasTurnedWatched.level (c.settle_row.ensures.turned c.requires.at.0 c.requires.at.1 there) (c.next_row.ensures.copy (space_of c.args.task.now) (guide_of c.args.task.now c.requires.at.0 c.requires.at.1) here.watched)

pub returns-clause-copy : goal.returns-clause-copy
returns-clause-copy g c =
    let here : IsAtWatch c.args.task.now c.requires.at.0 c.requires.at.1 (g.W.Watch.seen c.loop-row.watch) c.loop-row.lease = at_watch_still c.args.task.now c.requires.at.0 c.requires.at.1 c.args.lease.now c.loop-row.lease (g.W.Watch.seen c.args.watch.now) (g.W.Watch.seen c.loop-row.watch) (c.loop-row.invariant.turned c.requires.at.0 c.requires.at.1 c.requires.at.2) c.requires.at.2 in
    c.next_row.ensures.copy (space_of c.args.task.now) (guide_of c.args.task.now c.requires.at.0 c.requires.at.1) here.watched
