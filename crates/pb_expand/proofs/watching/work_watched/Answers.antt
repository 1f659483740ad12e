use Rattle.std.proofs.Common.{◌-◌, true, false, refl, sym, ◌∙◌, subst, arith}
use Rattle.pb_task.specs.Parts.{space_of}
use Rattle.pb_estimate.specs.Tables.{IsOfTask}
use Rattle.pb_lease.specs.Leased.{guide_of}
use Rattle.pb_expand.specs.Watching.{IsAtWatch, HasTurnedWatched}
use Rattle.pb_expand.proofs.Known.{turned_once_by, at_work_by_own}
use Rattle.pb_expand.proofs.Watched.{level_on, none_watched, at_watch_on, at_watch_still, IsFarWatched, far_on, watched_then, expanded, as_read}
use Rattle.pb_expand.proofs.watching.work_watched.Goals as goal

pub loop-row-init : goal.loop-row-init
loop-row-init g c = record {
  at = record { search = c.requires.search; at_work = c.requires.at_work; watched = c.requires.watched; within = c.quota-quota.ensures.within };
  turned = subst (λ n. HasTurnedWatched (space_of c.args.task.now) (guide_of c.args.task.now c.args.abstraction.now c.args.lease.now.choice) n 0 false false c.args.lease.now (g.W.Watch.seen c.args.watch.now) c.args.lease.now (g.W.Watch.seen c.args.watch.now)) (omega arith) (none_watched (space_of c.args.task.now) (guide_of c.args.task.now c.args.abstraction.now c.args.lease.now.choice) c.args.lease.now (g.W.Watch.seen c.args.watch.now) c.requires.watched);
  counted = omega arith;
  can = c.requires.can;
  stays = g.W.Watch.stays_none c.args.watch.now;
  tables = c.requires.tables;
  room = omega arith;
}

pub settle-requires-clause-at : goal.settle-requires-clause-at
settle-requires-clause-at g c = (c.args.abstraction.now, c.args.lease.now.choice, c.loop-row.invariant.at)

pub returns-then-used-quota-clause-turned : goal.returns-then-used-quota-clause-turned
returns-then-used-quota-clause-turned g c =
    let far : IsFarWatched c.args.task.now c.args.abstraction.now c.args.lease.now.choice c.args.lease.now (g.W.Watch.seen c.args.watch.now) c.loop-row.lease (g.W.Watch.seen c.loop-row.watch) c.settle.new.lease (g.W.Watch.seen c.settle.new.watch) 0 true = far_on c.args.task.now c.args.abstraction.now c.args.lease.now.choice c.args.lease.now (g.W.Watch.seen c.args.watch.now) c.loop-row.lease (g.W.Watch.seen c.loop-row.watch) c.settle.new.lease (g.W.Watch.seen c.settle.new.watch) 0 0 c.loop-row.invariant.at c.loop-row.invariant.counted c.loop-row.invariant.turned (c.settle.ensures.turned c.args.abstraction.now c.args.lease.now.choice c.loop-row.invariant.at) in
    as_read (space_of c.args.task.now) (guide_of c.args.task.now c.args.abstraction.now c.args.lease.now.choice) (c.settle.new.lease.used - c.args.lease.now.used) 0 c.args.lease.now (g.W.Watch.seen c.args.watch.now) c.settle.new.lease (g.W.Watch.seen c.settle.new.watch) far.turned

pub returns-then-used-quota-clause-watched : goal.returns-then-used-quota-clause-watched
returns-then-used-quota-clause-watched g c =
    let far : IsFarWatched c.args.task.now c.args.abstraction.now c.args.lease.now.choice c.args.lease.now (g.W.Watch.seen c.args.watch.now) c.loop-row.lease (g.W.Watch.seen c.loop-row.watch) c.settle.new.lease (g.W.Watch.seen c.settle.new.watch) 0 true = far_on c.args.task.now c.args.abstraction.now c.args.lease.now.choice c.args.lease.now (g.W.Watch.seen c.args.watch.now) c.loop-row.lease (g.W.Watch.seen c.loop-row.watch) c.settle.new.lease (g.W.Watch.seen c.settle.new.watch) 0 0 c.loop-row.invariant.at c.loop-row.invariant.counted c.loop-row.invariant.turned (c.settle.ensures.turned c.args.abstraction.now c.args.lease.now.choice c.loop-row.invariant.at) in
    far.turned.watched

pub returns-then-used-quota-clause-kept : goal.returns-then-used-quota-clause-kept
returns-then-used-quota-clause-kept g c =
    let far : IsFarWatched c.args.task.now c.args.abstraction.now c.args.lease.now.choice c.args.lease.now (g.W.Watch.seen c.args.watch.now) c.loop-row.lease (g.W.Watch.seen c.loop-row.watch) c.settle.new.lease (g.W.Watch.seen c.settle.new.watch) 0 true = far_on c.args.task.now c.args.abstraction.now c.args.lease.now.choice c.args.lease.now (g.W.Watch.seen c.args.watch.now) c.loop-row.lease (g.W.Watch.seen c.loop-row.watch) c.settle.new.lease (g.W.Watch.seen c.settle.new.watch) 0 0 c.loop-row.invariant.at c.loop-row.invariant.counted c.loop-row.invariant.turned (c.settle.ensures.turned c.args.abstraction.now c.args.lease.now.choice c.loop-row.invariant.at) in
    far.turned.kept

pub returns-then-used-quota-clause-same : goal.returns-then-used-quota-clause-same
returns-then-used-quota-clause-same g c =
    let far : IsFarWatched c.args.task.now c.args.abstraction.now c.args.lease.now.choice c.args.lease.now (g.W.Watch.seen c.args.watch.now) c.loop-row.lease (g.W.Watch.seen c.loop-row.watch) c.settle.new.lease (g.W.Watch.seen c.settle.new.watch) 0 true = far_on c.args.task.now c.args.abstraction.now c.args.lease.now.choice c.args.lease.now (g.W.Watch.seen c.args.watch.now) c.loop-row.lease (g.W.Watch.seen c.loop-row.watch) c.settle.new.lease (g.W.Watch.seen c.settle.new.watch) 0 0 c.loop-row.invariant.at c.loop-row.invariant.counted c.loop-row.invariant.turned (c.settle.ensures.turned c.args.abstraction.now c.args.lease.now.choice c.loop-row.invariant.at) in
    far.turned.same

pub returns-then-used-quota-clause-scope : goal.returns-then-used-quota-clause-scope
returns-then-used-quota-clause-scope g c =
    let far : IsFarWatched c.args.task.now c.args.abstraction.now c.args.lease.now.choice c.args.lease.now (g.W.Watch.seen c.args.watch.now) c.loop-row.lease (g.W.Watch.seen c.loop-row.watch) c.settle.new.lease (g.W.Watch.seen c.settle.new.watch) 0 true = far_on c.args.task.now c.args.abstraction.now c.args.lease.now.choice c.args.lease.now (g.W.Watch.seen c.args.watch.now) c.loop-row.lease (g.W.Watch.seen c.loop-row.watch) c.settle.new.lease (g.W.Watch.seen c.settle.new.watch) 0 0 c.loop-row.invariant.at c.loop-row.invariant.counted c.loop-row.invariant.turned (c.settle.ensures.turned c.args.abstraction.now c.args.lease.now.choice c.loop-row.invariant.at) in
    far.scope

pub returns-then-used-quota-clause-counted : goal.returns-then-used-quota-clause-counted
returns-then-used-quota-clause-counted g c =
    let far : IsFarWatched c.args.task.now c.args.abstraction.now c.args.lease.now.choice c.args.lease.now (g.W.Watch.seen c.args.watch.now) c.loop-row.lease (g.W.Watch.seen c.loop-row.watch) c.settle.new.lease (g.W.Watch.seen c.settle.new.watch) 0 true = far_on c.args.task.now c.args.abstraction.now c.args.lease.now.choice c.args.lease.now (g.W.Watch.seen c.args.watch.now) c.loop-row.lease (g.W.Watch.seen c.loop-row.watch) c.settle.new.lease (g.W.Watch.seen c.settle.new.watch) 0 0 c.loop-row.invariant.at c.loop-row.invariant.counted c.loop-row.invariant.turned (c.settle.ensures.turned c.args.abstraction.now c.args.lease.now.choice c.loop-row.invariant.at) in
    far.counted

pub returns-then-used-quota-clause-empty : goal.returns-then-used-quota-clause-empty
returns-then-used-quota-clause-empty g c = (λ is has. cc, λ none. absurd (none (_, _, c.in-Some.ensures.next.1.first.found, c.in-Some.ensures.next.1.first.opened)))

pub returns-then-used-quota-clause-spent : goal.returns-then-used-quota-clause-spent
returns-then-used-quota-clause-spent g c = (
  λ _. (
    (_, _, c.in-Some.ensures.next.1.first.found, c.in-Some.ensures.next.1.first.opened),
    omega (arith, c.used.ensures.used, c.if-used-quota.true, c.quota-quota.ensures.quota, c.settle.ensures.same.quota, c.loop-row.invariant.turned.same.quota),
  ),
  λ _. refl,
)

pub expand-requires-clause-tables : goal.expand-requires-clause-tables
expand-requires-clause-tables g c = subst (IsOfTask c.loop-row.estimator c.args.task.now) (sym (c.settle.ensures.same.choice ∙ c.loop-row.invariant.turned.same.choice)) c.loop-row.invariant.tables

pub returns-in-Err-clause-tables : goal.returns-in-Err-clause-tables
returns-in-Err-clause-tables g c = subst (IsOfTask c.expand.new.estimator c.args.task.now) (c.settle.ensures.same.choice ∙ c.loop-row.invariant.turned.same.choice) c.expand.ensures.tables

pub expand-requires-clause-at_work : goal.expand-requires-clause-at_work
expand-requires-clause-at_work g c =
    at_work_by_own c.args.task.now c.args.abstraction.now c.args.lease.now.choice c.settle.new.lease
    (IsAtWatch.at_work (at_watch_still c.args.task.now c.args.abstraction.now c.args.lease.now.choice c.loop-row.lease c.settle.new.lease (g.W.Watch.seen c.loop-row.watch) (g.W.Watch.seen c.settle.new.watch) (c.settle.ensures.turned c.args.abstraction.now c.args.lease.now.choice c.loop-row.invariant.at) c.loop-row.invariant.at))

pub loop-row-preserved : goal.loop-row-preserved
loop-row-preserved g c =
    let far : IsFarWatched c.args.task.now c.args.abstraction.now c.args.lease.now.choice c.args.lease.now (g.W.Watch.seen c.args.watch.now) c.loop-row.lease (g.W.Watch.seen c.loop-row.watch) c.expand.new.lease (g.W.Watch.seen c.settle.new.watch) 0 false = far_on c.args.task.now c.args.abstraction.now c.args.lease.now.choice c.args.lease.now (g.W.Watch.seen c.args.watch.now) c.loop-row.lease (g.W.Watch.seen c.loop-row.watch) c.expand.new.lease (g.W.Watch.seen c.settle.new.watch) 1 0 c.loop-row.invariant.at c.loop-row.invariant.counted c.loop-row.invariant.turned
    (watched_then (space_of c.args.task.now) (guide_of c.args.task.now c.args.abstraction.now c.args.lease.now.choice) 0 1 0 c.loop-row.lease (g.W.Watch.seen c.loop-row.watch) c.settle.new.lease (g.W.Watch.seen c.settle.new.watch) c.expand.new.lease (g.W.Watch.seen c.settle.new.watch) (c.settle.ensures.turned c.args.abstraction.now c.args.lease.now.choice c.loop-row.invariant.at)
    (expanded c.args.task.now c.args.abstraction.now c.args.lease.now.choice c.settle.new.lease c.expand.new.lease (g.W.Watch.seen c.settle.new.watch) 1 0 (at_watch_still c.args.task.now c.args.abstraction.now c.args.lease.now.choice c.loop-row.lease c.settle.new.lease (g.W.Watch.seen c.loop-row.watch) (g.W.Watch.seen c.settle.new.watch) (c.settle.ensures.turned c.args.abstraction.now c.args.lease.now.choice c.loop-row.invariant.at) c.loop-row.invariant.at)
    (turned_once_by c.args.task.now c.args.abstraction.now c.args.lease.now.choice c.settle.new.lease.choice (c.settle.ensures.same.choice ∙ c.loop-row.invariant.turned.same.choice) c.in-Ok.ensures.turned) c.expand.ensures.same c.in-Ok.ensures.used c.expand.ensures.weights c.expand.ensures.incumbent)) in
    record {
      at = at_watch_on c.args.task.now c.args.abstraction.now c.args.lease.now.choice c.settle.new.lease c.expand.new.lease (g.W.Watch.seen c.settle.new.watch) (g.W.Watch.seen c.settle.new.watch) 1
          (expanded c.args.task.now c.args.abstraction.now c.args.lease.now.choice c.settle.new.lease c.expand.new.lease (g.W.Watch.seen c.settle.new.watch) 1 0 (at_watch_still c.args.task.now c.args.abstraction.now c.args.lease.now.choice c.loop-row.lease c.settle.new.lease (g.W.Watch.seen c.loop-row.watch) (g.W.Watch.seen c.settle.new.watch) (c.settle.ensures.turned c.args.abstraction.now c.args.lease.now.choice c.loop-row.invariant.at) c.loop-row.invariant.at)
          (turned_once_by c.args.task.now c.args.abstraction.now c.args.lease.now.choice c.settle.new.lease.choice (c.settle.ensures.same.choice ∙ c.loop-row.invariant.turned.same.choice) c.in-Ok.ensures.turned) c.expand.ensures.same c.in-Ok.ensures.used c.expand.ensures.weights c.expand.ensures.incumbent)
          (at_watch_still c.args.task.now c.args.abstraction.now c.args.lease.now.choice c.loop-row.lease c.settle.new.lease (g.W.Watch.seen c.loop-row.watch) (g.W.Watch.seen c.settle.new.watch) (c.settle.ensures.turned c.args.abstraction.now c.args.lease.now.choice c.loop-row.invariant.at) c.loop-row.invariant.at)
          (omega (arith, c.in-Ok.ensures.used, c.used.ensures.used, c.used.ensures.within, c.if-used-quota.false, c.quota-quota.ensures.quota, c.expand.ensures.same.quota, c.settle.ensures.same.quota, c.loop-row.invariant.turned.same.quota));
      turned = far.turned;
      counted = far.counted;
      can = c.settle.ensures.can;
      stays = g.W.Watch.stays_on c.args.watch.now c.loop-row.watch c.settle.new.watch c.loop-row.invariant.stays c.settle.ensures.stays;
      tables = subst (IsOfTask c.expand.new.estimator c.args.task.now) (c.settle.ensures.same.choice ∙ c.loop-row.invariant.turned.same.choice) c.expand.ensures.tables;
      room = omega (arith, c.loop-row.invariant.room, c.expand.ensures.room);
    }

pub returns-in-Err-clause-turned : goal.returns-in-Err-clause-turned
returns-in-Err-clause-turned g c =
    let far : IsFarWatched c.args.task.now c.args.abstraction.now c.args.lease.now.choice c.args.lease.now (g.W.Watch.seen c.args.watch.now) c.loop-row.lease (g.W.Watch.seen c.loop-row.watch) c.expand.new.lease (g.W.Watch.seen c.settle.new.watch) 1 false = far_on c.args.task.now c.args.abstraction.now c.args.lease.now.choice c.args.lease.now (g.W.Watch.seen c.args.watch.now) c.loop-row.lease (g.W.Watch.seen c.loop-row.watch) c.expand.new.lease (g.W.Watch.seen c.settle.new.watch) 0 1 c.loop-row.invariant.at c.loop-row.invariant.counted c.loop-row.invariant.turned
    (watched_then (space_of c.args.task.now) (guide_of c.args.task.now c.args.abstraction.now c.args.lease.now.choice) 0 0 1 c.loop-row.lease (g.W.Watch.seen c.loop-row.watch) c.settle.new.lease (g.W.Watch.seen c.settle.new.watch) c.expand.new.lease (g.W.Watch.seen c.settle.new.watch) (c.settle.ensures.turned c.args.abstraction.now c.args.lease.now.choice c.loop-row.invariant.at)
    (expanded c.args.task.now c.args.abstraction.now c.args.lease.now.choice c.settle.new.lease c.expand.new.lease (g.W.Watch.seen c.settle.new.watch) 0 1 (at_watch_still c.args.task.now c.args.abstraction.now c.args.lease.now.choice c.loop-row.lease c.settle.new.lease (g.W.Watch.seen c.loop-row.watch) (g.W.Watch.seen c.settle.new.watch) (c.settle.ensures.turned c.args.abstraction.now c.args.lease.now.choice c.loop-row.invariant.at) c.loop-row.invariant.at)
    (turned_once_by c.args.task.now c.args.abstraction.now c.args.lease.now.choice c.settle.new.lease.choice (c.settle.ensures.same.choice ∙ c.loop-row.invariant.turned.same.choice) c.in-Err.ensures.broken) c.expand.ensures.same (omega (arith, c.in-Err.ensures.unused)) c.expand.ensures.weights c.expand.ensures.incumbent)) in
    as_read (space_of c.args.task.now) (guide_of c.args.task.now c.args.abstraction.now c.args.lease.now.choice) (c.expand.new.lease.used - c.args.lease.now.used) 1 c.args.lease.now (g.W.Watch.seen c.args.watch.now) c.expand.new.lease (g.W.Watch.seen c.settle.new.watch) far.turned

pub returns-in-Err-clause-watched : goal.returns-in-Err-clause-watched
returns-in-Err-clause-watched g c =
    let far : IsFarWatched c.args.task.now c.args.abstraction.now c.args.lease.now.choice c.args.lease.now (g.W.Watch.seen c.args.watch.now) c.loop-row.lease (g.W.Watch.seen c.loop-row.watch) c.expand.new.lease (g.W.Watch.seen c.settle.new.watch) 1 false = far_on c.args.task.now c.args.abstraction.now c.args.lease.now.choice c.args.lease.now (g.W.Watch.seen c.args.watch.now) c.loop-row.lease (g.W.Watch.seen c.loop-row.watch) c.expand.new.lease (g.W.Watch.seen c.settle.new.watch) 0 1 c.loop-row.invariant.at c.loop-row.invariant.counted c.loop-row.invariant.turned
    (watched_then (space_of c.args.task.now) (guide_of c.args.task.now c.args.abstraction.now c.args.lease.now.choice) 0 0 1 c.loop-row.lease (g.W.Watch.seen c.loop-row.watch) c.settle.new.lease (g.W.Watch.seen c.settle.new.watch) c.expand.new.lease (g.W.Watch.seen c.settle.new.watch) (c.settle.ensures.turned c.args.abstraction.now c.args.lease.now.choice c.loop-row.invariant.at)
    (expanded c.args.task.now c.args.abstraction.now c.args.lease.now.choice c.settle.new.lease c.expand.new.lease (g.W.Watch.seen c.settle.new.watch) 0 1 (at_watch_still c.args.task.now c.args.abstraction.now c.args.lease.now.choice c.loop-row.lease c.settle.new.lease (g.W.Watch.seen c.loop-row.watch) (g.W.Watch.seen c.settle.new.watch) (c.settle.ensures.turned c.args.abstraction.now c.args.lease.now.choice c.loop-row.invariant.at) c.loop-row.invariant.at)
    (turned_once_by c.args.task.now c.args.abstraction.now c.args.lease.now.choice c.settle.new.lease.choice (c.settle.ensures.same.choice ∙ c.loop-row.invariant.turned.same.choice) c.in-Err.ensures.broken) c.expand.ensures.same (omega (arith, c.in-Err.ensures.unused)) c.expand.ensures.weights c.expand.ensures.incumbent)) in
    far.turned.watched

pub returns-in-Err-clause-kept : goal.returns-in-Err-clause-kept
returns-in-Err-clause-kept g c =
    let far : IsFarWatched c.args.task.now c.args.abstraction.now c.args.lease.now.choice c.args.lease.now (g.W.Watch.seen c.args.watch.now) c.loop-row.lease (g.W.Watch.seen c.loop-row.watch) c.expand.new.lease (g.W.Watch.seen c.settle.new.watch) 1 false = far_on c.args.task.now c.args.abstraction.now c.args.lease.now.choice c.args.lease.now (g.W.Watch.seen c.args.watch.now) c.loop-row.lease (g.W.Watch.seen c.loop-row.watch) c.expand.new.lease (g.W.Watch.seen c.settle.new.watch) 0 1 c.loop-row.invariant.at c.loop-row.invariant.counted c.loop-row.invariant.turned
    (watched_then (space_of c.args.task.now) (guide_of c.args.task.now c.args.abstraction.now c.args.lease.now.choice) 0 0 1 c.loop-row.lease (g.W.Watch.seen c.loop-row.watch) c.settle.new.lease (g.W.Watch.seen c.settle.new.watch) c.expand.new.lease (g.W.Watch.seen c.settle.new.watch) (c.settle.ensures.turned c.args.abstraction.now c.args.lease.now.choice c.loop-row.invariant.at)
    (expanded c.args.task.now c.args.abstraction.now c.args.lease.now.choice c.settle.new.lease c.expand.new.lease (g.W.Watch.seen c.settle.new.watch) 0 1 (at_watch_still c.args.task.now c.args.abstraction.now c.args.lease.now.choice c.loop-row.lease c.settle.new.lease (g.W.Watch.seen c.loop-row.watch) (g.W.Watch.seen c.settle.new.watch) (c.settle.ensures.turned c.args.abstraction.now c.args.lease.now.choice c.loop-row.invariant.at) c.loop-row.invariant.at)
    (turned_once_by c.args.task.now c.args.abstraction.now c.args.lease.now.choice c.settle.new.lease.choice (c.settle.ensures.same.choice ∙ c.loop-row.invariant.turned.same.choice) c.in-Err.ensures.broken) c.expand.ensures.same (omega (arith, c.in-Err.ensures.unused)) c.expand.ensures.weights c.expand.ensures.incumbent)) in
    far.turned.kept

pub returns-in-Err-clause-same : goal.returns-in-Err-clause-same
returns-in-Err-clause-same g c =
    let far : IsFarWatched c.args.task.now c.args.abstraction.now c.args.lease.now.choice c.args.lease.now (g.W.Watch.seen c.args.watch.now) c.loop-row.lease (g.W.Watch.seen c.loop-row.watch) c.expand.new.lease (g.W.Watch.seen c.settle.new.watch) 1 false = far_on c.args.task.now c.args.abstraction.now c.args.lease.now.choice c.args.lease.now (g.W.Watch.seen c.args.watch.now) c.loop-row.lease (g.W.Watch.seen c.loop-row.watch) c.expand.new.lease (g.W.Watch.seen c.settle.new.watch) 0 1 c.loop-row.invariant.at c.loop-row.invariant.counted c.loop-row.invariant.turned
    (watched_then (space_of c.args.task.now) (guide_of c.args.task.now c.args.abstraction.now c.args.lease.now.choice) 0 0 1 c.loop-row.lease (g.W.Watch.seen c.loop-row.watch) c.settle.new.lease (g.W.Watch.seen c.settle.new.watch) c.expand.new.lease (g.W.Watch.seen c.settle.new.watch) (c.settle.ensures.turned c.args.abstraction.now c.args.lease.now.choice c.loop-row.invariant.at)
    (expanded c.args.task.now c.args.abstraction.now c.args.lease.now.choice c.settle.new.lease c.expand.new.lease (g.W.Watch.seen c.settle.new.watch) 0 1 (at_watch_still c.args.task.now c.args.abstraction.now c.args.lease.now.choice c.loop-row.lease c.settle.new.lease (g.W.Watch.seen c.loop-row.watch) (g.W.Watch.seen c.settle.new.watch) (c.settle.ensures.turned c.args.abstraction.now c.args.lease.now.choice c.loop-row.invariant.at) c.loop-row.invariant.at)
    (turned_once_by c.args.task.now c.args.abstraction.now c.args.lease.now.choice c.settle.new.lease.choice (c.settle.ensures.same.choice ∙ c.loop-row.invariant.turned.same.choice) c.in-Err.ensures.broken) c.expand.ensures.same (omega (arith, c.in-Err.ensures.unused)) c.expand.ensures.weights c.expand.ensures.incumbent)) in
    far.turned.same

pub returns-in-Err-clause-scope : goal.returns-in-Err-clause-scope
returns-in-Err-clause-scope g c =
    let far : IsFarWatched c.args.task.now c.args.abstraction.now c.args.lease.now.choice c.args.lease.now (g.W.Watch.seen c.args.watch.now) c.loop-row.lease (g.W.Watch.seen c.loop-row.watch) c.expand.new.lease (g.W.Watch.seen c.settle.new.watch) 1 false = far_on c.args.task.now c.args.abstraction.now c.args.lease.now.choice c.args.lease.now (g.W.Watch.seen c.args.watch.now) c.loop-row.lease (g.W.Watch.seen c.loop-row.watch) c.expand.new.lease (g.W.Watch.seen c.settle.new.watch) 0 1 c.loop-row.invariant.at c.loop-row.invariant.counted c.loop-row.invariant.turned
    (watched_then (space_of c.args.task.now) (guide_of c.args.task.now c.args.abstraction.now c.args.lease.now.choice) 0 0 1 c.loop-row.lease (g.W.Watch.seen c.loop-row.watch) c.settle.new.lease (g.W.Watch.seen c.settle.new.watch) c.expand.new.lease (g.W.Watch.seen c.settle.new.watch) (c.settle.ensures.turned c.args.abstraction.now c.args.lease.now.choice c.loop-row.invariant.at)
    (expanded c.args.task.now c.args.abstraction.now c.args.lease.now.choice c.settle.new.lease c.expand.new.lease (g.W.Watch.seen c.settle.new.watch) 0 1 (at_watch_still c.args.task.now c.args.abstraction.now c.args.lease.now.choice c.loop-row.lease c.settle.new.lease (g.W.Watch.seen c.loop-row.watch) (g.W.Watch.seen c.settle.new.watch) (c.settle.ensures.turned c.args.abstraction.now c.args.lease.now.choice c.loop-row.invariant.at) c.loop-row.invariant.at)
    (turned_once_by c.args.task.now c.args.abstraction.now c.args.lease.now.choice c.settle.new.lease.choice (c.settle.ensures.same.choice ∙ c.loop-row.invariant.turned.same.choice) c.in-Err.ensures.broken) c.expand.ensures.same (omega (arith, c.in-Err.ensures.unused)) c.expand.ensures.weights c.expand.ensures.incumbent)) in
    far.scope

pub returns-in-Err-clause-counted : goal.returns-in-Err-clause-counted
returns-in-Err-clause-counted g c =
    let far : IsFarWatched c.args.task.now c.args.abstraction.now c.args.lease.now.choice c.args.lease.now (g.W.Watch.seen c.args.watch.now) c.loop-row.lease (g.W.Watch.seen c.loop-row.watch) c.expand.new.lease (g.W.Watch.seen c.settle.new.watch) 1 false = far_on c.args.task.now c.args.abstraction.now c.args.lease.now.choice c.args.lease.now (g.W.Watch.seen c.args.watch.now) c.loop-row.lease (g.W.Watch.seen c.loop-row.watch) c.expand.new.lease (g.W.Watch.seen c.settle.new.watch) 0 1 c.loop-row.invariant.at c.loop-row.invariant.counted c.loop-row.invariant.turned
    (watched_then (space_of c.args.task.now) (guide_of c.args.task.now c.args.abstraction.now c.args.lease.now.choice) 0 0 1 c.loop-row.lease (g.W.Watch.seen c.loop-row.watch) c.settle.new.lease (g.W.Watch.seen c.settle.new.watch) c.expand.new.lease (g.W.Watch.seen c.settle.new.watch) (c.settle.ensures.turned c.args.abstraction.now c.args.lease.now.choice c.loop-row.invariant.at)
    (expanded c.args.task.now c.args.abstraction.now c.args.lease.now.choice c.settle.new.lease c.expand.new.lease (g.W.Watch.seen c.settle.new.watch) 0 1 (at_watch_still c.args.task.now c.args.abstraction.now c.args.lease.now.choice c.loop-row.lease c.settle.new.lease (g.W.Watch.seen c.loop-row.watch) (g.W.Watch.seen c.settle.new.watch) (c.settle.ensures.turned c.args.abstraction.now c.args.lease.now.choice c.loop-row.invariant.at) c.loop-row.invariant.at)
    (turned_once_by c.args.task.now c.args.abstraction.now c.args.lease.now.choice c.settle.new.lease.choice (c.settle.ensures.same.choice ∙ c.loop-row.invariant.turned.same.choice) c.in-Err.ensures.broken) c.expand.ensures.same (omega (arith, c.in-Err.ensures.unused)) c.expand.ensures.weights c.expand.ensures.incumbent)) in
    far.counted

pub returns-clause-turned : goal.returns-clause-turned
returns-clause-turned g c =
    let far : IsFarWatched c.args.task.now c.args.abstraction.now c.args.lease.now.choice c.args.lease.now (g.W.Watch.seen c.args.watch.now) c.loop-row.lease (g.W.Watch.seen c.loop-row.watch) c.settle.new.lease (g.W.Watch.seen c.settle.new.watch) 0 true = far_on c.args.task.now c.args.abstraction.now c.args.lease.now.choice c.args.lease.now (g.W.Watch.seen c.args.watch.now) c.loop-row.lease (g.W.Watch.seen c.loop-row.watch) c.settle.new.lease (g.W.Watch.seen c.settle.new.watch) 0 0 c.loop-row.invariant.at c.loop-row.invariant.counted c.loop-row.invariant.turned (c.settle.ensures.turned c.args.abstraction.now c.args.lease.now.choice c.loop-row.invariant.at) in
    as_read (space_of c.args.task.now) (guide_of c.args.task.now c.args.abstraction.now c.args.lease.now.choice) (c.settle.new.lease.used - c.args.lease.now.used) 0 c.args.lease.now (g.W.Watch.seen c.args.watch.now) c.settle.new.lease (g.W.Watch.seen c.settle.new.watch) far.turned

pub returns-clause-watched : goal.returns-clause-watched
returns-clause-watched g c =
    let far : IsFarWatched c.args.task.now c.args.abstraction.now c.args.lease.now.choice c.args.lease.now (g.W.Watch.seen c.args.watch.now) c.loop-row.lease (g.W.Watch.seen c.loop-row.watch) c.settle.new.lease (g.W.Watch.seen c.settle.new.watch) 0 true = far_on c.args.task.now c.args.abstraction.now c.args.lease.now.choice c.args.lease.now (g.W.Watch.seen c.args.watch.now) c.loop-row.lease (g.W.Watch.seen c.loop-row.watch) c.settle.new.lease (g.W.Watch.seen c.settle.new.watch) 0 0 c.loop-row.invariant.at c.loop-row.invariant.counted c.loop-row.invariant.turned (c.settle.ensures.turned c.args.abstraction.now c.args.lease.now.choice c.loop-row.invariant.at) in
    far.turned.watched

pub returns-clause-kept : goal.returns-clause-kept
returns-clause-kept g c =
    let far : IsFarWatched c.args.task.now c.args.abstraction.now c.args.lease.now.choice c.args.lease.now (g.W.Watch.seen c.args.watch.now) c.loop-row.lease (g.W.Watch.seen c.loop-row.watch) c.settle.new.lease (g.W.Watch.seen c.settle.new.watch) 0 true = far_on c.args.task.now c.args.abstraction.now c.args.lease.now.choice c.args.lease.now (g.W.Watch.seen c.args.watch.now) c.loop-row.lease (g.W.Watch.seen c.loop-row.watch) c.settle.new.lease (g.W.Watch.seen c.settle.new.watch) 0 0 c.loop-row.invariant.at c.loop-row.invariant.counted c.loop-row.invariant.turned (c.settle.ensures.turned c.args.abstraction.now c.args.lease.now.choice c.loop-row.invariant.at) in
    far.turned.kept

pub returns-clause-same : goal.returns-clause-same
returns-clause-same g c =
    let far : IsFarWatched c.args.task.now c.args.abstraction.now c.args.lease.now.choice c.args.lease.now (g.W.Watch.seen c.args.watch.now) c.loop-row.lease (g.W.Watch.seen c.loop-row.watch) c.settle.new.lease (g.W.Watch.seen c.settle.new.watch) 0 true = far_on c.args.task.now c.args.abstraction.now c.args.lease.now.choice c.args.lease.now (g.W.Watch.seen c.args.watch.now) c.loop-row.lease (g.W.Watch.seen c.loop-row.watch) c.settle.new.lease (g.W.Watch.seen c.settle.new.watch) 0 0 c.loop-row.invariant.at c.loop-row.invariant.counted c.loop-row.invariant.turned (c.settle.ensures.turned c.args.abstraction.now c.args.lease.now.choice c.loop-row.invariant.at) in
    far.turned.same

pub returns-clause-scope : goal.returns-clause-scope
returns-clause-scope g c =
    let far : IsFarWatched c.args.task.now c.args.abstraction.now c.args.lease.now.choice c.args.lease.now (g.W.Watch.seen c.args.watch.now) c.loop-row.lease (g.W.Watch.seen c.loop-row.watch) c.settle.new.lease (g.W.Watch.seen c.settle.new.watch) 0 true = far_on c.args.task.now c.args.abstraction.now c.args.lease.now.choice c.args.lease.now (g.W.Watch.seen c.args.watch.now) c.loop-row.lease (g.W.Watch.seen c.loop-row.watch) c.settle.new.lease (g.W.Watch.seen c.settle.new.watch) 0 0 c.loop-row.invariant.at c.loop-row.invariant.counted c.loop-row.invariant.turned (c.settle.ensures.turned c.args.abstraction.now c.args.lease.now.choice c.loop-row.invariant.at) in
    far.scope

pub returns-clause-counted : goal.returns-clause-counted
returns-clause-counted g c =
    let far : IsFarWatched c.args.task.now c.args.abstraction.now c.args.lease.now.choice c.args.lease.now (g.W.Watch.seen c.args.watch.now) c.loop-row.lease (g.W.Watch.seen c.loop-row.watch) c.settle.new.lease (g.W.Watch.seen c.settle.new.watch) 0 true = far_on c.args.task.now c.args.abstraction.now c.args.lease.now.choice c.args.lease.now (g.W.Watch.seen c.args.watch.now) c.loop-row.lease (g.W.Watch.seen c.loop-row.watch) c.settle.new.lease (g.W.Watch.seen c.settle.new.watch) 0 0 c.loop-row.invariant.at c.loop-row.invariant.counted c.loop-row.invariant.turned (c.settle.ensures.turned c.args.abstraction.now c.args.lease.now.choice c.loop-row.invariant.at) in
    far.counted

pub returns-then-used-quota-clause-stays : goal.returns-then-used-quota-clause-stays
returns-then-used-quota-clause-stays g c = g.W.Watch.stays_on c.args.watch.now c.loop-row.watch c.settle.new.watch c.loop-row.invariant.stays c.settle.ensures.stays

pub returns-in-Err-clause-stays : goal.returns-in-Err-clause-stays
returns-in-Err-clause-stays g c = g.W.Watch.stays_on c.args.watch.now c.loop-row.watch c.settle.new.watch c.loop-row.invariant.stays c.settle.ensures.stays

pub returns-clause-stays : goal.returns-clause-stays
returns-clause-stays g c = g.W.Watch.stays_on c.args.watch.now c.loop-row.watch c.settle.new.watch c.loop-row.invariant.stays c.settle.ensures.stays

pub returns-in-Err-clause-copy : goal.returns-in-Err-clause-copy
returns-in-Err-clause-copy g c = level_on (g.W.Watch.seen c.settle.new.watch) c.settle.new.lease c.expand.new.lease c.expand.ensures.incumbent c.settle.ensures.copy
