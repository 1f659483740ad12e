use Rattle.std.proofs.Common.{refl, sym, ◌∙◌}
use Rattle.pb_model.specs.declared.row.Row.{Row}
use Rattle.pb_model.specs.Key.{IsFirstRow}
use Rattle.pb_model.proofs.Callers.{not_both}
use Rattle.pb_task.specs.Parts.{space_of}
use Rattle.pb_lease.specs.Leased.{guide_of}
use Rattle.pb_expand.specs.Turned.{own_rows}
use Rattle.pb_expand.proofs.Known.{row_is_home}
use Rattle.pb_expand.proofs.Firsts.{row_by, first_by}
use Rattle.pb_expand.proofs.Turned.{cut_turned, take_turned}
use Rattle.pb_expand.proofs.Watched.{none_watched, cut_watched, take_watched, tells_no_read, goal_here, may_tell}
use Rattle.pb_expand.proofs.watching.settle_row.Goals as goal

pub returns-then-may_be_cut-clause-turned : goal.returns-then-may_be_cut-clause-turned
returns-then-may_be_cut-clause-turned g c = λ abstraction choice at.
    let row : Row = row_by c.args.row.now c.requires.first.0 in
    let first : IsFirstRow c.args.lease.now.weight (own_rows c.args.lease.now) c.args.row.now.state row = first_by c.args.lease.now c.args.row.now c.requires.first in
    cut_watched (space_of c.args.task.now) (guide_of c.args.task.now abstraction choice) c.args.lease.now c.cut.new.lease (g.W.Watch.seen c.args.watch.now) at.watched
    (cut_turned (space_of c.args.task.now) (guide_of c.args.task.now abstraction choice) c.args.lease.now.block c.args.lease.now c.args.row.now.state row refl
    (row_is_home c.args.task.now abstraction choice c.args.lease.now at.at_work c.args.row.now.state row first.found) first c.cut.new.lease
    (rw c.weight.ensures.weight (rw c.incumbent.ensures at (c.may_be_cut.ensures.0 c.if-may_be_cut.true))) c.cut.ensures.rows c.cut.ensures.changes)
    c.cut.ensures.changes

pub tell-requires-clause-may : goal.tell-requires-clause-may
tell-requires-clause-may g c =
    let row : Row = row_by c.args.row.now c.requires.first.0 in
    let first : IsFirstRow c.args.lease.now.weight (own_rows c.args.lease.now) c.args.row.now.state row = first_by c.args.lease.now c.args.row.now c.requires.first in
    may_tell c.args.task.now c.requires.at.0 c.requires.at.1 (g.W.Watch.seen c.args.watch.now) c.args.lease.now c.requires.at.2 c.args.row.now.state row first (sym c.is_goal.ensures ∙ c.if-is_goal.true)

pub returns-then-is_goal-clause-turned : goal.returns-then-is_goal-clause-turned
returns-then-is_goal-clause-turned g c = λ abstraction choice at.
    let row : Row = row_by c.args.row.now c.requires.first.0 in
    let first : IsFirstRow c.args.lease.now.weight (own_rows c.args.lease.now) c.args.row.now.state row = first_by c.args.lease.now c.args.row.now c.requires.first in
    take_watched (space_of c.args.task.now) (guide_of c.args.task.now abstraction choice) c.args.lease.now c.cut-then-is_goal.new.lease (g.W.Watch.seen c.args.watch.now) (g.W.Watch.seen c.tell.new.self) c.args.row.now.g at.watched c.tell.ensures.told
    (goal_here c.args.task.now abstraction choice (g.W.Watch.seen c.args.watch.now) c.args.lease.now at c.args.row.now.state row first (sym c.is_goal.ensures ∙ c.if-is_goal.true))
    (take_turned (space_of c.args.task.now) (guide_of c.args.task.now abstraction choice) c.args.lease.now.block c.args.lease.now c.args.row.now.state row refl
    (row_is_home c.args.task.now abstraction choice c.args.lease.now at.at_work c.args.row.now.state row first.found) first c.cut-then-is_goal.new.lease
    (λ may. not_both c.may_be_cut.result (c.may_be_cut.ensures.1 (rw c.incumbent.ensures (rw c.weight.ensures.weight at may))) c.if-may_be_cut.false)
    (sym c.is_goal.ensures ∙ c.if-is_goal.true) (rw c.lower_incumbent.ensures at c.cut-then-is_goal.ensures.rows) (rw c.lower_incumbent.ensures at c.cut-then-is_goal.ensures.changes))
    (rw c.lower_incumbent.ensures at c.cut-then-is_goal.ensures.changes)

pub returns-else-is_goal-clause-turned : goal.returns-else-is_goal-clause-turned
returns-else-is_goal-clause-turned g c = λ abstraction choice at.
    none_watched (space_of c.args.task.now) (guide_of c.args.task.now abstraction choice) c.args.lease.now (g.W.Watch.seen c.args.watch.now) at.watched

pub returns-then-may_be_cut-clause-stays : goal.returns-then-may_be_cut-clause-stays
returns-then-may_be_cut-clause-stays g c = g.W.Watch.stays_none c.args.watch.now

pub returns-else-is_goal-clause-stays : goal.returns-else-is_goal-clause-stays
returns-else-is_goal-clause-stays g c = g.W.Watch.stays_none c.args.watch.now

pub returns-then-is_goal-clause-none : goal.returns-then-is_goal-clause-none
returns-then-is_goal-clause-none g c = tells_no_read (g.W.Watch.seen c.args.watch.now) c.args.row.now.g (g.W.Watch.seen c.tell.new.self) c.tell.ensures.told

pub returns-else-is_goal-clause-next : goal.returns-else-is_goal-clause-next
returns-else-is_goal-clause-next g c = λ settled. (
  row_by c.args.row.now c.requires.first.0,
  record {
    first = first_by c.args.lease.now c.args.row.now c.requires.first;
    kept = λ may. not_both c.may_be_cut.result (c.may_be_cut.ensures.1 (rw c.incumbent.ensures (rw c.weight.ensures.weight at may))) c.if-may_be_cut.false;
    no_goal = sym c.is_goal.ensures ∙ c.if-is_goal.false;
  },
  refl,
  refl,
)
