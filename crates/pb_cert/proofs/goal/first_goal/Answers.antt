use Rattle.std.proofs.Common.{◌≤◌, arith}
use Rattle.pb_task.specs.Parts.{space_of}
use Rattle.pb_lists.specs.Bundle.{row_of}
use Rattle.pb_cert.proofs.Goals.{none_below, next_part, the_first_if, no_goal_if}
use Rattle.pb_cert.proofs.goal.first_goal.Goals as goal

pub parts-init : goal.parts-init
parts-init g c = none_below (space_of c.args.task.now) (g.S.Store.rows c.args.store.now)

pub parts-preserved : goal.parts-preserved
parts-preserved g c =
    next_part (space_of c.args.task.now) (g.S.Store.rows c.args.store.now) (row_of c.part.result.now) c.parts.i c.parts.first c.first_in-first.result c.part.ensures.rows c.parts.invariant
    c.first_in-first.ensures.kept c.first_in-first.ensures.small c.first_in-first.ensures.here c.first_in-first.ensures.from

pub returns-clause-some : goal.returns-clause-some
returns-clause-some g c =
    let whole : g.S.Store.parts c.args.store.now ≤ c.parts.i = omega (arith, c.parts-test.false, c.parts-i-end.ensures.count) in
    the_first_if (space_of c.args.task.now) (g.S.Store.rows c.args.store.now) (g.S.Store.parts c.args.store.now) c.parts.i c.parts-i-end.ensures.beyond whole c.parts.first c.parts.invariant

pub returns-clause-none : goal.returns-clause-none
returns-clause-none g c =
    let whole : g.S.Store.parts c.args.store.now ≤ c.parts.i = omega (arith, c.parts-test.false, c.parts-i-end.ensures.count) in
    no_goal_if (space_of c.args.task.now) (g.S.Store.rows c.args.store.now) (g.S.Store.parts c.args.store.now) c.parts.i c.parts-i-end.ensures.beyond whole c.parts.first c.parts.invariant

pub returns-clause-small : goal.returns-clause-small
returns-clause-small g c = c.parts.invariant.small
