use Rattle.pb_task.proofs.Exchanges.{look_on, found, not_found}
use Rattle.pb_task.proofs.tiles.blank_in.Goals as goal

pub returns-then-rest-eq0 : goal.returns-then-rest-eq0
returns-then-rest-eq0 c =
    found c.args.count c.loop-cell.cell c.args.word c.loop-cell.rest c.loop-cell-test.true c.if-rest-eq0.true c.loop-cell.invariant

pub loop-cell-preserved : goal.loop-cell-preserved
loop-cell-preserved c =
    look_on c.args.count c.loop-cell.cell c.args.word c.loop-cell.rest c.loop-cell-test.true c.if-rest-eq0.false c.loop-cell.invariant

pub returns : goal.returns
returns c = not_found c.args.count c.loop-cell.cell c.args.word c.loop-cell.rest c.loop-cell.auto.cell-end c.loop-cell-test.false c.loop-cell.invariant
