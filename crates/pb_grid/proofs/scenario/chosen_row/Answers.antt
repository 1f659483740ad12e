use Rattle.pb_grid.specs.Lines.{lines_of}
use Rattle.pb_grid.proofs.Chosen.{none_left}
use Rattle.pb_grid.proofs.scenario.chosen_row.Goals as goal

pub returns : goal.returns
returns c = λ some. none_left (lines_of c.args.text.now) c.args.row c.loop-line.number c.loop-line.seen c.loop-line.rest.now c.in_default.ensures.none c.loop-line.invariant.so_far
