use Rattle.pb_grid.proofs.Parting.{missing_line, missing_rest}
use Rattle.pb_grid.proofs.lines.next_line.Goals as goal

pub returns-in-None-clause-line : goal.returns-in-None-clause-line
returns-in-None-clause-line c = missing_line c.args.text.now c.in-None.ensures.none

pub returns-in-None-clause-rest : goal.returns-in-None-clause-rest
returns-in-None-clause-rest c = missing_rest c.args.text.now c.in-None.ensures.none
