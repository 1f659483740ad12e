use Rattle.pb_grid.proofs.Grids.{read_as_spelled}
use Rattle.pb_grid.proofs.laws.read_as_spelled.Goals as goal

pub returns : goal.returns
returns c = read_as_spelled
