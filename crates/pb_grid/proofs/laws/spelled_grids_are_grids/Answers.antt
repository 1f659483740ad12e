use Rattle.pb_grid.proofs.Grids.{spelled_grids_are_grids}
use Rattle.pb_grid.proofs.laws.spelled_grids_are_grids.Goals as goal

pub returns : goal.returns
returns c = spelled_grids_are_grids
