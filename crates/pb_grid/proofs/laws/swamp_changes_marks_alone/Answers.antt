use Rattle.pb_grid.proofs.Grids.{swamp_changes_marks_alone}
use Rattle.pb_grid.proofs.laws.swamp_changes_marks_alone.Goals as goal

pub returns : goal.returns
returns c = swamp_changes_marks_alone
