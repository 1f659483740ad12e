use Rattle.pb_task.proofs.Callers.{few_cells}
use Rattle.pb_pattern.proofs.images.cell_count.Goals as goal

pub returns-clause-few : goal.returns-clause-few
returns-clause-few c = few_cells c.args.tiles.now c.requires
