use Rattle.std.proofs.Common.{◌∙◌}
use Rattle.pb_made.proofs.Spelled.{grid_is_made, grid_is_memory}
use Rattle.pb_made.proofs.made_task.made_grid.Goals as goal

pub grid_memory-requires : goal.grid_memory-requires
grid_memory-requires c =
    grid_is_memory c.args.seed c.args.side c.requires c.as_slice.result.now c.as_slice-2.result.now (c.as_slice.ensures.value ∙ c.in_ok-map.ensures)
    (c.as_slice-2.ensures.value ∙ c.in_ok-scenario.ensures) c.in-Err.error c.in-Err.ensures.only

pub returns-in-Ok : goal.returns-in-Ok
returns-in-Ok c =
    grid_is_made c.args.seed c.args.side c.requires c.as_slice.result.now c.as_slice-2.result.now (c.as_slice.ensures.value ∙ c.in_ok-map.ensures)
    (c.as_slice-2.ensures.value ∙ c.in_ok-scenario.ensures) c.in-Ok.task c.in-Ok.ensures.exact c.in-Ok.ensures.only
