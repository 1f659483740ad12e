use Rattle.std.proofs.Common.{◌∙◌}
use Rattle.pb_made.proofs.Spelled.{tiles_are_made, tiles_are_memory}
use Rattle.pb_made.proofs.made_task.made_tiles.Goals as goal

pub tiles_memory-requires : goal.tiles_memory-requires
tiles_memory-requires c =
    tiles_are_memory c.args.seed c.args.moves c.as_slice.result.now (c.as_slice.ensures.value ∙ c.in_ok-text.ensures) c.in-Err.error c.in-Err.ensures.only

pub returns-in-Ok : goal.returns-in-Ok
returns-in-Ok c =
    tiles_are_made c.args.seed c.args.moves c.as_slice.result.now (c.as_slice.ensures.value ∙ c.in_ok-text.ensures) c.in-Ok.task c.in-Ok.ensures.exact c.in-Ok.ensures.only
