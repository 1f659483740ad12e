use Rattle.std.proofs.Common.{◌≡◌, Result, Ok, sym, ap, ◌∙◌}
use Rattle.pb_task.specs.declared.parts.TilesParts.{TilesParts}
use Rattle.pb_task.specs.declared.parts.TaskParts.TheVariants.{Tiles}
use Rattle.pb_tiles.specs.declared.error.TilesError.{TilesError}
use Rattle.pb_tiles.proofs.Spelled.{readings_are_spelled, only_memory}
use Rattle.pb_tiles.proofs.CaseOf.{refusals_have_their_case}
use Rattle.pb_tiles.proofs.CaseTold.{same_refusal, no_tiles}
use Rattle.pb_tiles.proofs.reader.read_tiles.Goals as goal

same_tiles : (tiles other : TilesParts) → ◌≡◌ {A = Result TilesParts TilesError} (Ok tiles) (Ok other) → tiles ≡ other
same_tiles tiles other e = cc

pub returns-in-Ok-clause-spelled : goal.returns-in-Ok-clause-spelled
returns-in-Ok-clause-spelled c = (c.in-Ok.parts, c.of_tiles.ensures, (readings_are_spelled c.args.text.now c.in-Ok.parts).0 c.in-Ok.ensures.read)

pub returns-in-Ok-clause-only : goal.returns-in-Ok-clause-only
returns-in-Ok-clause-only c = λ tiles is.
    c.of_tiles.ensures ∙ ap Tiles (same_tiles c.in-Ok.parts tiles (sym c.in-Ok.ensures.read ∙ (readings_are_spelled c.args.text.now tiles).1 is))

pub returns-in-Err-clause-only : goal.returns-in-Err-clause-only
returns-in-Err-clause-only c = λ tiles is. only_memory c.args.text.now tiles c.in-Err.error is c.in-Err.ensures.refused

pub returns-in-Err-clause-due : goal.returns-in-Err-clause-due
returns-in-Err-clause-due c = λ is. refusals_have_their_case c.args.text.now c.in-Err.error (c.in-Err.ensures.refused is)

pub returns-in-Ok-clause-told : goal.returns-in-Ok-clause-told
returns-in-Ok-clause-told c = λ error is. no_tiles c.args.text.now error c.in-Ok.parts is c.in-Ok.ensures.read

pub returns-in-Err-clause-told : goal.returns-in-Err-clause-told
returns-in-Err-clause-told c = λ error is other. same_refusal c.args.text.now error c.in-Err.error is (c.in-Err.ensures.refused other)
