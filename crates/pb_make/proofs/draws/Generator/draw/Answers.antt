use Rattle.std.proofs.Common.{◌*◌, ◌/◌, ◌^◌, ap}
use Rattle.pb_make.specs.Draws.{next_number, draw_from}
use Rattle.pb_make.proofs.Drawn.{mod-add-first}
use Rattle.pb_make.proofs.draws.Generator.draw.Goals as goal

pub returns-clause-draw : goal.returns-clause-draw
unfolding draw_from next_number
returns-clause-draw c = ap (λ n. n / 2 ^ 32) (mod-add-first (6364136223846793005 * c.args.self.now.number) 1442695040888963407 (2 ^ 64))

pub returns-clause-after : goal.returns-clause-after
unfolding next_number
returns-clause-after c = mod-add-first (6364136223846793005 * c.args.self.now.number) 1442695040888963407 (2 ^ 64)
