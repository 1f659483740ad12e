use Rattle.std.proofs.Common.{◌<◌, length, sym, ap, ◌∙◌, subst}
use Rattle.pb_pattern.specs.Projected.{image_of_board}
use Rattle.pb_pattern.specs.Costs.{cost_in, estimate_in}
use Rattle.pb_pattern.proofs.Imaged.{inside_tiles, tiles_table}
use Rattle.pb_pattern.proofs.table.least_of_tiles.Goals as goal

pub estimate_at-requires : goal.estimate_at-requires
estimate_at-requires c =
    subst (λ n. n < length c.args.costs.now) (sym (c.image_of_board-image.ensures.image ∙ ap (λ t. image_of_board c.args.tiles.now t c.args.state.now) c.tracked_tiles-tracked.ensures.tracked))
    (inside_tiles c.args.tiles.now c.args.k c.args.state.now c.args.costs.now c.requires.tiles c.requires.costs c.requires.state)

pub returns : goal.returns
returns c =
    c.estimate_at.ensures
    ∙ ap (λ n. estimate_in (cost_in c.args.costs.now n)) (c.image_of_board-image.ensures.image ∙ ap (λ t. image_of_board c.args.tiles.now t c.args.state.now) c.tracked_tiles-tracked.ensures.tracked)
    ∙ tiles_table c.args.tiles.now c.args.k c.args.state.now c.args.costs.now c.requires.tiles c.requires.costs c.requires.state
