use Rattle.std.proofs.Common.{◌≡◌, ◌/◌, Some, ap, sym, ◌∙◌}
use Rattle.pb_task.specs.Grid.{cell_beside}
use Rattle.pb_task.specs.Tiles.{cell_on, neighbour}
use Rattle.pb_task.proofs.Exchanges.{exchanged_fits}
use Rattle.pb_task.proofs.tiles.slide_word.Goals as goal

pub exchanged-moved-requires-clause-fits : goal.exchanged-moved-requires-clause-fits
exchanged-moved-requires-clause-fits c =
    let there : neighbour c.args.tiles.now.rows c.args.tiles.now.cols c.args.blank c.args.action ≡ Some c.in_ok-other.other =
    ap (λ x. cell_on c.args.tiles.now.rows c.args.tiles.now.cols (cell_beside x (c.args.blank / c.args.tiles.now.cols) c.args.action)) (sym c.requires.column)
    ∙ ap (λ y. cell_on c.args.tiles.now.rows c.args.tiles.now.cols (cell_beside c.args.column y c.args.action)) (sym c.requires.row)
    ∙ sym c.neighbour.ensures ∙ c.in_ok-other.was in
    exchanged_fits c.args.tiles.now c.requires.tiles c.args.word c.args.blank c.args.action c.in_ok-other.other c.requires.state c.requires.blank there
