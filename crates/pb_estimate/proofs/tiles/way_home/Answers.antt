use Rattle.std.proofs.Common.{ap, ◌∙◌}
use Rattle.pb_estimate.specs.Estimates.{manhattan, place_of, cell_with}
use Rattle.pb_estimate.proofs.Homes.{way_is}
use Rattle.pb_estimate.proofs.tiles.way_home.Goals as goal

pub returns : goal.returns
returns c =
    c.manhattan.ensures
    ∙ ap (λ p. manhattan p c.place-2.result) c.place.ensures.place
    ∙ ap (λ p. manhattan (place_of c.args.tiles.now.cols c.args.cell) p) c.place-2.ensures.place
    ∙ way_is c.args.tiles.now.cols c.args.cell c.args.number c.from-home.result c.args.tiles.now.goal c.if-number-eq0.false
    (c.from-home.ensures ∙ c.cell_with.ensures.cell ∙ ap (λ goal. cell_with goal c.args.number) c.numbers.ensures)
