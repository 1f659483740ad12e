use Rattle.std.proofs.Common.{◌≡◌, ◌∙◌, ap, sym, Result, Ok, Bool, true, ◌&&◌}
use Rattle.std.proofs.lemmas.Result.{err_from_is_err_and}
use Rattle.pb_grid.specs.declared.error.GridError.{GridError}
use Rattle.pb_grid.specs.Lines.{lines_of}
use Rattle.pb_grid.specs.Reading.{◌>>=◌, is_side}
use Rattle.pb_grid.proofs.Rows.{map_steps}
use Rattle.pb_grid.proofs.map.read_map.Goals as goal

pub returns-in_err-below_map-clause-map : goal.returns-in_err-below_map-clause-map
returns-in_err-below_map-clause-map c =
    let p = err_from_is_err_and c.from_residual-in_err-below_map.result c.from_residual-in_err-below_map.ensures.1 in
    let number : c.from.result ≡ c.in_ok-height.height = c.from.ensures in
    let sides : (is_side c.in_ok-height.height && is_side c.in_ok-height.width) ≡ true = sym c.is_size.ensures ∙ c.if-not-is_size.false in
    rw (p.1, p.2) (λ some.
    map_steps (lines_of c.args.text.now) (lines_of c.in_ok-height.rows.now) (lines_of c.in_ok-cells.below.now) c.in_ok-height.height c.in_ok-height.width c.in_ok-cells.cells.items
    c.in_ok-height.ensures.gives sides c.in_ok-height.ensures.rest c.in_ok-cells.ensures.gives c.in_ok-cells.ensures.rest
    ∙ ap (λ (r : Result Bool GridError). r >>= λ blank. Ok (record { width = c.in_ok-height.width; height = c.in_ok-height.height; cells = c.in_ok-cells.cells.items })) ((rw number at c.in_err-below_map.ensures) some))
