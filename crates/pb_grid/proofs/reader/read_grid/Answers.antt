use Rattle.std.proofs.Common.{◌≡◌, ap, Err}
use Rattle.std.proofs.lemmas.Result.{err_from_is_err_and}
use Rattle.pb_grid.proofs.Grids.{spelled, same_grid, not_refused, read_grids_are_grids}
use Rattle.pb_grid.proofs.CaseOf.{case_of}
use Rattle.pb_grid.proofs.CaseTold.{same_refusal, no_grid}
use Rattle.pb_grid.proofs.reader.read_grid.Goals as goal

pub returns-in_err-grid-clause-only : goal.returns-in_err-grid-clause-only
returns-in_err-grid-clause-only c =
    let p = err_from_is_err_and c.from_residual.result c.from_residual.ensures.1 in
    rw (p.1, p.2) (λ grid is some. absurd (not_refused c.args.map.now c.args.scenario.now c.args.row c.args.swamp grid c.in_err-grid.field-0.0 is (c.in_err-grid.ensures some)))

pub returns-in_err-grid-clause-refused : goal.returns-in_err-grid-clause-refused
returns-in_err-grid-clause-refused c =
    let p = err_from_is_err_and c.from_residual.result c.from_residual.ensures.1 in
    rw (p.1, p.2) (λ some. case_of c.args.map.now c.args.scenario.now c.args.row c.args.swamp c.in_err-grid.field-0.0 (c.in_err-grid.ensures some))

pub returns-in_err-grid-clause-told : goal.returns-in_err-grid-clause-told
returns-in_err-grid-clause-told c =
    let p = err_from_is_err_and c.from_residual.result c.from_residual.ensures.1 in
    rw (p.1, p.2) (λ error is some. ap Err (same_refusal c.args.map.now c.args.scenario.now c.args.row c.args.swamp error c.in_err-grid.field-0.0 is (c.in_err-grid.ensures some)))

pub of_grid-requires : goal.of_grid-requires
of_grid-requires c = read_grids_are_grids c.args.map.now c.args.scenario.now c.args.row c.args.swamp c.in_ok-grid.grid c.in_ok-grid.ensures

pub returns-clause-spelled : goal.returns-clause-spelled
returns-clause-spelled c = (c.in_ok-grid.grid, c.of_grid.ensures, spelled c.args.map.now c.args.scenario.now c.args.row c.args.swamp c.in_ok-grid.grid c.in_ok-grid.ensures)

pub returns-clause-only : goal.returns-clause-only
returns-clause-only c = λ grid is.
    let same : grid ≡ c.in_ok-grid.grid = same_grid c.args.map.now c.args.scenario.now c.args.row c.args.swamp grid c.in_ok-grid.grid is c.in_ok-grid.ensures in cc

pub returns-clause-told : goal.returns-clause-told
returns-clause-told c = λ error is. absurd (no_grid c.args.map.now c.args.scenario.now c.args.row c.args.swamp error c.in_ok-grid.grid is c.in_ok-grid.ensures)
