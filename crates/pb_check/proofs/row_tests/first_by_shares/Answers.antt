use Rattle.std.proofs.Common.{ℕ, length, sym, ap, ◌∙◌, subst}
use Rattle.pb_check.specs.Pieces.{IsFirstIn, IsBetween, tested_at, fault_of, found_of}
use Rattle.pb_check.proofs.RowTests.{tested_first}
use Rattle.pb_check.proofs.row_tests.first_by_shares.Goals as goal

pub returns-in-Some : goal.returns-in-Some
returns-in-Some g c =
    let rows = c.args.rows.now in
    let found = found_of c.test_shares.result in
    sym (tested_first c.args.test c.args.task.now c.args.line rows found
    (subst (λ (n : ℕ). IsFirstIn (tested_at c.args.test c.args.task.now c.args.line rows) (length rows) (IsBetween 0 n) found) c.len-count.ensures c.test_shares.ensures)
    ∙ ap (λ o. fault_of (found_of o)) c.in-Some.is)

pub returns-in-None : goal.returns-in-None
returns-in-None g c =
    let rows = c.args.rows.now in
    let found = found_of c.test_shares.result in
    sym (tested_first c.args.test c.args.task.now c.args.line rows found
    (subst (λ (n : ℕ). IsFirstIn (tested_at c.args.test c.args.task.now c.args.line rows) (length rows) (IsBetween 0 n) found) c.len-count.ensures c.test_shares.ensures)
    ∙ ap (λ o. fault_of (found_of o)) c.in-None.is)
