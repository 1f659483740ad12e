use Rattle.std.proofs.Common.{rules, ℕ, Option, length, sym, subst}
use Rattle.pb_check.specs.declared.fault.CertificateFault.{CertificateFault}
use Rattle.pb_check.specs.Pieces.{IsFirstIn, IsBetween, tested_at, found_of}
use Rattle.pb_check.proofs.RowTests.{first_of_both}
use Rattle.pb_check.proofs.row_tests.+fn-test_shares-join+arg2+test_shares.Goals as goal

pub returns : goal.returns
returns g t c =
    let fault : ℕ → Option CertificateFault = tested_at c.args.test c.args.task.now c.args.line c.args.rows.now in
    let many = length c.args.rows.now in
    let middle = c.last_share-middle.result in
    let one : IsFirstIn fault many (IsBetween 0 middle) (found_of c.join-one.result.0) = search rules in
    let other : IsFirstIn fault many (IsBetween middle c.args.to) (found_of c.join-one.result.1) = search rules in
    subst (IsFirstIn fault many (IsBetween 0 c.args.to)) (sym c.earlier.ensures)
    (first_of_both fault many 0 middle c.args.to (found_of c.join-one.result.0) (found_of c.join-one.result.1) c.last_share-middle.ensures.from c.last_share-middle.ensures.to one other)
