use Rattle.std.proofs.Common.{rules, ◌≡◌, ℕ, ◌+◌, ◌/◌, ◌≤◌, Option, length, sym, subst, arith}
use Rattle.pb_check.specs.declared.fault.CertificateFault.{CertificateFault}
use Rattle.pb_check.specs.Pieces.{IsFirstIn, found_of, IsOfWorkers}
use Rattle.pb_check.specs.RowsToJudge.{fault_in_place}
use Rattle.pb_check.proofs.Firsts.{earlier_is_first}
use Rattle.pb_check.proofs.Shares.{first_half, second_half, either_half}
use Rattle.pb_check.proofs.pieces.+fn-judge_shares-join_mut+arg2+fn-judge_shares-join_mut+arg3+judge_shares.Goals as goal

pub returns-clause-first : goal.returns-clause-first
returns-clause-first g t c =
    let fault : ℕ → Option CertificateFault = fault_in_place c.args.judged.now in
    let many = length c.args.judged.now.rows.now in
    let mid = c.args.first + length c.args.estimators.now / 2 in
    let high = c.args.first + length c.args.estimators.now in
    let one : IsFirstIn fault many (IsOfWorkers c.args.division.piece c.args.division.workers c.args.first mid) (found_of c.in_ok-one.field-0) = search rules in
    let rest = length c.split_at_mut-front.result.1.now in
    let behind : IsFirstIn fault many (IsOfWorkers c.args.division.piece c.args.division.workers mid (mid + rest)) (found_of c.in_ok-other.field-0) = search rules in
    let end : mid + rest ≡ high = (let b = c.split_at_mut-front.ensures.back_len in omega (arith, b)) in
    let other = subst (λ n. IsFirstIn fault many (IsOfWorkers c.args.division.piece c.args.division.workers mid n) (found_of c.in_ok-other.field-0)) end behind in
    let le : mid ≤ high = omega arith in
    subst (IsFirstIn fault many (IsOfWorkers c.args.division.piece c.args.division.workers c.args.first high)) (sym c.earlier.ensures)
    (earlier_is_first fault many (IsOfWorkers c.args.division.piece c.args.division.workers c.args.first mid) (IsOfWorkers c.args.division.piece c.args.division.workers mid high) (IsOfWorkers c.args.division.piece c.args.division.workers c.args.first high)
    (found_of c.in_ok-one.field-0) (found_of c.in_ok-other.field-0)
    (λ place. either_half c.args.division.piece c.args.division.workers c.args.first mid high place)
    (λ place. first_half c.args.division.piece c.args.division.workers c.args.first mid high place le)
    (λ place. second_half c.args.division.piece c.args.division.workers c.args.first mid high place (omega arith))
    one other)
