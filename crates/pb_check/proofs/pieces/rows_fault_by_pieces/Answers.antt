use Rattle.std.proofs.Common.{◌≡◌, ℕ, ◌+◌, Option, length, sym, ap, ◌∙◌, subst, arith}
use Rattle.pb_check.specs.declared.fault.CertificateFault.{CertificateFault}
use Rattle.pb_check.specs.Pieces.{IsFirstIn, fault_of, found_of, IsOfWorkers}
use Rattle.pb_check.specs.RowsToJudge.{fault_by, fault_in_place}
use Rattle.pb_check.proofs.Shares.{all_first}
use Rattle.pb_check.proofs.pieces.rows_fault_by_pieces.Goals as goal

pub returns-in-Some-clause-fault : goal.returns-in-Some-clause-fault
returns-in-Some-clause-fault g c =
    let rule = fault_by c.args.judged.now in
    let fault : ℕ → Option CertificateFault = fault_in_place c.args.judged.now in
    let workers = c.workers_with_pieces-workers.result in
    let busy = length c.split_at_mut-busy.result.0.now in
    let long : 0 + busy ≡ workers = (let e = c.split_at_mut-busy.ensures.front_len in omega (arith, e)) in
    let h : IsFirstIn fault (length c.args.judged.now.rows.now) (IsOfWorkers c.args.piece workers 0 (0 + busy)) (found_of c.in_ok-found.found) = c.in_ok-found.ensures.first in
    sym (all_first rule c.args.judged.now.line c.args.judged.now.rows.now c.args.piece workers c.requires.piece c.workers_with_pieces-workers.ensures.one (found_of c.in_ok-found.found)
    (subst (λ n. IsFirstIn fault (length c.args.judged.now.rows.now) (IsOfWorkers c.args.piece workers 0 n) (found_of c.in_ok-found.found)) long h)
    ∙ ap (λ o. fault_of (found_of o)) c.in-Some.is)

pub returns-in-None-clause-fault : goal.returns-in-None-clause-fault
returns-in-None-clause-fault g c =
    let rule = fault_by c.args.judged.now in
    let fault : ℕ → Option CertificateFault = fault_in_place c.args.judged.now in
    let workers = c.workers_with_pieces-workers.result in
    let busy = length c.split_at_mut-busy.result.0.now in
    let long : 0 + busy ≡ workers = (let e = c.split_at_mut-busy.ensures.front_len in omega (arith, e)) in
    let h : IsFirstIn fault (length c.args.judged.now.rows.now) (IsOfWorkers c.args.piece workers 0 (0 + busy)) (found_of c.in_ok-found.found) = c.in_ok-found.ensures.first in
    sym (all_first rule c.args.judged.now.line c.args.judged.now.rows.now c.args.piece workers c.requires.piece c.workers_with_pieces-workers.ensures.one (found_of c.in_ok-found.found)
    (subst (λ n. IsFirstIn fault (length c.args.judged.now.rows.now) (IsOfWorkers c.args.piece workers 0 n) (found_of c.in_ok-found.found)) long h)
    ∙ ap (λ o. fault_of (found_of o)) c.in-None.is)
