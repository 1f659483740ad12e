use Rattle.std.proofs.Common.{◌≡◌, ℕ, ◌+◌, ◌-◌, ◌*◌, ◌<◌, ◌≤◌, Option, length, min, sym, ap, ◌∙◌, subst, arith}
use Rattle.std.specs.Int.{div_ceil}
use Rattle.pb_check.specs.declared.fault.CertificateFault.{CertificateFault}
use Rattle.pb_check.specs.Pieces.{IsFirstIn, found_of, IsBetween}
use Rattle.pb_check.specs.RowsToJudge.{fault_in_place}
use Rattle.pb_check.proofs.Firsts.{is_found, is_none}
use Rattle.pb_check.proofs.Shares.{found_first, none_on, none_left, begins_inside, ends_outside, next_turn}
use Rattle.pb_check.proofs.pieces.judge_share.Goals as goal

pub returns-then-is_some-clause-first : goal.returns-then-is_some-clause-first
returns-then-is_some-clause-first g c =
    let fault : ℕ → Option CertificateFault = fault_in_place c.args.judged.now in
    let turns = c.loop-at.invariant.turns in
    let from_is : c.loop-at.at * c.args.division.piece ≡ (c.args.worker + turns * c.args.division.workers) * c.args.division.piece = ap (λ n. n * c.args.division.piece) c.loop-at.invariant.at_is in
    let what = is_found c.judge_piece-found.result (sym c.is_some.ensures ∙ c.if-is_some.true) in
    let less = subst (λ n. c.loop-at.at < div_ceil n c.args.division.piece) c.len-count.ensures (subst (λ n. c.loop-at.at < n) c.div_ceil-pieces.ensures c.loop-at-test.true) in
    let many = length c.args.judged.now.rows.now in
    found_first fault many c.args.division.piece c.args.division.workers c.args.worker turns (let a = c.requires.worker in omega (arith, a)) c.loop-at.invariant.none
    (c.loop-at.at * c.args.division.piece) (c.loop-at.at * c.args.division.piece + c.min.result) from_is (ap (λ n. c.loop-at.at * c.args.division.piece + n) (c.min.ensures ∙ ap (λ n. min c.args.division.piece (n - c.loop-at.at * c.args.division.piece)) c.len-count.ensures))
    (begins_inside many c.args.division.piece c.loop-at.at c.requires.piece less)
    (found_of c.judge_piece-found.result) what.0 what.1 c.judge_piece-found.ensures.first

pub loop-at-preserved : goal.loop-at-preserved
loop-at-preserved g c =
    let fault : ℕ → Option CertificateFault = fault_in_place c.args.judged.now in
    let turns = c.loop-at.invariant.turns in
    let from_is : c.loop-at.at * c.args.division.piece ≡ (c.args.worker + turns * c.args.division.workers) * c.args.division.piece = ap (λ n. n * c.args.division.piece) c.loop-at.invariant.at_is in
    let none = is_none c.judge_piece-found.result (sym c.is_some.ensures ∙ c.if-is_some.false) in
    let less = subst (λ n. c.loop-at.at < div_ceil n c.args.division.piece) c.len-count.ensures (subst (λ n. c.loop-at.at < n) c.div_ceil-pieces.ensures c.loop-at-test.true) in
    let many = length c.args.judged.now.rows.now in
    record {
      turns = turns + 1;
      at_is = next_turn c.args.worker c.args.division.workers turns c.loop-at.at c.loop-at.invariant.at_is;
      none = none_on fault many c.args.division.piece c.args.division.workers c.args.worker turns (let a = c.requires.worker in omega (arith, a)) c.loop-at.invariant.none
          (c.loop-at.at * c.args.division.piece) (c.loop-at.at * c.args.division.piece + c.min.result) from_is (ap (λ n. c.loop-at.at * c.args.division.piece + n) (c.min.ensures ∙ ap (λ n. min c.args.division.piece (n - c.loop-at.at * c.args.division.piece)) c.len-count.ensures))
          (begins_inside many c.args.division.piece c.loop-at.at c.requires.piece less)
          (subst (IsFirstIn fault many (IsBetween (c.loop-at.at * c.args.division.piece) (c.loop-at.at * c.args.division.piece + c.min.result))) none c.judge_piece-found.ensures.first);
      task = c.judge_piece-found.ensures.task;
    }

pub returns-clause-first : goal.returns-clause-first
returns-clause-first g c =
    let fault : ℕ → Option CertificateFault = fault_in_place c.args.judged.now in
    let turns = c.loop-at.invariant.turns in
    let many = length c.args.judged.now.rows.now in
    let over = subst (λ n. div_ceil n c.args.division.piece ≤ c.loop-at.at) c.len-count.ensures (subst (λ n. n ≤ c.loop-at.at) c.div_ceil-pieces.ensures (let test = c.loop-at-test.false in omega (arith, test))) in
    none_left fault many c.args.division.piece c.args.division.workers c.args.worker turns (let a = c.requires.worker in omega (arith, a)) c.loop-at.invariant.none
    (subst (λ n. many ≤ n * c.args.division.piece) c.loop-at.invariant.at_is (ends_outside many c.args.division.piece c.loop-at.at c.requires.piece over))
