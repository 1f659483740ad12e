use Rattle.std.proofs.Common.{◌≡◌, ◌∙◌, sym, subst, arith, Option, Some, slice_index_or, rules}
use Rattle.std.specs.Prelude.{IsSome}
use Rattle.std.proofs.lemmas.Option.{slice_get-get_or}
use Rattle.pb_mail.specs.declared.pass.PostPass.{PostPass}
use Rattle.pb_owners.specs.declared.seat.Seat.{Seat}
use Rattle.pb_owners.specs.Passing.{IsWithoutPass}
use Rattle.pb_owners.proofs.Pairs.{pairs_none, pairs_more, pairs_all}
use Rattle.pb_owners.proofs.Loops.{pass_to_meet, met_first, met_more, met_all}
use Rattle.pb_owners.proofs.meeting.meet_all.Goals as goal

has_pass : (o : Option PostPass) (p : PostPass) → o ≡ Some p → IsSome o
has_pass o p e = subst IsSome (sym e) (search rules)

pub pass_of-pass-requires : goal.pass_of-pass-requires
pass_of-pass-requires g c =
    let seats = c.args.seats.now in
    let x : Seat = slice_index_or seats 0 c.index-seats-0.result in
    let t = c.requires.to_meet.at 0 x (slice_get-get_or seats 0 c.index-seats-0.result (let m = c.requires.many in let s = c.requires.some in omega arith)) in
    has_pass x.pass t.pass t.pass_is

pub loop-at-init : goal.loop-at-init
loop-at-init g c =
    let seats = c.args.seats.now in
    let x : Seat = slice_index_or seats 0 c.index-seats-0.result in
    let is = slice_get-get_or seats 0 c.index-seats-0.result (let m = c.requires.many in let s = c.requires.some in omega arith) in
    record {
      pairs = pairs_more (λ i. IsWithoutPass) seats seats 0 x c.pass_of-pass.new.seat (pairs_none (λ i. IsWithoutPass) seats) is (λ _. c.pass_of-pass.ensures.rest);
      met = met_first c.args.post.now seats c.requires.to_meet c.requires.many x c.pass_of-pass.result is c.pass_of-pass.ensures.pass;
    }

pub pass_of-other-requires : goal.pass_of-other-requires
pass_of-other-requires g c =
    let seats = c.loop-at.seats in
    let at = c.loop-at.at in
    let x : Seat = slice_index_or seats at c.index-seats-at.result in
    let is = slice_get-get_or seats at c.index-seats-at.result (let t = c.loop-at-test.true in let a = c.loop-at.auto.seats in omega arith) in
    let t = c.requires.to_meet.at at x (sym (c.loop-at.invariant.pairs.left at (omega arith)) ∙ is) in
    has_pass x.pass t.pass t.pass_is

pub meet-requires : goal.meet-requires
meet-requires g c =
    let seats = c.loop-at.seats in
    let at = c.loop-at.at in
    let x : Seat = slice_index_or seats at c.index-seats-at.result in
    let is = slice_get-get_or seats at c.index-seats-at.result (let t = c.loop-at-test.true in let a = c.loop-at.auto.seats in omega arith) in
    record {
      own = (
        c.loop-at.invariant.met.own,
        (pass_to_meet c.args.post.now x at c.pass_of-other.result (c.requires.to_meet.at at x (sym (c.loop-at.invariant.pairs.left at (omega arith)) ∙ is)) c.pass_of-other.ensures.pass).own,
      );
    }

pub loop-at-preserved : goal.loop-at-preserved
loop-at-preserved g c =
    let seats = c.loop-at.seats in
    let at = c.loop-at.at in
    let x : Seat = slice_index_or seats at c.index-seats-at.result in
    let is = slice_get-get_or seats at c.index-seats-at.result (let t = c.loop-at-test.true in let a = c.loop-at.auto.seats in omega arith) in
    record {
      pairs = pairs_more (λ i. IsWithoutPass) c.args.seats.now seats at x c.pass_of-other.new.seat c.loop-at.invariant.pairs is (λ _. c.pass_of-other.ensures.rest);
      met = met_more c.args.post.now c.args.seats.now c.requires.to_meet c.requires.many at c.loop-at.pass c.pass_of-other.result c.meet.new.pass x c.loop-at.invariant.met (sym (c.loop-at.invariant.pairs.left at (omega arith)) ∙ is) c.pass_of-other.ensures.pass
          c.meet.ensures.own c.meet.ensures.number c.meet.ensures.made c.meet.ensures.met;
    }

pub returns-clause-met : goal.returns-clause-met
returns-clause-met g c = met_all c.args.post.now c.args.seats.now c.requires.to_meet c.requires.many c.loop-at.at c.loop-at.pass (let t = c.loop-at-test.false in let a = c.loop-at.auto.seats in omega arith) c.loop-at.invariant.met

pub returns-clause-rest : goal.returns-clause-rest
returns-clause-rest g c = pairs_all (λ i. IsWithoutPass) c.args.seats.now c.loop-at.seats c.loop-at.at (let t = c.loop-at-test.false in let a = c.loop-at.auto.seats in omega arith) c.loop-at.invariant.pairs
