use Rattle.std.proofs.Common.{refl, arith, length}
use Rattle.std.proofs.lemmas.Option.{slice_get_read}
use Rattle.pb_owners.specs.declared.seat.Seat.{Seat}
use Rattle.pb_owners.proofs.Loops.{none_opened, none_beyond}
use Rattle.pb_owners.proofs.rounds.any_opened.Goals as goal

pub loop-at-preserved : goal.loop-at-preserved
loop-at-preserved c =
    let seats = c.args.seats.now in
    let at = c.loop-at.at in
    let x : Seat = c.index-seats-at.result in
    none_opened seats at x c.loop-at.invariant (slice_get_read seats (length seats) at x refl (let t = c.loop-at-test.true in omega arith) c.index-seats-at.is) (c.if-has_opened.ensures.none refl)

pub returns-clause-none : goal.returns-clause-none
returns-clause-none c = λ _ h. none_beyond c.args.seats.now c.loop-at.at (let t = c.loop-at-test.false in omega arith) c.loop-at.invariant h.0 h.1
