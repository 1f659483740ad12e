use Rattle.std.proofs.Common.{◌<◌, ◌∙◌, sym, arith, length}
use Rattle.std.proofs.lemmas.Option.{slice_get-get_or}
use Rattle.std.specs.Prelude.{slice_index_or}
use Rattle.pb_owners.specs.declared.seat.Seat.{Seat}
use Rattle.pb_owners.specs.Passing.{HasLooked}
use Rattle.pb_owners.proofs.Pairs.{pairs_more, pairs_all}
use Rattle.pb_owners.proofs.together.with_letters.Goals as goal

pub has_letters-requires : goal.has_letters-requires
has_letters-requires g c =
    let seats = c.loop-at.seats in
    let at = c.loop-at.at in
    let low : at < length seats = let t = c.loop-at-test.true in let a = c.loop-at.auto.seats in omega arith in
    let x : Seat = slice_index_or seats at c.index-seats-at.result in
    c.requires.passes.at at x (sym (c.loop-at.invariant.left at (omega arith)) ∙ slice_get-get_or seats at c.index-seats-at.result low)

pub loop-at-preserved : goal.loop-at-preserved
loop-at-preserved g c =
    let seats = c.loop-at.seats in
    let at = c.loop-at.at in
    let low : at < length seats = let t = c.loop-at-test.true in let a = c.loop-at.auto.seats in omega arith in
    let x : Seat = slice_index_or seats at c.index-seats-at.result in
    pairs_more (λ i. HasLooked c.args.post.now) c.args.seats.now seats at x c.has_letters.new.seat c.loop-at.invariant (slice_get-get_or seats at c.index-seats-at.result low) (λ _. c.has_letters.ensures)

pub returns : goal.returns
returns g c = pairs_all (λ i. HasLooked c.args.post.now) c.args.seats.now c.loop-at.seats c.loop-at.at (let t = c.loop-at-test.false in let a = c.loop-at.auto.seats in omega arith) c.loop-at.invariant
