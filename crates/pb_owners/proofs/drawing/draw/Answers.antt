use Rattle.std.proofs.Common.{◌≡◌, ◌<◌, ◌∙◌, min, sym, subst, arith, length, slice_index_or}
use Rattle.std.proofs.lemmas.Option.{slice_get-get_or}
use Rattle.pb_model.specs.Store.{HasOpened}
use Rattle.pb_lists.specs.Bundle.{row_of}
use Rattle.pb_owners.specs.declared.seat.Seat.{Seat}
use Rattle.pb_owners.specs.Rounds.{IsDrawn}
use Rattle.pb_owners.proofs.Pairs.{pairs_all, some_is}
use Rattle.pb_owners.proofs.Loops.{drawn_more, drawn_sum}
use Rattle.pb_owners.proofs.drawing.draw.Goals as goal

pub loop-at-preserved : goal.loop-at-preserved
loop-at-preserved c =
    let seats = c.loop-at.seats in
    let at = c.loop-at.at in
    let low : at < length seats = let t = c.loop-at-test.true in let a = c.loop-at.auto.seats in omega arith in
    let one : Seat = slice_index_or seats at c.index-seats-at.result in
    let two : Seat = slice_index_or seats at c.index-seats-at-in-loop-at.result in
    let is = slice_get-get_or seats at c.index-seats-at-in-loop-at.result low in
    let same : one ≡ two = some_is one two (sym (slice_get-get_or seats at c.index-seats-at.result low) ∙ is) in
    let e = c.quota_for-quota.ensures in
    let q = c.quota_for-quota.result in
    let opened = subst (λ (s : Seat). HasOpened (row_of s.share.bundle) → q ≡ min c.args.lot c.loop-at.rest) same e.opened in
    let none = subst (λ (s : Seat). (HasOpened (row_of s.share.bundle) → ⊥) → q ≡ 0) same e.none in
    record {
      pairs = drawn_more c.args.lot c.args.left c.args.seats.now seats at c.loop-at.rest q two c.loop-at.invariant.pairs c.loop-at.invariant.sum is opened none e.within;
      sum = drawn_sum c.args.lot c.args.left c.args.seats.now seats at c.loop-at.rest q two c.loop-at.invariant.pairs c.loop-at.invariant.sum is opened none e.within;
    }

pub returns-clause-drawn : goal.returns-clause-drawn
returns-clause-drawn c = pairs_all (IsDrawn c.args.lot c.args.left c.loop-at.seats) c.args.seats.now c.loop-at.seats c.loop-at.at (let t = c.loop-at-test.false in let a = c.loop-at.auto.seats in omega arith) c.loop-at.invariant.pairs
