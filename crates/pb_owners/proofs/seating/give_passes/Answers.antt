use Rattle.std.proofs.Common.{◌≡◌, subst, arith, slice_index_or}
use Rattle.std.proofs.lemmas.Option.{slice_get-get_or}
use Rattle.pb_mail.specs.Passes.{owners_of}
use Rattle.pb_owners.specs.declared.seat.Seat.{Seat}
use Rattle.pb_owners.specs.Passing.{IsSplitting}
use Rattle.pb_owners.proofs.Starting.{split_more, split_fresh, all_split}
use Rattle.pb_owners.proofs.Loops.{given_more, given_all}
use Rattle.pb_owners.proofs.seating.give_passes.Goals as goal

pub loop-at-preserved : goal.loop-at-preserved
loop-at-preserved g c =
    let seats = c.loop-at.seats in
    let at = c.loop-at.at in
    let x : Seat = slice_index_or seats at c.index-seats-at.result in
    let is = slice_get-get_or seats at c.index-seats-at.result (let t = c.loop-at-test.true in let a = c.loop-at.auto.seats in omega arith) in
    let e = c.in-Ok.ensures in
    let h = c.loop-at.invariant.splitting in
    record {
      pairs = given_more c.args.post.now c.args.seats.now seats at x c.in-Ok.pass (let a = c.loop-at.auto.at in omega arith) c.loop-at.invariant.pairs is
          (split_fresh c.args.post.now at c.loop-at.first c.split.new.pass c.in-Ok.pass h e.views (let a = c.loop-at.auto.at in omega arith) e.given e.given_number);
      splitting = split_more c.args.post.now at c.loop-at.first c.split.new.pass c.in-Ok.pass h e.views e.own e.number e.made;
    }

pub returns : goal.returns
returns g c =
    let seats = c.loop-at.seats in
    let x : Seat = slice_index_or seats 0 c.index-seats-0.result in
    let is = slice_get-get_or seats 0 c.index-seats-0.result (let a = c.loop-at.auto.seats in let m = c.requires.many in let s = c.requires.some in omega arith) in
    let all : c.loop-at.at ≡ owners_of c.args.post.now = (let t = c.loop-at-test.false in let e = c.loop-at.auto.at-end in let m = c.requires.many in let s = c.requires.some in omega arith) in
    given_all c.args.post.now c.args.seats.now seats c.loop-at.at x c.loop-at.first (let t = c.loop-at-test.false in let a = c.loop-at.auto.seats in omega arith) c.loop-at.invariant.pairs is
    (all_split c.args.post.now c.loop-at.first (subst (λ n. IsSplitting c.args.post.now n c.loop-at.first) all c.loop-at.invariant.splitting))
