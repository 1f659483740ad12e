use Rattle.std.proofs.Common.{◌≡◌, ◌∙◌, ◌++◌, ap, sym, arith, map, reverse, [], List}
use Rattle.pb_owners.specs.declared.seat.Seat.{Seat}
use Rattle.pb_owners.specs.Shares.{share_of}
use Rattle.pb_owners.proofs.Listing.{unseated, no_items}
use Rattle.pb_owners.proofs.rounds.shares_of.Goals as goal

pub loop-seat-preserved : goal.loop-seat-preserved
loop-seat-preserved c =
    let was = c.loop-seat.invariant in
    let pushed = c.push_reserved.ensures in
    record {
      shares = unseated c.loop-seat.seats.items c.pop.new.self.items c.loop-seat.shares.items c.push_reserved.new.self.items c.in-Some.seat c.in-Some.ensures.items pushed.items ∙ was.shares;
      room = let e = pushed.capacity in let k = was.room in omega arith;
      many = let p = pushed.len in let k = was.many in let l = c.in-Some.ensures.len in omega arith;
    }

pub returns : goal.returns
returns c =
    let none : c.loop-seat.seats.items ≡ [] = no_items c.loop-seat.seats.items (let e = c.in_default.ensures.cases.0 in let k = c.loop-seat.seats.ok.0 in omega arith) in
    c.reverse.ensures.items ∙ (ap (λ (l : List Seat). map share_of l ++ reverse c.loop-seat.shares.items) (sym none) ∙ c.loop-seat.invariant.shares)
