use Rattle.std.proofs.Common.{◌≡◌, ◌∙◌, ◌++◌, ap, sym, subst, arith, map, reverse, [], List, All}
use Rattle.std.proofs.lemmas.List.Elements.{All-push}
use Rattle.pb_owner.specs.declared.share.Share.{Share}
use Rattle.pb_owners.specs.declared.seat.Seat.{Seat}
use Rattle.pb_owner.specs.Plans.{weight_in}
use Rattle.pb_owners.specs.Plans.{HasTools}
use Rattle.pb_owners.specs.Shares.{share_of}
use Rattle.pb_owners.proofs.Listing.{seated, no_items, all_front, all_last, each_reversed}
use Rattle.pb_owners.proofs.rounds.seats_for.Goals as goal

pub new-requires-clause-weight : goal.new-requires-clause-weight
new-requires-clause-weight c = all_last (λ (s : Share). s.bundle.weight ≡ weight_in c.args.plan.now) c.loop-share.shares.items c.pop.new.self.items c.in-Some.share c.in-Some.ensures.items c.loop-share.invariant.weights

pub loop-share-preserved : goal.loop-share-preserved
loop-share-preserved c =
    let was = c.loop-share.invariant in
    let pushed = c.push_reserved.ensures in
    let e = c.in-Ok.ensures in
    record {
      shares = seated c.loop-share.shares.items c.pop.new.self.items c.loop-share.seats.items c.push_reserved.new.self.items c.in-Some.share c.in-Ok.seat c.in-Some.ensures.items pushed.items e.share ∙ was.shares;
      tools = subst (All (HasTools c.args.plan.now)) (sym pushed.items) (All-push (HasTools c.args.plan.now) c.loop-share.seats.items c.in-Ok.seat was.tools e.tools);
      weights = all_front (λ (s : Share). s.bundle.weight ≡ weight_in c.args.plan.now) c.loop-share.shares.items c.pop.new.self.items c.in-Some.share c.in-Some.ensures.items was.weights;
      room = pushed.capacity ∙ was.room;
      many = let p = pushed.len in let k = was.many in let l = c.in-Some.ensures.len in omega arith;
    }

pub returns-clause-shares : goal.returns-clause-shares
returns-clause-shares c =
    let none : c.loop-share.shares.items ≡ [] = no_items c.loop-share.shares.items (let e = c.in_default.ensures.cases.0 in let k = c.loop-share.shares.ok.0 in omega arith) in
    ap (λ (l : List Seat). map share_of l) c.reverse.ensures.items ∙ (ap (λ (l : List Share). l ++ map share_of (reverse c.loop-share.seats.items)) (sym none) ∙ c.loop-share.invariant.shares)

pub returns-clause-tools : goal.returns-clause-tools
returns-clause-tools c = each_reversed (HasTools c.args.plan.now) c.loop-share.seats.items c.reverse.new.self.items c.reverse.ensures.items c.loop-share.invariant.tools
