use Rattle.std.proofs.Common.{◌≡◌, ◌∙◌, ap, sym, subst, arith, length, map, drop, take_at, List}
use Rattle.pb_owners.specs.declared.seat.Seat.{Seat}
use Rattle.pb_owner.specs.Plans.{space_in, guide_in, weight_in}
use Rattle.pb_owners.specs.Plans.{HasTools}
use Rattle.pb_owners.specs.Seats.{Each}
use Rattle.pb_owners.specs.Between.{opening_mailed}
use Rattle.pb_owners.specs.Shares.{share_of}
use Rattle.pb_owners.proofs.Listing.{length_shares}
use Rattle.pb_owners.proofs.Ending.{searched_shares, end_shares, between_seats}
use Rattle.pb_owners.proofs.rounds.search.Goals as goal

pub run_rounds-requires-clause-opening : goal.run_rounds-requires-clause-opening
run_rounds-requires-clause-opening g c κs within =
    between_seats c.args.plan.now.owners (weight_in c.args.plan.now) (opening_mailed (space_in c.args.plan.now) (guide_in c.args.plan.now) (weight_in c.args.plan.now)) c.as_mut_slice.result.now c.args.shares.items
    (ap (λ (l : List Seat). map share_of l) c.as_mut_slice.ensures.value ∙ c.in_ok-seats.ensures.shares) c.requires.opening

pub run_rounds-requires-clause-many : goal.run_rounds-requires-clause-many
run_rounds-requires-clause-many g c κs within =
    let same = ap length (ap (λ (l : List Seat). map share_of l) c.as_mut_slice.ensures.value ∙ c.in_ok-seats.ensures.shares) in
    let many = c.requires.many in let k = c.args.shares.ok.0 in omega (arith, length_shares c.as_mut_slice.result.now, same, many, k)

pub run_rounds-requires-clause-tools : goal.run_rounds-requires-clause-tools
run_rounds-requires-clause-tools g c κs within = subst (λ (l : List Seat). Each (λ i. HasTools c.args.plan.now) l) (sym c.as_mut_slice.ensures.value) c.in_ok-seats.ensures.tools

pub returns-clause-searched : goal.returns-clause-searched
returns-clause-searched g c =
    let news = c.run_rounds.new.seats in
    let k = c.in_ok-seats.seats.len in
    let many : length news ≡ k = let a = c.run_rounds.auto.seats in let b = ap length c.as_mut_slice.ensures.value in let l = c.in_ok-seats.seats.ok.0 in omega arith in
    searched_shares (space_in c.args.plan.now) (guide_in c.args.plan.now) (weight_in c.args.plan.now) c.args.plan.now.owners c.args.settings.now.lot c.args.settings.now.budget c.in_ok-end.spent news c.shares_of.result.items
    (c.shares_of.ensures ∙ ap (λ (l : List Seat). map share_of l) (take_at news (drop (length news) c.in_ok-seats.seats.items) k many)) c.in_ok-end.ensures.searched.searched

pub returns-clause-end : goal.returns-clause-end
returns-clause-end g c =
    let news = c.run_rounds.new.seats in
    let k = c.in_ok-seats.seats.len in
    let many : length news ≡ k = let a = c.run_rounds.auto.seats in let b = ap length c.as_mut_slice.ensures.value in let l = c.in_ok-seats.seats.ok.0 in omega arith in
    end_shares c.args.settings.now.budget c.in_ok-end.spent c.in_ok-end.end news c.shares_of.result.items
    (c.shares_of.ensures ∙ ap (λ (l : List Seat). map share_of l) (take_at news (drop (length news) c.in_ok-seats.seats.items) k many)) c.in_ok-end.ensures.end
