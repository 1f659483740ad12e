use Rattle.std.proofs.Common.{refl}
use Rattle.pb_owners.proofs.Assembling.{all_ready, all_left, all_to_meet, may_take, all_tools, low_used, has_run}
use Rattle.pb_owners.proofs.round.run_with.Goals as goal

pub begin_all-requires-clause-ready : goal.begin_all-requires-clause-ready
begin_all-requires-clause-ready g c κs within =
    all_ready c.args.plan.now c.requires.plan c.args.post.now c.requires.post.owners_is c.args.seats.now c.give_passes.new.seats c.requires.to_run c.in_ok-give_passes.ensures

pub end_all-requires-clause-ready : goal.end_all-requires-clause-ready
end_all-requires-clause-ready g c κs within =
    all_left c.args.plan.now c.requires.plan c.args.post.now c.requires.post.owners_is c.args.seats.now c.give_passes.new.seats c.requires.to_run c.in_ok-give_passes.ensures c.begin_all.new.seats c.begin_all.ensures

pub meet_all-pass-requires-clause-to_meet : goal.meet_all-pass-requires-clause-to_meet
meet_all-pass-requires-clause-to_meet g c =
    all_to_meet c.args.plan.now c.requires.plan c.args.post.now c.requires.post.owners_is c.args.seats.now c.give_passes.new.seats c.requires.to_run c.in_ok-give_passes.ensures c.begin_all.new.seats c.begin_all.ensures
    (c.if-any_failed.ensures refl) c.end_all.new.seats c.end_all.ensures (c.if-any_failed-2.ensures refl)

pub clear-requires-clause-takes : goal.clear-requires-clause-takes
clear-requires-clause-takes g c =
    may_take c.args.plan.now c.requires.plan c.args.post.now c.requires.post.owners_is c.args.seats.now c.give_passes.new.seats c.requires.to_run c.in_ok-give_passes.ensures c.begin_all.new.seats c.begin_all.ensures
    (c.if-any_failed.ensures refl) c.end_all.new.seats c.end_all.ensures (c.if-any_failed-2.ensures refl) c.meet_all-pass.result c.meet_all-pass.ensures.met c.meet_all-pass.new.seats c.meet_all-pass.ensures.rest

pub clear-requires-clause-tools : goal.clear-requires-clause-tools
clear-requires-clause-tools g c =
    all_tools c.args.plan.now c.requires.plan c.args.post.now c.requires.post.owners_is c.args.seats.now c.give_passes.new.seats c.requires.to_run c.in_ok-give_passes.ensures c.begin_all.new.seats c.begin_all.ensures
    (c.if-any_failed.ensures refl) c.end_all.new.seats c.end_all.ensures (c.if-any_failed-2.ensures refl) c.meet_all-pass.result c.meet_all-pass.ensures.met c.meet_all-pass.new.seats c.meet_all-pass.ensures.rest

pub used-requires-clause-low : goal.used-requires-clause-low
used-requires-clause-low g c =
    low_used c.args.plan.now c.requires.plan c.args.post.now c.requires.post.owners_is c.args.seats.now c.give_passes.new.seats c.requires.to_run c.in_ok-give_passes.ensures c.begin_all.new.seats c.begin_all.ensures
    (c.if-any_failed.ensures refl) c.end_all.new.seats c.end_all.ensures (c.if-any_failed-2.ensures refl) c.meet_all-pass.result c.meet_all-pass.ensures.met c.meet_all-pass.new.seats c.meet_all-pass.ensures.rest
    c.clear.new.pass c.in_ok-clear.ensures.own c.in_ok-clear.ensures.kept c.clear.new.seats c.in_ok-clear.ensures.cleared c.agree.new.seats c.agree.ensures

pub returns : goal.returns
returns g c =
    has_run c.args.plan.now c.requires.plan c.args.post.now c.requires.post.owners_is c.args.seats.now c.give_passes.new.seats c.requires.to_run c.in_ok-give_passes.ensures c.begin_all.new.seats c.begin_all.ensures
    (c.if-any_failed.ensures refl) c.end_all.new.seats c.end_all.ensures (c.if-any_failed-2.ensures refl) c.meet_all-pass.result c.meet_all-pass.ensures.met c.meet_all-pass.new.seats c.meet_all-pass.ensures.rest
    c.clear.new.pass c.in_ok-clear.ensures.own c.in_ok-clear.ensures.kept c.clear.new.seats c.in_ok-clear.ensures.cleared c.agree.new.seats c.agree.ensures c.used.result c.used.ensures
