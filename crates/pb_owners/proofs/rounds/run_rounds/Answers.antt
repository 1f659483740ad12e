use Rattle.std.proofs.Common.{refl, arith}
use Rattle.pb_owner.specs.Plans.{space_in, guide_in, weight_in}
use Rattle.pb_owners.specs.Shares.{seat_at}
use Rattle.pb_owners.proofs.Repeating.{searched_none, opening_opened}
use Rattle.pb_owners.proofs.Ending.{to_round, searched_on}
use Rattle.pb_owners.proofs.rounds.run_rounds.Goals as goal

pub run_round-requires-clause-ready : goal.run_round-requires-clause-ready
run_round-requires-clause-ready g c κs within = to_round c.args.plan.now c.requires.plan c.args.lot c.args.budget c.loop.spent c.requires.budget.1 c.loop.seats c.loop.invariant.2 c.loop.invariant.3 c.loop.invariant.4

pub returns-then-not-any_opened-clause-searched : goal.returns-then-not-any_opened-clause-searched
returns-then-not-any_opened-clause-searched g c =
    searched_on c.args.plan.now c.requires.plan c.args.lot c.args.budget c.loop.spent c.requires.budget.1 c.loop.seats c.loop.invariant.2 c.in_ok-spent.field-0 c.run_round.new.seats c.in_ok-spent.ensures

pub returns-then-spent-budget-clause-searched : goal.returns-then-spent-budget-clause-searched
returns-then-spent-budget-clause-searched g c =
    searched_on c.args.plan.now c.requires.plan c.args.lot c.args.budget c.loop.spent c.requires.budget.1 c.loop.seats c.loop.invariant.2 c.in_ok-spent.field-0 c.run_round.new.seats c.in_ok-spent.ensures

pub loop-init : goal.loop-init
loop-init g c =
    let plan = c.args.plan.now in
    let at = seat_at c.args.seats.now in (
      tt,
      tt,
      record {
        searched = searched_none (space_in plan) (guide_in plan) (weight_in plan) plan.owners c.args.lot c.args.budget at c.requires.opening;
        within = omega arith;
        many = c.requires.many;
        tools = c.requires.tools;
      },
      opening_opened (space_in plan) (guide_in plan) (weight_in plan) plan.owners c.args.lot c.args.budget at c.requires.opening,
      c.requires.budget.0,
    )

pub loop-preserved : goal.loop-preserved
loop-preserved g c =
    let on = searched_on c.args.plan.now c.requires.plan c.args.lot c.args.budget c.loop.spent c.requires.budget.1 c.loop.seats c.loop.invariant.2 c.in_ok-spent.field-0 c.run_round.new.seats c.in_ok-spent.ensures in (
      tt,
      tt,
      on,
      c.if-not-any_opened.ensures.opened refl,
      (let w = on.within in let t = c.if-spent-budget.false in omega arith),
    )
