use Rattle.std.proofs.Common.{◌≢◌, ◌+◌, ◌<◌, ◌≤◌, ◌^◌, ℕ, List, None, sym, subst, arith}
use Rattle.pb_model.specs.Space.{Space}
use Rattle.pb_model.specs.Guide.{Guide}
use Rattle.pb_model.specs.Store.{Store, row_at}
use Rattle.pb_model.specs.Plan.{IsPlan}
use Rattle.pb_task.specs.Parts.{space_of}
use Rattle.pb_lists.specs.Store.{IsPlaced, guide_to, store_with}
use Rattle.pb_cert.specs.Traced.{IsTrace, g_at}
use Rattle.pb_cert.proofs.Back.{IsWay, placed, at_start, not_at_start, first_costs, first_at, way_begins, falls, fits, way_goes_on, way_is_plan, way_is_trace, way_is_cheapest}
use Rattle.pb_cert.proofs.tracing.trace.Goals as goal

pub back-init : goal.back-init
back-init g c =
    let space : Space = space_of c.args.task.now in
    let guide : Guide = guide_to (g.S.Store.home c.args.store.now) in
    let store : Store = store_with (g.S.Store.rows c.args.store.now) (g.S.Store.weight c.args.store.now) None in
    let at_home : IsPlaced guide.home store.rows = placed space guide.home store.rows store.weight c.requires.sound in
    let goal_g : ℕ = g_at (row_at guide store c.in-Some.goal.state) in
    let first = first_at space guide store at_home c.in-Some.goal.state c.in-Some.goal.g c.in-Some.ensures.some in
    record {
      start = c.initial-start.ensures.start;
      first = first;
      small = subst (λ n. n < 2 ^ 64) (sym (first_costs space guide store at_home c.in-Some.goal.state c.in-Some.goal.g c.in-Some.ensures.some)) c.in-Some.ensures.small;
      way = subst (λ (actions : List ℕ). IsWay space guide store c.in-Some.goal.state goal_g c.in-Some.goal.state actions 0) (sym c.new-actions.ensures.items)
          (way_begins space guide store at_home c.in-Some.goal.state goal_g first);
    }

pub last_step-step-requires-clause-found : goal.last_step-step-requires-clause-found
last_step-step-requires-clause-found g c = c.back.invariant.way.found

pub overflow_add-cost : goal.overflow_add-cost
overflow_add-cost g c =
    let space : Space = space_of c.args.task.now in
    let guide : Guide = guide_to (g.S.Store.home c.args.store.now) in
    let store : Store = store_with (g.S.Store.rows c.args.store.now) (g.S.Store.weight c.args.store.now) None in
    let goal_g : ℕ = g_at (row_at guide store c.in-Some.goal.state) in
    let other : c.back.at ≢ space.start = not_at_start c.back.at c.initial-start.result space.start c.back-test.ensures c.back.invariant.start in
    let within : c.back.cost + c.last_step-step.result.cost ≤ goal_g =
    fits space guide store c.in-Some.goal.state goal_g c.back.at c.last_step-step.result.action c.last_step-step.result.parent c.last_step-step.result.cost other c.last_step-step.ensures
    c.back.actions.items c.back.cost c.back.invariant.way in
    omega (arith, within, c.back.invariant.small)

pub back-smaller : goal.back-smaller
back-smaller g c =
    let space : Space = space_of c.args.task.now in
    let guide : Guide = guide_to (g.S.Store.home c.args.store.now) in
    let store : Store = store_with (g.S.Store.rows c.args.store.now) (g.S.Store.weight c.args.store.now) None in
    let goal_g : ℕ = g_at (row_at guide store c.in-Some.goal.state) in
    let other : c.back.at ≢ space.start = not_at_start c.back.at c.initial-start.result space.start c.back-test.ensures c.back.invariant.start in
    falls space guide store c.in-Some.goal.state goal_g c.back.at c.last_step-step.result.action c.last_step-step.result.parent c.last_step-step.result.cost other c.last_step-step.ensures

pub back-preserved : goal.back-preserved
back-preserved g c =
    let space : Space = space_of c.args.task.now in
    let guide : Guide = guide_to (g.S.Store.home c.args.store.now) in
    let store : Store = store_with (g.S.Store.rows c.args.store.now) (g.S.Store.weight c.args.store.now) None in
    let goal_g : ℕ = g_at (row_at guide store c.in-Some.goal.state) in
    let other : c.back.at ≢ space.start = not_at_start c.back.at c.initial-start.result space.start c.back-test.ensures c.back.invariant.start in
    record {
      start = c.back.invariant.start;
      first = c.back.invariant.first;
      small = c.back.invariant.small;
      way = subst (λ (actions : List ℕ). IsWay space guide store c.in-Some.goal.state goal_g c.last_step-step.result.parent actions (c.back.cost + c.last_step-step.result.cost)) (sym c.in_ok-push.ensures.items)
          (way_goes_on space guide store c.in-Some.goal.state goal_g c.back.at c.last_step-step.result.action c.last_step-step.result.parent c.last_step-step.result.cost other c.last_step-step.ensures
          c.back.actions.items c.back.cost c.back.invariant.way);
    }

pub returns-clause-plan : goal.returns-clause-plan
returns-clause-plan g c =
    let space : Space = space_of c.args.task.now in
    let guide : Guide = guide_to (g.S.Store.home c.args.store.now) in
    let store : Store = store_with (g.S.Store.rows c.args.store.now) (g.S.Store.weight c.args.store.now) None in
    subst (λ (actions : List ℕ). IsPlan space (record { actions = actions; cost = c.back.cost })) (sym c.reverse.ensures.items)
    (way_is_plan space guide store c.in-Some.goal.state (g_at (row_at guide store c.in-Some.goal.state)) c.back.at c.back.actions.items c.back.cost c.back.invariant.first
    (at_start c.back.at c.initial-start.result space.start c.back-test.ensures c.back.invariant.start) c.back.invariant.way)

pub returns-clause-cheapest : goal.returns-clause-cheapest
returns-clause-cheapest g c =
    let space : Space = space_of c.args.task.now in
    let guide : Guide = guide_to (g.S.Store.home c.args.store.now) in
    let store : Store = store_with (g.S.Store.rows c.args.store.now) (g.S.Store.weight c.args.store.now) None in
    way_is_cheapest space guide store c.in-Some.goal.state (g_at (row_at guide store c.in-Some.goal.state)) c.back.at c.back.actions.items c.back.cost c.back.invariant.first
    (at_start c.back.at c.initial-start.result space.start c.back-test.ensures c.back.invariant.start) c.back.invariant.way

pub returns-clause-traced : goal.returns-clause-traced
returns-clause-traced g c =
    let space : Space = space_of c.args.task.now in
    let guide : Guide = guide_to (g.S.Store.home c.args.store.now) in
    let store : Store = store_with (g.S.Store.rows c.args.store.now) (g.S.Store.weight c.args.store.now) None in
    subst (IsTrace space guide store) (sym c.reverse.ensures.items)
    (way_is_trace space guide store c.in-Some.goal.state (g_at (row_at guide store c.in-Some.goal.state)) c.back.at c.back.actions.items c.back.cost c.back.invariant.first
    (at_start c.back.at c.initial-start.result space.start c.back-test.ensures c.back.invariant.start) c.back.invariant.way)
