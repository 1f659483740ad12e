use Rattle.std.proofs.Common.{◌≤◌, length, is_some, arith}
use Rattle.pb_estimate.specs.Exploring.{count, cost_in}
use Rattle.pb_estimate.proofs.Rounds.{count_is_small}
use Rattle.pb_estimate.proofs.exploration.Exploration.first_open.Goals as goal

pub loop-first-init : goal.loop-first-init
loop-first-init c =
    let few : count (λ atom. is_some (cost_in c.args.self.now.costs.items atom)) (length c.args.self.now.costs.items) ≤ length c.args.self.now.costs.items =
    count_is_small (λ atom. is_some (cost_in c.args.self.now.costs.items atom)) (length c.args.self.now.costs.items) in
    record {
      reached = c.requires.is.first;
      places = omega (arith, c.requires.is.reached, c.requires.is.places);
      passed = c.requires.is.passed;
    }

pub bounds-queue-first : goal.bounds-queue-first
bounds-queue-first c = omega (arith, c.as_slice-queue.ensures.len, c.args.self.now.queue.ok.0, c.loop-first.invariant.places, c.loop-first-test.true)

pub overflow_add-first : goal.overflow_add-first
overflow_add-first c = omega (arith, c.loop-first.invariant.places, c.requires.is.places, c.requires.is.few, c.loop-first-test.true)
