use Rattle.std.proofs.Common.{◌≡◌, ◌+◌, ◌<◌, List, length, subst, arith}
use Rattle.pb_estimate.specs.declared.exploration.AtomCost.{AtomCost}
use Rattle.pb_estimate.specs.declared.exploration.AtomCost.TheVariants.{Open}
use Rattle.pb_estimate.specs.Exploring.{known_in, OpensAreFrom}
use Rattle.pb_estimate.proofs.Entries.{no_less, no_open}
use Rattle.pb_estimate.proofs.exploration.Exploration.next_in_buckets.Goals as goal

pub returns-in-Some-clause-least : goal.returns-in-Some-clause-least
returns-in-Some-clause-least c =
    let least : OpensAreFrom (c.args.level + c.loop-step.step) c.args.self.now.costs.items = no_less c.args.self.now.costs.items c.args.level c.requires.level c.loop-step.step c.loop-step.invariant.none in
    record {
      inside = subst (λ (costs : List AtomCost). c.in-Some.atom < length costs) c.loop-step.invariant.same c.in-Some.ensures.taken.0;
      is = subst (λ (costs : List AtomCost). known_in costs c.in-Some.atom ≡ Open (c.args.level + c.loop-step.step)) c.loop-step.invariant.same c.in-Some.ensures.taken.1;
      least = least;
    }

pub returns-clause-none : goal.returns-clause-none
returns-clause-none c = λ kept. no_open c.args.self.now.costs.items c.args.level c.requires.level (λ step less. c.loop-step.invariant.none step (omega (arith, less, c.loop-step-test.false)))
