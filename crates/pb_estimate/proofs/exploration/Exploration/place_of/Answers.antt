use Rattle.std.proofs.Common.{◌≤◌, length, is_some, arith}
use Rattle.pb_estimate.specs.Exploring.{count, cost_in}
use Rattle.pb_estimate.proofs.Rounds.{count_is_small}
use Rattle.pb_estimate.proofs.exploration.Exploration.place_of.Goals as goal

pub loop-at-init : goal.loop-at-init
loop-at-init c =
    let few : count (λ atom. is_some (cost_in c.args.self.now.costs.items atom)) (length c.args.self.now.costs.items) ≤ length c.args.self.now.costs.items =
    count_is_small (λ atom. is_some (cost_in c.args.self.now.costs.items atom)) (length c.args.self.now.costs.items) in
    record { places = omega (arith, c.requires.is.reached, c.requires.is.places) }
