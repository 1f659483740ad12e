-- What all owners of a search have in common, and what each has for it.
use Rattle.std.specs.Prelude.{◌≡◌, ◌<◌, ◌≤◌, vec_capacity}
use Rattle.pb_model.specs.Space.{IsProper}
use Rattle.pb_model.specs.Weight.{IsWeight}
use Rattle.pb_task.specs.Parts.{greatest_cost, max_degree_of}
use Rattle.pb_estimate.specs.Tables.{IsOfTask}
use Rattle.pb_abstract.specs.Graph.{IsGraphOf}
use Rattle.pb_owner.specs.declared.plan.Plan.{Plan}
use Rattle.pb_owner.specs.Plans.{space_in, weight_in}
use Rattle.pb_owners.specs.declared.seat.Seat.{Seat}

-- the blocks are those of the task, and the weight and the number of owners are in range
pub record IsPlan (plan : Plan) : Type 0 where
  pub abstraction : IsGraphOf plan.task.now plan.abstraction.now
  pub proper : IsProper (space_in plan) greatest_cost
  pub weight : IsWeight (weight_in plan)
  pub some : 0 < plan.owners
  pub few : plan.owners ≤ 64

-- the owner's rows have the weight of the search, and it has an estimator and room for successors
pub record HasTools (plan : Plan) (seat : Seat) : Type 0 where
  pub tables : IsOfTask seat.estimator plan.task.now plan.choice.now
  pub room : max_degree_of plan.task.now ≤ vec_capacity seat.succs
  pub of_weight : seat.share.bundle.weight ≡ weight_in plan
