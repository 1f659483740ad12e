-- What all owners of a search have in common.
use Rattle.pb_model.specs.Space.{Space}
use Rattle.pb_model.specs.Weight.{Weight}
use Rattle.pb_model.specs.Guide.{Guide}
use Rattle.pb_task.specs.Parts.{space_of}
use Rattle.pb_owner.specs.declared.plan.Plan.{Plan}
use Rattle.pb_owner.specs.Shares.{guide_for, weight_of}

abbrev pub space_in : Plan → Space
space_in plan = space_of plan.task.now

abbrev pub guide_in : Plan → Guide
guide_in plan = guide_for plan.task.now plan.abstraction.now plan.owners plan.choice.now

abbrev pub weight_in : Plan → Weight
weight_in plan = weight_of plan.weight
