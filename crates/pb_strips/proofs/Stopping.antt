-- What an error of the layers below tells of a stop, it tells as one of a task.
use Rattle.pb_pddl.specs.declared.tree.Domain.{Domain}
use Rattle.pb_pddl.specs.declared.tree.Problem.{Problem}
use Rattle.pb_lifted.specs.declared.lifted.Lifted.{Lifted}
use Rattle.pb_lifted.specs.declared.refusal.LiftedError.{LiftedError}
use Rattle.pb_lifted.specs.declared.refusal.LiftedError.TheVariants as lifting
use Rattle.pb_ground.specs.declared.error.GroundError.{GroundError}
use Rattle.pb_ground.specs.declared.error.GroundError.TheVariants as ground
use Rattle.pb_ground.specs.Errors.{TellsAtoms}
use Rattle.pb_ground.specs.Looks as grounding
use Rattle.pb_ground.specs.Looks.{LooksValue}
use Rattle.pb_reach.specs.declared.error.ReachError.{ReachError}
use Rattle.pb_reach.specs.declared.error.ReachError.TheVariants as reaching
use Rattle.pb_reach.specs.Limits as reach
use Rattle.pb_task.specs.declared.grounding.Grounding.{Grounding}
use Rattle.pb_strips.specs.Packing.{of_ground, of_lifted, of_reach}
use Rattle.pb_strips.specs.Refusals.{HasNoFaultBefore, TellsStop}

-- names and types are judged without a look
pub lifted_never_stops : (which : Grounding) (domain : Domain) (problem : Problem) (looks : LooksValue) (e : LiftedError) → TellsStop which domain problem looks (of_lifted e)
lifted_never_stops which domain problem looks (lifting.Refused refusal) = tt
lifted_never_stops which domain problem looks lifting.Memory = tt

-- and ground atoms are found without one
pub atoms_never_stop : (which : Grounding) (domain : Domain) (problem : Problem) (looks : LooksValue) (lifted : Lifted) (e : GroundError) → TellsAtoms lifted e
    → TellsStop which domain problem looks (of_ground e)
atoms_never_stop which domain problem looks lifted (ground.TooManyAtoms n) told = tt
atoms_never_stop which domain problem looks lifted ground.TooManyActions told = tt
atoms_never_stop which domain problem looks lifted ground.Stopped told = absurd told
atoms_never_stop which domain problem looks lifted ground.Memory told = tt

pub ground_stops : (which : Grounding) (domain : Domain) (problem : Problem) (looks : LooksValue) (e : GroundError) → HasNoFaultBefore which domain problem → grounding.TellsStop looks e
    → TellsStop which domain problem looks (of_ground e)
ground_stops which domain problem looks (ground.TooManyAtoms n) before told = tt
ground_stops which domain problem looks ground.TooManyActions before told = tt
ground_stops which domain problem looks ground.Stopped before told = (told, before)
ground_stops which domain problem looks ground.Memory before told = tt

pub reach_stops : (which : Grounding) (domain : Domain) (problem : Problem) (looks : LooksValue) (e : ReachError) → HasNoFaultBefore which domain problem → reach.TellsStop looks e
    → TellsStop which domain problem looks (of_reach e)
reach_stops which domain problem looks (reaching.TooManyAtoms n) before told = tt
reach_stops which domain problem looks reaching.TooManyActions before told = tt
reach_stops which domain problem looks reaching.Stopped before told = (told, before)
reach_stops which domain problem looks reaching.Memory before told = tt
