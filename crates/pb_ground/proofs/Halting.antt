-- An error of which nothing but a stop and memory is known tells of each limit and of the stop.
use Rattle.pb_ground.specs.declared.error.GroundError.{GroundError}
use Rattle.pb_ground.specs.declared.error.GroundError.TheVariants as errors
use Rattle.std.proofs.Common.{ℕ, List}
use Rattle.pb_ground.specs.Looks.{LooksValue, TellsHalt, TellsStop}
use Rattle.pb_ground.specs.Search.{TellsFull}

pub halts_full : {A : Type 0} (limit : ℕ) (all : List A) (looks : LooksValue) (e : GroundError) → TellsHalt looks e → TellsFull limit all e
halts_full limit all looks (errors.TooManyAtoms n) t = t
halts_full limit all looks errors.TooManyActions t = absurd t
halts_full limit all looks errors.Stopped t = tt
halts_full limit all looks errors.Memory t = t

pub halts_stop : (looks : LooksValue) (e : GroundError) → TellsHalt looks e → TellsStop looks e
halts_stop looks (errors.TooManyAtoms n) t = tt
halts_stop looks errors.TooManyActions t = tt
halts_stop looks errors.Stopped t = t
halts_stop looks errors.Memory t = t
