use Rattle.std.proofs.Common.{◌<◌, refl, arith}
use Rattle.std.proofs.lemmas.List.Elements.{All-replicate}
use Rattle.pb_packed.specs.Sizes.{state_bits}
use Rattle.pb_abstract.proofs.tracked.TrackedAtoms.new.Goals as goal

pub invariant_of-result : goal.invariant_of-result
invariant_of-result c = (refl, omega arith, refl, All-replicate (λ atom. atom < state_bits) 12 0 (omega arith))
