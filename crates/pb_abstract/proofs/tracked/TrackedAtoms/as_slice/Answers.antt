use Rattle.std.proofs.Common.{◌<◌, List, ℕ, All, take, subst}
use Rattle.std.proofs.lemmas.List.Elements.{All-take}
use Rattle.pb_packed.specs.Sizes.{state_bits}
use Rattle.pb_abstract.proofs.tracked.TrackedAtoms.as_slice.Goals as goal

pub returns-clause-small : goal.returns-clause-small
returns-clause-small c =
    subst (λ (atoms : List ℕ). All (λ atom. atom < state_bits) atoms) c.self.view_is
    (All-take (λ atom. atom < state_bits) c.self.inside.count c.self.inside.atoms c.self.invariant.3)
