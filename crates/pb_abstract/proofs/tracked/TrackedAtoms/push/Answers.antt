use Rattle.std.proofs.Common.{◌≡◌, ◌<◌, length, sym, ap, ◌∙◌, arith, length-set}
use Rattle.std.proofs.lemmas.List.{length-take-le}
use Rattle.std.proofs.lemmas.List.Elements.{All-set}
use Rattle.pb_packed.specs.Sizes.{state_bits}
use Rattle.pb_abstract.proofs.TrackedSets.{padded_more}
use Rattle.pb_abstract.proofs.tracked.TrackedAtoms.push.Goals as goal

pub invariant_of-self : goal.invariant_of-self
invariant_of-self c =
    let inside = c.self.inside in
    let full : length inside.atoms ≡ 12 = c.self.told in
    let many : length c.args.self.now ≡ inside.count = ap length (sym c.self.view_is) ∙ length-take-le inside.count inside.atoms (omega (arith, full, c.self.invariant.1)) in (
      length-set inside.atoms inside.count c.args.atom ∙ full,
      omega (arith, many, c.requires.few),
      padded_more inside.count c.args.atom inside.atoms (omega (arith, many, c.requires.few)) c.self.invariant.2,
      All-set (λ atom. atom < state_bits) inside.atoms inside.count c.args.atom c.requires.small c.self.invariant.3,
    )
