use Rattle.std.proofs.Common.{◌≡◌, take, refl, subst, arith}
use Rattle.std.proofs.lemmas.List.{take_all}
use Rattle.pb_estimate.specs.Layers.{AreAdded}
use Rattle.pb_estimate.proofs.Layering.{added_none, added_more, kept_more}
use Rattle.pb_estimate.proofs.layers.Layers.reach_each.Goals as goal

pub loop-atom-init : goal.loop-atom-init
loop-atom-init c = record { is = c.requires.is; kept = (omega arith, λ k less. refl); added = added_none c.args.self.now }

pub loop-atom-preserved : goal.loop-atom-preserved
loop-atom-preserved c = record {
  is = c.reach.ensures.is;
  kept = kept_more c.args.self.now c.loop-atom.self c.reach.new.self c.loop-atom.invariant.kept c.reach.ensures.kept;
  added = added_more c.args.atoms.now c.loop-atom.atom-index c.args.self.now c.loop-atom.self c.reach.new.self c.loop-atom-test.true c.loop-atom.invariant.added c.reach.ensures.added;
}

pub returns-clause-added : goal.returns-clause-added
returns-clause-added c =
    let all : take c.loop-atom.atom-index c.args.atoms.now ≡ c.args.atoms.now = take_all c.loop-atom.atom-index c.args.atoms.now c.loop-atom-test.false in
    subst (λ atoms. AreAdded atoms c.args.self.now c.loop-atom.self) all c.loop-atom.invariant.added
