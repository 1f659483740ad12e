use Rattle.std.proofs.Common.{◌≡◌, ◌<◌, get_or, take, refl, subst, sym, ◌∙◌}
use Rattle.std.proofs.lemmas.List.{take_all}
use Rattle.pb_estimate.specs.Exploring.{AreLowered}
use Rattle.pb_estimate.proofs.Lowered.{lowered_no_atom, lowered_more, within_still}
use Rattle.pb_estimate.proofs.exploration.Exploration.lower_each.Goals as goal

pub loop-atom-init : goal.loop-atom-init
loop-atom-init c = record {
  is = c.requires.is;
  long = refl;
  lowered = lowered_no_atom c.args.cost c.args.self.now.costs.items;
  finals = λ atom. refl;
}

pub lower-requires-clause-inside : goal.lower-requires-clause-inside
lower-requires-clause-inside c =
    subst (λ n. get_or c.args.atoms.now c.loop-atom.atom-index 0 < n) (sym c.loop-atom.invariant.long) (c.requires.inside c.loop-atom.atom-index 0 c.loop-atom-test.true)

pub lower-requires-clause-finals : goal.lower-requires-clause-finals
lower-requires-clause-finals c = within_still c.args.cost c.args.self.now.costs.items c.loop-atom.self.costs.items c.loop-atom.invariant.finals c.requires.finals

pub loop-atom-preserved : goal.loop-atom-preserved
loop-atom-preserved c = record {
  is = c.lower.ensures.is;
  long = c.lower.ensures.long ∙ c.loop-atom.invariant.long;
  lowered = lowered_more c.args.atoms.now c.loop-atom.atom-index c.args.cost c.args.self.now.costs.items c.loop-atom.self.costs.items c.lower.new.self.costs.items c.loop-atom-test.true
      c.loop-atom.invariant.lowered c.lower.ensures.lowered;
  finals = λ atom. c.lower.ensures.finals atom ∙ c.loop-atom.invariant.finals atom;
}

pub returns-clause-lowered : goal.returns-clause-lowered
returns-clause-lowered c =
    let all : take c.loop-atom.atom-index c.args.atoms.now ≡ c.args.atoms.now = take_all c.loop-atom.atom-index c.args.atoms.now c.loop-atom-test.false in
    subst (λ atoms. AreLowered atoms c.args.cost c.args.self.now.costs.items c.loop-atom.self.costs.items) all c.loop-atom.invariant.lowered
