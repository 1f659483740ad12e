use Rattle.std.proofs.Common.{◌≡◌, ◌<◌, true, false, None, Some, subst, sym, ap, arith, ◌∙◌}
use Rattle.pb_estimate.specs.Hmax.{IsAtMost}
use Rattle.pb_estimate.specs.Exploring.{known_cost, final_cost}
use Rattle.pb_estimate.proofs.Lowered.{holds_more, only_more}
use Rattle.pb_estimate.proofs.exploration.Exploration.begin.Goals as goal

pub loop-atom-init : goal.loop-atom-init
loop-atom-init c = record {
  is = c.clear.ensures.is;
  long = c.clear.ensures.long ∙ sym c.requires.count;
  most = c.next_atom-atom.ensures.most;
  has = c.next_atom-atom.ensures.has;
  holds = λ atom less has. let wrong : false ≡ true = sym (c.next_atom-atom.ensures.none atom (omega arith) less) ∙ has in cc;
  only = λ atom cost h. absurd (subst (λ known. IsAtMost (known_cost known) cost) (c.clear.ensures.none atom) h);
  finals = λ atom. ap final_cost (c.clear.ensures.none atom);
}

pub lower-requires-clause-inside : goal.lower-requires-clause-inside
lower-requires-clause-inside c = subst (λ n. c.loop-atom.atom < n) (sym c.loop-atom.invariant.long) c.loop-atom-test.true

pub lower-requires-clause-finals : goal.lower-requires-clause-finals
lower-requires-clause-finals c = λ atom cost is. let wrong : None ≡ Some cost = sym (c.loop-atom.invariant.finals atom) ∙ is in cc

pub loop-atom-preserved : goal.loop-atom-preserved
loop-atom-preserved c = record {
  is = c.lower.ensures.is;
  long = c.lower.ensures.long ∙ c.loop-atom.invariant.long;
  most = c.next_atom-atom-in-loop-atom.ensures.most;
  has = c.next_atom-atom-in-loop-atom.ensures.has;
  holds = holds_more c.args.state.now c.loop-atom.atom c.next_atom-atom-in-loop-atom.result c.loop-atom.self.costs.items c.lower.new.self.costs.items c.lower.ensures.lowered c.loop-atom.invariant.holds
      c.next_atom-atom-in-loop-atom.ensures.none;
  only = only_more c.args.state.now c.loop-atom.atom c.next_atom-atom-in-loop-atom.result c.loop-atom.self.costs.items c.lower.new.self.costs.items c.lower.ensures.lowered
      (c.loop-atom.invariant.has c.loop-atom-test.true) c.loop-atom.invariant.only;
  finals = λ a. c.lower.ensures.finals a ∙ c.loop-atom.invariant.finals a;
}
