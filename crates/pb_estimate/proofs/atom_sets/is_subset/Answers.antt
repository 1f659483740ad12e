use Rattle.std.proofs.Common.{arith, ◌∙◌}
use Rattle.pb_estimate.proofs.NextAtoms.{bit_has, within_none, within_more}
use Rattle.pb_estimate.proofs.atom_sets.is_subset.Goals as goal

pub loop-atom-init : goal.loop-atom-init
loop-atom-init c = record {
  most = c.next_atom-atom.ensures.most;
  has = c.next_atom-atom.ensures.has;
  within = within_none c.args.set.now c.args.other.now c.next_atom-atom.result (λ a less. c.next_atom-atom.ensures.none a (omega arith) less);
}

pub loop-atom-preserved : goal.loop-atom-preserved
loop-atom-preserved c = record {
  most = c.next_atom-atom-in-loop-atom.ensures.most;
  has = c.next_atom-atom-in-loop-atom.ensures.has;
  within = within_more c.args.set.now c.args.other.now c.loop-atom.atom c.next_atom-atom-in-loop-atom.result c.loop-atom.invariant.within
      (bit_has c.args.other.now c.loop-atom.atom c.has.result c.has.ensures ∙ c.if-not-has.false) c.next_atom-atom-in-loop-atom.ensures.none;
}
