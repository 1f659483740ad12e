use Rattle.std.proofs.Common.{◌++◌, ◌∷◌, [], ap, arith, ◌∙◌}
use Rattle.pb_estimate.proofs.NextAtoms.{atoms_past, atoms_more}
use Rattle.pb_estimate.proofs.atom_sets.atoms_in.Goals as goal

pub loop-atom-init : goal.loop-atom-init
loop-atom-init c = record {
  atoms = c.new-atoms.ensures ∙ atoms_past c.args.set.now 0 c.next_atom-atom.result (omega arith) c.next_atom-atom.ensures.none;
  most = c.next_atom-atom.ensures.most;
  has = c.next_atom-atom.ensures.has;
}

pub loop-atom-preserved : goal.loop-atom-preserved
loop-atom-preserved c = record {
  atoms = c.in_ok-push.ensures.added ∙ ap (λ xs. xs ++ c.loop-atom.atom ∷ []) c.loop-atom.invariant.atoms
      ∙ atoms_more c.args.set.now c.loop-atom.atom c.next_atom-atom-in-loop-atom.result (c.loop-atom.invariant.has c.loop-atom-test.true) c.next_atom-atom-in-loop-atom.ensures.from
      c.next_atom-atom-in-loop-atom.ensures.none;
  most = c.next_atom-atom-in-loop-atom.ensures.most;
  has = c.next_atom-atom-in-loop-atom.ensures.has;
}
