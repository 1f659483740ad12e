use Rattle.std.proofs.Common.{refl, arith}
use Rattle.pb_task.specs.Strips.{has_atom}
use Rattle.pb_estimate.proofs.NextAtoms.{joined_more, rest_more, or_none}
use Rattle.pb_estimate.proofs.atom_sets.with_new.Goals as goal

pub loop-atom-init : goal.loop-atom-init
loop-atom-init c = record {
  most = c.next_atom-atom.ensures.most;
  has = c.next_atom-atom.ensures.has;
  joined = λ a less. or_none (has_atom c.args.set.now a) (has_atom c.args.more.now a) (has_atom c.args.but.now a) (c.next_atom-atom.ensures.none a (omega arith) less);
  rest = λ a from. refl;
}

pub loop-atom-preserved : goal.loop-atom-preserved
loop-atom-preserved c = record {
  most = c.next_atom-atom-in-loop-atom.ensures.most;
  has = c.next_atom-atom-in-loop-atom.ensures.has;
  joined = joined_more c.args.set.now c.args.more.now c.args.but.now c.loop-atom.joined c.with_unless-joined.result c.loop-atom.atom c.next_atom-atom-in-loop-atom.result
      (c.loop-atom.invariant.has c.loop-atom-test.true) c.loop-atom.invariant.joined c.loop-atom.invariant.rest c.with_unless-joined.ensures.has c.with_unless-joined.ensures.others
      c.next_atom-atom-in-loop-atom.ensures.none;
  rest = rest_more c.args.set.now c.args.more.now c.args.but.now c.loop-atom.joined c.with_unless-joined.result c.loop-atom.atom c.next_atom-atom-in-loop-atom.result
      (c.loop-atom.invariant.has c.loop-atom-test.true) c.loop-atom.invariant.joined c.loop-atom.invariant.rest c.with_unless-joined.ensures.has c.with_unless-joined.ensures.others
      c.next_atom-atom-in-loop-atom.ensures.none c.next_atom-atom-in-loop-atom.ensures.from;
}
