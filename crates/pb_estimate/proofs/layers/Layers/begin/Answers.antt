use Rattle.std.proofs.Common.{◌≡◌, true, false, sym, arith, ◌∙◌}
use Rattle.pb_estimate.proofs.Layering.{holds_more, only_more}
use Rattle.pb_estimate.proofs.layers.Layers.begin.Goals as goal

pub loop-atom-init : goal.loop-atom-init
loop-atom-init c = record {
  is = c.clear.ensures.is;
  most = c.next_atom-atom.ensures.most;
  has = c.next_atom-atom.ensures.has;
  holds = λ atom less has. let wrong : false ≡ true = sym (c.next_atom-atom.ensures.none atom (omega arith) less) ∙ has in cc;
  only = λ atom h. let wrong : false ≡ true = sym (c.clear.ensures.none atom) ∙ h in cc;
}

pub loop-atom-preserved : goal.loop-atom-preserved
loop-atom-preserved c = record {
  is = c.reach.ensures.is;
  most = c.next_atom-atom-in-loop-atom.ensures.most;
  has = c.next_atom-atom-in-loop-atom.ensures.has;
  holds = holds_more c.args.state.now c.loop-atom.atom c.next_atom-atom-in-loop-atom.result c.loop-atom.self c.reach.new.self c.reach.ensures.added c.loop-atom.invariant.holds
      c.next_atom-atom-in-loop-atom.ensures.none;
  only = only_more c.args.state.now c.loop-atom.atom c.next_atom-atom-in-loop-atom.result c.loop-atom.self c.reach.new.self c.reach.ensures.added
      (c.loop-atom.invariant.has c.loop-atom-test.true) c.loop-atom.invariant.only;
}
