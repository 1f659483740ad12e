use Rattle.std.proofs.Common.{◌<◌, ◌++◌, [], ◌∷◌, length, get_or, ap, arith, ◌∙◌}
use Rattle.std.proofs.lemmas.List.{length-set}
use Rattle.pb_estimate.proofs.Relaxing.{pushed_more, others_past}
use Rattle.pb_estimate.proofs.relaxed.push_each.Goals as goal

pub loop-atom-preserved : goal.loop-atom-preserved
loop-atom-preserved c =
    let inside : get_or c.args.atoms.now c.loop-atom.atom-index 0 < length c.loop-atom.lists.items =
    (let it = c.requires.inside c.loop-atom.atom-index 0 c.loop-atom-test.true in omega (arith, it, c.loop-atom.invariant.many)) in
    record {
      many = ap length c.in_ok-push_at.ensures
          ∙ length-set c.loop-atom.lists.items (get_or c.args.atoms.now c.loop-atom.atom-index 0)
          (get_or c.loop-atom.lists.items (get_or c.args.atoms.now c.loop-atom.atom-index 0) [] ++ c.args.action ∷ [])
          ∙ c.loop-atom.invariant.many;
      pushed = pushed_more c.args.atoms.now c.loop-atom.atom-index c.loop-atom-test.true c.requires.ascend c.args.action c.args.lists.now.items c.loop-atom.lists.items c.push_at.new.lists.items inside
          c.in_ok-push_at.ensures c.loop-atom.invariant.pushed c.loop-atom.invariant.others;
      others = others_past c.args.atoms.now c.loop-atom.atom-index c.loop-atom-test.true c.requires.ascend c.args.action c.args.lists.now.items c.loop-atom.lists.items c.push_at.new.lists.items inside
          c.in_ok-push_at.ensures c.loop-atom.invariant.others;
    }
