use Rattle.std.proofs.Common.{◌+◌, None, length, get_or, sym, ap, subst, ◌∙◌, arith}
use Rattle.std.proofs.lemmas.List.{get_or_read, length_push}
use Rattle.pb_model.specs.Weight.{Weight}
use Rattle.pb_bundles.specs.Reopened.{IsReady, AreReady}
use Rattle.pb_bundles.proofs.AllOpened.{ready_push}
use Rattle.pb_bundles.proofs.reopening.prepare_all.Goals as goal

pub loop-block-preserved : goal.loop-block-preserved
loop-block-preserved c =
    let weight : Weight = record { num = c.args.num; den = c.args.den } in
    let bundles = c.args.bundles.now in
    let sets = c.loop-block.sets.items in
    let set = c.in_ok-prepare_one.field-0 in
    let within = c.loop-block-test.true in
    let place = get_or_read bundles c.loop-block.block c.index-bundles-block.result within c.index-bundles-block.is None in
    let one = subst (λ n. IsReady weight c.args.bound (get_or bundles n None) set) (sym c.loop-block.invariant.count) (subst (λ found. IsReady weight c.args.bound found set) place c.in_ok-prepare_one.ensures) in
    record {
      ready = subst (AreReady weight c.args.bound bundles) (sym c.in_ok-push.ensures.items) (ready_push weight c.args.bound bundles sets set c.loop-block.invariant.ready (omega (arith, within, c.loop-block.invariant.count)) one);
      count = ap length c.in_ok-push.ensures.items ∙ length_push sets set ∙ ap (λ n. n + 1) c.loop-block.invariant.count;
    }
