use Rattle.std.proofs.Common.{◌++◌, [], ◌∷◌, map, sym, ap, ◌∙◌}
use Rattle.pb_lifted.specs.Names.{repeated, earliest}
use Rattle.pb_lifted.specs.Types.{name_text}
use Rattle.pb_lifted.specs.Refusals.{typed_name}
use Rattle.pb_lifted.proofs.Earliest.{kept, taken}
use Rattle.pb_lifted.proofs.tables.enter_params.Goals as goal

pub loop-action-preserved : goal.loop-action-preserved
loop-action-preserved c = record {
  names =
      c.in_ok-push.ensures.items ∙ (ap (λ names. c.loop-action.all.items ++ names ∷ []) (c.in_ok-names.ensures.names ∙ ap (map name_text) c.as_slice.ensures)
      ∙ (ap (λ all. all ++ map name_text c.action-item.result.params ∷ []) c.loop-action.invariant.names
      ∙ sym (taken (λ a. map name_text a.params) c.args.actions.now c.action-item.result c.loop-action.action-index c.loop-action-test.true c.action-item.is)));
  twice =
      kept (λ a. repeated [] (map typed_name a.params)) c.args.actions.now c.action-item.result c.loop-action.action-index c.loop-action.found c.in_ok-names.next _ c.loop-action-test.true
      c.action-item.is (c.in_ok-names.ensures.twice ∙ ap (λ params. earliest c.loop-action.found (repeated [] (map typed_name params))) c.as_slice.ensures) c.loop-action.invariant.twice;
}
