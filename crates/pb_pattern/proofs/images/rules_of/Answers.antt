use Rattle.std.proofs.Common.{◌≡◌, ◌<◌, ◌++◌, ◌∷◌, [], length, map, take, sym, ap, ◌∙◌, arith}
use Rattle.std.proofs.lemmas.List.{map_push, take_more}
use Rattle.pb_task.specs.Strips.{action_at}
use Rattle.pb_pattern.specs.Graphs.{rule_of}
use Rattle.pb_pattern.specs.declared.sets.Rule.{Rule}
use Rattle.pb_pattern.proofs.images.rules_of.Goals as goal

pub loop-at-preserved : goal.loop-at-preserved
loop-at-preserved c =
    let actions = c.args.actions.now in
    let at = c.loop-at.at in
    let rule = rule_of c.args.tracked.now in
    let less : c.loop-at.at < length c.args.actions.now = omega arith in
    c.in_ok-push.ensures.items ∙ ap (λ rules. rules ++ c.rule_of.result ∷ []) c.loop-at.invariant
    ∙ ap (λ (r : Rule). map rule (take at actions) ++ r ∷ []) c.rule_of.ensures ∙ sym (map_push rule (take at actions) (action_at actions at))
    ∙ ap (map rule) (sym (take_more actions at (record { name = []; needs = 0; adds = 0; deletes = 0; cost = 1 }) less))
