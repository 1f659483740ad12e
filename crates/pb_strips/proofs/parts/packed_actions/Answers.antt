use Rattle.std.proofs.Common.{◌≡◌, ◌+◌, ◌++◌, ◌∷◌, [], map, take, sym, ap, ◌∙◌, subst, arith}
use Rattle.std.proofs.lemmas.List.{take_more, map-append}
use Rattle.std.proofs.lemmas.List.Elements.{All-get_or}
use Rattle.pb_packed.specs.Sizes.{most_atoms}
use Rattle.pb_strips.specs.Grounding.{packed_action}
use Rattle.pb_strips.specs.Packing.{HasAtoms}
use Rattle.pb_strips.proofs.parts.packed_actions.Goals as goal

pub packed_action-requires : goal.packed_action-requires
packed_action-requires c =
    subst (HasAtoms most_atoms) (sym c.action-item.is) (All-get_or (HasAtoms most_atoms) c.args.actions.now c.loop-action.action-index c.action-item.result (omega arith) c.requires)

pub loop-action-preserved : goal.loop-action-preserved
loop-action-preserved c = λ count few have.
    let actions = c.args.actions.now in
    let i = c.loop-action.action-index in
    let here = c.action-item.result in
    let pack = packed_action c.args.domain.now c.args.problem.now count in
    let has : HasAtoms count here = subst (HasAtoms count) (sym c.action-item.is) (All-get_or (HasAtoms count) actions i here (omega arith) have) in
    let more : take (i + 1) actions ≡ take i actions ++ here ∷ [] =
    take_more actions i here (omega arith) ∙ ap (λ a. take i actions ++ a ∷ []) (sym c.action-item.is) in
    c.in_ok-all.ensures
    ∙ (ap (λ xs. xs ++ c.in_ok-packed_action.field-0 ∷ []) (c.loop-action.invariant count few have)
    ∙ (ap (λ a. map pack (take i actions) ++ a ∷ []) (c.in_ok-packed_action.ensures count few has)
    ∙ (sym (map-append pack (take i actions) (here ∷ [])) ∙ ap (λ xs. map pack xs) (sym more))))
