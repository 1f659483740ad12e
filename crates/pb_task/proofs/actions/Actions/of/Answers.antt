use Rattle.std.proofs.Common.{◌≡◌, ◌∷◌, [], ◌++◌, List, length, refl, sym, ap, ◌∙◌, append_assoc, append-nil, arith}
use Rattle.std.specs.Vec.Iter.{into_iter_items}
use Rattle.pb_task.specs.declared.parts.GroundAction.{GroundAction}
use Rattle.pb_task.proofs.actions.Actions.of.Goals as goal

nothing_left : {X : Type 0} (l : List X) → length l ≡ 0 → l ≡ []
nothing_left [] h = refl
nothing_left (x ∷ xs) h = absurd (omega arith)

pub loop-action-preserved : goal.loop-action-preserved
loop-action-preserved c =
    let at = c.loop-action in
    let x = c.in-Some.action in
    let steps : into_iter_items at.action-iterator ≡ x ∷ into_iter_items c.next.new.self = c.in-Some.ensures.steps.0 in (
      append_assoc at.yielded (x ∷ []) _ ∙ rw (← steps) at.invariant.0,
      c.in_ok-actions.ensures ∙ ap (λ (actions : List GroundAction). actions ++ x ∷ []) at.invariant.1,
      let was = at.invariant.2 in
          let gone = c.in-Some.ensures.steps.1 in
          let short = ap length steps in
          omega arith,
    )

pub returns : goal.returns
returns c =
    let at = c.loop-action in
    let none = c.in-None.ensures.steps in
    let empty : into_iter_items at.action-iterator ≡ [] = nothing_left _ (sym at.invariant.2 ∙ none.0) in
    at.invariant.1 ∙ sym (append-nil at.yielded) ∙ rw empty at at.invariant.0 ∙ c.into_iter-action-iterator.ensures.into_iter_gives.0
