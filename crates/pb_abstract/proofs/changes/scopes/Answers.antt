use Rattle.std.proofs.Common.{◌≡◌, ◌+◌, ◌^◌, ◌<◌, ◌↔◌, ◌⊎◌, ◌||◌, ◌&&◌, ◌==◌, ℕ, List, [], IsTrue, get_or, length, sym, subst, ap, ◌∙◌, arith}
use Rattle.std.specs.List.{list_any}
use Rattle.std.proofs.lemmas.List.{length_push}
use Rattle.pb_task.specs.declared.parts.GroundAction.{GroundAction}
use Rattle.pb_abstract.specs.declared.changes.Change.{Change}
use Rattle.pb_abstract.specs.Tracked.{IsTrackedEdge}
use Rattle.pb_abstract.specs.Borders.{is_number}
use Rattle.pb_abstract.specs.Changes.{change_of, changes_some, block_after}
use Rattle.pb_abstract.specs.Graph.{has}
use Rattle.pb_abstract.proofs.Growing.{one_more_scope}
use Rattle.pb_abstract.proofs.Changing.{scope_is}
use Rattle.pb_abstract.proofs.changes.scopes.Goals as goal

pub loop-block-preserved : goal.loop-block-preserved
loop-block-preserved c =
    let block = c.loop-block.block in
    let atoms = c.args.atoms.now in
    let small : block < 2 ^ length atoms = omega (arith, c.loop-block-test.true, c.set_count-block-end.ensures) in
    let changes : List Change = c.each_once-changes.result.items in
    let here : (n : ℕ) → IsTrue (has c.in_ok-scope.field-0 n) ↔ ((block ≡ n) ⊎ IsTrackedEdge c.args.strips.now atoms block n) =
    scope_is c.args.strips.now atoms c.requires.atoms block small changes c.in_ok-scope.field-0
    (λ test. c.each_once-changes.ensures test ∙ c.in_ok-all_changes.ensures test)
    (λ n. c.in_ok-scope.ensures n ∙ ap (λ (items : List Change). (block == n) || list_any (λ change. is_number (block_after change block) n) items) c.as_slice.ensures.value) in
    record {
      count = ap length c.in_ok-push.ensures.items ∙ length_push c.loop-block.scopes.items c.in_ok-scope.field-0 ∙ ap (λ n. n + 1) c.loop-block.invariant.count;
      scope = λ b other less.
          subst (λ (scopes : List (List ℕ)). IsTrue (has (get_or scopes b []) other) ↔ ((b ≡ other) ⊎ IsTrackedEdge c.args.strips.now atoms b other)) (sym c.in_ok-push.ensures.items)
          (one_more_scope (IsTrackedEdge c.args.strips.now atoms) c.loop-block.scopes.items block c.in_ok-scope.field-0 c.loop-block.invariant.count c.loop-block.invariant.scope here b other less);
    }
