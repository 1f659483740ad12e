use Rattle.std.proofs.Common.{◌≡◌, ◌↔◌, ◌⊎◌, ℕ, ◌+◌, List, [], IsTrue, get_or, length, sym, subst, ap, ◌∙◌, arith}
use Rattle.std.proofs.lemmas.List.{length_push}
use Rattle.pb_abstract.specs.Placings.{IsTileEdge}
use Rattle.pb_abstract.specs.Graph.{has}
use Rattle.pb_abstract.proofs.Growing.{one_more_scope}
use Rattle.pb_abstract.proofs.tiles.scopes.Goals as goal

pub loop-block-preserved : goal.loop-block-preserved
loop-block-preserved c = record {
  count = ap length c.in_ok-push.ensures.items ∙ length_push c.loop-block.scopes.items c.in_ok-scope.field-0 ∙ ap (λ n. n + 1) c.loop-block.invariant.count;
  scope = λ block other less.
      subst (λ (scopes : List (List ℕ)). IsTrue (has (get_or scopes block []) other) ↔ ((block ≡ other) ⊎ IsTileEdge c.args.tiles.now c.args.projection.now block other)) (sym c.in_ok-push.ensures.items)
      (one_more_scope (IsTileEdge c.args.tiles.now c.args.projection.now) c.loop-block.scopes.items c.loop-block.block c.in_ok-scope.field-0 c.loop-block.invariant.count c.loop-block.invariant.scope c.in_ok-scope.ensures block other less);
}

pub returns-clause-scope : goal.returns-clause-scope
returns-clause-scope c = λ block other less. c.loop-block.invariant.scope block other (omega (arith, less, c.placing_count-block-end.ensures, c.loop-block-test.false))
