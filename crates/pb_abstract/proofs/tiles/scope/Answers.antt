use Rattle.std.proofs.Common.{◌≡◌, [], ◌∷◌, IsTrue, sym, subst, ◌↔◌, ◌⊎◌}
use Rattle.std.proofs.lemmas.Result.{IfOk-weaker}
use Rattle.pb_abstract.specs.Placings.{IsTileEdge}
use Rattle.pb_abstract.proofs.Directions.{four}
use Rattle.pb_abstract.proofs.TileEdges.{scope_is}
use Rattle.pb_abstract.proofs.tiles.scope.Goals as goal

pub returns : goal.returns
returns c =
    IfOk-weaker c.scope_of.result _ _
    (λ list h n. subst (λ test. IsTrue test ↔ ((c.args.block ≡ n) ⊎ IsTileEdge c.args.tiles.now c.args.projection.now c.args.block n)) (sym (h n))
    (scope_is c.args.tiles.now c.args.projection.now c.args.block n c.placing_at-placing.result c.placing_at-placing.ensures.placing c.placing_at-placing.ensures.number c.requires.block
    (c.beyond.result ∷ (c.beyond-2.result ∷ (c.beyond-3.result ∷ (c.beyond-4.result ∷ []))))
    (four c.beyond.result _ c.beyond-2.result _ c.beyond-3.result _ c.beyond-4.result _ c.beyond.ensures c.beyond-2.ensures c.beyond-3.ensures c.beyond-4.ensures)))
    c.scope_of.ensures
