use Rattle.std.proofs.Common.{◌≡◌, ◌<◌, length, subst, sym, ap, ◌∙◌}
use Rattle.pb_task.specs.declared.parts.TaskParts.{TaskParts}
use Rattle.pb_task.specs.declared.parts.TaskParts.TheVariants.{Grid, Tiles}
use Rattle.pb_abstract.specs.declared.projection.Projection.{Projection}
use Rattle.pb_abstract.specs.Projection.{block_of}
use Rattle.pb_abstract.specs.Graph.{AbstractGraph, home_of}
use Rattle.pb_abstract.proofs.Walking.{block_small}
use Rattle.pb_abstract.proofs.graph.AbsGraph.block.Goals as goal

pub returns-in-Grid-Squares-clause-below : goal.returns-in-Grid-Squares-clause-below
returns-in-Grid-Squares-clause-below c =
    let less = block_small c.args.task.now c.parts.ensures.lawful c.args.self.now.projection c.requires.graph.fits c.args.state.now c.requires.state in
    let home : home_of c.args.task.now c.args.self.now c.args.state.now ≡ c.square.result =
    ap (λ (parts : TaskParts). block_of parts c.args.self.now.projection c.args.state.now) (sym c.parts.ensures.parts ∙ c.in-Grid-Squares.is-0)
    ∙ ap (λ (projection : Projection). block_of (Grid c.in-Grid-Squares.grid) projection c.args.state.now) (ap (λ (g : AbstractGraph). g.projection) (sym c.self.view_is) ∙ c.in-Grid-Squares.is-1)
    ∙ sym c.square.ensures in
    subst (λ n. n < length c.args.self.now.scopes) home (subst (λ n. home_of c.args.task.now c.args.self.now c.args.state.now < n) (sym c.requires.graph.count) less)

pub returns-in-Tiles-default-clause-below : goal.returns-in-Tiles-default-clause-below
returns-in-Tiles-default-clause-below c =
    let less = block_small c.args.task.now c.parts.ensures.lawful c.args.self.now.projection c.requires.graph.fits c.args.state.now c.requires.state in
    let home : home_of c.args.task.now c.args.self.now c.args.state.now ≡ c.block.result =
    ap (λ (parts : TaskParts). block_of parts c.args.self.now.projection c.args.state.now) (sym c.parts.ensures.parts ∙ c.in-Tiles-default.is-0)
    ∙ ap (λ (projection : Projection). block_of (Tiles c.in-Tiles-default.parts) projection c.args.state.now) (ap (λ (g : AbstractGraph). g.projection) (sym c.self.view_is)) ∙ sym c.block.ensures in
    subst (λ n. n < length c.args.self.now.scopes) home (subst (λ n. home_of c.args.task.now c.args.self.now c.args.state.now < n) (sym c.requires.graph.count) less)
