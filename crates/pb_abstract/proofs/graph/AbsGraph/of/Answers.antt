use Rattle.std.proofs.Common.{subst, sym}
use Rattle.pb_task.specs.Parts.{IsTask}
use Rattle.pb_abstract.specs.Graph.{AbstractGraph, AreKnown, AreInterference, IsGraphOf}
use Rattle.pb_abstract.proofs.Walking.{scopes_known}
use Rattle.pb_abstract.proofs.Sizes.{graph_is}
use Rattle.pb_abstract.proofs.graph.AbsGraph.of.Goals as goal

pub interference-requires-clause-known : goal.interference-requires-clause-known
interference-requires-clause-known c =
    let graph : AbstractGraph = record { projection = c.in_ok-projection.projection; scopes = c.in_ok-scopes.scopes.items } in
    let of : IsGraphOf c.parts-parts.result.now graph = record { fits = c.in_ok-projection.ensures.fits; count = c.in_ok-scopes.ensures.count; scope = c.in_ok-scopes.ensures.scope } in
    let is : IsTask c.parts-parts.result.now = subst IsTask (sym c.parts-parts.ensures.parts) c.parts-parts.ensures.lawful in
    subst AreKnown (sym c.as_slice.ensures.value) (scopes_known c.parts-parts.result.now is graph of)

pub invariant_of-result : goal.invariant_of-result
invariant_of-result c =
    let graph : AbstractGraph = record { projection = c.in_ok-projection.projection; scopes = c.in_ok-scopes.scopes.items } in
    let of : IsGraphOf c.parts-parts.result.now graph = record { fits = c.in_ok-projection.ensures.fits; count = c.in_ok-scopes.ensures.count; scope = c.in_ok-scopes.ensures.scope } in
    let is : IsTask c.parts-parts.result.now = subst IsTask (sym c.parts-parts.ensures.parts) c.parts-parts.ensures.lawful in (
      graph_is c.parts-parts.result.now is c.args.wish c.requires.least c.requires.greatest graph of c.in_ok-projection.ensures.finest,
      subst (λ scopes. AreInterference scopes c.in_ok-interference.interference.items) c.as_slice.ensures.value c.in_ok-interference.ensures,
    )
