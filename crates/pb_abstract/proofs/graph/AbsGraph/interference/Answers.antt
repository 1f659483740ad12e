use Rattle.std.proofs.Common.{◌≡◌, ◌<◌, length, All, get_or, subst, sym}
use Rattle.pb_abstract.specs.Graph.{AbstractGraph}
use Rattle.pb_abstract.proofs.Has.{interference_below}
use Rattle.pb_abstract.proofs.graph.AbsGraph.interference.Goals as goal

pub returns-clause-below : goal.returns-clause-below
returns-clause-below c =
    let inside : AbstractGraph = record { projection = c.self.inside.projection; scopes = c.self.inside.scopes.items } in
    let less : c.args.b < length inside.scopes = subst (λ (g : AbstractGraph). c.args.b < length g.scopes) (sym c.self.view_is) c.requires in
    let here : c.numbers.result.now ≡ get_or c.self.inside.interference.items c.args.b c.numbers.result.now =
    subst (λ list. list ≡ get_or c.self.inside.interference.items c.args.b list) (sym c.numbers.ensures.numbers) c.index.ensures in
    subst (λ (g : AbstractGraph). All (λ n. n < length g.scopes) c.numbers.result.now) c.self.view_is
    (interference_below inside.scopes c.self.inside.interference.items c.self.invariant.1 c.args.b c.numbers.result.now less here)
