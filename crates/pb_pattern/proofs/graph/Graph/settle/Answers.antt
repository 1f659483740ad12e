use Rattle.std.proofs.Common.{arith, subst}
use Rattle.pb_pattern.specs.Costs.{Looks, IsAnyStep}
use Rattle.pb_pattern.specs.Graphs.{space_in, images_in}
use Rattle.pb_pattern.proofs.Proper.{graph_is_proper, graph_below, few_in_graph}
use Rattle.pb_pattern.proofs.Settling.{IsSettling, settling_first, settling_on, last_is_least, idle_is_least}
use Rattle.pb_pattern.proofs.graph.Graph.settle.Goals as goal

pub loop-round-init : goal.loop-round-init
loop-round-init c =
    settling_first (space_in c.args.self.now) (images_in c.args.self.now) (graph_is_proper c.args.self.now c.requires.graph) (graph_below c.args.self.now c.requires.graph) c.args.costs.now c.requires.table

pub look-requires-clause-table : goal.look-requires-clause-table
look-requires-clause-table c = c.loop-round.invariant.table

pub returns-then-not-look : goal.returns-then-not-look
returns-then-not-look c =
    idle_is_least (space_in c.args.self.now) (images_in c.args.self.now) (graph_is_proper c.args.self.now c.requires.graph) (graph_below c.args.self.now c.requires.graph) c.loop-round.costs c.look.new.costs
    (few_in_graph c.args.self.now c.requires.graph) c.loop-round.invariant.table
    (subst (Looks (space_in c.args.self.now) (images_in c.args.self.now) IsAnyStep c.loop-round.costs c.look.new.costs) c.if-not-look.true c.look.ensures)

pub loop-round-preserved : goal.loop-round-preserved
loop-round-preserved c =
    settling_on (space_in c.args.self.now) (images_in c.args.self.now) (graph_is_proper c.args.self.now c.requires.graph) (graph_below c.args.self.now c.requires.graph) c.loop-round._round c.loop-round.costs c.look.new.costs c.look.result
    c.loop-round.invariant c.look.ensures

pub returns : goal.returns
returns c =
    last_is_least (space_in c.args.self.now) (images_in c.args.self.now) (graph_is_proper c.args.self.now c.requires.graph) (graph_below c.args.self.now c.requires.graph) c.loop-round.costs
    (few_in_graph c.args.self.now c.requires.graph)
    (subst (λ r. IsSettling (space_in c.args.self.now) (images_in c.args.self.now) r c.loop-round.costs)
    (let over = c.loop-round-test.false in let within = c.loop-round.auto._round-end in let all = c.images-round-end.ensures.images in omega (arith, over, within, all)) c.loop-round.invariant)
