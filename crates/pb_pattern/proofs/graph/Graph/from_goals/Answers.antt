use Rattle.std.proofs.Common.{rules, ◌≡◌, ◌^◌, replicate, set, ap, ◌∙◌, refl, arith}
use Rattle.pb_pattern.specs.Graphs.{space_in, images_in}
use Rattle.pb_pattern.proofs.Proper.{graph_below}
use Rattle.pb_pattern.proofs.Beginning.{begun_first, begun_next, begun_all}
use Rattle.pb_pattern.proofs.graph.Graph.from_goals.Goals as goal

pub loop-image-init : goal.loop-image-init
loop-image-init c =
    let filled : c.in_ok-costs.costs.items ≡ replicate c.images.result (2 ^ 62) = search rules in
    begun_first (space_in c.args.self.now) (images_in c.args.self.now) c.in_ok-costs.costs.items (filled ∙ ap (λ n. replicate n (2 ^ 62)) c.images.ensures.images)

pub loop-image-preserved : goal.loop-image-preserved
loop-image-preserved c =
    begun_next (space_in c.args.self.now) (images_in c.args.self.now) c.loop-image.image c.first_cost.result c.loop-image.costs.items (set c.loop-image.costs.items c.loop-image.image c.first_cost.result) c.loop-image.invariant
    (let all = c.images-image-end.ensures.images in omega (arith, c.loop-image-test.true, all)) c.first_cost.ensures refl

pub returns : goal.returns
returns c =
    begun_all (space_in c.args.self.now) (images_in c.args.self.now) c.loop-image.image c.loop-image.costs.items c.loop-image.invariant (graph_below c.args.self.now c.requires.graph)
    (let all = c.images-image-end.ensures.images in omega (arith, c.loop-image-test.false, all))
