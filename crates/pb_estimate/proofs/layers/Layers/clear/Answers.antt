use Rattle.pb_estimate.proofs.Layering.{all_unmarked, none_reached}
use Rattle.std.proofs.Common.{◌≡◌, length, rules, ◌∙◌, vec_len}
use Rattle.pb_estimate.proofs.layers.Layers.clear.Goals as goal

pub returns-clause-is : goal.returns-clause-is
returns-clause-is c =
    let long : length c.fill.new.self.items ≡ length c.args.self.now.marks.items = search rules in
    none_reached c.args.goal.now c.fill.new.self.items c.args.self.now.queue.items c.args.wanted c.requires.few (long ∙ c.requires.room.marks) c.requires.room.places c.requires.wanted
    (all_unmarked c.fill.new.self.items (vec_len c.args.self.now.marks) (c.fill.ensures.items (λ y e. e)))
