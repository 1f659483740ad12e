use Rattle.std.proofs.Common.{◌≡◌, suc, ◌-◌, ◌<◌, ◌≤◌, true, false, not, ◌&&◌, length, set, sym, arith, ◌∙◌}
use Rattle.std.proofs.lemmas.List.{get_or_read}
use Rattle.pb_packed.specs.Sizes.{most_atoms}
use Rattle.pb_estimate.specs.Exploring.{count}
use Rattle.pb_estimate.specs.Layers.{is_in}
use Rattle.pb_estimate.proofs.Layering.{room, reached_more, one_less, as_many}
use Rattle.pb_estimate.proofs.layers.Layers.reach.Goals as goal

pub index_mut-requires-2 : goal.index_mut-requires-2
index_mut-requires-2 c =
    let fresh : is_in c.args.self.now.marks.items c.args.atom ≡ false = sym (get_or_read c.args.self.now.marks.items c.args.atom c.index.result.now (omega (arith, c.requires.is.flags, c.requires.inside)) c.index.ensures false) ∙ c.if-index.false in
    let small : c.args.self.now.reached < length c.args.goal.now = room c.args.goal.now c.args.self.now.marks.items c.args.self.now.queue.items c.args.self.now.reached c.args.self.now.wanted c.args.atom c.requires.is c.requires.inside fresh in
    omega (arith, c.args.self.now.queue.ok.0, c.requires.is.places)

pub overflow_add-self : goal.overflow_add-self
overflow_add-self c =
    let fresh : is_in c.args.self.now.marks.items c.args.atom ≡ false = sym (get_or_read c.args.self.now.marks.items c.args.atom c.index.result.now (omega (arith, c.requires.is.flags, c.requires.inside)) c.index.ensures false) ∙ c.if-index.false in
    let small : c.args.self.now.reached < length c.args.goal.now = room c.args.goal.now c.args.self.now.marks.items c.args.self.now.queue.items c.args.self.now.reached c.args.self.now.wanted c.args.atom c.requires.is c.requires.inside fresh in
    let few : length c.args.goal.now ≤ most_atoms = c.requires.is.few in
    omega arith

pub overflow_sub-self : goal.overflow_sub-self
overflow_sub-self c =
    let fresh : is_in c.args.self.now.marks.items c.args.atom ≡ false = sym (get_or_read c.args.self.now.marks.items c.args.atom c.index.result.now (omega (arith, c.requires.is.flags, c.requires.inside)) c.index.ensures false) ∙ c.if-index.false in
    let in_goal : is_in c.args.goal.now c.args.atom ≡ true = c.if-goal-atom.true in
    let less : c.args.self.now.wanted ≡ suc (count (λ a. is_in c.args.goal.now a && not (is_in (set c.args.self.now.marks.items c.args.atom true) a)) (length c.args.goal.now)) =
    one_less c.args.goal.now c.args.self.now.marks.items c.args.self.now.queue.items c.args.self.now.reached c.args.self.now.wanted c.args.atom c.requires.is c.requires.inside fresh in_goal in
    omega arith

pub returns-then-goal-atom-clause-is : goal.returns-then-goal-atom-clause-is
returns-then-goal-atom-clause-is c =
    let fresh : is_in c.args.self.now.marks.items c.args.atom ≡ false = sym (get_or_read c.args.self.now.marks.items c.args.atom c.index.result.now (omega (arith, c.requires.is.flags, c.requires.inside)) c.index.ensures false) ∙ c.if-index.false in
    let in_goal : is_in c.args.goal.now c.args.atom ≡ true = c.if-goal-atom.true in
    let less : c.args.self.now.wanted ≡ suc (count (λ a. is_in c.args.goal.now a && not (is_in (set c.args.self.now.marks.items c.args.atom true) a)) (length c.args.goal.now)) =
    one_less c.args.goal.now c.args.self.now.marks.items c.args.self.now.queue.items c.args.self.now.reached c.args.self.now.wanted c.args.atom c.requires.is c.requires.inside fresh in_goal in
    reached_more c.args.goal.now c.args.self.now.marks.items c.args.self.now.queue.items c.args.self.now.reached c.args.self.now.wanted c.args.atom c.requires.is c.requires.inside fresh
    (c.args.self.now.wanted - 1) (omega arith)

pub returns-else-goal-atom-clause-is : goal.returns-else-goal-atom-clause-is
returns-else-goal-atom-clause-is c =
    let fresh : is_in c.args.self.now.marks.items c.args.atom ≡ false = sym (get_or_read c.args.self.now.marks.items c.args.atom c.index.result.now (omega (arith, c.requires.is.flags, c.requires.inside)) c.index.ensures false) ∙ c.if-index.false in
    let off : is_in c.args.goal.now c.args.atom ≡ false = c.if-goal-atom.false in
    reached_more c.args.goal.now c.args.self.now.marks.items c.args.self.now.queue.items c.args.self.now.reached c.args.self.now.wanted c.args.atom c.requires.is c.requires.inside fresh
    c.args.self.now.wanted
    (as_many c.args.goal.now c.args.self.now.marks.items c.args.self.now.queue.items c.args.self.now.reached c.args.self.now.wanted c.args.atom c.requires.is c.requires.inside fresh off)
