use Rattle.std.proofs.Common.{◌≡◌, ◌<◌, ◌≤◌, All, length, sym, ap, ◌∙◌, subst}
use Rattle.pb_task.specs.declared.parts.TaskParts.{TaskParts}
use Rattle.pb_task.specs.declared.parts.TaskParts.TheVariants.{Tiles, Strips}
use Rattle.pb_pattern.specs.Projected.{tracked_atoms}
use Rattle.pb_pattern.specs.Patterns.{pattern_value, strips_value}
use Rattle.pb_pattern.specs.Tables.{AreOfStrips, AreOfTiles, IsOfTask, TableValue}
use Rattle.pb_pattern.proofs.Imaged.{atoms_of_pattern}
use Rattle.pb_pattern.proofs.table.Table.least.Goals as goal

pub least_of_tiles-requires-clause-costs : goal.least_of_tiles-requires-clause-costs
unfolding IsOfTask
least_of_tiles-requires-clause-costs c =
    subst (AreOfTiles c.in-Tiles.tiles c.self.inside.pattern) (sym c.deref.ensures.value)
    (subst (λ (v : TableValue). IsOfTask v (Tiles c.in-Tiles.tiles)) (sym c.self.view_is) (subst (λ (t : TaskParts). IsOfTask c.args.self.now t) (sym c.parts.ensures.parts ∙ c.in-Tiles.is) c.requires.task))

pub least_of_strips-requires-clause-few : goal.least_of_strips-requires-clause-few
unfolding IsOfTask
least_of_strips-requires-clause-few c =
    let h : (c.self.inside.tracked.items ≡ tracked_atoms c.in-Strips.strips c.self.inside.pattern) × (c.self.inside.pattern ≤ 12) × AreOfStrips c.in-Strips.strips c.self.inside.tracked.items c.self.inside.costs.items =
    subst (λ (v : TableValue). IsOfTask v (Strips c.in-Strips.strips)) (sym c.self.view_is) (subst (λ (t : TaskParts). IsOfTask c.args.self.now t) (sym c.parts.ensures.parts ∙ c.in-Strips.is) c.requires.task) in
    subst (λ xs. length xs ≤ 12) (sym (c.deref-in-Strips.ensures.value ∙ h.0)) (atoms_of_pattern c.in-Strips.strips c.self.inside.pattern h.1).1

pub least_of_strips-requires-clause-atoms : goal.least_of_strips-requires-clause-atoms
unfolding IsOfTask
least_of_strips-requires-clause-atoms c =
    let h : (c.self.inside.tracked.items ≡ tracked_atoms c.in-Strips.strips c.self.inside.pattern) × (c.self.inside.pattern ≤ 12) × AreOfStrips c.in-Strips.strips c.self.inside.tracked.items c.self.inside.costs.items =
    subst (λ (v : TableValue). IsOfTask v (Strips c.in-Strips.strips)) (sym c.self.view_is) (subst (λ (t : TaskParts). IsOfTask c.args.self.now t) (sym c.parts.ensures.parts ∙ c.in-Strips.is) c.requires.task) in
    subst (All (λ atom. atom < c.in-Strips.strips.atoms)) (sym (c.deref-in-Strips.ensures.value ∙ h.0)) (atoms_of_pattern c.in-Strips.strips c.self.inside.pattern h.1).0

pub least_of_strips-requires-clause-costs : goal.least_of_strips-requires-clause-costs
unfolding IsOfTask
least_of_strips-requires-clause-costs c =
    let h : (c.self.inside.tracked.items ≡ tracked_atoms c.in-Strips.strips c.self.inside.pattern) × (c.self.inside.pattern ≤ 12) × AreOfStrips c.in-Strips.strips c.self.inside.tracked.items c.self.inside.costs.items =
    subst (λ (v : TableValue). IsOfTask v (Strips c.in-Strips.strips)) (sym c.self.view_is) (subst (λ (t : TaskParts). IsOfTask c.args.self.now t) (sym c.parts.ensures.parts ∙ c.in-Strips.is) c.requires.task) in
    subst (λ xs. AreOfStrips c.in-Strips.strips xs c.deref-in-Strips-2.result.now) (sym c.deref-in-Strips.ensures.value)
    (subst (AreOfStrips c.in-Strips.strips c.self.inside.tracked.items) (sym c.deref-in-Strips-2.ensures.value) h.2)

pub returns-in-Strips : goal.returns-in-Strips
unfolding IsOfTask
returns-in-Strips c =
    let h : (c.self.inside.tracked.items ≡ tracked_atoms c.in-Strips.strips c.self.inside.pattern) × (c.self.inside.pattern ≤ 12) × AreOfStrips c.in-Strips.strips c.self.inside.tracked.items c.self.inside.costs.items =
    subst (λ (v : TableValue). IsOfTask v (Strips c.in-Strips.strips)) (sym c.self.view_is) (subst (λ (t : TaskParts). IsOfTask c.args.self.now t) (sym c.parts.ensures.parts ∙ c.in-Strips.is) c.requires.task) in
    c.least_of_strips.ensures
    ∙ ap (λ xs. strips_value c.in-Strips.strips xs c.args.state.now) (c.deref-in-Strips.ensures.value ∙ h.0)
    ∙ ap (λ (t : TaskParts). pattern_value t c.self.inside.pattern c.args.state.now) (sym (sym c.parts.ensures.parts ∙ c.in-Strips.is))
    ∙ ap (λ (v : TableValue). pattern_value c.args.task.now v.pattern c.args.state.now) c.self.view_is
