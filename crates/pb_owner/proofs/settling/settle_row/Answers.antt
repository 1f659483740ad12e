use Rattle.std.proofs.Common.{refl, sym, ◌∙◌}
use Rattle.pb_model.proofs.Callers.{not_both}
use Rattle.pb_task.specs.Parts.{space_of}
use Rattle.pb_owner.specs.Shares.{owner_of, weight_of}
use Rattle.pb_owner.proofs.Fewer.{opened_fall}
use Rattle.pb_owner.proofs.Alone.{cut_worked, goal_worked}
use Rattle.pb_owner.proofs.settling.settle_row.Goals as goal

pub returns-then-may_be_cut-clause-worked : goal.returns-then-may_be_cut-clause-worked
returns-then-may_be_cut-clause-worked c = λ guide number letters are.
    cut_worked (space_of c.args.task.now) guide (weight_of c.args.weight) number (owner_of c.args.share.now letters) are c.args.state.now c.args.row.now c.requires.first
    (c.may_be_cut.ensures.0 c.if-may_be_cut.true) (owner_of (record { bundle = c.cut_row.new.self; incumbent = c.args.share.now.incumbent }) letters) c.cut_row.ensures.sets refl (λ to. refl)

pub returns-then-may_be_cut-clause-fewer : goal.returns-then-may_be_cut-clause-fewer
returns-then-may_be_cut-clause-fewer c = λ _.
    opened_fall c.args.share.now.bundle c.cut_row.new.self c.args.state.now c.args.row.now c.requires.first.found c.requires.first.opened (c.cut_row.ensures.put c.args.row.now c.requires.first.found)

pub returns-then-is_goal-clause-worked : goal.returns-then-is_goal-clause-worked
returns-then-is_goal-clause-worked c = λ guide number letters are.
    goal_worked (space_of c.args.task.now) guide (weight_of c.args.weight) number (owner_of c.args.share.now letters) are c.args.state.now c.args.row.now c.requires.first
    (λ may. not_both c.may_be_cut.result (c.may_be_cut.ensures.1 may) c.if-may_be_cut.false) (sym c.is_goal.ensures ∙ c.if-is_goal.true) (owner_of (record { bundle = c.cut_row-then-is_goal.new.self; incumbent = Rattle.std.specs.Prelude.Some c.lowered.result }) letters) c.cut_row-then-is_goal.ensures.sets c.lowered.ensures (λ to. refl)

pub returns-then-is_goal-clause-fewer : goal.returns-then-is_goal-clause-fewer
returns-then-is_goal-clause-fewer c = λ _.
    opened_fall c.args.share.now.bundle c.cut_row-then-is_goal.new.self c.args.state.now c.args.row.now c.requires.first.found c.requires.first.opened (c.cut_row-then-is_goal.ensures.put c.args.row.now c.requires.first.found)
