use Rattle.pb_strips.proofs.StepsAgree.{packed_steps_are_steps, steps_are_packed_steps, starts_agree, goals_agree}
use Rattle.pb_strips.proofs.laws.steps_are_lifted.Goals as goal

pub returns-clause-packed : goal.returns-clause-packed
returns-clause-packed c = packed_steps_are_steps

pub returns-clause-lifted : goal.returns-clause-lifted
returns-clause-lifted c = steps_are_packed_steps

pub returns-clause-start : goal.returns-clause-start
returns-clause-start c = starts_agree

pub returns-clause-goals : goal.returns-clause-goals
returns-clause-goals c = goals_agree
