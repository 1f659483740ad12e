use Rattle.pb_strips.proofs.PlansAgree.{kept_plans}
use Rattle.pb_strips.proofs.StepsAgree.{all_are_kept, kept_steps}
use Rattle.pb_strips.proofs.Telling.{kept_names_tell_actions}
use Rattle.pb_strips.proofs.laws.kept_atoms_are_enough.Goals as goal

pub returns-clause-steps : goal.returns-clause-steps
returns-clause-steps c = kept_steps

pub returns-clause-plans : goal.returns-clause-plans
returns-clause-plans c = kept_plans

pub returns-clause-names : goal.returns-clause-names
returns-clause-names c = kept_names_tell_actions

pub returns-clause-all : goal.returns-clause-all
returns-clause-all c = all_are_kept
