-- The text of a made problem is read, and with the domain of the blocks world it is a task.
use Rattle.pb_pddl_laws.proofs.Callers.{problem_is_read}
use Rattle.pb_make_laws.specs.Laws.{MadeProblemsAreTasks}
use Rattle.pb_make_laws.proofs.SpelledDomain.{blocks_domain_is_tree}
use Rattle.pb_make_laws.proofs.BlocksTree.{blocks_tree}
use Rattle.pb_make_laws.proofs.BlocksRead.{made_problem_is_read}
use Rattle.pb_make_laws.proofs.BlocksFew.{blocks_have_no_fault}

pub made_problems_are_tasks : MadeProblemsAreTasks
made_problems_are_tasks seed blocks some few =
    let made = made_problem_is_read seed blocks some few in
    (blocks_tree, made.0, blocks_domain_is_tree, problem_is_read _ made.0 made.1, blocks_have_no_fault blocks few made.0 made.2)
