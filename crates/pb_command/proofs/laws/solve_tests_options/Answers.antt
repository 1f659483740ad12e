use Rattle.std.proofs.Common.{◌∙◌}
use Rattle.pb_command.specs.declared.table.ValuedOption.TheVariants.{Engine, Certificate, Journal}
use Rattle.pb_command.specs.Options.{value_given, falling_given, solve_given}
use Rattle.pb_command.proofs.SolveReading.{solve_is_tested, low_weight, one_name, same_names, other_engine, two_names, lost_journal, pattern_of_estimate_refused, pattern_beside_file_refused, estimate_beside_file_refused}
use Rattle.pb_command.proofs.laws.solve_tests_options.Goals as goal

pub returns-clause-weight : goal.returns-clause-weight
returns-clause-weight c = λ input arguments are weight. solve_is_tested input arguments are ∙ low_weight (solve_given input arguments) (falling_given arguments) weight

pub returns-clause-names : goal.returns-clause-names
returns-clause-names c = λ input name arguments are weight e f. solve_is_tested input arguments are
    ∙ one_name (solve_given input arguments) (falling_given arguments) weight (same_names (value_given Certificate arguments) (value_given Journal arguments) name e f)

pub returns-clause-engine : goal.returns-clause-engine
returns-clause-engine c = λ input name arguments are weight names e f. solve_is_tested input arguments are
    ∙ other_engine (solve_given input arguments) (falling_given arguments) weight (two_names (value_given Certificate arguments) (value_given Journal arguments) names)
    (lost_journal (value_given Engine arguments) (value_given Journal arguments) name e f)

pub returns-clause-estimate : goal.returns-clause-estimate
returns-clause-estimate c = pattern_of_estimate_refused

pub returns-clause-file : goal.returns-clause-file
returns-clause-file c = pattern_beside_file_refused

pub returns-clause-both : goal.returns-clause-both
returns-clause-both c = estimate_beside_file_refused
