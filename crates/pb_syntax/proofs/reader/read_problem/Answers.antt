use Rattle.std.proofs.lemmas.Result.{IfOk-weaker}
use Rattle.pb_pddl.specs.Reading.{unlimited, problem_at}
use Rattle.pb_pddl.specs.Readings.{tokens_of, problem_reading}
use Rattle.pb_pddl.specs.Trees.{SpellsProblem}
use Rattle.pb_pddl.specs.Words.{ProblemHasWords}
use Rattle.pb_pddl.specs.Grammar.{IsProblem}
use Rattle.pb_pddl_laws.specs.Table.{problem_form}
use Rattle.pb_pddl_laws.proofs.Callers.{problem_is, problem_again, problem_fault, problem_told, told_problem, texts_have_tokens, problem_has_words, found, only, none, first, told, fault}
use Rattle.pb_syntax.proofs.reader.read_problem.Goals as goal

pub returns-clause-found : goal.returns-clause-found
returns-clause-found c = found (problem_at unlimited) IsProblem c.args.text.now c.problem_of.result problem_is c.problem_of.ensures.is

pub returns-clause-only : goal.returns-clause-only
returns-clause-only c = only (problem_at unlimited) IsProblem c.args.text.now c.problem_of.result problem_again c.problem_of.ensures.only

pub returns-clause-none : goal.returns-clause-none
returns-clause-none c = none (problem_at unlimited) IsProblem c.args.text.now c.problem_of.result problem_again c.problem_of.ensures.only

pub returns-clause-first : goal.returns-clause-first
returns-clause-first c = first (problem_at unlimited) IsProblem c.args.text.now c.problem_of.result problem_fault c.problem_of.ensures.is

pub returns-clause-told : goal.returns-clause-told
returns-clause-told c = told (problem_at unlimited) IsProblem c.args.text.now problem_form c.problem_of.result problem_told c.problem_of.ensures.is

pub returns-clause-fault : goal.returns-clause-fault
returns-clause-fault c = fault (problem_at unlimited) IsProblem c.args.text.now problem_form c.problem_of.result told_problem c.problem_of.ensures.only

pub returns-clause-reading : goal.returns-clause-reading
unfolding problem_reading
returns-clause-reading c = c.problem_of.ensures.only (tokens_of c.args.text.now) (texts_have_tokens c.args.text.now)

pub returns-clause-words : goal.returns-clause-words
returns-clause-words c =
    IfOk-weaker c.problem_of.result (SpellsProblem c.args.text.now) ProblemHasWords (problem_has_words c.args.text.now)
    (found (problem_at unlimited) IsProblem c.args.text.now c.problem_of.result problem_is c.problem_of.ensures.is)
