use Rattle.std.proofs.Common.{◌∙◌, sym, ap, map}
use Rattle.std.proofs.lemmas.Result.{IfOk-weaker}
use Rattle.clap.specs.Words.{with_rule}
use Rattle.pb_command.specs.Parser.{with_rules, option_rule}
use Rattle.pb_command.proofs.parser.+add_options.Goals as goal

pub returns-in-Some-clause-app : goal.returns-in-Some-clause-app
returns-in-Some-clause-app t c a given =
    let first = ap (λ r. with_rules (with_rule a r) (map option_rule c.in-Some.rest.now)) c.option_arg.ensures.rule in
    let whole = ap (λ os. with_rules a (map option_rule os)) (sym c.in-Some.ensures.cases.0) in
    IfOk-weaker c.add_options.result _ _ (λ m h. h ∙ (first ∙ whole)) (c.add_options.ensures.app _ (c.add-with_first.ensures.app a given))
