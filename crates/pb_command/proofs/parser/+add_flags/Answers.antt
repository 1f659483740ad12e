use Rattle.std.proofs.Common.{◌∙◌, sym, ap, map}
use Rattle.std.proofs.lemmas.Result.{IfOk-weaker}
use Rattle.clap.specs.Words.{with_rule}
use Rattle.pb_command.specs.Table.{flag_name}
use Rattle.pb_command.specs.Parser.{with_rules, flag_rule}
use Rattle.pb_command.proofs.parser.+add_flags.Goals as goal

pub returns-in-Some-clause-app : goal.returns-in-Some-clause-app
returns-in-Some-clause-app t c a given =
    let named = ap (λ name. with_rules (with_rule a (flag_rule name)) (map (λ f. flag_rule (flag_name f)) c.in-Some.rest.now)) c.name.ensures in
    let first = ap (λ r. with_rules (with_rule a r) (map (λ f. flag_rule (flag_name f)) c.in-Some.rest.now)) c.flag.ensures.rule in
    let whole = ap (λ fs. with_rules a (map (λ f. flag_rule (flag_name f)) fs)) (sym c.in-Some.ensures.cases.0) in
    IfOk-weaker c.add_flags.result _ _ (λ m h. h ∙ (first ∙ (named ∙ whole))) (c.add_flags.ensures.app _ (c.add-with_first.ensures.app a given))
