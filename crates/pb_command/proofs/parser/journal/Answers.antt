use Rattle.std.proofs.Common.{◌≡◌, ◌∙◌, ap, ap₂, rules, codes}
use Rattle.std.proofs.lemmas.Result.{IfOk-weaker}
use Rattle.std.specs.Prelude.{map}
use Rattle.clap.specs.Words.{app_of, new_app, with_rule}
use Rattle.pb_command.specs.Table.{flag_name, journal_options, journal_flags}
use Rattle.pb_command.specs.Parser.{the_journal, flag_rule, option_rule, with_rules}
use Rattle.pb_command.proofs.parser.journal.Goals as goal

pub returns-clause-app : goal.returns-clause-app
unfolding the_journal
returns-clause-app c =
    let new : app_of c.new.result ≡ new_app (codes "journal") = search rules in
    let kind = ap (with_rule (new_app (codes "journal"))) c.required_word.ensures.rule in
    let journal = ap₂ with_rule kind c.required_word-2.ensures.rule in
    let first = ap₂ with_rule journal c.required_word-3.ensures.rule in
    let second = ap₂ with_rule first c.optional_word.ensures.rule in
    let whole = ap (λ a. with_rules (with_rules a (map option_rule journal_options)) (map (λ f. flag_rule (flag_name f)) journal_flags)) second in
    let made-1 = c.add-with_kind.ensures.app _ new in
    let made-2 = c.add-with_journal.ensures.app _ made-1 in
    let made-3 = c.add-with_first.ensures.app _ made-2 in
    let made-4 = c.add-with_second.ensures.app _ made-3 in
    let made-5 = c.add_options-with_options.ensures.app _ made-4 in
    let made-6 = c.add_flags.ensures.app _ made-5 in
    IfOk-weaker c.add_flags.result _ _ (λ m h. h ∙ whole) made-6
