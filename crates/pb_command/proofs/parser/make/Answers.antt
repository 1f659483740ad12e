use Rattle.std.proofs.Common.{◌≡◌, ◌∙◌, ap, ap₂, rules, codes}
use Rattle.std.proofs.lemmas.Result.{IfOk-weaker}
use Rattle.std.specs.Prelude.{map}
use Rattle.clap.specs.Words.{app_of, new_app, with_rule}
use Rattle.pb_command.specs.Table.{make_options}
use Rattle.pb_command.specs.Parser.{the_make, option_rule, with_rules}
use Rattle.pb_command.proofs.parser.make.Goals as goal

pub returns-clause-app : goal.returns-clause-app
unfolding the_make
returns-clause-app c =
    let new : app_of c.new.result ≡ new_app (codes "make") = search rules in
    let kind = ap (with_rule (new_app (codes "make"))) c.required_word.ensures.rule in
    let seed = ap₂ with_rule kind c.required_number.ensures.rule in
    let size = ap₂ with_rule seed c.required_number-2.ensures.rule in
    let whole = ap (λ a. with_rules a (map option_rule make_options)) size in
    let made-1 = c.add-with_kind.ensures.app _ new in
    let made-2 = c.add-with_seed.ensures.app _ made-1 in
    let made-3 = c.add-with_size.ensures.app _ made-2 in
    let made-4 = c.add_options.ensures.app _ made-3 in
    IfOk-weaker c.add_options.result _ _ (λ m h. h ∙ whole) made-4
