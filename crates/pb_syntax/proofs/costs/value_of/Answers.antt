use Rattle.std.proofs.Common.{◌∙◌, sym}
use Rattle.pb_syntax.proofs.Values.{value_is, none_is_no_number}
use Rattle.pb_syntax.proofs.costs.value_of.Goals as goal

pub returns-in-None : goal.returns-in-None
returns-in-None c is = absurd (none_is_no_number c.args.word.now (sym c.short_number_of.ensures ∙ c.in-None.is) is)

pub returns-in-Some : goal.returns-in-Some
returns-in-Some c is = c.from.ensures ∙ value_is c.args.word.now c.in-Some.number (sym c.short_number_of.ensures ∙ c.in-Some.is)
