use Rattle.std.proofs.Common.{◌∙◌, ap}
use Rattle.std.specs.Prelude.{is_some}
use Rattle.pb_syntax.proofs.Values.{some_is_number}
use Rattle.pb_syntax.proofs.costs.is_number.Goals as goal

pub returns : goal.returns
returns c = c.is_some.ensures ∙ ap is_some c.short_number_of.ensures ∙ some_is_number c.args.word.now
