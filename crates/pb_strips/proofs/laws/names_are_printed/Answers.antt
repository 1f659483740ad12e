use Rattle.pb_strips.proofs.Printed.{names_are_printed}
use Rattle.pb_strips.proofs.laws.names_are_printed.Goals as goal

pub returns : goal.returns
returns c = names_are_printed
