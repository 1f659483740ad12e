use Rattle.std.proofs.Common.{sym, length, ◌<◌, rules}
use Rattle.std.proofs.lemmas.List.{take_rest}
use Rattle.pb_grid.proofs.Parting.{lines_first, lines_alone}
use Rattle.pb_grid.proofs.lines.split_line.Goals as goal

pub returns-in-Some-clause-some : goal.returns-in-Some-clause-some
returns-in-Some-clause-some c = rw (take_rest, c.without_return.ensures) (lines_first c.args.text.now c.in-Some.end (sym c.in-Some.ensures))

pub returns-in-None-clause-some : goal.returns-in-None-clause-some
returns-in-None-clause-some c =
    let some : 0 < length c.args.text.now = search rules in
    rw (take_rest, c.without_return-in-None.ensures) (lines_alone c.args.text.now some (sym c.in-None.ensures))
