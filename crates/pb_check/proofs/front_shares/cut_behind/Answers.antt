use Rattle.std.proofs.Common.{sym, ap, ◌∙◌}
use Rattle.pb_lines.specs.Words.{part}
use Rattle.pb_check.specs.Fronts.{is_whole}
use Rattle.pb_check.proofs.TwoPieces.{cut_is}
use Rattle.pb_check.proofs.front_shares.cut_behind.Goals as goal

pub returns-else-rest-eq0-clause-whole : goal.returns-else-rest-eq0-clause-whole
returns-else-rest-eq0-clause-whole c =
    ap is_whole c.split_at-else-rest-eq0.ensures.front
    ∙ cut_is c.args.text.now c.in-Some.field-0-0.now c.in-Some.rest.now c.args.at (ap (part 10) (sym c.split_at.ensures.back) ∙ c.in-Some.ensures.some)
