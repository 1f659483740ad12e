use Rattle.std.proofs.Common.{arith}
use Rattle.pb_cert.proofs.LineTexts.{grounding_put, estimate_put, width_of_spelling}
use Rattle.pb_cert.proofs.lines.put_stated_4.Goals as goal

pub returns-then-at-eq0 : goal.returns-then-at-eq0
returns-then-at-eq0 c =
    grounding_put c.args.out.now c.put_grounding.new.out c.args.spelling.now.width c.args.spelling.now.stated c.args.at c.if-at-eq0.true c.put_grounding.ensures.line c.put_grounding.ensures.short

pub put_estimate-requires-clause-some : goal.put_estimate-requires-clause-some
put_estimate-requires-clause-some c = (width_of_spelling c.args.spelling.now c.requires.spelling).0

pub put_estimate-requires-clause-most : goal.put_estimate-requires-clause-most
put_estimate-requires-clause-most c = (width_of_spelling c.args.spelling.now c.requires.spelling).1

pub put_estimate-requires-clause-within : goal.put_estimate-requires-clause-within
put_estimate-requires-clause-within c = omega (arith, c.requires.within, c.if-at-eq0.false)

pub returns-else-at-eq0 : goal.returns-else-at-eq0
returns-else-at-eq0 c =
    estimate_put c.args.out.now c.put_estimate.new.out c.args.spelling.now.width c.args.spelling.now.stated c.args.at c.if-at-eq0.false c.put_estimate.ensures
