use Rattle.pb_cert.proofs.LineTexts.{first_line_put, plan_line_put, rows_line_put, rest_within}
use Rattle.pb_cert.proofs.lines.CertificateNumberedLines.put_line.Goals as goal

pub returns-then-at-first-clause-line : goal.returns-then-at-first-clause-line
returns-then-at-first-clause-line c = first_line_put c.args.out.now c.put_first.new.out c.args.self.now c.args.at c.first_count-first.result c.first_count-first.ensures.count c.put_first.ensures

pub returns-then-at-first-2-clause-line : goal.returns-then-at-first-2-clause-line
returns-then-at-first-2-clause-line c = plan_line_put c.args.out.now c.put_plan.new.out c.args.self.now c.args.at c.first_count-first.result c.first_count-first.ensures.count c.if-at-first.false c.put_plan.ensures

pub returns-else-at-first-2-clause-line : goal.returns-else-at-first-2-clause-line
returns-else-at-first-2-clause-line c =
    rows_line_put c.args.out.now c.put_rows.new.out c.args.self.now c.args.at c.first_count-first.result c.first_count-first.ensures.count c.plan_count-plan.result c.plan_count-plan.ensures.count c.if-at-first-2.false c.put_rows.ensures

pub put_rows-requires-clause-within : goal.put_rows-requires-clause-within
put_rows-requires-clause-within c =
    rest_within c.args.self.now c.args.at c.first_count-first.result c.plan_count-plan.result c.first_count-first.ensures.count c.plan_count-plan.ensures.count c.requires.within c.if-at-first-2.false
