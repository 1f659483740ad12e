use Rattle.std.proofs.Common.{◌+◌, sym, ap, ◌∙◌}
use Rattle.pb_cert.proofs.LineTexts.{lines_are_text, lines_counted}
use Rattle.pb_cert.proofs.lines.CertificateNumberedLines.count.Goals as goal

pub returns-clause-count : goal.returns-clause-count
returns-clause-count c =
    ap (λ rows. c.first_count.result + c.plan_count.result + rows + 2) c.rows.ensures
    ∙ sym (lines_counted c.args.self.now c.first_count.result c.plan_count.result c.first_count.ensures.count c.plan_count.ensures.count)

pub returns-clause-text : goal.returns-clause-text
returns-clause-text c = lines_are_text c.args.self.now
