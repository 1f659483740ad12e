use Rattle.std.proofs.Common.{arith}
use Rattle.pb_cert.proofs.LineTexts.{count_put, row_put, end_put}
use Rattle.pb_cert.proofs.certificate.Certificate.put_rows.Goals as goal

pub returns-then-at-eq0 : goal.returns-then-at-eq0
returns-then-at-eq0 c =
    count_put c.args.out.now c.put_numbered.new.out c.args.self.now.spelling.width c.args.self.now.certificate c.args.at c.rows-rows.result c.rows-rows.ensures c.if-at-eq0.true c.put_numbered.ensures.line c.put_numbered.ensures.short

pub returns-then-at-rows : goal.returns-then-at-rows
returns-then-at-rows c = row_put c.args.out.now c.put_row.new.out c.args.self.now.spelling.width c.args.self.now.certificate c.args.at c.row.result c.digits.result c.digits.ensures.digits c.if-at-eq0.false c.row.ensures c.put_row.ensures.line c.put_row.ensures.short

pub returns-else-at-rows : goal.returns-else-at-rows
returns-else-at-rows c = end_put c.args.out.now c.push.new.self c.args.self.now.spelling.width c.args.self.now.certificate c.args.at (omega (arith, c.rows-rows.ensures, c.if-at-rows.false)) c.requires.within c.push.ensures
