use Rattle.pb_cert.proofs.LineTexts.{no_width_put, one_width_put}
use Rattle.pb_cert.proofs.lines.put_width.Goals as goal

pub returns-in-One : goal.returns-in-One
returns-in-One c = no_width_put c.args.out.now c.args.out.now c.args.spelling.now.version c.args.spelling.now.width c.args._at c.in-One.is

pub returns-in-Two : goal.returns-in-Two
returns-in-Two c = λ within.
    one_width_put c.args.out.now c.put_numbered.new.out c.args.spelling.now.version c.args.spelling.now.width c.args._at c.from.result c.from.ensures within c.put_numbered.ensures.line c.put_numbered.ensures.short
