use Rattle.std.proofs.Common.{◌≡◌, arith, ◌≤◌, ◌<◌, ◌-◌, length, ◌∙◌}
use Rattle.pb_estimate.specs.Spelling.{width_text}
use Rattle.pb_cert.proofs.LineTexts.{version_put, kind_put, width_put, stated_put, head_counted}
use Rattle.pb_cert.proofs.lines.put_head.Goals as goal

pub returns-then-at-eq0 : goal.returns-then-at-eq0
returns-then-at-eq0 c = version_put c.args.out.now c.put_version.new.out c.args.spelling.now c.args.at c.if-at-eq0.true c.put_version.ensures.line c.put_version.ensures.short

pub returns-then-at-eq1 : goal.returns-then-at-eq1
returns-then-at-eq1 c = kind_put c.args.out.now c.put_kind.new.out c.args.spelling.now c.args.at c.if-at-eq1.true c.put_kind.ensures.line c.put_kind.ensures.short

pub returns-then-at-widths : goal.returns-then-at-widths
returns-then-at-widths c =
    let past : 2 ≤ c.args.at = grind (arith, c.if-at-eq0.false, c.if-at-eq1.false) in
    let widths = c.width_lines.ensures.lines c.args.spelling.now.width in
    let within : c.args.at - 2 < length (width_text c.args.spelling.now.version c.args.spelling.now.width) =
    omega (arith, widths, c.from-widths.ensures, c.if-at-widths.true, past) in
    width_put c.args.out.now c.put_width.new.out c.args.spelling.now c.args.at past (c.put_width.ensures within)

pub put_stated-requires-clause-within : goal.put_stated-requires-clause-within
put_stated-requires-clause-within c =
    let widths : c.from-widths.result ≡ length (width_text c.args.spelling.now.version c.args.spelling.now.width) =
    c.from-widths.ensures ∙ c.width_lines.ensures.lines c.args.spelling.now.width in
    omega (arith, c.requires.within, head_counted c.args.spelling.now, widths, c.if-at-widths.false)

pub returns-else-at-widths : goal.returns-else-at-widths
returns-else-at-widths c =
    let widths : c.from-widths.result ≡ length (width_text c.args.spelling.now.version c.args.spelling.now.width) =
    c.from-widths.ensures ∙ c.width_lines.ensures.lines c.args.spelling.now.width in
    stated_put c.args.out.now c.put_stated.new.out c.args.spelling.now c.args.at c.from-widths.result widths (omega (arith, c.if-at-widths.false))
    c.put_stated.ensures
