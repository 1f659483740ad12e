use Rattle.std.proofs.Common.{◌≡◌, arith, ap, subst}
use Rattle.pb_estimate.specs.declared.spelling.Spelling.{Spelling}
use Rattle.pb_estimate.specs.Spelling.{head_of, head_lines}
use Rattle.pb_print.specs.Saved.{PutsLine}
use Rattle.pb_cert.specs.Stated.{SpelledCertificate}
use Rattle.pb_cert.proofs.LineTexts.{head_put, weight_put}
use Rattle.pb_cert.proofs.certificate.Certificate.put_first.Goals as goal

pub returns-then-at-head_lines : goal.returns-then-at-head_lines
returns-then-at-head_lines c =
    head_put c.args.out.now c.put_head.new.out c.args.self.now c.args.at
    (subst (λ (s : Spelling). PutsLine c.args.out.now c.put_head.new.out (head_of s) c.args.at)
    (ap (λ (s : SpelledCertificate). s.spelling) c.self.view_is) c.put_head.ensures)

pub returns-else-at-head_lines : goal.returns-else-at-head_lines
returns-else-at-head_lines c =
    let same : head_lines c.self.inside.spelling ≡ head_lines c.args.self.now.spelling =
    ap (λ (s : SpelledCertificate). head_lines s.spelling) c.self.view_is in
    weight_put c.args.out.now c.put_weight.new.out c.args.self.now c.args.at
    (omega (arith, same, c.head_lines.ensures.lines, c.if-at-head_lines.false))
    c.requires.within c.put_weight.ensures.line c.put_weight.ensures.short
