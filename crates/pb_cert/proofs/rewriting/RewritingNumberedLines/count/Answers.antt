use Rattle.std.proofs.Common.{◌≡◌, subst, arith}
use Rattle.pb_model.specs.Texts.{lines}
use Rattle.pb_cert.specs.Rewritten.{Rewritten, lines_saved, text_saved, Begins}
use Rattle.pb_cert.proofs.LinesAnew.{some_lines, saved_text, begins_first}
use Rattle.pb_cert.proofs.rewriting.RewritingNumberedLines.count.Goals as goal

pub returns-clause-some : goal.returns-clause-some
returns-clause-some c =
    let some = some_lines c.self.inside.bytes.now c.self.inside.from c.self.inside.width c.self.invariant.0 in
    omega (arith, some, c.self.invariant.1)

pub returns-clause-text : goal.returns-clause-text
returns-clause-text c =
    subst (λ (it : Rewritten). lines (lines_saved it) ≡ text_saved it) c.self.view_is
    (saved_text c.self.inside.bytes.now c.self.inside.from c.self.inside.width c.self.invariant.0)

pub returns-clause-first : goal.returns-clause-first
returns-clause-first c =
    subst (λ (it : Rewritten). Begins it 0 0) c.self.view_is
    (begins_first c.self.inside.bytes.now c.self.inside.from c.self.inside.width c.self.invariant.0)
