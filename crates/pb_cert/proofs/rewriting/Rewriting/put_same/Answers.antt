use Rattle.std.proofs.Common.{◌≢◌, ap, subst, sym, ◌∙◌, ◌+◌, ◌<◌, length}
use Rattle.pb_estimate.specs.declared.spelling.Version.TheVariants.{One}
use Rattle.pb_print.specs.Saved.{PutsLine}
use Rattle.pb_cert.specs.Rewritten.{Rewritten, lines_saved, Begins}
use Rattle.pb_cert.proofs.LinesAnew.{stepped_same, short_same, put_same}
use Rattle.pb_cert.proofs.rewriting.Rewriting.put_same.Goals as goal

pub put_text-requires-clause-short : goal.put_text-requires-clause-short
put_text-requires-clause-short c =
    let it : Rewritten = record { bytes = c.self.inside.bytes.now; from = c.self.inside.from; width = c.self.inside.width } in
    let later : it.from ≢ One = λ one. c.requires.version (sym (ap (λ (it : Rewritten). it.from) c.self.view_is) ∙ one) in
    short_same it.bytes it.from it.width c.self.invariant.0 later c.args.at c.args.begin.now
    (subst (λ (it : Rewritten). c.args.at < length (lines_saved it)) (sym c.self.view_is) c.requires.within)
    (subst (λ (it : Rewritten). Begins it c.args.at c.args.begin.now) (sym c.self.view_is) c.requires.begins)
    c.next_line.result.now c.next_line.new.begin c.next_line.ensures.line c.next_line.ensures.next

pub returns-clause-line : goal.returns-clause-line
returns-clause-line c =
    let it : Rewritten = record { bytes = c.self.inside.bytes.now; from = c.self.inside.from; width = c.self.inside.width } in
    let later : it.from ≢ One = λ one. c.requires.version (sym (ap (λ (it : Rewritten). it.from) c.self.view_is) ∙ one) in
    subst (λ (it : Rewritten). PutsLine c.args.out.now c.put_text.new.out (lines_saved it) c.args.at) c.self.view_is
    (put_same it.bytes it.from it.width c.self.invariant.0 later c.args.at c.args.begin.now
    (subst (λ (it : Rewritten). c.args.at < length (lines_saved it)) (sym c.self.view_is) c.requires.within)
    (subst (λ (it : Rewritten). Begins it c.args.at c.args.begin.now) (sym c.self.view_is) c.requires.begins)
    c.next_line.result.now c.next_line.new.begin c.next_line.ensures.line c.next_line.ensures.next
    c.args.out.now c.put_text.new.out c.put_text.ensures.line c.put_text.ensures.short)

pub returns-clause-next : goal.returns-clause-next
returns-clause-next c =
    let it : Rewritten = record { bytes = c.self.inside.bytes.now; from = c.self.inside.from; width = c.self.inside.width } in
    let later : it.from ≢ One = λ one. c.requires.version (sym (ap (λ (it : Rewritten). it.from) c.self.view_is) ∙ one) in
    subst (λ (it : Rewritten). Begins it (c.args.at + 1) c.next_line.new.begin) c.self.view_is
    (stepped_same it.bytes it.from it.width c.self.invariant.0 later c.args.at c.args.begin.now
    (subst (λ (it : Rewritten). c.args.at < length (lines_saved it)) (sym c.self.view_is) c.requires.within)
    (subst (λ (it : Rewritten). Begins it c.args.at c.args.begin.now) (sym c.self.view_is) c.requires.begins)
    c.next_line.result.now c.next_line.new.begin c.next_line.ensures.line c.next_line.ensures.next)
