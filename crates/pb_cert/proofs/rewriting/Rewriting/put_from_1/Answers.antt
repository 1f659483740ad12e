use Rattle.std.proofs.Common.{ap, subst, sym, ◌∙◌, ◌+◌, ◌<◌, length}
use Rattle.pb_estimate.specs.declared.spelling.Version.TheVariants.{One}
use Rattle.pb_print.specs.Saved.{PutsLine}
use Rattle.pb_cert.specs.Rewritten.{Rewritten, lines_saved, Begins}
use Rattle.pb_cert.proofs.LinesAnew.{can_of, begins_of, begins_as, stepped_one, short_one, put_one, width_puts, first_puts}
use Rattle.pb_cert.proofs.rewriting.Rewriting.put_from_1.Goals as goal

pub returns-then-at-eq2-clause-line : goal.returns-then-at-eq2-clause-line
returns-then-at-eq2-clause-line c =
    let it : Rewritten = record { bytes = c.self.inside.bytes.now; from = c.self.inside.from; width = c.self.inside.width } in
    let version = ap (λ (it : Rewritten). it.from) c.self.view_is ∙ c.requires.version in
    subst (λ (it : Rewritten). PutsLine c.args.out.now c.put_width.new.out (lines_saved it) c.args.at) c.self.view_is
    (width_puts it.bytes it.width (can_of it One version c.self.invariant.0) c.args.out.now c.put_width.new.out c.args.at c.if-at-eq2.true c.put_width.ensures.line c.put_width.ensures.short)

pub put_respelled-requires-clause-short : goal.put_respelled-requires-clause-short
put_respelled-requires-clause-short c =
    let it : Rewritten = record { bytes = c.self.inside.bytes.now; from = c.self.inside.from; width = c.self.inside.width } in
    let version = ap (λ (it : Rewritten). it.from) c.self.view_is ∙ c.requires.version in
    short_one it.bytes it.width (can_of it One version c.self.invariant.0) c.args.at c.args.begin.now c.if-at-eq2.false
    (subst (λ (it : Rewritten). c.args.at < length (lines_saved it)) (sym c.self.view_is) c.requires.within)
    (begins_of it One version c.args.at c.args.begin.now (subst (λ (it : Rewritten). Begins it c.args.at c.args.begin.now) (sym c.self.view_is) c.requires.begins))
    c.next_line-line.result.now c.next_line-line.new.begin c.next_line-line.ensures.line c.next_line-line.ensures.next c.if-at-eq0.false

pub returns-then-at-eq0-clause-line : goal.returns-then-at-eq0-clause-line
returns-then-at-eq0-clause-line c =
    let it : Rewritten = record { bytes = c.self.inside.bytes.now; from = c.self.inside.from; width = c.self.inside.width } in
    let version = ap (λ (it : Rewritten). it.from) c.self.view_is ∙ c.requires.version in
    subst (λ (it : Rewritten). PutsLine c.args.out.now c.put_text.new.out (lines_saved it) c.args.at) c.self.view_is
    (first_puts it.bytes it.width (can_of it One version c.self.invariant.0) c.args.out.now c.put_text.new.out c.args.at c.if-at-eq0.true c.put_text.ensures.line c.put_text.ensures.short)

pub returns-then-at-eq0-clause-next : goal.returns-then-at-eq0-clause-next
returns-then-at-eq0-clause-next c =
    let it : Rewritten = record { bytes = c.self.inside.bytes.now; from = c.self.inside.from; width = c.self.inside.width } in
    let version = ap (λ (it : Rewritten). it.from) c.self.view_is ∙ c.requires.version in
    subst (λ (it : Rewritten). Begins it (c.args.at + 1) c.next_line-line.new.begin) c.self.view_is
    (begins_as it One version (c.args.at + 1) c.next_line-line.new.begin
    (stepped_one it.bytes it.width (can_of it One version c.self.invariant.0) c.args.at c.args.begin.now c.if-at-eq2.false
    (subst (λ (it : Rewritten). c.args.at < length (lines_saved it)) (sym c.self.view_is) c.requires.within)
    (begins_of it One version c.args.at c.args.begin.now (subst (λ (it : Rewritten). Begins it c.args.at c.args.begin.now) (sym c.self.view_is) c.requires.begins))
    c.next_line-line.result.now c.next_line-line.new.begin c.next_line-line.ensures.line c.next_line-line.ensures.next))

pub returns-else-at-eq0-clause-line : goal.returns-else-at-eq0-clause-line
returns-else-at-eq0-clause-line c =
    let it : Rewritten = record { bytes = c.self.inside.bytes.now; from = c.self.inside.from; width = c.self.inside.width } in
    let version = ap (λ (it : Rewritten). it.from) c.self.view_is ∙ c.requires.version in
    subst (λ (it : Rewritten). PutsLine c.args.out.now c.put_respelled.new.out (lines_saved it) c.args.at) c.self.view_is
    (put_one it.bytes it.width (can_of it One version c.self.invariant.0) c.args.at c.args.begin.now c.if-at-eq2.false
    (subst (λ (it : Rewritten). c.args.at < length (lines_saved it)) (sym c.self.view_is) c.requires.within)
    (begins_of it One version c.args.at c.args.begin.now (subst (λ (it : Rewritten). Begins it c.args.at c.args.begin.now) (sym c.self.view_is) c.requires.begins))
    c.next_line-line.result.now c.next_line-line.new.begin c.next_line-line.ensures.line c.next_line-line.ensures.next
    c.args.out.now c.put_respelled.new.out c.if-at-eq0.false c.put_respelled.ensures.line c.put_respelled.ensures.short)

pub returns-else-at-eq0-clause-next : goal.returns-else-at-eq0-clause-next
returns-else-at-eq0-clause-next c =
    let it : Rewritten = record { bytes = c.self.inside.bytes.now; from = c.self.inside.from; width = c.self.inside.width } in
    let version = ap (λ (it : Rewritten). it.from) c.self.view_is ∙ c.requires.version in
    subst (λ (it : Rewritten). Begins it (c.args.at + 1) c.next_line-line.new.begin) c.self.view_is
    (begins_as it One version (c.args.at + 1) c.next_line-line.new.begin
    (stepped_one it.bytes it.width (can_of it One version c.self.invariant.0) c.args.at c.args.begin.now c.if-at-eq2.false
    (subst (λ (it : Rewritten). c.args.at < length (lines_saved it)) (sym c.self.view_is) c.requires.within)
    (begins_of it One version c.args.at c.args.begin.now (subst (λ (it : Rewritten). Begins it c.args.at c.args.begin.now) (sym c.self.view_is) c.requires.begins))
    c.next_line-line.result.now c.next_line-line.new.begin c.next_line-line.ensures.line c.next_line-line.ensures.next))
