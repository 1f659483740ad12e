use Rattle.std.proofs.Common.{refl, ◌∙◌}
use Rattle.pb_cert.proofs.LinesAnew.{cut_line, later_begin, not_uncut, whole_rest}
use Rattle.pb_cert.proofs.rewriting.next_line.Goals as goal

pub returns-in-Some-clause-line : goal.returns-in-Some-clause-line
returns-in-Some-clause-line c = λ first rest is none.
    (cut_line _ c.in-Some.line.now c.in-Some.behind.now first rest c.in-Some.ensures.some
    (whole_rest c.args.bytes.now c.args.begin.now ∙ is) none).0

pub returns-in-Some-clause-next : goal.returns-in-Some-clause-next
returns-in-Some-clause-next c = λ first rest is none.
    later_begin c.args.bytes.now c.in-Some.behind.now c.args.begin.now _ first rest is
    (cut_line _ c.in-Some.line.now c.in-Some.behind.now first rest c.in-Some.ensures.some
    (whole_rest c.args.bytes.now c.args.begin.now ∙ is) none).1 refl

pub returns-in-None-clause-line : goal.returns-in-None-clause-line
returns-in-None-clause-line c = λ first rest is none. absurd (not_uncut _ first rest c.in-None.ensures.none
    (whole_rest c.args.bytes.now c.args.begin.now ∙ is) none)

pub returns-in-None-clause-next : goal.returns-in-None-clause-next
returns-in-None-clause-next c = λ first rest is none. absurd (not_uncut _ first rest c.in-None.ensures.none
    (whole_rest c.args.bytes.now c.args.begin.now ∙ is) none)
