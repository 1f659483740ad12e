use Rattle.std.proofs.Common.{sym, ap, ◌∙◌, refl}
use Rattle.pb_estimate.specs.Choices.{Plain, case_of}
use Rattle.pb_cert.proofs.LineTexts.{no_pattern_put, pattern_put}
use Rattle.pb_cert.proofs.lines.put_choice.Goals as goal

pub returns-in-Plain : goal.returns-in-Plain
returns-in-Plain c = no_pattern_put c.args.out.now c.args.out.now c.args.choice.now Plain c.args._at (sym c.case.ensures.case ∙ ap case_of c.in-Plain.is) refl

pub returns-in-Pattern : goal.returns-in-Pattern
returns-in-Pattern c = λ within.
    pattern_put c.args.out.now c.put_numbered.new.out c.args.choice.now c.in-Pattern.number c.args._at (sym c.case.ensures.case ∙ ap case_of c.in-Pattern.is) within c.put_numbered.ensures.line c.put_numbered.ensures.short

pub returns-in-Tables : goal.returns-in-Tables
returns-in-Tables c = no_pattern_put c.args.out.now c.args.out.now c.args.choice.now _ c.args._at (sym c.case.ensures.case ∙ ap case_of c.in-Tables.is) refl
