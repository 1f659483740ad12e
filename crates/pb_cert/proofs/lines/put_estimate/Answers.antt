use Rattle.std.proofs.Common.{◌<◌, length, sym, ap, subst, ◌∙◌}
use Rattle.pb_estimate.specs.Choices.{Choice, case_of}
use Rattle.pb_estimate.specs.Spelling.{estimate_text}
use Rattle.pb_cert.specs.Starts.{HasStarts}
use Rattle.pb_cert.proofs.LineTexts.{plain_put, number_put, tables_put}
use Rattle.pb_cert.proofs.lines.put_estimate.Goals as goal

pub returns-in-Plain : goal.returns-in-Plain
returns-in-Plain c =
    plain_put c.args.out.now c.push.new.self c.args.digits c.args.choice.now c.args.at (sym c.case.ensures.case ∙ ap case_of c.in-Plain.is)
    c.requires.within c.push.ensures

pub returns-in-Pattern : goal.returns-in-Pattern
returns-in-Pattern c =
    number_put c.args.out.now c.put_numbered.new.out c.args.digits c.args.choice.now c.args.at c.in-Pattern.number (sym c.case.ensures.case ∙ ap case_of c.in-Pattern.is)
    c.requires.within c.put_numbered.ensures.line c.put_numbered.ensures.short

pub put_tables-requires-clause-starts : goal.put_tables-requires-clause-starts
put_tables-requires-clause-starts c =
    subst (λ (choice : Choice). HasStarts choice c.args.starts.now) (sym c.case.ensures.case ∙ ap case_of c.in-Tables.is) c.requires.starts

pub put_tables-requires-clause-within : goal.put_tables-requires-clause-within
put_tables-requires-clause-within c =
    subst (λ (choice : Choice). c.args.at < length (estimate_text c.args.digits choice)) (sym c.case.ensures.case ∙ ap case_of c.in-Tables.is) c.requires.within

pub returns-in-Tables : goal.returns-in-Tables
returns-in-Tables c =
    tables_put c.args.out.now c.put_tables.new.out c.args.digits c.args.choice.now c.args.at c.in-Tables.tables.now (sym c.case.ensures.case ∙ ap case_of c.in-Tables.is)
    c.put_tables.ensures
