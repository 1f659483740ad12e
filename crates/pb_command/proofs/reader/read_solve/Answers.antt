use Rattle.std.proofs.Common.{◌∙◌, sym, subst, rules}
use Rattle.clap.specs.Words.{found_of, rows_of}
use Rattle.pb_command.specs.Causes.{meaning_of, Answers}
use Rattle.pb_command.proofs.FromClap.{solve_asked}
use Rattle.pb_command.proofs.reader.read_solve.Goals as goal

pub returns-in-Some-input_of-clause-read : goal.returns-in-Some-input_of-clause-read
returns-in-Some-input_of-clause-read c =
    let asked = solve_asked (rows_of (found_of c.args.matches.now)) c.in-Some.kind c.in-Some-first.first.now _ _ c.engine_at-engine.result c.effort_at-effort.result _ _ _ _ c.input_options-options.result c.settings-settings.result
    (sym c.values_fit.ensures ∙ search rules) (search rules) (search rules) (sym c.text-second.ensures) (search rules) (sym c.input_options-options.ensures.options) (sym c.settings-settings.ensures.settings) (sym c.engine_at-engine.ensures) (sym c.effort_at-effort.ensures.effort) (sym c.text_at-tables.ensures) (sym c.text_at-certificate.ensures) (sym c.text_at-journal.ensures) (sym c.optional_number_at-falling.ensures.number) in
    subst (λ x. Answers meaning_of x c.tested_solve.result) (sym asked) c.tested_solve.ensures.read
