use Rattle.pb_command.proofs.reader.read_words.Goals as goal

pub returns-in-Err-clause-refused : goal.returns-in-Err-clause-refused
returns-in-Err-clause-refused c = c.form_refusal.ensures _ c.in-Err.ensures.refused
