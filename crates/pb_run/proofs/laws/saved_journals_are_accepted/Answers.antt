use Rattle.pb_run.proofs.Accepted as law
use Rattle.pb_run.proofs.laws.saved_journals_are_accepted.Goals as goal

pub returns : goal.returns
returns c =
    law.saved_journals_are_accepted c.written_journals_are_accepted.ensures
    c.journal_texts_are_short.ensures c.swamp_changes_marks_alone.ensures c.blocks_ask_for_no_costs.ensures
