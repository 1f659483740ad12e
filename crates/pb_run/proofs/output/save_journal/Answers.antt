use Rattle.pb_journal.specs.Texts.{journal_text}
use Rattle.std.proofs.lemmas.Result.{on_ok_weaker}
use Rattle.pb_run.proofs.Handing.{saved_one}
use Rattle.pb_run.proofs.output.save_journal.Goals as goal

pub returns-in-Some-clause-ok : goal.returns-in-Some-clause-ok
returns-in-Some-clause-ok g c = rw c.in-Some.is
    (on_ok_weaker c.write_journal.result (λ ok. saved_one (g.H.Shelf.files c.args.shelf.now) (g.H.Shelf.files c.write_journal.new.shelf)
    c.in-Some.file.name.now (journal_text c.in-Some.file.settings c.in-Some.file.events.now) ok c.write_journal.ensures.others) c.write_journal.ensures.ok)
