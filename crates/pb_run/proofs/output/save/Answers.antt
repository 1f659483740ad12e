use Rattle.pb_answer.specs.Answer.{certificates_of, journals_of}
use Rattle.std.proofs.lemmas.Result.{on_ok_weaker, on_err_weaker}
use Rattle.pb_run.proofs.Saving.{both_saved, then_failed}
use Rattle.pb_run.proofs.output.save.Goals as goal

pub returns-clause-calls : goal.returns-clause-calls
returns-clause-calls g c = on_ok_weaker c.save_journal.result (λ later. both_saved (certificates_of c.args.answer.now.certificate) (journals_of c.args.answer.now.journal)
    (g.H.Shelf.calls c.args.shelf.now) (g.H.Shelf.calls c.save_certificate.new.shelf) (g.H.Shelf.calls c.save_journal.new.shelf)
    c.in_ok-save_certificate.ensures.calls later) c.save_journal.ensures.calls

pub returns-clause-calls_error : goal.returns-clause-calls_error
returns-clause-calls_error g c = on_err_weaker c.save_journal.result (λ later. then_failed (certificates_of c.args.answer.now.certificate) (journals_of c.args.answer.now.journal)
    (g.H.Shelf.calls c.args.shelf.now) (g.H.Shelf.calls c.save_certificate.new.shelf) (g.H.Shelf.calls c.save_journal.new.shelf)
    c.in_ok-save_certificate.ensures.calls later) c.save_journal.ensures.calls_error
