use Rattle.pb_cert.specs.Stated.{text_of}
use Rattle.pb_cert.specs.Rewritten.{text_saved}
use Rattle.std.proofs.lemmas.Result.{on_ok_weaker}
use Rattle.pb_run.proofs.Handing.{saved_one}
use Rattle.pb_run.proofs.output.save_certificate.Goals as goal

pub returns-in-Found-clause-ok : goal.returns-in-Found-clause-ok
returns-in-Found-clause-ok g c = rw (c.in-Some.is, c.in-Found.is)
    (on_ok_weaker c.write_to.result (λ ok. saved_one (g.H.Shelf.files c.args.shelf.now) (g.H.Shelf.files c.write_to.new.shelf)
    c.in-Some.file.name.now (text_of c.in-Found.certificate) ok c.write_to.ensures.others) c.write_to.ensures.ok)

pub returns-in-Accepted-clause-ok : goal.returns-in-Accepted-clause-ok
returns-in-Accepted-clause-ok g c = rw (c.in-Some.is, c.in-Accepted.is)
    (on_ok_weaker c.write_to-in-Accepted.result (λ ok. saved_one (g.H.Shelf.files c.args.shelf.now) (g.H.Shelf.files c.write_to-in-Accepted.new.shelf)
    c.in-Some.file.name.now (text_saved c.in-Accepted.rewriting) ok c.write_to-in-Accepted.ensures.others) c.write_to-in-Accepted.ensures.ok)
