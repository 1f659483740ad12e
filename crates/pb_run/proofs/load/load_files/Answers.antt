use Rattle.pb_run.specs.Asked.{files_of}
use Rattle.pb_run.specs.Read.{reading_of}
use Rattle.pb_run.proofs.Loading.{none_loaded}
use Rattle.pb_run.proofs.load.load_files.Goals as goal

pub returns-in-Err-clause-calls_error : goal.returns-in-Err-clause-calls_error
returns-in-Err-clause-calls_error g c = none_loaded (g.H.Shelf.calls c.args.shelf.now) (files_of (reading_of c.args.asked.now))
