use Rattle.std.proofs.Common.{map, string_bytes, Global}
use Rattle.pb_command.specs.Meaning.{reading_of_words}
use Rattle.pb_run.proofs.InMemory.{handed_out_if_it_fits}
use Rattle.pb_run.proofs.memory.run_in_memory.Goals as goal

pub returns-clause-fits : goal.returns-clause-fits
returns-clause-fits g c =
    handed_out_if_it_fits c.args.shelf.now c.args.out.now c.requires.shelf c.requires.sink
    (reading_of_words (map (string_bytes {Z = Global}) c.args.words.now)) c.run.result c.run.new.looks.taken
    c.requires.files c.run.ensures.answered.fits
