-- The whole way of a call, exit by exit.
use Rattle.std.proofs.Common.{ℕ, map, string_bytes, Global, ap, sym, subst, refl}
use Rattle.pb_command.specs.Meaning.{reading_of_words}
use Rattle.pb_answer.specs.Statuses.{number_of}
use Rattle.pb_run.specs.Asked.{files_of}
use Rattle.pb_run.specs.Served.{HandsOutIfPartsFit}
use Rattle.pb_run.specs.PartByPart.{HandsOutTexts}
use Rattle.pb_run.specs.declared.load.Fault.TheVariants.{OutOfMemory}
use Rattle.pb_run.proofs.Loading.{kept_self, none_loaded}
use Rattle.pb_run.proofs.FallingTexts.{first_run, claims_handed, claims_fit}
use Rattle.pb_run.proofs.Handing.{goes_failed, goes_full, goes_handed, fits_failed, fits_full, fits_handed}
use Rattle.pb_run.proofs.top.carry_out.Goals as goal

-- ---- memory ran out while the words were read

pub returns-in-Err-clause-goes : goal.returns-in-Err-clause-goes
returns-in-Err-clause-goes g c =
    let reading = reading_of_words (map (string_bytes {Z = Global}) c.args.words.now) in
    let files = g.H.Shelf.files c.args.shelf.now in
    let calls = g.H.Shelf.calls c.args.shelf.now in
    goes_failed reading c.args.looks.now.taken files files calls calls (g.K.Sink.calls c.args.out.now) OutOfMemory 71 refl
    (none_loaded calls (files_of reading)) (kept_self files)

pub returns-in-Err-clause-fits : goal.returns-in-Err-clause-fits
returns-in-Err-clause-fits g c =
    fits_full (reading_of_words (map (string_bytes {Z = Global}) c.args.words.now)) c.args.looks.now.taken
    (g.H.Shelf.files c.args.shelf.now) (g.H.Shelf.can_load c.args.shelf.now)
    (g.H.Shelf.can_hold c.args.shelf.now) (g.K.Sink.can_take c.args.out.now) 71 refl

-- ---- the files weren't loaded

pub returns-in-Err-load_files-clause-goes : goal.returns-in-Err-load_files-clause-goes
returns-in-Err-load_files-clause-goes g c = goes_failed (reading_of_words (map (string_bytes {Z = Global}) c.args.words.now)) c.args.looks.now.taken (g.H.Shelf.files c.args.shelf.now) (g.H.Shelf.files c.load_files.new.shelf) (g.H.Shelf.calls c.args.shelf.now) (g.H.Shelf.calls c.load_files.new.shelf)
    (g.K.Sink.calls c.args.out.now) c.in-Err-load_files.fault (number_of c.status.result) (ap number_of c.status.ensures) (rw (sym c.in-Ok.ensures.reading) at c.in-Err-load_files.ensures.calls_error) c.load_files.ensures.same

pub returns-in-Err-load_files-clause-fits : goal.returns-in-Err-load_files-clause-fits
returns-in-Err-load_files-clause-fits g c = fits_failed (reading_of_words (map (string_bytes {Z = Global}) c.args.words.now)) c.args.looks.now.taken (g.H.Shelf.files c.args.shelf.now) (g.H.Shelf.can_load c.args.shelf.now) (g.H.Shelf.can_hold c.args.shelf.now) (g.K.Sink.can_take c.args.out.now) c.in-Err-load_files.fault (number_of c.status.result) (ap number_of c.status.ensures) (rw (sym c.in-Ok.ensures.reading) at c.in-Err-load_files.ensures.sure)

-- ---- memory ran out before anything was handed out

pub returns-in_default-clause-goes : goal.returns-in_default-clause-goes
returns-in_default-clause-goes g c = goes_full (reading_of_words (map (string_bytes {Z = Global}) c.args.words.now)) c.answer_asked.new.looks.taken (g.H.Shelf.files c.args.shelf.now) (g.H.Shelf.files c.load_files.new.shelf) (g.H.Shelf.calls c.args.shelf.now) (g.H.Shelf.calls c.load_files.new.shelf)
    (g.K.Sink.calls c.args.out.now) c.in-Ok-load_files.texts 71 refl (rw (sym c.in-Ok.ensures.reading) at c.in-Ok-load_files.ensures.calls) c.load_files.ensures.same

pub returns-in_default-clause-fits : goal.returns-in_default-clause-fits
returns-in_default-clause-fits g c = fits_full (reading_of_words (map (string_bytes {Z = Global}) c.args.words.now)) c.answer_asked.new.looks.taken (g.H.Shelf.files c.args.shelf.now) (g.H.Shelf.can_load c.args.shelf.now) (g.H.Shelf.can_hold c.args.shelf.now) (g.K.Sink.can_take c.args.out.now) 71 refl

-- ---- an answer was handed out in one part

pub returns-in-Answered-clause-goes : goal.returns-in-Answered-clause-goes
returns-in-Answered-clause-goes g c =
    let begun = rw (sym c.in-Ok.ensures.reading, c.in-Answered.is) at c.in-Ok-answer_asked.ensures.begins in
    goes_handed (reading_of_words (map (string_bytes {Z = Global}) c.args.words.now)) c.answer_asked.new.looks.taken (g.H.Shelf.files c.args.shelf.now) (g.H.Shelf.files c.load_files.new.shelf) (g.H.Shelf.files c.hand_out_at_once.new.shelf)
    (g.H.Shelf.calls c.args.shelf.now) (g.H.Shelf.calls c.load_files.new.shelf) (g.H.Shelf.calls c.hand_out_at_once.new.shelf) (g.K.Sink.calls c.args.out.now) (g.K.Sink.calls c.hand_out_at_once.new.out)
    (g.K.Sink.written c.args.out.now) (g.K.Sink.written c.hand_out_at_once.new.out) c.in-Ok-load_files.texts (number_of c.hand_out_at_once.result)
    (rw (sym c.in-Ok.ensures.reading) at c.in-Ok-load_files.ensures.calls) (rw (sym c.in-Ok.ensures.reading) at c.in-Ok-load_files.ensures.texts) c.load_files.ensures.same
    (subst (λ (looks : ℕ). HandsOutTexts (reading_of_words (map (string_bytes {Z = Global}) c.args.words.now)) c.in-Ok-load_files.texts (number_of c.hand_out_at_once.result) looks
    (g.H.Shelf.files c.load_files.new.shelf) (g.H.Shelf.files c.hand_out_at_once.new.shelf) (g.H.Shelf.calls c.load_files.new.shelf) (g.H.Shelf.calls c.hand_out_at_once.new.shelf)
    (g.K.Sink.calls c.args.out.now) (g.K.Sink.calls c.hand_out_at_once.new.out) (g.K.Sink.written c.args.out.now) (g.K.Sink.written c.hand_out_at_once.new.out))
    (sym begun.1) (c.hand_out_at_once.ensures.hands (reading_of_words (map (string_bytes {Z = Global}) c.args.words.now)) c.in-Ok-load_files.texts begun.0))

pub returns-in-Answered-clause-fits : goal.returns-in-Answered-clause-fits
returns-in-Answered-clause-fits g c =
    let begun = rw (sym c.in-Ok.ensures.reading, c.in-Answered.is) at c.in-Ok-answer_asked.ensures.begins in
    fits_handed (reading_of_words (map (string_bytes {Z = Global}) c.args.words.now)) c.answer_asked.new.looks.taken (g.H.Shelf.files c.args.shelf.now) (g.H.Shelf.files c.load_files.new.shelf) (g.H.Shelf.files c.hand_out_at_once.new.shelf)
    (g.H.Shelf.calls c.args.shelf.now) (g.H.Shelf.calls c.load_files.new.shelf) (g.H.Shelf.calls c.hand_out_at_once.new.shelf) (g.K.Sink.calls c.args.out.now) (g.K.Sink.calls c.hand_out_at_once.new.out)
    (g.K.Sink.written c.args.out.now) (g.K.Sink.written c.hand_out_at_once.new.out) c.in-Ok-load_files.texts (number_of c.hand_out_at_once.result)
    (rw (sym c.in-Ok.ensures.reading) at c.in-Ok-load_files.ensures.texts) c.load_files.ensures.same
    (g.H.Shelf.can_load c.args.shelf.now) (g.H.Shelf.can_hold c.args.shelf.now) (g.H.Shelf.can_hold c.load_files.new.shelf) (g.K.Sink.can_take c.args.out.now) c.load_files.ensures.holds
    (λ known. subst (λ (looks : ℕ). HandsOutIfPartsFit (reading_of_words (map (string_bytes {Z = Global}) c.args.words.now)) c.in-Ok-load_files.texts (number_of c.hand_out_at_once.result) looks
    (g.H.Shelf.can_hold c.load_files.new.shelf) (g.K.Sink.can_take c.args.out.now))
    (sym begun.1) (c.hand_out_at_once.ensures.fits (reading_of_words (map (string_bytes {Z = Global}) c.args.words.now)) c.in-Ok-load_files.texts begun.0 known))

-- ---- claims were handed out

pub hand_out_claims-requires-after_bounds : goal.hand_out_claims-requires-after_bounds
hand_out_claims-requires-after_bounds g c κs within =
    first_run (reading_of_words (map (string_bytes {Z = Global}) c.args.words.now)) c.in-Ok-load_files.texts c.in-Searching.search
    (rw (sym c.in-Ok.ensures.reading, c.in-Searching.is) at c.in-Ok-answer_asked.ensures.begins)

pub returns-clause-goes : goal.returns-clause-goes
returns-clause-goes g c =
    goes_handed (reading_of_words (map (string_bytes {Z = Global}) c.args.words.now)) c.answer_asked.new.looks.taken (g.H.Shelf.files c.args.shelf.now) (g.H.Shelf.files c.load_files.new.shelf) (g.H.Shelf.files c.hand_out_claims.new.shelf)
    (g.H.Shelf.calls c.args.shelf.now) (g.H.Shelf.calls c.load_files.new.shelf) (g.H.Shelf.calls c.hand_out_claims.new.shelf) (g.K.Sink.calls c.args.out.now) (g.K.Sink.calls c.hand_out_claims.new.out)
    (g.K.Sink.written c.args.out.now) (g.K.Sink.written c.hand_out_claims.new.out) c.in-Ok-load_files.texts (number_of c.hand_out_claims.result)
    (rw (sym c.in-Ok.ensures.reading) at c.in-Ok-load_files.ensures.calls) (rw (sym c.in-Ok.ensures.reading) at c.in-Ok-load_files.ensures.texts) c.load_files.ensures.same
    (claims_handed (g.H.Shelf.files c.load_files.new.shelf) (g.H.Shelf.files c.hand_out_claims.new.shelf) (g.H.Shelf.calls c.load_files.new.shelf) (g.H.Shelf.calls c.hand_out_claims.new.shelf)
    (g.K.Sink.calls c.args.out.now) (g.K.Sink.calls c.hand_out_claims.new.out) (g.K.Sink.written c.args.out.now) (g.K.Sink.written c.hand_out_claims.new.out) (number_of c.hand_out_claims.result) c.answer_asked.new.looks.taken
    (reading_of_words (map (string_bytes {Z = Global}) c.args.words.now)) c.in-Ok-load_files.texts c.in-Searching.search
    (rw (sym c.in-Ok.ensures.reading, c.in-Searching.is) at c.in-Ok-answer_asked.ensures.begins) c.hand_out_claims.ensures.hands)

pub returns-clause-fits : goal.returns-clause-fits
returns-clause-fits g c =
    fits_handed (reading_of_words (map (string_bytes {Z = Global}) c.args.words.now)) c.answer_asked.new.looks.taken (g.H.Shelf.files c.args.shelf.now) (g.H.Shelf.files c.load_files.new.shelf) (g.H.Shelf.files c.hand_out_claims.new.shelf)
    (g.H.Shelf.calls c.args.shelf.now) (g.H.Shelf.calls c.load_files.new.shelf) (g.H.Shelf.calls c.hand_out_claims.new.shelf) (g.K.Sink.calls c.args.out.now) (g.K.Sink.calls c.hand_out_claims.new.out)
    (g.K.Sink.written c.args.out.now) (g.K.Sink.written c.hand_out_claims.new.out) c.in-Ok-load_files.texts (number_of c.hand_out_claims.result)
    (rw (sym c.in-Ok.ensures.reading) at c.in-Ok-load_files.ensures.texts) c.load_files.ensures.same
    (g.H.Shelf.can_load c.args.shelf.now) (g.H.Shelf.can_hold c.args.shelf.now) (g.H.Shelf.can_hold c.load_files.new.shelf) (g.K.Sink.can_take c.args.out.now) c.load_files.ensures.holds
    (λ known. claims_fit (reading_of_words (map (string_bytes {Z = Global}) c.args.words.now)) c.in-Ok-load_files.texts c.in-Searching.search
    (rw (sym c.in-Ok.ensures.reading, c.in-Searching.is) at c.in-Ok-answer_asked.ensures.begins)
    (number_of c.hand_out_claims.result) c.answer_asked.new.looks.taken (g.H.Shelf.can_hold c.load_files.new.shelf) (g.K.Sink.can_take c.args.out.now) (c.hand_out_claims.ensures.fits known))
