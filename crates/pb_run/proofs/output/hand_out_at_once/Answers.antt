-- An answer in one part is handed out, exit by exit.
use Rattle.std.proofs.Common.{◌≡◌, inl, inr, refl, sym, ◌∙◌}
use Rattle.pb_answer.specs.Statuses.{number_of}
use Rattle.pb_answer.specs.Answer.{said_of}
use Rattle.pb_run.specs.declared.output.Ending.TheVariants.{Done, NotSaved, NotPrinted}
use Rattle.pb_run.proofs.Doing.{answer_not}
use Rattle.pb_run.proofs.Handing.{hands_done, hands_not_saved, hands_not_printed, one_fits, one_fits_not}
use Rattle.pb_run.proofs.output.hand_out_at_once.Goals as goal

not_saved : NotSaved ≡ Done → ⊥
not_saved e = cc

not_printed : NotPrinted ≡ Done → ⊥
not_printed e = cc

-- ---- what was handed out

pub returns-in-Done-clause-hands : goal.returns-in-Done-clause-hands
returns-in-Done-clause-hands g c reading texts one = hands_done reading texts (said_of c.args.answer.now) one (g.H.Shelf.files c.args.shelf.now) (g.H.Shelf.files c.hand_out.new.shelf) (g.H.Shelf.calls c.args.shelf.now) (g.H.Shelf.calls c.hand_out.new.shelf)
    (g.K.Sink.calls c.args.out.now) (g.K.Sink.calls c.hand_out.new.out) (g.K.Sink.written c.args.out.now) (g.K.Sink.written c.hand_out.new.out)
    (number_of c.args.answer.now.status) refl (rw c.in-Done.is at c.hand_out.ensures.hands) (rw c.in-Done.is at c.hand_out.ensures.told)

pub returns-in-NotSaved-clause-hands : goal.returns-in-NotSaved-clause-hands
returns-in-NotSaved-clause-hands g c reading texts one = hands_not_saved reading texts (said_of c.args.answer.now) one (g.H.Shelf.files c.args.shelf.now) (g.H.Shelf.files c.hand_out.new.shelf) (g.H.Shelf.calls c.args.shelf.now) (g.H.Shelf.calls c.hand_out.new.shelf)
    (g.K.Sink.calls c.args.out.now) (g.K.Sink.calls c.hand_out.new.out) (g.K.Sink.written c.args.out.now) (g.K.Sink.written c.hand_out.new.out)
    (rw c.in-NotSaved.is at c.hand_out.ensures.hands) (rw c.in-NotSaved.is at c.hand_out.ensures.told)

pub returns-in-NotPrinted-clause-hands : goal.returns-in-NotPrinted-clause-hands
returns-in-NotPrinted-clause-hands g c reading texts one = hands_not_printed reading texts (said_of c.args.answer.now) one (g.H.Shelf.files c.args.shelf.now) (g.H.Shelf.files c.hand_out.new.shelf) (g.H.Shelf.calls c.args.shelf.now) (g.H.Shelf.calls c.hand_out.new.shelf)
    (g.K.Sink.calls c.args.out.now) (g.K.Sink.calls c.hand_out.new.out) (g.K.Sink.written c.args.out.now) (g.K.Sink.written c.hand_out.new.out)
    (rw c.in-NotPrinted.is at c.hand_out.ensures.hands) (rw c.in-NotPrinted.is at c.hand_out.ensures.told)

-- ---- what fits

pub returns-in-Done-clause-fits : goal.returns-in-Done-clause-fits
returns-in-Done-clause-fits g c reading texts one known =
    one_fits reading texts (said_of c.args.answer.now) one (number_of c.args.answer.now.status) (g.H.Shelf.can_hold c.args.shelf.now) (g.K.Sink.can_take c.args.out.now) refl

pub returns-in-NotSaved-clause-fits : goal.returns-in-NotSaved-clause-fits
returns-in-NotSaved-clause-fits g c reading texts one known =
    one_fits_not reading texts (said_of c.args.answer.now) one 73 (g.H.Shelf.can_hold c.args.shelf.now) (g.K.Sink.can_take c.args.out.now)
    (λ holds takes. not_saved (sym c.in-NotSaved.is ∙ c.hand_out.ensures.sure known holds takes))

pub returns-in-NotPrinted-clause-fits : goal.returns-in-NotPrinted-clause-fits
returns-in-NotPrinted-clause-fits g c reading texts one known =
    one_fits_not reading texts (said_of c.args.answer.now) one 74 (g.H.Shelf.can_hold c.args.shelf.now) (g.K.Sink.can_take c.args.out.now)
    (λ holds takes. not_printed (sym c.in-NotPrinted.is ∙ c.hand_out.ensures.sure known holds takes))

-- ---- the counts

pub returns-in-Done-clause-shelf_fault : goal.returns-in-Done-clause-shelf_fault
returns-in-Done-clause-shelf_fault g c = λ e. absurd (answer_not (number_of c.args.answer.now.status) c.requires (inr (inl e)))

pub returns-in-Done-clause-sink_fault : goal.returns-in-Done-clause-sink_fault
returns-in-Done-clause-sink_fault g c = λ e. absurd (answer_not (number_of c.args.answer.now.status) c.requires (inr (inr e)))
