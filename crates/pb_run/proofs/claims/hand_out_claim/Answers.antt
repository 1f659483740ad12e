-- One claim is handed out, exit by exit.
use Rattle.std.proofs.Common.{◌≡◌, inl, inr, refl, sym, ◌∙◌, true≢false}
use Rattle.pb_answer.specs.Statuses.{number_of}
use Rattle.pb_answer.specs.Answer.{said_of}
use Rattle.pb_answer.specs.FallingRuns.{IsLast}
use Rattle.pb_run.specs.declared.output.Ending.TheVariants.{Done, NotSaved, NotPrinted}
use Rattle.pb_run.proofs.PartByPart.{one_done, one_not_saved, one_not_printed}
use Rattle.pb_run.proofs.FallingParts.{tested, ends_without_memory, ends_done, ends_unsaved, ends_unput, goes_on_after, fits_done, fits_not}
use Rattle.pb_run.proofs.claims.hand_out_claim.Goals as goal

not_saved : NotSaved ≡ Done → ⊥
not_saved e = cc

not_printed : NotPrinted ≡ Done → ⊥
not_printed e = cc

pub returns-in_default-clause-after : goal.returns-in_default-clause-after
returns-in_default-clause-after g c parts files calls puts written has hands =
    ends_without_memory c.args.search.now parts has files (g.H.Shelf.files c.args.shelf.now) calls (g.H.Shelf.calls c.args.shelf.now) puts (g.K.Sink.calls c.args.out.now) written (g.K.Sink.written c.args.out.now) hands

pub returns-then-last-clause-after : goal.returns-then-last-clause-after
returns-then-last-clause-after g c parts files calls puts written has hands =
    let next = one_done (said_of c.in-Ok.answer) (g.H.Shelf.files c.args.shelf.now) (g.H.Shelf.files c.hand_out.new.shelf) (g.H.Shelf.calls c.args.shelf.now) (g.H.Shelf.calls c.hand_out.new.shelf)
    (g.K.Sink.calls c.args.out.now) (g.K.Sink.calls c.hand_out.new.out) (g.K.Sink.written c.args.out.now) (g.K.Sink.written c.hand_out.new.out) c.in-Done.ensures.hands c.in-Done.ensures.told in
    let says = c.in-Ok.ensures has.before has.machine has.run in
    let last = c.is_last-last.ensures.last.0 c.if-last.true in
    ends_done c.args.search.now parts has files (g.H.Shelf.files c.args.shelf.now) (g.H.Shelf.files c.hand_out.new.shelf) calls (g.H.Shelf.calls c.args.shelf.now) (g.H.Shelf.calls c.hand_out.new.shelf)
    puts (g.K.Sink.calls c.args.out.now) (g.K.Sink.calls c.hand_out.new.out) written (g.K.Sink.written c.args.out.now) (g.K.Sink.written c.hand_out.new.out) hands
    (said_of c.in-Ok.answer) says last next

pub returns-in-Done-clause-after : goal.returns-in-Done-clause-after
returns-in-Done-clause-after g c parts files calls puts written has hands =
    let next = one_done (said_of c.in-Ok.answer) (g.H.Shelf.files c.args.shelf.now) (g.H.Shelf.files c.hand_out.new.shelf) (g.H.Shelf.calls c.args.shelf.now) (g.H.Shelf.calls c.hand_out.new.shelf)
    (g.K.Sink.calls c.args.out.now) (g.K.Sink.calls c.hand_out.new.out) (g.K.Sink.written c.args.out.now) (g.K.Sink.written c.hand_out.new.out) c.in-Done.ensures.hands c.in-Done.ensures.told in
    goes_on_after c.args.search.now parts has files (g.H.Shelf.files c.args.shelf.now) (g.H.Shelf.files c.hand_out.new.shelf) calls (g.H.Shelf.calls c.args.shelf.now) (g.H.Shelf.calls c.hand_out.new.shelf)
    puts (g.K.Sink.calls c.args.out.now) (g.K.Sink.calls c.hand_out.new.out) written (g.K.Sink.written c.args.out.now) (g.K.Sink.written c.hand_out.new.out) hands
    (said_of c.in-Ok.answer) (c.in-Ok.ensures has.before has.machine has.run)
    (λ last. true≢false (sym (c.is_last-last.ensures.last.1 last) ∙ c.if-last.false))
    (λ at_end. true≢false (sym (c.is_last-last.ensures.ends at_end) ∙ c.if-last.false)) next
    (g.K.Sink.can_take c.args.out.now) (g.K.Sink.can_take c.hand_out.new.out) (c.hand_out.ensures.takes c.in-Done.is)

pub returns-in-NotSaved-clause-after : goal.returns-in-NotSaved-clause-after
returns-in-NotSaved-clause-after g c parts files calls puts written has hands =
    let next = one_not_saved (said_of c.in-Ok.answer) (g.H.Shelf.files c.args.shelf.now) (g.H.Shelf.files c.hand_out.new.shelf) (g.H.Shelf.calls c.args.shelf.now) (g.H.Shelf.calls c.hand_out.new.shelf)
    (g.K.Sink.calls c.args.out.now) (g.K.Sink.calls c.hand_out.new.out) (g.K.Sink.written c.args.out.now) (g.K.Sink.written c.hand_out.new.out) c.in-NotSaved.ensures.hands c.in-NotSaved.ensures.told in
    let says = c.in-Ok.ensures has.before has.machine has.run in
    let last = tested c.is_last-last.result (IsLast c.args.search.now) c.is_last-last.ensures.last in
    ends_unsaved c.args.search.now parts has files (g.H.Shelf.files c.args.shelf.now) (g.H.Shelf.files c.hand_out.new.shelf) calls (g.H.Shelf.calls c.args.shelf.now) (g.H.Shelf.calls c.hand_out.new.shelf)
    puts (g.K.Sink.calls c.args.out.now) (g.K.Sink.calls c.hand_out.new.out) written (g.K.Sink.written c.args.out.now) (g.K.Sink.written c.hand_out.new.out) hands
    (said_of c.in-Ok.answer) last says next

pub returns-clause-after : goal.returns-clause-after
returns-clause-after g c parts files calls puts written has hands =
    let next = one_not_printed (said_of c.in-Ok.answer) (g.H.Shelf.files c.args.shelf.now) (g.H.Shelf.files c.hand_out.new.shelf) (g.H.Shelf.calls c.args.shelf.now) (g.H.Shelf.calls c.hand_out.new.shelf)
    (g.K.Sink.calls c.args.out.now) (g.K.Sink.calls c.hand_out.new.out) (g.K.Sink.written c.args.out.now) (g.K.Sink.written c.hand_out.new.out) c.in-NotPrinted.ensures.hands c.in-NotPrinted.ensures.told in
    let says = c.in-Ok.ensures has.before has.machine has.run in
    let last = tested c.is_last-last.result (IsLast c.args.search.now) c.is_last-last.ensures.last in
    ends_unput c.args.search.now parts has files (g.H.Shelf.files c.args.shelf.now) (g.H.Shelf.files c.hand_out.new.shelf) calls (g.H.Shelf.calls c.args.shelf.now) (g.H.Shelf.calls c.hand_out.new.shelf)
    puts (g.K.Sink.calls c.args.out.now) (g.K.Sink.calls c.hand_out.new.out) written (g.K.Sink.written c.args.out.now) (g.K.Sink.written c.hand_out.new.out) hands
    (said_of c.in-Ok.answer) last says next

-- ---- what fits

pub returns-in_default-clause-fits : goal.returns-in_default-clause-fits
returns-in_default-clause-fits g c parts has known = inl refl

pub returns-then-last-clause-fits : goal.returns-then-last-clause-fits
returns-then-last-clause-fits g c parts has known =
    fits_done c.args.search.now parts has (said_of c.in-Ok.answer) (g.H.Shelf.can_hold c.args.shelf.now) (g.K.Sink.can_take c.args.out.now)
    (c.in-Ok.ensures has.before has.machine has.run) (c.is_last-last.ensures.last.0 c.if-last.true) (number_of c.in-Ok.answer.status) refl

pub returns-in-NotSaved-clause-fits : goal.returns-in-NotSaved-clause-fits
returns-in-NotSaved-clause-fits g c parts has known =
    fits_not c.args.search.now parts has (said_of c.in-Ok.answer) (g.H.Shelf.can_hold c.args.shelf.now) (g.K.Sink.can_take c.args.out.now)
    (tested c.is_last-last.result (IsLast c.args.search.now) c.is_last-last.ensures.last) (c.in-Ok.ensures has.before has.machine has.run) 73 (inl refl)
    (λ holds takes. not_saved (sym c.in-NotSaved.is ∙ c.hand_out.ensures.sure known holds takes))

pub returns-clause-fits : goal.returns-clause-fits
returns-clause-fits g c parts has known =
    fits_not c.args.search.now parts has (said_of c.in-Ok.answer) (g.H.Shelf.can_hold c.args.shelf.now) (g.K.Sink.can_take c.args.out.now)
    (tested c.is_last-last.result (IsLast c.args.search.now) c.is_last-last.ensures.last) (c.in-Ok.ensures has.before has.machine has.run) 74 (inr refl)
    (λ holds takes. not_printed (sym c.in-NotPrinted.is ∙ c.hand_out.ensures.sure known holds takes))
