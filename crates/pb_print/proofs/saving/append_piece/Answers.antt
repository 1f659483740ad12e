use Rattle.std.proofs.Common.{ℕ, List, sym, subst}
use Rattle.pb_outside.specs.Outside.{AppendsPartTo}
use Rattle.pb_outside.specs.Calls.{HasBytes}
use Rattle.pb_outside.specs.Saves.{IsWritten, HoldsPart, HaveBegun}
use Rattle.pb_outside.proofs.Callers.{part_appended, begun_calls, failed_calls, on_err, told_as}
use Rattle.pb_print.proofs.saving.append_piece.Goals as goal

pub returns-in_err-append-clause-err : goal.returns-in_err-append-clause-err
returns-in_err-append-clause-err g c =
    on_err c.from_residual.result
    (told_as (g.H.Shelf.files c.args.shelf.now) (g.H.Shelf.files c.append.new.self) (λ old new. AppendsPartTo old new c.args.name.now c.as_slice.result.now)
    (λ old new. (text : List ℕ) → IsWritten old c.args.name.now c.args.piece.now text → HoldsPart new c.args.name.now text)
    c.in_err-append.ensures.err
    (λ old new appends text written. part_appended old new c.args.name.now c.as_slice.result.now text appends (subst (λ piece. IsWritten old c.args.name.now piece text) (sym c.as_slice.ensures) written)))

pub returns-in_err-append-clause-failed : goal.returns-in_err-append-clause-failed
returns-in_err-append-clause-failed g c =
    on_err c.from_residual.result (λ start text begun.
    failed_calls start (g.H.Shelf.calls c.args.shelf.now) (g.H.Shelf.calls c.append.new.self) (g.H.Shelf.files c.args.shelf.now) (g.H.Shelf.files c.append.new.self) c.args.name.now c.as_slice.result.now text
    (subst HasBytes (sym c.as_slice.ensures) c.requires.full) c.in_err-append.ensures.noted_error
    (subst (λ (piece : List ℕ). HaveBegun start (g.H.Shelf.calls c.args.shelf.now) c.args.name.now piece text) (sym c.as_slice.ensures) begun))

pub returns-clause-begun : goal.returns-clause-begun
returns-clause-begun g c = λ start text begun.
    begun_calls start (g.H.Shelf.calls c.args.shelf.now)
    (g.H.Shelf.calls c.append.new.self) c.args.name.now c.as_slice.result.now text
    (subst HasBytes (sym c.as_slice.ensures) c.requires.full) c.in_ok-append.ensures.noted
    (subst (λ (piece : List ℕ). HaveBegun start (g.H.Shelf.calls c.args.shelf.now) c.args.name.now piece text) (sym c.as_slice.ensures) begun)
