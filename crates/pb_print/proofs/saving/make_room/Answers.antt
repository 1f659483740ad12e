use Rattle.std.proofs.Common.{ℕ, List, sym, subst}
use Rattle.pb_outside.specs.Saves.{IsWritten, HaveBegun}
use Rattle.pb_outside.specs.Outside.{IfTold}
use Rattle.pb_outside.specs.Calls.{Call}
use Rattle.pb_outside.proofs.Callers.{on_ok_both}
use Rattle.pb_print.proofs.saving.make_room.Goals as goal

pub returns-clause-ok : goal.returns-clause-ok
returns-clause-ok g c =
    on_ok_both c.append_piece.result c.append_piece.ensures.empty c.append_piece.ensures.ok
    (λ empty ok. subst (λ (piece : List ℕ). IfTold (g.H.Shelf.files c.args.shelf.now) (g.H.Shelf.files c.append_piece.new.shelf)
    (λ old new. (text : List ℕ) → IsWritten old c.args.name.now c.args.piece.now text → IsWritten new c.args.name.now piece text)) (sym empty) ok)

pub returns-clause-begun : goal.returns-clause-begun
returns-clause-begun g c =
    on_ok_both c.append_piece.result c.append_piece.ensures.empty c.append_piece.ensures.begun
    (λ empty begun. subst (λ (piece : List ℕ). (start : List Call) (text : List ℕ) → HaveBegun start (g.H.Shelf.calls c.args.shelf.now) c.args.name.now c.args.piece.now text
    → HaveBegun start (g.H.Shelf.calls c.append_piece.new.shelf) c.args.name.now piece text) (sym empty) begun)
