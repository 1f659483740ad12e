use Rattle.std.proofs.Common.{ℕ, List}
use Rattle.pb_outside.specs.Saves.{IsWritten}
use Rattle.pb_print.specs.Saved.{AddsLine}
use Rattle.pb_outside.proofs.Callers.{told_as}
use Rattle.pb_print.proofs.Files.{line_written, line_of_lines, line_full}
use Rattle.pb_print.proofs.SavedCalls.{call_for_line}
use Rattle.pb_print.proofs.saving.add_line.Goals as goal

pub returns-clause-lines : goal.returns-clause-lines
returns-clause-lines g c = line_of_lines c.make_room.new.piece c.put_line.new.out c.put_line.ensures.line.0 c.put_line.ensures.line.2 c.in_ok-make_room.ensures.lines

pub returns-clause-ok : goal.returns-clause-ok
returns-clause-ok g c =
    told_as (g.H.Shelf.files c.args.shelf.now) (g.H.Shelf.files c.make_room.new.shelf)
    (λ old new. (text : List ℕ) → IsWritten old c.args.name.now c.args.piece.now text → IsWritten new c.args.name.now c.make_room.new.piece text)
    (λ old new. (text : List ℕ) → IsWritten old c.args.name.now c.args.piece.now text → AddsLine new c.args.name.now c.put_line.new.out text (g.T.NumberedLines.lines_of c.args.text.now) c.args.at)
    c.in_ok-make_room.ensures.ok
    (λ old new written text before. line_written new c.args.name.now c.make_room.new.piece c.put_line.new.out text (g.T.NumberedLines.lines_of c.args.text.now) c.args.at (written text before) (c.put_line.ensures.line.0, c.put_line.ensures.line.1, c.put_line.ensures.line.2))

pub returns-clause-begun : goal.returns-clause-begun
returns-clause-begun g c = λ start text begun.
    call_for_line start (g.H.Shelf.calls c.make_room.new.shelf) c.args.name.now c.make_room.new.piece c.put_line.new.out text (g.T.NumberedLines.lines_of c.args.text.now) c.args.at
    (c.in_ok-make_room.ensures.begun start text begun) (c.put_line.ensures.line.0, c.put_line.ensures.line.1, c.put_line.ensures.line.2)

pub returns-clause-full : goal.returns-clause-full
returns-clause-full g c =
    line_full c.make_room.new.piece c.put_line.new.out
    (g.T.NumberedLines.lines_of c.args.text.now) c.args.at c.put_line.ensures.line
