use Rattle.std.proofs.Common.{◌≡◌, ◌+◌, ◌≤◌, ℕ, List, [], Some, inr, length, take, ◌∙◌, arith}
use Rattle.pb_model.specs.Texts.{lines}
use Rattle.pb_outside.specs.Outside.{KeepsOthers}
use Rattle.pb_outside.specs.Saves.{IsPartSaved, HoldsPart, IsWritten}
use Rattle.pb_outside.proofs.Callers.{all_written, all_called, told_now, told_then, others_then, on_err}
use Rattle.pb_print.specs.Saved.{AddsLine}
use Rattle.std.proofs.lemmas.Result.{on_ok_weaker, on_err_weaker}
use Rattle.pb_print.proofs.Files.{added_next, part_of_lines, all_lines}
use Rattle.pb_print.proofs.SavedCalls.{calls_next, failed_of_lines, lines_within}
use Rattle.pb_print.proofs.saving.save_lines.Goals as goal

pub returns-in_err-add_line-clause-err : goal.returns-in_err-add_line-clause-err
returns-in_err-add_line-clause-err g c =
    on_err c.from_residual-in_err-add_line.result
    (told_then (g.H.Shelf.files c.args.shelf.now) (g.H.Shelf.files c.lines.shelf) (g.H.Shelf.files c.add_line.new.shelf)
    (λ old new. IsWritten new c.args.name.now c.lines.piece (lines (take c.lines.at (g.T.NumberedLines.lines_of c.args.text.now))))
    (λ old new. (text : List ℕ) → IsWritten old c.args.name.now c.lines.piece text → HoldsPart new c.args.name.now text)
    (λ old new. IsPartSaved old new c.args.name.now (g.T.NumberedLines.text c.args.text.now))
    c.lines.invariant.written c.in_err-add_line.ensures.err
    (λ x y z written part. inr (part_of_lines z c.args.name.now (g.T.NumberedLines.text c.args.text.now) (g.T.NumberedLines.lines_of c.args.text.now) c.lines.at (c.count-count.ensures.text) (part (lines (take c.lines.at (g.T.NumberedLines.lines_of c.args.text.now))) written))))

pub lines-preserved : goal.lines-preserved
lines-preserved g c =
    record {
      within = omega (arith, c.lines-test.true);
      begins = c.in_ok-add_line.ensures.next;
      whole = c.in_ok-add_line.ensures.lines;
      full = λ some. c.in_ok-add_line.ensures.full;
      written = told_then (g.H.Shelf.files c.args.shelf.now) (g.H.Shelf.files c.lines.shelf) (g.H.Shelf.files c.add_line.new.shelf)
          (λ old new. IsWritten new c.args.name.now c.lines.piece (lines (take c.lines.at (g.T.NumberedLines.lines_of c.args.text.now))))
          (λ old new. (text : List ℕ) → IsWritten old c.args.name.now c.lines.piece text → AddsLine new c.args.name.now c.add_line.new.piece text (g.T.NumberedLines.lines_of c.args.text.now) c.lines.at)
          (λ old new. IsWritten new c.args.name.now c.add_line.new.piece (lines (take (c.lines.at + 1) (g.T.NumberedLines.lines_of c.args.text.now))))
          c.lines.invariant.written c.in_ok-add_line.ensures.ok
          (λ x y z written adds. added_next z c.args.name.now c.add_line.new.piece (g.T.NumberedLines.lines_of c.args.text.now) c.lines.at (adds (lines (take c.lines.at (g.T.NumberedLines.lines_of c.args.text.now))) written));
      others = told_then (g.H.Shelf.files c.args.shelf.now) (g.H.Shelf.files c.lines.shelf) (g.H.Shelf.files c.add_line.new.shelf)
          (λ old new. KeepsOthers old new c.args.name.now) (λ old new. KeepsOthers old new c.args.name.now) (λ old new. KeepsOthers old new c.args.name.now)
          c.lines.invariant.others c.add_line.ensures.others (λ x y z p q. others_then x y z c.args.name.now p q);
      calls = calls_next (g.H.Shelf.calls c.args.shelf.now) (g.H.Shelf.calls c.add_line.new.shelf) c.args.name.now c.add_line.new.piece (g.T.NumberedLines.lines_of c.args.text.now) c.lines.at
          (c.in_ok-add_line.ensures.begun (g.H.Shelf.calls c.args.shelf.now) (lines (take c.lines.at (g.T.NumberedLines.lines_of c.args.text.now))) c.lines.invariant.calls);
      holds = λ name n h. c.add_line.ensures.holds name n (c.lines.invariant.holds name n h);
      loads = λ name h. c.add_line.ensures.loads name (c.lines.invariant.loads name h);
      later = omega (arith, c.lines.invariant.later, c.add_line.ensures.cause.later);
    }

pub returns-clause-ok : goal.returns-clause-ok
returns-clause-ok g c =
    let whole : length (g.T.NumberedLines.lines_of c.args.text.now) ≤ c.lines.at = omega (arith, c.lines-test.false, c.count-count.ensures.count) in
    let all : lines (take c.lines.at (g.T.NumberedLines.lines_of c.args.text.now)) ≡ g.T.NumberedLines.text c.args.text.now = all_lines (g.T.NumberedLines.lines_of c.args.text.now) c.lines.at whole ∙ c.count-count.ensures.text in
    on_ok_weaker c.append_piece.result (λ ok.
    told_then (g.H.Shelf.files c.args.shelf.now) (g.H.Shelf.files c.lines.shelf) (g.H.Shelf.files c.append_piece.new.shelf)
    (λ old new. IsWritten new c.args.name.now c.lines.piece (lines (take c.lines.at (g.T.NumberedLines.lines_of c.args.text.now))))
    (λ old new. (text : List ℕ) → IsWritten old c.args.name.now c.lines.piece text → IsWritten new c.args.name.now [] text)
    (λ old new. new c.args.name.now ≡ Some (g.T.NumberedLines.text c.args.text.now))
    c.lines.invariant.written ok
    (λ x y z written done. all_written z c.args.name.now (lines (take c.lines.at (g.T.NumberedLines.lines_of c.args.text.now))) (g.T.NumberedLines.text c.args.text.now) all (done (lines (take c.lines.at (g.T.NumberedLines.lines_of c.args.text.now))) written))) c.append_piece.ensures.ok

pub returns-clause-err : goal.returns-clause-err
returns-clause-err g c =
    on_err_weaker c.append_piece.result (λ err.
    told_then (g.H.Shelf.files c.args.shelf.now) (g.H.Shelf.files c.lines.shelf) (g.H.Shelf.files c.append_piece.new.shelf)
    (λ old new. IsWritten new c.args.name.now c.lines.piece (lines (take c.lines.at (g.T.NumberedLines.lines_of c.args.text.now))))
    (λ old new. (text : List ℕ) → IsWritten old c.args.name.now c.lines.piece text → HoldsPart new c.args.name.now text)
    (λ old new. IsPartSaved old new c.args.name.now (g.T.NumberedLines.text c.args.text.now))
    c.lines.invariant.written err
    (λ x y z written part. inr (part_of_lines z c.args.name.now (g.T.NumberedLines.text c.args.text.now) (g.T.NumberedLines.lines_of c.args.text.now) c.lines.at (c.count-count.ensures.text) (part (lines (take c.lines.at (g.T.NumberedLines.lines_of c.args.text.now))) written)))) c.append_piece.ensures.err

pub returns-in_err-add_line-clause-failed : goal.returns-in_err-add_line-clause-failed
returns-in_err-add_line-clause-failed g c =
    on_err c.from_residual-in_err-add_line.result
    (failed_of_lines (g.H.Shelf.calls c.args.shelf.now) (g.H.Shelf.calls c.add_line.new.shelf) c.args.name.now (g.T.NumberedLines.text c.args.text.now) (g.T.NumberedLines.lines_of c.args.text.now) c.lines.at (c.count-count.ensures.text)
    (c.in_err-add_line.ensures.failed (g.H.Shelf.calls c.args.shelf.now) (lines (take c.lines.at (g.T.NumberedLines.lines_of c.args.text.now))) c.lines.invariant.calls))

pub returns-in_err-add_line-clause-sure : goal.returns-in_err-add_line-clause-sure
returns-in_err-add_line-clause-sure g c = λ some can.
    let ok = c.in_err-add_line.ensures.sure (lines (take c.lines.at (g.T.NumberedLines.lines_of c.args.text.now))) (length (g.T.NumberedLines.text c.args.text.now))
    (told_now (g.H.Shelf.files c.args.shelf.now) (g.H.Shelf.files c.lines.shelf) c.args.name.now c.lines.piece (lines (take c.lines.at (g.T.NumberedLines.lines_of c.args.text.now))) some c.lines.invariant.written)
    (lines_within (g.T.NumberedLines.text c.args.text.now) (g.T.NumberedLines.lines_of c.args.text.now) c.lines.at (c.count-count.ensures.text))
    (c.lines.invariant.holds c.args.name.now (length (g.T.NumberedLines.text c.args.text.now)) can) in cc

pub returns-clause-calls : goal.returns-clause-calls
returns-clause-calls g c =
    let whole : length (g.T.NumberedLines.lines_of c.args.text.now) ≤ c.lines.at = omega (arith, c.lines-test.false, c.count-count.ensures.count) in
    let all : lines (take c.lines.at (g.T.NumberedLines.lines_of c.args.text.now)) ≡ g.T.NumberedLines.text c.args.text.now = all_lines (g.T.NumberedLines.lines_of c.args.text.now) c.lines.at whole ∙ c.count-count.ensures.text in
    on_ok_weaker c.append_piece.result (λ begun.
    all_called (g.H.Shelf.calls c.args.shelf.now) (g.H.Shelf.calls c.append_piece.new.shelf) c.args.name.now (lines (take c.lines.at (g.T.NumberedLines.lines_of c.args.text.now))) (g.T.NumberedLines.text c.args.text.now) all
    (begun (g.H.Shelf.calls c.args.shelf.now) (lines (take c.lines.at (g.T.NumberedLines.lines_of c.args.text.now))) c.lines.invariant.calls)) c.append_piece.ensures.begun

pub returns-clause-failed : goal.returns-clause-failed
returns-clause-failed g c =
    on_err_weaker c.append_piece.result (λ failed.
    failed_of_lines (g.H.Shelf.calls c.args.shelf.now) (g.H.Shelf.calls c.append_piece.new.shelf) c.args.name.now (g.T.NumberedLines.text c.args.text.now) (g.T.NumberedLines.lines_of c.args.text.now) c.lines.at (c.count-count.ensures.text)
    (failed (g.H.Shelf.calls c.args.shelf.now) (lines (take c.lines.at (g.T.NumberedLines.lines_of c.args.text.now))) c.lines.invariant.calls)) c.append_piece.ensures.failed

pub returns-clause-sure : goal.returns-clause-sure
returns-clause-sure g c = λ some can.
    c.append_piece.ensures.sure (lines (take c.lines.at (g.T.NumberedLines.lines_of c.args.text.now))) (length (g.T.NumberedLines.text c.args.text.now))
    (told_now (g.H.Shelf.files c.args.shelf.now) (g.H.Shelf.files c.lines.shelf) c.args.name.now c.lines.piece (lines (take c.lines.at (g.T.NumberedLines.lines_of c.args.text.now))) some c.lines.invariant.written)
    (lines_within (g.T.NumberedLines.text c.args.text.now) (g.T.NumberedLines.lines_of c.args.text.now) c.lines.at (c.count-count.ensures.text))
    (c.lines.invariant.holds c.args.name.now (length (g.T.NumberedLines.text c.args.text.now)) can)

pub append_piece-requires-clause-full : goal.append_piece-requires-clause-full
append_piece-requires-clause-full g c =
    c.lines.invariant.full
    (omega (arith, c.lines-test.false, c.count-count.ensures.count, c.count-count.ensures.some))
