use Rattle.std.proofs.Common.{arith}
use Rattle.std.proofs.lemmas.Result.{err_from_is_err_and}
use Rattle.pb_abstract.specs.Graph.{blocks_of}
use Rattle.pb_journal.specs.Replaying.{counts_of}
use Rattle.pb_journal.proofs.Loops.{line_read, line_fails, same_tail, one_line, end_fails, all_read}
use Rattle.pb_journal.proofs.checker.read_events.Goals as goal

pub returns-in_err-read_event : goal.returns-in_err-read_event
returns-in_err-read_event c =
    let p = err_from_is_err_and c.from_residual.result c.from_residual.ensures.1 in
    rw (p.1, p.2)
    (line_fails (blocks_of c.args.graph.now) c.args.settings.now (counts_of c.args.replay.now)
    (counts_of c.lines.replay) c.args.text.now c.lines.rest.now c.lines.line
    c.lines.invariant.so_far
    c.in-Some.first.now c.in-Some.after.now c.in-Some.ensures.some c.in_err-read_event.field-0.0
    c.in_err-read_event.ensures.reads)

pub lines-preserved : goal.lines-preserved
lines-preserved c =
    record {
      lawful = c.in_ok-read_event.ensures.lawful;
      so_far =
          line_read (blocks_of c.args.graph.now) c.args.settings.now (counts_of c.args.replay.now)
          (counts_of c.lines.replay) c.args.text.now c.lines.rest.now c.lines.line
          c.lines.invariant.so_far
          c.in-Some.first.now c.in-Some.after.now c.in-Some.ensures.some
          (counts_of c.read_event.new.replay) c.in_ok-read_event.ensures.reads;
      tail = same_tail (blocks_of c.args.graph.now) c.args.settings.now
          (counts_of c.args.replay.now)
          (counts_of c.lines.replay) c.args.text.now c.lines.rest.now c.lines.line
          c.lines.invariant.so_far
          c.in-Some.first.now c.in-Some.after.now c.in-Some.ensures.some c.lines.invariant.tail;
      many = one_line (blocks_of c.args.graph.now) c.args.settings.now
          (counts_of c.args.replay.now)
          (counts_of c.lines.replay) c.args.text.now c.lines.rest.now c.lines.line
          c.lines.invariant.so_far
          c.in-Some.first.now c.in-Some.after.now c.in-Some.ensures.some _ c.lines.invariant.many;
      first = omega (arith, c.lines.invariant.first);
      shorter = omega (arith, c.lines.invariant.shorter, c.in-Some.ensures.shorter);
    }

pub returns-in_err-read_end : goal.returns-in_err-read_end
returns-in_err-read_end c =
    let p = err_from_is_err_and c.from_residual-in_err-read_end.result
    c.from_residual-in_err-read_end.ensures.1 in
    rw (p.1, p.2)
    (end_fails (blocks_of c.args.graph.now) c.args.settings.now (counts_of c.args.replay.now)
    (counts_of c.lines.replay) c.args.text.now c.lines.rest.now c.lines.line
    c.lines.invariant.so_far
    c.in_default.ensures.none c.lines.invariant.tail c.lines.invariant.many
    c.in_err-read_end.field-0.0 c.in_err-read_end.ensures)

pub returns : goal.returns
returns c =
    all_read (blocks_of c.args.graph.now) c.args.settings.now (counts_of c.args.replay.now)
    (counts_of c.lines.replay) c.args.text.now c.lines.rest.now c.lines.line
    c.lines.invariant.so_far
    c.in_default.ensures.none c.lines.invariant.tail c.lines.invariant.many c.in_ok-read_end.ensures
