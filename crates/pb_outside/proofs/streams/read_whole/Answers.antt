use Rattle.std.proofs.Common.{◌++◌, take, arith, length-take, ℕ}
use Rattle.pb_outside.proofs.Kept.{taken_length}
use Rattle.pb_outside.proofs.Known.{consumes_then}
use Rattle.pb_outside.proofs.streams.read_whole.Goals as goal

pub returns-then-count-most-clause-taken : goal.returns-then-count-most-clause-taken
returns-then-count-most-clause-taken g c = (
  c.turns.bytes.items ++ take c.in-Ok.count c.read_some.new.piece,
  taken_length c.turns.bytes.items c.read_some.new.piece c.in-Ok.count c.len.result c.args.most (omega arith) (omega (arith, c.next_count.ensures.all, length-take {A = ℕ})),
  consumes_then (g.S.Read.remaining c.args.file.now) (g.S.Read.remaining c.turns.file) (g.S.Read.remaining c.read_some.new.file) c.turns.bytes.items (take c.in-Ok.count c.read_some.new.piece)
      c.turns.invariant.read c.in-Ok.ensures.bytes,
)

pub returns-then-is_err-clause-taken : goal.returns-then-is_err-clause-taken
returns-then-is_err-clause-taken g c = (
  c.turns.bytes.items ++ take c.in-Ok.count c.read_some.new.piece,
  taken_length c.turns.bytes.items c.read_some.new.piece c.in-Ok.count c.len.result c.args.most (omega arith) (omega (arith, c.next_count.ensures.all, length-take {A = ℕ})),
  consumes_then (g.S.Read.remaining c.args.file.now) (g.S.Read.remaining c.turns.file) (g.S.Read.remaining c.read_some.new.file) c.turns.bytes.items (take c.in-Ok.count c.read_some.new.piece)
      c.turns.invariant.read c.in-Ok.ensures.bytes,
)
