use Rattle.std.proofs.Common.{◌≤◌, ◌-◌, vec_len}
use Rattle.std.specs.Io.KnownBytes.{Consumes}
use Rattle.pb_outside.proofs.streams.read_whole.Given as goal

abbrev pub invariant-turns : goal.invariant-turns
invariant-turns g l = record {
  within : vec_len l.bytes ≤ l.most;
  read : Consumes (g.S.Read.remaining l.fn.file) (g.S.Read.remaining l.file) l.bytes.items;
}

abbrev pub decreases-turns : goal.decreases-turns
decreases-turns g l = l.most - vec_len l.bytes
