use Rattle.std.proofs.Common.{◌≤◌, ◌-◌, length, take}
use Rattle.std.specs.Io.KnownBytes.{Appends}
use Rattle.pb_outside.proofs.streams.write_whole.Given as goal

abbrev pub invariant-turns : goal.invariant-turns
invariant-turns g l = record {
  within : l.done ≤ length l.bytes;
  written : Appends (g.W.Write.contents l.fn.file) (g.W.Write.contents l.file) (take l.done l.bytes);
}

abbrev pub decreases-turns : goal.decreases-turns
decreases-turns g l = length l.initial.bytes - l.done
