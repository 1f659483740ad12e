use Rattle.std.specs.Io.KnownBytes.{Keeps}
use Rattle.pb_outside.proofs.streams.write_some.Given as goal

abbrev pub invariant-tries : goal.invariant-tries
invariant-tries g l = Keeps (g.W.Write.contents l.fn.file) (g.W.Write.contents l.file)
