use Rattle.std.specs.Io.KnownBytes.{Keeps}
use Rattle.pb_outside.proofs.streams.read_some.Given as goal

abbrev pub invariant-tries : goal.invariant-tries
invariant-tries g l = Keeps (g.S.Read.remaining l.fn.file) (g.S.Read.remaining l.file)
