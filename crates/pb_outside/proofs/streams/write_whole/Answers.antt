use Rattle.std.proofs.Common.{◌-◌, length, take, drop, subst, List, ℕ}
use Rattle.std.specs.Io.KnownBytes.{Appends}
use Rattle.pb_outside.proofs.Kept.{next_part, next_part_within}
use Rattle.pb_outside.proofs.Known.{appends_then}
use Rattle.pb_outside.proofs.streams.write_whole.Goals as goal

pub turns-preserved : goal.turns-preserved
turns-preserved g c =
    let P : List ℕ → Type 0 = λ bs. Appends (g.W.Write.contents c.args.file.now) (g.W.Write.contents c.write_some.new.file) bs in
    record {
      within = next_part_within c.args.bytes.now c.turns.done c.in-Ok.count c.turns.invariant.within c.in-Ok.ensures.within;
      written = subst P (next_part c.args.bytes.now c.turns.done c.in-Ok.count c.in-Ok.ensures.within)
          (appends_then (g.W.Write.contents c.args.file.now) (g.W.Write.contents c.turns.file) (g.W.Write.contents c.write_some.new.file)
          (take c.turns.done c.args.bytes.now) (take c.in-Ok.count (take (length c.args.bytes.now - c.turns.done) (drop c.turns.done c.args.bytes.now)))
          c.turns.invariant.written c.in-Ok.ensures.bytes);
    }
