use Rattle.std.proofs.Common.{take}
use Rattle.pb_bundles.specs.Moves.{NotesKeys}
use Rattle.pb_bundles.proofs.moves.note_keys.Given as goal

abbrev pub invariant-loop-at : goal.invariant-loop-at
invariant-loop-at l = NotesKeys (take l.at l.parts.entries) l.initial.keys l.keys
