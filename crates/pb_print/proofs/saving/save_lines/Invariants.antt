use Rattle.std.proofs.Common.{◌≤◌, ◌-◌, take}
use Rattle.pb_model.specs.Texts.{lines}
use Rattle.pb_outside.specs.Outside.{IfTold, KeepsOthers, KeepsHolds}
use Rattle.pb_outside.specs.Calls.{HasBytes, KeepsLoads}
use Rattle.pb_outside.specs.Saves.{IsWritten, HaveBegun}
use Rattle.pb_print.specs.Saved.{AreLines}
use Rattle.pb_print.proofs.saving.save_lines.Given as goal

abbrev pub invariant-lines : goal.invariant-lines
invariant-lines g l = record {
  within : l.at ≤ l.count;
  begins : g.T.NumberedLines.begins l.text l.at l.begin;
  whole : AreLines l.piece;
  full : 1 ≤ l.at → HasBytes l.piece;
  written : IfTold (g.H.Shelf.files l.fn.shelf) (g.H.Shelf.files l.shelf) (λ old new. IsWritten new l.name l.piece (lines (take l.at (g.T.NumberedLines.lines_of l.text))));
  others : IfTold (g.H.Shelf.files l.fn.shelf) (g.H.Shelf.files l.shelf) (λ old new. KeepsOthers old new l.name);
  calls : HaveBegun (g.H.Shelf.calls l.fn.shelf) (g.H.Shelf.calls l.shelf) l.name l.piece (lines (take l.at (g.T.NumberedLines.lines_of l.text)));
  holds : KeepsHolds (g.H.Shelf.can_hold l.fn.shelf) (g.H.Shelf.can_hold l.shelf);
  loads : KeepsLoads (g.H.Shelf.can_load l.fn.shelf) (g.H.Shelf.can_load l.shelf);
  later : g.H.Shelf.faults l.fn.shelf ≤ g.H.Shelf.faults l.shelf;
}

abbrev pub decreases-lines : goal.decreases-lines
decreases-lines g l = l.count - l.at
