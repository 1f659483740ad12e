use Rattle.std.proofs.Common.{◌≡◌, ◌≤◌, ◌++◌, None, length, map, drop}
use Rattle.pb_outside.specs.Outside.{IfTold, KeepsAll, KeepsHolds}
use Rattle.pb_outside.specs.Calls.{KeepsLoads}
use Rattle.pb_run.specs.Calls.{load_calls}
use Rattle.pb_run.specs.Files.{wanted_of}
use Rattle.pb_run.proofs.Loads.{AreLoadedSoFar}
use Rattle.pb_run.proofs.load.load_all.Given as goal

-- the shelf is as before, of the files so far these texts were loaded, and the calls since are their loads
abbrev pub invariant-loop-file : goal.invariant-loop-file
invariant-loop-file g l = record {
  kept : IfTold (g.H.Shelf.files l.initial.shelf) (g.H.Shelf.files l.shelf) KeepsAll;
  later : g.H.Shelf.faults l.initial.shelf ≤ g.H.Shelf.faults l.shelf;
  loaded : AreLoadedSoFar (g.H.Shelf.files l.initial.shelf) (map wanted_of l.files) (map wanted_of (drop l.file-index l.files)) l.texts;
  count : length l.texts ≡ l.file-index;
  calls : g.H.Shelf.calls l.shelf ≡ g.H.Shelf.calls l.initial.shelf ++ load_calls (map wanted_of l.files) l.texts None;
  holds : KeepsHolds (g.H.Shelf.can_hold l.initial.shelf) (g.H.Shelf.can_hold l.shelf);
  loads : KeepsLoads (g.H.Shelf.can_load l.initial.shelf) (g.H.Shelf.can_load l.shelf);
}
