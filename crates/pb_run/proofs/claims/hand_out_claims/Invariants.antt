use Rattle.std.proofs.Common.{◌≡◌, ◌≤◌, ◌-◌, List}
use Rattle.pb_answer.specs.Parts.{AnswerPart}
use Rattle.pb_run.specs.PartByPart.{HandsParts, StillFits}
use Rattle.pb_run.specs.FallingParts.{HandedOutBefore}
use Rattle.pb_run.specs.declared.output.Ending.TheVariants.{Done}
use Rattle.pb_run.proofs.claims.hand_out_claims.Given as goal

-- the claims of the runs before were handed out, and the search is still the same
abbrev pub invariant-runs : goal.invariant-runs
invariant-runs g l = record {
  solve : l.search.solve ≡ l.initial.search.solve;
  choice : l.search.graph.choice ≡ l.initial.search.graph.choice;
  task : l.search.parts ≡ l.initial.search.parts;
  steps : l.search.steps ≡ l.initial.search.steps;
  claimed : (parts : List AnswerPart) × HandedOutBefore l.search parts
      × HandsParts Done parts (g.H.Shelf.files l.initial.shelf) (g.H.Shelf.files l.shelf)
      (g.H.Shelf.calls l.initial.shelf) (g.H.Shelf.calls l.shelf)
      (g.K.Sink.calls l.initial.out) (g.K.Sink.calls l.out)
      (g.K.Sink.written l.initial.out) (g.K.Sink.written l.out)
      × StillFits parts (g.H.Shelf.can_hold l.initial.shelf) (g.H.Shelf.can_hold l.shelf)
      (g.K.Sink.can_take l.initial.out) (g.K.Sink.can_take l.out);
  shelf_later : g.H.Shelf.faults l.initial.shelf ≤ g.H.Shelf.faults l.shelf;
  sink_later : g.K.Sink.faults l.initial.out ≤ g.K.Sink.faults l.out;
}

abbrev pub decreases-runs : goal.decreases-runs
decreases-runs g l = l.search.steps - l.search.run
