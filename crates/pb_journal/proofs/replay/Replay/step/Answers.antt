use Rattle.std.proofs.Common.{◌≡◌, None, sym, subst, ◌∙◌}
use Rattle.pb_machine.specs.Counts.{AreLawful}
use Rattle.pb_machine.specs.Legality.{refusal}
use Rattle.pb_machine.proofs.Callers.{event_keeps}
use Rattle.pb_abstract.specs.Graph.{blocks_of}
use Rattle.pb_journal.specs.Stated.{event_of}
use Rattle.pb_journal.specs.Replaying.{counts_of}
use Rattle.pb_journal.proofs.Allowed.{is_nothing}
use Rattle.pb_journal.proofs.replay.Replay.step.Goals as goal

pub returns-clause-lawful : goal.returns-clause-lawful
returns-clause-lawful c none =
    let blocks = blocks_of c.args.graph.now in
    let settings = c.args.settings.now in
    let may : refusal blocks settings (counts_of c.args.self.now) (event_of c.args.event.now)
    ≡ None =
    sym c.refusal-refusal.ensures
    ∙ is_nothing c.refusal-refusal.result (sym c.is_some.ensures ∙ c.if-is_some.false) in
    record {
      places = c.apply.ensures.places;
      range = c.requires.lawful.range;
      lawful =
          subst (AreLawful blocks settings) (sym c.apply.ensures.counts)
          (event_keeps blocks settings (counts_of c.args.self.now)
          (event_of c.args.event.now) c.requires.lawful.lawful may);
    }
