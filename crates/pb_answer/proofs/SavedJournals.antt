-- The journal that is saved of a search by leases is the text of a finished legal history of the
-- task. `pb_run` cites this module.
use Rattle.std.proofs.Common.{◌≡◌, ◌≤◌, Option, List, [], ◌++◌, length, refl, sym, subst}
use Rattle.pb_model.specs.Plan.{Plan}
use Rattle.pb_machine.specs.declared.event.End.{End}
use Rattle.pb_machine.specs.declared.event.End.TheVariants.{Quiet, Budget}
use Rattle.pb_machine.specs.declared.event.Event.{Event}
use Rattle.pb_machine.specs.Settings.{settings_with_weight}
use Rattle.pb_machine.specs.History.{IsHistory}
use Rattle.pb_task.specs.declared.parts.TaskParts.{TaskParts}
use Rattle.pb_estimate.specs.Choices.{Choice}
use Rattle.pb_abstract.specs.Graph.{blocks_of}
use Rattle.pb_journal.specs.Texts.{journal_text}
use Rattle.pb_journal.specs.Shown.{one, WrittenJournalsAreAccepted}
use Rattle.pb_journal.specs.Lengths.{most_bytes, JournalTextsAreShort}
use Rattle.pb_search.specs.Searches.{SearchEnds}
use Rattle.pb_command.specs.declared.command.Engine.TheVariants.{Leases}
use Rattle.pb_command.specs.Meaning.{SolveMeaning}
use Rattle.pb_answer.specs.Outputs.{Output}
use Rattle.pb_answer.specs.Searches.{settings_of}
use Rattle.pb_answer.specs.Engines.{Left}
use Rattle.pb_answer.specs.Claims.{journal_outputs, journal_outputs_if_any, Certifies, Stops}
use Rattle.pb_answer.specs.Journals.{IsJournalOf}
use Rattle.pb_answer.proofs.Asked.{by_engine}

-- The last of what is saved is the journal with these events, if it has a name. Its text is that of
-- a finished legal history of the task, and is as long as that allows.
pub record SavesJournal (saves : List Output → Type 0) (solve : SolveMeaning) (parts : TaskParts)
    : Type 0 where
  pub events : List Event
  pub first : List Output
  pub saved : saves (first ++ journal_outputs solve.journal (settings_of solve) events)
  pub legal : IsJournalOf parts (journal_text (settings_of solve) events) (length events)
  pub short : length (journal_text (settings_of solve) events) ≤ most_bytes (length events)

module _ (written : WrittenJournalsAreAccepted) (lengths : JournalTextsAreShort)
    (solve : SolveMeaning) (engine : solve.engine ≡ Leases) (choice : Choice)
    (parts : TaskParts) where
  is_journal : (end : End) (events : List Event)
      → SearchEnds parts choice (settings_of solve) end events
      → IsJournalOf parts (journal_text (settings_of solve) events) (length events)
  is_journal end events run =
      let ends = run.ends in
      let legal : IsHistory (blocks_of ends.abstraction) (settings_of solve) 0 events ends.run.machine.counts =
      subst (λ (j : List Event).
      IsHistory (blocks_of ends.abstraction) (settings_of solve) 0 j ends.run.machine.counts)
      (sym run.events) ends.run.legal in
      let read = written (blocks_of ends.abstraction) (settings_of solve) events ends.run.machine.counts
      ends.few legal ends.run.finished in
      record {
        abstraction = ends.abstraction;
        blocks = record {
          settings = settings_with_weight (settings_of solve) one;
          header = read.1;
          graph_of = ends.graph_of;
          finest = ends.finest;
        };
        finished = record {
          settings = settings_of solve;
          journal = events;
          counts = ends.run.machine.counts;
          text = refl;
          legal = legal;
          finished = ends.run.finished;
          count = refl;
        };
      }

  is_short : (end : End) (events : List Event)
      → SearchEnds parts choice (settings_of solve) end events
      → length (journal_text (settings_of solve) events) ≤ most_bytes (length events)
  is_short end events run =
      lengths (blocks_of run.ends.abstraction) (settings_of solve) events run.ends.run.machine.counts
      run.ends.few
      (subst (λ (j : List Event).
      IsHistory (blocks_of run.ends.abstraction) (settings_of solve) 0 j run.ends.run.machine.counts)
      (sym run.events) run.ends.run.legal)

  pub of_quiet : (saves : List Output → Type 0) (plan : Option Plan)
      → Certifies saves solve choice parts plan → SavesJournal saves solve parts
  of_quiet saves plan (left, leaves, found, outputs, certificate, saved) =
      let left_so = by_engine solve Leases engine parts choice Quiet left leaves in
      record {
        events = left_so.0;
        first = outputs;
        saved = subst (λ (l : Left).
            saves (outputs ++ journal_outputs_if_any solve.journal (settings_of solve) l.journal)) left_so.2 saved;
        legal = is_journal _ left_so.0 left_so.1;
        short = is_short _ left_so.0 left_so.1;
      }

  pub of_stopped : (saves : List Output → Type 0) → Stops saves solve choice parts
      → SavesJournal saves solve parts
  of_stopped saves (left, leaves, saved) =
      let left_so = by_engine solve Leases engine parts choice Budget left leaves in
      record {
        events = left_so.0;
        first = [];
        saved = subst (λ (l : Left).
            saves (journal_outputs_if_any solve.journal (settings_of solve) l.journal)) left_so.2 saved;
        legal = is_journal _ left_so.0 left_so.1;
        short = is_short _ left_so.0 left_so.1;
      }
