-- What judging a journal for a task gives.
use Rattle.std.proofs.Common.{◌≡◌, ◌⊎◌, inl, inr, ℕ, List, Result, Ok, Err, IfOk, sym, ap, ◌∙◌, subst}
use Rattle.pb_machine.specs.declared.settings.Settings.{Settings}
use Rattle.pb_machine.specs.Blocks.{Blocks}
use Rattle.pb_task.specs.declared.parts.TaskParts.{TaskParts}
use Rattle.pb_abstract.specs.Projection.{IsFinest}
use Rattle.pb_abstract.specs.Graph.{AbstractGraph, blocks_of, IsGraphOf}
use Rattle.pb_abstract.proofs.Callers.{graphs_are_unique}
use Rattle.pb_journal.specs.declared.error.JournalError.{JournalError}
use Rattle.pb_journal.specs.declared.error.JournalError.TheVariants.{At, Memory}
use Rattle.pb_journal.specs.Faults.{fault_at, Gives}
use Rattle.pb_journal.specs.Judging.{settings_of, judged}
use Rattle.pb_journal.specs.Shown.{IsFinishedJournal, IsFirstFault}
use Rattle.pb_journal.proofs.Callers.{refused_lines_are_first}
use Rattle.pb_answer.specs.Journals.{IsJournalGraph, IsEventFault, IsNoJournalOf, GivesJournal}
use Rattle.pb_answer.proofs.Results.{not_fault, same_value}

-- what the judge of a text over these blocks says
pub record AnswersRightly (blocks : Blocks) (text : List ℕ) (result : Result ℕ JournalError)
    : Type 0 where
  pub exact : Gives (λ n. n) result (judged blocks text)
  pub finished : IfOk result (λ n. IsFinishedJournal blocks text n)
  pub only : (n : ℕ) → IsFinishedJournal blocks text n → Gives (λ m. m) result (Ok n)

module _ (parts : TaskParts) (text : List ℕ) (settings : Settings) (abstraction : AbstractGraph)
    (header : settings_of text ≡ Ok settings) (graph_of : IsGraphOf parts abstraction)
    (finest : IsFinest parts settings.wish abstraction.projection) where
  is_graph : IsJournalGraph parts text abstraction
  is_graph = record { settings = settings; header = header; graph_of = graph_of; finest = finest }

  -- no other graph has other blocks
  same_blocks : (other : AbstractGraph) → IsJournalGraph parts text other
      → blocks_of other ≡ blocks_of abstraction
  same_blocks other is =
      let wish : is.settings.wish ≡ settings.wish =
      ap (λ (s : Settings). s.wish) (same_value is.settings settings (sym is.header ∙ header)) in
      let same = graphs_are_unique parts settings.wish other abstraction is.graph_of graph_of
      (subst (λ n. IsFinest parts n other.projection) wish is.finest) finest in
      λ i. record { count = same.1 i; scope = λ block c. same.2 block c i }

  pub judging_gives : (result : Result ℕ JournalError)
      → Gives (λ n. n) result (judged (blocks_of abstraction) text)
      → IfOk result (λ n. IsFinishedJournal (blocks_of abstraction) text n)
      → ((n : ℕ) → IsFinishedJournal (blocks_of abstraction) text n → Gives (λ m. m) result (Ok n))
      → GivesJournal parts text result
  judging_gives (Ok events) exact finished only =
      record { abstraction = abstraction; blocks = is_graph; finished = finished }
  judging_gives (Err Memory) exact finished only = tt
  judging_gives (Err (At line why)) exact finished only =
      let fault =
      refused_lines_are_first (blocks_of abstraction) text (record { line = line; why = why }) exact in
      (inr (event_fault fault), none)
    where
      event_fault : (settings_of text ≡ fault_at line why)
          ⊎ IsFirstFault (blocks_of abstraction) text line why
          → IsEventFault parts text line why
      event_fault (inl e) = not_fault settings (record { line = line; why = why }) (sym header ∙ e)
      event_fault (inr first) =
          record { abstraction = abstraction; blocks = is_graph; is_judged = exact; first = first }

      none : IsNoJournalOf parts text
      none events is =
          not_fault events (record { line = line; why = why })
          (only events
          (subst (λ (b : Blocks). IsFinishedJournal b text events)
          (same_blocks is.abstraction is.blocks) is.finished))
