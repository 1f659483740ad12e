-- What a search leaves is within its budget: its rows, their costs, and its journal.
use Rattle.std.proofs.Common.{◌≡◌, ◌+◌, ◌^◌, ◌<◌, ◌≤◌, Option, IfSome, List, length, sym, ap, subst, arith}
use Rattle.std.proofs.Math.Nat.{mul-le-mul, mul-le-mul_left}
use Rattle.pb_model.specs.Store.{Part, CostsAtMost}
use Rattle.pb_model.specs.Sound.{IsSound}
use Rattle.pb_model.specs.Work.{expansions, broken_expansions}
use Rattle.pb_model.proofs.Callers.{work_keeps_sound}
use Rattle.pb_machine.specs.declared.event.End.{End}
use Rattle.pb_machine.specs.declared.event.End.TheVariants.{Quiet}
use Rattle.pb_machine.specs.declared.event.Event.{Event}
use Rattle.pb_machine.specs.declared.settings.Settings.{Settings}
use Rattle.pb_machine.specs.Settings.{AreInRange, weight_of}
use Rattle.pb_machine.specs.History.{IsHistory}
use Rattle.pb_machine.specs.Machine.{journal_of}
use Rattle.pb_task.specs.declared.parts.TaskParts.{TaskParts}
use Rattle.pb_task.specs.declared.parts.TaskParts.TheVariants.{Grid, Tiles, Strips}
use Rattle.pb_task.specs.Parts.{space_of, IsTask, greatest_cost}
use Rattle.pb_task.proofs.Callers.{tasks_are_proper}
use Rattle.pb_estimate.specs.Choices.{Choice}
use Rattle.pb_abstract.specs.Graph.{blocks_of}
use Rattle.pb_journal.specs.Texts.{journal_text}
use Rattle.pb_journal.specs.Lengths.{JournalTextsAreShort}
use Rattle.pb_search.specs.Ends.{searched_guide}
use Rattle.pb_search.specs.Searches.{SearchEnds}
use Rattle.pb_owners.specs.Owners.{OwnersValue, space_in, guide_in, weight_in, owners_store}
use Rattle.pb_owners.specs.Leaves.{LeavesOwners}
use Rattle.pb_hashed.specs.MailWork.{mail_expansions, mail_broken}
use Rattle.pb_command.specs.declared.command.Engine.{Engine}
use Rattle.pb_command.specs.declared.command.Engine.TheVariants.{Leases, Owners}
use Rattle.pb_answer.specs.Engines.{Left, left_by_leases, left_by_owners, SearchLeaves}
use Rattle.pb_run.specs.Rooms.{most_rows, most_of_journal}
use Rattle.pb_run.proofs.Rows.{HasFewRows, rows_are_few}
use Rattle.pb_run.proofs.MailRows.{mail_rows_are_few}

-- a task has few actions
pub few_actions : (parts : TaskParts) → IsTask parts → (space_of parts).actions ≤ 65536
few_actions (Grid grid) lawful = omega arith
few_actions (Tiles tiles) lawful = omega arith
few_actions (Strips strips) lawful = lawful.few

-- the rows are few and sound, and no g is great
pub record AreWithin (parts : TaskParts) (settings : Settings) (left : Left) : Type 0 where
  pub few : HasFewRows left.guide left.store (most_rows parts settings)
  pub small : CostsAtMost left.store (2 ^ 61)
  pub sound : IsSound (space_of parts) left.guide left.store

-- the same of a search by owners, of its own task and settings
owners_within : (end : End) (parts : TaskParts) (choice : Choice) (settings : Settings)
    (owners : OwnersValue) → LeavesOwners parts choice settings end owners
    → AreWithin owners.task owners.settings (left_by_owners owners)
owners_within end parts choice settings owners leaves =
    let ended = leaves.ended in
    let searched = ended.searched in
    let works = searched.works in
    let spent = searched.expansions in
    let none = searched.none_broken in
    let within = ended.within in
    let count : mail_expansions works + mail_broken works ≤ owners.settings.budget =
    omega (arith, spent, none, within) in
    record {
      few = λ states apart there.
          let rows = mail_rows_are_few (space_in owners) (guide_in owners) (weight_in owners) works
          searched.store (owners_store owners) searched.comes
          (λ home state. sym (ap (λ (part : Part). part state) (searched.between.parts home)))
          states apart there in
          let more = mul-le-mul_left (space_in owners).actions count in
          omega (arith, rows, more);
      small = λ home state row found.
          let g = ended.small home state row found in
          omega (arith, g);
      sound = ended.sound;
    }

-- the journal is short, if there is one
abbrev pub IsShort : TaskParts → Settings → Option (List Event) → Type 0
IsShort parts settings journal =
    IfSome journal (λ events. length (journal_text settings events) ≤ most_of_journal parts settings)

module _ (parts : TaskParts) (settings : Settings) (range : AreInRange settings) where
  module _ (lawful : IsTask parts) where
    pub rows_are_small : most_rows parts settings < 2 ^ 63
    rows_are_small =
        let few = few_actions parts lawful in
        let budget = range.budget.1 in
        let most = mul-le-mul few budget in
        omega (arith, most)

    leases_within : (choice : Choice) (journal : List Event)
        (run : SearchEnds parts choice settings Quiet journal)
        → AreWithin parts settings (left_by_leases run)
    leases_within choice journal run =
        let ended = run.ends.run in
        let works = ended.works in
        let guide = searched_guide parts run.ends.abstraction choice in
        let store = ended.machine.store in
        let none = ended.none_broken in
        let within = ended.ended_so.0 in
        let proper = (tasks_are_proper parts lawful).0 in
        let all = work_keeps_sound (space_of parts) greatest_cost guide (weight_of settings) works store
        proper range.weight run.ends.comes in
        let count : expansions works + broken_expansions works ≤ settings.budget =
        omega (arith, none, within) in
        let budget = range.budget.1 in
        let low : expansions works + broken_expansions works ≤ 2 ^ 40 = omega (arith, count, budget) in
        let most = mul-le-mul_left greatest_cost low in
        record {
          few = λ states apart there.
              let rows = rows_are_few (space_of parts) guide (weight_of settings) works store
              run.ends.comes states apart there in
              let more = mul-le-mul_left (space_of parts).actions count in
              omega (arith, rows, more);
          small = λ home state row found.
              let g = all.1 home state row found in
              omega (arith, g, most);
          sound = all.0;
        }

    pub quiet_is_within : (engine : Engine) (choice : Choice) (left : Left)
        → SearchLeaves engine parts choice settings Quiet left → AreWithin parts settings left
    quiet_is_within Leases choice left (journal, run, is) =
        subst (λ (l : Left). AreWithin parts settings l) (sym is)
        (leases_within choice journal run)
    quiet_is_within Owners choice left (owners, leaves, is) =
        subst (λ (l : Left). AreWithin parts settings l) (sym is)
        (subst (λ (p : TaskParts). AreWithin p settings (left_by_owners owners)) leaves.task
        (subst (λ (s : Settings). AreWithin owners.task s (left_by_owners owners))
        leaves.settings_are (owners_within Quiet parts choice settings owners leaves)))

  module _ (lengths : JournalTextsAreShort) where
    leases_are_short : (choice : Choice) (end : End) (journal : List Event)
        (run : SearchEnds parts choice settings end journal)
        → length (journal_text settings journal) ≤ most_of_journal parts settings
    leases_are_short choice end journal run =
        let ends = run.ends in
        let counts = ends.run.machine.counts in
        let legal : IsHistory (blocks_of ends.abstraction) settings 0 journal counts =
        subst (λ (j : List Event). IsHistory (blocks_of ends.abstraction) settings 0 j counts)
        (sym run.events) ends.run.legal in
        let text = lengths (blocks_of ends.abstraction) settings journal counts ends.few legal in
        let same : length journal ≡ length (journal_of run.moves) = ap length run.events in
        let short = ends.short in
        let sum = ends.run.lawful.counts.sum in
        let spent : counts.spent ≤ settings.budget = omega (arith, sum) in
        let more = mul-le-mul_left (space_of parts).actions spent in
        omega (arith, text, same, short, more)

    pub journal_is_short : (engine : Engine) (choice : Choice) (end : End) (left : Left)
        → SearchLeaves engine parts choice settings end left → IsShort parts settings left.journal
    journal_is_short Leases choice end left (journal, run, is) =
        subst (λ (l : Left). IsShort parts settings l.journal) (sym is)
        (leases_are_short choice end journal run)
    journal_is_short Owners choice end left (owners, leaves, is) =
        subst (λ (l : Left). IsShort parts settings l.journal) (sym is) tt
