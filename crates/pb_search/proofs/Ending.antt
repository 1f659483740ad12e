-- A search from its opening to its end: by one worker, and by several.
use Rattle.std.proofs.Common.{◌≡◌, ℕ, zero, suc, ◌<◌, ◌∷◌, true, false, None, Some, is_some, IsSome, Option, List, ◌++◌, ◌⊎◌, inl, inr, refl, sym, ap, ◌∙◌, subst, arith}
use Rattle.pb_machine.specs.declared.event.Event.{Event}
use Rattle.pb_machine.specs.declared.event.End.{End}
use Rattle.pb_machine.specs.declared.event.End.TheVariants.{Quiet, Budget}
use Rattle.pb_machine.specs.declared.settings.Settings.{Settings}
use Rattle.pb_machine.specs.Counts.{Counts, opening_counts, is_any_out}
use Rattle.pb_machine.specs.History.{AreFinished, events_of}
use Rattle.pb_machine.specs.Room.{no_room, KeepsWithinRoom}
use Rattle.pb_machine.specs.Machine.{Setup, Machine, journal_of, opening_machine}
use Rattle.pb_machine.proofs.Callers.{any_false}
use Rattle.pb_task.specs.declared.parts.TaskParts.{TaskParts}
use Rattle.pb_estimate.specs.Choices.{Choice}
use Rattle.pb_abstract.specs.Graph.{AbstractGraph}
use Rattle.pb_lease.specs.Leased.{setup_of}
use Rattle.pb_lease.specs.Tables.{blocks, rooms}
use Rattle.pb_lease.specs.GraphValue.{GraphValue, setup_in, counts_in, IsLeaseGraph}
use Rattle.pb_lease.specs.Begins.{begin_machine, IsBegin, IsOfRun, FitsWord, IsFirstMoment}
use Rattle.pb_lease.specs.Choices.{is_out_in}
use Rattle.pb_workers.specs.Runs.{IsSameSearch, IsAnyMoment, RunsOn}
use Rattle.pb_workers.specs.Teams.{KeepsSearch}
use Rattle.pb_yard.specs.declared.view.View.{View}
use Rattle.pb_yard.specs.Views.{opening_view}
use Rattle.pb_yard.specs.Order.{RunsInTime}
use Rattle.pb_yard.specs.Calls.{IsClosed}
use Rattle.pb_yard.proofs.Callers.{in_time_is_run, others_have_none, marked_share}
use Rattle.pb_yard.specs.Marking.{no_turn, turn_of, MarksInTurn}
use Rattle.pb_workers.specs.Turns.{HasTurn, AllMarkInTurn}
use Rattle.pb_search.specs.Ends.{search_of, LeadsInTime}
use Rattle.pb_search.specs.Searched.{Opens, HasRun, HasSearched}

-- the search ended, quietly or by its budget
abbrev pub HasEnded : GraphValue → Type 0
HasEnded g = (g.table.end ≡ Some Quiet) ⊎ (g.table.end ≡ Some Budget)

some_end : (g : GraphValue) → HasEnded g → IsSome g.table.end
some_end g (inl quiet) = ap (λ (o : Option End). is_some o) quiet
some_end g (inr budget) = ap (λ (o : Option End). is_some o) budget

-- a graph with which any run begins is one with which a run of one worker does
pub first_of : (g : GraphValue) → IsBegin g → IsFirstMoment g
first_of g begin = record { empty = begin.empty; moment = begin.moment }

module _ (old : GraphValue) (first : IsFirstMoment old) where
  begin_counts : counts_in old ≡ opening_counts old.table.settings old.table.past.spent
  begin_counts = sym (first.moment (λ worker home state. None)).at.counts

  pub begin_is_moment : IsAnyMoment old
  begin_is_moment = (λ worker home state. None, begin_machine old, first.moment (λ worker home state. None))

  pub none_out : is_out_in old ≡ false
  none_out =
      (λ i. is_any_out old.table.settings.workers (begin_counts i).leases)
      ∙ any_false old.table.settings.workers (λ worker. is_some ((opening_counts old.table.settings old.table.past.spent).leases worker)) (λ worker. refl)

  pub none_signed_off : (counts_in old).signed_off 0 ≡ false
  none_signed_off = ap (λ (c : Counts). c.signed_off 0) begin_counts

  -- a worker that searched alone
  module _ (new : GraphValue) (same : IsSameSearch old new) (alone : old.table.settings.workers ≡ 1) where
    all_off : (counts : Counts) → counts ≡ counts_in new → (counts_in new).signed_off 0 ≡ true → HasEnded new → AreFinished old.table.settings counts
    all_off counts is off ended = record {
      end = subst (λ (c : Counts). IsSome c.end) (sym is) (some_end new ended);
      signed_off = λ worker less.
          let first : worker ≡ 0 = omega (arith, less, alone) in
          subst (λ k. counts.signed_off k ≡ true) (sym first) (ap (λ (c : Counts). c.signed_off 0) is ∙ off);
    }

    -- no other worker has an event
    all_mark : IsLeaseGraph new → MarksInTurn (events_of 0 new.table.journal) → (worker : ℕ) → MarksInTurn (events_of worker new.table.journal)
    all_mark lawful own zero = own
    all_mark lawful own (suc worker) =
        let one : new.table.settings.workers ≡ 1 = ap (λ (s : Settings). s.workers) same.settings ∙ alone in
        subst MarksInTurn (sym (others_have_none (blocks new.table) new.table.settings (suc worker) (omega (arith, one)) (opening_counts new.table.settings new.table.past.spent) new.table.journal (counts_in new) lawful.legal.replays)) refl

    pub alone_ran : rooms old.table ≡ no_room → IsLeaseGraph new → KeepsWithinRoom new.table.journal → RunsOn old new → is_out_in new ≡ false → (counts_in new).signed_off 0 ≡ true → HasEnded new → (HasTurn old 0 no_turn → MarksInTurn (events_of 0 new.table.journal)) → HasRun old new
    alone_ran none lawful within runs home off ended marks =
        let last = runs (λ worker home state. None) (begin_machine old) (first.moment (λ worker home state. None)) in
        let to = last.1 in
        record {
          of_run = record { task = same.task; abstraction = same.abstraction; choice = same.choice; settings = same.settings; past = same.past };
          lawful = lawful;
          home = home;
          ended = ended;
          moves = to.moves;
          journal = to.events ∙ ap (λ (j : List Event). j ++ journal_of to.moves) first.empty;
          machine = last.0;
          ordered = subst (λ (r : ℕ → ℕ). RunsInTime (setup_in old) r (begin_machine old) to.moves last.0) none to.run;
          recorded = λ worker home state. None;
          moment = to.moment;
          finished = all_off last.0.counts to.moment.at.counts off ended;
          within = within;
          marks = all_mark lawful (marks (ap (λ (j : List Event). turn_of (events_of 0 j)) first.empty));
          fits = λ several. absurd (omega (arith, several, alone));
        }

  -- several workers whose yard was closed
  module _ (view : View) (keeps : KeepsSearch (opening_view old) view) (new : GraphValue) (closed : IsClosed view new) where
    of_run : IsOfRun old new
    of_run = subst (λ (g : GraphValue). IsOfRun g new) keeps.begin closed.of_run

    new_setup : setup_in new ≡ setup_in old
    new_setup = λ i. setup_of (of_run.task i) (of_run.abstraction i) (of_run.choice i) (of_run.settings i) (of_run.past i).reopenings

    each_marks : AllMarkInTurn view → (worker : ℕ) → MarksInTurn (events_of worker new.table.journal)
    each_marks marks worker = elim (closed.every worker) [
      | inl among ↦ marked_share new.table.journal view.journal.seen (view.journal.own ∷ view.journal.taken_in) worker closed.shares marks among
      | inr none ↦ subst MarksInTurn (sym none) refl
    ]

    pub yard_ran : IsLeaseGraph new → KeepsWithinRoom new.table.journal → HasEnded new → AllMarkInTurn view → HasRun old new
    yard_ran lawful within ended marks =
        let moment = closed.moment (λ worker home state. None) in
        record {
          of_run = of_run;
          lawful = lawful;
          home = closed.home;
          ended = ended;
          moves = closed.moves;
          journal = sym closed.journal;
          machine = closed.machine;
          ordered = subst (λ (g : GraphValue). RunsInTime (setup_in old) no_room (begin_machine g) closed.moves closed.machine) keeps.begin
              (subst (λ (s : Setup). RunsInTime s no_room (begin_machine view.begin) closed.moves closed.machine) new_setup closed.run);
          recorded = λ worker home state. None;
          moment = moment;
          finished = subst (λ (c : Counts). AreFinished old.table.settings c) (sym moment.at.counts)
              (subst (λ (s : Settings). AreFinished s (counts_in new)) of_run.settings closed.finished);
          within = within;
          marks = each_marks marks;
          fits = λ several. closed.fits;
        }

-- ---- a run that began with the opening

module _ (parts : TaskParts) (abstraction : AbstractGraph) (choice : Choice) (settings : Settings) (old : GraphValue) (opens : Opens parts abstraction choice settings old) where
  abbrev setup : Setup
  setup = search_of parts abstraction choice settings

  old_setup : setup_in old ≡ setup
  old_setup = λ i. setup_of (opens.task i) (opens.graph_is i) (opens.choice_is i) (opens.settings_are i) (opens.past i).reopenings

  begins : begin_machine old ≡ opening_machine setup
  begins = opens.opening ∙ ap (λ (s : Setup). opening_machine s) old_setup

  pub searched : (new : GraphValue) → HasRun old new → HasSearched parts abstraction choice settings new
  searched new h =
      let run : LeadsInTime setup h.moves h.machine =
      subst (λ (m : Machine). RunsInTime setup no_room m h.moves h.machine) begins (subst (λ (s : Setup). RunsInTime s no_room (begin_machine old) h.moves h.machine) old_setup h.ordered) in
      record {
        task = h.of_run.task ∙ opens.task;
        graph_is = h.of_run.abstraction ∙ opens.graph_is;
        choice_is = h.of_run.choice ∙ opens.choice_is;
        settings_are = h.of_run.settings ∙ opens.settings_are;
        past = h.of_run.past ∙ opens.past;
        lawful = h.lawful;
        home = h.home;
        ended = h.ended;
        moves = h.moves;
        journal = h.journal;
        machine = h.machine;
        run = in_time_is_run setup no_room h.moves (opening_machine setup) h.machine run;
        ordered = run;
        recorded = h.recorded;
        moment = h.moment;
        finished = subst (λ (s : Settings). AreFinished s h.machine.counts) opens.settings_are h.finished;
        within = h.within;
        marks = h.marks;
        fits = subst (λ (s : Settings). 1 < s.workers → FitsWord new.incumbent) opens.settings_are h.fits;
      }
