-- What a search came to, as its callers learn it.
use Rattle.std.proofs.Common.{◌≡◌, ◌<◌, ◌≤◌, ◌^◌, ◌⊎◌, inl, inr, true, ℕ, List, Option, None, Some, Result, IfOk, refl, sym, ap, ◌∙◌, subst, arith}
use Rattle.std.proofs.lemmas.Result.{IfOk-weaker}
use Rattle.pb_model.specs.Weight.{Weight}
use Rattle.pb_model.specs.Store.{Rows}
use Rattle.pb_model.specs.Work.{Comes, expansions, opening_store}
use Rattle.pb_model.proofs.Callers.{by_cases, weights_stay}
use Rattle.pb_machine.specs.declared.event.End.{End}
use Rattle.pb_machine.specs.declared.event.End.TheVariants.{Quiet, Budget, Memory}
use Rattle.pb_machine.specs.declared.event.Event.{Event}
use Rattle.pb_machine.specs.declared.settings.Settings.{Settings}
use Rattle.pb_machine.specs.Settings.{AreInRange, weight_of}
use Rattle.pb_machine.specs.Counts.{Counts, opening_counts}
use Rattle.pb_machine.specs.History.{IsHistory, AreFinished, events_of}
use Rattle.pb_machine.specs.Room.{no_room, KeepsWithinRoom}
use Rattle.pb_machine.specs.Machine.{Setup, IsSetup, Machine, Move, Runs, journal_of, opening_machine}
use Rattle.pb_machine.specs.Lawful.{broken_leases, IsLawful}
use Rattle.pb_machine.proofs.Callers.{none_counted, opening_is_lawful, spent_is_used, used_fits_budget, journals_are_histories, costs_fit}
use Rattle.pb_task.specs.declared.parts.TaskParts.{TaskParts}
use Rattle.pb_abstract.specs.Projection.{IsFinest}
use Rattle.pb_abstract.specs.Graph.{AbstractGraph, blocks_of, IsGraph, IsGraphOf}
use Rattle.pb_lease.specs.Leased.{setup_of}
use Rattle.pb_lease.specs.Tables.{no_past}
use Rattle.pb_lease.specs.GraphValue.{GraphValue, setup_in}
use Rattle.pb_lease.specs.Moments.{IsMoment}
use Rattle.pb_lease.specs.Begins.{FitsWord}
use Rattle.pb_lease.proofs.Callers.{setup_is, all_rows}
use Rattle.pb_estimate.specs.Choices.{Choice}
use Rattle.pb_task.specs.Parts.{greatest_cost}
use Rattle.pb_yard.specs.Marking.{MarksInTurn}
use Rattle.pb_yard.specs.Order.{RunsInTime}
use Rattle.pb_yard.proofs.Callers.{in_time_is_run, other_ends_have_no_report, runs_are_short}
use Rattle.pb_workers.proofs.Callers.{store_is, best_end}
use Rattle.pb_search.specs.Ends.{search_of, HasSmallCosts, IsBestOf, HasEndedSo, RunEnds, EndsBy, StopsWith, EndsQuietly, IsLeftBy, IsLeftBySearch, MarksNothing}
use Rattle.pb_search.specs.Searched.{Opens, HasRun, HasSearched}
use Rattle.pb_search.proofs.Marks.{marks_nothing}
use Rattle.pb_search.proofs.Ending.{searched}

-- no lease was released for want of memory, where the search ended otherwise
none_broken_at : (p : Setup) (m : Machine) → IsLawful p m → (m.counts.end ≡ Some Quiet) ⊎ (m.counts.end ≡ Some Budget) → broken_leases p m ≡ 0
none_broken_at p m l ends = none_counted p.settings.workers m.broken (λ k lt. by_cases (m.broken k) (λ e. go ends (l.reported.released k e).2) (λ e. e))
  where
    go : {A : Type 0} → (m.counts.end ≡ Some Quiet) ⊎ (m.counts.end ≡ Some Budget) → (m.counts.trouble ≡ true) ⊎ (m.counts.end ≡ Some Memory) → A
    go (inl q) (inl t) = let bad : ◌≡◌ {A = Option End} (Some Quiet) None = sym q ∙ l.counts.trouble t in cc
    go (inl q) (inr e) = let bad : ◌≡◌ {A = Option End} (Some Quiet) (Some Memory) = sym q ∙ e in cc
    go (inr q) (inl t) = let bad : ◌≡◌ {A = Option End} (Some Budget) None = sym q ∙ l.counts.trouble t in cc
    go (inr q) (inr e) = let bad : ◌≡◌ {A = Option End} (Some Budget) (Some Memory) = sym q ∙ e in cc

-- ---- a run, wherever it begins

module _ (setup : Setup) (is_setup : IsSetup setup greatest_cost) (range : AreInRange setup.settings) (before : ℕ) (enough : before ≤ setup.settings.budget) (begin : Machine) (begins : begin.counts ≡ opening_counts setup.settings before) (first : IsLawful setup begin)
    (moves : List Move) (machine : Machine) (run : RunsInTime setup no_room begin moves machine) (lawful : IsLawful setup machine) (finished : AreFinished setup.settings machine.counts)
    (within : KeepsWithinRoom (journal_of moves)) (ended : (machine.counts.end ≡ Some Quiet) ⊎ (machine.counts.end ≡ Some Budget)) where
  plain_run : Runs setup begin moves machine
  plain_run = in_time_is_run setup no_room moves begin machine run

  legal_run : IsHistory setup.blocks setup.settings before (journal_of moves) machine.counts
  legal_run = journals_are_histories setup moves begin machine before range enough begins plain_run

  ends_so : (end : End) → machine.counts.end ≡ Some end → HasEndedSo end setup.settings machine.store (expansions lawful.reached.works)
  ends_so Quiet is = (omega (arith, lawful.reached.spent, lawful.counts.sum), lawful.quiet is)
  ends_so Budget is =
      let spent = spent_is_used setup.blocks setup.settings before (journal_of moves) machine.counts legal_run in
      let all = (used_fits_budget setup.blocks setup.settings before (journal_of moves) machine.counts legal_run).1 is in
      (lawful.reached.spent ∙ spent ∙ all, lawful.budget is)
  ends_so Memory is = go ended
    where
      go : {A : Type 0} → (machine.counts.end ≡ Some Quiet) ⊎ (machine.counts.end ≡ Some Budget) → A
      go (inl quiet) = let bad : ◌≡◌ {A = Option End} (Some Quiet) (Some Memory) = sym quiet ∙ is in cc
      go (inr budget) = let bad : ◌≡◌ {A = Option End} (Some Budget) (Some Memory) = sym budget ∙ is in cc

  not_memory : (machine.counts.end ≡ Some Quiet) ⊎ (machine.counts.end ≡ Some Budget) → machine.counts.end ≡ Some Memory → ⊥
  not_memory (inl quiet) memory = let bad : ◌≡◌ {A = Option End} (Some Quiet) (Some Memory) = sym quiet ∙ memory in cc
  not_memory (inr budget) memory = let bad : ◌≡◌ {A = Option End} (Some Budget) (Some Memory) = sym budget ∙ memory in cc

  pub run_ends : (end : End) → machine.counts.end ≡ Some end → RunEnds setup before begin end moves
  run_ends end is = record {
    machine = machine;
    run = plain_run;
    ordered = run;
    lawful = lawful;
    end_is = is;
    finished = finished;
    legal = legal_run;
    first_weight = lawful.reached.first_weight;
    is_weight = lawful.reached.is_weight;
    works = lawful.reached.works;
    comes = lawful.reached.comes;
    none_broken = let none = none_broken_at setup machine lawful ended in omega (arith, lawful.reached.broken, none);
    reopened = lawful.reached.reopened;
    between = lawful.reached.between;
    first_run = λ first. sym (weights_stay setup.space setup.guide lawful.reached.works (opening_store setup.space setup.guide lawful.reached.first_weight) machine.store lawful.reached.comes
        (lawful.reached.reopened ∙ first)) ∙ lawful.weight;
    ended_so = ends_so end is;
    within = within;
    unreported = other_ends_have_no_report setup greatest_cost no_room moves begin machine is_setup first (ap (λ (c : Counts). c.end) begins) run end is (λ memory. not_memory ended (is ∙ ap (λ (e : End). Some e) memory));
  }

  -- the graph that is this moment, with these events, is what the run left
  pub left_at : (g : GraphValue) (recorded : (worker : ℕ) → Rows) → IsMoment g recorded machine → g.table.journal ≡ journal_of moves → (end : End) → g.table.end ≡ Some end → IsLeftBy setup before begin g
  unfolding run_ends
  left_at g recorded m journal end is = record {
    end = end;
    end_is = is;
    moves = moves;
    journal_is = journal;
    run = run_ends end (ap (λ (c : Counts). c.end) m.at.counts ∙ is);
    recorded = recorded;
    moment = m;
  }

module _ (parts : TaskParts) (abstraction : AbstractGraph) (choice : Choice) (settings : Settings) (range : AreInRange settings) (graph_of : IsGraphOf parts abstraction)
    (finest : IsFinest parts settings.wish abstraction.projection) (few : (blocks_of abstraction).count ≤ 4096) (g : GraphValue) (h : HasSearched parts abstraction choice settings g) where
  abbrev setup : Setup
  setup = search_of parts abstraction choice settings

  setup_same : setup_in g ≡ setup
  setup_same = λ i. setup_of (h.task i) (h.graph_is i) (h.choice_is i) (h.settings_are i) (h.past i).reopenings

  lawful : IsLawful setup h.machine
  lawful = subst (λ (s : Setup). IsLawful s h.machine) setup_same h.moment.at.lawful

  small_costs : HasSmallCosts g
  small_costs block state row found =
      costs_fit (setup_in g) h.machine (setup_is g h.lawful) h.lawful.legal.range h.moment.at.lawful block state row (all_rows g h.lawful h.recorded h.machine h.moment.at h.home block state ∙ found)

  pub is_best : g.table.end ≡ Some Quiet → IsBestOf parts choice settings g
  is_best quiet = record {
    task = h.task;
    weight = ap weight_of h.settings_are;
    choice_is = h.choice_is;
    home = h.home;
    best = best_end g h.lawful h.home h.recorded h.machine h.moment quiet;
    small = small_costs;
  }

  -- ---- the search that led there

  ended_here : (end : End) → g.table.end ≡ Some end → h.machine.counts.end ≡ Some end
  ended_here end is = ap (λ (c : Counts). c.end) h.moment.at.counts ∙ is

  ended : (h.machine.counts.end ≡ Some Quiet) ⊎ (h.machine.counts.end ≡ Some Budget)
  ended = go h.ended
    where
      go : (g.table.end ≡ Some Quiet) ⊎ (g.table.end ≡ Some Budget) → (h.machine.counts.end ≡ Some Quiet) ⊎ (h.machine.counts.end ≡ Some Budget)
      go (inl quiet) = inl (ended_here Quiet quiet)
      go (inr budget) = inr (ended_here Budget budget)

  is_setup : IsSetup setup (2 ^ 20)
  is_setup = subst (λ (s : Setup). IsSetup s (2 ^ 20)) setup_same (setup_is g h.lawful)

  within : KeepsWithinRoom (journal_of h.moves)
  within = subst KeepsWithinRoom h.journal h.within

  no_memory : (h.machine.counts.end ≡ Some Quiet) ⊎ (h.machine.counts.end ≡ Some Budget) → h.machine.counts.end ≡ Some Memory → ⊥
  no_memory (inl quiet) memory = let bad : ◌≡◌ {A = Option End} (Some Quiet) (Some Memory) = sym quiet ∙ memory in cc
  no_memory (inr budget) memory = let bad : ◌≡◌ {A = Option End} (Some Budget) (Some Memory) = sym budget ∙ memory in cc

  run_ended : (end : End) → h.machine.counts.end ≡ Some end → RunEnds setup 0 (opening_machine setup) end h.moves
  run_ended = run_ends setup is_setup range 0 (omega arith) (opening_machine setup) refl (opening_is_lawful setup greatest_cost is_setup refl) h.moves h.machine h.ordered lawful h.finished within ended

  ends_by : (end : End) → h.machine.counts.end ≡ Some end → EndsBy parts choice settings end h.moves
  unfolding run_ends run_ended
  ends_by end is = record {
    abstraction = abstraction;
    graph_of = graph_of;
    finest = finest;
    few = few;
    run = run_ended end is;
    comes = subst (λ (w : Weight). Comes setup.space setup.guide (run_ended end is).works (opening_store setup.space setup.guide w) (run_ended end is).machine.store) ((run_ended end is).first_run refl) (run_ended end is).comes;
    short = runs_are_short setup (2 ^ 20) h.moves h.machine is_setup refl range h.ordered within h.finished (no_memory ended);
    marks = λ worker. subst (λ (j : List Event). MarksInTurn (events_of worker j)) h.journal (h.marks worker);
  }

  pub quiet_run : g.table.end ≡ Some Quiet → EndsQuietly parts choice settings g.table.journal g
  unfolding run_ends run_ended ends_by
  quiet_run quiet =
      let is = ended_here Quiet quiet in
      record {
        moves = h.moves;
        journal_is = h.journal;
        ends = ends_by Quiet is;
        blocks = h.graph_is;
        rows = sym (store_is g h.lawful h.home h.recorded h.machine h.moment);
      }

  pub budget_stop : g.table.end ≡ Some Budget → StopsWith parts choice settings g.table.journal
  budget_stop budget =
      let is = ended_here Budget budget in
      (h.moves, h.journal, ends_by Budget is)

  pub plain_marks_nothing : settings.plain ≡ true → MarksNothing g.table.journal
  plain_marks_nothing plain = subst MarksNothing (sym h.journal) (marks_nothing setup plain h.moves (opening_machine setup) h.machine h.run)

  left_by : IsLeftBy setup 0 (opening_machine setup) g
  left_by = elim h.ended [ inl quiet ↦ at Quiet quiet | inr budget ↦ at Budget budget ]
    where
      at : (end : End) → g.table.end ≡ Some end → IsLeftBy setup 0 (opening_machine setup) g
      at = left_at setup is_setup range 0 (omega arith) (opening_machine setup) refl (opening_is_lawful setup greatest_cost is_setup refl) h.moves h.machine h.ordered lawful h.finished within ended g h.recorded h.moment h.journal

  pub left_by_search : IsLeftBySearch parts choice settings g
  left_by_search = subst (λ (a : AbstractGraph). IsLeftBy (search_of parts a choice settings) 0 (opening_machine (search_of parts a choice settings)) g) (sym h.graph_is) left_by

-- ---- what a call hands back

-- The blocks were made for the task, by a reference of their own, and counted.
module _ {E : Type 0} (parts made_for : TaskParts) (abstraction made counted : AbstractGraph) (choice : Choice) (settings : Settings) (range : AreInRange settings)
    (for_is : made_for ≡ parts) (made_is : abstraction ≡ made) (graph_of : IsGraphOf made_for made) (finest : IsFinest made_for settings.wish made.projection)
    (counted_is : counted ≡ abstraction) (lawful : IsGraph counted) (opening : GraphValue) (opens : Opens parts abstraction choice settings opening)
    (r : Result GraphValue E) (found : IfOk r (HasRun opening)) where
  its_graph : IsGraphOf parts abstraction
  its_graph = subst (λ (p : TaskParts). IsGraphOf p abstraction) for_is (subst (λ (a : AbstractGraph). IsGraphOf made_for a) (sym made_is) graph_of)

  its_finest : IsFinest parts settings.wish abstraction.projection
  its_finest = subst (λ (p : TaskParts). IsFinest p settings.wish abstraction.projection) for_is
      (subst (λ (a : AbstractGraph). IsFinest made_for settings.wish a.projection) (sym made_is) finest)

  few_blocks : (blocks_of abstraction).count ≤ 4096
  few_blocks = (subst IsGraph counted_is lawful).few

  from_opening : (g : GraphValue) → HasRun opening g → HasSearched parts abstraction choice settings g
  from_opening = searched parts abstraction choice settings opening opens

  pub task_then : IfOk r (λ g. g.task ≡ parts)
  task_then = IfOk-weaker r (HasRun opening) (λ g. g.task ≡ parts) (λ g h. (from_opening g h).task) found

  pub blocks_then : IfOk r (λ g. IsGraphOf parts g.table.abstraction)
  blocks_then = IfOk-weaker r (HasRun opening) (λ g. IsGraphOf parts g.table.abstraction)
      (λ g h. subst (λ (a : AbstractGraph). IsGraphOf parts a) (sym (from_opening g h).graph_is) its_graph) found

  pub finest_then : IfOk r (λ g. IsFinest parts settings.wish g.table.abstraction.projection)
  finest_then = IfOk-weaker r (HasRun opening) (λ g. IsFinest parts settings.wish g.table.abstraction.projection)
      (λ g h. subst (λ (a : AbstractGraph). IsFinest parts settings.wish a.projection) (sym (from_opening g h).graph_is) its_finest) found

  pub settings_then : IfOk r (λ g. g.table.settings ≡ settings)
  settings_then = IfOk-weaker r (HasRun opening) (λ g. g.table.settings ≡ settings) (λ g h. (from_opening g h).settings_are) found

  pub past_then : IfOk r (λ g. g.table.past ≡ no_past)
  past_then = IfOk-weaker r (HasRun opening) (λ g. g.table.past ≡ no_past) (λ g h. (from_opening g h).past) found

  pub ended_then : IfOk r (λ g. (g.table.end ≡ Some Quiet) ⊎ (g.table.end ≡ Some Budget))
  ended_then = IfOk-weaker r (HasRun opening) (λ g. (g.table.end ≡ Some Quiet) ⊎ (g.table.end ≡ Some Budget)) (λ g h. h.ended) found

  pub best_then : IfOk r (λ g. g.table.end ≡ Some Quiet → IsBestOf parts choice settings g)
  best_then = IfOk-weaker r (HasRun opening) (λ g. g.table.end ≡ Some Quiet → IsBestOf parts choice settings g)
      (λ g h. is_best parts abstraction choice settings range its_graph its_finest few_blocks g (from_opening g h)) found

  pub quiet_run_then : IfOk r (λ g. g.table.end ≡ Some Quiet → EndsQuietly parts choice settings g.table.journal g)
  quiet_run_then = IfOk-weaker r (HasRun opening) (λ g. g.table.end ≡ Some Quiet → EndsQuietly parts choice settings g.table.journal g)
      (λ g h. quiet_run parts abstraction choice settings range its_graph its_finest few_blocks g (from_opening g h)) found

  pub stop_then : IfOk r (λ g. g.table.end ≡ Some Budget → StopsWith parts choice settings g.table.journal)
  stop_then = IfOk-weaker r (HasRun opening) (λ g. g.table.end ≡ Some Budget → StopsWith parts choice settings g.table.journal)
      (λ g h. budget_stop parts abstraction choice settings range its_graph its_finest few_blocks g (from_opening g h)) found

  pub choice_then : IfOk r (λ g. g.choice ≡ choice)
  choice_then = IfOk-weaker r (HasRun opening) (λ g. g.choice ≡ choice)
      (λ g h. (from_opening g h).choice_is) found

  pub plain_then : IfOk r (λ g. settings.plain ≡ true → MarksNothing g.table.journal)
  plain_then = IfOk-weaker r (HasRun opening) (λ g. settings.plain ≡ true → MarksNothing g.table.journal)
      (λ g h. plain_marks_nothing parts abstraction choice settings range its_graph its_finest few_blocks g (from_opening g h)) found

  pub left_then : IfOk r (IsLeftBySearch parts choice settings)
  left_then = IfOk-weaker r (HasRun opening) (IsLeftBySearch parts choice settings)
      (λ g h. left_by_search parts abstraction choice settings range its_graph its_finest few_blocks g (from_opening g h)) found

  pub fits_then : IfOk r (λ g. 1 < settings.workers → FitsWord g.incumbent)
  fits_then = IfOk-weaker r (HasRun opening) (λ g. 1 < settings.workers → FitsWord g.incumbent)
      (λ g h. (from_opening g h).fits) found
