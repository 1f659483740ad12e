-- A graph of a search that begins.
use Rattle.std.proofs.Common.{◌≡◌, ℕ, ◌<◌, true, false, not, is_some, List, [], Option, Some, None, refl, sym, ap, ◌∙◌, arith, subst, length, get_or, replicate, slice_set, length-set, cond}
use Rattle.std.proofs.lemmas.List.{get_or-replicate}
use Rattle.std.proofs.lemmas.Option.{none-some, same_Some}
use Rattle.std.proofs.Math.ListN.{length-replicate}
use Rattle.pb_model.specs.declared.key.Key.{Key}
use Rattle.pb_model.specs.declared.row.Estimate.{Estimate}
use Rattle.pb_model.specs.Store.{Rows, Store}
use Rattle.pb_model.specs.Work.{opening_store}
use Rattle.pb_task.specs.declared.parts.TaskParts.{TaskParts}
use Rattle.pb_task.specs.Parts.{space_of, IsTask, greatest_cost}
use Rattle.pb_estimate.specs.Choices.{Choice}
use Rattle.pb_estimate.specs.Estimates.{estimate_by, suits}
use Rattle.pb_machine.specs.declared.event.Event.{Event}
use Rattle.pb_machine.specs.declared.settings.Settings.{Settings}
use Rattle.pb_machine.specs.Settings.{weight_of, AreInRange}
use Rattle.pb_machine.specs.Counts.{Counts, opening_counts, is_any_out}
use Rattle.pb_machine.specs.History.{IsHistory}
use Rattle.pb_machine.specs.Machine.{opening_machine}
use Rattle.pb_machine.specs.Lawful.{IsLawful}
use Rattle.pb_machine.proofs.Callers.{any_false, opening_is_lawful, all_is_home}
use Rattle.pb_abstract.specs.Graph.{AbstractGraph, IsGraphOf, blocks_of, home_of}
use Rattle.pb_lists.specs.Bundle.{Content}
use Rattle.pb_bundles.specs.Homes.{HomeTable, content_at, key_at, home_rows, empty_homes, with_start, AreNoted}
use Rattle.pb_bundles.specs.Moves.{NotesKey}
use Rattle.pb_bundles.specs.Stores.{HasKeys}
use Rattle.pb_bundles.proofs.Callers.{some_within, set_at, opening_rows_are_home, keys_at_home_are_best}
use Rattle.pb_model.proofs.Callers.{equal_self}
use Rattle.pb_lease.specs.declared.past.Past.{Past}
use Rattle.pb_lease.specs.Tables.{Table, no_past, blocks, counts_of}
use Rattle.pb_lease.specs.Leased.{guide_of}
use Rattle.pb_lease.specs.GraphValue.{GraphValue, setup_in, IsLeaseGraph}
use Rattle.pb_lease.specs.Moments.{IsMomentAt, IsMoment}
use Rattle.pb_lease.specs.Begins.{begin_machine, IsBegin}
use Rattle.pb_lease.proofs.Away.{none_away}
use Rattle.pb_lease.proofs.GraphBasics.{setup_is}
use Rattle.pb_lease.proofs.Beginnings.{same_is, lawful_moments_begin}

-- what the parts of such a graph are
pub record IsOpening (task : TaskParts) (choice : Choice) (table : Table) (homes : HomeTable) : Type 0 where
  pub is_task : IsTask task
  pub suits : suits task choice ≡ true
  pub graph_of : IsGraphOf task table.abstraction
  pub range : AreInRange table.settings
  pub past : table.past ≡ no_past
  pub counts : counts_of table ≡ opening_counts table.settings 0
  pub journal : table.journal ≡ []
  pub there : home_of task table.abstraction (space_of task).start < (blocks table).count
  pub bundles : homes.bundles ≡ slice_set (empty_homes (blocks table).count (weight_of table.settings)).bundles (home_of task table.abstraction (space_of task).start)
      (Some (with_start (record { entries = []; weight = weight_of table.settings }) (space_of task).start (estimate_by task choice (space_of task).start)))
  pub keys : length homes.keys ≡ (blocks table).count
  pub noted : AreNoted homes

module _ (task : TaskParts) (is_task : IsTask task) (choice : Choice) (suited : suits task choice ≡ true) (abstraction : AbstractGraph) (graph_of : IsGraphOf task abstraction) (settings : Settings) (range : AreInRange settings) (table : Table) (same_graph : table.abstraction ≡ abstraction)
    (same_settings : table.settings ≡ settings) (past : table.past ≡ no_past) (counts : counts_of table ≡ opening_counts settings 0) (journal : table.journal ≡ []) (start : ℕ) (start_is : start ≡ (space_of task).start)
    (block : ℕ) (block_is : block ≡ home_of task abstraction start) (below : block < (blocks_of abstraction).count) (count : ℕ) (count_is : count ≡ (blocks_of abstraction).count)
    (estimate : Estimate) (estimate_is : estimate ≡ estimate_by task choice (space_of task).start) (first homes : HomeTable) (first_is : first ≡ empty_homes count (weight_of settings))
    (put : (content : Content) → content_at first block ≡ Some content → homes.bundles ≡ slice_set first.bundles block (Some (with_start content start estimate)))
    (key_noted : (content : Content) → content_at homes block ≡ Some content → NotesKey content first.keys homes.keys block) (noted : AreNoted homes) where
  abbrev empty : Content
  empty = record { entries = []; weight = weight_of settings }

  within : block < count
  within = omega (arith, below, count_is)

  at : content_at first block ≡ Some empty
  at = ap (λ (h : HomeTable). content_at h block) first_is ∙ get_or-replicate count block (Some empty) None within

  home_is : block ≡ home_of task table.abstraction (space_of task).start
  home_is = block_is ∙ ap (home_of task abstraction) start_is ∙ ap (λ (g : AbstractGraph). home_of task g (space_of task).start) (sym same_graph)

  bundles_first : homes.bundles ≡ slice_set (replicate count (Some empty)) block (Some (with_start empty start estimate))
  bundles_first = put empty at ∙ ap (λ (h : HomeTable). slice_set h.bundles block (Some (with_start empty start estimate))) first_is

  there_now : (content : Content) × (content_at homes block ≡ Some content)
  there_now = (
    with_start empty start estimate,
    ap (λ (bs : List (Option Content)). get_or bs block None) bundles_first
        ∙ set_at (replicate count (Some empty)) block block (Some (with_start empty start estimate)) None (subst (λ n. block < n) (sym (length-replicate count (Some empty))) within)
        ∙ ap (λ r. cond r (Some (with_start empty start estimate)) (get_or (replicate count (Some empty)) block None)) (equal_self block),
  )

  key_count : length homes.keys ≡ count
  key_count =
      let n = key_noted there_now.0 there_now.1 in
      ap (λ (ks : List (Option Key)). length ks) n.set ∙ length-set first.keys block n.key ∙ ap (λ (h : HomeTable). length h.keys) first_is ∙ length-replicate count None

  pub opening_of : IsOpening task choice table homes
  opening_of = record {
    is_task = is_task;
    suits = suited;
    graph_of = subst (IsGraphOf task) (sym same_graph) graph_of;
    range = subst AreInRange (sym same_settings) range;
    past = past;
    counts = counts ∙ ap (λ (s : Settings). opening_counts s 0) (sym same_settings);
    journal = journal;
    there = subst (λ n. n < (blocks table).count) home_is (subst (λ (g : AbstractGraph). block < (blocks_of g).count) (sym same_graph) below);
    bundles = bundles_first
        ∙ ap (λ n. slice_set (replicate count (Some empty)) n (Some (with_start empty start estimate))) home_is
        ∙ ap (λ n. slice_set (replicate count (Some empty)) (home_of task table.abstraction (space_of task).start) (Some (with_start empty n estimate))) start_is
        ∙ ap (λ (e : Estimate). slice_set (replicate count (Some empty)) (home_of task table.abstraction (space_of task).start) (Some (with_start empty (space_of task).start e))) estimate_is
        ∙ ap (λ n. slice_set (replicate n (Some empty)) (home_of task table.abstraction (space_of task).start) (Some (with_start empty (space_of task).start (estimate_by task choice (space_of task).start))))
        (count_is ∙ ap (λ (g : AbstractGraph). (blocks_of g).count) (sym same_graph))
        ∙ ap (λ (s : Settings). slice_set (empty_homes (blocks table).count (weight_of s)).bundles (home_of task table.abstraction (space_of task).start)
        (Some (with_start (record { entries = []; weight = weight_of s }) (space_of task).start (estimate_by task choice (space_of task).start)))) (sym same_settings);
    keys = key_count ∙ count_is ∙ ap (λ (g : AbstractGraph). (blocks_of g).count) (sym same_graph);
    noted = noted;
  }

module _ (task : TaskParts) (choice : Choice) (table : Table) (homes : HomeTable) (o : IsOpening task choice table homes) where
  abbrev New : GraphValue
  New = record { task = task; choice = choice; table = table; homes = homes; incumbent = None }

  opened : ((home state : ℕ) → home_rows homes home state ≡ (opening_store (space_of task) (guide_of task table.abstraction choice) (weight_of table.settings)).rows home state)
      × ((block : ℕ) → block < (blocks table).count → (content : Content) × (content_at homes block ≡ Some content) × (content.weight ≡ weight_of table.settings))
  opened = opening_rows_are_home (space_of task) (guide_of task table.abstraction choice) (weight_of table.settings) (blocks table).count homes o.there o.bundles

  pub opening_rows : (home state : ℕ) → home_rows homes home state ≡ (opening_store (space_of task) (guide_of task table.abstraction choice) (weight_of table.settings)).rows home state
  opening_rows = opened.0

  places : length homes.bundles ≡ (blocks table).count
  places = ap (λ (bs : List (Option Content)). length bs) o.bundles
      ∙ length-set (replicate (blocks table).count (Some (record { entries = []; weight = weight_of table.settings }))) (home_of task table.abstraction (space_of task).start)
      (Some (with_start (record { entries = []; weight = weight_of table.settings }) (space_of task).start (estimate_by task choice (space_of task).start)))
      ∙ length-replicate (blocks table).count (Some (record { entries = []; weight = weight_of table.settings }))

  none_out : is_any_out table.settings.workers (counts_of table).leases ≡ false
  none_out = ap (λ (c : Counts). is_any_out table.settings.workers c.leases) o.counts ∙ any_false table.settings.workers (λ worker. false) (λ worker. refl)

  legal : IsHistory (blocks table) table.settings table.past.spent table.journal (counts_of table)
  legal = subst (λ (p : Past). IsHistory (blocks table) table.settings p.spent table.journal (counts_of table)) (sym o.past)
      (subst (λ (j : List Event). IsHistory (blocks table) table.settings 0 j (counts_of table)) (sym o.journal)
      (subst (IsHistory (blocks table) table.settings 0 []) (sym o.counts) (record { range = o.range; enough = omega arith; replays = refl })))

  pub opening_kept : IsLeaseGraph New
  opening_kept = record {
    is_task = o.is_task;
    suits = o.suits;
    graph_of = o.graph_of;
    legal = legal;
    places = places;
    key_places = o.keys;
    home = λ block lt. ap is_some (opened.1 block lt).1 ∙ ap not (sym (none_away (blocks table) table.settings.workers (counts_of table).leases block none_out));
    weights = λ block content is.
        let lt = some_within homes.bundles block (ap is_some is) in
        let at = opened.1 block (omega (arith, lt, places)) in
        ap (λ (x : Content). x.weight) (same_Some content at.0 (sym is ∙ at.1)) ∙ at.2;
  }

  lawful : IsLawful (setup_in New) (opening_machine (setup_in New))
  lawful = opening_is_lawful (setup_in New) greatest_cost (setup_is New opening_kept) (ap (λ (p : Past). p.reopenings) o.past)

  opening_at : (recorded : (worker : ℕ) → Rows) → IsMomentAt New recorded (opening_machine (setup_in New))
  opening_at recorded = record {
    lawful = lawful;
    counts = sym o.counts;
    whole = (all_is_home (setup_in New) (opening_counts table.settings 0) (opening_store (space_of task) (guide_of task table.abstraction choice) (weight_of table.settings)) (home_rows homes) recorded lawful.counts
        (any_false table.settings.workers (λ worker. false) (λ worker. refl))).1 (λ block state. sym (opened.0 block state));
    incumbent = λ worker. refl;
    keys = subst (λ (s : Store). HasKeys s (key_at homes)) (λ i. record { rows = λ home state. opened.0 home state i; incumbent = None; weight = weight_of table.settings })
        (keys_at_home_are_best homes None (weight_of table.settings) (o.keys ∙ sym places) o.noted (λ block lt. opened.1 block (omega (arith, lt, places))));
  }

  pub opening_moment : (recorded : (worker : ℕ) → Rows) → IsMoment New recorded (opening_machine (setup_in New))
  opening_moment recorded = record { at = opening_at recorded; incumbent = refl; untold = λ worker. refl }

  pub opening_begins : (opening_machine (setup_in New) ≡ begin_machine New) × IsBegin New
  opening_begins = lawful_moments_begin New (λ worker home state. None) (opening_machine (setup_in New)) opening_kept o.journal (opening_moment (λ worker home state. None))
      (λ worker other is. same_is other None is) (λ cost is. absurd (none-some cost is))
