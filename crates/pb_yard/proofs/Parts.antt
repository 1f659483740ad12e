-- The parts of the rule, as the graph goes on.
use Rattle.std.proofs.Common.{◌≡◌, ◌≢◌, ℕ, suc, ◌+◌, ◌==◌, ◌<◌, ◌≤◌, true, false, List, [], ◌∷◌, ◌++◌, length, map, set, Option, Some, None, refl, sym, ap, ◌∙◌, subst, arith}
use Rattle.std.proofs.lemmas.List.{append-nil, length-append}
use Rattle.std.proofs.lemmas.Option.{none-some}
use mathlib.Core.Option.{some, some-injective}
use lib.ListN.{get_elem?}
use Rattle.atomic_table.proofs.Lists.{set_else, at_map}
use Rattle.pb_turn.proofs.Callers.{put_there}
use Rattle.std.specs.List.{list_any}
use Rattle.pb_model.specs.Store.{Rows, AtMost}
use Rattle.pb_model.proofs.Callers.{by_cases, equal, equal_self, not_both}
use Rattle.pb_machine.specs.declared.event.Event.{Event}
use Rattle.pb_machine.specs.declared.event.Grant.{Grant}
use Rattle.pb_machine.specs.Settings.{weight_of}
use Rattle.pb_machine.specs.Views.{AreTrueOf}
use Rattle.pb_machine.specs.Machine.{Machine}
use Rattle.pb_machine.proofs.Callers.{recorded_where_leased}
use Rattle.pb_bundles.specs.Homes.{home_rows}
use Rattle.pb_abstract.specs.Graph.{AbstractGraph, blocks_of}
use Rattle.pb_lease.specs.LeaseValue.{LeaseValue}
use Rattle.pb_lease.specs.Leased.{setup_of, FitsScopes}
use Rattle.pb_lease.specs.GraphValue.{GraphValue, setup_in, counts_in, IsOfGraph}
use Rattle.pb_lease.specs.Moments.{IsMomentAt}
use Rattle.pb_lease.specs.Begins.{IsOfRun}
use Rattle.pb_yard.specs.declared.view.View.{View}
use Rattle.pb_yard.specs.Views.{has_left}
use Rattle.pb_yard.specs.Rule.{journal_view, IsSearchOf, IsRecent, HasNoPass, HasLeaver}

-- the same search goes on, and this is what stays of it
pub record GoesOnAs (old new : GraphValue) : Type 0 where
  pub task : new.task ≡ old.task
  pub abstraction : new.table.abstraction ≡ old.table.abstraction
  pub choice : new.choice ≡ old.choice
  pub settings : new.table.settings ≡ old.table.settings
  pub past : new.table.past ≡ old.table.past

module _ (old new : GraphValue) (same : GoesOnAs old new) where
  pub setup_same : setup_in new ≡ setup_in old
  setup_same = λ i. setup_of (same.task i) (same.abstraction i) (same.choice i) (same.settings i) (same.past i).reopenings

  pub run_same : (begin : GraphValue) → IsOfRun begin old → IsOfRun begin new
  run_same begin is = record { task = same.task ∙ is.task; abstraction = same.abstraction ∙ is.abstraction; choice = same.choice ∙ is.choice; settings = same.settings ∙ is.settings; past = same.past ∙ is.past }

  pub search_same : (view : View) → IsSearchOf old view → IsSearchOf new view
  search_same view is = record { task = is.task ∙ sym same.task; abstraction = is.abstraction ∙ sym same.abstraction; choice = is.choice ∙ sym same.choice; settings = is.settings ∙ sym same.settings }

  -- a lease whose grant stays is one of the graph as before
  pub still_of_graph : (lease : LeaseValue) → (counts_in new).leases lease.worker ≡ (counts_in old).leases lease.worker → IsOfGraph old lease → IsOfGraph new lease
  still_of_graph lease leases of = record {
    leased = leases ∙ of.leased;
    weight = of.weight ∙ ap weight_of (sym same.settings);
    choice = of.choice ∙ sym same.choice;
    fits = subst (λ (g : AbstractGraph). FitsScopes g lease.fits) (sym same.abstraction) of.fits;
    scope = record { blocks = λ b. of.scope.blocks b ∙ ap (λ (g : AbstractGraph). (blocks_of g).scope lease.block b) (sym same.abstraction); weights = of.scope.weights };
  }

-- what is recorded for workers without a lease is of no account
pub moment_where_leased : (g : GraphValue) (recorded other : ℕ → Rows) (machine : Machine) → ((worker : ℕ) (grant : Grant) → machine.counts.leases worker ≡ Some grant → other worker ≡ recorded worker)
    → IsMomentAt g recorded machine → IsMomentAt g other machine
moment_where_leased g recorded other machine same m = record {
  lawful = m.lawful;
  counts = m.counts;
  whole = recorded_where_leased (setup_in g) machine.counts machine.store (home_rows g.homes) recorded other same m.whole;
  keys = m.keys;
  incumbent = m.incumbent;
}

-- ---- what was read while the graph was held

pub unread_recent : (g : GraphValue) (settled : Option ℕ) (view : View) → view.read_at ≡ None → IsRecent g settled view
unread_recent g settled view none = record {
  read_by = λ events is. absurd (none-some events (sym none ∙ is));
  fresh = λ is. absurd (none-some (length g.table.journal) (sym none ∙ is));
}

-- it is as recent where no event came, and else nothing is said of it
pub recent_stays : (x y : GraphValue) (events : List Event) (settled later : Option ℕ) (view : View) → y.table.journal ≡ x.table.journal ++ events → (events ≡ [] → later ≡ settled)
    → IsRecent x settled view → IsRecent y later view
recent_stays x y [] settled later view added same is =
    let j : y.table.journal ≡ x.table.journal = added ∙ append-nil x.table.journal in
    record {
      read_by = λ n at. subst (λ (l : List Event). n ≤ length l) (sym j) (is.read_by n at);
      fresh = λ at. subst (λ o. AtMost view.last o) (sym (same refl)) (is.fresh (at ∙ ap (λ (l : List Event). Some (length l)) j));
    }
recent_stays x y (event ∷ events) settled later view added same is =
    let long : length y.table.journal ≡ length x.table.journal + suc (length events) = ap length added ∙ length-append x.table.journal (event ∷ events) in
    record {
      read_by = λ n at. let k = is.read_by n at in omega (arith, long, k);
      fresh = λ at. let k = is.read_by (length y.table.journal) at in absurd (omega (arith, long, k));
    }

-- ---- the views of live passes are of workers that differ

module _ (workers : ℕ) (journal : List Event) (views : List View) (h : AreTrueOf workers journal (map journal_view views)) where
  pub at_journal : (seat : ℕ) (view : View) → get_elem? views seat ≡ some view → get_elem? (map journal_view views) seat ≡ some view.journal
  at_journal seat view at = at_map journal_view views seat view at

  pub seat_is : (seat : ℕ) (view : View) → get_elem? views seat ≡ some view → view.journal.is_live ≡ true → h.seat_of view.journal.own.worker ≡ seat
  seat_is seat view at live = (h.each seat view.journal (at_journal seat view at) live).shares.0.2

  pub below_made : (seat : ℕ) (view : View) → get_elem? views seat ≡ some view → view.journal.is_live ≡ true → view.journal.own.worker < h.made
  below_made seat view at live = (h.each seat view.journal (at_journal seat view at) live).shares.0.1

  pub workers_differ : (seat other : ℕ) (view left : View) → get_elem? views seat ≡ some view → view.journal.is_live ≡ true → get_elem? views other ≡ some left → left.journal.is_live ≡ true
      → other ≢ seat → (left.journal.own.worker == view.journal.own.worker) ≡ false
  workers_differ seat other view left at live there up apart = by_cases (left.journal.own.worker == view.journal.own.worker)
      (λ e. absurd (apart (sym (seat_is other left there up) ∙ ap h.seat_of (equal left.journal.own.worker view.journal.own.worker e) ∙ seat_is seat view at live)))
      (λ e. e)

-- a worker without a live pass has none where one view changed and its worker stays
pub no_pass_before : (worker : ℕ) (views : List View) (seat : ℕ) (view new : View) → get_elem? views seat ≡ some view → view.journal.is_live ≡ true → new.journal.is_live ≡ true
    → new.journal.own.worker ≡ view.journal.own.worker → get_elem? (set views seat new) seat ≡ some new → HasNoPass worker (set views seat new) → HasNoPass worker views
no_pass_before worker views seat view new at live up same here none other left there on = by_cases (other == seat)
    (λ e. let is : view ≡ left = some-injective view left (sym at ∙ ap (get_elem? views) (sym (equal other seat e)) ∙ there) in
    ap (λ (u : View). u.journal.own.worker == worker) (sym is) ∙ ap (λ n. n == worker) (sym same) ∙ none seat new here up)
    (λ e. none other left (set_else views seat other new (λ p. not_both (other == seat) (ap (λ k. k == seat) p ∙ equal_self seat) e) ∙ there) on)

-- ---- workers that left the order

-- a worker that left the order by some views did so where one of them changed, and says as much
pub leaver_stays : (views : List View) (seat : ℕ) (view new : View) → get_elem? views seat ≡ some view → new.journal.is_live ≡ true → ((worker : ℕ) → has_left view worker ≡ true → has_left new worker ≡ true)
    → (worker : ℕ) → HasLeaver worker views → HasLeaver worker (set views seat new)
leaver_stays views seat view new at up more worker (other, left, there, on, has) = by_cases (other == seat)
    (λ e. let is : view ≡ left = some-injective view left (sym at ∙ ap (get_elem? views) (sym (equal other seat e)) ∙ there) in
    (seat, new, put_there views seat view new at, up, more worker (subst (λ (u : View). has_left u worker ≡ true) (sym is) has)))
    (λ e. (other, left, set_else views seat other new (λ p. not_both (other == seat) (ap (λ k. k == seat) p ∙ equal_self seat) e) ∙ there, on, has))

-- the same where the view says the same of it
pub leaver_same : (views : List View) (seat : ℕ) (view new : View) → get_elem? views seat ≡ some view → new.journal.is_live ≡ true → new.left_order ≡ view.left_order
    → (worker : ℕ) → HasLeaver worker views → HasLeaver worker (set views seat new)
leaver_same views seat view new at up same worker leaver = leaver_stays views seat view new at up
    (λ other has. ap (λ (l : List ℕ). list_any (λ one. one == other) l) same ∙ has) worker leaver
