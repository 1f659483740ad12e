-- What is known when a yard is closed.
use Rattle.std.proofs.Common.{◌≡◌, ◌≢◌, ℕ, ◌<◌, ◌==◌, true, false, not, List, [], map, Some, None, refl, sym, ap, ◌∙◌, subst, true≢false}
use mathlib.Core.Option.{some, some-injective}
use lib.ListN.{get_elem?}
use Rattle.pb_turn.proofs.Callers.{map_at}
use Rattle.std.specs.List.{list_any}
use Rattle.pb_model.proofs.Callers.{by_cases, equal, equal_self, not_both}
use Rattle.pb_machine.specs.declared.event.Grant.{Grant}
use Rattle.pb_machine.specs.declared.settings.Settings.{Settings}
use Rattle.pb_machine.specs.Counts.{Counts}
use Rattle.pb_machine.specs.Room.{no_room}
use Rattle.pb_machine.specs.History.{is_off, events_of, AreFinished}
use Rattle.pb_machine.specs.Views as of_machine
use Rattle.pb_machine.proofs.Callers.{signed_off_is_finished, histories_are_lawful, all_off_none_out, last_views_tell_all, last_views_sign_off}
use Rattle.pb_lease.specs.Tables.{blocks}
use Rattle.pb_lease.specs.GraphValue.{GraphValue, setup_in, counts_in}
use Rattle.pb_lease.specs.Begins.{begin_machine, IsBegin, IsOfRun, FitsWord}
use Rattle.pb_lease.specs.Choices.{is_out_in}
use Rattle.pb_lease.proofs.Callers.{none_out_is_moment}
use Rattle.pb_yard.specs.declared.view.View.{View}
use Rattle.pb_yard.specs.Views.{spent_pass_view, keeps_order}
use Rattle.pb_yard.specs.Rule.{rows_of, journal_view, HasLeaver, IsYard}
use Rattle.pb_yard.specs.Order.{RunsInTimeFor}
use Rattle.pb_yard.specs.Calls.{AllSignedOff, IsClosedFor, IsClosed}
use Rattle.pb_yard.proofs.InTime.{settled_fewer}
use Rattle.pb_yard.proofs.Parts.{at_journal, moment_where_leased}
use Rattle.pb_yard.proofs.Meaning.{history}

module _ (x : GraphValue) (seat : ℕ) (v : View) (live : v.journal.is_live ≡ true) (views : List View) (h : IsYard x x.incumbent views) (at : get_elem? views seat ≡ some v)
    (alone : (other : ℕ) (w : View) → get_elem? views other ≡ some w → other ≢ seat → w ≡ spent_pass_view) (off : AllSignedOff v)
    (fits : FitsWord x.incumbent) where
  spent : (other : ℕ) (left : of_machine.View) → get_elem? (map journal_view views) other ≡ some left → other ≢ seat → left.is_live ≡ false
  spent other left e apart =
      let t = map_at journal_view views other left e in
      ap (λ (u : of_machine.View). u.is_live) (sym t.2) ∙ ap (λ (u : View). u.journal.is_live) (alone other t.0 t.1 apart)

  there : get_elem? (map journal_view views) seat ≡ some v.journal
  there = at_journal x.table.settings.workers x.table.journal views h.journals seat v at

  settings : v.settings ≡ x.table.settings
  settings = (h.each seat v at live).search.settings

  all_off : (worker : ℕ) → worker < x.table.settings.workers → list_any is_off (events_of worker x.table.journal) ≡ true
  all_off = last_views_sign_off x.table.settings.workers x.table.journal (map journal_view views) seat v.journal h.journals there live spent
      (off.all_made ∙ ap (λ (t : Settings). t.workers) settings) off.off

  finished : AreFinished x.table.settings (counts_in x)
  finished = signed_off_is_finished (blocks x.table) x.table.settings x.table.past.spent x.table.journal (counts_in x) (history x x.incumbent views h) refl all_off

  home : is_out_in x ≡ false
  home = all_off_none_out (blocks x.table) x.table.settings (counts_in x) (histories_are_lawful (blocks x.table) x.table.settings x.table.past.spent x.table.journal (counts_in x) (history x x.incumbent views h)) finished.signed_off

  -- the last pass has it of each worker that left the order
  kept : (worker : ℕ) → keeps_order v worker ≡ true → h.keeps worker ≡ true
  kept worker keeps = by_cases (h.keeps worker) (λ e. e) (λ none. go (h.leavers worker none))
    where
      go : HasLeaver worker views → h.keeps worker ≡ true
      go (other, u, is, on, has) = by_cases (other == seat)
          (λ e. let q : v ≡ u = some-injective v u (sym at ∙ ap (get_elem? views) (sym (equal other seat e)) ∙ is) in
          absurd (true≢false (sym keeps ∙ ap (λ (z : View). keeps_order z worker) q ∙ ap (λ r. not r) has)))
          (λ e. absurd (true≢false (sym on ∙ ap (λ (z : View). z.journal.is_live) (alone other u is (λ p. not_both (other == seat) (ap (λ k. k == seat) p ∙ equal_self seat) e)))))

  run : RunsInTimeFor (setup_in x) (keeps_order v) no_room (begin_machine h.begin) h.moves h.machine
  run = (h.settled, settled_fewer (setup_in x) h.keeps (keeps_order v) kept no_room h.moves (begin_machine h.begin) h.begin.incumbent h.machine h.settled h.run)

  pub closed : IsClosedFor (keeps_order v) v x
  closed =
      let tells = last_views_tell_all x.table.settings.workers x.table.journal (map journal_view views) seat v.journal h.journals there live in
      record {
        search = (h.each seat v at live).search;
        of_run = subst (λ (g : GraphValue). IsOfRun g x) (sym (h.began seat v at live)) h.of_run;
        begins = subst (λ (g : GraphValue). IsBegin g) (sym (h.began seat v at live)) h.begins;
        seen = (tells.2 spent).0;
        shares = tells.1;
        every = (tells.2 spent).1;
        history = history x x.incumbent views h;
        finished = finished;
        home = home;
        moves = h.moves;
        machine = h.machine;
        run = subst (λ (g : GraphValue). RunsInTimeFor (setup_in x) (keeps_order v) no_room (begin_machine g) h.moves h.machine) (sym (h.began seat v at live)) run;
        journal = h.journal;
        moment = λ recorded. none_out_is_moment x recorded h.machine
            (moment_where_leased x (λ worker. rows_of (h.lent worker)) recorded h.machine
            (λ worker grant is. none_leased worker grant (ap (λ (c : Counts). c.leases worker) (sym h.moment.counts) ∙ is)) h.moment) home h.shared_is;
        fits = fits;
      }
    where
      none_leased : {A : Type 0} (worker : ℕ) (grant : Grant) → (counts_in x).leases worker ≡ Some grant → A
      none_leased worker grant is =
          let lawful = histories_are_lawful (blocks x.table) x.table.settings x.table.past.spent x.table.journal (counts_in x) (history x x.incumbent views h) in
          let known = (lawful.known worker grant is).0 in
          let gone : (counts_in x).leases worker ≡ None = (lawful.off worker (finished.signed_off worker known)).1 in
          let bad : Some grant ≡ None = sym is ∙ gone in absurd cc

-- if no worker left the order, the run was in order and in time for all
pub closed_in_order : (view : View) (g : GraphValue) → view.left_order ≡ [] → IsClosedFor (keeps_order view) view g → IsClosed view g
closed_in_order view g none closed = subst (λ (l : List ℕ). IsClosedFor (λ worker. not (list_any (λ other. other == worker) l)) view g) none closed
