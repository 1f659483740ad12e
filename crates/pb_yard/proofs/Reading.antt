-- What a pass reads as the incumbent, and what the graph takes of it.
use Rattle.std.proofs.Common.{◌≡◌, ℕ, ◌==◌, ◌<◌, ◌||◌, cond, nat_lt, true, IsTrue, List, ◌∷◌, length, Option, Some, None, refl, sym, ap, ◌∙◌, subst, arith, true≢false}
use Rattle.std.proofs.lemmas.Option.{same_Some}
use Rattle.std.specs.List.{list_any}
use Rattle.std.proofs.Math.Bool.{or-true}
use mathlib.Core.Option.{some}
use lib.ListN.{get_elem?}
use Rattle.pb_turn.specs.Obligations.{LeaveKeeps, Stands}
use Rattle.pb_model.specs.Store.{AtMost}
use Rattle.pb_model.proofs.Callers.{at_most_trans, below, by_cases, equal_self, not_below}
use Rattle.pb_lease.specs.LeaseValue.{LeaseValue}
use Rattle.pb_lease.specs.GraphValue.{GraphValue}
use Rattle.pb_lease.specs.Begins.{FitsWord}
use Rattle.pb_lease.proofs.Callers.{bound_taken, lesser_other, none_below}
use Rattle.pb_task.specs.Parts.{space_of}
use Rattle.pb_model.specs.Work.{Work}
use Rattle.pb_machine.specs.declared.event.Event.{Event}
use Rattle.pb_machine.specs.Machine.{Move}
use Rattle.pb_machine.specs.Turns.{AreLeaseTurns}
use Rattle.pb_machine.proofs.Callers.{lease_work_stays}
use Rattle.pb_lease.specs.LeaseValue.{leased_store}
use Rattle.pb_lease.specs.Leased.{guide_of}
use Rattle.pb_yard.specs.Returning.{IsBrought}
use Rattle.pb_yard.specs.declared.view.View.{View}
use Rattle.pb_yard.specs.Views.{cost_of, bounded, view_read, view_left}
use Rattle.pb_yard.specs.Calls.{ReadsAndHoldsBy}
use Rattle.pb_yard.specs.Rule.{rows_of, is_cost, was_read, IsYard}
use Rattle.pb_yard.proofs.Parts.{GoesOnAs, run_same, still_of_graph, search_same}
use Rattle.pb_yard.proofs.Meaning.{known_above}
use Rattle.pb_yard.proofs.Clauses.{Fact, MayTake, MayGoBy, leave_keeps, holds, seen_is}

-- what was read is among what the reads found
pub reads_it : (held : Option GraphValue) (v : View) (incumbent : Option ℕ) (cost : ℕ) → incumbent ≡ Some cost → IsTrue (was_read (view_read held v incumbent) (Some cost))
reads_it held v incumbent cost is = subst (λ o. IsTrue (list_any (is_cost cost) (o ∷ v.read))) (sym is) (ap (λ r. r || list_any (is_cost cost) v.read) (equal_self cost))

-- what was read stays read
pub more_read : (held : Option GraphValue) (v : View) (read incumbent : Option ℕ) → was_read v incumbent ≡ true → was_read (view_read held v read) incumbent ≡ true
more_read held v read None has = has
more_read held v read (Some cost) has = go read
  where
    go : (o : Option ℕ) → list_any (is_cost cost) (o ∷ v.read) ≡ true
    go None = has
    go (Some new) = ap (λ r. (new == cost) || r) has ∙ or-true (new == cost)

-- the graph that takes what the pass has read is a moment as before
pub bounded_yard : (f : GraphValue) (bound shared : Option ℕ) (views : List View) → (h : IsYard f shared views)
    → ((cost : ℕ) → bound ≡ Some cost → (worker : ℕ) → h.machine.known worker (Some cost) ≡ true) → IsYard (bounded f bound) shared views
bounded_yard f None shared views h known = h
bounded_yard f (Some cost) shared views h known =
    let y = bounded f (Some cost) in
    let same : GoesOnAs f y = record { task = refl; abstraction = refl; choice = refl; settings = refl; past = refl } in
    record {
      is_setup = h.is_setup;
      in_range = h.in_range;
      begin = h.begin;
      begins = h.begins;
      of_run = run_same f y same h.begin h.of_run;
      moves = h.moves;
      machine = h.machine;
      lent = h.lent;
      settled = h.settled;
      keeps = h.keeps;
      run = h.run;
      leavers = h.leavers;
      journal = h.journal;
      rooms_are = h.rooms_are;
      moment = bound_taken f cost (λ worker. rows_of (h.lent worker)) h.machine h.moment (λ worker. known cost refl worker);
      shared_is = h.shared_is;
      leases = h.leases;
      lent_is = λ worker lease is. let k = h.lent_is worker lease is in record { worker_is = k.worker_is; of_graph = still_of_graph f y same lease refl k.of_graph; unused = k.unused; given = k.given };
      journals = h.journals;
      each = λ other u there up. let k = h.each other u there up in record { lent = k.lent; told = k.told; search = search_same f y same u k.search; known = k.known; copy = k.copy };
      recent = λ other u there up. let k = h.recent other u there up in record { read_by = k.read_by; fresh = k.fresh };
      began = h.began;
      others = h.others;
    }

pub bounded_journal : (f : GraphValue) (bound : Option ℕ) → (bounded f bound).table.journal ≡ f.table.journal
bounded_journal f None = refl
bounded_journal f (Some cost) = refl

pub takes_read : (f : GraphValue) (v : View) (held : Option GraphValue) (incumbent : Option ℕ) → v.journal.is_live ≡ true → MayTake f (bounded f incumbent) (view_read held v incumbent)
takes_read f v held incumbent live = (
  bounded_journal f incumbent,
  λ number views seat h at. bounded_yard f incumbent (cost_of number) views h
      (λ cost is worker. (h.each seat (view_read held v incumbent) at live).known.read (Some cost) (reads_it held v incumbent cost is) worker),
)

-- the graph's incumbent is then what was read
pub bounded_is : (f : GraphValue) (incumbent : Option ℕ) → AtMost incumbent f.incumbent → (bounded f incumbent).incumbent ≡ incumbent
bounded_is f None most = none_below f.incumbent most
bounded_is f (Some cost) most = lesser_other f.incumbent cost most

-- what is read is at most the graph's incumbent, and what the pass has read or told
pub read_falls : (x : GraphValue) (number : ℕ) (views : List View) (seat : ℕ) (v : View) → Fact x number views → get_elem? views seat ≡ some v → v.journal.is_live ≡ true
    → AtMost (cost_of number) x.incumbent × AtMost (cost_of number) v.last
read_falls x number views seat v h at live = (
  known_above x (cost_of number) views h v.journal.own.worker x.incumbent (h.moment.incumbent v.journal.own.worker),
  known_above x (cost_of number) views h v.journal.own.worker v.last (h.each seat v at live).known.last,
)

-- the graph of a yard that is closed, with the last number as its incumbent
pub closing_yard : (f : GraphValue) (number : ℕ) (views : List View) → Fact f number views → IsYard (bounded f (cost_of number)) (bounded f (cost_of number)).incumbent views
closing_yard f number views h =
    let y = bounded_yard f (cost_of number) (cost_of number) views h (λ cost is worker. subst (λ o. h.machine.known worker o ≡ true) (h.shared_is ∙ is) (h.moment.lawful.is_known worker)) in
    subst (λ o. IsYard (bounded f (cost_of number)) o views) (sym (bounded_is f (cost_of number) (known_above f (cost_of number) views h 0 f.incumbent (h.moment.incumbent 0)))) y

-- a word says no cost that it can't say beside "none"
word_fits : (number : ℕ) → number < 18446744073709551616 → FitsWord (cost_of number)
word_fits number small cost is = by_cases (number == 18446744073709551615)
    (λ e. let bad : ◌≡◌ {A = Option ℕ} None (Some cost) = sym (ap (λ r. cond r None (Some number)) e) ∙ is in cc)
    (λ e. let same : number ≡ cost = same_Some number cost (sym (ap (λ r. cond r None (Some number)) e) ∙ is) in
    by_cases (nat_lt number 18446744073709551615)
    (λ less. let lt = below number 18446744073709551615 less in omega (arith, same, lt))
    (λ more. let le = not_below number 18446744073709551615 more in let last : number ≡ 18446744073709551615 = omega (arith, le, small) in
    absurd (true≢false (sym (ap (λ n. n == 18446744073709551615) last) ∙ e))))

-- nor does the graph of a yard that is closed have one
pub closing_fits : (f : GraphValue) (number : ℕ) (views : List View) → Fact f number views → number < 18446744073709551616 → FitsWord (bounded f (cost_of number)).incumbent
closing_fits f number views h small cost is =
    word_fits number small cost (sym (bounded_is f (cost_of number) (known_above f (cost_of number) views h 0 f.incumbent (h.moment.incumbent 0))) ∙ is)

-- what a holder that has read finds
pub entered : (f : GraphValue) (v : View) (o : Option ℕ) (seat : ℕ) (u : View) → u ≡ view_read (Some f) v o → v.journal.is_live ≡ true → Stands Fact seat u f
    → (number : ℕ) × (views : List View) × IsYard (bounded f o) (cost_of number) views × (get_elem? views seat ≡ some (view_read (Some f) v o))
entered f v o seat u is live (number, (views, h, at)) = let here = at ∙ ap (λ (z : View). some z) is in (number, views, (takes_read f v (Some f) o live).1 number views seat h here, here)

-- what was brought before the pass read is brought after
pub brought_on : (v : View) (held : Option GraphValue) (o : Option ℕ) (most_broken : ℕ) (lease : LeaseValue) → AtMost o v.last → IsBrought v most_broken lease → IsBrought (view_read held v o) most_broken lease
brought_on v held o most_broken lease falls b =
    let stays = lease_work_stays (space_of v.task) (guide_of v.task v.abstraction v.choice) b.lent.block lease.used most_broken most_broken (was_read v) (was_read (view_read held v o)) (leased_store b.lent) (leased_store lease) b.work (omega arith) (more_read held v o) in
    record {
      lent = b.lent;
      lent_is = b.lent_is;
      same = b.same;
      weights = b.weights;
      work = stays.0;
      turns = λ order. subst (λ (works : List Work). AreLeaseTurns (space_of v.task) (guide_of v.task v.abstraction v.choice) works (leased_store b.lent)) (sym stays.1) (b.turns order);
      copy = at_most_trans o v.last lease.incumbent falls b.copy;
      told = b.told;
    }

-- A call that read the incumbent under the turn: the pass found f, the graph took what was read, and is left as y.
module _ (f y : GraphValue) (v : View) (o : Option ℕ) (live : v.journal.is_live ≡ true) (list : GraphValue → List Event) (made : GraphValue → List Move) (lent : View → Option LeaseValue) (told : View → Option ℕ) where
  abbrev HavingRead : View
  HavingRead = view_read (Some f) v o

  abbrev AsReadAndLeft : View → View
  AsReadAndLeft u = view_left f y (lent u) (told u) u

  module _ (may : MayGoBy (bounded f o) y HavingRead live (list (bounded f o)) (made (bounded f o)) (lent HavingRead) (told HavingRead)) (entered : View) (read : entered ≡ HavingRead) where
    pub read_keeps : (seat : ℕ) → LeaveKeeps Fact seat entered f y (AsReadAndLeft entered)
    read_keeps seat = subst (λ (u : View). LeaveKeeps Fact seat u f y (AsReadAndLeft u)) (sym read)
        (leave_keeps f (bounded f o) y HavingRead live (takes_read f v (Some f) o live) list made (lent HavingRead) (told HavingRead) may seat)

    module _ (new : View) (left : new ≡ AsReadAndLeft entered) (seat : ℕ) (stands : Stands Fact seat entered f) where
      found_so : Stands Fact seat HavingRead f
      found_so = subst (λ (u : View). Stands Fact seat u f) read stands

      left_so : new ≡ AsReadAndLeft HavingRead
      left_so = left ∙ ap AsReadAndLeft read

      pub read_holds : AtMost o v.last → (step : GraphValue → GraphValue → Type 0) → step (bounded f o) y → ReadsAndHoldsBy step list made v (lent HavingRead) (told HavingRead) new
      read_holds falls step is = subst (λ (u : View). ReadsAndHoldsBy step list made v (lent HavingRead) (told HavingRead) u) (sym left_so) (
        HavingRead,
        record { held = f; incumbent = o; falls = falls; view = refl },
        holds f (bounded f o) y HavingRead live (takes_read f v (Some f) o live) list made (lent HavingRead) (told HavingRead) may seat found_so step is,
      )

      pub read_seen : length new.journal.seen ≡ length y.table.journal
      read_seen = ap (λ (u : View). length u.journal.seen) left_so
          ∙ ap length (seen_is f (bounded f o) y HavingRead live (takes_read f v (Some f) o live) list made (lent HavingRead) (told HavingRead) may seat found_so)
