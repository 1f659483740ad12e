-- A reading of the incumbent and a lowering of it keep the rule of the yard.
use Rattle.std.proofs.Common.{◌≡◌, ◌≢◌, ℕ, ◌==◌, ◌<◌, ◌≤◌, ◌||◌, min, cond, Bool, true, List, [], ◌∷◌, ◌++◌, map, length, set, Option, Some, None, refl, sym, ap, ◌∙◌, subst, arith, true≢false, ⊎_elim}
use Rattle.std.proofs.lemmas.List.{append-nil}
use Rattle.std.specs.List.{list_any}
use mathlib.Core.Option.{some}
use lib.ListN.{get_elem?}
use Rattle.atomic_table.proofs.Lists.{set_again}
use Rattle.pb_turn.specs.Obligations.{LoadKeeps, LowerKeeps, IsHeld, Stands, StandsAt}
use Rattle.pb_turn.proofs.Callers.{each_set, put_there, map_set}
use Rattle.pb_model.specs.Store.{lesser, AtMost, HasGoalWithin}
use Rattle.pb_model.proofs.Callers.{at_most_self, at_most_trans, lesser_at_most, by_cases, equal, equal_self}
use Rattle.pb_task.specs.Parts.{space_of, greatest_cost}
use Rattle.pb_task.specs.declared.parts.TaskParts.{TaskParts}
use Rattle.pb_machine.specs.Tables.{with_entry}
use Rattle.pb_machine.specs.Views as of_machine
use Rattle.pb_machine.specs.Views.{AreTrueOf}
use Rattle.pb_machine.specs.Machine.{Machine, IsWorked, HasWorked, Tells, tell_move, journal_of, with_known, with_incumbent}
use Rattle.pb_machine.proofs.Callers.{known_new, known_more, lesser_one, entry_here, entry_else, moves_keep_lawful, known_stays, runs_go_on, others_keep_whole}
use Rattle.pb_bundles.specs.Homes.{home_rows}
use Rattle.pb_abstract.specs.Graph.{AbstractGraph}
use Rattle.pb_estimate.specs.Choices.{Choice}
use Rattle.pb_lease.specs.LeaseValue.{LeaseValue, leased_store}
use Rattle.pb_lease.specs.Leased.{guide_of, grant_of, IsOut}
use Rattle.pb_lease.specs.GraphValue.{GraphValue, setup_in}
use Rattle.pb_lease.specs.Moments.{IsMomentAt}
use Rattle.pb_machine.specs.Room.{no_room, rooms_after}
use Rattle.pb_lease.specs.Begins.{begin_machine}
use Rattle.pb_lease.proofs.Callers.{worked_leases_are_out}
use Rattle.pb_yard.specs.declared.view.View.{View}
use Rattle.pb_yard.specs.Views.{cost_of, view_read, view_told}
use Rattle.pb_yard.specs.Rule.{rows_of, journal_view, is_cost, was_read, IsLent, IsViewOf, IsRecent, IsYard}
use Rattle.pb_yard.specs.Returning.{IsFound}
use Rattle.pb_yard.proofs.InTime.{rooms_on, settled_any, settled_on, settled_falls}
use Rattle.pb_yard.proofs.Parts.{at_journal, workers_differ, no_pass_before, unread_recent, leaver_same}
use Rattle.pb_yard.proofs.Clauses.{Fact}
use Rattle.pb_yard.proofs.Reading.{read_falls}

-- a view that has the same journal
same_journals : (x : GraphValue) (shared : Option ℕ) (views : List View) (seat : ℕ) (v new : View) → IsYard x shared views → get_elem? views seat ≡ some v → new.journal ≡ v.journal
    → AreTrueOf x.table.settings.workers x.table.journal (map journal_view (set views seat new))
same_journals x shared views seat v new h at same =
    subst (λ (l : List of_machine.View). AreTrueOf x.table.settings.workers x.table.journal l)
    (sym (map_set journal_view views seat new ∙ ap (set (map journal_view views) seat) same
    ∙ set_again (map journal_view views) seat v.journal (at_journal x.table.settings.workers x.table.journal views h.journals seat v at))) h.journals

-- ---- a reading

module _ (seat : ℕ) (v : View) (held : Option GraphValue) (live : v.journal.is_live ≡ true) (x : GraphValue) (number : ℕ) (views : List View) (h : Fact x number views) (at : get_elem? views seat ≡ some v) (is_held : IsHeld held x) where
  abbrev Read : View
  Read = view_read held v (cost_of number)

  mine : IsViewOf x h.machine h.lent v
  mine = h.each seat v at live

  known_all : (worker : ℕ) → h.machine.known worker (cost_of number) ≡ true
  known_all worker = subst (λ o. h.machine.known worker o ≡ true) h.shared_is (h.moment.lawful.is_known worker)

  now_read : (o : Option ℕ) → ((worker : ℕ) → h.machine.known worker o ≡ true) → (cost : ℕ) → list_any (is_cost cost) (o ∷ v.read) ≡ true → (worker : ℕ) → h.machine.known worker (Some cost) ≡ true
  now_read None all cost has worker = mine.known.read (Some cost) has worker
  now_read (Some new) all cost has worker = by_cases (new == cost)
      (λ e. subst (λ n. h.machine.known worker (Some n) ≡ true) (equal new cost e) (all worker))
      (λ e. mine.known.read (Some cost) (sym (ap (λ r. r || list_any (is_cost cost) v.read) e) ∙ has) worker)

  read_known : (incumbent : Option ℕ) → was_read Read incumbent ≡ true → (worker : ℕ) → h.machine.known worker incumbent ≡ true
  read_known None has worker = absurd (true≢false (sym has))
  read_known (Some cost) has worker = now_read (cost_of number) known_all cost has worker

  read_view : IsViewOf x h.machine h.lent Read
  read_view = record {
    lent = mine.lent;
    told = mine.told;
    search = record { task = mine.search.task; abstraction = mine.search.abstraction; choice = mine.search.choice; settings = mine.search.settings };
    known = record { read = read_known; last = known_all v.journal.own.worker };
    copy = λ lease is. at_most_trans (cost_of number) v.last lease.incumbent (read_falls x number views seat v h at live).1 (mine.copy lease is);
  }

  number_settled : AtMost (cost_of number) h.settled
  number_settled = subst (λ o. AtMost o h.settled) h.shared_is
      (settled_falls (setup_in x) h.keeps no_room h.moves (begin_machine h.begin) h.begin.incumbent h.machine h.settled (at_most_self h.begin.incumbent) h.run)

  read_recent : (o : Option GraphValue) → IsHeld o x → IsRecent x h.settled (view_read o v (cost_of number))
  read_recent None is = unread_recent x h.settled (view_read None v (cost_of number)) refl
  read_recent (Some g) is =
      let same : g ≡ x = is g refl in
      record {
        read_by = λ events e. by_length (length g.table.journal) (length x.table.journal) events (ap (λ (z : GraphValue). length z.table.journal) same) e;
        fresh = λ e. number_settled;
      }
    where
      by_length : (a b events : ℕ) → a ≡ b → Some a ≡ Some events → events ≤ b
      by_length a b events is e = let k = some_number a events e in omega (arith, is, k)
        where
          some_number : (a b : ℕ) → Some a ≡ Some b → a ≡ b
          some_number a b e = cc

  pub read_yard : Fact x number (set views seat Read)
  read_yard = record {
    is_setup = h.is_setup;
    in_range = h.in_range;
    begin = h.begin;
    begins = h.begins;
    of_run = h.of_run;
    moves = h.moves;
    machine = h.machine;
    lent = h.lent;
    settled = h.settled;
    keeps = h.keeps;
    run = h.run;
    leavers = λ worker none. leaver_same views seat v Read at live refl worker (h.leavers worker none);
    journal = h.journal;
    rooms_are = h.rooms_are;
    moment = h.moment;
    shared_is = h.shared_is;
    leases = h.leases;
    lent_is = h.lent_is;
    journals = same_journals x (cost_of number) views seat v Read h at refl;
    each = each_set (λ j u. u.journal.is_live ≡ true → IsViewOf x h.machine h.lent u) views seat Read (λ _. read_view) (λ j u apart e up. h.each j u e up);
    recent = each_set (λ j u. u.journal.is_live ≡ true → IsRecent x h.settled u) views seat Read (λ _. read_recent held is_held) (λ j u apart e up. h.recent j u e up);
    began = each_set (λ j u. u.journal.is_live ≡ true → u.begin ≡ h.begin) views seat Read (λ _. h.began seat v at live) (λ j u apart e up. h.began j u e up);
    others = λ worker none. h.others worker (no_pass_before worker views seat v Read at live live refl (put_there views seat v Read at) none);
  }

pub load_keeps : (seat : ℕ) (v : View) (held : Option GraphValue) → v.journal.is_live ≡ true → LoadKeeps Fact seat v held (λ number. view_read held v (cost_of number))
load_keeps seat v held live x number views h at is_held = read_yard seat v held live x number views h at is_held

-- what holds for a holder that has read, of the state that it has found
pub read_stands : (f : GraphValue) (v : View) (seat number : ℕ) → v.journal.is_live ≡ true → (x : GraphValue) → StandsAt Fact seat v x number → IsHeld (Some f) x
    → Stands Fact seat (view_read (Some f) v (cost_of number)) f × AtMost (cost_of number) v.last × AtMost (cost_of number) f.incumbent
read_stands f v seat number live x (views, h, at) is =
    let same : f ≡ x = is f refl in
    let falls = read_falls x number views seat v h at live in (
      (
        number,
        (
          set views seat (view_read (Some f) v (cost_of number)),
          subst (λ (z : GraphValue). Fact z number (set views seat (view_read (Some f) v (cost_of number)))) (sym same) (load_keeps seat v (Some f) live x number views h at is),
          put_there views seat v (view_read (Some f) v (cost_of number)) at,
        ),
      ),
      falls.1,
      subst (λ (z : GraphValue). AtMost (cost_of number) z.incumbent) (sym same) falls.0,
    )

-- ---- a lowering

-- a number that isn't the greatest says itself
pub number_cost : (n : ℕ) → n < 18446744073709551615 → cost_of n ≡ Some n
number_cost n less = by_cases (n == 18446744073709551615)
    (λ e. let is = equal n 18446744073709551615 e in absurd (omega (arith, is, less)))
    (λ e. ap (λ r. cond r None (Some n)) e)

-- the word is lowered as the incumbent is
pub cost_of_min : (number cost : ℕ) → cost < 18446744073709551615 → cost_of (min number cost) ≡ lesser (cost_of number) (Some cost)
cost_of_min number cost fits = by_cases (number == 18446744073709551615)
    (λ e. let is = equal number 18446744073709551615 e in let least : min number cost ≡ cost = omega (arith, is, fits) in
    ap cost_of least ∙ number_cost cost (omega (arith, fits)) ∙ ap (λ o. lesser o (Some cost)) (sym (ap (λ r. cond r None (Some number)) e)))
    (λ e. number_cost (min number cost) (omega (arith, fits)) ∙ ap (λ o. lesser o (Some cost)) (sym (ap (λ r. cond r None (Some number)) e)))

module _ (seat : ℕ) (v : View) (lease : LeaseValue) (cost : ℕ) (live : v.journal.is_live ≡ true) (fits : cost < 18446744073709551615) (b : IsFound v lease cost)
    (x : GraphValue) (number : ℕ) (views : List View) (h : Fact x number views) (at : get_elem? views seat ≡ some v) where
  abbrev Own : ℕ
  Own = v.journal.own.worker

  abbrev Told : View
  Told = view_told v cost

  abbrev Least : Option ℕ
  Least = lesser h.machine.store.incumbent (Some cost)

  abbrev Next : Machine
  Next = record {
    counts = h.machine.counts;
    store = record { rows = h.machine.store.rows; incumbent = lesser h.machine.store.incumbent (Some cost); weight = h.machine.store.weight };
    given = h.machine.given;
    told = with_entry h.machine.told Own (lesser (h.machine.told Own) (Some cost));
    known = with_incumbent (with_entry h.machine.known Own (with_known (h.machine.known Own) (Some cost))) (lesser h.machine.store.incumbent (Some cost));
    broken = h.machine.broken;
  }

  my_view : IsViewOf x h.machine h.lent v
  my_view = h.each seat v at live

  lent_own : h.lent Own ≡ Some b.lent
  lent_own = my_view.lent ∙ b.lent_is

  is_lent : IsLent x h.machine Own b.lent
  is_lent = h.lent_is Own b.lent lent_own

  is_own : lease.worker ≡ Own
  is_own = b.same.worker ∙ is_lent.worker_is

  abbrev FoundBy : TaskParts → AbstractGraph → Choice → Type 0
  FoundBy t a h = IsWorked (space_of t) (guide_of t a h) b.lent.block lease.used 1 (was_read v) (leased_store b.lent) (leased_store lease)
      × HasGoalWithin (space_of t) (guide_of t a h) (leased_store lease) cost

  found : FoundBy x.task x.table.abstraction x.choice
  found = subst (λ (t : TaskParts). FoundBy t x.table.abstraction x.choice) my_view.search.task
      (subst (λ (a : AbstractGraph). FoundBy v.task a x.choice) my_view.search.abstraction (subst (λ (h : Choice). FoundBy v.task v.abstraction h) my_view.search.choice (b.work, b.shown)))

  out : IsOut (setup_in x) h.machine 1 lease
  out = (worked_leases_are_out x (λ w. rows_of (h.lent w)) h.machine h.moment b.lent lease 1 (was_read v) is_lent.of_graph b.same
      (ap (λ k. rows_of (h.lent k)) is_lent.worker_is ∙ ap rows_of lent_own) (ap h.machine.given is_lent.worker_is ∙ is_lent.given)
      (λ incumbent has. my_view.known.read incumbent has b.lent.worker) found.0).0

  tells : Tells (setup_in x) h.machine Own cost Next
  tells = record {
    grant = grant_of lease;
    leased = ap h.machine.counts.leases (sym is_own) ∙ out.leased;
    used = lease.used;
    worked = leased_store lease;
    work = subst (λ w. HasWorked (setup_in x) h.machine w (grant_of lease) lease.used 1 (leased_store lease)) is_own out.work;
    shown = found.1;
    counts = refl;
    store = refl;
    given = refl;
    told = refl;
    known = refl;
    broken = refl;
  }

  known_on : (worker : ℕ) (incumbent : Option ℕ) → h.machine.known worker incumbent ≡ true → Next.known worker incumbent ≡ true
  known_on worker incumbent is = known_stays (setup_in x) (tell_move Own cost ∷ []) h.machine Next (Next, tells, refl) worker incumbent is

  known_cost : Next.known Own (Some cost) ≡ true
  known_cost = known_more (with_entry h.machine.known Own (with_known (h.machine.known Own) (Some cost)) Own) Least (Some cost)
      (ap (λ (k : Option ℕ → Bool). k (Some cost)) (entry_here h.machine.known Own Own (with_known (h.machine.known Own) (Some cost)) (equal_self Own)) ∙ known_new (h.machine.known Own) (Some cost))

  last_known : Next.known Own (lesser v.last (Some cost)) ≡ true
  last_known = ⊎_elim (λ (e : lesser v.last (Some cost) ≡ Some cost). subst (λ o. Next.known Own o ≡ true) (sym e) known_cost)
      (λ (e : lesser v.last (Some cost) ≡ v.last). subst (λ o. Next.known Own o ≡ true) (sym e) (known_on Own v.last my_view.known.last)) (lesser_one v.last cost)

  moment : IsMomentAt x (λ w. rows_of (h.lent w)) Next
  moment = record {
    lawful = moves_keep_lawful (setup_in x) greatest_cost (tell_move Own cost) h.machine Next h.is_setup h.moment.lawful tells;
    counts = h.moment.counts;
    whole = others_keep_whole (setup_in x) h.machine.counts h.machine.counts h.machine.store Next.store (home_rows x.homes) (λ w. rows_of (h.lent w)) refl refl h.moment.whole;
    keys = h.moment.keys;
    incumbent = λ worker. known_on worker x.incumbent (h.moment.incumbent worker);
  }

  told_view : IsViewOf x Next h.lent Told
  told_view = record {
    lent = my_view.lent;
    told = entry_here h.machine.told Own Own (lesser (h.machine.told Own) (Some cost)) (equal_self Own) ∙ ap (λ o. lesser o (Some cost)) my_view.told;
    search = record { task = my_view.search.task; abstraction = my_view.search.abstraction; choice = my_view.search.choice; settings = my_view.search.settings };
    known = record { read = λ incumbent has worker. known_on worker incumbent (my_view.known.read incumbent has worker); last = last_known };
    copy = λ other is. at_most_trans (lesser v.last (Some cost)) v.last other.incumbent (lesser_at_most v.last (Some cost)) (my_view.copy other is);
  }

  theirs : (other : ℕ) (u : View) → other ≢ seat → get_elem? views other ≡ some u → u.journal.is_live ≡ true → IsViewOf x Next h.lent u
  theirs other u apart there up =
      let e = workers_differ x.table.settings.workers x.table.journal views h.journals seat other v u at live there up apart in
      let is = h.each other u there up in
      record {
        lent = is.lent;
        told = entry_else h.machine.told Own u.journal.own.worker (lesser (h.machine.told Own) (Some cost)) e ∙ is.told;
        search = is.search;
        known = record { read = λ incumbent has worker. known_on worker incumbent (is.known.read incumbent has worker); last = known_on u.journal.own.worker u.last is.known.last };
        copy = is.copy;
      }

  pub told_yard : Fact x (min number cost) (set views seat Told)
  told_yard = record {
    is_setup = h.is_setup;
    in_range = h.in_range;
    begin = h.begin;
    begins = h.begins;
    of_run = h.of_run;
    moves = h.moves ++ tell_move Own cost ∷ [];
    machine = Next;
    lent = h.lent;
    settled = h.settled;
    keeps = h.keeps;
    run = settled_on (setup_in x) h.keeps no_room h.moves (tell_move Own cost ∷ []) (begin_machine h.begin) h.machine Next h.begin.incumbent h.settled h.settled h.run
        (settled_any (setup_in x) h.keeps (rooms_after no_room h.moves) (tell_move Own cost ∷ []) h.machine h.settled Next h.settled (Next, tells, tt, tt, tt, (refl, refl)));
    leavers = λ worker none. leaver_same views seat v Told at live refl worker (h.leavers worker none);
    journal = (runs_go_on (setup_in x) h.moves (tell_move Own cost ∷ []) (begin_machine h.begin) h.machine Next).2 ∙ append-nil (journal_of h.moves) ∙ h.journal;
    rooms_are = rooms_on no_room h.moves (tell_move Own cost ∷ []) ∙ h.rooms_are;
    moment = moment;
    shared_is = ap (λ o. lesser o (Some cost)) h.shared_is ∙ sym (cost_of_min number cost fits);
    leases = h.leases;
    lent_is = λ worker other is. let k = h.lent_is worker other is in record { worker_is = k.worker_is; of_graph = k.of_graph; unused = k.unused; given = k.given };
    journals = same_journals x (cost_of number) views seat v Told h at refl;
    each = each_set (λ j u. u.journal.is_live ≡ true → IsViewOf x Next h.lent u) views seat Told (λ _. told_view) theirs;
    recent = each_set (λ j u. u.journal.is_live ≡ true → IsRecent x h.settled u) views seat Told (λ _. unread_recent x h.settled Told refl) (λ j u apart e up. h.recent j u e up);
    began = each_set (λ j u. u.journal.is_live ≡ true → u.begin ≡ h.begin) views seat Told (λ _. h.began seat v at live) (λ j u apart e up. h.began j u e up);
    others = λ worker none. h.others worker (no_pass_before worker views seat v Told at live live refl (put_there views seat v Told at) none);
  }

pub lower_keeps : (seat : ℕ) (v : View) (lease : LeaseValue) (cost : ℕ) → v.journal.is_live ≡ true → cost < 18446744073709551615 → IsFound v lease cost → LowerKeeps Fact seat v cost (view_told v cost)
lower_keeps seat v lease cost live fits b x number views h at = told_yard seat v lease cost live fits b x number views h at
