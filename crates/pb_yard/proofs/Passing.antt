-- The first pass, passes that are split, and passes that meet keep the rule of the yard.
use Rattle.std.proofs.Common.{◌≡◌, ◌≢◌, ℕ, zero, suc, ◌==◌, ◌<◌, ◌≤◌, ◌||◌, true, false, List, [], ◌∷◌, ◌++◌, map, set, Option, Some, None, refl, sym, ap, ◌∙◌, subst, inl, true≢false, arith}
use Rattle.std.proofs.lemmas.Option.{none-some}
use Rattle.std.proofs.lemmas.List.Folds.{list_any-append}
use Rattle.std.proofs.Math.Bool.{or-true}
use mathlib.Core.Option.{some, some-injective, some-ne-none}
use lib.ListN.{get_elem?}
use Rattle.atomic_table.proofs.Lists.{set_again, set_else, at_longer, at_map}
use Rattle.pb_turn.specs.Obligations.{LeaveKeeps, SplitKeeps, MeetKeeps}
use Rattle.pb_turn.proofs.Callers.{each_set, each_snoc, put_there, map_set, map_snoc}
use Rattle.pb_model.proofs.Callers.{by_cases, equal, equal_self, not_both}
use Rattle.pb_machine.specs.declared.event.Event.{Event}
use Rattle.pb_machine.specs.declared.settings.Settings.{Settings}
use Rattle.pb_machine.specs.Room.{no_room, room_after}
use Rattle.pb_machine.specs.Views as of_machine
use Rattle.pb_machine.specs.Views.{AreTrueOf, first_view, spent_view, next_view}
use Rattle.pb_machine.proofs.Callers.{first_views_are_true, splitting_keeps_views, meeting_keeps_views, known_stays}
use Rattle.pb_lease.specs.Tables.{rooms}
use Rattle.pb_lease.specs.GraphValue.{GraphValue, setup_in, IsLeaseGraph}
use Rattle.pb_lease.specs.Begins.{begin_machine, IsBegin}
use Rattle.pb_lease.proofs.Callers.{setup_is}
use Rattle.pb_yard.specs.declared.view.View.{View}
use Rattle.pb_yard.specs.Views.{cost_of, opening_view, split_view, next_pass_view, met_pass_view, spent_pass_view, has_left, view_leaving_order}
use Rattle.pb_yard.specs.Order.{all_keep}
use Rattle.pb_yard.specs.Rule.{rows_of, grant_in, journal_view, was_read, IsViewOf, IsRecent, HasNoPass, HasLeaver, IsYard}
use Rattle.pb_yard.proofs.Parts.{at_journal, below_made, no_pass_before, unread_recent, leaver_stays, leaver_same}
use Rattle.pb_yard.proofs.Meaning.{runs}

-- where no event has come there is no room
pub begins_without_room : (g : GraphValue) → ((worker : ℕ) → rooms g.table worker ≤ room_after g.table.journal worker) → g.table.journal ≡ [] → rooms g.table ≡ no_room
begins_without_room g most empty = λ i worker. none worker i
  where
    none : (worker : ℕ) → rooms g.table worker ≡ 0
    none worker = let least = most worker in let same : room_after g.table.journal worker ≡ 0 = ap (λ (j : List Event). room_after j worker) empty in omega (arith, least, same)

-- ---- the first pass

pub opens : (g : GraphValue) (shared : Option ℕ) → IsLeaseGraph g → ((worker : ℕ) → rooms g.table worker ≤ room_after g.table.journal worker) → IsBegin g → shared ≡ g.incumbent → IsYard g shared (opening_view g ∷ [])
opens g shared k most o is = record {
  is_setup = setup_is g k;
  in_range = k.legal.range;
  begin = g;
  begins = o;
  of_run = record { task = refl; abstraction = refl; choice = refl; settings = refl; past = refl };
  moves = [];
  machine = begin_machine g;
  lent = λ worker. None;
  settled = g.incumbent;
  keeps = all_keep;
  run = (refl, refl);
  leavers = λ worker none. absurd (true≢false none);
  journal = sym o.empty;
  rooms_are = sym (begins_without_room g most o.empty);
  moment = (o.moment (λ worker. rows_of None)).at;
  shared_is = sym is;
  leases = λ worker. refl;
  lent_is = λ worker lease is. absurd (none-some lease is);
  journals = subst (λ (j : List Event). AreTrueOf g.table.settings.workers j (first_view ∷ [])) (sym o.empty) (first_views_are_true g.table.settings.workers k.legal.range.workers.0);
  each = one;
  recent = recent;
  began = began;
  others = λ worker none. refl;
}
  where
    one : (seat : ℕ) (view : View) → get_elem? (opening_view g ∷ []) seat ≡ some view → view.journal.is_live ≡ true → IsViewOf g (begin_machine g) (λ worker. None) view
    one zero view e up = subst (IsViewOf g (begin_machine g) (λ worker. None)) (some-injective (opening_view g) view e) record {
      lent = refl;
      told = refl;
      search = record { task = refl; abstraction = refl; choice = refl; settings = refl };
      known = record { read = λ incumbent has. unread incumbent has; last = (o.moment (λ worker. rows_of None)).at.incumbent 0 };
      copy = λ lease is. absurd (none-some lease is);
    }
      where
        unread : (incumbent : Option ℕ) → was_read (opening_view g) incumbent ≡ true → (worker : ℕ) → (begin_machine g).known worker incumbent ≡ true
        unread None has worker = absurd (true≢false (sym has))
        unread (Some cost) has worker = absurd (true≢false (sym has))
    one (suc seat) view e up = absurd (some-ne-none view (sym e))

    recent : (seat : ℕ) (view : View) → get_elem? (opening_view g ∷ []) seat ≡ some view → view.journal.is_live ≡ true → IsRecent g g.incumbent view
    recent zero view e up = subst (IsRecent g g.incumbent) (some-injective (opening_view g) view e) (unread_recent g g.incumbent (opening_view g) refl)
    recent (suc seat) view e up = absurd (some-ne-none view (sym e))

    began : (seat : ℕ) (view : View) → get_elem? (opening_view g ∷ []) seat ≡ some view → view.journal.is_live ≡ true → view.begin ≡ g
    began zero view e up = ap (λ (u : View). u.begin) (sym (some-injective (opening_view g) view e))
    began (suc seat) view e up = absurd (some-ne-none view (sym e))

-- ---- a pass that is split

module _ (x : GraphValue) (shared : Option ℕ) (views : List View) (seat : ℕ) (v : View) (h : IsYard x shared views) (at : get_elem? views seat ≡ some v) (live : v.journal.is_live ≡ true)
    (first : v.journal.own.worker ≡ 0) (more : v.journal.made < x.table.settings.workers) where
  abbrev Kept : View
  Kept = split_view v

  abbrev New : View
  New = next_pass_view v

  abbrev Both : List View
  Both = set views seat Kept ++ New ∷ []

  here : get_elem? (set views seat Kept) seat ≡ some Kept
  here = put_there views seat v Kept at

  made_is : v.journal.made ≡ h.journals.made
  made_is = (h.journals.each seat v.journal (at_journal x.table.settings.workers x.table.journal views h.journals seat v at) live).counts_passes (inl first)

  -- nobody has the new pass's number yet
  no_pass : HasNoPass v.journal.made views
  no_pass other u there up = by_cases (u.journal.own.worker == v.journal.made)
      (λ e. let lt = below_made x.table.settings.workers x.table.journal views h.journals other u there up in let is = equal u.journal.own.worker v.journal.made e in absurd (omega (arith, lt, is, made_is)))
      (λ e. e)

  free : h.lent v.journal.made ≡ None
  free = h.others v.journal.made no_pass

  untold : h.machine.told v.journal.made ≡ None
  untold = go (h.machine.told v.journal.made) refl
    where
      go : (o : Option ℕ) → h.machine.told v.journal.made ≡ o → o ≡ None
      go None is = refl
      go (Some cost) is =
          let t = (h.moment.lawful.teller v.journal.made cost is).0 in
          let bad : None ≡ Some t.0 = sym (h.leases v.journal.made ∙ ap grant_in free) ∙ t.1 in absurd cc

  -- the incumbent that the yard began with is known to all
  known_first : (worker : ℕ) → h.machine.known worker v.begin.incumbent ≡ true
  known_first worker = subst (λ (g : GraphValue). h.machine.known worker g.incumbent ≡ true) (sym (h.began seat v at live))
      (known_stays (setup_in x) h.moves (begin_machine h.begin) h.machine (runs x shared views h) worker h.begin.incumbent ((h.begins.moment (λ other. rows_of None)).at.incumbent worker))

  journals : AreTrueOf x.table.settings.workers x.table.journal (map journal_view Both)
  journals = subst (λ (l : List of_machine.View). AreTrueOf x.table.settings.workers x.table.journal l)
      (sym (map_snoc journal_view (set views seat Kept) New ∙ ap (λ (l : List of_machine.View). l ++ next_view v.journal ∷ []) (map_set journal_view views seat Kept)))
      (splitting_keeps_views x.table.settings.workers x.table.journal (map journal_view views) seat v.journal h.journals
      (at_journal x.table.settings.workers x.table.journal views h.journals seat v at) live first more)

  kept : IsViewOf x h.machine h.lent Kept
  kept = let m = h.each seat v at live in record {
    lent = m.lent;
    told = m.told;
    search = record { task = m.search.task; abstraction = m.search.abstraction; choice = m.search.choice; settings = m.search.settings };
    known = record { read = m.known.read; last = m.known.last };
    copy = m.copy;
  }

  kept_recent : IsRecent x h.settled Kept
  kept_recent = let r = h.recent seat v at live in record { read_by = r.read_by; fresh = r.fresh }

  given : IsViewOf x h.machine h.lent New
  given = let m = h.each seat v at live in record {
    lent = free;
    told = untold;
    search = record { task = m.search.task; abstraction = m.search.abstraction; choice = m.search.choice; settings = m.search.settings };
    known = record { read = λ incumbent has. unread incumbent has; last = known_first v.journal.made };
    copy = λ lease is. absurd (none-some lease is);
  }
    where
      unread : (incumbent : Option ℕ) → was_read New incumbent ≡ true → (worker : ℕ) → h.machine.known worker incumbent ≡ true
      unread None has worker = absurd (true≢false (sym has))
      unread (Some cost) has worker = absurd (true≢false (sym has))

  pub split_yard : IsYard x shared Both
  split_yard = record {
    is_setup = h.is_setup;
    in_range = h.in_range;
    begin = h.begin;
    begins = h.begins;
    of_run = h.of_run;
    moves = h.moves;
    machine = h.machine;
    lent = h.lent;
    settled = h.settled;
    keeps = h.keeps;
    run = h.run;
    leavers = λ worker none. let k = leaver_same views seat v Kept at live refl worker (h.leavers worker none) in (k.0, k.1, at_longer (set views seat Kept) (New ∷ []) k.0 k.1 k.2, k.3, k.4);
    journal = h.journal;
    rooms_are = h.rooms_are;
    moment = h.moment;
    shared_is = h.shared_is;
    leases = h.leases;
    lent_is = h.lent_is;
    journals = journals;
    each = each_snoc (λ j u. u.journal.is_live ≡ true → IsViewOf x h.machine h.lent u) (set views seat Kept) New (λ _ _. given)
        (each_set (λ j u. u.journal.is_live ≡ true → IsViewOf x h.machine h.lent u) views seat Kept (λ _. kept) (λ j u apart e up. h.each j u e up));
    recent = each_snoc (λ j u. u.journal.is_live ≡ true → IsRecent x h.settled u) (set views seat Kept) New (λ _ _. unread_recent x h.settled New refl)
        (each_set (λ j u. u.journal.is_live ≡ true → IsRecent x h.settled u) views seat Kept (λ _. kept_recent) (λ j u apart e up. h.recent j u e up));
    began = each_snoc (λ j u. u.journal.is_live ≡ true → u.begin ≡ h.begin) (set views seat Kept) New (λ _ _. h.began seat v at live)
        (each_set (λ j u. u.journal.is_live ≡ true → u.begin ≡ h.begin) views seat Kept (λ _. h.began seat v at live) (λ j u apart e up. h.began j u e up));
    others = λ worker none. h.others worker (no_pass_before worker views seat v Kept at live live refl here
        (λ j u e up. none j u (at_longer (set views seat Kept) (New ∷ []) j u e) up));
  }

pub split_keeps : (seat : ℕ) (v : View) → v.journal.is_live ≡ true → v.journal.own.worker ≡ 0 → v.journal.made < v.settings.workers
    → SplitKeeps (λ (g : GraphValue) (number : ℕ) (views : List View). IsYard g (cost_of number) views) seat v (split_view v) (next_pass_view v)
split_keeps seat v live first more x number views h at = split_yard x (cost_of number) views seat v h at live first
    (subst (λ (t : Settings). v.journal.made < t.workers) (h.each seat v at live).search.settings more)

-- ---- passes that meet

module _ (x : GraphValue) (shared : Option ℕ) (views : List View) (seat : ℕ) (v : View) (other : ℕ) (w : View) (h : IsYard x shared views) (at : get_elem? views seat ≡ some v) (live : v.journal.is_live ≡ true)
    (apart : other ≢ seat) (at_other : get_elem? views other ≡ some w) (up : w.journal.is_live ≡ true) (free : w.lent ≡ None) where
  abbrev Met : View
  Met = met_pass_view v w

  abbrev Taken : List View
  Taken = set views seat Met

  abbrev Left : List View
  Left = set Taken other spent_pass_view

  there : get_elem? Taken other ≡ some w
  there = set_else views seat other Met apart ∙ at_other

  met_here : get_elem? Left seat ≡ some Met
  met_here = set_else Taken other seat spent_pass_view (λ e. apart (sym e)) ∙ put_there views seat v Met at

  met_journals : AreTrueOf x.table.settings.workers x.table.journal (map journal_view Left)
  met_journals = subst (λ (l : List of_machine.View). AreTrueOf x.table.settings.workers x.table.journal l)
      (sym (map_set journal_view Taken other spent_pass_view ∙ ap (λ (l : List of_machine.View). set l other spent_view) (map_set journal_view views seat Met)))
      (meeting_keeps_views x.table.settings.workers x.table.journal (map journal_view views) seat other v.journal w.journal h.journals
      (at_journal x.table.settings.workers x.table.journal views h.journals seat v at) live apart
      (subst (λ (l : List of_machine.View). get_elem? l other ≡ some w.journal) (map_set journal_view views seat Met) (at_map journal_view Taken other w there)) up)

  met : IsViewOf x h.machine h.lent Met
  met = let m = h.each seat v at live in record {
    lent = m.lent;
    told = m.told;
    search = record { task = m.search.task; abstraction = m.search.abstraction; choice = m.search.choice; settings = m.search.settings };
    known = record { read = m.known.read; last = m.known.last };
    copy = m.copy;
  }

  met_recent : IsRecent x h.settled Met
  met_recent = let r = h.recent seat v at live in record { read_by = r.read_by; fresh = r.fresh }

  differ : (i j : ℕ) → (i == j) ≡ false → i ≢ j
  differ i j e p = not_both (i == j) (ap (λ k. k == j) p ∙ equal_self j) e

  none_left : (worker : ℕ) → HasNoPass worker Left → h.lent worker ≡ None
  none_left worker none = by_cases (w.journal.own.worker == worker)
      (λ e. ap h.lent (sym (equal w.journal.own.worker worker e)) ∙ (h.each other w at_other up).lent ∙ free)
      (λ e. h.others worker (λ j u is on. by_cases (j == other)
      (λ same. let q : w ≡ u = some-injective w u (sym at_other ∙ ap (get_elem? views) (sym (equal j other same)) ∙ is) in ap (λ (z : View). z.journal.own.worker == worker) (sym q) ∙ e)
      (λ far. by_cases (j == seat)
      (λ same. let q : v ≡ u = some-injective v u (sym at ∙ ap (get_elem? views) (sym (equal j seat same)) ∙ is) in ap (λ (z : View). z.journal.own.worker == worker) (sym q) ∙ none seat Met met_here live)
      (λ off. none j u (set_else Taken other j spent_pass_view (differ j other far) ∙ set_else views seat j Met (differ j seat off) ∙ is) on))))

  -- who left the order by the one view or the other did so by the view of both
  left_first : (worker : ℕ) → has_left v worker ≡ true → has_left Met worker ≡ true
  left_first worker has = list_any-append (λ one. one == worker) v.left_order w.left_order ∙ ap (λ r. r || has_left w worker) has

  left_other : (worker : ℕ) → has_left w worker ≡ true → has_left Met worker ≡ true
  left_other worker has = list_any-append (λ one. one == worker) v.left_order w.left_order ∙ ap (λ r. has_left v worker || r) has ∙ or-true (has_left v worker)

  left : (worker : ℕ) → h.keeps worker ≡ false → HasLeaver worker Left
  left worker none = go (leaver_stays views seat v Met at live left_first worker (h.leavers worker none))
    where
      go : HasLeaver worker Taken → HasLeaver worker Left
      go (j, u, is, on, has) = by_cases (j == other)
          (λ same. let q : w ≡ u = some-injective w u (sym there ∙ ap (get_elem? Taken) (sym (equal j other same)) ∙ is) in
          (seat, Met, met_here, live, left_other worker (subst (λ (z : View). has_left z worker ≡ true) (sym q) has)))
          (λ far. (j, u, set_else Taken other j spent_pass_view (differ j other far) ∙ is, on, has))

  pub met_yard : IsYard x shared Left
  met_yard = record {
    is_setup = h.is_setup;
    in_range = h.in_range;
    begin = h.begin;
    begins = h.begins;
    of_run = h.of_run;
    moves = h.moves;
    machine = h.machine;
    lent = h.lent;
    settled = h.settled;
    keeps = h.keeps;
    run = h.run;
    leavers = left;
    journal = h.journal;
    rooms_are = h.rooms_are;
    moment = h.moment;
    shared_is = h.shared_is;
    leases = h.leases;
    lent_is = h.lent_is;
    journals = met_journals;
    each = each_set (λ j u. u.journal.is_live ≡ true → IsViewOf x h.machine h.lent u) Taken other spent_pass_view (λ on. absurd (true≢false (sym on)))
        (λ j u far e on. each_set (λ k z. z.journal.is_live ≡ true → IsViewOf x h.machine h.lent z) views seat Met (λ _. met) (λ k z off q. h.each k z q) j u e on);
    recent = each_set (λ j u. u.journal.is_live ≡ true → IsRecent x h.settled u) Taken other spent_pass_view (λ on. absurd (true≢false (sym on)))
        (λ j u far e on. each_set (λ k z. z.journal.is_live ≡ true → IsRecent x h.settled z) views seat Met (λ _. met_recent) (λ k z off q. h.recent k z q) j u e on);
    began = each_set (λ j u. u.journal.is_live ≡ true → u.begin ≡ h.begin) Taken other spent_pass_view (λ on. absurd (true≢false (sym on)))
        (λ j u far e on. each_set (λ k z. z.journal.is_live ≡ true → z.begin ≡ h.begin) views seat Met (λ _. h.began seat v at live) (λ k z off q. h.began k z q) j u e on);
    others = none_left;
  }

pub meet_keeps : (seat : ℕ) (v : View) (other : ℕ) (w : View) → v.journal.is_live ≡ true → w.journal.is_live ≡ true → w.lent ≡ None
    → MeetKeeps (λ (g : GraphValue) (number : ℕ) (views : List View). IsYard g (cost_of number) views) seat v other w (met_pass_view v w) spent_pass_view
meet_keeps seat v other w live up free x number views h at apart there =
    met_yard x (cost_of number) views seat v other w h at live apart (sym (set_else views seat other (met_pass_view v w) apart) ∙ there) up free

-- ---- a pass whose worker leaves the order

module _ (x : GraphValue) (shared : Option ℕ) (views : List View) (seat : ℕ) (v : View) (h : IsYard x shared views) (at : get_elem? views seat ≡ some v) (live : v.journal.is_live ≡ true) where
  abbrev Leaving : View
  Leaving = view_leaving_order v

  leaving_journals : AreTrueOf x.table.settings.workers x.table.journal (map journal_view (set views seat Leaving))
  leaving_journals = subst (λ (l : List of_machine.View). AreTrueOf x.table.settings.workers x.table.journal l)
      (sym (map_set journal_view views seat Leaving
      ∙ set_again (map journal_view views) seat v.journal (at_journal x.table.settings.workers x.table.journal views h.journals seat v at))) h.journals

  leaving : IsViewOf x h.machine h.lent Leaving
  leaving = let m = h.each seat v at live in record {
    lent = m.lent;
    told = m.told;
    search = record { task = m.search.task; abstraction = m.search.abstraction; choice = m.search.choice; settings = m.search.settings };
    known = record { read = m.known.read; last = m.known.last };
    copy = m.copy;
  }

  leaving_recent : IsRecent x h.settled Leaving
  leaving_recent = let r = h.recent seat v at live in record { read_by = r.read_by; fresh = r.fresh }

  pub leaving_yard : IsYard x shared (set views seat Leaving)
  leaving_yard = record {
    is_setup = h.is_setup;
    in_range = h.in_range;
    begin = h.begin;
    begins = h.begins;
    of_run = h.of_run;
    moves = h.moves;
    machine = h.machine;
    lent = h.lent;
    settled = h.settled;
    keeps = h.keeps;
    run = h.run;
    leavers = λ worker none. leaver_stays views seat v Leaving at live (λ other has. ap (λ r. (v.journal.own.worker == other) || r) has ∙ or-true (v.journal.own.worker == other)) worker (h.leavers worker none);
    journal = h.journal;
    rooms_are = h.rooms_are;
    moment = h.moment;
    shared_is = h.shared_is;
    leases = h.leases;
    lent_is = h.lent_is;
    journals = leaving_journals;
    each = each_set (λ j u. u.journal.is_live ≡ true → IsViewOf x h.machine h.lent u) views seat Leaving (λ _. leaving) (λ j u apart e up. h.each j u e up);
    recent = each_set (λ j u. u.journal.is_live ≡ true → IsRecent x h.settled u) views seat Leaving (λ _. leaving_recent) (λ j u apart e up. h.recent j u e up);
    began = each_set (λ j u. u.journal.is_live ≡ true → u.begin ≡ h.begin) views seat Leaving (λ _. h.began seat v at live) (λ j u apart e up. h.began j u e up);
    others = λ worker none. h.others worker (no_pass_before worker views seat v Leaving at live live refl (put_there views seat v Leaving at) none);
  }

-- the graph stays, and only the pass's own view changes
pub leaving_keeps : (seat : ℕ) (v : View) (f y : GraphValue) → v.journal.is_live ≡ true → y ≡ f → (entered : View) → entered ≡ v
    → LeaveKeeps (λ (g : GraphValue) (number : ℕ) (views : List View). IsYard g (cost_of number) views) seat entered f y (view_leaving_order entered)
leaving_keeps seat v f y live same entered is number views h at =
    subst (λ (z : GraphValue). IsYard z (cost_of number) (set views seat (view_leaving_order entered))) (sym same)
    (leaving_yard f (cost_of number) views seat entered h at (ap (λ (u : View). u.journal.is_live) is ∙ live))
