-- Taking in a pass keeps all views true of the journal.
use Rattle.std.proofs.Common.{◌≡◌, ◌≢◌, ℕ, ◌+◌, ◌<◌, ◌≤◌, length, set, true, false, cond, ◌==◌, nat_lt, List, ◌∷◌, refl, sym, ap, ◌∙◌, subst, ◌⊎◌, inl, inr, arith, true≢false}
use mathlib.Core.Option.{some, some-injective}
use lib.ListN.{get_elem?}
use Rattle.std.proofs.lemmas.Bool.{ne_eqb, cond_both}
use Rattle.pb_model.proofs.Callers.{by_cases, not_both, equal, equal_self, below, not_below}
use Rattle.pb_machine.specs.declared.event.Event.{Event}
use Rattle.pb_machine.specs.History.{events_of, StartsWith}
use Rattle.pb_machine.specs.Views.{IsAmong, Share, View, IsShareOf, IsTrueOf, HasWorker, AreTrueOf, spent_view, longer, met_view}
use Rattle.pb_machine.specs.JournalLaws.{MeetingKeepsViews}
use Rattle.pb_machine.proofs.Places.{distinct_append, has_seat, among_one, covered_more, no_longer, all_seen, IsRight, among_left, among_right, set_else, set_here, at_set, all_of, all_append}

module _ (workers : ℕ) (journal : List Event) (views : List View) (seat other : ℕ) (view met : View) (h : AreTrueOf workers journal views)
    (at : get_elem? views seat ≡ some view) (live : view.is_live ≡ true) (apart : other ≢ seat) (there : get_elem? (set views seat (met_view view met)) other ≡ some met) (up : met.is_live ≡ true) where
  abbrev both : View
  both = met_view view met

  there' : get_elem? views other ≡ some met
  there' = sym (set_else views seat other both apart) ∙ there

  mine : IsTrueOf journal h.made h.seat_of seat view
  mine = h.each seat view at live

  theirs : IsTrueOf journal h.made h.seat_of other met
  theirs = h.each other met there' up

  abbrev seat_of : ℕ → ℕ
  seat_of worker = cond (h.seat_of worker == other) seat (h.seat_of worker)

  stays : (worker j : ℕ) → h.seat_of worker ≡ j → j ≢ other → seat_of worker ≡ j
  stays worker j is off = ap (λ r. cond r seat (h.seat_of worker)) (ne_eqb (h.seat_of worker) other (λ e. off (sym is ∙ e))) ∙ is

  moves : (worker : ℕ) → h.seat_of worker ≡ other → seat_of worker ≡ seat
  moves worker is = ap (λ r. cond r seat (h.seat_of worker)) (ap (λ k. k == other) is ∙ equal_self other)

  abbrev seen : List Event
  seen = longer view.seen met.seen

  -- what each of the two journals has if it is the longer, the longer one has
  of_longer : (P : List Event → Type 0) → (length view.seen < length met.seen → P met.seen) → (length met.seen ≤ length view.seen → P view.seen) → P seen
  of_longer P more less = cond_both (nat_lt (length view.seen) (length met.seen)) met.seen view.seen P
      (λ e. more (below (length view.seen) (length met.seen) e)) (λ e. less (not_below (length view.seen) (length met.seen) e))

  begins : StartsWith journal seen
  begins = of_longer (StartsWith journal) (λ more. theirs.seen) (λ less. mine.seen)

  mine_covered : (share : Share) → IsShareOf journal view.seen share → IsShareOf journal seen share
  mine_covered share is = record {
    told = is.told;
    covered = of_longer (λ events. events_of share.worker events ≡ share.events)
        (λ more. covered_more journal view.seen met.seen share.worker share.events mine.seen theirs.seen (omega (arith, more)) is.told is.covered)
        (λ less. is.covered);
  }

  theirs_covered : (share : Share) → IsShareOf journal met.seen share → IsShareOf journal seen share
  theirs_covered share is = record {
    told = is.told;
    covered = of_longer (λ events. events_of share.worker events ≡ share.events)
        (λ more. is.covered)
        (λ less. covered_more journal met.seen view.seen share.worker share.events theirs.seen mine.seen less is.told is.covered);
  }

  has_mine : (worker : ℕ) → HasWorker worker view → HasWorker worker both
  has_mine worker (inl is) = inl is
  has_mine worker (inr is) = inr (among_left worker view.taken_in (met.own ∷ met.taken_in) is)

  has_theirs : (worker : ℕ) → HasWorker worker met → HasWorker worker both
  has_theirs worker is = inr (among_right worker view.taken_in (met.own ∷ met.taken_in) is)

  in_one : (worker : ℕ) → HasWorker worker both → HasWorker worker view ⊎ HasWorker worker met
  in_one worker (inl is) = inl (inl is)
  in_one worker (inr is) = go (among_one worker view.taken_in (met.own ∷ met.taken_in) is)
    where
      go : (IsAmong worker view.taken_in ⊎ IsAmong worker (met.own ∷ met.taken_in)) → HasWorker worker view ⊎ HasWorker worker met
      go (inl is) = inl (inr is)
      go (inr is) = inr is

  seat_mine : (worker : ℕ) → HasWorker worker view → h.seat_of worker ≡ seat
  seat_mine worker has = has_seat journal view.seen h.made h.seat_of seat worker (view.own ∷ view.taken_in) mine.shares has

  seat_theirs : (worker : ℕ) → HasWorker worker met → h.seat_of worker ≡ other
  seat_theirs worker has = has_seat journal met.seen h.made h.seat_of other worker (met.own ∷ met.taken_in) theirs.shares has

  -- one of the two has worker 0's events, and so the count, and the other counts none
  counts : (HasWorker 0 view ⊎ HasWorker 0 met) → view.made + met.made ≡ h.made
  counts (inl has) =
      let here = mine.counts_passes has in
      let none = theirs.counts_none (λ too. apart (sym (seat_theirs 0 too) ∙ seat_mine 0 has)) in
      omega (arith, here, none)
  counts (inr has) =
      let their = theirs.counts_passes has in
      let none = mine.counts_none (λ too. apart (sym (seat_theirs 0 has) ∙ seat_mine 0 too)) in
      omega (arith, their, none)

  own : IsTrueOf journal h.made seat_of seat both
  own = record {
    seen = begins;
    shares = (
      (mine_covered view.own mine.shares.0.0, mine.shares.0.1, stays view.own.worker seat mine.shares.0.2 (λ e. apart (sym e))),
      all_append (IsRight journal seen h.made seat_of seat) view.taken_in (met.own ∷ met.taken_in)
          (all_of (IsRight journal view.seen h.made h.seat_of seat) (IsRight journal seen h.made seat_of seat)
          (λ share right. (mine_covered share right.0, right.1, stays share.worker seat right.2 (λ e. apart (sym e)))) view.taken_in mine.shares.1)
          (all_of (IsRight journal met.seen h.made h.seat_of other) (IsRight journal seen h.made seat_of seat)
          (λ share right. (theirs_covered share right.0, right.1, moves share.worker right.2)) (met.own ∷ met.taken_in) theirs.shares),
    );
    distinct = distinct_append journal view.seen met.seen h.made h.seat_of seat other (view.own ∷ view.taken_in) (met.own ∷ met.taken_in) apart mine.shares theirs.shares mine.distinct theirs.distinct;
    counts_passes = λ has. counts (in_one 0 has);
    counts_none = λ none. let here = mine.counts_none (λ has. none (has_mine 0 has)) in let their = theirs.counts_none (λ has. none (has_theirs 0 has)) in omega (arith, here, their);
  }

  others : (j : ℕ) (u : View) → j ≢ other → get_elem? views j ≡ some u → u.is_live ≡ true → IsTrueOf journal h.made seat_of j u
  others j u off e on =
      let is = h.each j u e on in
      record {
        seen = is.seen;
        shares = all_of (IsRight journal u.seen h.made h.seat_of j) (IsRight journal u.seen h.made seat_of j) (λ share right. (right.0, right.1, stays share.worker j right.2 off)) (u.own ∷ u.taken_in) is.shares;
        distinct = is.distinct;
        counts_passes = is.counts_passes;
        counts_none = is.counts_none;
      }

  by_set : (j : ℕ) (u : View) → j ≢ other → u.is_live ≡ true → ((j ≡ seat) × (both ≡ u)) ⊎ ((j ≢ seat) × (get_elem? views j ≡ some u)) → IsTrueOf journal h.made seat_of j u
  by_set j u off on (inl here) = subst (λ k. IsTrueOf journal h.made seat_of k u) (sym here.0) (subst (IsTrueOf journal h.made seat_of seat) here.1 own)
  by_set j u off on (inr e) = others j u off e.1 on

  by_spent : (j : ℕ) (u : View) → u.is_live ≡ true → ((j ≡ other) × (spent_view ≡ u)) ⊎ ((j ≢ other) × (get_elem? (set views seat both) j ≡ some u)) → IsTrueOf journal h.made seat_of j u
  by_spent j u on (inl spent) = absurd (true≢false (sym on ∙ ap (λ (v : View). v.is_live) (sym spent.1)))
  by_spent j u on (inr e) = by_set j u e.0 on (at_set views seat j both u e.1)

  is_live : both.is_live ≡ true
  is_live = live

  abbrev Found : ℕ → ℕ → Type 0
  Found worker j = (u : View) × (get_elem? (set (set views seat both) other spent_view) j ≡ some u) × (u.is_live ≡ true) × HasWorker worker u

  here : (worker : ℕ) → HasWorker worker both → Found worker seat
  here worker has = (both, set_else (set views seat both) other seat spent_view (λ e. apart (sym e)) ∙ set_here views seat view both at, is_live, has)

  found : (worker : ℕ) → ((u : View) × (get_elem? views (h.seat_of worker) ≡ some u) × (u.is_live ≡ true) × HasWorker worker u) → Found worker (seat_of worker)
  found worker (u, e, on, has) = by_cases (h.seat_of worker == other) moved unmoved
    where
      moved : (h.seat_of worker == other) ≡ true → Found worker (seat_of worker)
      moved same =
          let at_other : h.seat_of worker ≡ other = equal (h.seat_of worker) other same in
          let is : u ≡ met = some-injective u met (sym e ∙ ap (get_elem? views) at_other ∙ there') in
          subst (Found worker) (sym (moves worker at_other)) (here worker (has_theirs worker (subst (HasWorker worker) is has)))

      unmoved : (h.seat_of worker == other) ≡ false → Found worker (seat_of worker)
      unmoved differ =
          let off : h.seat_of worker ≢ other = λ p. not_both (h.seat_of worker == other) (ap (λ k. k == other) p ∙ equal_self other) differ in
          subst (Found worker) (sym (stays worker (h.seat_of worker) refl off)) (by_cases (h.seat_of worker == seat)
          (λ same. let at_seat : h.seat_of worker ≡ seat = equal (h.seat_of worker) seat same in
          let is : u ≡ view = some-injective u view (sym e ∙ ap (get_elem? views) at_seat ∙ at) in
          subst (Found worker) (sym at_seat) (here worker (has_mine worker (subst (HasWorker worker) is has))))
          (λ apart'. (
            u,
            set_else (set views seat both) other (h.seat_of worker) spent_view off
                ∙ set_else views seat (h.seat_of worker) both (λ p. not_both (h.seat_of worker == seat) (ap (λ k. k == seat) p ∙ equal_self seat) apart') ∙ e,
            on,
            has,
          )))

  -- the longer of two journals is the whole one where one of them is
  mine_whole : view.seen ≡ journal → seen ≡ journal
  mine_whole all = of_longer (λ events. events ≡ journal)
      (λ more. let no_more = no_longer journal met.seen theirs.seen in absurd (omega (arith, more, no_more, ap length all)))
      (λ less. all)

  theirs_whole : met.seen ≡ journal → seen ≡ journal
  theirs_whole all = of_longer (λ events. events ≡ journal)
      (λ more. all)
      (λ less. all_seen journal view.seen mine.seen (omega (arith, less, ap length all)))

  -- who has seen the whole journal is that view still, or one of the two, and then the taker has
  whole : ((j : ℕ) × (u : View) × (get_elem? views j ≡ some u) × (u.is_live ≡ true) × (u.seen ≡ journal))
      → (j : ℕ) × (u : View) × (get_elem? (set (set views seat both) other spent_view) j ≡ some u) × (u.is_live ≡ true) × (u.seen ≡ journal)
  whole (j, u, e, on, all) = by_cases (j == other)
      (λ same. at_seat (theirs_whole (ap (λ (v : View). v.seen) (some-injective met u (sym there' ∙ ap (get_elem? views) (sym (equal j other same)) ∙ e)) ∙ all)))
      (λ off. by_cases (j == seat)
      (λ same. at_seat (mine_whole (ap (λ (v : View). v.seen) (some-injective view u (sym at ∙ ap (get_elem? views) (sym (equal j seat same)) ∙ e)) ∙ all)))
      (λ differ. (
        j,
        u,
        set_else (set views seat both) other j spent_view (λ p. not_both (j == other) (ap (λ k. k == other) p ∙ equal_self other) off)
            ∙ set_else views seat j both (λ p. not_both (j == seat) (ap (λ k. k == seat) p ∙ equal_self seat) differ) ∙ e,
        on,
        all,
      )))
    where
      at_seat : seen ≡ journal → (j : ℕ) × (u : View) × (get_elem? (set (set views seat both) other spent_view) j ≡ some u) × (u.is_live ≡ true) × (u.seen ≡ journal)
      at_seat is = (seat, both, set_else (set views seat both) other seat spent_view (λ e. apart (sym e)) ∙ set_here views seat view both at, live, is)

  met_both : AreTrueOf workers journal (set (set views seat both) other spent_view)
  met_both = record {
    made = h.made;
    seat_of = seat_of;
    few = h.few;
    each = λ j u e on. by_spent j u on (at_set (set views seat both) other j spent_view u e);
    found = λ worker less. found worker (h.found worker less);
    unmade = h.unmade;
    whole = whole h.whole;
  }

pub meeting_keeps_views : MeetingKeepsViews
meeting_keeps_views workers journal views seat other view met h at live apart there up = met_both workers journal views seat other view met h at live apart there up
