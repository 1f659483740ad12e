-- Splitting a pass keeps all views true of the journal.
use Rattle.std.proofs.Common.{◌≡◌, ◌≢◌, ℕ, ◌+◌, ◌<◌, length, set, true, false, cond, ◌==◌, List, [], ◌∷◌, ◌++◌, refl, sym, ap, ◌∙◌, subst, ◌⊎◌, inl, inr, arith, length-set}
use Rattle.std.specs.List.{AllByRecursion}
use Rattle.std.proofs.lemmas.Bool.{ne_eqb}
use Rattle.std.proofs.lemmas.Bool.Decides.{nat_tests}
use mathlib.Core.Option.{some, some-injective}
use lib.ListN.{get_elem?}
use Rattle.pb_model.proofs.Callers.{by_cases, not_both, equal, equal_self}
use Rattle.pb_machine.specs.declared.event.Event.{Event}
use Rattle.pb_machine.specs.History.{events_of}
use Rattle.pb_machine.specs.Views.{Share, View, IsTrueOf, HasWorker, AreTrueOf, with_one_more, next_view}
use Rattle.pb_machine.specs.JournalLaws.{SplittingKeepsViews}
use Rattle.pb_machine.proofs.Places.{has_seat, none_covered, IsRight, set_else, set_here, at_set, at_longer, at_last, at_end, all_of}

module _ (workers : ℕ) (journal : List Event) (views : List View) (seat : ℕ) (view : View) (h : AreTrueOf workers journal views)
    (at : get_elem? views seat ≡ some view) (live : view.is_live ≡ true) (first : view.own.worker ≡ 0) (more : view.made < workers) where
  abbrev old : View
  old = with_one_more view

  abbrev next : View
  next = next_view view

  mine : IsTrueOf journal h.made h.seat_of seat view
  mine = h.each seat view at live

  counted : view.made ≡ h.made
  counted = mine.counts_passes (inl first)

  abbrev seat_of : ℕ → ℕ
  seat_of worker = cond (worker == h.made) (length views) (h.seat_of worker)

  before : (worker : ℕ) → worker < h.made + 1 → (worker == h.made) ≡ false → worker < h.made
  before worker less differ = grind (arith, nat_tests)

  kept : (worker : ℕ) → worker < h.made → seat_of worker ≡ h.seat_of worker
  kept worker less = ap (λ r. cond r (length views) (h.seat_of worker)) (ne_eqb worker h.made (λ e. omega (arith, e, less)))

  new_seat : (worker : ℕ) → worker ≡ h.made → seat_of worker ≡ length views
  new_seat worker e = ap (λ r. cond r (length views) (h.seat_of worker)) (ap (λ k. k == h.made) e ∙ equal_self h.made)

  shares_still : (seen : List Event) (j : ℕ) (shares : List Share) → AllByRecursion (IsRight journal seen h.made h.seat_of j) shares → AllByRecursion (IsRight journal seen (h.made + 1) seat_of j) shares
  shares_still seen j shares all =
      all_of (IsRight journal seen h.made h.seat_of j) (IsRight journal seen (h.made + 1) seat_of j)
      (λ share right. (right.0, (let less = right.1 in omega (arith, less)), kept share.worker right.1 ∙ right.2)) shares all

  own : IsTrueOf journal (h.made + 1) seat_of seat old
  own = record { seen = mine.seen; shares = shares_still view.seen seat (view.own ∷ view.taken_in) mine.shares; distinct = mine.distinct; counts_passes = λ is. ap (λ n. n + 1) counted; counts_none = λ none. absurd (none (inl first)) }

  -- the new pass is not worker 0's
  not_first : HasWorker 0 next → ⊥
  not_first (inl is) = let less = mine.shares.0.1 in absurd (omega (arith, less, counted, is))
  not_first (inr none) = none

  theirs : IsTrueOf journal (h.made + 1) seat_of (length views) next
  theirs =
      let none : events_of view.made journal ≡ [] = h.unmade view.made (omega (arith, counted)) in
      record {
        seen = mine.seen;
        shares = ((record { told = none; covered = none_covered journal view.seen view.made mine.seen none }, omega (arith, counted), new_seat view.made counted), tt);
        distinct = (tt, tt);
        counts_passes = λ has. absurd (not_first has);
        counts_none = λ none. refl;
      }

  others : (j : ℕ) (u : View) → j ≢ seat → get_elem? views j ≡ some u → u.is_live ≡ true → IsTrueOf journal (h.made + 1) seat_of j u
  others j u apart e up =
      let is = h.each j u e up in
      record {
        seen = is.seen;
        shares = shares_still u.seen j (u.own ∷ u.taken_in) is.shares;
        distinct = is.distinct;
        counts_passes = λ has. absurd (apart (sym (has_seat journal u.seen h.made h.seat_of j 0 (u.own ∷ u.taken_in) is.shares has) ∙ ap h.seat_of (sym first) ∙ mine.shares.0.2));
        counts_none = is.counts_none;
      }

  by_set : (j : ℕ) (u : View) → u.is_live ≡ true → ((j ≡ seat) × (old ≡ u)) ⊎ ((j ≢ seat) × (get_elem? views j ≡ some u)) → IsTrueOf journal (h.made + 1) seat_of j u
  by_set j u up (inl here) = subst (λ k. IsTrueOf journal (h.made + 1) seat_of k u) (sym here.0) (subst (IsTrueOf journal (h.made + 1) seat_of seat) here.1 own)
  by_set j u up (inr there) = others j u there.0 there.1 up

  by_end : (j : ℕ) (u : View) → u.is_live ≡ true → (get_elem? (set views seat old) j ≡ some u) ⊎ ((j ≡ length (set views seat old)) × (next ≡ u)) → IsTrueOf journal (h.made + 1) seat_of j u
  by_end j u up (inl e) = by_set j u up (at_set views seat j old u e)
  by_end j u up (inr e) =
      subst (λ k. IsTrueOf journal (h.made + 1) seat_of k u) (sym (e.0 ∙ length-set views seat old)) (subst (IsTrueOf journal (h.made + 1) seat_of (length views)) e.1 theirs)

  last : (worker : ℕ) → worker ≡ h.made → (u : View) × (get_elem? (set views seat old ++ next ∷ []) (seat_of worker) ≡ some u) × (u.is_live ≡ true) × HasWorker worker u
  last worker e = (
    next,
    subst (λ k. get_elem? (set views seat old ++ next ∷ []) k ≡ some next) (sym (new_seat worker e)) (at_last (set views seat old) next (length views) (length-set views seat old)),
    refl,
    inl (counted ∙ sym e),
  )

  found : (worker : ℕ) → worker < h.made → ((u : View) × (get_elem? views (h.seat_of worker) ≡ some u) × (u.is_live ≡ true) × HasWorker worker u)
      → (u : View) × (get_elem? (set views seat old ++ next ∷ []) (seat_of worker) ≡ some u) × (u.is_live ≡ true) × HasWorker worker u
  found worker less (u, e, up, has) =
      subst (λ k. (u : View) × (get_elem? (set views seat old ++ next ∷ []) k ≡ some u) × (u.is_live ≡ true) × HasWorker worker u) (sym (kept worker less)) (by_cases (h.seat_of worker == seat) here there)
    where
      has_old : HasWorker worker view → HasWorker worker old
      has_old (inl is) = inl is
      has_old (inr is) = inr is

      is_live : old.is_live ≡ true
      is_live = live

      here : (h.seat_of worker == seat) ≡ true → (u : View) × (get_elem? (set views seat old ++ next ∷ []) (h.seat_of worker) ≡ some u) × (u.is_live ≡ true) × HasWorker worker u
      here same =
          let e' : h.seat_of worker ≡ seat = equal (h.seat_of worker) seat same in
          let is : u ≡ view = some-injective u view (sym e ∙ ap (get_elem? views) e' ∙ at) in (
            old,
            at_longer (set views seat old) (next ∷ []) (h.seat_of worker) old (subst (λ k. get_elem? (set views seat old) k ≡ some old) (sym e') (set_here views seat view old at)),
            is_live,
            has_old (subst (HasWorker worker) is has),
          )

      there : (h.seat_of worker == seat) ≡ false → (u : View) × (get_elem? (set views seat old ++ next ∷ []) (h.seat_of worker) ≡ some u) × (u.is_live ≡ true) × HasWorker worker u
      there differ = (
        u,
        at_longer (set views seat old) (next ∷ []) (h.seat_of worker) u (set_else views seat (h.seat_of worker) old (λ p. not_both (h.seat_of worker == seat) (ap (λ k. k == seat) p ∙ equal_self seat) differ) ∙ e),
        up,
        has,
      )

  -- who has seen the whole journal is that view still, or the one that was split, which has seen no less
  whole : ((j : ℕ) × (u : View) × (get_elem? views j ≡ some u) × (u.is_live ≡ true) × (u.seen ≡ journal))
      → (j : ℕ) × (u : View) × (get_elem? (set views seat old ++ next ∷ []) j ≡ some u) × (u.is_live ≡ true) × (u.seen ≡ journal)
  whole (j, u, e, on, all) = by_cases (j == seat)
      (λ same. (
        seat,
        old,
        at_longer (set views seat old) (next ∷ []) seat old (set_here views seat view old at),
        live,
        ap (λ (v : View). v.seen) (some-injective view u (sym at ∙ ap (get_elem? views) (sym (equal j seat same)) ∙ e)) ∙ all,
      ))
      (λ differ. (
        j,
        u,
        at_longer (set views seat old) (next ∷ []) j u (set_else views seat j old (λ p. not_both (j == seat) (ap (λ k. k == seat) p ∙ equal_self seat) differ) ∙ e),
        on,
        all,
      ))

  split : AreTrueOf workers journal (set views seat old ++ next ∷ [])
  split = record {
    made = h.made + 1;
    seat_of = seat_of;
    few = omega (arith, counted, more);
    each = λ j u e up. by_end j u up (at_end (set views seat old) next u j e);
    found = λ worker less. by_cases (worker == h.made) (λ e. last worker (equal worker h.made e)) (λ e. found worker (before worker less e) (h.found worker (before worker less e)));
    unmade = λ worker le. h.unmade worker (omega arith);
    whole = whole h.whole;
  }

pub splitting_keeps_views : SplittingKeepsViews
splitting_keeps_views workers journal views seat view h at live first more = split workers journal views seat view h at live first more
