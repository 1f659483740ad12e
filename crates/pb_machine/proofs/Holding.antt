-- The first view, what a view tells, and that holding keeps all views true of the journal.
use Rattle.std.proofs.Common.{◌≡◌, ◌≢◌, ℕ, zero, suc, ◌<◌, ◌≤◌, set, true, false, ◌==◌, nat_lt, List, [], ◌∷◌, ◌++◌, refl, sym, ap, ◌∙◌, subst, ◌⊎◌, inl, inr, arith}
use Rattle.std.specs.List.{AllByRecursion, list_any}
use Rattle.std.proofs.lemmas.Bool.{ne_eqb}
use Rattle.std.proofs.lemmas.List.{append-nil}
use Rattle.std.proofs.lemmas.List.Elements.{filter-append}
use mathlib.Core.Option.{some, some-injective, some-ne-none}
use lib.ListN.{get_elem?}
use Rattle.pb_model.proofs.Callers.{by_cases, not_both, equal, equal_self, below, not_below}
use Rattle.pb_machine.specs.declared.event.Event.{Event}
use Rattle.pb_machine.specs.History.{is_event_of, events_of, StartsWith, is_off}
use Rattle.pb_machine.specs.Views.{IsAmong, Share, View, IsShareOf, IsTrueOf, HasWorker, AreTrueOf, AreBy, first_view, view_after}
use Rattle.pb_machine.specs.JournalLaws.{FirstViewsAreTrue, HoldingKeepsViews, LastViewsTellAll, LastViewsSignOff}
use Rattle.pb_machine.proofs.Places.{starts_more, unmoved, IsRight, set_else, set_here, at_set, all_both, all_of}

pub first_views_are_true : FirstViewsAreTrue
first_views_are_true workers some_workers = record {
  made = 1;
  seat_of = λ worker. 0;
  few = some_workers;
  each = each;
  found = λ worker less. (first_view, refl, refl, inl (omega arith));
  unmade = λ worker le. refl;
  whole = (0, first_view, refl, refl, refl);
}
  where
    each : (seat : ℕ) (view : View) → get_elem? (first_view ∷ []) seat ≡ some view → view.is_live ≡ true → IsTrueOf [] 1 (λ worker. 0) seat view
    each zero view e live = subst (IsTrueOf [] 1 (λ worker. 0) 0) (some-injective first_view view e) (record {
      seen = ([], refl);
      shares = ((record { told = refl; covered = refl }, omega arith, refl), tt);
      distinct = (tt, tt);
      counts_passes = λ is. refl;
      counts_none = λ none. absurd (none (inl refl));
    })
    each (suc seat) view e live = absurd (some-ne-none view (sym e))

-- ---- holding

module _ (workers : ℕ) (journal added : List Event) (views : List View) (seat : ℕ) (view : View) (h : AreTrueOf workers journal views)
    (at : get_elem? views seat ≡ some view) (live : view.is_live ≡ true) (by : AreBy view.own.worker added) where
  abbrev new : View
  new = view_after journal added view

  mine : IsTrueOf journal h.made h.seat_of seat view
  mine = h.each seat view at live

  past : (worker : ℕ) → worker ≡ view.own.worker → h.made ≤ worker → ⊥
  past worker same le = let less = mine.shares.0.1 in absurd (omega (arith, less, same, le))

  has_new : (worker : ℕ) → HasWorker worker view → HasWorker worker new
  has_new worker (inl is) = inl is
  has_new worker (inr is) = inr is

  has_old : (worker : ℕ) → HasWorker worker new → HasWorker worker view
  has_old worker (inl is) = inl is
  has_old worker (inr is) = inr is

  -- a share of another worker is as before
  still : (seen : List Event) (share : Share) → (share.worker == view.own.worker) ≡ false → IsShareOf journal seen share → IsShareOf (journal ++ added) seen share
  still seen share other is = record { told = unmoved journal added share.worker (by share.worker other) ∙ is.told; covered = is.covered }

  own : IsTrueOf (journal ++ added) h.made h.seat_of seat new
  own = record {
    seen = ([], sym (append-nil (journal ++ added)));
    shares = (
      (record { told = grown; covered = grown }, mine.shares.0.1, mine.shares.0.2),
      all_both (IsRight journal view.seen h.made h.seat_of seat) (λ share. (share.worker == view.own.worker) ≡ false) (IsRight (journal ++ added) (journal ++ added) h.made h.seat_of seat)
          (λ share is other. let told = unmoved journal added share.worker (by share.worker other) ∙ is.0.told in (record { told = told; covered = told }, is.1, is.2))
          view.taken_in mine.shares.1 mine.distinct.0,
    );
    distinct = mine.distinct;
    counts_passes = λ has. mine.counts_passes (has_old 0 has);
    counts_none = λ none. mine.counts_none (λ has. none (has_new 0 has));
  }
    where
      grown : events_of view.own.worker (journal ++ added) ≡ view.own.events ++ events_of view.own.worker added
      grown = filter-append (is_event_of view.own.worker) journal added ∙ ap (λ xs. xs ++ events_of view.own.worker added) mine.shares.0.0.told

  go : (j : ℕ) (u : View) → u.is_live ≡ true → ((j ≡ seat) × (new ≡ u)) ⊎ ((j ≢ seat) × (get_elem? views j ≡ some u)) → IsTrueOf (journal ++ added) h.made h.seat_of j u
  go j u up (inl here) = subst (λ k. IsTrueOf (journal ++ added) h.made h.seat_of k u) (sym here.0) (subst (IsTrueOf (journal ++ added) h.made h.seat_of seat) here.1 own)
  go j u up (inr there) =
      let is = h.each j u there.1 up in
      record {
        seen = starts_more journal added u.seen is.seen;
        shares = all_of (IsRight journal u.seen h.made h.seat_of j) (IsRight (journal ++ added) u.seen h.made h.seat_of j)
            (λ share right. (
              still u.seen share (ne_eqb share.worker view.own.worker (λ same. there.0 (sym right.2 ∙ ap h.seat_of same ∙ mine.shares.0.2))) right.0,
              right.1,
              right.2,
            ))
            (u.own ∷ u.taken_in) is.shares;
        distinct = is.distinct;
        counts_passes = is.counts_passes;
        counts_none = is.counts_none;
      }

  found : (worker : ℕ) → worker < h.made → ((u : View) × (get_elem? views (h.seat_of worker) ≡ some u) × (u.is_live ≡ true) × HasWorker worker u)
      → (u : View) × (get_elem? (set views seat new) (h.seat_of worker) ≡ some u) × (u.is_live ≡ true) × HasWorker worker u
  found worker less (u, e, up, has) = by_cases (h.seat_of worker == seat)
      (λ same. let here : h.seat_of worker ≡ seat = equal (h.seat_of worker) seat same in
      let is : u ≡ view = some-injective u view (sym e ∙ ap (get_elem? views) here ∙ at) in
      (new, subst (λ k. get_elem? (set views seat new) k ≡ some new) (sym here) (set_here views seat view new at), live, has_new worker (subst (HasWorker worker) is has)))
      (λ differ. (u, set_else views seat (h.seat_of worker) new (λ p. not_both (h.seat_of worker == seat) (ap (λ k. k == seat) p ∙ equal_self seat) differ) ∙ e, up, has))

  held : AreTrueOf workers (journal ++ added) (set views seat new)
  held = record {
    made = h.made;
    seat_of = h.seat_of;
    few = h.few;
    each = λ j u e up. go j u up (at_set views seat j new u e);
    found = λ worker less. found worker less (h.found worker less);
    unmade = λ worker le. unmoved journal added worker (by worker (ne_eqb worker view.own.worker (λ same. past worker same le))) ∙ h.unmade worker le;
    whole = (seat, new, set_here views seat view new at, live, refl);
  }

pub holding_keeps_views : HoldingKeepsViews
holding_keeps_views workers journal added views seat view h at live by = held workers journal added views seat view h at live by

-- ---- what a view tells

pub last_views_tell_all : LastViewsTellAll
last_views_tell_all workers journal views seat view h at live = (
  mine.seen,
  all_of (IsRight journal view.seen h.made h.seat_of seat) (IsShareOf journal view.seen) (λ share right. right.0) (view.own ∷ view.taken_in) mine.shares,
  λ alone. (
    sees alone h.whole,
    λ worker. by_cases (nat_lt worker h.made) (λ e. inl (has alone worker (h.found worker (below worker h.made e)))) (λ e. inr (h.unmade worker (not_below worker h.made e))),
  ),
)
  where
    mine : IsTrueOf journal h.made h.seat_of seat view
    mine = h.each seat view at live

    has : ((other : ℕ) (left : View) → get_elem? views other ≡ some left → other ≢ seat → left.is_live ≡ false) → (worker : ℕ)
        → ((u : View) × (get_elem? views (h.seat_of worker) ≡ some u) × (u.is_live ≡ true) × HasWorker worker u) → HasWorker worker view
    has alone worker (u, e, on, known) = by_cases (h.seat_of worker == seat)
        (λ same. subst (HasWorker worker) (some-injective u view (sym e ∙ ap (get_elem? views) (equal (h.seat_of worker) seat same) ∙ at)) known)
        (λ differ. not_both u.is_live on (alone (h.seat_of worker) u e (λ p. not_both (h.seat_of worker == seat) (ap (λ k. k == seat) p ∙ equal_self seat) differ)))

    sees : ((other : ℕ) (left : View) → get_elem? views other ≡ some left → other ≢ seat → left.is_live ≡ false)
        → ((j : ℕ) × (u : View) × (get_elem? views j ≡ some u) × (u.is_live ≡ true) × (u.seen ≡ journal)) → view.seen ≡ journal
    sees alone (j, u, e, on, all) = by_cases (j == seat)
        (λ same. ap (λ (v : View). v.seen) (some-injective view u (sym at ∙ ap (get_elem? views) (sym (equal j seat same)) ∙ e)) ∙ all)
        (λ differ. not_both u.is_live on (alone j u e (λ p. not_both (j == seat) (ap (λ k. k == seat) p ∙ equal_self seat) differ)))

pub last_views_sign_off : LastViewsSignOff
last_views_sign_off workers journal views seat view h at live alone all_made off worker there = which ((tells.2 alone).1 worker)
  where
    tells : StartsWith journal view.seen × AllByRecursion (IsShareOf journal view.seen) (view.own ∷ view.taken_in)
        × (((other : ℕ) (left : View) → get_elem? views other ≡ some left → other ≢ seat → left.is_live ≡ false) → (view.seen ≡ journal) × ((worker : ℕ) → HasWorker worker view ⊎ (events_of worker journal ≡ [])))
    tells = last_views_tell_all workers journal views seat view h at live

    among : (shares : List Share) → AllByRecursion (IsShareOf journal view.seen) shares → AllByRecursion (λ share. list_any is_off share.events ≡ true) shares → IsAmong worker shares
        → list_any is_off (events_of worker journal) ≡ true
    among [] right offs is = absurd is
    among (share ∷ shares) right offs (inl same) = ap (λ k. list_any is_off (events_of k journal)) (sym same) ∙ ap (list_any is_off) right.0.told ∙ offs.0
    among (share ∷ shares) right offs (inr is) = among shares right.1 offs.1 is

    mine : IsTrueOf journal h.made h.seat_of seat view
    mine = h.each seat view at live

    has : (worker : ℕ) → ((u : View) × (get_elem? views (h.seat_of worker) ≡ some u) × (u.is_live ≡ true) × HasWorker worker u) → HasWorker worker view
    has worker (u, e, on, known) = by_cases (h.seat_of worker == seat)
        (λ same. subst (HasWorker worker) (some-injective u view (sym e ∙ ap (get_elem? views) (equal (h.seat_of worker) seat same) ∙ at)) known)
        (λ differ. not_both u.is_live on (alone (h.seat_of worker) u e (λ p. not_both (h.seat_of worker == seat) (ap (λ k. k == seat) p ∙ equal_self seat) differ)))

    -- whoever is alone has worker 0's events, and so the count
    counted : view.made ≡ h.made
    counted = mine.counts_passes (has 0 (h.found 0 (let less = mine.shares.0.1 in omega (arith, less))))

    made : worker < h.made
    made = omega (arith, all_made, there, counted)

    which : (HasWorker worker view ⊎ (events_of worker journal ≡ [])) → list_any is_off (events_of worker journal) ≡ true
    which (inl is) = among (view.own ∷ view.taken_in) tells.1 off is
    which (inr none) = among (view.own ∷ view.taken_in) tells.1 off (has worker (h.found worker made))
