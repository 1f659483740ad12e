-- Each step of the table under a lock keeps its rule.
use Rattle.std.proofs.Common.{◌≡◌, ◌≢◌, ℕ, zero, suc, ◌+◌, ◌<◌, ◌≤◌, min, eqb, List, [], ◌∷◌, ◌++◌, map, sum_by, get_or, set, Some, sym, refl, ap, ◌∙◌, subst, arith, eq-eqb, ne_eqb}
use mathlib.Core.Option as maybe
use mathlib.Core.Option.{none, some, some-injective, some-ne-none}
use mathlib.Core.Logic.{dite}
use native.Mathlib.Decide.{ℕ_discrete}
use lib.ListN.{get_elem?}
use prog.Atomic.{either}
use Rattle.std.specs.Prelude.{Option}
use Rattle.std.proofs.lemmas.Option.{none-some, same_Some}
use Rattle.atomic_table.specs.Table.{State, step, keeps, takes, gives, stepped, Allows, Splits, Joins, put_back, rest, opening, Final, Seen}
use Rattle.atomic_table.proofs.Lists.{at_map, set_again, set_else, at_longer}
use Rattle.pb_turn.specs.declared.table_rule.PassView.{PassView}
use Rattle.pb_turn.specs.declared.table_rule.Stage.{Stage}
use Rattle.pb_turn.specs.declared.table_rule.Stage.TheVariants.{Resting, Holding}
use Rattle.pb_turn.specs.Obligations.{LeaveKeeps, LoadKeeps, LowerKeeps, SplitKeeps, MeetKeeps, Stands, StandsAt, StandsAlone, IsHeld}
use Rattle.pb_turn.specs.Passes.{whole, found_by}
use Rattle.pb_turn.specs.Table.{home_of, Knows, Known, pass_view, first_pass, spent_pass, kept_pass, given_pass, met_pass, view_of, parts_of, tries_of, misses_of, leaves_of, AddUp, AreKnown, IsCalm, AreCalm, Turned, tried, read, sunk, left}
use Rattle.pb_turn.proofs.PassLists.{put_there, each_set, each_snoc, sum_set, sum_snoc, sum_two, map_at, map_set, map_snoc}

module _ {S : Type 0} where
  idle_not : (x : S) → Resting ≡ Holding x → ⊥
  idle_not x e = cc

  -- who isn't the holder doesn't hold the turn, whatever the turn is then
  other_knows : (b h : ℕ) (x : S) (b' h' : ℕ) (x' : S) (j : ℕ) (st : Stage S) → (b ≡ 1 → j ≢ h) → Knows b h x j st → Knows b' h' x' j st
  other_knows b h x b' h' x' j Resting off k = tt
  other_knows b h x b' h' x' j (Holding y) off k = absurd (off k.0 k.1)

-- a pass that holds the turn found the state
knows_held : {S : Type 0} (turn holder : ℕ) (x : S) (pass : ℕ) (st : Stage S) → Knows turn holder x pass st → IsHeld (found_by st) x
knows_held turn holder x pass Resting k found e = absurd (none-some found e)
knows_held turn holder x pass (Holding y) k found e = sym (same_Some y found e) ∙ k.2

module _ {S V : Type 0} (fact : S → ℕ → List V → Type 0) (spent : V) where
  abbrev D : Type 0
  D = PassView S V

  abbrev St : Type 0
  St = State (Option S) D

  abbrev Rule : St → Type 0
  Rule = Turned fact spent

  first_knows : (x : S) (v : V) (j : ℕ) (d : D) → get_elem? (first_pass v ∷ []) j ≡ some d → Knows 0 0 x j d.stage
  first_knows x v zero d e = subst (λ (y : D). Knows 0 0 x 0 y.stage) (some-injective (first_pass v) d e) tt
  first_knows x v (suc j) d e = absurd (some-ne-none d (sym e))

  first_parts : (v : V) (j : ℕ) (d : D) → get_elem? (first_pass {S = S} v ∷ []) j ≡ some d → d.parts ≡ 0 → d ≡ spent_pass spent
  first_parts v zero d e z = let p : whole ≡ d.parts = ap (λ (y : D). y.parts) (some-injective (first_pass v) d e) in absurd (omega arith)
  first_parts v (suc j) d e z = absurd (some-ne-none d (sym e))

  first_changes : (v : V) (j : ℕ) (d : D) → get_elem? (first_pass {S = S} v ∷ []) j ≡ some d → d.changes + 0 ≤ 0
  first_changes v zero d e = let p : 0 ≡ d.changes = ap (λ (y : D). y.changes) (some-injective (first_pass v) d e) in omega arith
  first_changes v (suc j) d e = absurd (some-ne-none d (sym e))

  first_calm : (v : V) (j : ℕ) (d : D) → get_elem? (first_pass {S = S} v ∷ []) j ≡ some d → IsCalm (first_pass {S = S} v ∷ []) 0 d.calm
  first_calm v zero d e = subst (λ (y : D). IsCalm (first_pass {S = S} v ∷ []) 0 y.calm) (some-injective (first_pass v) d e) (omega arith, λ _ _. omega arith)
  first_calm v (suc j) d e = absurd (some-ne-none d (sym e))

  pub begins : (x : S) (n : ℕ) (v : V) → fact x n (v ∷ []) → Rule (opening (0 ∷ n ∷ []) (Some x ∷ []) (first_pass v))
  begins x n v h = record {
    state = x;
    turn = 0;
    holder = 0;
    number = n;
    low = omega arith;
    words = refl;
    homes = refl;
    each_pass = first_knows x v;
    holds_it = λ e. absurd (omega arith);
    all_parts = omega arith;
    no_parts = first_parts v;
    counted = omega arith;
    changed = first_changes v;
    begun = (omega arith, λ _ _. omega arith);
    calm = first_calm v;
    kept = h;
  }

  -- the counts of all passes, and what each knows of them, after those of one have changed
  module _ (s : St) (r : Rule s) (id : ℕ) (d d' : D) (at : get_elem? s.views id ≡ some d) where
    recounted : (turn : ℕ) → d'.tries + d.misses + d.leaves + r.turn ≡ d.tries + d'.misses + d'.leaves + turn → AddUp (set s.views id d') turn
    recounted turn same =
        let t = sum_set tries_of s.views id d d' at in let m = sum_set misses_of s.views id d d' at in let l = sum_set leaves_of s.views id d d' at in let c = r.counted in omega arith

    still_known : d'.changes ≤ d.changes → d.tries + d.leaves + d'.misses ≤ d'.tries + d'.leaves + d.misses → AreKnown (set s.views id d')
    still_known less more =
        let t = sum_set tries_of s.views id d d' at in let m = sum_set misses_of s.views id d d' at in let l = sum_set leaves_of s.views id d d' at in
        let all : List D = set s.views id d' in
        each_set (λ j y. y.changes + sum_by misses_of all ≤ sum_by tries_of all + sum_by leaves_of all) s.views id d'
        (let c = r.changed id d at in omega arith) (λ j y _ e. let c = r.changed j y e in omega arith)

    -- the counts of misses stay as each pass knows them
    module _ (turn : ℕ) (more : d.leaves ≤ d'.leaves) (same : d'.leaves ≡ d.leaves → turn ≡ 0 → (r.turn ≡ 0) × (d'.misses ≤ d.misses)) where
      one_calm : (k : ℕ × ℕ) → IsCalm s.views r.turn k → IsCalm (set s.views id d') turn k
      one_calm k c =
          let m = sum_set misses_of s.views id d d' at in let l = sum_set leaves_of s.views id d d' at in let low = c.0 in
          (omega arith, λ e z. let q : d'.leaves ≡ d.leaves = omega arith in let p = same q z in let u = c.1 (omega arith) p.0 in let fewer = p.1 in omega arith)

      still_begun : IsCalm (set s.views id d') turn (0, 0)
      still_begun = one_calm (0, 0) r.begun

      still_calm : d'.calm ≡ d.calm → AreCalm (set s.views id d') turn
      still_calm is = each_set (λ j y. IsCalm (set s.views id d') turn y.calm) s.views id d' (subst (IsCalm (set s.views id d') turn) (sym is) (one_calm d.calm (r.calm id d at))) (λ j y _ e. one_calm y.calm (r.calm j y e))

  -- a resting pass with all parts: the state is at home, and all others are spent
  module _ (s : St) (r : Rule s) (id : ℕ) (d : D) (idle : d.stage ≡ Resting) (all : d.parts ≡ whole) (at : get_elem? s.views id ≡ some d) where
    others_spent : (j : ℕ) (y : D) → get_elem? s.views j ≡ some y → j ≢ id → y ≡ spent_pass spent
    others_spent j y e apart = r.no_parts j y e (let p = sum_two parts_of s.views j id y d apart e at in let w = r.all_parts in omega arith)

    nobody_holds : r.turn ≡ 0
    nobody_holds = dite (ℕ_discrete r.turn 0) (λ z. z) (λ off. let l = r.low in let h = r.holds_it (omega arith) in absurd (dite (ℕ_discrete r.holder id)
        (λ same. idle_not r.state (sym idle ∙ ap (λ (y : D). y.stage) (some-injective d h.0 (sym at ∙ ap (get_elem? s.views) (sym same) ∙ h.1)) ∙ h.2))
        (λ apart. idle_not r.state (sym (ap (λ (y : D). y.stage) (others_spent r.holder h.0 h.1 apart)) ∙ h.2))))

    pub at_home : get_elem? s.homes 0 ≡ some (some (Some r.state))
    at_home = ap (λ (l : List (maybe.Option (Option S))). get_elem? l 0) r.homes ∙ ap (λ (b : ℕ). some (home_of b r.state)) nobody_holds

  missed : (s : St) (r : Rule s) (id : ℕ) (me : Known S V) → r.turn ≢ 0 → me.0.stage ≡ Resting → 0 < me.0.parts → get_elem? s.views id ≡ some me.0
      → Rule (stepped s 0 (get_or s.words 0 0) id me.1 (pass_view me.0.stage me.0.parts (me.0.tries + 1) (me.0.misses + 1) me.0.leaves me.0.changes me.0.calm me.0.view) keeps)
  missed s r id me held idle some_parts at = let w : D = pass_view me.0.stage me.0.parts (me.0.tries + 1) (me.0.misses + 1) me.0.leaves me.0.changes me.0.calm me.0.view in record {
    state = r.state;
    turn = r.turn;
    holder = r.holder;
    number = r.number;
    low = r.low;
    words = ap (λ (l : List ℕ). set l 0 (get_or l 0 0)) r.words;
    homes = r.homes;
    each_pass = each_set (λ j d. Knows r.turn r.holder r.state j d.stage) s.views id w (r.each_pass id me.0 at) (λ j d _ e. r.each_pass j d e);
    holds_it = λ b. let h = r.holds_it b in (
      h.0,
      set_else s.views id r.holder w (λ same. idle_not r.state (sym idle ∙ ap (λ (d : D). d.stage) (some-injective me.0 h.0 (sym at ∙ ap (get_elem? s.views) (sym same) ∙ h.1)) ∙ h.2)) ∙ h.1,
      h.2,
    );
    all_parts = let p = sum_set parts_of s.views id me.0 w at in let a = r.all_parts in omega arith;
    no_parts = each_set (λ j d. d.parts ≡ 0 → d ≡ spent_pass spent) s.views id w (λ z. absurd (omega arith)) (λ j d _ e. r.no_parts j d e);
    counted = recounted s r id me.0 w at r.turn (omega arith);
    changed = still_known s r id me.0 w at (omega arith) (omega arith);
    begun = still_begun s r id me.0 w at r.turn (omega arith) (λ _ z. absurd (held z));
    calm = still_calm s r id me.0 w at r.turn (omega arith) (λ _ z. absurd (held z)) refl;
    kept = subst (fact r.state r.number) (sym (map_set view_of s.views id w ∙ set_again (map view_of s.views) id me.0.view (at_map view_of s.views id me.0 at))) r.kept;
  }

  gained : (s : St) (r : Rule s) (id : ℕ) (me : Known S V) → r.turn ≡ 0 → 0 < me.0.parts → get_elem? s.views id ≡ some me.0
      → Rule (stepped s 0 1 id me.1 (pass_view (Holding r.state) me.0.parts (me.0.tries + 1) me.0.misses me.0.leaves me.0.changes me.0.calm me.0.view) (takes 0 (Some r.state)))
  gained s r id me free some_parts at = let w : D = pass_view (Holding r.state) me.0.parts (me.0.tries + 1) me.0.misses me.0.leaves me.0.changes me.0.calm me.0.view in record {
    state = r.state;
    turn = 1;
    holder = id;
    number = r.number;
    low = omega arith;
    words = ap (λ (l : List ℕ). set l 0 1) r.words;
    homes = ap (λ (l : List (maybe.Option (Option S))). set l 0 none) r.homes;
    each_pass = each_set (λ j d. Knows 1 id r.state j d.stage) s.views id w (refl, refl, refl)
        (λ j d _ e. other_knows r.turn r.holder r.state 1 id r.state j d.stage (λ b. absurd (omega arith)) (r.each_pass j d e));
    holds_it = λ _. (w, put_there s.views id me.0 w at, refl);
    all_parts = let p = sum_set parts_of s.views id me.0 w at in let a = r.all_parts in omega arith;
    no_parts = each_set (λ j d. d.parts ≡ 0 → d ≡ spent_pass spent) s.views id w (λ z. absurd (omega arith)) (λ j d _ e. r.no_parts j d e);
    counted = recounted s r id me.0 w at 1 (omega arith);
    changed = still_known s r id me.0 w at (omega arith) (omega arith);
    begun = still_begun s r id me.0 w at 1 (omega arith) (λ _ z. absurd (omega arith));
    calm = still_calm s r id me.0 w at 1 (omega arith) (λ _ z. absurd (omega arith)) refl;
    kept = subst (fact r.state r.number) (sym (map_set view_of s.views id w ∙ set_again (map view_of s.views) id me.0.view (at_map view_of s.views id me.0 at))) r.kept;
  }

  -- the fact stands for each pass
  stands : (s : St) (r : Rule s) (id : ℕ) (me : Known S V) → get_elem? s.views id ≡ some me.0 → Stands fact id me.0.view r.state
  stands s r id me at = (r.number, (map view_of s.views, r.kept, at_map view_of s.views id me.0 at))

  -- a resting pass that found the turn held hasn't all parts
  not_alone : (s : St) (r : Rule s) (id : ℕ) (me : Known S V) → me.0.stage ≡ Resting → get_elem? s.views id ≡ some me.0 → get_or s.words 0 0 ≡ r.turn → get_or s.words 0 0 ≢ 0 → me.0.parts ≢ whole
  not_alone s r id me idle at found held all = held (found ∙ nobody_holds s r id me.0 idle all at)

  pub tries : (slots id : ℕ) (me : Known S V) (number : ℕ) → number ≡ id → me.0.stage ≡ Resting → 0 < me.0.parts
      → Allows Rule slots id me 0 (λ n. either (eqb n 0) 1 n) (tried fact number (step slots 0 0 1 none) me)
  tries slots id me number same idle some_parts s r _ at _ = let n : ℕ = get_or s.words 0 0 in let found : n ≡ r.turn = ap (λ (l : List ℕ). get_or l 0 0) r.words in dite (ℕ_discrete n 0)
      (λ hit. let free : r.turn ≡ 0 = sym found ∙ hit in (
        pass_view (Holding r.state) me.0.parts (me.0.tries + 1) me.0.misses me.0.leaves me.0.changes me.0.calm me.0.view,
        takes 0 (Some r.state),
        ap (λ (l : List (maybe.Option (Option S))). get_elem? l 0) r.homes ∙ ap (λ (b : ℕ). some (home_of b r.state)) free,
        subst (λ b. Rule (stepped s 0 (either b 1 n) id me.1 (pass_view (Holding r.state) me.0.parts (me.0.tries + 1) me.0.misses me.0.leaves me.0.changes me.0.calm me.0.view) (takes 0 (Some r.state)))) (sym (eq-eqb n 0 hit)) (gained s r id me free some_parts at),
        ((λ _. (r.state, (refl, subst (λ k. Stands fact k me.0.view r.state) (sym same) (stands s r id me at)))), λ no. absurd (no hit)),
      ))
      (λ miss. (
        pass_view me.0.stage me.0.parts (me.0.tries + 1) (me.0.misses + 1) me.0.leaves me.0.changes me.0.calm me.0.view,
        keeps,
        tt,
        subst (λ b. Rule (stepped s 0 (either b 1 n) id me.1 (pass_view me.0.stage me.0.parts (me.0.tries + 1) (me.0.misses + 1) me.0.leaves me.0.changes me.0.calm me.0.view) keeps)) (sym (ne_eqb n 0 miss)) (missed s r id me (λ z. miss (found ∙ z)) idle some_parts at),
        ((λ yes. absurd (miss yes)), λ _. ((let l = r.low in omega arith), (refl, not_alone s r id me idle at found miss, (r.state, subst (λ k. Stands fact k me.0.view r.state) (sym same) (stands s r id me at))))),
      ))

  pub leaves : (slots id : ℕ) (me : Known S V) (x y : S) (w : V) (next : Option V) → me.0.stage ≡ Holding x → me.1 ≡ (0, Some y) ∷ [] → next ≡ Some w → LeaveKeeps fact id me.0.view x y w
      → Allows Rule slots id me 0 (λ _. 0) (λ _. left next (step slots 0 0 0 none) me 0)
  leaves slots id me x y w next holds has is asked s r _ at _ = let d' : D = pass_view Resting me.0.parts me.0.tries me.0.misses (me.0.leaves + 1) me.0.changes me.0.calm w in
      let known = subst (λ (st : Stage S). Knows r.turn r.holder r.state id st) holds (r.each_pass id me.0 at) in (
        d',
        gives,
        tt,
        record {
          state = y;
          turn = 0;
          holder = 0;
          number = r.number;
          low = omega arith;
          words = ap (λ (l : List ℕ). set l 0 0) r.words;
          homes = λ i. put_back (r.homes i) (has i);
          each_pass = each_set (λ j d. Knows 0 0 y j d.stage) s.views id d' tt (λ j d other e. other_knows r.turn r.holder r.state 0 0 y j d.stage (λ _ same. other (same ∙ sym known.1)) (r.each_pass j d e));
          holds_it = λ e. absurd (omega arith);
          all_parts = let p = sum_set parts_of s.views id me.0 d' at in let a = r.all_parts in omega arith;
          no_parts = each_set (λ j d. d.parts ≡ 0 → d ≡ spent_pass spent) s.views id d'
              (λ z. absurd (idle_not x (sym (ap (λ (d : D). d.stage) (r.no_parts id me.0 at z)) ∙ holds))) (λ j d _ e. r.no_parts j d e);
          counted = recounted s r id me.0 d' at 0 (let one : r.turn ≡ 1 = known.0 in omega arith);
          changed = still_known s r id me.0 d' at (omega arith) (omega arith);
          begun = still_begun s r id me.0 d' at 0 (omega arith) (λ q z. absurd (omega arith));
          calm = still_calm s r id me.0 d' at 0 (omega arith) (λ q z. absurd (omega arith)) refl;
          kept = subst (fact y r.number) (sym (map_set view_of s.views id d')) (asked r.number (map view_of s.views) (subst (λ (z : S). fact z r.number (map view_of s.views)) (sym known.2) r.kept) (at_map view_of s.views id me.0 at));
        },
        (refl, refl, refl, refl, is, ap rest has),
      )

  -- the counts as each pass knows them, after a pass is split from another
  longer_calm : (s : St) (r : Rule s) (id : ℕ) (d a b : D) (at : get_elem? s.views id ≡ some d) → a.misses + b.misses ≡ d.misses → a.leaves + b.leaves ≡ d.leaves
      → (k : ℕ × ℕ) → IsCalm s.views r.turn k → IsCalm (set s.views id a ++ b ∷ []) r.turn k
  longer_calm s r id d a b at m l k c =
      let p = sum_set misses_of s.views id d a at in let q = sum_set leaves_of s.views id d a at in let t = sum_snoc misses_of (set s.views id a) b in let f = sum_snoc leaves_of (set s.views id a) b in let low = c.0 in
      (omega arith, λ e z. let u = c.1 (omega arith) z in omega arith)

  pub splits : (id : ℕ) (d : D) (kept given : V → V) → 1 < d.parts → SplitKeeps fact id d.view (kept d.view) (given d.view) → Splits Rule id d (kept_pass kept d) (given_pass given d)
  splits id d kept given more asked s r at = let a : D = kept_pass kept d in let b : D = given_pass given d in let l : List D = set s.views id a in record {
    state = r.state;
    turn = r.turn;
    holder = r.holder;
    number = r.number;
    low = r.low;
    words = r.words;
    homes = r.homes;
    each_pass = each_snoc (λ j y. Knows r.turn r.holder r.state j y.stage) l b (λ j. tt) (each_set (λ j y. Knows r.turn r.holder r.state j y.stage) s.views id a (r.each_pass id d at) (λ j y _ e. r.each_pass j y e));
    holds_it = λ is. let h = r.holds_it is in dite (ℕ_discrete r.holder id)
        (λ same. (a, at_longer l (b ∷ []) r.holder a (subst (λ (k : ℕ). get_elem? l k ≡ some a) (sym same) (put_there s.views id d a at)), ap (λ (y : D). y.stage) (some-injective d h.0 (sym at ∙ ap (get_elem? s.views) (sym same) ∙ h.1)) ∙ h.2))
        (λ apart. (h.0, at_longer l (b ∷ []) r.holder h.0 (set_else s.views id r.holder a apart ∙ h.1), h.2));
    all_parts = let p = sum_set parts_of s.views id d a at in let q = sum_snoc parts_of l b in let w = r.all_parts in omega arith;
    no_parts = each_snoc (λ j y. y.parts ≡ 0 → y ≡ spent_pass spent) l b (λ j z. absurd (omega arith)) (each_set (λ j y. y.parts ≡ 0 → y ≡ spent_pass spent) s.views id a (λ z. absurd (omega arith)) (λ j y _ e. r.no_parts j y e));
    counted = let c = recounted s r id d a at r.turn (omega arith) in let t = sum_snoc tries_of l b in let m = sum_snoc misses_of l b in let f = sum_snoc leaves_of l b in omega arith;
    changed = let c = recounted s r id d a at r.turn (omega arith) in let t = sum_snoc tries_of l b in let m = sum_snoc misses_of l b in let f = sum_snoc leaves_of l b in let all : List D = l ++ b ∷ [] in
        each_snoc (λ j y. y.changes + sum_by misses_of all ≤ sum_by tries_of all + sum_by leaves_of all) l b (λ j. omega arith)
        (λ j y e. let k = still_known s r id d a at (omega arith) (omega arith) j y e in omega arith);
    begun = longer_calm s r id d a b at (omega arith) (omega arith) (0, 0) r.begun;
    calm = each_snoc (λ j y. IsCalm (l ++ b ∷ []) r.turn y.calm) l b (λ j. longer_calm s r id d a b at (omega arith) (omega arith) d.calm (r.calm id d at))
        (each_set (λ j y. IsCalm (l ++ b ∷ []) r.turn y.calm) s.views id a (longer_calm s r id d a b at (omega arith) (omega arith) d.calm (r.calm id d at)) (λ j y _ e. longer_calm s r id d a b at (omega arith) (omega arith) y.calm (r.calm j y e)));
    kept = subst (fact r.state r.number) (sym (map_snoc view_of l b ∙ ap (λ (cs : List V). cs ++ b.view ∷ []) (map_set view_of s.views id a))) (asked r.state r.number (map view_of s.views) r.kept (at_map view_of s.views id d at));
  }

  pub joins : (id : ℕ) (d : D) (other : ℕ) (e : D) (met : V → V → V) → 0 < d.parts → e.stage ≡ Resting → MeetKeeps fact id d.view other e.view (met d.view e.view) spent
      → Joins Rule id d other e (met_pass met d e) (spent_pass spent)
  joins id d other e met some_parts idle asked s r at apart there = let b : D = met_pass met d e in let z : D = spent_pass spent in let l : List D = set s.views id b in
      let one = λ (f : D → ℕ). sum_set f s.views id d b at in let two = λ (f : D → ℕ). sum_set f l other e z there in
      let joined_calm : (k : ℕ × ℕ) → IsCalm s.views r.turn k → IsCalm (set l other z) r.turn k = λ k c. let m = one misses_of in let f = one leaves_of in let n = two misses_of in let g = two leaves_of in let low = c.0 in
      (omega arith, λ same free. let u = c.1 (omega arith) free in omega arith) in record {
        state = r.state;
        turn = r.turn;
        holder = r.holder;
        number = r.number;
        low = r.low;
        words = r.words;
        homes = r.homes;
        each_pass = each_set (λ j y. Knows r.turn r.holder r.state j y.stage) l other z tt (λ j y _ i. each_set (λ k u. Knows r.turn r.holder r.state k u.stage) s.views id b (r.each_pass id d at) (λ k u _ m. r.each_pass k u m) j y i);
        holds_it = λ is. let h = r.holds_it is in dite (ℕ_discrete r.holder id)
            (λ same. (b, set_else l other r.holder z (λ k. apart (sym k ∙ same)) ∙ subst (λ (k : ℕ). get_elem? l k ≡ some b) (sym same) (put_there s.views id d b at), ap (λ (y : D). y.stage) (some-injective d h.0 (sym at ∙ ap (get_elem? s.views) (sym same) ∙ h.1)) ∙ h.2))
            (λ off. let here : get_elem? l r.holder ≡ some h.0 = set_else s.views id r.holder b off ∙ h.1 in
            (h.0, set_else l other r.holder z (λ k. idle_not r.state (sym idle ∙ ap (λ (y : D). y.stage) (some-injective e h.0 (sym there ∙ ap (get_elem? l) (sym k) ∙ here)) ∙ h.2)) ∙ here, h.2));
        all_parts = let p = sum_set parts_of s.views id d b at in let q = sum_set parts_of l other e z there in let w = r.all_parts in omega arith;
        no_parts = each_set (λ j y. y.parts ≡ 0 → y ≡ spent_pass spent) l other z (λ _. refl)
            (λ j y _ i. each_set (λ k u. u.parts ≡ 0 → u ≡ spent_pass spent) s.views id b (λ n. absurd (omega arith)) (λ k u _ m. r.no_parts k u m) j y i);
        counted = let c = r.counted in let t = one tries_of in let m = one misses_of in let f = one leaves_of in let u = two tries_of in let n = two misses_of in let g = two leaves_of in omega arith;
        changed = let c = r.counted in let t = one tries_of in let m = one misses_of in let f = one leaves_of in let u = two tries_of in let n = two misses_of in let g = two leaves_of in let all : List D = set l other z in
            each_set (λ j y. y.changes + sum_by misses_of all ≤ sum_by tries_of all + sum_by leaves_of all) l other z (omega arith)
            (λ j y _ i. each_set (λ k u. u.changes + sum_by misses_of all ≤ sum_by tries_of all + sum_by leaves_of all) s.views id b (let k = r.changed id d at in omega arith) (λ k v _ q. let h = r.changed k v q in omega arith) j y i);
        begun = joined_calm (0, 0) r.begun;
        calm = each_set (λ j y. IsCalm (set l other z) r.turn y.calm) l other z (joined_calm (0, 0) r.begun)
            (λ j y _ i. each_set (λ k u. IsCalm (set l other z) r.turn u.calm) s.views id b (joined_calm d.calm (r.calm id d at)) (λ k u _ q. joined_calm u.calm (r.calm k u q)) j y i);
        kept = subst (fact r.state r.number) (sym (map_set view_of l other z ∙ ap (λ (cs : List V). set cs other spent) (map_set view_of s.views id b)))
            (asked r.state r.number (map view_of s.views) r.kept (at_map view_of s.views id d at) apart
            (subst (λ (cs : List V). get_elem? cs other ≡ some e.view) (map_set view_of s.views id b) (at_map view_of l other e there)));
      }

  pub closes : (id : ℕ) (d : D) (ws : List ℕ) (xs : List (Option S)) → d.stage ≡ Resting → d.parts ≡ whole → Final (Seen Rule id d) ws xs → (y : Option S) (n : ℕ) → get_elem? xs 0 ≡ some y → get_elem? ws 1 ≡ some n
      → (x : S) × (y ≡ Some x) × StandsAlone fact id d.view spent x n
  closes id d ws xs idle all f y n e last = let s : St = f.0 in let r : Rule s = f.1.0 in let at = f.1.1 in
      let same : r.number ≡ n = some-injective r.number n (ap (λ (l : List ℕ). get_elem? l 1) (sym r.words ∙ f.2) ∙ last) in (
        r.state,
        some-injective y (Some r.state) (sym e ∙ f.4 0 (Some r.state) (at_home s r id d idle all at)),
        (
          map view_of s.views,
          subst (λ (k : ℕ). fact r.state k (map view_of s.views)) same r.kept,
          at_map view_of s.views id d at,
          λ j w there apart. let m = map_at view_of s.views j w there in sym m.2 ∙ ap view_of (others_spent s r id d idle all at j m.0 m.1 apart),
        ),
      )

  -- a step on the number alone, after which the pass has another view
  numbered : (s : St) (r : Rule s) (n id : ℕ) (me : Known S V) (w : V) → 0 < me.0.parts → get_elem? s.views id ≡ some me.0 → fact r.state n (set (map view_of s.views) id w)
      → Rule (stepped s 1 n id me.1 (pass_view me.0.stage me.0.parts me.0.tries me.0.misses me.0.leaves me.0.changes me.0.calm w) keeps)
  numbered s r n id me w some_parts at h = let d' : D = pass_view me.0.stage me.0.parts me.0.tries me.0.misses me.0.leaves me.0.changes me.0.calm w in record {
    state = r.state;
    turn = r.turn;
    holder = r.holder;
    number = n;
    low = r.low;
    words = ap (λ (l : List ℕ). set l 1 n) r.words;
    homes = r.homes;
    each_pass = each_set (λ j d. Knows r.turn r.holder r.state j d.stage) s.views id d' (r.each_pass id me.0 at) (λ j d _ e. r.each_pass j d e);
    holds_it = λ b. let k = r.holds_it b in dite (ℕ_discrete r.holder id)
        (λ same. (d', subst (λ (i : ℕ). get_elem? (set s.views id d') i ≡ some d') (sym same) (put_there s.views id me.0 d' at), ap (λ (y : D). y.stage) (some-injective me.0 k.0 (sym at ∙ ap (get_elem? s.views) (sym same) ∙ k.1)) ∙ k.2))
        (λ apart. (k.0, set_else s.views id r.holder d' apart ∙ k.1, k.2));
    all_parts = let p = sum_set parts_of s.views id me.0 d' at in let a = r.all_parts in omega arith;
    no_parts = each_set (λ j d. d.parts ≡ 0 → d ≡ spent_pass spent) s.views id d' (λ z. absurd (omega arith)) (λ j d _ e. r.no_parts j d e);
    counted = recounted s r id me.0 d' at r.turn (omega arith);
    changed = still_known s r id me.0 d' at (omega arith) (omega arith);
    begun = still_begun s r id me.0 d' at r.turn (omega arith) (λ _ z. (z, omega arith));
    calm = still_calm s r id me.0 d' at r.turn (omega arith) (λ _ z. (z, omega arith)) refl;
    kept = subst (fact r.state n) (sym (map_set view_of s.views id d')) h;
  }

  -- what the table has as the number, the fact is of
  at_number : (s : St) (r : Rule s) → fact r.state (get_or s.words 1 0) (map view_of s.views)
  at_number s r = subst (λ (k : ℕ). fact r.state k (map view_of s.views)) (sym (ap (λ (l : List ℕ). get_or l 1 0) r.words)) r.kept

  pub reads : (slots id : ℕ) (me : Known S V) (pass : ℕ) (loaded : Option S → V → ℕ → V) → pass ≡ id → 0 < me.0.parts → LoadKeeps fact id me.0.view (found_by me.0.stage) (loaded (found_by me.0.stage) me.0.view)
      → Allows Rule slots id me 1 (λ n. n) (read fact loaded pass (step slots 1 0 0 none) me)
  reads slots id me pass loaded same some_parts asked s r _ at _ = let n : ℕ = get_or s.words 1 0 in let h = at_number s r in
      let there = at_map view_of s.views id me.0 at in let w : V = loaded (found_by me.0.stage) me.0.view n in
      let held = knows_held r.turn r.holder r.state id me.0.stage (r.each_pass id me.0 at) in (
        pass_view me.0.stage me.0.parts me.0.tries me.0.misses me.0.leaves me.0.changes me.0.calm w,
        keeps,
        tt,
        numbered s r n id me w some_parts at (asked r.state n (map view_of s.views) h there held),
        (refl, (r.state, subst (λ (k : ℕ). StandsAt fact k me.0.view r.state n) (sym same) (map view_of s.views, h, there), held)),
      )

  pub sinks : (slots id : ℕ) (me : Known S V) (pass k : ℕ) (lowered : V → ℕ → V) → pass ≡ id → 0 < me.0.parts → LowerKeeps fact id me.0.view k (lowered me.0.view k)
      → Allows Rule slots id me 1 (λ n. min n k) (sunk fact lowered pass (step slots 1 k 0 none) me)
  sinks slots id me pass k lowered same some_parts asked s r _ at _ = let n : ℕ = get_or s.words 1 0 in let h = at_number s r in
      let there = at_map view_of s.views id me.0 at in let w : V = lowered me.0.view k in (
        pass_view me.0.stage me.0.parts me.0.tries me.0.misses me.0.leaves me.0.changes me.0.calm w,
        keeps,
        tt,
        numbered s r (min n k) id me w some_parts at (asked r.state n (map view_of s.views) h there),
        (refl, (r.state, subst (λ (i : ℕ). StandsAt fact i me.0.view r.state n) (sym same) (map view_of s.views, h, there))),
      )
