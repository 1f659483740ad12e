-- Work within a scope is the same work in any store that has the same rows there.
use Rattle.std.proofs.Common.{◌≡◌, ℕ, ◌+◌, Bool, true, false, cond, ◌&&◌, ◌==◌, List, [], ◌∷◌, ◌++◌, take, Option, Some, refl, sym, ap, ◌∙◌, subst, arith, true≢false}
use Rattle.std.specs.List.{AllByRecursion}
use Rattle.std.proofs.lemmas.Bool.Decides.{Decides-eqb}
use Rattle.pb_model.specs.declared.row.Status.{Status}
use Rattle.pb_model.specs.declared.row.Status.TheVariants.{Closed, Cut}
use Rattle.pb_model.specs.declared.row.Row.{Row}
use Rattle.pb_model.specs.declared.row.Succ.{Succ}
use Rattle.pb_model.specs.Space.{Space, steps}
use Rattle.pb_model.specs.Weight.{Weight}
use Rattle.pb_model.specs.Guide.{Guide}
use Rattle.pb_model.specs.Store.{Rows, Store, is_place_of, lesser, AtMost, MayBeCut}
use Rattle.pb_model.specs.Work.{Work, expand, break_off, cut, take_goal, lower, reopen, offered_row, row_after_offers, with_status, row_after_status, row_after, incumbent_after, weight_after, g_of, g_before, store_after, May, Comes, expansions, broken_expansions, lowerings, reopenings, ReopensQuiet}
use Rattle.pb_model.specs.Local.{StepsWithin, IsWithin, AgreesOn, merged_store}
use Rattle.pb_model.specs.Laws.{WorkIsLocal, WorkGoesOn, WeightsStay}
use Rattle.pb_model.proofs.Tests.{by_cases}
use Rattle.pb_model.proofs.Successors.{all_more, all_take, are_steps}
use Rattle.pb_model.proofs.Incumbents.{at_most_self, at_most_trans, lesser_at_most, lesser_below, lesser_same, lesser_falls, lesser_skips, cut_still}

module _ (space : Space) (guide : Guide) (scope : ℕ → Bool) where
  -- a place outside the scope is not that of a state at home in it
  not_place : (other home state : ℕ) → scope home ≡ false → scope (guide.home other) ≡ true → is_place_of guide other home state ≡ false
  not_place other home state out inside = ap (λ r. r && (state == other)) (apart (home == guide.home other) refl)
    where
      apart : (r : Bool) → (home == guide.home other) ≡ r → (home == guide.home other) ≡ false
      apart true e = absurd (true≢false (sym inside ∙ sym (ap scope ((Decides-eqb home (guide.home other)).0 e)) ∙ out))
      apart false e = e

  abbrev LeadWithin : List Succ → Type 0
  LeadWithin ys = AllByRecursion (λ y. scope (guide.home y.state) ≡ true) ys

  lead_within : (own : ℕ) → StepsWithin space guide scope own → LeadWithin (steps space own)
  lead_within own h = all_more _ _ (λ y step. h.1 y.action y.state y.cost step) (steps space own) (are_steps space own)

  offers_outside : (own g : ℕ) (ys : List Succ) (home state : ℕ) (o : Option Row) → LeadWithin ys → scope home ≡ false → row_after_offers guide own g ys home state o ≡ o
  offers_outside own g [] home state o within out = refl
  offers_outside own g (y ∷ ys) home state o within out =
      ap (λ r. row_after_offers guide own g ys home state (cond r (Some (offered_row (g + y.cost) (guide.estimate state) (Some own) y.action o)) o)) (not_place y.state home state out within.0)
      ∙ offers_outside own g ys home state o within.1 out

  status_outside : (own : ℕ) (status : Status) (home state : ℕ) (o : Option Row) → scope (guide.home own) ≡ true → scope home ≡ false → row_after_status guide own status home state o ≡ o
  status_outside own status home state o inside out = ap (λ r. cond r (with_status status o) o) (not_place own home state out inside)

  pub row_outside : (x : Work) (g : ℕ) (u : Option ℕ) (home state : ℕ) (o : Option Row) → IsWithin space guide scope x → scope home ≡ false → row_after space guide x g u home state o ≡ o
  row_outside (expand own) g u home state o h out =
      status_outside own Closed home state (row_after_offers guide own g (steps space own) home state o) h.0 out ∙ offers_outside own g (steps space own) home state o (lead_within own h) out
  row_outside (break_off own offers) g u home state o h out = offers_outside own g (take offers (steps space own)) home state o (all_take _ offers (steps space own) (lead_within own h)) out
  row_outside (cut own) g u home state o h out = status_outside own Cut home state o h out
  row_outside (take_goal own) g u home state o h out = status_outside own Cut home state o h out
  row_outside (lower cost) g u home state o h out = refl
  row_outside (reopen x) g u home state o h out = absurd h

  may_agrees : (x : Work) (w v : Store) → AgreesOn scope w.rows v.rows → AtMost v.incumbent w.incumbent → w.weight ≡ v.weight → IsWithin space guide scope x → May space guide x w → May space guide x v
  may_agrees (expand own) w v agree low same h m = ((m.0.0, sym (agree _ _ h.0) ∙ m.0.1, m.0.2), m.1)
  may_agrees (break_off own offers) w v agree low same h m = ((m.0.0, sym (agree _ _ h.0) ∙ m.0.1, m.0.2), m.1, m.2)
  may_agrees (cut own) w v agree low same h m =
      (m.0, sym (agree _ _ h) ∙ m.1, m.2, subst (λ x. MayBeCut x v.incumbent m.0.g m.0.estimate) same (cut_still w.weight w.incumbent v.incumbent m.0.g m.0.estimate low m.3))
  may_agrees (take_goal own) w v agree low same h m = ((m.0.0, sym (agree _ _ h) ∙ m.0.1, m.0.2), m.1)
  may_agrees (lower cost) w v agree low same h m = tt
  may_agrees (reopen x) w v agree low same h m = absurd h

  g_agrees : (x : Work) (w v : Store) → AgreesOn scope w.rows v.rows → IsWithin space guide scope x → g_before guide w x ≡ g_before guide v x
  g_agrees (expand own) w v agree h = ap g_of (agree _ _ h.0)
  g_agrees (break_off own offers) w v agree h = ap g_of (agree _ _ h.0)
  g_agrees (cut own) w v agree h = ap g_of (agree _ _ h)
  g_agrees (take_goal own) w v agree h = ap g_of (agree _ _ h)
  g_agrees (lower cost) w v agree h = refl
  g_agrees (reopen x) w v agree h = absurd h

  -- such work changes a place whatever the incumbent is
  row_same : (x : Work) (g : ℕ) (u v : Option ℕ) (home state : ℕ) (o : Option Row) → IsWithin space guide scope x → row_after space guide x g u home state o ≡ row_after space guide x g v home state o
  row_same (expand own) g u v home state o h = refl
  row_same (break_off own offers) g u v home state o h = refl
  row_same (cut own) g u v home state o h = refl
  row_same (take_goal own) g u v home state o h = refl
  row_same (lower cost) g u v home state o h = refl
  row_same (reopen x) g u v home state o h = absurd h

  after_agrees : (x : Work) (w v : Store) → AgreesOn scope w.rows v.rows → IsWithin space guide scope x → AgreesOn scope (store_after space guide x w).rows (store_after space guide x v).rows
  after_agrees x w v agree h home state inside =
      ap (λ g. row_after space guide x g w.incumbent home state (w.rows home state)) (g_agrees x w v agree h)
      ∙ row_same x (g_before guide v x) w.incumbent v.incumbent home state (w.rows home state) h
      ∙ ap (row_after space guide x (g_before guide v x) v.incumbent home state) (agree home state inside)

  incumbent_agrees : (x : Work) (g : ℕ) (u v : Option ℕ) → AtMost v u → AtMost (incumbent_after x g v) (incumbent_after x g u)
  incumbent_agrees (expand own) g u v low = low
  incumbent_agrees (break_off own offers) g u v low = low
  incumbent_agrees (cut own) g u v low = low
  incumbent_agrees (take_goal own) g u v low = lesser_falls v u g low
  incumbent_agrees (lower cost) g u v low = lesser_falls v u cost low
  incumbent_agrees (reopen x) g u v low = low

  incumbent_falls : (x : Work) (g : ℕ) (u : Option ℕ) → AtMost (incumbent_after x g u) u
  incumbent_falls (expand own) g u = at_most_self u
  incumbent_falls (break_off own offers) g u = at_most_self u
  incumbent_falls (cut own) g u = at_most_self u
  incumbent_falls (take_goal own) g u = lesser_at_most u (Some g)
  incumbent_falls (lower cost) g u = lesser_at_most u (Some cost)
  incumbent_falls (reopen x) g u = at_most_self u

  incumbents_fall : (xs : List Work) (w v : Store) → Comes space guide xs w v → AtMost v.incumbent w.incumbent
  incumbents_fall [] w v h = subst (λ q. AtMost q.incumbent w.incumbent) (sym h) (at_most_self w.incumbent)
  incumbents_fall (x ∷ xs) w v h = at_most_trans v.incumbent _ w.incumbent (incumbents_fall xs (store_after space guide x w) v h.1) (incumbent_falls x (g_before guide w x) w.incumbent)

  weight_stays : (x : Work) (y : Weight) → IsWithin space guide scope x → weight_after x y ≡ y
  weight_stays (expand own) y h = refl
  weight_stays (break_off own offers) y h = refl
  weight_stays (cut own) y h = refl
  weight_stays (take_goal own) y h = refl
  weight_stays (lower cost) y h = refl
  weight_stays (reopen x) y h = absurd h

  -- the rows of the one store in the scope, and of the other elsewhere
  abbrev mixed : Rows → Rows → Rows
  mixed m n home state = cond (scope home) (m home state) (n home state)

  mixed_same : (m n : Rows) → AgreesOn scope m n → (home state : ℕ) → mixed m n home state ≡ n home state
  mixed_same m n agree home state = by_cases (scope home) (λ e. ap (λ r. cond r (m home state) (n home state)) e ∙ agree home state e) (λ e. ap (λ r. cond r (m home state) (n home state)) e)

  mixed_after : (x : Work) (m : Rows) (v : Store) → IsWithin space guide scope x → (home state : ℕ) → mixed m (store_after space guide x v).rows home state ≡ mixed m v.rows home state
  mixed_after x m v h home state = by_cases (scope home)
      (λ e. ap (λ r. cond r (m home state) ((store_after space guide x v).rows home state)) e ∙ sym (ap (λ r. cond r (m home state) (v.rows home state)) e))
      (λ e. ap (λ r. cond r (m home state) ((store_after space guide x v).rows home state)) e ∙ row_outside x (g_before guide v x) v.incumbent home state (v.rows home state) h e ∙ sym (ap (λ r. cond r (m home state) (v.rows home state)) e))

  lesser_after : (x : Work) (g : ℕ) (u v w : Option ℕ) → AtMost v (incumbent_after x g w) → lesser (incumbent_after x g u) v ≡ lesser u v
  lesser_after (expand own) g u v w h = refl
  lesser_after (break_off own offers) g u v w h = refl
  lesser_after (cut own) g u v w h = refl
  lesser_after (take_goal own) g u v w h = lesser_skips u v g (at_most_trans v (lesser w (Some g)) (Some g) h (lesser_below w g))
  lesser_after (lower cost) g u v w h = lesser_skips u v cost (at_most_trans v (lesser w (Some cost)) (Some cost) h (lesser_below w cost))
  lesser_after (reopen x) g u v w h = refl

  pub comes_locally : (xs : List Work) (w v u : Store) → AllByRecursion (IsWithin space guide scope) xs → Comes space guide xs w v
      → AgreesOn scope w.rows u.rows → AtMost u.incumbent w.incumbent → w.weight ≡ u.weight → Comes space guide xs u (merged_store scope v u)
  comes_locally [] w v u on comes agree low same =
      let there : AgreesOn scope v.rows u.rows = λ home state e. (λ i. (comes i).rows home state) ∙ agree home state e in
      let below : AtMost u.incumbent v.incumbent = subst (λ q. AtMost u.incumbent q.incumbent) (sym comes) low in
      λ i. record { rows = λ home state. mixed_same v.rows u.rows there home state i; incumbent = lesser_same u.incumbent v.incumbent below i; weight = u.weight }
  comes_locally (x ∷ xs) w v u on comes agree low same =
      let after : Store = store_after space guide x u in
      let e : g_before guide w x ≡ g_before guide u x = g_agrees x w u agree on.0 in
      let low' : AtMost after.incumbent (store_after space guide x w).incumbent = subst (λ k. AtMost (incumbent_after x k u.incumbent) (store_after space guide x w).incumbent) e (incumbent_agrees x (g_before guide w x) w.incumbent u.incumbent low) in
      let weights : (store_after space guide x w).weight ≡ after.weight = ap (weight_after x) same in
      let rest : Comes space guide xs after (merged_store scope v after) = comes_locally xs (store_after space guide x w) v after on.1 comes.1 (after_agrees x w u agree on.0) low' weights in
      let fell : AtMost v.incumbent (incumbent_after x (g_before guide u x) w.incumbent) = subst (λ k. AtMost v.incumbent (incumbent_after x k w.incumbent)) e (incumbents_fall xs (store_after space guide x w) v comes.1) in
      let equal : merged_store scope v after ≡ merged_store scope v u =
      λ i. record { rows = λ home state. mixed_after x v.rows u on.0 home state i; incumbent = lesser_after x (g_before guide u x) u.incumbent v.incumbent w.incumbent fell i; weight = weight_stays x u.weight on.0 i } in
      (may_agrees x w u agree low same on.0 comes.0, subst (λ q. Comes space guide xs after q) equal rest)

pub work_is_local : WorkIsLocal
work_is_local space guide scope works lent worked store on comes agree low same = comes_locally space guide scope works lent worked store on comes agree low same

-- ---- work that goes on where other work stopped

pub comes_append : (space : Space) (guide : Guide) (xs ys : List Work) (w v u : Store) → Comes space guide xs w v → Comes space guide ys v u → Comes space guide (xs ++ ys) w u
comes_append space guide [] ys w v u h k = subst (λ q. Comes space guide ys q u) h k
comes_append space guide (x ∷ xs) ys w v u h k = (h.0, comes_append space guide xs ys (store_after space guide x w) v u h.1 k)

-- one more piece of work at the end
pub comes_push : (space : Space) (guide : Guide) (xs : List Work) (x : Work) (w v : Store) → Comes space guide xs w v → May space guide x v → Comes space guide (xs ++ x ∷ []) w (store_after space guide x v)
comes_push space guide xs x w v h may = comes_append space guide xs (x ∷ []) w v (store_after space guide x v) h (may, refl)

pub expansions_append : (xs ys : List Work) → expansions (xs ++ ys) ≡ expansions xs + expansions ys
expansions_append [] ys = omega arith
expansions_append (expand own ∷ xs) ys = omega (arith, expansions_append xs ys)
expansions_append (break_off own offers ∷ xs) ys = expansions_append xs ys
expansions_append (cut own ∷ xs) ys = expansions_append xs ys
expansions_append (take_goal own ∷ xs) ys = expansions_append xs ys
expansions_append (lower cost ∷ xs) ys = expansions_append xs ys
expansions_append (reopen x ∷ xs) ys = expansions_append xs ys

pub broken_append : (xs ys : List Work) → broken_expansions (xs ++ ys) ≡ broken_expansions xs + broken_expansions ys
broken_append [] ys = omega arith
broken_append (expand own ∷ xs) ys = broken_append xs ys
broken_append (break_off own offers ∷ xs) ys = omega (arith, broken_append xs ys)
broken_append (cut own ∷ xs) ys = broken_append xs ys
broken_append (take_goal own ∷ xs) ys = broken_append xs ys
broken_append (lower cost ∷ xs) ys = broken_append xs ys
broken_append (reopen x ∷ xs) ys = broken_append xs ys

pub lowerings_append : (xs ys : List Work) → lowerings (xs ++ ys) ≡ lowerings xs + lowerings ys
lowerings_append [] ys = omega arith
lowerings_append (expand own ∷ xs) ys = lowerings_append xs ys
lowerings_append (break_off own offers ∷ xs) ys = lowerings_append xs ys
lowerings_append (cut own ∷ xs) ys = lowerings_append xs ys
lowerings_append (take_goal own ∷ xs) ys = lowerings_append xs ys
lowerings_append (lower cost ∷ xs) ys = omega (arith, lowerings_append xs ys)
lowerings_append (reopen x ∷ xs) ys = lowerings_append xs ys

pub reopenings_append : (xs ys : List Work) → reopenings (xs ++ ys) ≡ reopenings xs + reopenings ys
reopenings_append [] ys = omega arith
reopenings_append (expand own ∷ xs) ys = reopenings_append xs ys
reopenings_append (break_off own offers ∷ xs) ys = reopenings_append xs ys
reopenings_append (cut own ∷ xs) ys = reopenings_append xs ys
reopenings_append (take_goal own ∷ xs) ys = reopenings_append xs ys
reopenings_append (lower cost ∷ xs) ys = reopenings_append xs ys
reopenings_append (reopen x ∷ xs) ys = omega (arith, reopenings_append xs ys)

pub work_goes_on : WorkGoesOn
work_goes_on space guide works more old between new one two =
    (comes_append space guide works more old between new one two, expansions_append works more, broken_append works more, lowerings_append works more, reopenings_append works more)

pub weights_stay : WeightsStay
weights_stay space guide [] w v h none = ap (λ (q : Store). q.weight) h
weights_stay space guide (expand own ∷ xs) w v h none = weights_stay space guide xs (store_after space guide (expand own) w) v h.1 none
weights_stay space guide (break_off own offers ∷ xs) w v h none = weights_stay space guide xs (store_after space guide (break_off own offers) w) v h.1 none
weights_stay space guide (cut own ∷ xs) w v h none = weights_stay space guide xs (store_after space guide (cut own) w) v h.1 none
weights_stay space guide (take_goal own ∷ xs) w v h none = weights_stay space guide xs (store_after space guide (take_goal own) w) v h.1 none
weights_stay space guide (lower cost ∷ xs) w v h none = weights_stay space guide xs (store_after space guide (lower cost) w) v h.1 none
weights_stay space guide (reopen x ∷ xs) w v h none = absurd (omega (arith, none))

-- work that never reopens may follow, and any that reopens quiet stores
pub never_reopens : (space : Space) (guide : Guide) (xs : List Work) (w : Store) → reopenings xs ≡ 0 → ReopensQuiet space guide xs w
never_reopens space guide [] w none = tt
never_reopens space guide (expand own ∷ xs) w none = never_reopens space guide xs (store_after space guide (expand own) w) none
never_reopens space guide (break_off own offers ∷ xs) w none = never_reopens space guide xs (store_after space guide (break_off own offers) w) none
never_reopens space guide (cut own ∷ xs) w none = never_reopens space guide xs (store_after space guide (cut own) w) none
never_reopens space guide (take_goal own ∷ xs) w none = never_reopens space guide xs (store_after space guide (take_goal own) w) none
never_reopens space guide (lower cost ∷ xs) w none = never_reopens space guide xs (store_after space guide (lower cost) w) none
never_reopens space guide (reopen x ∷ xs) w none = absurd (omega (arith, none))

pub reopens_append : (space : Space) (guide : Guide) (xs ys : List Work) (w v : Store) → Comes space guide xs w v → ReopensQuiet space guide xs w → ReopensQuiet space guide ys v → ReopensQuiet space guide (xs ++ ys) w
reopens_append space guide [] ys w v h one two = subst (ReopensQuiet space guide ys) h two
reopens_append space guide (expand own ∷ xs) ys w v h one two = reopens_append space guide xs ys (store_after space guide (expand own) w) v h.1 one two
reopens_append space guide (break_off own offers ∷ xs) ys w v h one two = reopens_append space guide xs ys (store_after space guide (break_off own offers) w) v h.1 one two
reopens_append space guide (cut own ∷ xs) ys w v h one two = reopens_append space guide xs ys (store_after space guide (cut own) w) v h.1 one two
reopens_append space guide (take_goal own ∷ xs) ys w v h one two = reopens_append space guide xs ys (store_after space guide (take_goal own) w) v h.1 one two
reopens_append space guide (lower cost ∷ xs) ys w v h one two = reopens_append space guide xs ys (store_after space guide (lower cost) w) v h.1 one two
reopens_append space guide (reopen x ∷ xs) ys w v h one two = (one.0, reopens_append space guide xs ys (store_after space guide (reopen x) w) v h.1 one.1 two)
