-- Work without a reopening never leads back to the rows from which it began, where it made an expansion.
use Rattle.std.proofs.Common.{◌≡◌, ℕ, ◌+◌, ◌<◌, cond, nat_lt, List, [], ◌∷◌, Option, Some, None, refl, sym, ap, subst, arith, ◌⊎◌, inl, inr}
use Rattle.pb_model.specs.declared.row.Row.{Row}
use Rattle.pb_model.specs.declared.row.Status.{Status}
use Rattle.pb_model.specs.declared.row.Status.TheVariants.{Opened, Closed, Cut}
use Rattle.pb_model.specs.declared.row.Succ.{Succ}
use Rattle.pb_model.specs.Space.{Space, steps}
use Rattle.std.specs.Prelude.{take}
use Rattle.pb_model.specs.Guide.{Guide}
use Rattle.pb_model.specs.Store.{Store, is_place_of}
use Rattle.pb_model.specs.Work.{Work, expand, break_off, cut, take_goal, lower, reopen, offered_row, row_after_offer, row_after_offers, with_status, row_after_status, row_after, g_before, store_after, Comes, expansions, reopenings}
use Rattle.pb_model.proofs.Callers.{by_cases, below, own_place}
use Rattle.pb_machine.specs.Laws.{ReturnsShowWork}
use Rattle.pb_machine.proofs.LeaseWork.{none_reopens}
use Rattle.pb_machine.proofs.Moments.{comes_back}

-- a place that had a row has one of a lower g, or of the same g that isn't Opened anew
abbrev Falls : Option Row → Option Row → Type 0
Falls None new = Unit {0}
Falls (Some row) None = ⊥
Falls (Some row) (Some new) = (new.g < row.g) ⊎ ((new.g ≡ row.g) × (new.status ≡ Opened → row.status ≡ Opened))

-- and it has another row than before: a new one, or of a lower g, or one that is Opened no longer
abbrev Changes : Option Row → Option Row → Type 0
Changes None None = ⊥
Changes None (Some new) = Unit {0}
Changes (Some row) None = ⊥
Changes (Some row) (Some new) = (new.g < row.g) ⊎ ((new.g ≡ row.g) × (row.status ≡ Opened) × (new.status ≡ Opened → ⊥))

falls_self : (o : Option Row) → Falls o o
falls_self None = tt
falls_self (Some row) = inr (refl, λ e. e)

falls_on : (a b c : Option Row) → Falls a b → Falls b c → Falls a c
falls_on None b c h k = tt
falls_on (Some x) None c h k = absurd h
falls_on (Some x) (Some y) None h k = absurd k
falls_on (Some x) (Some y) (Some z) (inl h) (inl k) = inl (omega (arith, h, k))
falls_on (Some x) (Some y) (Some z) (inl h) (inr k) = inl (omega (arith, h, k.0))
falls_on (Some x) (Some y) (Some z) (inr h) (inl k) = inl (omega (arith, h.0, k))
falls_on (Some x) (Some y) (Some z) (inr h) (inr k) = inr (omega (arith, h.0, k.0), λ e. h.1 (k.1 e))

changes_then_falls : (a b c : Option Row) → Changes a b → Falls b c → Changes a c
changes_then_falls None None c h k = absurd h
changes_then_falls None (Some y) None h k = absurd k
changes_then_falls None (Some y) (Some z) h k = tt
changes_then_falls (Some x) None c h k = absurd h
changes_then_falls (Some x) (Some y) None h k = absurd k
changes_then_falls (Some x) (Some y) (Some z) (inl h) (inl k) = inl (omega (arith, h, k))
changes_then_falls (Some x) (Some y) (Some z) (inl h) (inr k) = inl (omega (arith, h, k.0))
changes_then_falls (Some x) (Some y) (Some z) (inr h) (inl k) = inl (omega (arith, h.0, k))
changes_then_falls (Some x) (Some y) (Some z) (inr h) (inr k) = inr (omega (arith, h.0, k.0), h.1, λ e. h.2 (k.1 e))

falls_then_changes : (a b c : Option Row) → Falls a b → Changes b c → Changes a c
falls_then_changes None None None h k = absurd k
falls_then_changes None None (Some z) h k = tt
falls_then_changes None (Some y) None h k = absurd k
falls_then_changes None (Some y) (Some z) h k = tt
falls_then_changes (Some x) None c h k = absurd h
falls_then_changes (Some x) (Some y) None h k = absurd k
falls_then_changes (Some x) (Some y) (Some z) (inl h) (inl k) = inl (omega (arith, h, k))
falls_then_changes (Some x) (Some y) (Some z) (inl h) (inr k) = inl (omega (arith, h, k.0))
falls_then_changes (Some x) (Some y) (Some z) (inr h) (inl k) = inl (omega (arith, h.0, k))
falls_then_changes (Some x) (Some y) (Some z) (inr h) (inr k) = inr (omega (arith, h.0, k.0), h.1 k.1, k.2)

not_same : (o : Option Row) → Changes o o → ⊥
not_same None h = h
not_same (Some row) (inl h) = absurd (omega (arith, h))
not_same (Some row) (inr h) = h.2 h.1

module _ (space : Space) (guide : Guide) where
  falls_offer : (own g : ℕ) (y : Succ) (home state : ℕ) (o : Option Row) → Falls o (row_after_offer guide own g y home state o)
  falls_offer own g y home state o = by_cases (is_place_of guide y.state home state)
      (λ e. subst (Falls o) (sym (ap (λ r. cond r (Some (offered_row (g + y.cost) (guide.estimate state) (Some own) y.action o)) o) e)) (offered o))
      (λ e. subst (Falls o) (sym (ap (λ r. cond r (Some (offered_row (g + y.cost) (guide.estimate state) (Some own) y.action o)) o) e)) (falls_self o))
    where
      offered : (o : Option Row) → Falls o (Some (offered_row (g + y.cost) (guide.estimate state) (Some own) y.action o))
      offered None = tt
      offered (Some row) = by_cases (nat_lt (g + y.cost) row.g)
          (λ e. subst (λ (q : Row). Falls (Some row) (Some q))
          (sym (ap (λ r. cond r (record { g = g + y.cost; estimate = row.estimate; parent = Some own; action = y.action; status = Opened }) row) e)) (inl (below (g + y.cost) row.g e)))
          (λ e. subst (λ (q : Row). Falls (Some row) (Some q))
          (sym (ap (λ r. cond r (record { g = g + y.cost; estimate = row.estimate; parent = Some own; action = y.action; status = Opened }) row) e)) (falls_self (Some row)))

  falls_offers : (own g : ℕ) (ys : List Succ) (home state : ℕ) (o : Option Row) → Falls o (row_after_offers guide own g ys home state o)
  falls_offers own g [] home state o = falls_self o
  falls_offers own g (y ∷ ys) home state o =
      falls_on o (row_after_offer guide own g y home state o) (row_after_offers guide own g ys home state (row_after_offer guide own g y home state o))
      (falls_offer own g y home state o) (falls_offers own g ys home state (row_after_offer guide own g y home state o))

  falls_status : (own : ℕ) (status : Status) (home state : ℕ) (o : Option Row) → (status ≡ Opened → ⊥) → Falls o (row_after_status guide own status home state o)
  falls_status own status home state o never = by_cases (is_place_of guide own home state)
      (λ e. subst (Falls o) (sym (ap (λ r. cond r (with_status status o) o) e)) (set o))
      (λ e. subst (Falls o) (sym (ap (λ r. cond r (with_status status o) o) e)) (falls_self o))
    where
      set : (o : Option Row) → Falls o (with_status status o)
      set None = tt
      set (Some row) = inr (refl, λ e. absurd (never e))

  not_closed : Closed ≡ Opened → ⊥
  not_closed e = cc

  not_cut : Cut ≡ Opened → ⊥
  not_cut e = cc

  falls_work : (x : Work) (g : ℕ) (u : Option ℕ) (home state : ℕ) (o : Option Row) → reopenings (x ∷ []) ≡ 0 → Falls o (row_after space guide x g u home state o)
  falls_work (expand own) g u home state o never =
      falls_on o (row_after_offers guide own g (steps space own) home state o) (row_after_status guide own Closed home state (row_after_offers guide own g (steps space own) home state o))
      (falls_offers own g (steps space own) home state o) (falls_status own Closed home state (row_after_offers guide own g (steps space own) home state o) not_closed)
  falls_work (break_off own offers) g u home state o never = falls_offers own g (take offers (steps space own)) home state o
  falls_work (cut own) g u home state o never = falls_status own Cut home state o not_cut
  falls_work (take_goal own) g u home state o never = falls_status own Cut home state o not_cut
  falls_work (lower cost) g u home state o never = falls_self o
  falls_work (reopen w) g u home state o never = absurd (omega (arith, never))

  -- an expansion changes its own row
  expansion_changes : (own g : ℕ) (u : Option ℕ) (row : Row) (o : Option Row) → o ≡ Some row → row.status ≡ Opened → Changes o (row_after space guide (expand own) g u (guide.home own) own o)
  expansion_changes own g u row o is opened =
      let later : Option Row = row_after_offers guide own g (steps space own) (guide.home own) own o in
      subst (Changes o) (sym (ap (λ r. cond r (with_status Closed later) later) (own_place guide own))) (go o later is (falls_offers own g (steps space own) (guide.home own) own o))
    where
      go : (o later : Option Row) → o ≡ Some row → Falls o later → Changes o (with_status Closed later)
      go None later h k = cc
      go (Some x) None h k = absurd k
      go (Some x) (Some y) h (inl k) = inl k
      go (Some x) (Some y) h (inr k) =
          let same : x ≡ row = cc in
          inr (k.0, subst (λ (r : Row). r.status ≡ Opened) (sym same) opened, not_closed)

  falls_all : (xs : List Work) (w v : Store) (home state : ℕ) → reopenings xs ≡ 0 → Comes space guide xs w v → Falls (w.rows home state) (v.rows home state)
  falls_all [] w v home state never comes = subst (λ (q : Store). Falls (w.rows home state) (q.rows home state)) (sym comes) (falls_self (w.rows home state))
  falls_all (expand own ∷ xs) w v home state never comes = step (expand own) xs w v home state refl never comes (falls_all xs (store_after space guide (expand own) w) v home state never comes.1)
    where
      step : (x : Work) (xs : List Work) (w v : Store) (home state : ℕ) → reopenings (x ∷ []) ≡ 0 → reopenings xs ≡ 0 → Comes space guide (x ∷ xs) w v → Falls ((store_after space guide x w).rows home state) (v.rows home state) → Falls (w.rows home state) (v.rows home state)
      step x xs w v home state one never comes rest =
          falls_on (w.rows home state) ((store_after space guide x w).rows home state) (v.rows home state) (falls_work x (g_before guide w x) w.incumbent home state (w.rows home state) one) rest
  falls_all (break_off own offers ∷ xs) w v home state never comes =
      falls_on (w.rows home state) ((store_after space guide (break_off own offers) w).rows home state) (v.rows home state)
      (falls_work (break_off own offers) (g_before guide w (break_off own offers)) w.incumbent home state (w.rows home state) refl) (falls_all xs (store_after space guide (break_off own offers) w) v home state never comes.1)
  falls_all (cut own ∷ xs) w v home state never comes =
      falls_on (w.rows home state) ((store_after space guide (cut own) w).rows home state) (v.rows home state)
      (falls_work (cut own) (g_before guide w (cut own)) w.incumbent home state (w.rows home state) refl) (falls_all xs (store_after space guide (cut own) w) v home state never comes.1)
  falls_all (take_goal own ∷ xs) w v home state never comes =
      falls_on (w.rows home state) ((store_after space guide (take_goal own) w).rows home state) (v.rows home state)
      (falls_work (take_goal own) (g_before guide w (take_goal own)) w.incumbent home state (w.rows home state) refl) (falls_all xs (store_after space guide (take_goal own) w) v home state never comes.1)
  falls_all (lower cost ∷ xs) w v home state never comes = falls_all xs (store_after space guide (lower cost) w) v home state never comes.1
  falls_all (reopen x ∷ xs) w v home state never comes = absurd (omega (arith, never))

  abbrev HasChanged : Store → Store → Type 0
  HasChanged w v = (home : ℕ) × (state : ℕ) × Changes (w.rows home state) (v.rows home state)

  after : (x : Work) (w v : Store) → reopenings (x ∷ []) ≡ 0 → HasChanged (store_after space guide x w) v → HasChanged w v
  after x w v one c = (
    c.0,
    c.1,
    falls_then_changes (w.rows c.0 c.1) ((store_after space guide x w).rows c.0 c.1) (v.rows c.0 c.1) (falls_work x (g_before guide w x) w.incumbent c.0 c.1 (w.rows c.0 c.1) one) c.2,
  )

  pub shows : (xs : List Work) (w v : Store) → reopenings xs ≡ 0 → Comes space guide xs w v → 0 < expansions xs → HasChanged w v
  shows [] w v never comes some = absurd (omega (arith, some))
  shows (expand own ∷ xs) w v never comes some = (
    guide.home own,
    own,
    changes_then_falls (w.rows (guide.home own) own) ((store_after space guide (expand own) w).rows (guide.home own) own) (v.rows (guide.home own) own)
        (expansion_changes own (g_before guide w (expand own)) w.incumbent comes.0.0.0 (w.rows (guide.home own) own) comes.0.0.1 comes.0.0.2)
        (falls_all xs (store_after space guide (expand own) w) v (guide.home own) own never comes.1),
  )
  shows (break_off own offers ∷ xs) w v never comes some = after (break_off own offers) w v refl (shows xs (store_after space guide (break_off own offers) w) v never comes.1 some)
  shows (cut own ∷ xs) w v never comes some = after (cut own) w v refl (shows xs (store_after space guide (cut own) w) v never comes.1 some)
  shows (take_goal own ∷ xs) w v never comes some = after (take_goal own) w v refl (shows xs (store_after space guide (take_goal own) w) v never comes.1 some)
  shows (lower cost ∷ xs) w v never comes some = after (lower cost) w v refl (shows xs (store_after space guide (lower cost) w) v never comes.1 some)
  shows (reopen x ∷ xs) w v never comes some = absurd (omega (arith, never))

pub returns_show_work : ReturnsShowWork
returns_show_work setup greatest_cost machine worker used few new is lawful back some same =
    let works = back.work.works in
    let never = none_reopens setup greatest_cost is back.grant.block (machine.known worker) works back.work.on in
    let c = shows setup.space setup.guide works machine.store new never (comes_back setup greatest_cost is machine worker used few new lawful back) (omega (arith, back.work.used_is, some)) in
    not_same (machine.store.rows c.0 c.1) (subst (Changes (machine.store.rows c.0 c.1)) (same c.0 c.1) c.2)
