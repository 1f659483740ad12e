-- What stays true of an owner's rows while it works alone.
use Rattle.std.proofs.Common.{◌≡◌, ℕ, ◌+◌, ◌*◌, ◌≤◌, ◌==◌, Bool, true, false, cond, IsTrue, List, [], ◌∷◌, take, Option, Some, None, refl, sym, ap, ◌∙◌, subst, arith, ◌⊎◌, inl, inr, mul-add, mul-one}
use Rattle.std.specs.List.{AllByRecursion}
use Rattle.pb_model.specs.declared.row.Status.{Status}
use Rattle.pb_model.specs.declared.row.Status.TheVariants.{Closed, Cut}
use Rattle.pb_model.specs.declared.row.Row.{Row}
use Rattle.pb_model.specs.declared.row.Succ.{Succ}
use Rattle.pb_model.specs.Space.{Space, Steps, steps, IsProper}
use Rattle.pb_model.specs.Weight.{Weight}
use Rattle.pb_model.specs.Guide.{Guide}
use Rattle.pb_model.specs.Store.{Part, Store, row_at, is_place_of}
use Rattle.pb_model.specs.Work.{Work, expand, break_off, cut, take_goal, lower, reopen, row_after_offers, with_status, row_after_status, row_after, g_of, g_before, May, expansions, broken_expansions}
use Rattle.pb_model.proofs.Callers.{equal_self}
use Rattle.pb_model.proofs.Callers.{some_row, Left, offers_leave}
use Rattle.pb_model.proofs.Callers.{IsStep, are_steps, all_take}
use Rattle.pb_hashed.specs.Mailed.{Owner, share_store}
use Rattle.pb_hashed.specs.MailWork.{IsOwnWork, share_after, ComesAlone}
use Rattle.pb_owner.specs.Shares.{AreOwn, AreOwnWithin, HasWorked}

none_some : {A : Type 0} (row : Row) → ◌≡◌ {A = Option Row} None (Some row) → A
none_some row e = cc

module _ (space : Space) (guide : Guide) (weight : Weight) (number : ℕ) where
  -- the row was there with this g, or is new by a step from a row of the owner
  abbrev From : (few : ℕ) → Part → (state : ℕ) → Row → Type 0
  From few part state row =
      ((q : Row) × (part state ≡ Some q) × (row.g ≡ q.g))
      ⊎ ((own : ℕ) × (q : Row) × (cost : ℕ) × (part own ≡ Some q) × (guide.home state ≡ number) × Steps space own row.action state cost × (row.g ≡ q.g + cost) × (1 ≤ few))

  -- a status that is set leaves the g and where the row is from
  of_status : (few : ℕ) (part : Part) (state : ℕ) (status : Status) (old : Option Row) (row : Row) → ((r : Row) → old ≡ Some r → From few part state r) → with_status status old ≡ Some row → From few part state row
  of_status few part state status None row from is = none_some row is
  of_status few part state status (Some r) row from is = subst (From few part state) (some_row (record r { status = status }) row is) (from r refl)

  marked : (few : ℕ) (part : Part) (own state : ℕ) (status : Status) (old : Option Row) (row : Row) → ((r : Row) → old ≡ Some r → From few part state r)
      → row_after_status guide own status number state old ≡ Some row → From few part state row
  marked few part own state status old row from is = go (is_place_of guide own number state) refl
    where
      go : (b : Bool) → is_place_of guide own number state ≡ b → From few part state row
      go true e = of_status few part state status old row from (sym (ap (λ b. cond b (with_status status old) old) e) ∙ is)
      go false e = from row (sym (ap (λ b. cond b (with_status status old) old) e) ∙ is)

  offered : (few : ℕ) (part : Part) (own g : ℕ) (q : Row) → part own ≡ Some q → q.g ≡ g → 1 ≤ few → (succs : List Succ) → AllByRecursion (IsStep space own) succs → (state : ℕ) (row : Row)
      → row_after_offers guide own g succs number state (part state) ≡ Some row → From few part state row
  offered few part own g q found is_g some succs all state row is = go (offers_leave space guide own g succs number state (part state) all)
    where
      go : Left space guide own g number state (part state) (row_after_offers guide own g succs number state (part state)) → From few part state row
      go (inl same) = inl (row, sym same ∙ is, refl)
      go (inr f) =
          let same : f.row ≡ row = some_row f.row row (sym f.is ∙ is) in
          inr (own, q, f.cost, found, sym f.at_home, subst (λ (r : Row). Steps space own r.action state f.cost) same f.step, (let a = ap (λ (r : Row). r.g) same in let b = f.sum in omega arith), some)

  module _ (o : Owner) where
    abbrev s : Store
    s = share_store weight number o

    -- a row of that store is the owner's
    own_found : (own : ℕ) (row : Row) → row_at guide s own ≡ Some row → o.part own ≡ Some row
    own_found own row is = go (guide.home own == number) refl
      where
        go : (b : Bool) → (guide.home own == number) ≡ b → o.part own ≡ Some row
        go true e = sym (ap (λ b. cond b (o.part own) None) e) ∙ is
        go false e = none_some row (sym (ap (λ b. cond b (o.part own) None) e) ∙ is)

    after_row : (x : Work) (state : ℕ) → (share_after space guide weight number x o).part state ≡ row_after space guide x (g_before guide s x) o.incumbent number state (o.part state)
    after_row x state = ap (λ b. row_after space guide x (g_before guide s x) o.incumbent number state (cond b (o.part state) None)) (equal_self number)

    from_one : (x : Work) → IsOwnWork x → May space guide x s → (state : ℕ) (row : Row) → (share_after space guide weight number x o).part state ≡ Some row
        → From (expansions (x ∷ []) + broken_expansions (x ∷ [])) o.part state row
    from_one (expand own) mine may state row is =
        let q : Row = may.0.0 in
        let found = own_found own q may.0.1 in
        marked 1 o.part own state Closed (row_after_offers guide own (g_before guide s (expand own)) (steps space own) number state (o.part state)) row
        (λ r e. offered 1 o.part own (g_before guide s (expand own)) q found (sym (ap g_of may.0.1)) (omega arith) (steps space own) (are_steps space own) state r e) (sym (after_row (expand own) state) ∙ is)
    from_one (break_off own offers) mine may state row is =
        let q : Row = may.0.0 in
        let found = own_found own q may.0.1 in
        offered 1 o.part own (g_before guide s (break_off own offers)) q found (sym (ap g_of may.0.1)) (omega arith) (take offers (steps space own)) (all_take (IsStep space own) offers (steps space own) (are_steps space own)) state row
        (sym (after_row (break_off own offers) state) ∙ is)
    from_one (cut own) mine may state row is = marked 0 o.part own state Cut (o.part state) row (λ r e. inl (r, e, refl)) (sym (after_row (cut own) state) ∙ is)
    from_one (take_goal own) mine may state row is = marked 0 o.part own state Cut (o.part state) row (λ r e. inl (r, e, refl)) (sym (after_row (take_goal own) state) ∙ is)
    from_one (lower cost) mine may state row is = absurd mine
    from_one (reopen w) mine may state row is = absurd mine

  own_from : (few : ℕ) (old new : Part) → AreOwn guide number old → ((state : ℕ) (row : Row) → new state ≡ Some row → From few old state row) → AreOwn guide number new
  own_from few old new are from state row is = go (from state row is)
    where
      go : From few old state row → guide.home state ≡ number
      go (inl h) = are state h.0 h.1
      go (inr h) = h.4

  alone_own : (works : List Work) (old new : Owner) → ComesAlone space guide weight number works old new → AreOwn guide number old.part → AreOwn guide number new.part
  alone_own [] old new is are = subst (λ (o : Owner). AreOwn guide number o.part) (sym is) are
  alone_own (x ∷ xs) old new h are =
      alone_own xs (share_after space guide weight number x old) new h.2 (own_from _ old.part (share_after space guide weight number x old).part are (λ state row is. from_one old x h.0 h.1 state row is))

  pub worked_own : (used broken : ℕ) (old new : Owner) → HasWorked space guide weight number used broken old new → AreOwn guide number old.part → AreOwn guide number new.part
  worked_own used broken old new h are = alone_own h.works old new h.comes are

  module _ (greatest_cost : ℕ) (proper : IsProper space greatest_cost) where
    within_from : (few most : ℕ) (old new : Part) → few ≤ 1 → AreOwnWithin space guide number most old → ((state : ℕ) (row : Row) → new state ≡ Some row → From few old state row)
        → AreOwnWithin space guide number (most + greatest_cost * few) new
    within_from few most old new one are from = record {
      own = own_from few old new are.own from;
      states = λ state row is. which state row (from state row is);
      small = λ state row is. low state row (from state row is);
    }
      where
        which : (state : ℕ) (row : Row) → From few old state row → IsTrue (space.is_state state)
        which state row (inl h) = are.states state h.0 h.1
        which state row (inr h) = proper.to_state h.0 row.action state h.2 h.5

        low : (state : ℕ) (row : Row) → From few old state row → row.g ≤ most + greatest_cost * few
        low state row (inl h) = let a = are.small state h.0 h.1 in let b = h.2 in omega arith
        low state row (inr h) =
            let a = are.small h.0 h.1 h.3 in
            let b = proper.bounded h.0 row.action state h.2 h.5 in
            let c = h.6 in
            let is : few ≡ 1 = (let d = h.7 in omega arith) in
            omega (arith, a, b, c, ap (λ k. greatest_cost * k) is ∙ mul-one greatest_cost)

    few_of : (x : Work) → expansions (x ∷ []) + broken_expansions (x ∷ []) ≤ 1
    few_of (expand own) = omega arith
    few_of (break_off own offers) = omega arith
    few_of (cut own) = omega arith
    few_of (take_goal own) = omega arith
    few_of (lower cost) = omega arith
    few_of (reopen w) = omega arith

    sum_of : (x : Work) (xs : List Work) → (expansions (x ∷ []) + broken_expansions (x ∷ [])) + (expansions xs + broken_expansions xs) ≡ expansions (x ∷ xs) + broken_expansions (x ∷ xs)
    sum_of (expand own) xs = omega arith
    sum_of (break_off own offers) xs = omega arith
    sum_of (cut own) xs = omega arith
    sum_of (take_goal own) xs = omega arith
    sum_of (lower cost) xs = omega arith
    sum_of (reopen w) xs = omega arith

    alone_within : (works : List Work) (most : ℕ) (old new : Owner) → ComesAlone space guide weight number works old new → AreOwnWithin space guide number most old.part
        → AreOwnWithin space guide number (most + greatest_cost * (expansions works + broken_expansions works)) new.part
    alone_within [] most old new is are = subst (λ (o : Owner). AreOwnWithin space guide number (most + greatest_cost * 0) o.part) (sym is) (subst (λ k. AreOwnWithin space guide number k old.part) (omega arith) are)
    alone_within (x ∷ xs) most old new h are =
        let few : ℕ = expansions (x ∷ []) + broken_expansions (x ∷ []) in
        let rest = alone_within xs (most + greatest_cost * few) (share_after space guide weight number x old) new h.2
        (within_from few most old.part (share_after space guide weight number x old).part (few_of x) are (λ state row is. from_one old x h.0 h.1 state row is)) in
        subst (λ k. AreOwnWithin space guide number k new.part)
        (omega (arith, mul-add greatest_cost few (expansions xs + broken_expansions xs), ap (λ k. greatest_cost * k) (sum_of x xs))) rest

    pub worked_within : (used broken most : ℕ) (old new : Owner) → HasWorked space guide weight number used broken old new → AreOwnWithin space guide number most old.part
        → AreOwnWithin space guide number (most + greatest_cost * (used + broken)) new.part
    worked_within used broken most old new h are =
        subst (λ k. AreOwnWithin space guide number (most + greatest_cost * k) new.part) (λ i. h.used_is i + h.broken_is i) (alone_within h.works most old new h.comes are)
