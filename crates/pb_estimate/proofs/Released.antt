-- Actions that are counted down one after another: what is left of their counters, and what they add.
use Rattle.std.proofs.Common.{◌≡◌, ◌≢◌, ℕ, ◌+◌, ◌-◌, ◌<◌, ◌≤◌, List, [], ◌∷◌, length, get_or, set, take, All, Contains, sym, subst, ap, arith, ◌∙◌, ◌⊎◌, inl, inr}
use Rattle.std.proofs.lemmas.List.{take_more, get_or-take, get_or_default, length-take-le, get_or-set_same, get_or-set_other}
use Rattle.std.proofs.lemmas.List.Elements.{All-more, All-weaker, All-contains_itself, Contains-append_left, Contains-push}
use Rattle.pb_estimate.specs.declared.exploration.AtomCost.{AtomCost}
use Rattle.pb_estimate.specs.Hmax.{IsAtMost}
use Rattle.pb_estimate.specs.Exploring.{cost_in, AreNoLess, AreLowered}
use Rattle.pb_estimate.specs.Relaxed.{RelaxedAction, relaxed_at}
use Rattle.pb_estimate.specs.Tables.{AddsAt, IsAddedBy}

-- ---- lists in ascending order

abbrev pub Ascend : List ℕ → Type 0
Ascend xs = (j k : ℕ) → j < k → k < length xs → get_or xs j 0 < get_or xs k 0

module _ (xs : List ℕ) (i : ℕ) (less : i < length xs) where
  front_at : (k d : ℕ) → k < length (take i xs) → get_or (take i xs) k d ≡ get_or xs k 0
  front_at k d k_less =
      let long : length (take i xs) ≡ i = length-take-le i xs (omega arith) in
      get_or-take i xs k d (omega arith) ∙ get_or_default xs k d 0 (omega arith)

  module _ (ascend : Ascend xs) where
    front_less : (k d : ℕ) → k < length (take i xs) → get_or (take i xs) k d < get_or xs i 0
    front_less k d k_less =
        let long : length (take i xs) ≡ i = length-take-le i xs (omega arith) in
        subst (λ n. n < get_or xs i 0) (sym (front_at k d k_less)) (ascend k i (omega arith) less)

    pub not_before : Contains (take i xs) (get_or xs i 0) → ⊥
    not_before (k, k_less, e) = let lower : get_or (take i xs) k (get_or xs i 0) < get_or xs i 0 = front_less k (get_or xs i 0) k_less in absurd (omega (arith, lower, e))

    -- what follows for all but the next holds for all before it
    pub all_still : (P Q : ℕ → Type 0) → ((x : ℕ) → x ≢ get_or xs i 0 → P x → Q x) → All P (take i xs) → All Q (take i xs)
    all_still P Q step all k d k_less =
        let lower : get_or (take i xs) k d < get_or xs i 0 = front_less k d k_less in
        step (get_or (take i xs) k d) (λ e. absurd (omega (arith, lower, e))) (all k d k_less)

    pub apart_from_front : (x : ℕ) → Contains (take i xs) x → x ≢ get_or xs i 0
    apart_from_front x among e = not_before (subst (λ n. Contains (take i xs) n) e among)

  pub in_front : (x : ℕ) → Contains (take i xs) x → Contains (take (i + 1) xs) x
  in_front x among = subst (λ ys. Contains ys x) (sym (take_more xs i 0 less)) (Contains-append_left (take i xs) (get_or xs i 0 ∷ []) x among)

  pub in_next : Contains (take (i + 1) xs) (get_or xs i 0)
  in_next = subst (λ ys. Contains ys (get_or xs i 0)) (sym (take_more xs i 0 less)) (Contains-push (take i xs) (get_or xs i 0))

-- ---- an action more is counted down

-- its counter is one less
module _ (users : List ℕ) (i : ℕ) (less : i < length users) (ascend : Ascend users) (old before after : List ℕ)
    (inside : get_or users i 0 < length before) (some : 1 ≤ get_or before (get_or users i 0) 0)
    (is : after ≡ set before (get_or users i 0) (get_or before (get_or users i 0) 0 - 1)) where
  pub here : get_or after (get_or users i 0) 0 + 1 ≡ get_or before (get_or users i 0) 0
  here =
      let e : get_or after (get_or users i 0) 0 ≡ get_or before (get_or users i 0) 0 - 1 =
      ap (λ xs. get_or xs (get_or users i 0) 0) is ∙ get_or-set_same before (get_or users i 0) (get_or before (get_or users i 0) 0 - 1) 0 inside in
      omega arith

  pub there : (user : ℕ) → user ≢ get_or users i 0 → get_or after user 0 ≡ get_or before user 0
  there user apart = ap (λ xs. get_or xs user 0) is ∙ get_or-set_other before (get_or users i 0) user (get_or before (get_or users i 0) 0 - 1) 0 apart

  pub counted_more : All (λ user. get_or before user 0 + 1 ≡ get_or old user 0) (take i users) → ((user : ℕ) → (Contains (take i users) user → ⊥) → get_or before user 0 ≡ get_or old user 0)
      → All (λ user. get_or after user 0 + 1 ≡ get_or old user 0) (take (i + 1) users)
  counted_more counted others =
      All-more (λ user. get_or after user 0 + 1 ≡ get_or old user 0) users i 0 less
      (all_still users i less ascend (λ user. get_or before user 0 + 1 ≡ get_or old user 0) (λ user. get_or after user 0 + 1 ≡ get_or old user 0)
      (λ user apart e. ap (λ n. n + 1) (there user apart) ∙ e) counted)
      (here ∙ others (get_or users i 0) (not_before users i less ascend))

  pub others_more : ((user : ℕ) → (Contains (take i users) user → ⊥) → get_or before user 0 ≡ get_or old user 0)
      → (user : ℕ) → (Contains (take (i + 1) users) user → ⊥) → get_or after user 0 ≡ get_or old user 0
  others_more others user off =
      there user (λ e. off (subst (λ n. Contains (take (i + 1) users) n) (sym e) (in_next users i less)))
      ∙ others user (λ among. off (in_front users i less user among))

  module _ (actions : List RelaxedAction) (level : ℕ) (first between last : List AtomCost) (falls : AreNoLess (cost_in between) (cost_in last)) where
    -- what an action without open needs adds is cheap
    abbrev pub IsReached : (counts : List ℕ) → (costs : List AtomCost) → (user : ℕ) → Type 0
    IsReached counts costs user = get_or counts user 0 ≡ 0 → All (λ atom. IsAtMost (cost_in costs atom) (level + (relaxed_at actions user).cost)) (relaxed_at actions user).adds

    pub reaches_more : All (IsReached before between) (take i users) → IsReached after last (get_or users i 0) → All (IsReached after last) (take (i + 1) users)
    reaches_more earlier now =
        All-more (IsReached after last) users i 0 less
        (all_still users i less ascend (IsReached before between) (IsReached after last)
        (λ user apart reach zero.
        All-weaker (λ atom. IsAtMost (cost_in between atom) (level + (relaxed_at actions user).cost)) (λ atom. IsAtMost (cost_in last atom) (level + (relaxed_at actions user).cost))
        (λ atom h. falls atom (level + (relaxed_at actions user).cost) h) (relaxed_at actions user).adds (reach (sym (there user apart) ∙ zero))) earlier)
        now

    pub only_more : ((atom cost : ℕ) → IsAtMost (cost_in between atom) cost → IsAtMost (cost_in first atom) cost ⊎ ((user : ℕ) × Contains (take i users) user × IsAddedBy actions level before user atom cost))
        → ((atom cost : ℕ) → IsAtMost (cost_in last atom) cost → IsAtMost (cost_in between atom) cost ⊎ IsAddedBy actions level after (get_or users i 0) atom cost)
        → (atom cost : ℕ) → IsAtMost (cost_in last atom) cost → IsAtMost (cost_in first atom) cost ⊎ ((user : ℕ) × Contains (take (i + 1) users) user × IsAddedBy actions level after user atom cost)
    only_more earlier now atom cost h = go (now atom cost h) where
      before_it : IsAtMost (cost_in first atom) cost ⊎ ((user : ℕ) × Contains (take i users) user × IsAddedBy actions level before user atom cost)
          → IsAtMost (cost_in first atom) cost ⊎ ((user : ℕ) × Contains (take (i + 1) users) user × IsAddedBy actions level after user atom cost)
      before_it (inl was) = inl was
      before_it (inr (user, among, (zero, adds))) =
          inr (user, in_front users i less user among, (there user (apart_from_front users i less ascend user among) ∙ zero, adds))

      go : IsAtMost (cost_in between atom) cost ⊎ IsAddedBy actions level after (get_or users i 0) atom cost
          → IsAtMost (cost_in first atom) cost ⊎ ((user : ℕ) × Contains (take (i + 1) users) user × IsAddedBy actions level after user atom cost)
      go (inl was) = before_it (earlier atom cost was)
      go (inr by) = inr (get_or users i 0, in_next users i less, by)

-- ---- an action more that needs nothing

module _ (users : List ℕ) (i : ℕ) (less : i < length users) (actions : List RelaxedAction) (first between last : List AtomCost)
    (low : (atom c : ℕ) → IsAtMost (cost_in last atom) c
    → IsAtMost (cost_in between atom) c ⊎ (Contains (relaxed_at actions (get_or users i 0)).adds atom × ((relaxed_at actions (get_or users i 0)).cost ≤ c))) where
  pub only_free : ((atom cost : ℕ) → IsAtMost (cost_in between atom) cost → IsAtMost (cost_in first atom) cost ⊎ ((user : ℕ) × Contains (take i users) user × AddsAt (relaxed_at actions user) 0 atom cost))
      → (atom cost : ℕ) → IsAtMost (cost_in last atom) cost → IsAtMost (cost_in first atom) cost ⊎ ((user : ℕ) × Contains (take (i + 1) users) user × AddsAt (relaxed_at actions user) 0 atom cost)
  only_free earlier atom cost h = go (low atom cost h) where
    before_it : IsAtMost (cost_in first atom) cost ⊎ ((user : ℕ) × Contains (take i users) user × AddsAt (relaxed_at actions user) 0 atom cost)
        → IsAtMost (cost_in first atom) cost ⊎ ((user : ℕ) × Contains (take (i + 1) users) user × AddsAt (relaxed_at actions user) 0 atom cost)
    before_it (inl was) = inl was
    before_it (inr (user, among, adds)) = inr (user, in_front users i less user among, adds)

    go : IsAtMost (cost_in between atom) cost ⊎ (Contains (relaxed_at actions (get_or users i 0)).adds atom × ((relaxed_at actions (get_or users i 0)).cost ≤ cost))
        → IsAtMost (cost_in first atom) cost ⊎ ((user : ℕ) × Contains (take (i + 1) users) user × AddsAt (relaxed_at actions user) 0 atom cost)
    go (inl was) = before_it (earlier atom cost was)
    go (inr (among, le)) = inr (get_or users i 0, in_next users i less, (among, omega (arith, le)))

module _ (users : List ℕ) (i : ℕ) (less : i < length users) (actions : List RelaxedAction) (between last : List AtomCost)
    (low : AreLowered (relaxed_at actions (get_or users i 0)).adds (relaxed_at actions (get_or users i 0)).cost between last) where
  abbrev pub IsFree : (costs : List AtomCost) → (user : ℕ) → Type 0
  IsFree costs user = All (λ atom. IsAtMost (cost_in costs atom) (relaxed_at actions user).cost) (relaxed_at actions user).adds

  pub reaches_free : All (IsFree between) (take i users) → All (IsFree last) (take (i + 1) users)
  reaches_free earlier =
      All-more (IsFree last) users i 0 less
      (All-weaker (IsFree between) (IsFree last)
      (λ user. All-weaker (λ atom. IsAtMost (cost_in between atom) (relaxed_at actions user).cost) (λ atom. IsAtMost (cost_in last atom) (relaxed_at actions user).cost)
      (λ atom h. (low atom (relaxed_at actions user).cost).1 (inl h)) (relaxed_at actions user).adds) (take i users) earlier)
      (All-weaker (Contains (relaxed_at actions (get_or users i 0)).adds) (λ atom. IsAtMost (cost_in last atom) (relaxed_at actions (get_or users i 0)).cost)
      (λ atom among. (low atom (relaxed_at actions (get_or users i 0)).cost).1 (inr (among, omega arith))) (relaxed_at actions (get_or users i 0)).adds
      (All-contains_itself (relaxed_at actions (get_or users i 0)).adds))
