-- When a cost is enough: the least and the greatest of costs, and what an atom costs by actions.
use Rattle.std.proofs.Common.{◌≡◌, ℕ, zero, suc, ◌+◌, ◌<◌, ◌≤◌, min, Bool, true, false, List, [], ◌∷◌, length, Contains, Option, None, Some, option_map, if◌then◌else◌, refl, sym, subst, ap, arith, ◌⊎◌, inl, inr}
use Rattle.std.proofs.Math.Nat.{eq-or-lt_of_le}
use Rattle.pb_task.specs.declared.parts.GroundAction.{GroundAction}
use Rattle.pb_task.specs.Strips.{has_atom}
use Rattle.pb_estimate.specs.Hmax.{IsAtMost, lesser, greater, dearest, cost_by, cheapest_by}

-- ---- costs that are enough

pub at_most_more : (one : Option ℕ) (cost more : ℕ) → cost ≤ more → IsAtMost one cost → IsAtMost one more
at_most_more None cost more le h = h
at_most_more (Some n) cost more le h = omega arith

pub lesser_left : (one other : Option ℕ) (cost : ℕ) → IsAtMost one cost → IsAtMost (lesser one other) cost
lesser_left None other cost h = absurd h
lesser_left (Some n) None cost h = h
lesser_left (Some n) (Some m) cost h = omega arith

pub lesser_right : (one other : Option ℕ) (cost : ℕ) → IsAtMost other cost → IsAtMost (lesser one other) cost
lesser_right None other cost h = h
lesser_right (Some n) None cost h = absurd h
lesser_right (Some n) (Some m) cost h = omega arith

lesser_is : (n m cost : ℕ) → min n m ≤ cost → (n ≤ cost) ⊎ (m ≤ cost)
lesser_is n m cost h = grind arith

pub lesser_cases : (one other : Option ℕ) (cost : ℕ) → IsAtMost (lesser one other) cost → IsAtMost one cost ⊎ IsAtMost other cost
lesser_cases None other cost h = inr h
lesser_cases (Some n) None cost h = inl h
lesser_cases (Some n) (Some m) cost h = lesser_is n m cost h

pub greater_left : (one other : Option ℕ) (cost : ℕ) → IsAtMost (greater one other) cost → IsAtMost one cost
greater_left None other cost h = h
greater_left (Some n) None cost h = absurd h
greater_left (Some n) (Some m) cost h = omega arith

pub greater_right : (one other : Option ℕ) (cost : ℕ) → IsAtMost (greater one other) cost → IsAtMost other cost
greater_right None other cost h = absurd h
greater_right (Some n) None cost h = h
greater_right (Some n) (Some m) cost h = omega arith

pub greater_both : (one other : Option ℕ) (cost : ℕ) → IsAtMost one cost → IsAtMost other cost → IsAtMost (greater one other) cost
greater_both None other cost h k = h
greater_both (Some n) None cost h k = k
greater_both (Some n) (Some m) cost h k = omega arith

-- costs for which the same is enough are the same
pub same_cost : (one other : Option ℕ) → ((cost : ℕ) → IsAtMost one cost → IsAtMost other cost) → ((cost : ℕ) → IsAtMost other cost → IsAtMost one cost) → one ≡ other
same_cost None None h k = refl
same_cost None (Some m) h k = absurd (k m (omega arith))
same_cost (Some n) None h k = absurd (h n (omega arith))
same_cost (Some n) (Some m) h k = ap (λ (c : ℕ). Some c) (let le : m ≤ n = h n (omega arith) in let ge : n ≤ m = k m (omega arith) in let e : n ≡ m = omega arith in e)

-- ---- the dearest atom of a set

pub dearest_at : (costs : ℕ → Option ℕ) (set count cost : ℕ) → IsAtMost (dearest costs set count) cost → (atom : ℕ) → atom < count → has_atom set atom ≡ true → IsAtMost (costs atom) cost
dearest_at costs set zero cost h atom less has = absurd (omega (arith, less))
dearest_at costs set (suc last) cost h atom less has = go (dearest_at costs set last cost (greater_left (dearest costs set last) (if has_atom set last then costs last else Some 0) cost h) atom) (eq-or-lt_of_le (let le : atom ≤ last = omega (arith, less) in le)) where
  here : (test : Bool) → test ≡ true → IsAtMost (if test then costs last else Some 0) cost → IsAtMost (costs last) cost
  here true e h = h
  here false e h = cc

  go : (atom < last → has_atom set atom ≡ true → IsAtMost (costs atom) cost) → (atom ≡ last) ⊎ (atom < last) → IsAtMost (costs atom) cost
  go lower (inl e) =
      subst (λ a. IsAtMost (costs a) cost) (sym e)
      (here (has_atom set last) (subst (λ a. has_atom set a ≡ true) e has) (greater_right (dearest costs set last) (if has_atom set last then costs last else Some 0) cost h))
  go lower (inr is) = lower is has

pub dearest_from : (costs : ℕ → Option ℕ) (set count cost : ℕ) → ((atom : ℕ) → atom < count → has_atom set atom ≡ true → IsAtMost (costs atom) cost) → IsAtMost (dearest costs set count) cost
dearest_from costs set zero cost each = omega arith
dearest_from costs set (suc last) cost each =
    greater_both (dearest costs set last) (if has_atom set last then costs last else Some 0) cost
    (dearest_from costs set last cost (λ atom less has. each atom (omega (arith, less)) has))
    (here (has_atom set last) (λ has. each last (omega arith) has))
  where
    here : (test : Bool) → (test ≡ true → IsAtMost (costs last) cost) → IsAtMost (if test then costs last else Some 0) cost
    here true h = h refl
    here false h = omega arith

-- ---- what an atom costs by an action

-- how an atom comes to cost at most this much by an action
pub record CostsBy (count : ℕ) (costs : ℕ → Option ℕ) (atom : ℕ) (action : GroundAction) (cost : ℕ) : Type 0 where
  pub adds : has_atom action.adds atom ≡ true
  pub needed : ℕ
  pub needs : (need : ℕ) → need < count → has_atom action.needs need ≡ true → IsAtMost (costs need) needed
  pub sum : action.cost + needed ≤ cost

pub cost_by_is : (count : ℕ) (costs : ℕ → Option ℕ) (atom : ℕ) (action : GroundAction) (cost : ℕ) → IsAtMost (cost_by count costs atom action) cost → CostsBy count costs atom action cost
cost_by_is count costs atom action cost h = go (has_atom action.adds atom) refl (dearest costs action.needs count) refl h where
  go : (test : Bool) → has_atom action.adds atom ≡ test → (needed : Option ℕ) → dearest costs action.needs count ≡ needed
      → IsAtMost (if test then option_map (λ needed. action.cost + needed) needed else None) cost → CostsBy count costs atom action cost
  go true adds None e h = absurd h
  go true adds (Some n) e h = record {
    adds = adds;
    needed = n;
    needs = dearest_at costs action.needs count n (subst (λ o. IsAtMost o n) (sym e) (let le : n ≤ n = omega arith in le));
    sum = h;
  }
  go false adds needed e h = absurd h

pub cost_by_from : (count : ℕ) (costs : ℕ → Option ℕ) (atom : ℕ) (action : GroundAction) (cost : ℕ) → CostsBy count costs atom action cost → IsAtMost (cost_by count costs atom action) cost
cost_by_from count costs atom action cost by = go (has_atom action.adds atom) by.adds (dearest costs action.needs count) (dearest_from costs action.needs count by.needed by.needs) where
  go : (test : Bool) → test ≡ true → (needed : Option ℕ) → IsAtMost needed by.needed → IsAtMost (if test then option_map (λ needed. action.cost + needed) needed else None) cost
  go true e None h = absurd h
  go true e (Some n) h = let sum : action.cost + by.needed ≤ cost = by.sum in omega arith
  go false e needed h = cc

-- ---- what it costs by the cheapest of some actions

-- one of these actions makes it cost at most this much
pub record CostsByOne (count : ℕ) (costs : ℕ → Option ℕ) (atom : ℕ) (actions : List GroundAction) (cost : ℕ) : Type 0 where
  pub action : GroundAction
  pub among : Contains actions action
  pub by : CostsBy count costs atom action cost

pub cheapest_is : (count : ℕ) (costs : ℕ → Option ℕ) (atom : ℕ) (actions : List GroundAction) (cost : ℕ) → IsAtMost (cheapest_by count costs atom actions) cost → CostsByOne count costs atom actions cost
cheapest_is count costs atom [] cost h = absurd h
cheapest_is count costs atom (action ∷ actions) cost h = go (cheapest_is count costs atom actions cost) (lesser_cases (cost_by count costs atom action) (cheapest_by count costs atom actions) cost h) where
  go : (IsAtMost (cheapest_by count costs atom actions) cost → CostsByOne count costs atom actions cost)
      → IsAtMost (cost_by count costs atom action) cost ⊎ IsAtMost (cheapest_by count costs atom actions) cost → CostsByOne count costs atom (action ∷ actions) cost
  go rest (inl here) = record { action = action; among = (0, omega arith, refl); by = cost_by_is count costs atom action cost here }
  go rest (inr there) =
      let found : CostsByOne count costs atom actions cost = rest there in
      record { action = found.action; among = (suc found.among.0, let less : found.among.0 < length actions = found.among.1 in omega arith, found.among.2); by = found.by }

pub cheapest_from : (count : ℕ) (costs : ℕ → Option ℕ) (atom : ℕ) (actions : List GroundAction) (cost : ℕ) (action : GroundAction) → Contains actions action → CostsBy count costs atom action cost
    → IsAtMost (cheapest_by count costs atom actions) cost
cheapest_from count costs atom [] cost action (k, less, e) by = absurd (omega (arith, less))
cheapest_from count costs atom (first ∷ actions) cost action (zero, less, e) by =
    lesser_left (cost_by count costs atom first) (cheapest_by count costs atom actions) cost (cost_by_from count costs atom first cost (subst (λ a. CostsBy count costs atom a cost) (sym e) by))
cheapest_from count costs atom (first ∷ actions) cost action (suc k, less, e) by =
    lesser_right (cost_by count costs atom first) (cheapest_by count costs atom actions) cost (cheapest_from count costs atom actions cost action (k, omega (arith, less), e) by)
