-- When a cost is enough.
use Rattle.std.proofs.Common.{◌≡◌, ℕ, zero, suc, ◌+◌, ◌<◌, ◌≤◌, min, Bool, true, false, nat_le, Option, None, Some, option_map, refl, sym, subst, arith, ◌⊎◌, inl, inr}
use Rattle.std.proofs.lemmas.Bool.{le-leb, leb-true}
use Rattle.std.proofs.Math.Nat.{eq-or-lt_of_le}
use Rattle.pb_model.specs.Space.{Space}
use Rattle.pb_model.specs.Store.{lesser, AtMost}
use Rattle.pb_pattern.specs.Least.{way_by, cheapest_way}

-- the cost is known and at most this
abbrev pub Within : Option ℕ → (cost : ℕ) → Type 0
Within one cost = AtMost one (Some cost)

pub within_more : (one : Option ℕ) (cost more : ℕ) → cost ≤ more → Within one cost → Within one more
within_more None cost more le h = h
within_more (Some n) cost more le h = omega arith

pub lesser_left : (one other : Option ℕ) (cost : ℕ) → Within one cost → Within (lesser one other) cost
lesser_left None other cost h = absurd h
lesser_left (Some n) None cost h = h
lesser_left (Some n) (Some m) cost h = omega arith

pub lesser_right : (one other : Option ℕ) (cost : ℕ) → Within other cost → Within (lesser one other) cost
lesser_right None other cost h = h
lesser_right (Some n) None cost h = absurd h
lesser_right (Some n) (Some m) cost h = omega arith

lesser_is : (n m cost : ℕ) → min n m ≤ cost → (n ≤ cost) ⊎ (m ≤ cost)
lesser_is n m cost h = grind arith

pub lesser_cases : (one other : Option ℕ) (cost : ℕ) → Within (lesser one other) cost → Within one cost ⊎ Within other cost
lesser_cases None other cost h = inr h
lesser_cases (Some n) None cost h = inl h
lesser_cases (Some n) (Some m) cost h = lesser_is n m cost h

pub is_within : Option ℕ → (cost : ℕ) → Bool
is_within None cost = false
is_within (Some n) cost = nat_le n cost

pub within_is : (one : Option ℕ) (cost : ℕ) → is_within one cost ≡ true → Within one cost
unfolding is_within
within_is None cost e = cc
within_is (Some n) cost e = leb-true n cost e

pub is_within_from : (one : Option ℕ) (cost : ℕ) → Within one cost → is_within one cost ≡ true
unfolding is_within
is_within_from None cost h = absurd h
is_within_from (Some n) cost h = le-leb n cost h

-- a cost that is enough is known, and is this or less
pub known : (one : Option ℕ) (cost : ℕ) → Within one cost → (n : ℕ) × (one ≡ Some n) × (n ≤ cost)
known None cost h = absurd h
known (Some n) cost h = (n, refl, h)

-- ---- one step

-- how a state comes to cost at most this much by a step
pub record ByStep (space : Space) (ways : ℕ → Option ℕ) (state count cost : ℕ) : Type 0 where
  pub action : ℕ
  pub below : action < count
  pub to : ℕ
  pub price : ℕ
  pub step : space.step state action ≡ Some (to, price)
  pub rest : ℕ
  pub way : Within (ways to) rest
  pub sum : price + rest ≤ cost

way_by_is : (space : Space) (ways : ℕ → Option ℕ) (state action count cost : ℕ) → action < count → Within (way_by ways (space.step state action)) cost → ByStep space ways state count cost
way_by_is space ways state action count cost less h = go (space.step state action) refl h where
  inner : (to price : ℕ) → space.step state action ≡ Some (to, price) → (way : Option ℕ) → ways to ≡ way → Within (option_map (λ way. price + way) way) cost → ByStep space ways state count cost
  inner to price is None e h = absurd h
  inner to price is (Some n) e h = record {
    action = action;
    below = less;
    to = to;
    price = price;
    step = is;
    rest = n;
    way = subst (λ o. Within o n) (sym e) (let le : n ≤ n = omega arith in le);
    sum = h;
  }

  go : (step : Option (ℕ × ℕ)) → space.step state action ≡ step → Within (way_by ways step) cost → ByStep space ways state count cost
  go None is h = absurd h
  go (Some step) is h = inner step.0 step.1 is (ways step.0) refl h

pub cheapest_is : (space : Space) (ways : ℕ → Option ℕ) (state count cost : ℕ) → Within (cheapest_way space ways state count) cost → ByStep space ways state count cost
cheapest_is space ways state zero cost h = absurd h
cheapest_is space ways state (suc last) cost h =
    go (cheapest_is space ways state last cost) (lesser_cases (cheapest_way space ways state last) (way_by ways (space.step state last)) cost h)
  where
    go : (Within (cheapest_way space ways state last) cost → ByStep space ways state last cost)
        → Within (cheapest_way space ways state last) cost ⊎ Within (way_by ways (space.step state last)) cost → ByStep space ways state (suc last) cost
    go before (inl was) =
        let b = before was in record {
          action = b.action;
          below = (let less : b.action < last = b.below in omega arith);
          to = b.to;
          price = b.price;
          step = b.step;
          rest = b.rest;
          way = b.way;
          sum = b.sum;
        }
    go before (inr by) = way_by_is space ways state last (suc last) cost (omega arith) by

way_by_from : (ways : ℕ → Option ℕ) (found : Option (ℕ × ℕ)) (to price rest cost : ℕ) → found ≡ Some (to, price) → Within (ways to) rest → price + rest ≤ cost → Within (way_by ways found) cost
way_by_from ways found to price rest cost is h sum =
    subst (λ o. Within (way_by ways o) cost) (sym is) (go (ways to) h)
  where
    go : (way : Option ℕ) → Within way rest → Within (option_map (λ way. price + way) way) cost
    go None h = absurd h
    go (Some n) h = omega (arith, sum)

pub cheapest_from : (space : Space) (ways : ℕ → Option ℕ) (state count cost : ℕ) → ByStep space ways state count cost → Within (cheapest_way space ways state count) cost
cheapest_from space ways state zero cost b = absurd (let less : b.action < 0 = b.below in omega arith)
cheapest_from space ways state (suc last) cost b =
    go (cheapest_from space ways state last cost) (eq-or-lt_of_le (let le : b.action ≤ last = (let less : b.action < suc last = b.below in omega arith) in le))
  where
    go : (ByStep space ways state last cost → Within (cheapest_way space ways state last) cost) → (b.action ≡ last) ⊎ (b.action < last) → Within (cheapest_way space ways state (suc last)) cost
    go before (inl e) =
        lesser_right (cheapest_way space ways state last) (way_by ways (space.step state last)) cost
        (way_by_from ways (space.step state last) b.to b.price b.rest cost (subst (λ a. space.step state a ≡ Some (b.to, b.price)) e b.step) b.way b.sum)
    go before (inr less) =
        lesser_left (cheapest_way space ways state last) (way_by ways (space.step state last)) cost
        (before (record { action = b.action; below = less; to = b.to; price = b.price; step = b.step; rest = b.rest; way = b.way; sum = b.sum }))
