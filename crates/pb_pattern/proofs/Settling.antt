-- When the costs of a table are least.
use Rattle.std.proofs.Common.{◌≡◌, ℕ, zero, suc, ◌+◌, ◌*◌, ◌^◌, ◌≤◌, Bool, true, false, nat_lt, List, [], ◌∷◌, Option, None, Some, if◌then◌else◌, refl, sym, ap, ◌∙◌, subst, arith, ◌⊎◌, inl, inr}
use Rattle.pb_model.specs.declared.row.Estimate.TheVariants.{Cost, Dead}
use Rattle.pb_model.specs.Space.{Space, IsProper}
use Rattle.pb_model.specs.Plan.{Walk}
use Rattle.pb_model.proofs.Callers.{below, not_below}
use Rattle.pb_pattern.specs.Least.{Reaches, IsLeastCost, way_within, cheapest_way, HasStatesBelow}
use Rattle.pb_pattern.specs.Costs.{cost_in, estimate_in, AreLeast, IsTable, Looks, IsAnyStep}
use Rattle.pb_pattern.specs.Laws.{LeastCostsAreSmall}
use Rattle.pb_pattern.proofs.Enough.{Within, known, lesser_left, lesser_right, lesser_cases, cheapest_is, cheapest_from}
use Rattle.pb_pattern.proofs.Rounds.{rounds_walk, rounds_stable}
use Rattle.pb_pattern.proofs.Walks.{bounds}

-- the costs after a round: each is that of a walk, and none is greater than that of a walk of so many steps
pub record IsSettling (space : Space) (images round : ℕ) (costs : List ℕ) : Type 0 where
  pub table : IsTable space images costs
  pub within : (state cost : ℕ) → space.is_state state ≡ true → Within (way_within space round state) cost → cost_in costs state ≤ cost

module _ (space : Space) (images : ℕ) (proper : IsProper space (2 ^ 20)) (few : HasStatesBelow space images) where
  -- ---- least costs are small

  way_small : (round state cost : ℕ) → way_within space round state ≡ Some cost → cost ≤ 2 ^ 20 * round
  way_small zero state cost is = go (space.is_goal state) is where
    go : (test : Bool) → ◌≡◌ {A = Option ℕ} (if test then Some 0 else None) (Some cost) → cost ≤ 2 ^ 20 * 0
    go true e = let zero_is : 0 ≡ cost = cc in omega (arith, zero_is)
    go false e = cc
  way_small (suc round) state cost is =
      go (way_small round) (lesser_cases (way_within space round state) (cheapest_way space (way_within space round) state space.actions) cost
      (subst (λ o. Within o cost) (sym is) (omega arith)))
    where
      go : ((state cost : ℕ) → way_within space round state ≡ Some cost → cost ≤ 2 ^ 20 * round)
          → Within (way_within space round state) cost ⊎ Within (cheapest_way space (way_within space round) state space.actions) cost → cost ≤ 2 ^ 20 * suc round
      go rest (inl was) =
          let n = known (way_within space round state) cost was in
          let low : n.0 ≤ 2 ^ 20 * round = rest state n.0 n.1 in
          let least : cost ≤ n.0 = subst (λ o. Within o n.0) is
          (lesser_left (way_within space round state) (cheapest_way space (way_within space round) state space.actions) n.0 (subst (λ o. Within o n.0) (sym n.1) (omega arith))) in
          omega (arith, low, least)
      go rest (inr by) =
          let one = cheapest_is space (way_within space round) state space.actions cost by in
          let way = known (way_within space round one.to) one.rest one.way in
          let low : way.0 ≤ 2 ^ 20 * round = rest one.to way.0 way.1 in
          let price : one.price ≤ 2 ^ 20 = proper.bounded state one.action one.to one.price one.step in
          let here : Within (cheapest_way space (way_within space round) state space.actions) (one.price + way.0) =
          cheapest_from space (way_within space round) state space.actions (one.price + way.0) (record {
            action = one.action;
            below = one.below;
            to = one.to;
            price = one.price;
            step = one.step;
            rest = way.0;
            way = subst (λ o. Within o way.0) (sym way.1) (let le : way.0 ≤ way.0 = omega arith in le);
            sum = omega arith;
          }) in
          let least : cost ≤ one.price + way.0 = subst (λ o. Within o (one.price + way.0)) is
          (lesser_right (way_within space round state) (cheapest_way space (way_within space round) state space.actions) (one.price + way.0) here) in
          omega (arith, low, price, least)

  -- where there is a walk, there is one of at most as many steps as there are images, and it costs no more
  cheap_walk : (state cost : ℕ) → space.is_state state ≡ true → Reaches space state cost → (n : ℕ) × (way_within space images state ≡ Some n) × Reaches space state n × (n ≤ cost) × (n ≤ 2 ^ 20 * images)
  cheap_walk state cost is way =
      let n = known (way_within space images state) cost
      (bounds space (2 ^ 20) (way_within space images) proper (rounds_walk space images) (rounds_stable space (2 ^ 20) images proper few) way.0 state cost way.1 is way.2 way.3) in
      (n.0, n.1, rounds_walk space images state n.0 n.1, n.2, way_small images state n.0 n.1)

  pub small_least : (state cost : ℕ) → space.is_state state ≡ true → IsLeastCost space state (Cost cost) → cost ≤ 2 ^ 20 * images
  small_least state cost is h =
      let n = cheap_walk state cost is h.0 in
      let low : cost ≤ n.0 = h.1 n.0 n.2 in
      omega (arith, low, n.4)

  -- ---- costs that no walk undercuts are least

  module _ (many : images ≤ 65536) (costs : List ℕ) (table : IsTable space images costs) (bound : (state cost : ℕ) → space.is_state state ≡ true → Reaches space state cost → cost_in costs state ≤ cost) where
    least_at : (state : ℕ) → space.is_state state ≡ true → IsLeastCost space state (estimate_in (cost_in costs state))
    least_at state is = go (nat_lt (cost_in costs state) (2 ^ 62)) refl where
      go : (test : Bool) → nat_lt (cost_in costs state) (2 ^ 62) ≡ test → IsLeastCost space state (if test then Cost (cost_in costs state) else Dead)
      go true less = (table.walks state (below (cost_in costs state) (2 ^ 62) less), λ cost way. bound state cost is way)
      go false less = λ cost way.
          let n = cheap_walk state cost is way in
          let low : cost_in costs state ≤ n.0 = bound state n.0 is n.2 in
          let high : 2 ^ 62 ≤ cost_in costs state = not_below (cost_in costs state) (2 ^ 62) less in
          let small : n.0 ≤ 2 ^ 20 * images = n.4 in
          absurd (omega (arith, low, high, small, many))

    pub from_bounds : AreLeast space images costs
    from_bounds = record { long = table.long; least = least_at }

  -- ---- passes

  pub settling_first : (costs : List ℕ) → IsTable space images costs → IsSettling space images 0 costs
  settling_first costs table = record { table = table; within = λ state cost is h. at_goal state cost is (space.is_goal state) refl h } where
    at_goal : (state cost : ℕ) → space.is_state state ≡ true → (test : Bool) → space.is_goal state ≡ test → Within (if test then Some 0 else None) cost → cost_in costs state ≤ cost
    at_goal state cost is true goal h = let none : cost_in costs state ≤ 0 = table.free state is goal in omega (arith, none)
    at_goal state cost is false goal h = absurd h

  pub settling_on : (round : ℕ) (old new : List ℕ) (changed : Bool) → IsSettling space images round old → Looks space images IsAnyStep old new changed → IsSettling space images (round + 1) new
  settling_on round old new changed s l =
      subst (λ r. IsSettling space images r new) (let e : suc round ≡ round + 1 = omega arith in e) (record { table = l.table; within = within })
    where
      within : (state cost : ℕ) → space.is_state state ≡ true → Within (way_within space (suc round) state) cost → cost_in new state ≤ cost
      within state cost is h = go (lesser_cases (way_within space round state) (cheapest_way space (way_within space round) state space.actions) cost h) where
        go : Within (way_within space round state) cost ⊎ Within (cheapest_way space (way_within space round) state space.actions) cost → cost_in new state ≤ cost
        go (inl was) = let low : cost_in old state ≤ cost = s.within state cost is was in let fall = l.falls state in omega (arith, low, fall)
        go (inr by) =
            let one = cheapest_is space (way_within space round) state space.actions cost by in
            let rest : cost_in old one.to ≤ one.rest = s.within one.to one.rest (proper.to_state state one.action one.to one.price one.step) one.way in
            let here : cost_in new state ≤ one.price + cost_in old one.to = l.covers state one.action one.to one.price tt one.step in
            let sum : one.price + one.rest ≤ cost = one.sum in
            omega (arith, rest, here, sum)

  -- after as many rounds as there are images
  pub last_is_least : (costs : List ℕ) → images ≤ 65536 → IsSettling space images images costs → AreLeast space images costs
  last_is_least costs many s =
      from_bounds many costs s.table (λ state cost is way.
      let n = cheap_walk state cost is way in
      let low : cost_in costs state ≤ n.0 = s.within state n.0 is (subst (λ o. Within o n.0) (sym n.1) (omega arith)) in
      omega (arith, low, n.3))

  -- a pass that changes nothing
  pub idle_is_least : (old new : List ℕ) → images ≤ 65536 → IsTable space images old → Looks space images IsAnyStep old new false → AreLeast space images new
  idle_is_least old new many table l =
      from_bounds many new l.table (λ state cost is way. stays way.0 state cost way.1 is way.2 way.3)
    where
      same : new ≡ old
      same = l.idle refl

      stays : (actions : List ℕ) (from cost goal : ℕ) → space.is_state from ≡ true → Walk space from actions cost goal → space.is_goal goal ≡ true → cost_in new from ≤ cost
      stays [] from cost goal is walk reached =
          let none : cost_in new from ≤ 0 = l.table.free from is (sym (ap space.is_goal walk.1) ∙ reached) in omega (arith, none)
      stays (action ∷ actions) from cost goal is (next, first, rest, step, walk, sum) reached =
          let left : cost_in new next ≤ rest = stays actions next rest goal (proper.to_state from action next first step) walk reached in
          let here : cost_in new from ≤ first + cost_in old next = l.covers from action next first tt step in
          let e : cost_in new next ≡ cost_in old next = ap (λ c. cost_in c next) same in
          omega (arith, left, here, e, sum)

pub least_costs_are_small : LeastCostsAreSmall
least_costs_are_small space images state cost proper few is h = small_least space images proper few state cost is h
