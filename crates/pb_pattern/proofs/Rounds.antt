-- The rounds: costs fall from round to round, and after as many rounds as there are states they fall no more.
use Rattle.std.proofs.Common.{◌≡◌, ℕ, zero, suc, ◌+◌, ◌<◌, ◌≤◌, Bool, true, false, [], Option, None, Some, if◌then◌else◌, refl, sym, ap, subst, arith, ◌⊎◌, inl, inr}
use Rattle.std.proofs.Math.Nat.{eq-or-lt_of_le}
use Rattle.std.proofs.lemmas.Bool.{false_from_ne_true}
use Rattle.pb_model.specs.Space.{Space, Steps, IsProper}
use Rattle.pb_model.specs.Store.{AtMost}
use Rattle.pb_model.proofs.Callers.{some_number}
use Rattle.pb_pattern.specs.Least.{Reaches, way_within, cheapest_way, HasStatesBelow, AreStable}
use Rattle.pb_pattern.specs.Laws.{RoundsGiveLeast}
use Rattle.pb_pattern.proofs.Counting.{count, count_is_small, count_grows, count_rises}
use Rattle.pb_pattern.proofs.Enough.{Within, within_more, known, lesser_left, lesser_right, lesser_cases, is_within, within_is, is_within_from, ByStep, cheapest_is, cheapest_from}
use Rattle.pb_pattern.proofs.Walks.{step_reaches, stable_costs_are_least}

pub in_later_rounds : (space : Space) (state cost round later : ℕ) → round ≤ later → Within (way_within space round state) cost → Within (way_within space later state) cost
in_later_rounds space state cost round zero le h = subst (λ r. Within (way_within space r state) cost) (let e : round ≡ 0 = omega (arith, le) in e) h
in_later_rounds space state cost round (suc later) le h = go (λ before. in_later_rounds space state cost round later before h) (eq-or-lt_of_le le) where
  go : (round ≤ later → Within (way_within space later state) cost) → (round ≡ suc later) ⊎ (round < suc later) → Within (way_within space (suc later) state) cost
  go rest (inl e) = subst (λ r. Within (way_within space r state) cost) e h
  go rest (inr before) = lesser_left (way_within space later state) (cheapest_way space (way_within space later) state space.actions) cost (rest (omega (arith, before)))

module _ (space : Space) (greatest_cost states : ℕ) (proper : IsProper space greatest_cost) (few : HasStatesBelow space states) where
  -- how many states cost at most this much after a round
  cheap : (round cost : ℕ) → ℕ
  cheap round cost = count (λ state. is_within (way_within space round state) cost) states

  -- A state that comes to cost at most this much in some round does so already after as many rounds as there are states that cost at most this much.
  SoonCheap : (round : ℕ) → Type 0
  SoonCheap round = (state cost : ℕ) → state < states → Within (way_within space round state) cost → Within (way_within space (cheap round cost) state) cost

  -- what is cheap in a round is so in the next
  cheap_on : (round cost least : ℕ) → least ≤ cost → (state : ℕ) → is_within (way_within space round state) least ≡ true → is_within (way_within space (suc round) state) cost ≡ true
  cheap_on round cost least le state is =
      is_within_from (way_within space (suc round) state) cost
      (lesser_left (way_within space round state) (cheapest_way space (way_within space round) state space.actions) cost
      (within_more (way_within space round state) least cost le (within_is (way_within space round state) least is)))

  module _ (round : ℕ) (soon : SoonCheap round) (state cost : ℕ) (less : state < states) where
    -- it costs this much at most already the round before
    before : Within (way_within space round state) cost → Within (way_within space (cheap (suc round) cost) state) cost
    unfolding SoonCheap cheap
    before was =
        in_later_rounds space state cost (cheap round cost) (cheap (suc round) cost)
        (count_grows (λ s. is_within (way_within space round s) cost) (λ s. is_within (way_within space (suc round) s) cost) states
        (λ s s_less is. cheap_on round cost cost (omega arith) s is))
        (soon state cost less was)

    -- it does so by a step: it isn't among the states that cost at most what is left after the step
    now : is_within (way_within space round state) cost ≡ false → Within (way_within space (suc round) state) cost
        → ByStep space (way_within space round) state space.actions cost → Within (way_within space (cheap (suc round) cost) state) cost
    unfolding SoonCheap cheap
    now not_yet h one =
        let within : one.rest ≤ cost = (let sum : one.price + one.rest ≤ cost = one.sum in omega arith) in
        let target : one.to < states = few one.to (proper.to_state state one.action one.to one.price one.step) in
        let fewer : suc (cheap round one.rest) ≤ cheap (suc round) cost =
        count_rises (λ s. is_within (way_within space round s) one.rest) (λ s. is_within (way_within space (suc round) s) cost) states
        (λ s s_less is. cheap_on round cost one.rest within s is)
        state less
        (false_from_ne_true (is_within (way_within space round state) one.rest) (λ is.
        let yes : is_within (way_within space round state) cost ≡ true = is_within_from (way_within space round state) cost
        (within_more (way_within space round state) one.rest cost within (within_is (way_within space round state) one.rest is)) in cc))
        (is_within_from (way_within space (suc round) state) cost h) in
        in_later_rounds space state cost (suc (cheap round one.rest)) (cheap (suc round) cost) fewer
        (lesser_right (way_within space (cheap round one.rest) state) (cheapest_way space (way_within space (cheap round one.rest)) state space.actions) cost
        (cheapest_from space (way_within space (cheap round one.rest)) state space.actions cost (record {
          action = one.action;
          below = one.below;
          to = one.to;
          price = one.price;
          step = one.step;
          rest = one.rest;
          way = soon one.to one.rest target one.way;
          sum = one.sum;
        })))

    one_more_round : Within (way_within space (suc round) state) cost → Within (way_within space (cheap (suc round) cost) state) cost
    one_more_round h =
        go (is_within (way_within space round state) cost) refl
        (lesser_cases (way_within space round state) (cheapest_way space (way_within space round) state space.actions) cost h)
      where
        go : (test : Bool) → is_within (way_within space round state) cost ≡ test
            → Within (way_within space round state) cost ⊎ Within (cheapest_way space (way_within space round) state space.actions) cost
            → Within (way_within space (cheap (suc round) cost) state) cost
        go test is (inl was) = before was
        go true is (inr by) = before (within_is (way_within space round state) cost is)
        go false not_yet (inr by) = now not_yet h (cheapest_is space (way_within space round) state space.actions cost by)

  soon_cheap : (round : ℕ) → SoonCheap round
  unfolding SoonCheap cheap
  soon_cheap zero state cost less h = in_later_rounds space state cost 0 (cheap 0 cost) (omega arith) h
  soon_cheap (suc round) state cost less h = one_more_round round (soon_cheap round) state cost less h

  -- no round makes a state cheaper than it is after as many rounds as there are states
  no_cheaper : (round state cost : ℕ) → state < states → Within (way_within space round state) cost → Within (way_within space states state) cost
  unfolding SoonCheap cheap
  no_cheaper round state cost less h =
      in_later_rounds space state cost (cheap round cost) states (count_is_small (λ s. is_within (way_within space round s) cost) states)
      (soon_cheap round state cost less h)

-- ---- what the rounds give are costs of walks, and stable

goal_reaches : (space : Space) (state cost : ℕ) (test : Bool) → space.is_goal state ≡ test → ◌≡◌ {A = Option ℕ} (if test then Some 0 else None) (Some cost) → Reaches space state cost
goal_reaches space state cost true is e = ([], state, (sym (some_number 0 cost e), refl), is)
goal_reaches space state cost false is e = cc

pub rounds_walk : (space : Space) (round state cost : ℕ) → way_within space round state ≡ Some cost → Reaches space state cost
rounds_walk space zero state cost is = goal_reaches space state cost (space.is_goal state) refl is
rounds_walk space (suc round) state cost is =
    go (rounds_walk space round) (lesser_cases (way_within space round state) (cheapest_way space (way_within space round) state space.actions) cost
    (subst (λ o. Within o cost) (sym is) (omega arith)))
  where
    -- what is within the least is that
    least_is : (one : Option ℕ) → Within one cost → ((n : ℕ) → one ≡ Some n → cost ≤ n) → one ≡ Some cost
    least_is None h low = absurd h
    least_is (Some n) h low = ap (λ (c : ℕ). Some c) (let ge : cost ≤ n = low n refl in let e : n ≡ cost = omega arith in e)

    no_lower : (one : Option ℕ) → ((c : ℕ) → Within one c → Within (way_within space (suc round) state) c) → (n : ℕ) → one ≡ Some n → cost ≤ n
    no_lower one more n e =
        subst (λ o. Within o n) is (more n (subst (λ o. Within o n) (sym e) (omega arith)))

    go : ((state cost : ℕ) → way_within space round state ≡ Some cost → Reaches space state cost)
        → Within (way_within space round state) cost ⊎ Within (cheapest_way space (way_within space round) state space.actions) cost → Reaches space state cost
    go rest (inl was) =
        rest state cost (least_is (way_within space round state) was
        (no_lower (way_within space round state) (λ c. lesser_left (way_within space round state) (cheapest_way space (way_within space round) state space.actions) c)))
    go rest (inr by) =
        let one = cheapest_is space (way_within space round) state space.actions cost by in
        let way = known (way_within space round one.to) one.rest one.way in
        let here : Within (cheapest_way space (way_within space round) state space.actions) (one.price + way.0) =
        cheapest_from space (way_within space round) state space.actions (one.price + way.0) (record {
          action = one.action;
          below = one.below;
          to = one.to;
          price = one.price;
          step = one.step;
          rest = way.0;
          way = subst (λ o. Within o way.0) (sym way.1) (let le : way.0 ≤ way.0 = omega arith in le);
          sum = omega arith;
        }) in
        let low : cost ≤ one.price + way.0 = subst (λ o. Within o (one.price + way.0)) is (lesser_right (way_within space round state) (cheapest_way space (way_within space round) state space.actions) (one.price + way.0) here) in
        let sum : one.price + one.rest ≤ cost = one.sum in
        let e : one.price + way.0 ≡ cost = omega (arith, way.2) in
        subst (Reaches space state) e (step_reaches space state one.action one.to one.price way.0 one.step (rest one.to way.0 way.1))

pub rounds_stable : (space : Space) (greatest_cost states : ℕ) → IsProper space greatest_cost → HasStatesBelow space states → AreStable space (way_within space states)
rounds_stable space greatest_cost states proper few = record { goals = goals; steps = steps } where
  nothing : (one : Option ℕ) → Within one 0 → one ≡ Some 0
  nothing None h = absurd h
  nothing (Some n) h = ap (λ (c : ℕ). Some c) (let e : n ≡ 0 = omega arith in e)

  at_goal : (test : Bool) → test ≡ true → Within (if test then Some 0 else None) 0
  at_goal true e = omega arith
  at_goal false e = cc

  goals : (state : ℕ) → space.is_state state ≡ true → space.is_goal state ≡ true → way_within space states state ≡ Some 0
  goals state is goal = nothing (way_within space states state) (in_later_rounds space state 0 0 states (omega arith) (at_goal (space.is_goal state) goal))

  steps : (from action to price rest : ℕ) → Steps space from action to price → way_within space states to ≡ Some rest → AtMost (way_within space states from) (Some (price + rest))
  steps from action to price rest step is =
      no_cheaper space greatest_cost states proper few (suc states) from (price + rest) (few from (proper.from_state from action to price step))
      (lesser_right (way_within space states from) (cheapest_way space (way_within space states) from space.actions) (price + rest)
      (cheapest_from space (way_within space states) from space.actions (price + rest) (record {
        action = action;
        below = proper.action from action to price step;
        to = to;
        price = price;
        step = step;
        rest = rest;
        way = subst (λ o. Within o rest) (sym is) (let le : rest ≤ rest = omega arith in le);
        sum = omega arith;
      })))

pub rounds_give_least : RoundsGiveLeast
rounds_give_least space greatest_cost states state proper few is =
    stable_costs_are_least space greatest_cost (way_within space states) proper (rounds_walk space states) (rounds_stable space greatest_cost states proper few) state is
