-- A list of actions, read up to a place.
use Rattle.std.proofs.Common.{◌≡◌, ℕ, suc, ◌+◌, ◌<◌, ◌≤◌, None, Some, List, ◌∷◌, ◌++◌, length, take, drop, take-take, get_or, drop-cons, slice_get, true, false, inl, inr, refl, sym, subst, ap, arith, ◌∙◌}
use Rattle.std.proofs.Math.Seq.{take-length}
use Rattle.std.proofs.lemmas.Bool.{cases_order}
use Rattle.std.proofs.lemmas.List.{take_more, take_all, take-append-drop, length-take, get_or-take}
use Rattle.std.proofs.lemmas.Option.{slice_get-get_or, slice_get_within, get_or_from_slice_get}
use Rattle.pb_model.specs.Space.{Space, Steps}
use Rattle.pb_model.specs.Plan.{Walk, IsPlan}
use Rattle.pb_task.specs.Faults.{IsFault}
use Rattle.pb_task.specs.Laws.{FaultsAreUnique, FaultsKeepFromPlans}
use Rattle.pb_task.specs.declared.plan.PlanFault.TheVariants.{Step, NotGoal}
use Rattle.pb_task.proofs.Walks.{same_walk, walk_on, no_way}

-- the walk along the actions below a place, and that it goes on there
pub one_more_step : (space : Space) (plan : List ℕ) (i cost state next more : ℕ) → i < length plan → Walk space space.start (take i plan) cost state
    → Steps space state (get_or plan i 0) next more → Walk space space.start (take (i + 1) plan) (cost + more) next
one_more_step space plan i cost state next more less walk step =
    subst (λ actions. Walk space space.start actions (cost + more) next) (sym (take_more plan i 0 less)) (walk_on space space.start (take i plan) cost state (get_or plan i 0) next more walk step)

pub is_fault_at : (space : Space) (plan : List ℕ) (i cost state : ℕ) → i < length plan → Walk space space.start (take i plan) cost state
    → space.step state (get_or plan i 0) ≡ None → IsFault space plan (Step i)
is_fault_at space plan i cost state less walk none = (state, get_or plan i 0, (cost, walk), slice_get-get_or plan i 0 less, none)

split : (plan : List ℕ) (i : ℕ) → i < length plan → plan ≡ take i plan ++ get_or plan i 0 ∷ drop (suc i) plan
split plan i less = sym (take-append-drop i plan) ∙ ap (λ rest. take i plan ++ rest) (drop-cons plan i 0 less)

-- a list with an action that is not applicable is no plan
pub no_plan_at : (space : Space) (plan : List ℕ) (i cost state : ℕ) → i < length plan → Walk space space.start (take i plan) cost state
    → space.step state (get_or plan i 0) ≡ None → (total : ℕ) → IsPlan space (record { actions = plan; cost = total }) → ⊥
no_plan_at space plan i cost state less walk none total (goal, all, at_goal) =
    no_way space space.start (take i plan) (drop (suc i) plan) (get_or plan i 0) cost state total goal walk none
    (subst (λ actions. Walk space space.start actions total goal) (split plan i less) all)

-- the walk along the whole list
pub to_the_end : (space : Space) (plan : List ℕ) (i cost state : ℕ) → length plan ≤ i → Walk space space.start (take i plan) cost state → Walk space space.start plan cost state
to_the_end space plan i cost state past walk = subst (λ actions. Walk space space.start actions cost state) (take_all i plan past) walk

pub plan_costs : (space : Space) (plan : List ℕ) (i cost state : ℕ) → length plan ≤ i → Walk space space.start (take i plan) cost state
    → (total : ℕ) → IsPlan space (record { actions = plan; cost = total }) → cost ≡ total
plan_costs space plan i cost state past walk total (goal, all, at_goal) =
    (same_walk space space.start plan cost state total goal (to_the_end space plan i cost state past walk) all).0

pub no_plan_past_goal : (space : Space) (plan : List ℕ) (i cost state : ℕ) → length plan ≤ i → Walk space space.start (take i plan) cost state
    → space.is_goal state ≡ false → (total : ℕ) → IsPlan space (record { actions = plan; cost = total }) → ⊥
no_plan_past_goal space plan i cost state past walk off total (goal, all, at_goal) =
    let same : state ≡ goal = (same_walk space space.start plan cost state total goal (to_the_end space plan i cost state past walk) all).1 in
    let here : space.is_goal state ≡ true = subst (λ s. space.is_goal s ≡ true) (sym same) at_goal in
    cc

-- ---- a list has one fault at most

-- a walk does not pass an action that is not applicable
no_walk_past : (space : Space) (plan : List ℕ) (at further action cost state whole end : ℕ) → at < further → slice_get plan at ≡ Some action
    → Walk space space.start (take at plan) cost state → space.step state action ≡ None → Walk space space.start (take further plan) whole end → ⊥
no_walk_past space plan at further action cost state whole end less here walk none past =
    let within : at < length plan = slice_get_within plan at action here in
    let is : get_or plan at 0 ≡ action = get_or_from_slice_get plan at action 0 here in
    let short : at < length (take further plan) = omega (arith, length-take {A = ℕ}) in
    let read : get_or (take further plan) at 0 ≡ action = get_or-take further plan at 0 less ∙ is in
    let front : take at (take further plan) ≡ take at plan = take-take at further plan (omega arith) in
    no_way space space.start (take at plan) (drop (suc at) (take further plan)) action cost state whole end walk none
    (subst (λ actions. Walk space space.start actions whole end) (take_whole (take further plan) (take at plan) at action short front read) past) where
      take_whole : (plan front : List ℕ) (i action : ℕ) → i < length plan → take i plan ≡ front → get_or plan i 0 ≡ action → plan ≡ front ++ action ∷ drop (suc i) plan
      take_whole plan front i action less before is = split plan i less ∙ ap (λ f. f ++ get_or plan i 0 ∷ drop (suc i) plan) before ∙ ap (λ a. front ++ a ∷ drop (suc i) plan) is

no_walk_through : (space : Space) (plan : List ℕ) (at action cost state whole end : ℕ) → slice_get plan at ≡ Some action
    → Walk space space.start (take at plan) cost state → space.step state action ≡ None → Walk space space.start plan whole end → ⊥
no_walk_through space plan at action cost state whole end here walk none past =
    let within : at < length plan = slice_get_within plan at action here in
    no_walk_past space plan at (length plan) action cost state whole end within here walk none (subst (λ actions. Walk space space.start actions whole end) (sym (take-length plan)) past)

pub faults_are_unique : FaultsAreUnique
faults_are_unique space plan (Step at) (Step other) (state, action, (cost, walk), here, none) (state', action', (cost', walk'), here', none') =
    elim (cases_order at other) [
      | inl same ↦ ap Step same
      | inr (inl less) ↦ absurd (no_walk_past space plan at other action cost state cost' state' less here walk none walk')
      | inr (inr more) ↦ absurd (no_walk_past space plan other at action' cost' state' cost state more here' walk' none' walk)
    ]
faults_are_unique space plan (Step at) NotGoal (state, action, (cost, walk), here, none) (state', (cost', walk'), off) =
    absurd (no_walk_through space plan at action cost state cost' state' here walk none walk')
faults_are_unique space plan NotGoal (Step at) (state', (cost', walk'), off) (state, action, (cost, walk), here, none) =
    absurd (no_walk_through space plan at action cost state cost' state' here walk none walk')
faults_are_unique space plan NotGoal NotGoal one two = refl

pub faults_keep_from_plans : FaultsKeepFromPlans
faults_keep_from_plans space plan (Step at) total (state, action, (cost, walk), here, none) (goal, all, at_goal) =
    no_walk_through space plan at action cost state total goal here walk none all
faults_keep_from_plans space plan NotGoal total (state, (cost, walk), off) (goal, all, at_goal) =
    no_plan_past_goal space plan (length plan) cost state (omega arith) (subst (λ actions. Walk space space.start actions cost state) (sym (take-length plan)) walk) off total (goal, all, at_goal)
