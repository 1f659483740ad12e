-- The list of successors, and the steps that it is of.
use Rattle.std.proofs.Common.{◌≡◌, ℕ, zero, suc, ◌<◌, true, false, ◌==◌, List, [], ◌∷◌, ◌++◌, map, take, Contains, Option, Some, None, refl, sym, subst, arith}
use Rattle.std.specs.List.{AllByRecursion}
use Rattle.std.specs.List.Sorted.{IsStrictlySortedBy}
use Rattle.std.specs.Ordering.{nat_cmp}
use Rattle.std.specs.declared.cmp.Ordering.TheVariants.{Less}
use Rattle.std.specs.Cmp.{nat_cmp_is}
use Rattle.std.proofs.lemmas.List.{append-nil, map-append}
use Rattle.std.proofs.lemmas.Bool.Decides.{nat_tests}
use Rattle.std.proofs.lemmas.List.Elements.{All-from_recursion, recursion_from_All, Contains-get_or}
use Rattle.pb_model.specs.declared.row.Succ.{Succ}
use Rattle.pb_model.specs.Space.{Space, Steps, successor_list, steps_below, steps, IsProper}
use Rattle.pb_model.specs.Laws.{StepsAreSuccessors}
use Rattle.pb_model.proofs.Tests.{equal, by_cases}

pub all_more : {A : Type 0} (P Q : A → Type 0) → ((y : A) → P y → Q y) → (ys : List A) → AllByRecursion P ys → AllByRecursion Q ys
all_more P Q f [] h = tt
all_more P Q f (y ∷ ys) h = (f y h.0, all_more P Q f ys h.1)

pub all_take : {A : Type 0} (P : A → Type 0) (k : ℕ) (ys : List A) → AllByRecursion P ys → AllByRecursion P (take k ys)
all_take P zero ys h = tt
all_take P (suc k) [] h = tt
all_take P (suc k) (y ∷ ys) h = (h.0, all_take P k ys h.1)

all_append : {A : Type 0} (P : A → Type 0) (xs ys : List A) → AllByRecursion P xs → AllByRecursion P ys → AllByRecursion P (xs ++ ys)
all_append P [] ys h k = k
all_append P (x ∷ xs) ys h k = (h.0, all_append P xs ys h.1 k)

all_left : {A : Type 0} (P : A → Type 0) (xs ys : List A) → AllByRecursion P (xs ++ ys) → AllByRecursion P xs
all_left P [] ys h = tt
all_left P (x ∷ xs) ys h = (h.0, all_left P xs ys h.1)

all_right : {A : Type 0} (P : A → Type 0) (xs ys : List A) → AllByRecursion P (xs ++ ys) → AllByRecursion P ys
all_right P [] ys h = h
all_right P (x ∷ xs) ys h = all_right P xs ys h.1

module _ (space : Space) (state : ℕ) where
  abbrev pub IsStep : Succ → Type 0
  IsStep succ = Steps space state succ.action succ.state succ.cost

  are_steps_below : (count : ℕ) → AllByRecursion IsStep (steps_below space state count)
  are_steps_below zero = tt
  are_steps_below (suc action) = all_append IsStep (steps_below space state action) (successor_list action (space.step state action)) (are_steps_below action) (one (space.step state action) refl)
    where
      one : (step : Option (ℕ × ℕ)) → space.step state action ≡ step → AllByRecursion IsStep (successor_list action step)
      one None is = tt
      one (Some step) is = (is, tt)

  -- each of the list is a step
  pub are_steps : AllByRecursion IsStep (steps space state)
  are_steps = are_steps_below space.actions

  each_below : (P : Succ → Type 0) (count : ℕ) → AllByRecursion P (steps_below space state count)
      → (action to cost : ℕ) → action < count → Steps space state action to cost → P (record { action = action; state = to; cost = cost })
  each_below P zero all action to cost lt step = absurd (omega arith)
  each_below P (suc last) all action to cost lt step = by_cases (action == last) here (λ e. before (each_below P last (all_left P (steps_below space state last) (successor_list last (space.step state last)) all) action to cost) e)
    where
      here : (action == last) ≡ true → P (record { action = action; state = to; cost = cost })
      here e =
          let same : last ≡ action = sym (equal action last e) in
          let listed : AllByRecursion P (successor_list last (space.step state last)) = all_right P (steps_below space state last) (successor_list last (space.step state last)) all in
          let at : AllByRecursion P (successor_list action (space.step state action)) = subst (λ k. AllByRecursion P (successor_list k (space.step state k))) same listed in
          let one : AllByRecursion P (successor_list action (Some (to, cost))) = subst (λ s. AllByRecursion P (successor_list action s)) step at in
          one.0

      before : (action < last → Steps space state action to cost → P (record { action = action; state = to; cost = cost })) → (action == last) ≡ false → P (record { action = action; state = to; cost = cost })
      before rest e = rest (grind (arith, nat_tests)) step

  -- what holds of all of the list holds of each step
  pub each_step : (greatest_cost : ℕ) → IsProper space greatest_cost → (P : Succ → Type 0) → AllByRecursion P (steps space state)
      → (action to cost : ℕ) → Steps space state action to cost → P (record { action = action; state = to; cost = cost })
  each_step greatest_cost proper P all action to cost step = each_below P space.actions all action to cost (proper.action state action to cost step) step

-- ---- the actions of the list ascend

abbrev action_of : Succ → ℕ
action_of succ = succ.action

below_more : (space : Space) (state count : ℕ) → AllByRecursion (λ succ. succ.action < count) (steps_below space state count)
below_more space state zero = tt
below_more space state (suc action) =
    all_append (λ succ. succ.action < suc action) (steps_below space state action) (successor_list action (space.step state action))
    (all_more (λ succ. succ.action < action) (λ succ. succ.action < suc action) (λ succ less. omega (arith, less)) (steps_below space state action) (below_more space state action))
    (one (space.step state action))
  where
    one : (step : Option (ℕ × ℕ)) → AllByRecursion (λ succ. succ.action < suc action) (successor_list action step)
    one None = tt
    one (Some step) = (omega arith, tt)

sorted_none : IsStrictlySortedBy nat_cmp []
unfolding IsStrictlySortedBy
sorted_none = tt

less_cmp : (j k : ℕ) → j < k → nat_cmp j k ≡ Less
less_cmp j k less = sym (nat_cmp_is j k Less less)

-- a number above all of an ascending list may stand behind it
sorted_more : (ks : List ℕ) (k : ℕ) → AllByRecursion (λ j. j < k) ks → IsStrictlySortedBy nat_cmp ks → IsStrictlySortedBy nat_cmp (ks ++ k ∷ [])
unfolding IsStrictlySortedBy
sorted_more [] k below sorted = (tt, tt)
sorted_more (j ∷ ks) k below sorted = (
  all_append (λ (y : ℕ). nat_cmp j y ≡ Less) ks (k ∷ []) sorted.0 (less_cmp j k below.0, tt),
  sorted_more ks k below.1 sorted.1,
)

ascending : (space : Space) (state count : ℕ) → IsStrictlySortedBy nat_cmp (map action_of (steps_below space state count))
ascending space state zero = sorted_none
ascending space state (suc action) = go (ascending space state action) (space.step state action)
  where
    mapped : (listed : List Succ) → AllByRecursion (λ succ. succ.action < action) listed → AllByRecursion (λ k. k < action) (map action_of listed)
    mapped [] all = tt
    mapped (succ ∷ rest) all = (all.0, mapped rest all.1)

    go : IsStrictlySortedBy nat_cmp (map action_of (steps_below space state action)) → (step : Option (ℕ × ℕ))
        → IsStrictlySortedBy nat_cmp (map action_of (steps_below space state action ++ successor_list action step))
    go before None = subst (λ listed. IsStrictlySortedBy nat_cmp (map action_of listed)) (sym (append-nil (steps_below space state action))) before
    go before (Some step) =
        subst (IsStrictlySortedBy nat_cmp) (sym (map-append action_of (steps_below space state action) (record { action = action; state = step.0; cost = step.1 } ∷ [])))
        (sorted_more (map action_of (steps_below space state action)) action (mapped (steps_below space state action) (below_more space state action)) before)

pub steps_are_successors : StepsAreSuccessors
steps_are_successors space greatest_cost state proper =
    let listed : List Succ = steps space state in (
      All-from_recursion (IsStep space state) listed (are_steps space state),
      each_step space state greatest_cost proper (λ succ. Contains listed succ) (recursion_from_All (λ succ. Contains listed succ) listed (λ k d lt. Contains-get_or listed k d lt)),
      ascending space state space.actions,
    )
