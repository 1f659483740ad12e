-- The way from a row back to the start.
use Rattle.std.proofs.Common.{◌≡◌, ◌≢◌, inl, inr, ℕ, ◌+◌, ◌<◌, ◌≤◌, ◌==◌, true, false, not, Option, None, Some, IsTrue, List, [], ◌∷◌, ◌++◌, reverse, refl, sym, subst, ap, arith, ◌∙◌, append_assoc, append-nil}
use Rattle.std.proofs.lemmas.List.{reverse-append, reverse-reverse}
use Rattle.pb_model.specs.declared.row.Row.{Row}
use Rattle.pb_model.specs.Space.{Space, Steps}
use Rattle.pb_model.specs.Plan.{Walk, IsPlan}
use Rattle.pb_model.specs.Weight.{Weight}
use Rattle.pb_model.specs.Guide.{Guide}
use Rattle.pb_model.specs.Store.{Rows, Store, row_at}
use Rattle.pb_model.specs.Sound.{HasParent}
use Rattle.pb_model.specs.Trace.{TracesBack}
use Rattle.pb_model.proofs.Callers.{by_cases, equal, equal_self, not_both, not_false, not_true, some_number}
use Rattle.pb_lists.specs.Store.{IsSoundAt, IsPlaced, rows_at_home, guide_with, store_with}
use Rattle.pb_cert.specs.Traced.{IsFirstGoal, IsTrace, IsLastStep, g_at}

pub at_start : (at start first : ℕ) → false ≡ not (at == start) → start ≡ first → at ≡ first
at_start at start first test same = equal at start (not_false (at == start) (sym test)) ∙ same

pub not_at_start : (at start first : ℕ) → true ≡ not (at == start) → start ≡ first → at ≢ first
not_at_start at start first test same e = not_both (at == start) (ap (λ n. n == start) (e ∙ sym same) ∙ equal_self start) (not_true (at == start) (sym test))

-- ---- the parent of a row

pub placed : (space : Space) (homes : ℕ → ℕ) (rows : Rows) (weight : Weight) → IsSoundAt space homes rows weight → IsPlaced homes rows
placed space homes rows weight sound home state row found = (sound.2.place home state row found).0

module _ (space : Space) (homes : ℕ → ℕ) (rows : Rows) (weight : Weight) (sound : IsSoundAt space homes rows weight) (state : ℕ) (row : Row) (found : rows_at_home homes rows state ≡ Some row) where
  pub is_state : IsTrue (space.is_state state)
  is_state = (sound.2.place (homes state) state row found).1

  pub has_parent : state ≢ space.start → HasParent space (guide_with sound.0 homes) (store_with rows weight sound.1) state row
  has_parent other = elim (sound.2.parent state row found) [ inl e ↦ absurd (other e) | inr h ↦ h ]

  pub some_parent : state ≢ space.start → row.parent ≡ None → ⊥
  some_parent other none = let h = has_parent other in let named : row.parent ≡ Some h.parent = h.named in cc

  pub parent_is_state : state ≢ space.start → (parent : ℕ) → row.parent ≡ Some parent → IsTrue (space.is_state parent)
  parent_is_state other parent is =
      let h = has_parent other in
      subst (λ p. IsTrue (space.is_state p)) (some_number h.parent parent (sym h.named ∙ is)) (sound.2.place (homes h.parent) h.parent h.parent_row h.found).1

  pub steps : state ≢ space.start → (parent : ℕ) → row.parent ≡ Some parent → space.step parent row.action ≡ None → ⊥
  steps other parent is none =
      let h = has_parent other in
      let step : space.step parent row.action ≡ Some (state, h.cost) = subst (λ p. Steps space p row.action state h.cost) (some_number h.parent parent (sym h.named ∙ is)) h.step in
      cc

  pub last_step : ((from action to cost : ℕ) → Steps space from action to cost → 1 ≤ cost) → state ≢ space.start → (parent : ℕ) → row.parent ≡ Some parent
      → (to cost : ℕ) → space.step parent row.action ≡ Some (to, cost) → IsLastStep space (rows_at_home homes rows) state row.action parent cost
  last_step positive other parent is to cost made =
      let h = has_parent other in
      let there : h.parent ≡ parent = some_number h.parent parent (sym h.named ∙ is) in
      let step : Steps space parent row.action state h.cost = subst (λ p. Steps space p row.action state h.cost) there h.step in
      let same : h.cost ≡ cost = same_cost (space.step parent row.action) state h.cost to cost step made in
      record {
        row = row;
        found = found;
        named = is;
        taken = refl;
        step = subst (λ c. Steps space parent row.action state c) same step;
        before = h.parent_row;
        before_found = subst (λ p. rows_at_home homes rows p ≡ Some h.parent_row) there h.found;
        cheaper = subst (λ c. h.parent_row.g + c ≤ row.g) same h.cheaper;
        positive = subst (λ c. 1 ≤ c) same (positive parent row.action state h.cost step);
      }
    where
      same_cost : (made : Option (ℕ × ℕ)) (a b c d : ℕ) → made ≡ Some (a, b) → made ≡ Some (c, d) → b ≡ d
      same_cost made a b c d x y = let e : ◌≡◌ {A = ℕ × ℕ} (a, b) (c, d) = cc in ap (λ (p : ℕ × ℕ). p.1) e

-- ---- the way so far: from a state to the goal, by the actions so far, the last one first

pub record IsWay (space : Space) (guide : Guide) (store : Store) (goal g at : ℕ) (actions : List ℕ) (cost : ℕ) : Type 0 where
  pub found : (row : Row) × (row_at guide store at ≡ Some row)
  pub walk : Walk space at (reverse actions) cost goal
  pub cheap : g_at (row_at guide store at) + cost ≤ g
  pub traced : (rest : List ℕ) → TracesBack space guide store at rest → TracesBack space guide store goal (actions ++ rest)

-- the row of the first goal is at home
first_found : (space : Space) (guide : Guide) (store : Store) → IsPlaced guide.home store.rows → (goal g : ℕ) (first : IsFirstGoal space store.rows goal g) → row_at guide store goal ≡ Some first.row
first_found space guide store placed goal g first = subst (λ home. store.rows home goal ≡ Some first.row) (placed first.home goal first.row first.found) first.found

pub first_costs : (space : Space) (guide : Guide) (store : Store) → IsPlaced guide.home store.rows → (goal g : ℕ) → IsFirstGoal space store.rows goal g → g_at (row_at guide store goal) ≡ g
first_costs space guide store placed goal g first = ap g_at (first_found space guide store placed goal g first) ∙ first.costs

pub first_at : (space : Space) (guide : Guide) (store : Store) → IsPlaced guide.home store.rows → (goal g : ℕ) → IsFirstGoal space store.rows goal g → IsFirstGoal space store.rows goal (g_at (row_at guide store goal))
first_at space guide store placed goal g first = subst (IsFirstGoal space store.rows goal) (sym (first_costs space guide store placed goal g first)) first

pub way_begins : (space : Space) (guide : Guide) (store : Store) → IsPlaced guide.home store.rows → (goal g : ℕ) → IsFirstGoal space store.rows goal g → IsWay space guide store goal g goal [] 0
way_begins space guide store placed goal g first =
    let costs = first_costs space guide store placed goal g first in
    record {
      found = (first.row, first_found space guide store placed goal g first);
      walk = (refl, refl);
      cheap = omega (arith, costs);
      traced = λ rest back. back;
    }

module _ (space : Space) (guide : Guide) (store : Store) (goal g at action parent more : ℕ) (other : at ≢ space.start) (step : IsLastStep space (row_at guide store) at action parent more) where
  dearer : g_at (row_at guide store parent) + more ≤ g_at (row_at guide store at)
  dearer =
      let above : g_at (row_at guide store at) ≡ step.row.g = ap g_at step.found in
      let below : g_at (row_at guide store parent) ≡ step.before.g = ap g_at step.before_found in
      omega (arith, above, below, step.cheaper)

  pub falls : g_at (row_at guide store parent) < g_at (row_at guide store at)
  falls = omega (arith, dearer, step.positive)

  pub fits : (actions : List ℕ) (cost : ℕ) → IsWay space guide store goal g at actions cost → cost + more ≤ g
  fits actions cost way = omega (arith, dearer, way.cheap)

  pub way_goes_on : (actions : List ℕ) (cost : ℕ) → IsWay space guide store goal g at actions cost → IsWay space guide store goal g parent (actions ++ action ∷ []) (cost + more)
  way_goes_on actions cost way =
      record {
        found = (step.before, step.before_found);
        walk = subst (λ xs. Walk space parent xs (cost + more) goal) (sym (reverse-append actions (action ∷ []))) (at, more, cost, step.step, way.walk, omega arith);
        cheap = omega (arith, dearer, way.cheap);
        traced = λ rest back. subst (TracesBack space guide store goal) (sym (append_assoc actions (action ∷ []) rest))
            (way.traced (action ∷ rest) (by_cases (at == space.start) (λ e. absurd (other (equal at space.start e))) (λ e. e), (step.row, parent, step.found, step.taken, step.named, back)));
      }

module _ (space : Space) (guide : Guide) (store : Store) (goal g at : ℕ) (actions : List ℕ) (cost : ℕ) (first : IsFirstGoal space store.rows goal g) (start : at ≡ space.start) (way : IsWay space guide store goal g at actions cost) where
  pub way_is_plan : IsPlan space (record { actions = reverse actions; cost = cost })
  way_is_plan = (goal, subst (λ s. Walk space s (reverse actions) cost goal) start way.walk, first.is_goal)

  pub way_is_trace : IsTrace space guide store (reverse actions)
  way_is_trace =
      record {
        goal = goal;
        g = g;
        first = first;
        back = subst (TracesBack space guide store goal) (append-nil actions ∙ sym (reverse-reverse actions)) (way.traced [] start);
      }

  pub way_is_cheapest : (home other : ℕ) (row : Row) → store.rows home other ≡ Some row → IsTrue (space.is_goal other) → cost ≤ row.g
  way_is_cheapest home other row found is_goal =
      elim (first.first home other row found is_goal) [ inl less ↦ omega (arith, less, way.cheap) | inr same ↦ omega (arith, same.0, way.cheap) ]
