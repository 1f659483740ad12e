-- From a row back to the start, along parents.
use Rattle.std.proofs.Common.{◌≡◌, ℕ, zero, suc, ◌+◌, ◌<◌, ◌≤◌, ◌==◌, false, List, [], ◌∷◌, ◌++◌, reverse, Option, Some, refl, sym, ap, ◌∙◌, subst, arith, le_trans, ◌⊎◌, inl, inr}
use mathlib.Core.List.{reverse-cons}
use Rattle.pb_model.specs.declared.row.Row.{Row}
use Rattle.pb_model.specs.Space.{Space, Steps, IsProper}
use Rattle.pb_model.specs.Guide.{Guide}
use Rattle.pb_model.specs.Store.{Store, row_at}
use Rattle.pb_model.specs.Plan.{Walk}
use Rattle.pb_model.specs.Sound.{HasParent, IsSound}
use Rattle.pb_model.specs.Trace.{TracesBack}
use Rattle.pb_model.specs.Laws.{RowsAreTraced, TracesAreWalks, WalksAreDetermined, GoalsArePlans}
use Rattle.pb_model.proofs.Tests.{by_cases, equal, equal_self, not_both}
use Rattle.pb_model.proofs.Incumbents.{some_number}
use Rattle.pb_model.proofs.Offers.{some_row}

-- one more step at the end of a walk
pub walk_on : (space : Space) (actions : List ℕ) (from at to action cost more : ℕ) → Walk space from actions cost at → Steps space at action to more → Walk space from (actions ++ action ∷ []) (cost + more) to
walk_on space [] from at to action cost more walk step =
    (to, more, 0, subst (λ s. Steps space s action to more) walk.1 step, (refl, refl), omega (arith, walk.0))
walk_on space (first ∷ actions) from at to action cost more walk step =
    (walk.0, walk.1, walk.2 + more, walk.3, walk_on space actions walk.0 at to action walk.2 more walk.4 step, omega (arith, walk.5))

-- ---- traces

pub traces_are_walks : TracesAreWalks
traces_are_walks space guide store sound [] state row is traced = (0, (refl, traced), omega arith)
traces_are_walks space guide store sound (action ∷ actions) state row is traced =
    go (sound.parent state row is) (traces_are_walks space guide store sound actions)
  where
    go : ((state ≡ space.start) ⊎ HasParent space guide store state row)
        → ((state : ℕ) (row : Row) → row_at guide store state ≡ Some row → TracesBack space guide store state actions → (cost : ℕ) × Walk space space.start (reverse actions) cost state × (cost ≤ row.g))
        → (cost : ℕ) × Walk space space.start (reverse (action ∷ actions)) cost state × (cost ≤ row.g)
    go (inl e) rest = not_both (state == space.start) (ap (λ k. k == space.start) e ∙ equal_self space.start) traced.0
    go (inr h) rest =
        let t = traced.1 in
        let same : t.0 ≡ row = some_row t.0 row (sym t.2 ∙ is) in
        let named : ◌≡◌ {A = Option ℕ} (Some t.1) (Some h.parent) = sym t.4 ∙ ap (λ (x : Row). x.parent) same ∙ h.named in
        let there : t.1 ≡ h.parent = some_number t.1 h.parent named in
        let act : row.action ≡ action = ap (λ (x : Row). x.action) (sym same) ∙ t.3 in
        let before = rest h.parent h.parent_row h.found (subst (λ p. TracesBack space guide store p actions) there t.5) in (
          before.0 + h.cost,
          subst (λ actions. Walk space space.start actions (before.0 + h.cost) state) (sym (reverse-cons action actions))
              (walk_on space (reverse actions) space.start h.parent state action before.0 h.cost before.1 (subst (λ k. Steps space h.parent k state h.cost) act h.step)),
          omega (arith, before.2, h.cheaper),
        )

-- ---- each row is traced: g falls along parents, since each step costs at least 1

traced : (space : Space) (greatest_cost : ℕ) (guide : Guide) (store : Store) → IsProper space greatest_cost → IsSound space guide store
    → (fuel state : ℕ) (row : Row) → row.g < fuel → row_at guide store state ≡ Some row → (actions : List ℕ) × TracesBack space guide store state actions
traced space greatest_cost guide store proper sound zero state row less is = absurd (omega arith)
traced space greatest_cost guide store proper sound (suc fuel) state row less is =
    by_cases (state == space.start) (λ e. ([], equal state space.start e)) (λ e. go e (sound.parent state row is) (traced space greatest_cost guide store proper sound fuel))
  where
    go : (state == space.start) ≡ false → ((state ≡ space.start) ⊎ HasParent space guide store state row)
        → ((state : ℕ) (row : Row) → row.g < fuel → row_at guide store state ≡ Some row → (actions : List ℕ) × TracesBack space guide store state actions)
        → (actions : List ℕ) × TracesBack space guide store state actions
    go other (inl e) rest = not_both (state == space.start) (ap (λ k. k == space.start) e ∙ equal_self space.start) other
    go other (inr h) rest =
        let positive : 1 ≤ h.cost = proper.positive h.parent row.action state h.cost h.step in
        let before = rest h.parent h.parent_row (omega (arith, h.cheaper, positive, less)) h.found in
        (row.action ∷ before.0, (other, (row, h.parent, is, refl, h.named, before.1)))

pub rows_are_traced : RowsAreTraced
rows_are_traced space greatest_cost guide store proper sound state row is = traced space greatest_cost guide store proper sound (row.g + 1) state row (omega arith) is

pub goals_are_plans : GoalsArePlans
goals_are_plans space greatest_cost guide store proper sound most (goal, is_goal, (row, found, low)) =
    let trace = rows_are_traced space greatest_cost guide store proper sound goal row found in
    let walk = traces_are_walks space guide store sound trace.0 goal row found trace.1 in
    (record { actions = reverse trace.0; cost = walk.0 }, (goal, walk.1, is_goal), le_trans walk.2 low)

-- ---- walks

pub walks_are_determined : WalksAreDetermined
walks_are_determined space [] from cost to other_cost other one two = (one.0 ∙ sym two.0, one.1 ∙ sym two.1)
walks_are_determined space (action ∷ actions) from cost to other_cost other one two =
    let same : ◌≡◌ {A = Option (ℕ × ℕ)} (Some (one.0, one.1)) (Some (two.0, two.1)) = sym one.3 ∙ two.3 in
    let pair : ◌≡◌ {A = ℕ × ℕ} (one.0, one.1) (two.0, two.1) = cc in
    let next : one.0 ≡ two.0 = ap (λ (p : ℕ × ℕ). p.0) pair in
    let first : one.1 ≡ two.1 = ap (λ (p : ℕ × ℕ). p.1) pair in
    let rest = walks_are_determined space actions two.0 one.2 to two.2 other (subst (λ s. Walk space s actions one.2 to) next one.4) two.4 in
    (omega (arith, one.5, two.5, first, rest.0), rest.1)
