-- Walks are determined by their actions, and go on by one action.
use Rattle.std.proofs.Common.{◌≡◌, ℕ, ◌+◌, None, Some, List, [], ◌∷◌, ◌++◌, refl, sym, subst, ap, arith, ◌∙◌}
use Rattle.pb_model.specs.Space.{Space, Steps}
use Rattle.pb_model.specs.Plan.{Walk}

same_step : (space : Space) (state action to cost to' cost' : ℕ) → Steps space state action to cost → Steps space state action to' cost' → (to ≡ to') × (cost ≡ cost')
same_step space state action to cost to' cost' one two =
    let e : ◌≡◌ {A = ℕ × ℕ} (to, cost) (to', cost') = cc in (ap (λ (p : ℕ × ℕ). p.0) e, ap (λ (p : ℕ × ℕ). p.1) e)

pub same_walk : (space : Space) (from : ℕ) (actions : List ℕ) (cost to cost' to' : ℕ) → Walk space from actions cost to → Walk space from actions cost' to' → (cost ≡ cost') × (to ≡ to')
same_walk space from [] cost to cost' to' one two = (one.0 ∙ sym two.0, one.1 ∙ sym two.1)
same_walk space from (action ∷ actions) cost to cost' to' (next, first, rest, step, walk, sum) (next', first', rest', step', walk', sum') =
    let here : (next ≡ next') × (first ≡ first') = same_step space from action next first next' first' step step' in
    let there : (rest ≡ rest') × (to ≡ to') = same_walk space next' actions rest to rest' to' (subst (λ n. Walk space n actions rest to) here.0 walk) walk' in
    (cc (here.1, there.0, sum, sum'), there.1)

pub walk_on : (space : Space) (from : ℕ) (actions : List ℕ) (cost to action next more : ℕ) → Walk space from actions cost to → Steps space to action next more
    → Walk space from (actions ++ action ∷ []) (cost + more) next
walk_on space from [] cost to action next more walk step =
    (next, more, 0, subst (λ s. Steps space s action next more) walk.1 step, (refl, refl), let zero_cost : cost ≡ 0 = walk.0 in omega arith)
walk_on space from (first ∷ actions) cost to action next more (second, price, rest, step', walk, sum) step =
    (second, price, rest + more, step', walk_on space second actions rest to action next more walk step, let is : cost ≡ price + rest = sum in omega arith)

-- a walk cannot go on where an action is not applicable
pub no_way : (space : Space) (from : ℕ) (actions others : List ℕ) (action cost to whole end : ℕ) → Walk space from actions cost to → space.step to action ≡ None
    → Walk space from (actions ++ action ∷ others) whole end → ⊥
no_way space from [] others action cost to whole end walk none (next, first, rest, step, walk', sum) =
    let stopped : space.step from action ≡ None = subst (λ s. space.step s action ≡ None) walk.1 none in
    let went : space.step from action ≡ Some (next, first) = step in
    cc
no_way space from (a ∷ actions) others action cost to whole end (next, first, rest, step, walk, sum) none (next', first', rest', step', walk', sum') =
    let here : (next ≡ next') × (first ≡ first') = same_step space from a next first next' first' step step' in
    no_way space next actions others action rest to rest' end walk none (subst (λ n. Walk space n (actions ++ action ∷ others) rest' end) (sym here.0) walk')
