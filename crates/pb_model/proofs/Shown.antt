-- Who shows the incumbent, and what it tells at a quiet end.
use Rattle.std.proofs.Common.{◌≡◌, ℕ, ◌*◌, ◌≤◌, List, [], ◌∷◌, Option, Some, None, refl, sym, subst, arith, ◌⊎◌, inl, inr}
use Rattle.pb_model.specs.Plan.{Plan, IsPlan, IncumbentHolds}
use Rattle.pb_model.specs.Store.{Store, HasGoalWithin, AtMost}
use Rattle.pb_model.specs.Work.{Work, expand, break_off, cut, take_goal, lower, reopen, store_after, LowersTo, lowerings, opening_store, incumbent_after, g_before}
use Rattle.pb_model.specs.Laws.{IncumbentsAreShown, IncumbentsNeverRise, QuietIncumbentsHold}
use Rattle.pb_model.proofs.Incumbents.{some_number, at_most_self, at_most_trans, lesser_at_most}
use Rattle.pb_model.proofs.Backing.{comes_backed}
use Rattle.pb_model.proofs.Tracing.{goals_are_plans}
use Rattle.pb_model.proofs.Optimality.{quiet_is_best}

lowers_none : {A : Type 0} (works : List Work) (cost : ℕ) → lowerings works ≡ 0 → LowersTo works cost → A
lowers_none [] cost none h = absurd h
lowers_none (expand own ∷ works) cost none h = lowers_none works cost none h
lowers_none (break_off own offers ∷ works) cost none h = lowers_none works cost none h
lowers_none (cut own ∷ works) cost none h = lowers_none works cost none h
lowers_none (take_goal own ∷ works) cost none h = lowers_none works cost none h
lowers_none (lower told ∷ works) cost none h = absurd (omega (arith, none))
lowers_none (reopen x ∷ works) cost none h = lowers_none works cost none h

pub incumbents_are_shown : IncumbentsAreShown
incumbents_are_shown space guide weight works store comes none cost is = go (comes_backed space guide works (opening_store space guide weight) store cost comes is)
  where
    go : (HasGoalWithin space guide store cost ⊎ (LowersTo works cost ⊎ ((before : ℕ) × (◌≡◌ {A = Option ℕ} None (Some before)) × (before ≤ cost)))) → HasGoalWithin space guide store cost
    go (inl h) = h
    go (inr (inl h)) = lowers_none works cost none h
    go (inr (inr h)) = let bad : ◌≡◌ {A = Option ℕ} None (Some h.0) = h.1 in cc

falls : (work : Work) (g : ℕ) (old : Option ℕ) → AtMost (incumbent_after work g old) old
falls (expand own) g old = at_most_self old
falls (break_off own offers) g old = at_most_self old
falls (cut own) g old = at_most_self old
falls (take_goal own) g old = lesser_at_most old (Some g)
falls (lower cost) g old = lesser_at_most old (Some cost)
falls (reopen x) g old = at_most_self old

pub incumbents_never_rise : IncumbentsNeverRise
incumbents_never_rise space guide [] old new comes = subst (λ (q : Store). AtMost q.incumbent old.incumbent) (sym comes) (at_most_self old.incumbent)
incumbents_never_rise space guide (work ∷ works) old new comes =
    at_most_trans new.incumbent (incumbent_after work (g_before guide old work) old.incumbent) old.incumbent
    (incumbents_never_rise space guide works (store_after space guide work old) new comes.1) (falls work (g_before guide old work) old.incumbent)

pub quiet_incumbents_hold : QuietIncumbentsHold
quiet_incumbents_hold space greatest_cost guide store proper sound shown quiet admissible =
    go store.incumbent (λ cost is. goals_are_plans space greatest_cost guide store proper sound cost (shown cost is)) (quiet_is_best space guide store sound quiet admissible)
  where
    go : (incumbent : Option ℕ) → ((cost : ℕ) → incumbent ≡ Some cost → (plan : Plan) × IsPlan space plan × (plan.cost ≤ cost))
        → ((plan : Plan) → IsPlan space plan → (best : ℕ) × (incumbent ≡ Some best) × (store.weight.den * best ≤ store.weight.num * plan.cost))
        → IncumbentHolds space store.weight incumbent
    go None known best = λ plan is. let b = best plan is in let bad : ◌≡◌ {A = Option ℕ} None (Some b.0) = b.1 in cc
    go (Some cost) known best = (
      known cost refl,
      λ plan is. let b = best plan is in subst (λ k. store.weight.den * k ≤ store.weight.num * plan.cost) (some_number b.0 cost (sym b.1)) b.2,
    )
