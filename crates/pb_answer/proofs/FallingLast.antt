-- When a claim is the last one.
use Rattle.std.proofs.Common.{◌≡◌, ◌≤◌, ◌+◌, ◌*◌, ℕ, Bool, true, nat_lt, ◌==◌, Option, None, Some, IsSome, List, refl, sym, ap, ◌∙◌, subst, arith}
use Rattle.std.proofs.Math.Nat.{le_of_mul-le-mul_left}
use Rattle.pb_model.specs.Weight.{Weight, IsWeight}
use Rattle.pb_model.specs.Plan.{Plan, IsBound}
use Rattle.pb_model.specs.Certificate.{IsBackedBy}
use Rattle.pb_model.proofs.Callers.{below, by_cases, equal, equal_self, not_below}
use Rattle.pb_machine.specs.declared.event.End.TheVariants.{Quiet}
use Rattle.pb_machine.specs.Machine.{Machine}
use Rattle.pb_falling.specs.Falling.{weight_at, Claim}
use Rattle.pb_falling.proofs.Callers.{weights_fall}
use Rattle.pb_answer.specs.Searches.{weight_asked}
use Rattle.pb_answer.specs.FallingRuns.{FallingValue, weight_now, IsFalling, IsLastAt, IsLast}
use Rattle.pb_answer.proofs.FallingRuns.{its_weight, keeps, run_here}

-- one cost has one bound
pub same_bound : (weight : Weight) (cost one other : ℕ) → IsBound weight cost one → IsBound weight cost other → one ≡ other
same_bound weight cost one other b c =
    let low = b.least other c.enough in
    let high = c.least one b.enough in
    omega (arith, low, high)

-- at the weight 1 the bound is the cost
pub whole_bound : (weight : Weight) → 1 ≤ weight.den → weight.num ≡ weight.den → (cost : ℕ) → IsBound weight cost cost
whole_bound weight some one cost = record {
  enough = subst (λ n. weight.den * cost ≤ n * cost) (sym one) (omega arith);
  least = λ other le. cancel weight.den cost other some (subst (λ n. weight.den * cost ≤ n * other) one le);
}
  where
    cancel : (k a b : ℕ) → 1 ≤ k → k * a ≤ k * b → a ≤ b
    cancel k a b some le = le_of_mul-le-mul_left le (omega (arith, some))

module _ (before : List Claim) (machine : Machine) (search : FallingValue) (f : IsFalling before machine search) where
  last_weight : search.run ≡ search.steps → (weight_now search).num ≡ (weight_now search).den
  last_weight at =
      ap (λ k. (weight_at (weight_asked search.solve) search.steps k).num) at
      ∙ (weights_fall (weight_asked search.solve) search.steps search.steps (its_weight before machine search f) f.range.some_steps (omega arith)).2

  last_at : (plan : Option Plan) → search.run ≡ search.steps → IsLastAt (weight_now search) plan
  last_at None at = tt
  last_at (Some plan) at = whole_bound (weight_now search) (its_weight before machine search f).positive (last_weight at) plan.cost

  -- the last run is the last
  pub ends : search.run ≡ search.steps → IsLast search
  ends at = last_at search.plan at

  -- else another run comes after it
  pub more_runs : (IsLast search → ⊥) → search.run + 1 ≤ search.steps
  more_runs not_last = by_cases (nat_lt search.run search.steps)
      (λ e. let less = below search.run search.steps e in omega (arith, less))
      (λ e. let most = not_below search.run search.steps e in absurd (not_last (ends (omega (arith, most, f.within)))))

  -- and there is a claim
  pub some_claim : (IsLast search → ⊥) → (plan : Plan) × (search.plan ≡ Some plan)
  some_claim not_last = go search.plan refl
    where
      go : (plan : Option Plan) → search.plan ≡ plan → (plan : Plan) × (search.plan ≡ Some plan)
      go None is = absurd (not_last (subst (λ (p : Option Plan). IsLastAt (weight_now search) p) (sym is) tt))
      go (Some plan) is = (plan, is)

  pub next_is_weight : search.run + 1 ≤ search.steps → IsWeight (weight_at (weight_asked search.solve) search.steps (search.run + 1))
  next_is_weight more = (weights_fall (weight_asked search.solve) search.steps (search.run + 1) (its_weight before machine search f) f.range.some_steps more).0

  some_backs : (incumbent : Option ℕ) (plan : Plan) → IsBackedBy incumbent (Some plan) → IsSome incumbent
  some_backs None plan backed = absurd backed
  some_backs (Some incumbent) plan backed = refl

  -- a claim comes of a quiet end with an incumbent
  pub claim_is_quiet : (plan : Plan) → search.plan ≡ Some plan → (search.graph.table.end ≡ Some Quiet) × IsSome search.graph.incumbent
  claim_is_quiet plan is =
      let run = run_here before machine search f in
      let kept = keeps before machine search f plan is run.0 run.1 run.2 run.3 in
      (kept.4, some_backs search.graph.incumbent kept.0 kept.1.backed)

  -- the claim is the last one if its bound is its cost
  pub last_by_bound : (plan : Plan) → search.plan ≡ Some plan → (bound : ℕ) → IsBound (weight_now search) plan.cost bound → (test : Bool) → test ≡ (bound == plan.cost) → (test ≡ true → IsLast search) × (IsLast search → test ≡ true)
  last_by_bound plan is bound bounded test said = (
    λ yes. subst (λ (p : Option Plan). IsLastAt (weight_now search) p) (sym is)
        (subst (λ n. IsBound (weight_now search) plan.cost n) (equal bound plan.cost (sym said ∙ yes)) bounded),
    λ last.
        let own : IsBound (weight_now search) plan.cost plan.cost = subst (λ (p : Option Plan). IsLastAt (weight_now search) p) is last in
        said ∙ ap (λ n. n == plan.cost) (same_bound (weight_now search) plan.cost bound plan.cost bounded own) ∙ equal_self plan.cost,
  )
