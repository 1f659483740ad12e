use Rattle.std.proofs.Common.{◌≡◌, ◌≢◌, ◌+◌, ◌<◌, ℕ, [], refl, ap, arith, ◌∙◌, ◌⊎◌, inl, inr}
use Rattle.std.proofs.lemmas.Bool.{cases_eq}
use Rattle.std.proofs.lemmas.List.{get_or_default}
use Rattle.pb_estimate.specs.Relaxed.{RelaxedAction, relaxed_at}
use Rattle.pb_estimate.proofs.relaxed.cost_one.Goals as goal

pub loop-action-preserved : goal.loop-action-preserved
loop-action-preserved c = record { all = λ k less. go k less (cases_eq k c.loop-action.action) } where
  go : (k : ℕ) → k < c.loop-action.action + 1 → (k ≡ c.loop-action.action) ⊎ (k ≢ c.loop-action.action) → (relaxed_at c.args.task.now.actions k).cost ≡ 1
  go k less (inl e) = ap (λ n. (relaxed_at c.args.task.now.actions n).cost) e ∙ (let same : (relaxed_at c.args.task.now.actions c.loop-action.action).cost ≡ 1 = omega (arith, c.cost.ensures, c.if-cost-ne1.false) in same)
  go k less (inr apart) = c.loop-action.invariant.all k (omega (arith, less, apart))

pub returns : goal.returns
returns c = (λ e k d less. ap (λ (a : RelaxedAction). a.cost) (get_or_default c.args.task.now.actions k d (record { adds = []; cost = 1 }) less) ∙ c.loop-action.invariant.all k (omega (arith, less, c.loop-action-test.false, c.requires)), λ all. refl)
