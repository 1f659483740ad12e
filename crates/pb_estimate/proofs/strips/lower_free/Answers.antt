use Rattle.std.proofs.Common.{◌≡◌, ℕ, ◌⊎◌, List, get_or, take, All, Contains, subst, ◌∙◌, inl}
use Rattle.std.proofs.lemmas.List.{take_all}
use Rattle.pb_estimate.specs.Hmax.{IsAtMost}
use Rattle.pb_estimate.specs.Exploring.{cost_in, AreLowered}
use Rattle.pb_estimate.specs.Relaxed.{relaxed_at}
use Rattle.pb_estimate.specs.Tables.{AddsAt}
use Rattle.pb_estimate.proofs.Released.{only_free, reaches_free}
use Rattle.pb_estimate.proofs.strips.lower_free.Goals as goal

pub loop-user-preserved : goal.loop-user-preserved
loop-user-preserved c =
    let low : AreLowered (relaxed_at c.args.actions.now (get_or c.args.free.now c.loop-user.user-index 0)).adds (relaxed_at c.args.actions.now (get_or c.args.free.now c.loop-user.user-index 0)).cost
    c.loop-user.exploration.costs.items c.lower_each.new.self.costs.items =
    subst (λ (cost : ℕ). AreLowered (relaxed_at c.args.actions.now (get_or c.args.free.now c.loop-user.user-index 0)).adds cost c.loop-user.exploration.costs.items c.lower_each.new.self.costs.items) c.cost.ensures
    (subst (λ (atoms : List ℕ). AreLowered atoms c.cost.result c.loop-user.exploration.costs.items c.lower_each.new.self.costs.items) c.adds.ensures c.lower_each.ensures.lowered) in
    record {
      is = c.lower_each.ensures.is;
      long = c.lower_each.ensures.long ∙ c.loop-user.invariant.long;
      finals = λ atom. c.lower_each.ensures.finals atom ∙ c.loop-user.invariant.finals atom;
      falls = λ atom cost h. (low atom cost).1 (inl (c.loop-user.invariant.falls atom cost h));
      reaches = reaches_free c.args.free.now c.loop-user.user-index c.loop-user-test.true c.args.actions.now c.loop-user.exploration.costs.items c.lower_each.new.self.costs.items low
          c.loop-user.invariant.reaches;
      only = only_free c.args.free.now c.loop-user.user-index c.loop-user-test.true c.args.actions.now c.args.exploration.now.costs.items c.loop-user.exploration.costs.items
          c.lower_each.new.self.costs.items (λ atom cost. (low atom cost).0) c.loop-user.invariant.only;
    }

pub returns-clause-reaches : goal.returns-clause-reaches
returns-clause-reaches c =
    let all : take c.loop-user.user-index c.args.free.now ≡ c.args.free.now = take_all c.loop-user.user-index c.args.free.now c.loop-user-test.false in
    subst
    (λ users. All (λ user. All (λ atom. IsAtMost (cost_in c.loop-user.exploration.costs.items atom) (relaxed_at c.args.actions.now user).cost) (relaxed_at c.args.actions.now user).adds) users)
    all c.loop-user.invariant.reaches

pub returns-clause-only : goal.returns-clause-only
returns-clause-only c =
    let all : take c.loop-user.user-index c.args.free.now ≡ c.args.free.now = take_all c.loop-user.user-index c.args.free.now c.loop-user-test.false in
    subst
    (λ (users : List ℕ). (atom cost : ℕ) → IsAtMost (cost_in c.loop-user.exploration.costs.items atom) cost
    → IsAtMost (cost_in c.args.exploration.now.costs.items atom) cost ⊎ ((user : ℕ) × Contains users user × AddsAt (relaxed_at c.args.actions.now user) 0 atom cost)) all
    c.loop-user.invariant.only
