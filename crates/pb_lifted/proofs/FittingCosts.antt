-- Costs fit exactly where nothing that is said of them is at fault.
use Rattle.std.proofs.Common.{◌≡◌, ◌≤◌, ℕ, Bool, true, false, nat_eq, nat_lt, Option, Some, None, List, [], ◌∷◌, length, get_or, All, refl, ap, arith}
use Rattle.std.proofs.lemmas.Bool.Decides.{nat_tests}
use Rattle.pb_pddl.specs.declared.tree.Name.{Name}
use Rattle.pb_pddl.specs.declared.tree.Cost.{Cost}
use Rattle.pb_pddl.specs.declared.tree.Action.{Action}
use Rattle.pb_pddl.specs.declared.tree.Domain.{Domain}
use Rattle.pb_pddl.specs.declared.tree.Problem.{Problem}
use Rattle.pb_lifted.specs.declared.refusal.Cause.TheVariants as causes
use Rattle.pb_lifted.specs.Names.{fault_if}
use Rattle.pb_lifted.specs.Costs.{increase_of, cost_with, undeclared, undeclared_metric, costs_again, too_great, zero_increase, zero_cost}
use Rattle.pb_lifted.specs.Refusals.{in_action, in_domain, in_problem}
use Rattle.pb_lifted.specs.Typing.{HasNoCosts, CostsFit}
use Rattle.pb_lifted.proofs.Faultless.{both_nil, all_nil, nil_left, nil_right, each_nil, no_fault}

-- ---- what is not at fault fits

no_costs : (has_cost : Bool) (costs : List Cost) → has_cost ≡ false → undeclared has_cost costs ≡ [] → costs ≡ []
no_costs true costs e h = cc
no_costs false [] e h = refl
no_costs false (c ∷ costs) e h = cc

no_metric : (has_cost : Bool) (metric : Option ℕ) → has_cost ≡ false → undeclared_metric has_cost metric ≡ [] → metric ≡ None
no_metric true metric e h = cc
no_metric false None e h = refl
no_metric false (Some at) e h = cc

at_most_once : (costs : List Cost) → costs_again costs ≡ [] → length costs ≤ 1
at_most_once [] h = omega arith
at_most_once (c ∷ []) h = omega arith
at_most_once (c ∷ d ∷ costs) h = cc

within : (most : ℕ) (costs : List Cost) → too_great most costs ≡ [] → All (λ (c : Cost). c.number ≤ most) costs
within most costs h k d less =
    let c : Cost = get_or costs k d in
    let no : nat_lt most c.number ≡ false =
    no_fault (nat_lt most c.number) c.number_at (each_nil (λ c. fault_if (nat_lt most c.number) c.number_at) costs h k d less) in
    grind (arith, nat_tests)

some_increase : (name : Name) (costs : List Cost) → zero_increase name costs ≡ [] → 1 ≤ increase_of costs
some_increase name [] h = cc
some_increase name (c ∷ costs) h = let no : nat_eq c.number 0 ≡ false = no_fault (nat_eq c.number 0) c.number_at h in grind (arith, nat_tests)

some_cost : (metric : Option ℕ) (action : Action) → zero_cost metric action ≡ [] → 1 ≤ cost_with metric action
some_cost None action h = omega arith
some_cost (Some at) action h = some_increase action.name action.costs h

pub costs_fit : (domain : Domain) (problem : Problem) → in_domain causes.NoFunction domain problem ≡ [] → in_problem causes.NoFunction domain problem ≡ []
    → in_domain causes.CostTwice domain problem ≡ [] → in_problem causes.CostTwice domain problem ≡ [] → in_domain causes.CostRange domain problem ≡ []
    → in_problem causes.CostRange domain problem ≡ [] → in_domain causes.ZeroCost domain problem ≡ [] → CostsFit domain problem
costs_fit domain problem function function_too again again_too range range_too zeros = record {
  declared = λ none. record {
    increases =
        λ k d less. no_costs domain.has_cost (get_or domain.actions k d).costs none
        (each_nil (λ a. in_action causes.NoFunction domain problem a) domain.actions function k d less);
    initial = no_costs domain.has_cost problem.costs none (nil_left _ _ function_too);
    metric = no_metric domain.has_cost problem.metric none (nil_right _ _ function_too);
  };
  once = λ k d less. at_most_once (get_or domain.actions k d).costs (each_nil (λ a. in_action causes.CostTwice domain problem a) domain.actions again k d less);
  few = λ k d less. within 1048576 (get_or domain.actions k d).costs (each_nil (λ a. in_action causes.CostRange domain problem a) domain.actions range k d less);
  some = λ k d less. some_cost problem.metric (get_or domain.actions k d) (each_nil (λ a. in_action causes.ZeroCost domain problem a) domain.actions zeros k d less);
  once_at_first = at_most_once problem.costs again_too;
  none_at_first = λ k d less. let most : (get_or problem.costs k d).number ≤ 0 = within 0 problem.costs range_too k d less in omega arith;
}

-- ---- what fits is not at fault

declared : (has_cost : Bool) (costs : List Cost) → (has_cost ≡ false → costs ≡ []) → undeclared has_cost costs ≡ []
declared true costs h = all_nil (λ c. fault_if false c.function) costs (λ k d less. refl)
declared false costs h = ap (undeclared false) (h refl)

declared_metric : (has_cost : Bool) (metric : Option ℕ) → (has_cost ≡ false → metric ≡ None) → undeclared_metric has_cost metric ≡ []
declared_metric true None h = refl
declared_metric true (Some at) h = refl
declared_metric false metric h = ap (undeclared_metric false) (h refl)

not_again : (costs : List Cost) → length costs ≤ 1 → costs_again costs ≡ []
not_again [] few = refl
not_again (c ∷ []) few = refl
not_again (c ∷ d ∷ costs) few = absurd (omega arith)

none_too_great : (most : ℕ) (costs : List Cost) → All (λ (c : Cost). c.number ≤ most) costs → too_great most costs ≡ []
none_too_great most costs all =
    all_nil (λ c. fault_if (nat_lt most c.number) c.number_at) costs
    (λ k d less. let c : Cost = get_or costs k d in
    let small : c.number ≤ most = all k d less in
    let no : nat_lt most c.number ≡ false = grind (arith, nat_tests) in ap (λ b. fault_if b c.number_at) no)

not_zero : (name : Name) (costs : List Cost) → 1 ≤ increase_of costs → zero_increase name costs ≡ []
not_zero name [] some = absurd (omega arith)
not_zero name (c ∷ costs) some = let no : nat_eq c.number 0 ≡ false = grind (arith, nat_tests) in ap (λ b. fault_if b c.number_at) no

no_zero_cost : (metric : Option ℕ) (action : Action) → 1 ≤ cost_with metric action → zero_cost metric action ≡ []
no_zero_cost None action some = refl
no_zero_cost (Some at) action some = not_zero action.name action.costs some

pub all_declared : (domain : Domain) (problem : Problem) → CostsFit domain problem → (in_domain causes.NoFunction domain problem ≡ []) × (in_problem causes.NoFunction domain problem ≡ [])
all_declared domain problem fit = (
  all_nil (λ a. in_action causes.NoFunction domain problem a) domain.actions
      (λ k d less. declared domain.has_cost (get_or domain.actions k d).costs (λ none. let free : HasNoCosts domain problem = fit.declared none in free.increases k d less)),
  both_nil _ _ (declared domain.has_cost problem.costs (λ none. let free : HasNoCosts domain problem = fit.declared none in free.initial))
      (declared_metric domain.has_cost problem.metric (λ none. let free : HasNoCosts domain problem = fit.declared none in free.metric)),
)

pub none_again : (domain : Domain) (problem : Problem) → CostsFit domain problem → (in_domain causes.CostTwice domain problem ≡ []) × (in_problem causes.CostTwice domain problem ≡ [])
none_again domain problem fit = (
  all_nil (λ a. in_action causes.CostTwice domain problem a) domain.actions (λ k d less. not_again (get_or domain.actions k d).costs (fit.once k d less)),
  not_again problem.costs fit.once_at_first,
)

pub all_in_range : (domain : Domain) (problem : Problem) → CostsFit domain problem → (in_domain causes.CostRange domain problem ≡ []) × (in_problem causes.CostRange domain problem ≡ [])
all_in_range domain problem fit = (
  all_nil (λ a. in_action causes.CostRange domain problem a) domain.actions (λ k d less. none_too_great 1048576 (get_or domain.actions k d).costs (fit.few k d less)),
  none_too_great 0 problem.costs (λ k d less. let zero_is : (get_or problem.costs k d).number ≡ 0 = fit.none_at_first k d less in omega arith),
)

pub none_zero : (domain : Domain) (problem : Problem) → CostsFit domain problem → (in_domain causes.ZeroCost domain problem ≡ []) × (in_problem causes.ZeroCost domain problem ≡ [])
none_zero domain problem fit = (
  all_nil (λ a. in_action causes.ZeroCost domain problem a) domain.actions (λ k d less. no_zero_cost problem.metric (get_or domain.actions k d) (fit.some k d less)),
  refl,
)
