-- What is claimed of a STRIPS task by names: of the domain and the problem that the texts spell. A
-- state is a set of facts, and an action is one of the domain's with objects. Neither ground atoms
-- nor bits occur in these claims.
use Rattle.std.specs.Prelude.{◌≡◌, ℕ, ◌+◌, ◌*◌, ◌≤◌, ⊤, Option, None, Some, List, map, slice_get}
use Rattle.pb_model.specs.Weight.{Weight}
use Rattle.pb_model.specs.Plan.{IsBound}
use Rattle.pb_model.specs.Texts.{plan_report}
use Rattle.pb_task.specs.declared.parts.TaskParts.{TaskParts}
use Rattle.pb_task.specs.Parts.{space_of, action_name}
use Rattle.pb_pddl.specs.declared.tree.Domain.{Domain}
use Rattle.pb_pddl.specs.declared.tree.Problem.{Problem}
use Rattle.pb_pddl.specs.Trees.{SpellsDomain, SpellsProblem}
use Rattle.pb_lifted.specs.Plans.{NamedAction, IsPlan, plan_cost}
use Rattle.pb_strips.specs.Names.{action_bytes}
use Rattle.pb_strips.specs.Naming.{AreTellingNames}
use Rattle.pb_check.specs.declared.fault.Verdict.{Verdict}
use Rattle.pb_check.specs.declared.fault.Claim.TheVariants.{Bounded, Unsolvable}
use Rattle.pb_report.specs.Texts.{verdict_text}
use Rattle.pb_command.specs.Values.{InputNames, Grid, Tiles, Strips}

-- ---- what a plan's text says

-- the names of a task's actions tell them apart, each in one line
abbrev pub NamesTell : TaskParts → Type 0
NamesTell parts = AreTellingNames (space_of parts).actions (action_name parts)

-- ---- the trees

-- the two texts spell this domain and this problem, by the grammar
abbrev pub SpellTrees : (domain_text problem_text : Option (List ℕ)) → Domain → Problem → Type 0
SpellTrees None problem_text domain problem = ⊥
SpellTrees (Some domain_text) None domain problem = ⊥
SpellTrees (Some domain_text) (Some problem_text) domain problem =
    SpellsDomain domain_text domain × SpellsProblem problem_text problem

-- if the input is a domain and a problem, the texts from this place on spell them, and P holds of
-- them
abbrev pub OfTrees : InputNames → (first : ℕ) → (texts : List (List ℕ))
    → (P : Domain → Problem → Type 0) → Type 0
OfTrees (Grid names) first texts P = ⊤
OfTrees (Tiles board) first texts P = ⊤
OfTrees (Strips names) first texts P =
    (domain : Domain) × (problem : Problem) × SpellTrees (slice_get texts first)
    (slice_get texts (first + 1)) domain problem × P domain problem

-- ---- plans

-- no plan costs less than this
abbrev pub NoneBelow : Domain → Problem → (bound : ℕ) → Type 0
NoneBelow domain problem bound =
    (others : List NamedAction) → IsPlan domain problem others
    → bound ≤ plan_cost domain problem others

-- no plan costs less than this cost divided by the weight
abbrev pub NoneCheaperByNames : Domain → Problem → Weight → (cost : ℕ) → Type 0
NoneCheaperByNames domain problem weight cost =
    (others : List NamedAction) → IsPlan domain problem others
    → weight.den * cost ≤ weight.num * plan_cost domain problem others

abbrev pub HasNoNamedPlan : Domain → Problem → Type 0
HasNoNamedPlan domain problem = (actions : List NamedAction) → IsPlan domain problem actions → ⊥

-- A plan is printed by the names of its actions and their objects, as `(name object ..)` each. What
-- these actions cost together and the bound are printed too. No plan costs less than its cost
-- divided by the weight.
abbrev pub PrintsNamedPlan : (says : List ℕ → Type 0) → Weight → Domain → Problem → Type 0
PrintsNamedPlan says weight domain problem =
    (actions : List NamedAction) × (bound : ℕ)
    × says (plan_report (map (action_bytes domain) actions) (plan_cost domain problem actions)
    bound)
    × IsPlan domain problem actions × IsBound weight (plan_cost domain problem actions) bound
    × NoneCheaperByNames domain problem weight (plan_cost domain problem actions)

-- ---- verdicts

-- what an accepted certificate shows: some plan has its cost, and none costs less than the bound;
-- or there is none
abbrev pub NamedVerdict : Domain → Problem → Verdict → Type 0
NamedVerdict domain problem (Bounded cost bound) =
    ((actions : List NamedAction) × IsPlan domain problem actions
    × (plan_cost domain problem actions ≡ cost)) × NoneBelow domain problem bound
NamedVerdict domain problem Unsolvable = HasNoNamedPlan domain problem

abbrev pub AcceptsNamed : (says : List ℕ → Type 0) → Domain → Problem → Type 0
AcceptsNamed says domain problem =
    (verdict : Verdict) × says (verdict_text verdict) × NamedVerdict domain problem verdict
