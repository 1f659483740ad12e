-- A search that is repeated on the same rows with falling weights (M. Likhachev, G. Gordon,
-- S. Thrun, "ARA*: anytime A* with provable bounds on sub-optimality", 2003), and what it claims
-- after each run.
use Rattle.std.specs.Prelude.{◌≡◌, ℕ, ◌+◌, ◌-◌, ◌*◌, ◌/◌, ◌<◌, ◌≤◌, ◌⊎◌, IsTrue, List, [], ◌∷◌, reverse, Option, None, Some, if◌then◌else◌, nat_lt, ⊤}
use Rattle.pb_model.specs.declared.row.Row.{Row}
use Rattle.pb_model.specs.Space.{Space}
use Rattle.pb_model.specs.Guide.{Guide}
use Rattle.pb_model.specs.Store.{Store}
use Rattle.pb_model.specs.Trace.{TracesBack}
use Rattle.pb_model.specs.Weight.{Weight}
use Rattle.pb_model.specs.Plan.{Plan, IsPlan}
use Rattle.pb_model.specs.Certificate.{IsBackedBy}
use Rattle.pb_machine.specs.declared.event.End.TheVariants.{Quiet}
use Rattle.pb_machine.specs.Machine.{Setup, Machine, Move, Runs}
use Rattle.pb_machine.specs.Lawful.{reopened_machine, reopened_setup}

-- the weight of run k: from the first weight at run 0 down to den/den at run `steps`
abbrev pub weight_at : Weight → (steps k : ℕ) → Weight
weight_at weight steps k =
    record { num = weight.den + ((weight.num - weight.den) * (steps - k)) / steps; den = weight.den }

-- the plan that is claimed: the one that was traced, or that of the claim before if it is cheaper
abbrev pub kept_plan : (before : Option Plan) → (traced : Plan) → Plan
kept_plan None traced = traced
kept_plan (Some before) traced = if nat_lt before.cost traced.cost then before else traced

-- what is claimed after a run: the run's weight, what the search came to, and a plan
pub record Claim : Type 0 where
  pub weight : Weight
  pub machine : Machine
  pub plan : Plan

-- The rows of this store lead to the plan. Of all goals that have a row, one is the first, by the g of
-- its row, and at one g by its state. The plan's actions are those of the rows on the way from the
-- start to this goal, from parent to child.
pub record IsTraced (space : Space) (guide : Guide) (store : Store) (plan : Plan) : Type 0 where
  pub goal : ℕ
  pub g : ℕ
  pub home : ℕ
  pub row : Row
  pub found : store.rows home goal ≡ Some row
  pub costs : row.g ≡ g
  pub is_goal : IsTrue (space.is_goal goal)
  pub first : (other_home other : ℕ) (other_row : Row)
      → store.rows other_home other ≡ Some other_row → IsTrue (space.is_goal other)
      → (g < other_row.g) ⊎ ((g ≡ other_row.g) × (goal ≤ other))
  pub back : TracesBack space guide store goal (reverse plan.actions)

-- The claim is that of a run from this machine, which came to a quiet end. Its plan is the one that
-- the rows lead to, or the one before if that is cheaper.
pub record IsClaim (setup : Setup) (begin : Machine) (before : Option Plan) (claim : Claim) : Type 0
  where
    pub moves : List Move
    pub run : Runs setup begin moves claim.machine
    pub quiet : claim.machine.counts.end ≡ Some Quiet
    pub traced : Plan
    pub is_plan : IsPlan setup.space traced
    pub backed : IsBackedBy claim.machine.store.incumbent (Some traced)
    pub trace : IsTraced setup.space setup.guide claim.machine.store traced
    pub plan_is : claim.plan ≡ kept_plan before traced
    pub weight_is : claim.weight
        ≡ record { num = setup.settings.num; den = setup.settings.den }

-- The claims of a search with falling weights: each run after the first begins where the one before
-- ended, with the rows opened again under its weight.
abbrev pub AreClaims : Setup → (begin : Machine) → (before : Option Plan) → List Claim → Type 0
AreClaims setup begin before [] = ⊤
AreClaims setup begin before (claim ∷ []) = IsClaim setup begin before claim
AreClaims setup begin before (claim ∷ next ∷ claims) =
    IsClaim setup begin before claim
    × AreClaims (reopened_setup setup next.weight)
    (reopened_machine setup next.weight claim.machine) (Some claim.plan) (next ∷ claims)

-- the weight of the run that comes first: that of the first claim, or this one if there is none
abbrev pub first_weight : List Claim → (next : Weight) → Weight
first_weight [] next = next
first_weight (claim ∷ claims) next = claim.weight

-- After these claims comes one more run, at this weight. P holds of its setup, of the machine that it
-- begins with, and of the plan of the claim before it, if there is one.
abbrev pub AfterClaims : Setup → (begin : Machine) → (before : Option Plan) → List Claim
    → (next : Weight) → (P : Setup → Machine → Option Plan → Type 0) → Type 0
AfterClaims setup begin before [] next P = P setup begin before
AfterClaims setup begin before (claim ∷ claims) next P =
    let weight = first_weight claims next in
    IsClaim setup begin before claim
    × AfterClaims (reopened_setup setup weight) (reopened_machine setup weight claim.machine)
    (Some claim.plan) claims next P

-- The claims are those of the runs from number `run` on: each is at the weight of its run.
abbrev pub HaveWeights : Weight → (steps run : ℕ) → List Claim → Type 0
HaveWeights weight steps run [] = ⊤
HaveWeights weight steps run (claim ∷ claims) =
    (claim.weight ≡ weight_at weight steps run) × HaveWeights weight steps (run + 1) claims

-- the costs of the plans never rise
abbrev pub CostsFall : (before : Option Plan) → List Claim → Type 0
CostsFall before [] = ⊤
CostsFall None (claim ∷ claims) = CostsFall (Some claim.plan) claims
CostsFall (Some before) (claim ∷ claims) =
    (claim.plan.cost ≤ before.cost) × CostsFall (Some claim.plan) claims
