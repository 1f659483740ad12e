-- What a search with falling weights claims after its runs.
use Rattle.std.proofs.Common.{◌≡◌, ◌≤◌, ◌+◌, ℕ, true, Option, None, Some, List, [], ◌∷◌, ◌++◌, length, refl, sym, ap, ◌∙◌, subst, arith}
use Rattle.pb_model.specs.Weight.{IsWeight}
use Rattle.pb_model.specs.Space.{IsProper}
use Rattle.pb_model.specs.Store.{Store}
use Rattle.pb_model.specs.Guide.{IsAdmissible}
use Rattle.pb_model.specs.Plan.{Plan, IsPlan}
use Rattle.pb_model.specs.Certificate.{IsBackedBy}
use Rattle.pb_machine.specs.declared.event.End.{End}
use Rattle.pb_machine.specs.declared.event.End.TheVariants.{Quiet}
use Rattle.pb_machine.specs.Settings.{weight_of}
use Rattle.pb_machine.specs.Blocks.{AreBlocks}
use Rattle.pb_machine.specs.Machine.{Setup, IsSetup, Machine, Move, Runs, opening_machine}
use Rattle.pb_machine.specs.Lawful.{reopened_machine, reopened_setup}
use Rattle.pb_machine.proofs.Callers.{opening_is_lawful}
use Rattle.pb_task.specs.declared.parts.TaskParts.{TaskParts}
use Rattle.pb_task.specs.Parts.{space_of, greatest_cost, IsTask}
use Rattle.pb_estimate.specs.Estimates.{estimate_by, suits}
use Rattle.pb_estimate.proofs.Callers.{estimates_are_admissible}
use Rattle.pb_abstract.specs.Graph.{blocks_of}
use Rattle.pb_lease.specs.Leased.{guide_of}
use Rattle.pb_lease.specs.Begins.{home_store}
use Rattle.pb_lease.proofs.Callers.{setup_is}
use Rattle.pb_search.specs.Ends.{RunEnds}
use Rattle.pb_falling.specs.Falling.{weight_at, Claim, IsTraced, IsClaim, AreClaims, AfterClaims, HaveWeights}
use Rattle.pb_falling.specs.Laws.{ClaimsHold}
use Rattle.pb_falling.proofs.Callers.{all_weights, claims_before, claims_grow, one_more_weight, run_after, some_run}
use Rattle.pb_answer.specs.Searches.{weight_asked}
use Rattle.pb_answer.specs.Falling.{IsOfQuietRun, AreOfQuietRuns, AreFalling}
use Rattle.pb_answer.specs.FallingRuns.{FallingValue, weight_now, guide_in, setup_asked, claim_now, KeepsPlan, IsRunOf, IsFalling}

-- one more claim, that of a quiet run after the others
quiet_runs_grow : (setup : Setup) (begin : Machine) (before : Option Plan) (claims : List Claim) (claim : Claim) → AreOfQuietRuns setup begin claims
    → AfterClaims setup begin before claims claim.weight (λ last from plan. IsOfQuietRun last from claim) → AreOfQuietRuns setup begin (claims ++ claim ∷ [])
quiet_runs_grow setup begin before [] claim have after = after
quiet_runs_grow setup begin before (one ∷ []) claim have after = (have, after.1)
quiet_runs_grow setup begin before (one ∷ two ∷ claims) claim have after =
    (have.0, quiet_runs_grow (reopened_setup setup two.weight) (reopened_machine setup two.weight one.machine) (Some one.plan) (two ∷ claims) claim have.1 after.1)

module _ (before : List Claim) (machine : Machine) (search : FallingValue) (f : IsFalling before machine search) where
  abbrev setup : Setup
  setup = setup_asked search

  pub its_task : IsTask search.parts
  its_task = subst IsTask f.task f.lawful.is_task

  -- the choice by which all runs go suits the task
  pub suits_here : suits search.parts search.graph.choice ≡ true
  suits_here = subst (λ (p : TaskParts). suits p search.graph.choice ≡ true) f.task f.lawful.suits

  pub its_weight : IsWeight (weight_asked search.solve)
  its_weight = f.range.solve.settings.weight

  -- the weight of the run is that of its settings
  pub weight_is : weight_of search.graph.table.settings ≡ weight_now search
  weight_is = ap weight_of f.settings

  pub run_here : (last : Setup) × (begin : Machine) × (plan : Option Plan) × IsRunOf search machine last begin plan
  run_here = some_run (IsRunOf search machine) setup (opening_machine setup) None before (weight_now search) f.runs

  -- ---- what is searched

  is_setup : IsSetup setup greatest_cost
  is_setup =
      let here = setup_is search.graph f.lawful in
      record {
        space = subst (λ (p : TaskParts). IsProper (space_of p) greatest_cost) f.task here.space;
        blocks = subst (λ (p : TaskParts). AreBlocks (space_of p) (guide_of p search.graph.table.abstraction search.graph.choice) (blocks_of search.graph.table.abstraction)) f.task here.blocks;
        weight = its_weight;
      }

  admissible : IsAdmissible (space_of search.parts) (estimate_by search.parts search.graph.choice)
  admissible = estimates_are_admissible search.parts search.graph.choice its_task suits_here

  falling_by : (claims : List Claim) → AreClaims setup (opening_machine setup) None claims → AreOfQuietRuns setup (opening_machine setup) claims → HaveWeights (weight_asked search.solve) search.steps 0 claims → length claims ≤ search.steps + 1 → ClaimsHold
      → AreFalling search.solve search.parts search.graph.table.abstraction search.graph.choice search.steps claims
  falling_by claims are quiet_runs weights few hold =
      let all = hold setup greatest_cost (opening_machine setup) claims is_setup admissible (opening_is_lawful setup greatest_cost is_setup refl)
      (all_weights (weight_asked search.solve) search.steps 0 claims its_weight f.range.some_steps (omega (arith, few)) weights) are in
      record { are = are; quiet_runs = quiet_runs; few = few; weights = weights; hold = all.0; fall = all.1 }

  pub claims_before_fall : ClaimsHold → AreFalling search.solve search.parts search.graph.table.abstraction search.graph.choice search.steps before
  claims_before_fall = falling_by before (claims_before (IsRunOf search machine) setup (opening_machine setup) None before (weight_now search) f.runs) f.quiet_runs f.weights (omega (arith, f.count, f.within))

  one_longer : (claims : List Claim) (one : Claim) → length (claims ++ one ∷ []) ≡ length claims + 1
  one_longer [] one = refl
  one_longer (c ∷ claims) one = let rest = one_longer claims one in omega (arith, rest)

  -- ---- the claim

  module _ (plan : Plan) (plan_is : search.plan ≡ Some plan) where
    abbrev claim : Claim
    claim = claim_now search machine plan

    pub keeps : (last : Setup) (begin : Machine) (old : Option Plan) → IsRunOf search machine last begin old → KeepsPlan search.parts search.graph old (Some plan)
    keeps last begin old run = subst (λ (p : Option Plan). KeepsPlan search.parts search.graph old p) plan_is run.kept

    pub is_claim : (last : Setup) (begin : Machine) (old : Option Plan) → IsRunOf search machine last begin old → IsClaim last begin old claim
    is_claim last begin old run =
        let kept = keeps last begin old run in
        record {
          moves = run.left.moves;
          run = subst (λ (m : Machine). Runs last begin run.left.moves m) run.machine_is run.left.run.run;
          quiet = subst (λ (m : Machine). m.counts.end ≡ Some Quiet) run.machine_is (run.left.run.end_is ∙ sym run.left.end_is ∙ kept.4);
          traced = kept.0;
          is_plan = subst (λ (s : Setup). IsPlan s.space kept.0) run.setup_is (subst (λ (p : TaskParts). IsPlan (space_of p) kept.0) (sym f.task) kept.1.is_plan);
          backed = subst (λ (s : Store). IsBackedBy s.incumbent (Some kept.0)) (sym f.rows) kept.1.backed;
          trace = let t = kept.1.traced in
              let here : IsTraced (space_of search.parts) (guide_in search.graph) (home_store search.graph) kept.0 = record { goal = t.goal; g = t.g; home = t.first.home; row = t.first.row; found = t.first.found; costs = t.first.costs; is_goal = t.first.is_goal; first = t.first.first; back = t.back } in
              subst (λ (s : Store). IsTraced last.space last.guide s kept.0) (sym f.rows) (subst (λ (s : Setup). IsTraced s.space s.guide (home_store search.graph) kept.0) run.setup_is (subst (λ (p : TaskParts). IsTraced (space_of p) (guide_in search.graph) (home_store search.graph) kept.0) (sym f.task) here));
          plan_is = kept.2;
          weight_is = sym weight_is ∙ ap (λ (s : Setup). weight_of s.settings) run.setup_is;
        }

    claims_are : AreClaims setup (opening_machine setup) None (before ++ claim ∷ [])
    claims_are = claims_grow setup (opening_machine setup) None before claim
        (run_after (IsRunOf search machine) (λ last begin old. IsClaim last begin old claim) is_claim setup (opening_machine setup) None before (weight_now search) f.runs)

    -- the run of the claim, which came to this end
    abbrev RunTo : Setup → (begin : Machine) → End → Type 0
    RunTo last begin end = (spent : ℕ) × (moves : List Move) × (run : RunEnds last spent begin end moves) × (run.machine ≡ machine)

    is_of_quiet_run : (last : Setup) (begin : Machine) (old : Option Plan) → IsRunOf search machine last begin old → IsOfQuietRun last begin claim
    is_of_quiet_run last begin old run =
        let kept = keeps last begin old run in
        subst (λ (e : End). RunTo last begin e) (same_end run.left.end (sym run.left.end_is ∙ kept.4)) (search.graph.table.past.spent, run.left.moves, run.left.run, run.machine_is)
      where
        same_end : (end : End) → ◌≡◌ {A = Option End} (Some end) (Some Quiet) → end ≡ Quiet
        same_end end e = cc

    pub quiet_runs_are : AreOfQuietRuns setup (opening_machine setup) (before ++ claim ∷ [])
    quiet_runs_are = quiet_runs_grow setup (opening_machine setup) None before claim f.quiet_runs
        (run_after (IsRunOf search machine) (λ last begin old. IsOfQuietRun last begin claim) is_of_quiet_run setup (opening_machine setup) None before (weight_now search) f.runs)

    pub weights_are : HaveWeights (weight_asked search.solve) search.steps 0 (before ++ claim ∷ [])
    weights_are = one_more_weight (weight_asked search.solve) search.steps 0 before claim f.weights
        (let count : search.run ≡ 0 + length before = omega (arith, f.count) in λ i. weight_at (weight_asked search.solve) search.steps (count i))

    pub all_falling : ClaimsHold → AreFalling search.solve search.parts search.graph.table.abstraction search.graph.choice search.steps (before ++ claim ∷ [])
    all_falling = falling_by (before ++ claim ∷ []) claims_are quiet_runs_are weights_are (let longer = one_longer before claim in omega (arith, longer, f.count, f.within))
