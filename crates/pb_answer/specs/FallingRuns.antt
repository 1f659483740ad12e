-- A search with falling weights after one of its runs, and what is handed out then.
use Rattle.std.specs.Prelude.{◌≡◌, ◌⊎◌, ◌<◌, ◌≤◌, ℕ, ⊤, IsFalse, Option, None, Some, List, [], ◌∷◌, ◌++◌, length}
use Rattle.std.specs.List.{AllByRecursion}
use Rattle.pb_model.specs.Weight.{Weight}
use Rattle.pb_model.specs.Guide.{Guide}
use Rattle.pb_model.specs.Plan.{Plan, IsBound}
use Rattle.pb_model.specs.Certificate.{IsPlanIfAny}
use Rattle.pb_machine.specs.declared.event.End.TheVariants.{Quiet, Budget}
use Rattle.pb_machine.specs.Machine.{Setup, Machine, opening_machine}
use Rattle.pb_task.specs.declared.parts.TaskParts.{TaskParts}
use Rattle.pb_task.specs.Parts.{space_of}
use Rattle.pb_lists.specs.Store.{IsQuietEnd}
use Rattle.pb_abstract.specs.Projection.{IsFinest}
use Rattle.pb_abstract.specs.Graph.{IsGraphOf}
use Rattle.pb_lease.specs.Leased.{guide_of}
use Rattle.pb_lease.specs.GraphValue.{GraphValue, setup_in, IsLeaseGraph}
use Rattle.pb_lease.specs.Choices.{is_out_in}
use Rattle.pb_lease.specs.Begins.{home_store, FitsWord}
use Rattle.pb_search.specs.Ends.{IsLeftBy}
use Rattle.pb_cert.specs.Found.{IsPlanOf}
use Rattle.pb_check.specs.Spelling.{PlanFits, PlanFitsIfAny}
use Rattle.pb_falling.specs.Falling.{weight_at, kept_plan, Claim, AfterClaims, HaveWeights}
use Rattle.pb_command.specs.Meaning.{SolveMeaning, IsFallingInRange}
use Rattle.pb_answer.specs.Searches.{settings_of, weight_asked}
use Rattle.pb_answer.specs.Answer.{Said}
use Rattle.pb_answer.specs.Parts.{AnswerPart}
use Rattle.pb_answer.specs.Falling.{asked_of_run, first_setup, AreOfQuietRuns, AreFalling, MayBeImproved, SaysClaim, SaysNone, SaysStop}

-- what callers see of a search with falling weights after one of its runs
pub record FallingValue : Type 0 where
  pub solve : SolveMeaning  -- what the words ask for
  pub parts : TaskParts  -- the task
  pub steps : ℕ  -- in how many steps the weight falls
  pub run : ℕ  -- the number of the run, from 0
  pub graph : GraphValue  -- what the run left
  pub plan : Option Plan  -- what is claimed after the run, if anything is
  pub name : Option (List ℕ)  -- of the certificate, with the number of the run

-- the weight of the run
abbrev pub weight_now : FallingValue → Weight
weight_now search = weight_at (weight_asked search.solve) search.steps search.run

-- what the run's states are looked up by
abbrev pub guide_in : GraphValue → Guide
guide_in graph = guide_of graph.task graph.table.abstraction graph.choice

-- the first run of the search, by the blocks and the choice of its graph
abbrev pub setup_asked : FallingValue → Setup
setup_asked search =
    first_setup search.solve search.parts search.graph.table.abstraction search.graph.choice

-- what is claimed after the run, with this plan, if the run came to this machine
abbrev pub claim_now : FallingValue → Machine → Plan → Claim
claim_now search machine plan =
    record { weight = weight_now search; machine = machine; plan = plan }

-- What is claimed after a run. At a quiet end with an incumbent it is the plan that the rows lead
-- to, or that of the claim before if that is cheaper. Else nothing is claimed: the budget was used
-- up, or there is no incumbent.
abbrev pub KeepsPlan : TaskParts → GraphValue → (before : Option Plan) → (kept : Option Plan)
    → Type 0
KeepsPlan parts graph before None =
    (graph.table.end ≡ Some Budget) ⊎ ((graph.table.end ≡ Some Quiet) × (graph.incumbent ≡ None))
KeepsPlan parts graph before (Some kept) =
    (traced : Plan) × IsPlanOf parts (guide_in graph) (home_store graph) (Some traced)
    × (kept ≡ kept_plan before traced) × PlanFits kept × (graph.table.end ≡ Some Quiet)

-- The run in hand came to this machine. It is one of this search, it began with this machine, and
-- this is the plan of the claim before it, if there is one.
pub record IsRunOf (search : FallingValue) (machine : Machine) (setup : Setup) (begin : Machine)
    (before : Option Plan) : Type 0 where
  pub setup_is : setup_in search.graph ≡ setup
  pub left : IsLeftBy setup search.graph.table.past.spent begin search.graph
  pub machine_is : left.run.machine ≡ machine
  pub before_is : IsPlanIfAny (space_of search.parts) before
  pub before_fits : PlanFitsIfAny before
  pub kept : KeepsPlan search.parts search.graph before search.plan

-- The search after a run that came to this machine, with these claims of the runs before. Its graph
-- is as the run left it, and all rows are at home.
pub record IsFalling (before : List Claim) (machine : Machine) (search : FallingValue) : Type 0
  where
    pub range : IsFallingInRange (record { solve = search.solve; steps = search.steps })
    pub within : search.run ≤ search.steps
    pub name : search.name ≡ (asked_of_run search.solve search.steps search.run).certificate
    -- the runs
    pub count : length before ≡ search.run
    pub weights : HaveWeights (weight_asked search.solve) search.steps 0 before
    pub improvable : AllByRecursion MayBeImproved before
    pub quiet_runs : AreOfQuietRuns (setup_asked search) (opening_machine (setup_asked search))
        before
    pub runs : AfterClaims (setup_asked search) (opening_machine (setup_asked search)) None before
        (weight_now search) (IsRunOf search machine)
    -- the graph
    pub lawful : IsLeaseGraph search.graph
    pub task : search.graph.task ≡ search.parts
    pub graph_of : IsGraphOf search.parts search.graph.table.abstraction
    pub finest : IsFinest search.parts search.solve.settings.wish
        search.graph.table.abstraction.projection
    pub settings : search.graph.table.settings
        ≡ settings_of (asked_of_run search.solve search.steps search.run)
    pub reopenings : search.graph.table.past.reopenings ≡ search.run
    pub first : search.run ≡ 0 → search.graph.table.past.spent ≡ 0
    pub ended : (search.graph.table.end ≡ Some Quiet) ⊎ (search.graph.table.end ≡ Some Budget)
    pub home : IsFalse (is_out_in search.graph)
    pub rows : machine.store ≡ home_store search.graph
    pub quiet : search.graph.table.end ≡ Some Quiet
        → IsQuietEnd (space_of search.parts) (guide_in search.graph) (home_store search.graph)
    pub fits : 1 < search.graph.table.settings.workers → FitsWord search.graph.incumbent

-- the search after some run
abbrev pub IsAfterRun : FallingValue → Type 0
IsAfterRun search = (before : List Claim) × (machine : Machine) × IsFalling before machine search

-- nothing is claimed at this weight, or a plan whose bound is its cost
abbrev pub IsLastAt : Weight → Option Plan → Type 0
IsLastAt weight None = ⊤
IsLastAt weight (Some plan) = IsBound weight plan.cost plan.cost

-- what is handed out after the run is the last thing to be handed out
abbrev pub IsLast : FallingValue → Type 0
IsLast search = IsLastAt (weight_now search) search.plan

-- ---- what is handed out after the run

abbrev pub part_of : Said → AnswerPart
part_of said = record { outputs = said.outputs; report = said.report }

-- a claim, with those before it
abbrev pub SaysClaimNow : List Claim → Machine → FallingValue → Said → Type 0
SaysClaimNow before machine search said =
    let abstraction = search.graph.table.abstraction in
    let choice = search.graph.choice in
    (plan : Plan) × (search.plan ≡ Some plan) × (said.status ≡ 0)
    × SaysClaim search.solve search.parts abstraction choice search.steps search.run
    (claim_now search machine plan) (part_of said)
    × AreFalling search.solve search.parts abstraction choice search.steps
    (before ++ claim_now search machine plan ∷ [])

-- that there is no plan, after the first run
abbrev pub SaysNoneNow : List Claim → FallingValue → Said → Type 0
SaysNoneNow before search said =
    (search.plan ≡ None) × (before ≡ []) × (said.status ≡ 1)
    × SaysNone search.solve search.parts search.graph.table.abstraction search.graph.choice
    search.steps (part_of said)

-- that the budget was used up, after the claims before
abbrev pub SaysStopNow : List Claim → FallingValue → Said → Type 0
SaysStopNow before search said =
    let abstraction = search.graph.table.abstraction in
    let choice = search.graph.choice in
    (search.plan ≡ None) × (said.status ≡ 2)
    × SaysStop search.solve search.parts abstraction choice search.steps before (part_of said)
    × AreFalling search.solve search.parts abstraction choice search.steps before

abbrev pub SaysNow : List Claim → Machine → FallingValue → Said → Type 0
SaysNow before machine search said =
    SaysClaimNow before machine search said
    ⊎ (SaysNoneNow before search said ⊎ SaysStopNow before search said)

-- The next run of the same search was made, over the same blocks and by the same estimate: the one
-- run in hand is a claim of those before it now, and the new one is the run in hand.
pub record GoesOn (before : List Claim) (machine : Machine) (search next : FallingValue) : Type 0
  where
    pub plan : Plan
    pub plan_is : search.plan ≡ Some plan
    pub last : Machine
    pub blocks : next.graph.table.abstraction ≡ search.graph.table.abstraction
    pub choice : next.graph.choice ≡ search.graph.choice
    pub falling : IsFalling (before ++ claim_now search machine plan ∷ []) last next
