-- The first run of a search with falling weights, and each further one.
use Rattle.std.proofs.Common.{◌≡◌, ◌⊎◌, ◌<◌, ◌≤◌, ◌+◌, ℕ, false, Option, None, Some, List, [], ◌∷◌, ◌++◌, length, Result, Ok, Err, IfOk, refl, sym, ap, ◌∙◌, subst, arith}
use Rattle.std.specs.List.{AllByRecursion}
use Rattle.pb_model.specs.Weight.{Weight}
use Rattle.pb_model.specs.Plan.{Plan, IsPlan}
use Rattle.pb_machine.specs.declared.event.End.TheVariants.{Quiet, Budget}
use Rattle.pb_machine.specs.declared.settings.Settings.{Settings}
use Rattle.pb_machine.specs.Settings.{settings_with}
use Rattle.pb_machine.specs.Counts.{is_any_out}
use Rattle.pb_machine.specs.Machine.{Setup, Machine, opening_machine}
use Rattle.pb_machine.proofs.Callers.{all_off_none_out}
use Rattle.pb_machine.specs.Lawful.{reopened_machine, reopened_setup}
use Rattle.pb_task.specs.declared.parts.TaskParts.{TaskParts}
use Rattle.pb_task.specs.Parts.{space_of}
use Rattle.pb_lists.specs.Store.{IsQuietEnd}
use Rattle.pb_abstract.specs.Projection.{IsFinest}
use Rattle.pb_abstract.specs.Graph.{AbstractGraph, IsGraphOf}
use Rattle.pb_lease.specs.declared.past.Past.{Past}
use Rattle.pb_lease.specs.Leased.{setup_of}
use Rattle.pb_lease.specs.Tables.{no_past}
use Rattle.pb_lease.specs.GraphValue.{GraphValue, setup_in, IsLeaseGraph}
use Rattle.pb_lease.specs.Choices.{is_out_in}
use Rattle.pb_lease.specs.Begins.{begin_machine, home_store, IsOfRun, IsReopened, FitsWord, IsFirstMoment, BeginsAgain}
use Rattle.pb_workers.specs.Ends.{IsBestEnd}
use Rattle.pb_workers.proofs.Callers.{store_is}
use Rattle.pb_search.specs.Ends.{HasSmallCosts, IsLeftBy, IsLeftByRun, IsLeftBySearch}
use Rattle.pb_check.specs.Spelling.{PlanFits, PlanFitsIfAny}
use Rattle.pb_falling.specs.Falling.{weight_at, Claim, IsClaim, AfterClaims}
use Rattle.pb_falling.proofs.Callers.{kept_is_plan, run_after, runs_go_on, weights_fall}
use Rattle.pb_command.specs.Meaning.{SolveMeaning, IsFallingInRange}
use Rattle.pb_answer.specs.Searches.{settings_of, weight_asked}
use Rattle.pb_answer.specs.Falling.{asked_of_run, first_setup, AreOfQuietRuns, MayBeImproved}
use Rattle.pb_answer.specs.FallingRuns.{FallingValue, weight_now, guide_in, setup_asked, claim_now, KeepsPlan, IsRunOf, IsFalling, IsLastAt, IsLast, GoesOn}
use Rattle.pb_answer.proofs.FallingRuns.{is_claim, keeps, quiet_runs_are, run_here, weights_are}

-- the rows at a quiet end, as its certificate asks for them
pub quiet_rows_of : (parts : TaskParts) (g : GraphValue) → g.task ≡ parts → IsBestEnd g → HasSmallCosts g → IsQuietEnd (space_of parts) (guide_in g) (home_store g)
quiet_rows_of parts g task best small =
    subst (λ (p : TaskParts). IsQuietEnd (space_of p) (guide_in g) (home_store g)) task
    (record { sound = best.sound; quiet = best.quiet; shown = best.shown; holds = best.holds; small = small })

-- what is known of a search that was made after a run that left this graph
pub record IsMade (solve : SolveMeaning) (parts : TaskParts) (steps run : ℕ) (graph : GraphValue) (before : Option Plan) (s : FallingValue) : Type 0 where
  pub solve_is : s.solve ≡ solve
  pub parts_is : s.parts ≡ parts
  pub steps_is : s.steps ≡ steps
  pub run_is : s.run ≡ run
  pub graph_is : s.graph ≡ graph
  pub kept : KeepsPlan parts graph before s.plan
  pub name_is : s.name ≡ (asked_of_run solve steps run).certificate

-- the same search, by what it was made of
abbrev pub made_of : SolveMeaning → TaskParts → (steps run : ℕ) → GraphValue → Option Plan → FallingValue
made_of solve parts steps run graph plan =
    record { solve = solve; parts = parts; steps = steps; run = run; graph = graph; plan = plan; name = (asked_of_run solve steps run).certificate }

pub made_is : (solve : SolveMeaning) (parts : TaskParts) (steps run : ℕ) (graph : GraphValue) (before : Option Plan) (s : FallingValue) → IsMade solve parts steps run graph before s
    → made_of solve parts steps run graph s.plan ≡ s
made_is solve parts steps run graph before s m =
    sym (λ i. record { solve = m.solve_is i; parts = m.parts_is i; steps = m.steps_is i; run = m.run_is i; graph = m.graph_is i; plan = s.plan; name = m.name_is i })

-- what the call says that makes it
pub all_made : {E : Type 0} (solve : SolveMeaning) (parts : TaskParts) (steps run : ℕ) (graph : GraphValue) (before : Option Plan) (r : Result FallingValue E) → IfOk r (λ s. s.solve ≡ solve) → IfOk r (λ s. s.parts ≡ parts) → IfOk r (λ s. s.steps ≡ steps) → IfOk r (λ s. s.run ≡ run)
    → IfOk r (λ s. s.graph ≡ graph) → IfOk r (λ s. KeepsPlan parts graph before s.plan) → IfOk r (λ s. s.name ≡ (asked_of_run solve steps run).certificate) → IfOk r (IsMade solve parts steps run graph before)
all_made solve parts steps run graph before (Ok s) solve_is parts_is steps_is run_is graph_is kept name_is =
    record { solve_is = solve_is; parts_is = parts_is; steps_is = steps_is; run_is = run_is; graph_is = graph_is; kept = kept; name_is = name_is }
all_made solve parts steps run graph before (Err e) solve_is parts_is steps_is run_is graph_is kept name_is = tt

-- ---- the first run

module _ (solve : SolveMeaning) (steps : ℕ) (range : IsFallingInRange (record { solve = solve; steps = steps })) (parts : TaskParts) (g : GraphValue) (lawful : IsLeaseGraph g)
    (task : g.task ≡ parts) (graph_of : IsGraphOf parts g.table.abstraction) (finest : IsFinest parts solve.settings.wish g.table.abstraction.projection)
    (settings : g.table.settings ≡ solve.settings) (past : g.table.past ≡ no_past)
    (ended : (g.table.end ≡ Some Quiet) ⊎ (g.table.end ≡ Some Budget))
    (quiet : g.table.end ≡ Some Quiet → IsQuietEnd (space_of parts) (guide_in g) (home_store g))
    (left : IsLeftBySearch parts g.choice solve.settings g) (fits : 1 < solve.settings.workers → FitsWord g.incumbent) where
  spent_none : g.table.past.spent ≡ 0
  spent_none = ap (λ (p : Past). p.spent) past

  here : IsLeftBy (first_setup solve parts g.table.abstraction g.choice) g.table.past.spent (opening_machine (first_setup solve parts g.table.abstraction g.choice)) g
  here = subst (λ n. IsLeftBy (first_setup solve parts g.table.abstraction g.choice) n (opening_machine (first_setup solve parts g.table.abstraction g.choice)) g) (sym spent_none) left

  -- every worker has signed off, so no lease is out
  home : is_out_in g ≡ false
  home =
      (λ i. is_any_out (settings i).workers (sym here.moment.at.counts i).leases)
      ∙ all_off_none_out (first_setup solve parts g.table.abstraction g.choice).blocks solve.settings here.run.machine.counts here.run.lawful.counts here.run.finished.signed_off

  first_settings : solve.settings ≡ settings_of (asked_of_run solve steps 0)
  first_settings =
      let same : (weight_asked solve).num ≡ (weight_at (weight_asked solve) steps 0).num = sym (weights_fall (weight_asked solve) steps 0 range.solve.settings.weight range.some_steps (omega arith)).1 in
      λ i. settings_with solve.settings (record { num = same i; den = solve.settings.den }) solve.settings.pattern

  module _ (plan : Option Plan) (kept : KeepsPlan parts g None plan) where
    falls : IsFalling [] here.run.machine (made_of solve parts steps 0 g plan)
    falls = record {
      range = range;
      within = omega arith;
      name = refl;
      count = refl;
      weights = tt;
      improvable = tt;
      quiet_runs = tt;
      runs = record {
        setup_is = λ i. setup_of (task i) g.table.abstraction g.choice (settings i) (past i).reopenings;
        left = here;
        machine_is = refl;
        before_is = tt;
        before_fits = tt;
        kept = kept;
      };
      lawful = lawful;
      task = task;
      graph_of = graph_of;
      finest = finest;
      settings = settings ∙ first_settings;
      reopenings = ap (λ (p : Past). p.reopenings) past;
      first = λ zero. spent_none;
      ended = ended;
      home = home;
      rows = store_is g lawful home here.recorded here.run.machine here.moment;
      quiet = quiet;
      fits = subst (λ (s : Settings). 1 < s.workers → FitsWord g.incumbent) (sym settings) fits;
    }

  pub first_falls : (s : FallingValue) → IsMade solve parts steps 0 g None s → (machine : Machine) × IsFalling [] machine s
  first_falls s m =
      subst (λ (v : FallingValue). (machine : Machine) × IsFalling [] machine v) (made_is solve parts steps 0 g None s m) (here.run.machine, falls s.plan m.kept)

-- ---- what a further run needs

module _ (before : List Claim) (machine : Machine) (search : FallingValue) (f : IsFalling before machine search) where
  pub begins_next : (weight : Weight) (again : GraphValue) → BeginsAgain search.graph weight again → IsFirstMoment again
  begins_next weight again begins =
      let run = run_here before machine search f in
      (begins run.3.left.recorded run.3.left.run.machine run.3.left.moment).0

  pub fits_next : (weight : Weight) (again : GraphValue) → IsReopened search.graph weight again → 1 < again.table.settings.workers → FitsWord again.incumbent
  fits_next weight again reopened several cost is =
      f.fits (subst (λ (s : Settings). 1 < s.workers) reopened.settings several) cost (sym reopened.incumbent ∙ is)

  pub plan_fits : PlanFitsIfAny search.plan
  plan_fits =
      let run = run_here before machine search f in
      go run.2 search.plan run.3.kept
    where
      go : (old kept : Option Plan) → KeepsPlan search.parts search.graph old kept → PlanFitsIfAny kept
      go old None keeps = tt
      go old (Some kept) keeps = keeps.3

-- ---- a further run

module _ (before : List Claim) (machine : Machine) (search : FallingValue) (f : IsFalling before machine search) (more : search.run + 1 ≤ search.steps) (not_last : IsLast search → ⊥)
    (plan : Plan) (plan_is : search.plan ≡ Some plan) (num : ℕ)
    (num_is : num ≡ (weight_at (weight_asked search.solve) search.steps (search.run + 1)).num)
    (again : GraphValue) (reopened : IsReopened search.graph (record { num = num; den = search.solve.settings.den }) again)
    (begins : BeginsAgain search.graph (record { num = num; den = search.solve.settings.den }) again)
    (g : GraphValue) (lawful : IsLeaseGraph g) (of : IsOfRun again g)
    (ended : (g.table.end ≡ Some Quiet) ⊎ (g.table.end ≡ Some Budget)) (home : is_out_in g ≡ false)
    (quiet : g.table.end ≡ Some Quiet → IsQuietEnd (space_of search.parts) (guide_in g) (home_store g))
    (left : IsLeftByRun again g) (fits : 1 < again.table.settings.workers → FitsWord g.incumbent) where
  abbrev next : Weight
  next = weight_at (weight_asked search.solve) search.steps (search.run + 1)

  given : record { num = num; den = search.solve.settings.den } ≡ next
  given = λ i. record { num = num_is i; den = search.solve.settings.den }

  abbrev claim : Claim
  claim = claim_now search machine plan

  same_blocks : g.table.abstraction ≡ search.graph.table.abstraction
  same_blocks = of.abstraction ∙ reopened.abstraction

  same_choice : g.choice ≡ search.graph.choice
  same_choice = of.choice ∙ reopened.choice

  same_setup : first_setup search.solve search.parts g.table.abstraction g.choice ≡ setup_asked search
  same_setup = λ i. first_setup search.solve search.parts (same_blocks i) (same_choice i)

  its_task : g.task ≡ search.parts
  its_task = of.task ∙ reopened.task ∙ f.task

  its_settings : g.table.settings ≡ settings_of (asked_of_run search.solve search.steps (search.run + 1))
  its_settings = of.settings ∙ reopened.settings ∙ (λ i. settings_with (f.settings i) (given i) (f.settings i).pattern)

  -- ---- the run, from one at this setup and with this machine

  -- what the run left, as one from this setup and this machine
  abbrev LeftAs : Setup → (spent : ℕ) → Machine → Type 0
  LeftAs setup spent begin = (l : IsLeftBy setup spent begin g) × (l.run.machine ≡ left.run.machine)

  module _ (last : Setup) (begin : Machine) (old : Option Plan) (run : IsRunOf search machine last begin old) where
    setup_again : setup_in again ≡ reopened_setup last next
    setup_again = (begins run.left.recorded run.left.run.machine run.left.moment).2 ∙ (λ i. reopened_setup (run.setup_is i) (given i))

    machine_again : begin_machine again ≡ reopened_machine last next machine
    machine_again = (begins run.left.recorded run.left.run.machine run.left.moment).3 ∙ (λ i. reopened_machine (run.setup_is i) (given i) (run.machine_is i))

    left_here : LeftAs (reopened_setup last next) g.table.past.spent (reopened_machine last next machine)
    left_here =
        subst (λ (s : Setup). LeftAs s g.table.past.spent (reopened_machine last next machine)) setup_again
        (subst (λ (m : Machine). LeftAs (setup_in again) g.table.past.spent m) machine_again
        (subst (λ (p : Past). LeftAs (setup_in again) p.spent (begin_machine again)) (sym of.past) (left, refl)))

    plan_stands : IsPlan (space_of search.parts) plan × PlanFits plan
    plan_stands =
        let kept = keeps before machine search f plan plan_is last begin old run in (
          subst (λ (p : Plan). IsPlan (space_of search.parts) p) (sym kept.2) (kept_is_plan (space_of search.parts) old kept.0 run.before_is kept.1.is_plan),
          kept.3,
        )

    next_run : (kept_plan_now : Option Plan) → KeepsPlan search.parts g (Some plan) kept_plan_now
        → IsRunOf (made_of search.solve search.parts search.steps (search.run + 1) g kept_plan_now) left.run.machine (reopened_setup last next) (reopened_machine last next machine) (Some plan)
    next_run kept_plan_now kept = record {
      setup_is = (λ i. setup_of (of.task i) (of.abstraction i) (of.choice i) (of.settings i) (of.past i).reopenings) ∙ setup_again;
      left = left_here.0;
      machine_is = left_here.1;
      before_is = plan_stands.0;
      before_fits = plan_stands.1;
      kept = kept;
    }

  -- ---- all runs

  all_runs : (kept_plan_now : Option Plan) → KeepsPlan search.parts g (Some plan) kept_plan_now
      → AfterClaims (first_setup search.solve search.parts g.table.abstraction g.choice) (opening_machine (first_setup search.solve search.parts g.table.abstraction g.choice)) None (before ++ claim ∷ []) next
      (IsRunOf (made_of search.solve search.parts search.steps (search.run + 1) g kept_plan_now) left.run.machine)
  all_runs kept_plan_now kept =
      let Now = IsRunOf (made_of search.solve search.parts search.steps (search.run + 1) g kept_plan_now) left.run.machine in
      subst (λ (s : Setup). AfterClaims s (opening_machine s) None (before ++ claim ∷ []) next Now) (sym same_setup)
      (runs_go_on Now (setup_asked search) (opening_machine (setup_asked search)) None before claim next
      (run_after (IsRunOf search machine) (λ last begin old. IsClaim last begin old claim × Now (reopened_setup last next) (reopened_machine last next machine) (Some plan))
      (λ last begin old run. (is_claim before machine search f plan plan_is last begin old run, next_run last begin old run kept_plan_now kept))
      (setup_asked search) (opening_machine (setup_asked search)) None before (weight_now search) f.runs))

  one_more : (P : Claim → Type 0) (claims : List Claim) (one : Claim) → AllByRecursion P claims → P one → AllByRecursion P (claims ++ one ∷ [])
  one_more P [] one all holds = (holds, tt)
  one_more P (c ∷ claims) one all holds = (all.0, one_more P claims one all.1 holds)

  one_longer : (claims : List Claim) (one : Claim) → length (claims ++ one ∷ []) ≡ length claims + 1
  one_longer [] one = refl
  one_longer (c ∷ claims) one = let rest = one_longer claims one in omega (arith, rest)

  goes_on_by : (kept_plan_now : Option Plan) → KeepsPlan search.parts g (Some plan) kept_plan_now
      → IsFalling (before ++ claim ∷ []) left.run.machine (made_of search.solve search.parts search.steps (search.run + 1) g kept_plan_now)
  goes_on_by kept_plan_now kept = record {
    range = f.range;
    within = more;
    name = refl;
    count = let longer = one_longer before claim in omega (arith, longer, f.count);
    weights = weights_are before machine search f plan plan_is;
    improvable = one_more MayBeImproved before claim f.improvable (λ bound. not_last (subst (λ (p : Option Plan). IsLastAt (weight_now search) p) (sym plan_is) bound));
    quiet_runs = subst (λ (s : Setup). AreOfQuietRuns s (opening_machine s) (before ++ claim ∷ [])) (sym same_setup) (quiet_runs_are before machine search f plan plan_is);
    runs = all_runs kept_plan_now kept;
    lawful = lawful;
    task = its_task;
    graph_of = subst (λ (a : AbstractGraph). IsGraphOf search.parts a) (sym same_blocks) f.graph_of;
    finest = subst (λ (a : AbstractGraph). IsFinest search.parts search.solve.settings.wish a.projection) (sym same_blocks) f.finest;
    settings = its_settings;
    reopenings = ap (λ (p : Past). p.reopenings) of.past ∙ reopened.reopenings ∙ ap (λ n. n + 1) f.reopenings;
    first = λ zero. absurd (omega (arith, zero));
    ended = ended;
    home = home;
    rows = store_is g lawful home left.recorded left.run.machine left.moment;
    quiet = quiet;
    fits = subst (λ (s : Settings). 1 < s.workers → FitsWord g.incumbent) (sym of.settings) fits;
  }

  pub goes_on : (s : FallingValue) → IsMade search.solve search.parts search.steps (search.run + 1) g search.plan s → GoesOn before machine search s
  goes_on s m = record {
    plan = plan;
    plan_is = plan_is;
    last = left.run.machine;
    blocks = subst (λ (v : FallingValue). v.graph.table.abstraction ≡ search.graph.table.abstraction) (made_is search.solve search.parts search.steps (search.run + 1) g search.plan s m) same_blocks;
    choice = subst (λ (v : FallingValue). v.graph.choice ≡ search.graph.choice) (made_is search.solve search.parts search.steps (search.run + 1) g search.plan s m) same_choice;
    falling = subst (λ (v : FallingValue). IsFalling (before ++ claim ∷ []) left.run.machine v) (made_is search.solve search.parts search.steps (search.run + 1) g search.plan s m)
        (goes_on_by s.plan (subst (λ (p : Option Plan). KeepsPlan search.parts g p s.plan) plan_is m.kept));
  }
