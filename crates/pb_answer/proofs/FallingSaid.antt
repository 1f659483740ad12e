-- What is handed out after a run of a search with falling weights.
use Rattle.std.proofs.Common.{◌≡◌, ◌⊎◌, inl, inr, ◌≤◌, ◌<◌, ℕ, false, Option, None, Some, List, [], ◌∷◌, ◌++◌, length, refl, sym, ap, ◌∙◌, subst, arith, append-nil}
use Rattle.std.proofs.lemmas.List.Elements.{All-from_recursion}
use Rattle.pb_model.specs.Weight.{Weight}
use Rattle.pb_model.specs.Store.{Store}
use Rattle.pb_model.specs.Plan.{Plan, IsPlan, IsBound, HasNoPlan, IncumbentHolds}
use Rattle.pb_model.specs.Certificate.{IsBackedBy}
use Rattle.pb_model.specs.Texts.{none_report, stopped_report}
use Rattle.pb_machine.specs.declared.event.End.{End}
use Rattle.pb_machine.specs.declared.event.End.TheVariants.{Quiet, Budget}
use Rattle.pb_machine.specs.declared.settings.Settings.{Settings}
use Rattle.pb_machine.specs.Machine.{Setup, Machine, Move, opening_machine}
use Rattle.pb_task.specs.declared.parts.TaskParts.{TaskParts}
use Rattle.pb_task.specs.Parts.{space_of, greatest_cost}
use Rattle.pb_task.proofs.Callers.{tasks_are_proper}
use Rattle.pb_estimate.specs.Choices.{Choice}
use Rattle.pb_lists.specs.Store.{IsQuietEnd}
use Rattle.pb_abstract.specs.Graph.{home_of}
use Rattle.pb_lease.specs.Begins.{home_store}
use Rattle.pb_search.specs.Ends.{searched_guide, RunEnds}
use Rattle.pb_cert.proofs.Callers.{walk_actions}
use Rattle.pb_falling.specs.Falling.{weight_at, Claim, AfterClaims}
use Rattle.pb_falling.specs.Laws.{ClaimsHold}
use Rattle.pb_falling.proofs.Callers.{claim_runs, kept_costs, kept_is_plan, run_after, weights_fall}
use Rattle.pb_report.specs.Texts.{AreActions, claim_text}
use Rattle.pb_command.specs.Meaning.{SolveMeaning, IsSolveInRange}
use Rattle.pb_command.specs.Values.{are_one_name}
use Rattle.pb_answer.specs.Outputs.{Output}
use Rattle.pb_answer.specs.Searches.{settings_of, weight_asked}
use Rattle.pb_answer.specs.Claims.{IsCertificate}
use Rattle.pb_answer.specs.Ended.{guide_by, CanBeCertified}
use Rattle.pb_answer.specs.Answer.{Said}
use Rattle.pb_answer.specs.Falling.{asked_of_run, EndsAfter}
use Rattle.pb_answer.specs.FallingRuns.{FallingValue, weight_now, setup_asked, KeepsPlan, IsRunOf, IsFalling, SaysClaimNow, SaysNoneNow, SaysStopNow}
use Rattle.pb_answer.proofs.FallingRuns.{all_falling, claims_before_fall, its_task, its_weight, keeps, run_here}

-- what a certificate of a task and a choice shows that have other names, and of a plan
pub certified : (s : SolveMeaning) (task parts : TaskParts) → task ≡ parts → (choice other : Choice) → choice ≡ other → (stated plan : Option Plan) → stated ≡ plan
    → (homes : ℕ → ℕ) (store : Store) (outputs : List Output)
    → (CanBeCertified task store stated → IsCertificate s.certificate task choice (weight_asked s) (guide_by task choice homes) store stated outputs)
    → CanBeCertified parts store plan → IsCertificate s.certificate parts other (weight_asked s) (guide_by parts other homes) store plan outputs
certified s task parts same choice other by stated plan is homes store outputs certificate =
    subst (λ (p : TaskParts). CanBeCertified p store plan → IsCertificate s.certificate p other (weight_asked s) (guide_by p other homes) store plan outputs) same
    (subst (λ (c : Choice). CanBeCertified task store plan → IsCertificate s.certificate task c (weight_asked s) (guide_by task c homes) store plan outputs) by
    (subst (λ (q : Option Plan). CanBeCertified task store q → IsCertificate s.certificate task choice (weight_asked s) (guide_by task choice homes) store q outputs) is certificate))

-- what is asked of the run in hand
abbrev pub asked_now : FallingValue → SolveMeaning
asked_now search = asked_of_run search.solve search.steps search.run

module _ (before : List Claim) (machine : Machine) (search : FallingValue) (f : IsFalling before machine search) where
  one_name : (name : Option (List ℕ)) → are_one_name name None ≡ false
  one_name None = refl
  one_name (Some name) = refl

  pub asked_in_range : IsSolveInRange (asked_now search)
  asked_in_range =
      let settings = f.range.solve.settings in
      record {
        row = f.range.solve.row;
        settings = record {
          workers = settings.workers;
          weight = (weights_fall (weight_asked search.solve) search.steps search.run (its_weight before machine search f) f.range.some_steps f.within).0;
          budget = settings.budget;
          lot = settings.lot;
          wish = settings.wish;
          pattern = settings.pattern;
        };
        names = one_name (asked_now search).certificate;
        engine = λ owners. refl;
        effort = f.range.solve.effort;
        estimate = f.range.solve.estimate;
        tables = f.range.solve.tables;
      }

  -- the words of the run: the settings are the graph's, and the name is the search's
  pub words_are : (settings : Settings) → settings ≡ search.graph.table.settings → (name : Option (List ℕ)) → name ≡ search.name
      → record search.solve { settings = settings; certificate = name; journal = None } ≡ asked_now search
  words_are settings settings_is name name_is =
      λ i. record search.solve { settings = (settings_is ∙ f.settings) i; certificate = (name_is ∙ f.name) i; journal = None }

  pub end_here : search.graph.table.end ≡ Some Quiet → IsQuietEnd (space_of search.parts) (guide_by search.parts search.graph.choice (home_of search.graph.task search.graph.table.abstraction)) (home_store search.graph)
  end_here quiet =
      subst (λ (p : TaskParts). IsQuietEnd (space_of search.parts) (guide_by p search.graph.choice (home_of search.graph.task search.graph.table.abstraction)) (home_store search.graph)) f.task (f.quiet quiet)

  -- ---- by words that ask for this run

  module _ (solve : SolveMeaning) (words : solve ≡ asked_now search) where
    pub in_range : IsSolveInRange solve
    in_range = subst IsSolveInRange (sym words) asked_in_range

    pub weight_here : (home_store search.graph).weight ≡ weight_asked solve
    weight_here = ap (λ (s : Settings). record { num = s.num; den = s.den }) f.settings ∙ ap weight_asked (sym words)

    certificate_here : (plan : Option Plan) (outputs : List Output)
        → IsCertificate solve.certificate search.parts search.graph.choice (weight_asked solve) (guide_by search.parts search.graph.choice (home_of search.graph.task search.graph.table.abstraction)) (home_store search.graph) plan outputs
        → IsCertificate (asked_now search).certificate search.parts search.graph.choice (weight_now search) (searched_guide search.parts search.graph.table.abstraction search.graph.choice) machine.store plan outputs
    certificate_here plan outputs is =
        let Said = IsCertificate (asked_now search).certificate search.parts search.graph.choice (weight_now search) in
        subst (λ (s : Store). Said (searched_guide search.parts search.graph.table.abstraction search.graph.choice) s plan outputs) (sym f.rows)
        (subst (λ (p : TaskParts). Said (guide_by search.parts search.graph.choice (home_of p search.graph.table.abstraction)) (home_store search.graph) plan outputs) f.task
        (subst (λ (s : SolveMeaning). IsCertificate s.certificate search.parts search.graph.choice (weight_asked s) (guide_by search.parts search.graph.choice (home_of search.graph.task search.graph.table.abstraction)) (home_store search.graph) plan outputs) words is))

    -- ---- a claim

    pub can_be_stated : (plan : Plan) → search.plan ≡ Some plan → CanBeCertified search.parts (home_store search.graph) (Some plan)
    can_be_stated plan plan_is =
        let run = run_here before machine search f in
        let kept = keeps before machine search f plan plan_is run.0 run.1 run.2 run.3 in
        record {
          is_plan = subst (λ (p : Plan). IsPlan (space_of search.parts) p) (sym kept.2) (kept_is_plan (space_of search.parts) run.2 kept.0 run.3.before_is kept.1.is_plan);
          backed = cheaper search.graph.incumbent kept.0 plan (subst (λ (p : Plan). p.cost ≤ kept.0.cost) (sym kept.2) (kept_costs run.2 kept.0)) kept.1.backed;
          fits = kept.3;
        }
      where
        cheaper : (incumbent : Option ℕ) (traced plan : Plan) → plan.cost ≤ traced.cost → IsBackedBy incumbent (Some traced) → IsBackedBy incumbent (Some plan)
        cheaper None traced plan le backed = backed
        cheaper (Some incumbent) traced plan le backed = omega (arith, le, backed)

    pub plan_actions : (plan : Plan) → search.plan ≡ Some plan → AreActions (space_of search.parts) plan.actions
    plan_actions plan plan_is =
        let is = (can_be_stated plan plan_is).is_plan in
        All-from_recursion (λ (action : ℕ). action < (space_of search.parts).actions) plan.actions
        (walk_actions (space_of search.parts) greatest_cost (tasks_are_proper search.parts (its_task before machine search f)).0 plan.actions (space_of search.parts).start plan.cost is.0 is.1)

    pub claim_said : ClaimsHold → (plan : Plan) → search.plan ≡ Some plan → (bound : ℕ) → IsBound (weight_now search) plan.cost bound
        → (said : Said) → said.status ≡ 0 → said.report ≡ claim_text search.parts (weight_asked solve) plan bound → (outputs : List Output) → said.outputs ≡ outputs ++ []
        → (CanBeCertified search.parts (home_store search.graph) (Some plan)
        → IsCertificate solve.certificate search.parts search.graph.choice (weight_asked solve) (guide_by search.parts search.graph.choice (home_of search.graph.task search.graph.table.abstraction)) (home_store search.graph) (Some plan) outputs)
        → SaysClaimNow before machine search said
    claim_said hold plan plan_is bound bounded said status report outputs saved certificate = (
      plan,
      plan_is,
      status,
      record {
        bound = bound;
        bounded = bounded;
        fits = let small = (can_be_stated plan plan_is).fits.cost in omega (arith, small);
        report = report ∙ ap (λ (s : SolveMeaning). claim_text search.parts (weight_asked s) plan bound) words;
        outputs = subst (λ (o : List Output). IsCertificate (asked_now search).certificate search.parts search.graph.choice (weight_now search)
            (searched_guide search.parts search.graph.table.abstraction search.graph.choice) machine.store (Some plan) o) (sym (saved ∙ append-nil outputs))
            (certificate_here (Some plan) outputs (certificate (can_be_stated plan plan_is)));
      },
      all_falling before machine search f plan plan_is hold,
    )

    -- ---- no plan

    no_incumbent : search.plan ≡ None → search.graph.table.end ≡ Some Quiet → search.graph.incumbent ≡ None
    no_incumbent none quiet =
        let run = run_here before machine search f in
        go (subst (λ (p : Option Plan). KeepsPlan search.parts search.graph run.2 p) none run.3.kept)
      where
        go : (search.graph.table.end ≡ Some Budget) ⊎ ((search.graph.table.end ≡ Some Quiet) × (search.graph.incumbent ≡ None)) → search.graph.incumbent ≡ None
        go (inl budget) = let bad : ◌≡◌ {A = Option End} (Some Quiet) (Some Budget) = sym quiet ∙ budget in cc
        go (inr both) = both.1

    pub has_none : search.plan ≡ None → search.graph.table.end ≡ Some Quiet → HasNoPlan (space_of search.parts)
    has_none none quiet =
        subst (λ (o : Option ℕ). IncumbentHolds (space_of search.parts) (home_store search.graph).weight o) (no_incumbent none quiet) (f.quiet quiet).holds

    pub none_stated : search.plan ≡ None → search.graph.table.end ≡ Some Quiet → CanBeCertified search.parts (home_store search.graph) None
    none_stated none quiet = record {
      is_plan = tt;
      backed = subst (λ (o : Option ℕ). IsBackedBy o None) (sym (no_incumbent none quiet)) tt;
      fits = tt;
    }

    -- the first run is the only one that finds no plan
    is_first : (claims : List Claim) → claims ≡ before → HasNoPlan (space_of search.parts) → before ≡ []
    is_first [] is none = sym is
    is_first (claim ∷ claims) is none =
        let setup = setup_asked search in
        let run = claim_runs (IsRunOf search machine) setup (opening_machine setup) None claim claims (weight_now search)
        (subst (λ (c : List Claim). AfterClaims setup (opening_machine setup) None c (weight_now search) (IsRunOf search machine)) (sym is) f.runs) in
        absurd (none run.2 run.3.before_is)

    -- the first run, with its end and what earlier runs spent, which is nothing
    abbrev FirstRun : (spent : ℕ) → End → Type 0
    FirstRun spent end =
        let setup = setup_asked search in
        (moves : List Move) × (run : RunEnds setup spent (opening_machine setup) end moves) × (run.machine ≡ machine)

    first_run : before ≡ [] → search.graph.table.end ≡ Some Quiet → FirstRun 0 Quiet
    first_run first quiet =
        let setup = setup_asked search in
        let run = subst (λ (c : List Claim). AfterClaims setup (opening_machine setup) None c (weight_now search) (IsRunOf search machine)) first f.runs in
        let none : search.run ≡ 0 = sym f.count ∙ ap (λ (c : List Claim). length c) first in
        subst (λ n. FirstRun n Quiet) (f.first none)
        (subst (λ (e : End). FirstRun search.graph.table.past.spent e) (same_end run.left.end (sym run.left.end_is ∙ quiet))
        (run.left.moves, run.left.run, run.machine_is))
      where
        same_end : (end : End) → ◌≡◌ {A = Option End} (Some end) (Some Quiet) → end ≡ Quiet
        same_end end e = cc

    -- its certificate, as that of the words
    none_certificate : before ≡ [] → (outputs : List Output)
        → IsCertificate (asked_now search).certificate search.parts search.graph.choice (weight_now search) (searched_guide search.parts search.graph.table.abstraction search.graph.choice) machine.store None outputs
        → IsCertificate (asked_of_run search.solve search.steps 0).certificate search.parts search.graph.choice (weight_asked search.solve) (searched_guide search.parts search.graph.table.abstraction search.graph.choice) machine.store None outputs
    none_certificate first outputs is =
        let none : search.run ≡ 0 = sym f.count ∙ ap (λ (c : List Claim). length c) first in
        let top : (weight_at (weight_asked search.solve) search.steps 0).num ≡ (weight_asked search.solve).num = (weights_fall (weight_asked search.solve) search.steps 0 (its_weight before machine search f) f.range.some_steps (omega arith)).1 in
        let whole : weight_at (weight_asked search.solve) search.steps 0 ≡ weight_asked search.solve = λ i. record { num = top i; den = search.solve.settings.den } in
        subst (λ (w : Weight). IsCertificate (asked_of_run search.solve search.steps 0).certificate search.parts search.graph.choice w (searched_guide search.parts search.graph.table.abstraction search.graph.choice) machine.store None outputs) whole
        (subst (λ n. IsCertificate (asked_of_run search.solve search.steps n).certificate search.parts search.graph.choice (weight_at (weight_asked search.solve) search.steps n) (searched_guide search.parts search.graph.table.abstraction search.graph.choice) machine.store None outputs) none is)

    pub none_said : search.plan ≡ None → search.graph.table.end ≡ Some Quiet → (said : Said) → said.status ≡ 1 → said.report ≡ none_report → (outputs : List Output) → said.outputs ≡ outputs ++ []
        → (CanBeCertified search.parts (home_store search.graph) None
        → IsCertificate solve.certificate search.parts search.graph.choice (weight_asked solve) (guide_by search.parts search.graph.choice (home_of search.graph.task search.graph.table.abstraction)) (home_store search.graph) None outputs)
        → SaysNoneNow before search said
    none_said none quiet said status report outputs saved certificate =
        let no_plan = has_none none quiet in
        let first = is_first before refl no_plan in
        let run = first_run first quiet in
        let file = none_certificate first outputs (certificate_here None outputs (certificate (none_stated none quiet))) in (
          none,
          first,
          status,
          (
            no_plan,
            report,
            run.0,
            run.1,
            subst (λ (m : Machine). IsCertificate (asked_of_run search.solve search.steps 0).certificate search.parts search.graph.choice (weight_asked search.solve)
                (searched_guide search.parts search.graph.table.abstraction search.graph.choice) m.store None said.outputs) (sym run.2)
                (subst (λ (o : List Output). IsCertificate (asked_of_run search.solve search.steps 0).certificate search.parts search.graph.choice (weight_asked search.solve)
                (searched_guide search.parts search.graph.table.abstraction search.graph.choice) machine.store None o) (sym (saved ∙ append-nil outputs)) file),
          ),
        )

  -- ---- a stop

  -- the run after the claims came to the end of the budget
  abbrev Stopped : (run : ℕ) → Setup → Machine → Option Plan → Type 0
  Stopped run setup begin old =
      (spent : ℕ) × (moves : List Move) × RunEnds setup spent begin Budget moves × (setup.settings ≡ settings_of (asked_of_run search.solve search.steps run))

  stopped : search.graph.table.end ≡ Some Budget → (last : Setup) (begin : Machine) (old : Option Plan) → IsRunOf search machine last begin old → Stopped (length before) last begin old
  stopped budget last begin old run = (
    search.graph.table.past.spent,
    run.left.moves,
    subst (λ (e : End). RunEnds last search.graph.table.past.spent begin e run.left.moves) (same_end run.left.end (sym run.left.end_is ∙ budget)) run.left.run,
    ap (λ (s : Setup). s.settings) (sym run.setup_is) ∙ f.settings ∙ ap (λ n. settings_of (asked_of_run search.solve search.steps n)) (sym f.count),
  )
    where
      same_end : (end : End) → ◌≡◌ {A = Option End} (Some end) (Some Budget) → end ≡ Budget
      same_end end e = cc

  pub ends_after : search.graph.table.end ≡ Some Budget → EndsAfter search.solve search.parts search.graph.table.abstraction search.graph.choice search.steps before Budget
  ends_after budget =
      let setup = setup_asked search in
      run_after (IsRunOf search machine) (Stopped (length before)) (stopped budget) setup (opening_machine setup) None before
      (weight_at (weight_asked search.solve) search.steps (length before))
      (subst (λ n. AfterClaims setup (opening_machine setup) None before (weight_at (weight_asked search.solve) search.steps n) (IsRunOf search machine)) (sym f.count) f.runs)

  pub stop_said : ClaimsHold → search.plan ≡ None → search.graph.table.end ≡ Some Budget → (said : Said) → said.status ≡ 2 → said.report ≡ stopped_report search.solve.settings.budget → said.outputs ≡ [] → SaysStopNow before search said
  stop_said hold none budget said status report saved = (none, status, (ends_after budget, report, saved), claims_before_fall before machine search f hold)
