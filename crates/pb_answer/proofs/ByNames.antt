-- What is claimed of a STRIPS task by names follows from what is claimed of its packed task.
use Rattle.std.proofs.Common.{◌≡◌, ℕ, ◌+◌, ◌*◌, ◌≤◌, Option, None, Some, List, map, slice_get, Result, Ok, Err, refl, sym, ap, ◌∙◌, subst}
use Rattle.pb_model.specs.Weight.{Weight}
use Rattle.pb_model.specs.Plan.{Plan, IsPlan as IsPackedPlan, NoneCheaper, HasNoPlan, IsBound}
use Rattle.pb_model.specs.Texts.{plan_report}
use Rattle.pb_task.specs.declared.grounding.Grounding.{Grounding}
use Rattle.pb_task.specs.declared.parts.TaskParts.{TaskParts}
use Rattle.pb_task.specs.declared.parts.TaskParts.TheVariants as parts
use Rattle.pb_task.specs.Parts.{space_of}
use Rattle.pb_estimate.specs.Choices.{Choice}
use Rattle.pb_pddl.specs.declared.error.SyntaxError.{SyntaxError}
use Rattle.pb_pddl.specs.declared.tree.Domain.{Domain}
use Rattle.pb_pddl.specs.declared.tree.Problem.{Problem}
use Rattle.pb_pddl.specs.Readings.{domain_reading, problem_reading}
use Rattle.pb_lifted.specs.Plans.{NamedAction, IsPlan, plan_cost}
use Rattle.pb_strips.specs.declared.error.StripsError.{StripsError}
use Rattle.pb_pddl.specs.Readings.{tokens_of}
use Rattle.pb_pddl.specs.Trees.{SpellsDomain, SpellsProblem}
use Rattle.pb_pddl.specs.Words.{DomainHasWords, ProblemHasWords}
use Rattle.pb_pddl_laws.proofs.Callers.{domain_is, problem_is, texts_have_tokens, domain_has_words, problem_has_words}
use Rattle.pb_strips.specs.Names.{action_bytes}
use Rattle.pb_strips.proofs.Callers.{names_are_printed, packed_plans_are_plans_with, plans_are_packed_plans_with}
use Rattle.pb_strips.specs.Grounding.{strips_with}
use Rattle.pb_strips.specs.Refusals.{fault_with}
use Rattle.pb_check.specs.declared.fault.Verdict.{Verdict}
use Rattle.pb_check.specs.declared.fault.Claim.TheVariants.{Bounded, Unsolvable}
use Rattle.pb_check.specs.Shown.{VerdictHolds}
use Rattle.pb_report.specs.Texts.{syntax_text, strips_text, plan_text}
use Rattle.pb_command.specs.declared.command.InputOptions.{InputOptions}
use Rattle.pb_command.specs.Values.{InputNames, Grid, Tiles, Strips}
use Rattle.pb_command.specs.Meaning.{SolveMeaning, CheckMeaning}
use Rattle.pb_answer.specs.Searches.{weight_asked}
use Rattle.pb_answer.specs.Outputs.{Output}
use Rattle.pb_answer.specs.Loaded.{refused_with, strips_told, problem_told, domain_told, strips_task, input_task, with_text, OfTexts, OfCheckedTexts}
use Rattle.pb_answer.specs.Claims.{Solves, Accepts}
use Rattle.pb_answer.specs.Named.{SpellTrees, OfTrees, NoneBelow, NoneCheaperByNames, HasNoNamedPlan, PrintsNamedPlan, NamedVerdict, AcceptsNamed}
use Rattle.pb_answer.proofs.SolveTask.{task_read}

-- ---- the trees of a task

spells_domain : (text : List ℕ) (domain : Domain) → domain_reading text ≡ Ok domain → SpellsDomain text domain
unfolding domain_reading
spells_domain text domain reads = (tokens_of text, texts_have_tokens text, domain_is (tokens_of text) domain reads)

spells_problem : (text : List ℕ) (problem : Problem) → problem_reading text ≡ Ok problem → SpellsProblem text problem
unfolding problem_reading
spells_problem text problem reads = (tokens_of text, texts_have_tokens text, problem_is (tokens_of text) problem reads)

domain_words : (text : List ℕ) (domain : Domain) → domain_reading text ≡ Ok domain → DomainHasWords domain
domain_words text domain reads = domain_has_words text domain (spells_domain text domain reads)

problem_words : (text : List ℕ) (problem : Problem) → problem_reading text ≡ Ok problem → ProblemHasWords problem
problem_words text problem reads = problem_has_words text problem (spells_problem text problem reads)

-- they are a task of this grounding, and their names are words
pub record AreTask (grounding : Grounding) (domain : Domain) (problem : Problem) : Type 0 where
  pub accepted : fault_with grounding domain problem ≡ None
  pub words : DomainHasWords domain
  pub others : ProblemHasWords problem

pub record Trees (grounding : Grounding) (domain_text problem_text : Option (List ℕ)) (task : TaskParts) : Type 0 where
  pub domain : Domain
  pub problem : Problem
  pub spelled : SpellTrees domain_text problem_text domain problem
  pub are : AreTask grounding domain problem
  pub is : task ≡ parts.Strips (strips_with grounding domain problem)

trees_of : (grounding : Grounding) (domain_text problem_text : Option (List ℕ)) (task : TaskParts) → strips_task grounding domain_text problem_text ≡ Ok task
    → Trees grounding domain_text problem_text task
trees_of grounding None problem_text task e = cc
trees_of grounding (Some domain_text) None task e = cc
trees_of grounding (Some domain_text) (Some problem_text) task e = at_domain (domain_reading domain_text) refl e
  where
    none : {A : Type 0} → (report : Option (List ℕ)) → refused_with report ≡ Ok task → A
    none None f = cc
    none (Some report) f = cc

    at_fault : (domain : Domain) (problem : Problem) → domain_reading domain_text ≡ Ok domain → problem_reading problem_text ≡ Ok problem → (fault : Option StripsError)
        → fault_with grounding domain problem ≡ fault → strips_told grounding domain problem fault ≡ Ok task → Trees grounding (Some domain_text) (Some problem_text) task
    at_fault domain problem reads also None accepted f =
        let is : task ≡ parts.Strips (strips_with grounding domain problem) = cc in
        record {
          domain = domain;
          problem = problem;
          spelled = (spells_domain domain_text domain reads, spells_problem problem_text problem also);
          are = record { accepted = accepted; words = domain_words domain_text domain reads; others = problem_words problem_text problem also };
          is = is;
        }
    at_fault domain problem reads also (Some error) accepted f = none (strips_text error) f

    at_problem : (domain : Domain) → domain_reading domain_text ≡ Ok domain → (reading : Result Problem SyntaxError) → problem_reading problem_text ≡ reading
        → problem_told grounding domain reading ≡ Ok task → Trees grounding (Some domain_text) (Some problem_text) task
    at_problem domain reads (Ok problem) also f = at_fault domain problem reads also (fault_with grounding domain problem) refl f
    at_problem domain reads (Err error) also f = none (syntax_text 2 error) f

    at_domain : (reading : Result Domain SyntaxError) → domain_reading domain_text ≡ reading → domain_told grounding reading (problem_reading problem_text) ≡ Ok task
        → Trees grounding (Some domain_text) (Some problem_text) task
    at_domain (Ok domain) reads f = at_problem domain reads (problem_reading problem_text) refl f
    at_domain (Err error) reads f = none (syntax_text 1 error) f

-- what follows for every grounding, domain and problem from what holds of their task holds of the trees that the texts spell
pub by_trees : (P : TaskParts → Type 0) (Q : Domain → Problem → Type 0)
    → ((grounding : Grounding) (domain : Domain) (problem : Problem) → AreTask grounding domain problem → P (parts.Strips (strips_with grounding domain problem)) → Q domain problem)
    → (input : InputNames) (options : InputOptions) (first : ℕ) (texts : List (List ℕ)) (task : TaskParts) → input_task input options first texts ≡ Ok task → P task → OfTrees input first texts Q
by_trees P Q f (Grid names) options first texts task is holds = tt
by_trees P Q f (Tiles board) options first texts task is holds = tt
by_trees P Q f (Strips names) options first texts task is holds =
    let trees : Trees options.grounding (slice_get texts first) (slice_get texts (first + 1)) task = trees_of options.grounding (slice_get texts first) (slice_get texts (first + 1)) task is in
    (trees.domain, trees.problem, trees.spelled, f options.grounding trees.domain trees.problem trees.are (subst P trees.is holds))

checked_input : (certificate : Option (List ℕ)) (task : Result TaskParts (List ℕ)) (of : TaskParts) (text : List ℕ) → with_text certificate task ≡ Ok (of, text) → task ≡ Ok of
checked_input None task of text e = cc
checked_input (Some certificate) (Err report) of text e = cc
checked_input (Some certificate) (Ok task) of text e =
    let same = unwrap (task, certificate) (of, text) e in
    ap (λ (pair : TaskParts × List ℕ). Ok pair.0) same
  where
    unwrap : (a b : TaskParts × List ℕ) → ◌≡◌ {A = Result (TaskParts × List ℕ) (List ℕ)} (Ok a) (Ok b) → a ≡ b
    unwrap a b f = cc

-- ---- plans

module _ (grounding : Grounding) (domain : Domain) (problem : Problem) (are : AreTask grounding domain problem) where
  abbrev pub task : TaskParts
  task = parts.Strips (strips_with grounding domain problem)

  -- a plan by names is a packed plan of the same cost
  packed : (others : List NamedAction) → IsPlan domain problem others → (plan : Plan) × IsPackedPlan (space_of task) plan × (plan.cost ≡ plan_cost domain problem others)
  packed others is = let found = plans_are_packed_plans_with grounding domain problem others are.accepted is in (record { actions = found.0; cost = plan_cost domain problem others }, found.1, refl)

  pub no_named_plan : HasNoPlan (space_of task) → HasNoNamedPlan domain problem
  no_named_plan none actions is =
      let packed = plans_are_packed_plans_with grounding domain problem actions are.accepted is in
      none (record { actions = packed.0; cost = plan_cost domain problem actions }) packed.1

  -- no plan by names costs less than this, if no packed one does
  pub none_below_by_names : (bound : ℕ) → ((other : Plan) → IsPackedPlan (space_of task) other → bound ≤ other.cost) → NoneBelow domain problem bound
  none_below_by_names bound least others other_is =
      let other = packed others other_is in
      subst (λ n. bound ≤ n) other.2 (least other.0 other.1)

  -- A packed plan of which this is claimed at a weight is one by names, of the same cost and under the
  -- same text. The same is claimed of it by names.
  pub plan_by_names : (weight : Weight) (plan : Plan) (bound : ℕ) → IsPackedPlan (space_of task) plan → IsBound weight plan.cost bound → NoneCheaper (space_of task) weight plan.cost
      → (actions : List NamedAction) × (plan_text task plan bound ≡ plan_report (map (action_bytes domain) actions) (plan_cost domain problem actions) bound)
      × (plan.cost ≡ plan_cost domain problem actions) × IsPlan domain problem actions × IsBound weight (plan_cost domain problem actions) bound
      × NoneCheaperByNames domain problem weight (plan_cost domain problem actions)
  plan_by_names weight plan bound is bounded least =
      let named = packed_plans_are_plans_with grounding domain problem plan are.accepted is in
      let cost : plan.cost ≡ plan_cost domain problem named.0 = named.3 in
      let names = sym named.2 ∙ names_are_printed domain problem named.0 are.words are.others named.1 in (
        named.0,
        ap (λ steps. plan_report steps plan.cost bound) names ∙ ap (λ n. plan_report (map (action_bytes domain) named.0) n bound) cost,
        cost,
        named.1,
        subst (λ n. IsBound weight n bound) cost bounded,
        λ others other_is.
            let other = packed others other_is in
            subst (λ n. weight.den * n ≤ weight.num * plan_cost domain problem others) cost
            (subst (λ n. weight.den * plan.cost ≤ weight.num * n) other.2 (least other.0 other.1)),
      )

  pub prints_named_plan : (says : List ℕ → Type 0) (saves : List Output → Type 0)
      (solve : SolveMeaning) (choice : Choice) → Solves says saves solve choice task
      → PrintsNamedPlan says (weight_asked solve) domain problem
  prints_named_plan says saves solve choice (plan, bound, text, is, bounded, least, saved, fits) =
      let named = plan_by_names (weight_asked solve) plan bound is bounded least in
      (named.0, bound, subst says named.1 text, named.3, named.4, named.5)

  pub named_verdict : (verdict : Verdict) → VerdictHolds (space_of task) verdict → NamedVerdict domain problem verdict
  named_verdict Unsolvable none = no_named_plan none
  named_verdict (Bounded cost bound) ((plan, is, costs), least) =
      let named = packed_plans_are_plans_with grounding domain problem plan are.accepted is in (
        (named.0, named.1, sym named.3 ∙ costs),
        none_below_by_names bound least,
      )

-- ---- of what is answered

module _ (texts : List (List ℕ)) where
  -- what follows by names from what holds of a task that the texts spell and of a choice of an
  -- estimate
  pub texts_by_names : (P : Choice → TaskParts → Type 0) (Q : Domain → Problem → Type 0)
      → ((choice : Choice) (grounding : Grounding) (domain : Domain) (problem : Problem) → AreTask grounding domain problem → P choice (parts.Strips (strips_with grounding domain problem)) → Q domain problem)
      → (solve : SolveMeaning) → OfTexts solve texts P → OfTrees solve.input 0 texts Q
  texts_by_names P Q f solve (read, is, (choice, asked, holds)) =
      by_trees (P choice) Q (f choice) solve.input solve.options 0 texts read.0 (task_read solve texts read is) holds

  pub solved_by_names : (says : List ℕ → Type 0) (saves : List Output → Type 0)
      (solve : SolveMeaning) → OfTexts solve texts (λ choice parts. Solves says saves solve choice parts)
      → OfTrees solve.input 0 texts (PrintsNamedPlan says (weight_asked solve))
  solved_by_names says saves solve =
      texts_by_names (λ choice parts. Solves says saves solve choice parts)
      (PrintsNamedPlan says (weight_asked solve))
      (λ choice grounding domain problem are solves. prints_named_plan grounding domain problem are says saves solve choice solves) solve

  pub none_by_names : (solve : SolveMeaning) → OfTexts solve texts (λ choice task. HasNoPlan (space_of task)) → OfTrees solve.input 0 texts HasNoNamedPlan
  none_by_names = texts_by_names (λ choice task. HasNoPlan (space_of task)) HasNoNamedPlan (λ choice. no_named_plan)

  pub accepted_by_names : (says : List ℕ → Type 0) (check : CheckMeaning) → OfCheckedTexts check texts (Accepts says) → OfTrees check.input 1 texts (AcceptsNamed says)
  accepted_by_names says check (task, certificate, is, holds) =
      by_trees (λ t. Accepts says t certificate) (AcceptsNamed says) (λ grounding domain problem are claims. (claims.0, claims.1, named_verdict grounding domain problem are claims.0 claims.5)) check.input check.options 1 texts
      task (checked_input (slice_get texts 0) (input_task check.input check.options 1 texts) task certificate is) holds
