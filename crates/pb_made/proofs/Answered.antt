-- What is answered of a made task whose search came to a quiet end.
use Rattle.std.proofs.Common.{◌≡◌, ℕ, ◌≤◌, Option, None, Some, List, Result, Ok, Err, refl, ap, sym, ◌∙◌, subst, arith}
use Rattle.pb_model.specs.Weight.{Weight}
use Rattle.pb_model.specs.Guide.{Guide}
use Rattle.pb_model.specs.Store.{Store}
use Rattle.pb_model.specs.Plan.{Plan, NoneCheaper, IncumbentHolds, IsBound}
use Rattle.pb_model.specs.Certificate.{IsBackedBy}
use Rattle.pb_task.specs.declared.parts.TaskParts.{TaskParts}
use Rattle.pb_task.specs.Parts.{space_of}
use Rattle.pb_machine.specs.declared.settings.Settings.{Settings}
use Rattle.pb_machine.specs.Settings.{weight_of}
use Rattle.pb_abstract.specs.Graph.{AbstractGraph}
use Rattle.pb_lease.specs.GraphValue.{GraphValue}
use Rattle.pb_workers.specs.Ends.{home_store}
use Rattle.pb_estimate.specs.Choices.{Plain}
use Rattle.pb_check.specs.declared.fault.CertificateFault.{CertificateFault}
use Rattle.pb_check.specs.declared.fault.Verdict.{Verdict}
use Rattle.pb_check.specs.Judging.{verdict_of, bound_of}
use Rattle.pb_search.specs.Ends.{searched_guide}
use Rattle.pb_search.specs.Searches.{LeavesQuiet}
use Rattle.pb_search.proofs.Callers.{quiet_end, search_ends}
use Rattle.pb_cert.specs.Found.{IsTracedIfAny, IsPlanOf, IsCertificateOf}
use Rattle.pb_made.specs.declared.answer.MadeAnswer.TheVariants.{Accepted}
use Rattle.pb_made.specs.Found.{Finds}
use Rattle.pb_made.specs.Answers.{unweighted, made_settings, IsJudged, IsCertified, IsAnswered}

-- the bound of a cost at the weight 1 is the cost
bound_is : (cost : ℕ) → IsBound unweighted cost (bound_of unweighted cost)
bound_is cost = record { enough = omega arith; least = λ other h. omega (arith, h) }

backed_cost : (incumbent : Option ℕ) (plan : Plan) → IsBackedBy incumbent (Some plan)
    → (cost : ℕ) × (incumbent ≡ Some cost) × (plan.cost ≤ cost)
backed_cost None plan backed = absurd backed
backed_cost (Some cost) plan backed = (cost, refl, backed)

backed_none : (incumbent : Option ℕ) → IsBackedBy incumbent None → incumbent ≡ None
backed_none None backed = refl
backed_none (Some cost) backed = absurd backed

one_verdict : (a b : Verdict) → ◌≡◌ {A = Result Verdict CertificateFault} (Ok a) (Ok b) → a ≡ b
one_verdict a b e = cc

no_fault : (verdict : Verdict) (fault : CertificateFault)
    → ◌≡◌ {A = Result Verdict CertificateFault} (Ok verdict) (Err fault) → ⊥
no_fault verdict fault e = cc

module _ (parts : TaskParts) (graph : GraphValue) (workers : ℕ)
    (left : LeavesQuiet parts Plain (made_settings workers) graph) where
  abbrev guide : Guide
  guide = searched_guide parts graph.table.abstraction Plain

  -- a plan that the rows at home lead to, or none
  abbrev pub IsPlanOfRows : Option Plan → Type 0
  IsPlanOfRows plan = IsPlanOf parts guide (home_store graph) plan

  -- the text is that of a certificate of the rows at home
  abbrev pub IsOfRows : Option Plan → List ℕ → Type 0
  IsOfRows plan text = IsCertificateOf parts Plain unweighted guide (home_store graph) plan text

  -- the search with the settings that the graph has
  pub with_its_settings : LeavesQuiet parts Plain graph.table.settings graph
  with_its_settings =
      subst (λ (s : Settings). LeavesQuiet parts Plain s graph) (sym left.settings_are) left

  pub is_unweighted : weight_of graph.table.settings ≡ unweighted
  is_unweighted = left.best.weight

  holds : (incumbent : Option ℕ) → graph.incumbent ≡ incumbent
      → IncumbentHolds (space_of parts) unweighted incumbent
  holds incumbent known =
      subst (λ (o : Option ℕ). IncumbentHolds (space_of parts) unweighted o) known
      (subst (λ (w : Weight). IncumbentHolds (space_of parts) w graph.incumbent) is_unweighted
      (quiet_end parts Plain (made_settings workers) graph left).holds)

  finds : (plan : Option Plan) → IsPlanOfRows plan
      → Finds parts (made_settings workers) graph.table.journal plan
  finds plan best = record {
    run = search_ends parts Plain (made_settings workers) graph left;
    backed = subst (λ (s : Store). IsBackedBy s.incumbent plan) left.run.rows best.backed;
    traced = subst (λ (s : Store). IsTracedIfAny (space_of parts)
        (searched_guide parts left.run.ends.abstraction Plain) s plan) left.run.rows
        (subst (λ (g : AbstractGraph).
        IsTracedIfAny (space_of parts) (searched_guide parts g Plain) (home_store graph) plan) left.run.blocks
        best.traced);
  }

  -- it is the certificate of the search's rows
  is_of_search : (plan : Option Plan) (text : List ℕ) → IsOfRows plan text
      → IsCertificateOf parts Plain unweighted (searched_guide parts left.run.ends.abstraction Plain)
      left.run.ends.run.machine.store plan text
  is_of_search plan text is =
      subst (λ (s : Store).
      IsCertificateOf parts Plain unweighted (searched_guide parts left.run.ends.abstraction Plain) s plan text)
      left.run.rows
      (subst (λ (g : AbstractGraph).
      IsCertificateOf parts Plain unweighted (searched_guide parts g Plain) (home_store graph) plan text)
      left.run.blocks is)

  certified : (plan : Option Plan) (text : List ℕ) → IsPlanOfRows plan → IsOfRows plan text
      → IsCertified parts workers (verdict_of unweighted plan)
  unfolding finds
  certified plan text best is =
      (plan, graph.table.journal, finds plan best, text, is_of_search plan text is, refl)

  shown : (plan : Option Plan) (text : List ℕ) → IsPlanOfRows plan → IsOfRows plan text
      → IsAnswered parts workers (Accepted (verdict_of unweighted plan))
  shown None text best is =
      (holds None (backed_none graph.incumbent best.backed), certified None text best is)
  shown (Some plan) text best is =
      let known = backed_cost graph.incumbent plan best.backed in
      let least : NoneCheaper (space_of parts) unweighted plan.cost =
      λ other other_is.
      (let bound = (holds (Some known.0) known.1).1 other other_is in
      let within = known.2 in omega (arith, bound, within)) in
      ((plan, best.is_plan, refl), least, bound_is plan.cost, certified (Some plan) text best is)

  -- what the checker says of the text is an answer
  pub answered : (plan : Option Plan) (text : List ℕ) (verdict : Verdict)
      → IsPlanOfRows plan → IsOfRows plan text → IsJudged parts text (Some verdict)
      → IsAnswered parts workers (Accepted verdict)
  answered plan text verdict best is judged =
      subst (λ (v : Verdict). IsAnswered parts workers (Accepted v))
      (one_verdict (verdict_of unweighted plan) verdict (sym is.accepted ∙ judged))
      (shown plan text best is)

  pub not_refused : (plan : Option Plan) (text : List ℕ) → IsOfRows plan text
      → IsJudged parts text None → ⊥
  not_refused plan text is judged =
      no_fault (verdict_of unweighted plan) judged.0 (sym is.accepted ∙ judged.1)
