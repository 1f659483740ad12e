-- What the rows of a search show that came to a quiet end: the plan that they lead to, or none, and
-- their certificate.
use Rattle.std.specs.Prelude.{◌≡◌, ℕ, ⊤, Option, None, Some, List, Ok}
use Rattle.pb_model.specs.Space.{Space}
use Rattle.pb_model.specs.Weight.{Weight}
use Rattle.pb_model.specs.Guide.{Guide}
use Rattle.pb_model.specs.Store.{Store}
use Rattle.pb_model.specs.Plan.{Plan}
use Rattle.pb_model.specs.Certificate.{Line, Certificate, AreLinesOf, IsBackedBy, IsPlanIfAny, IsValid}
use Rattle.pb_task.specs.declared.parts.TaskParts.{TaskParts}
use Rattle.pb_task.specs.Parts.{space_of}
use Rattle.pb_estimate.specs.Choices.{Choice}
use Rattle.pb_estimate.specs.Estimates.{estimate_by}
use Rattle.pb_estimate.specs.Spelling.{spelling_of, spelled_text}
use Rattle.pb_check.specs.Judging.{checked, verdict_of}
use Rattle.pb_check.specs.Spelling.{PlanFitsIfAny}
use Rattle.pb_cert.specs.Traced.{IsTrace}

-- ---- plans

-- The plan is the one that the rows of this store lead to. Its actions are those of the rows on the
-- way from the start to the first goal, from parent to child.
abbrev pub IsTracedIfAny : Space → Guide → Store → Option Plan → Type 0
IsTracedIfAny space guide store None = ⊤
IsTracedIfAny space guide store (Some plan) = IsTrace space guide store plan.actions

-- A plan of the task that the rows of this store lead to. It costs no more than the incumbent, and
-- can be stated. Or none, if there is no incumbent.
pub record IsPlanOf (parts : TaskParts) (guide : Guide) (store : Store) (plan : Option Plan)
    : Type 0 where
  pub is_plan : IsPlanIfAny (space_of parts) plan
  pub backed : IsBackedBy store.incumbent plan
  pub traced : IsTracedIfAny (space_of parts) guide store plan
  pub fits : PlanFitsIfAny plan

-- ---- certificates

-- the certificate at this weight with this plan, or with none
abbrev pub certificate_of : Weight → Option Plan → List Line → Certificate
certificate_of weight plan lines = record { weight = weight; plan = plan; lines = lines }

-- The text is that of a certificate of the task, at this weight and with this plan, or with none.
-- Its lines are those of all rows of this store. It is spelled for the task's grounding and for this
-- choice, by which the search looked up its estimates. By these it is valid, and its text is
-- accepted, with the plan's cost and bound.
pub record IsCertificateOf (parts : TaskParts) (choice : Choice) (weight : Weight) (guide : Guide)
    (store : Store) (plan : Option Plan) (text : List ℕ) : Type 0 where
  pub lines : List Line
  pub are_lines : AreLinesOf guide store.rows lines
  pub estimates : guide.estimate ≡ estimate_by parts choice
  pub valid : IsValid (space_of parts) (estimate_by parts choice)
      (certificate_of weight plan lines)
  pub text_is : text ≡ spelled_text (spelling_of parts choice) (certificate_of weight plan lines)
  pub accepted : checked parts text ≡ Ok (verdict_of weight plan)
