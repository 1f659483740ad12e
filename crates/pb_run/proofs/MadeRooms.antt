-- A `make` is served with a line of room.
use Rattle.std.proofs.Common.{◌≡◌, inl, inr, ℕ, ◌^◌, ◌<◌, ◌≤◌, Option, None, Some, List, [], length, Result, Ok, Err, codes, refl, sym, ap, ◌∙◌, subst, arith}
use Rattle.std.specs.Fmt.{decimal}
use Rattle.pb_model.specs.Plan.{Plan}
use Rattle.pb_model.specs.Weight.{Weight}
use Rattle.pb_model.specs.Certificate.{cost_of}
use Rattle.pb_model.specs.Texts.{spaced, stopped_report}
use Rattle.pb_outside.specs.Memory.{ShelfView, SinkView, HasRoom, CanTake}
use Rattle.pb_task.specs.declared.parts.TaskParts.{TaskParts}
use Rattle.pb_task.specs.Parts.{space_of}
use Rattle.pb_task.specs.Kinds.{kind_of}
use Rattle.pb_estimate.specs.Estimates.{estimate_by}
use Rattle.pb_check.specs.declared.fault.Verdict.{Verdict}
use Rattle.pb_check.specs.declared.fault.Claim.TheVariants.{Bounded, Unsolvable}
use Rattle.pb_check.specs.declared.fault.CertificateFault.{CertificateFault}
use Rattle.pb_check.specs.Faults.{◌>>=◌}
use Rattle.pb_check.specs.Reading.{Text, text_of}
use Rattle.pb_check.specs.declared.fault.CertificateFault.TheVariants as faults
use Rattle.pb_check.specs.Judging.{passes, unless, same_kind, width_fault, grounding_fault, stated_fault, is_weight, plan_fault_if_any, rows_order_fault, first_fault_by, state_fault, is_zero, g_of, row_fault, judged, checked, verdict_of}
use Rattle.pb_check.specs.Spelling.{PlanFitsIfAny, ReadAsSpelled}
use Rattle.pb_report.specs.Texts.{made_text}
use Rattle.pb_command.specs.Meaning.{Read, Make, MakeMeaning}
use Rattle.pb_answer.specs.Answer.{Said}
use Rattle.pb_run.specs.Answers.{IsMade}
use Rattle.pb_run.specs.Calls.{CanHold}
use Rattle.pb_run.specs.Rooms.{HasTextsAndLine, MakesAreServed}
use Rattle.pb_run.proofs.Lengths.{line_long, spaced_long, number_long, stopped_long}
use Rattle.pb_run.proofs.Rooms.{serves, takes}

-- ---- the cost of an accepted certificate

-- what goes on went on with something
goes_on : {A B : Type 0} (first : Result A CertificateFault) (f : A → Result B CertificateFault)
    (b : B) → first >>= f ≡ Ok b → (a : A) × (first ≡ Ok a) × (f a ≡ Ok b)
goes_on (Ok a) f b e = (a, refl, e)
goes_on {A} {B} (Err fault) f b e =
    let bad : ◌≡◌ {A = Result B CertificateFault} (Err fault) (Ok b) = e in cc

same_verdict : (x y : Verdict) → ◌≡◌ {A = Result Verdict CertificateFault} (Ok x) (Ok y) → x ≡ y
same_verdict x y e = cc

-- the verdict is that of the text's certificate
judged_is : (parts : TaskParts) (text : Text) (verdict : Verdict) → judged parts text ≡ Ok verdict
    → verdict ≡ verdict_of text.certificate.weight text.certificate.plan
unfolding judged
judged_is parts text verdict e =
    let space = space_of parts in
    let stated = text.spelling.stated in
    let version = text.spelling.version in
    let weight = text.certificate.weight in
    let plan = text.certificate.plan in
    let lines = text.certificate.lines in
    let kind = unless (same_kind (kind_of parts) text.spelling.kind) faults.Kind in
    let start = unless (is_zero (g_of lines space.start)) faults.NoStart in
    let states = first_fault_by (state_fault space) text.first lines in
    let rows = first_fault_by (row_fault space (estimate_by parts stated.choice) weight
    (cost_of plan) lines) text.first lines in
    let a = goes_on (passes kind) _ verdict e in
    let b = goes_on (passes (width_fault parts version text.spelling.width)) _ verdict a.2 in
    let grounding = goes_on (passes (grounding_fault parts stated)) _ verdict b.2 in
    let c = goes_on (passes (stated_fault parts stated)) _ verdict grounding.2 in
    let d = goes_on (passes (unless (is_weight weight) faults.Weight)) _ verdict c.2 in
    let f = goes_on (plan_fault_if_any space plan) _ verdict d.2 in
    let g = goes_on (passes (rows_order_fault text.first lines)) _ verdict f.2 in
    let h = goes_on (passes states) _ verdict g.2 in
    let k = goes_on (passes start) _ verdict h.2 in
    let l = goes_on (passes rows) _ verdict k.2 in
    sym (same_verdict (verdict_of weight plan) verdict l.2)

abbrev cost_in : Verdict → ℕ
cost_in (Bounded cost bound) = cost
cost_in Unsolvable = 0

-- the cost in a verdict of a plan whose numbers can be stated
small_cost : (weight : Weight) (plan : Option Plan) (cost bound : ℕ) → PlanFitsIfAny plan
    → Bounded cost bound ≡ verdict_of weight plan → cost < 2 ^ 63
small_cost weight None cost bound fits e =
    let bad : ◌≡◌ {A = Verdict} (Bounded cost bound) Unsolvable = e in absurd cc
small_cost weight (Some plan) cost bound fits e =
    let same : cost ≡ plan.cost = ap (λ (v : Verdict). cost_in v) e in
    let small = fits.cost in
    omega (arith, same, small)

accepted_is_small : ReadAsSpelled → (parts : TaskParts) (bytes : List ℕ) (cost bound : ℕ)
    → checked parts bytes ≡ Ok (Bounded cost bound) → cost < 2 ^ 63
unfolding checked
accepted_is_small reads parts bytes cost bound e =
    let read = goes_on (text_of bytes) (λ text. judged parts text) (Bounded cost bound) e in
    let text = read.0 in
    small_cost text.certificate.weight text.certificate.plan cost bound
    ((reads bytes text).0 read.1).0.fits.plan (judged_is parts text (Bounded cost bound) read.2)

-- ---- reports

made_long : (cost bound : ℕ) → cost < 2 ^ 63 → bound < 2 ^ 63
    → length (made_text (Bounded cost bound)) ≤ 64
made_long cost bound small low =
    let rest = spaced (codes "bound") (spaced (decimal bound) (codes "accepted")) in
    let whole = line_long (spaced (codes "cost") (spaced (decimal cost) rest)) in
    let one = spaced_long (codes "cost") (spaced (decimal cost) rest) in
    let two = spaced_long (decimal cost) rest in
    let three = spaced_long (codes "bound") (spaced (decimal bound) (codes "accepted")) in
    let four = spaced_long (decimal bound) (codes "accepted") in
    let costs = number_long cost small in
    let bounds = number_long bound low in
    omega (arith, whole, one, two, three, four, costs, bounds)

-- ---- what is served

module _ (reads : ReadAsSpelled) (make : MakeMeaning) (shelf : ShelfView) (sink : SinkView)
    (has : HasTextsAndLine (Read (Make make)) shelf sink []) where
  fits : (said : Said) (report : List ℕ) → said.outputs ≡ [] → said.report ≡ report
      → length report ≤ 64
      → CanHold (HasRoom shelf) said.outputs × CanTake sink (length said.report)
  fits said report saves says short = (
    subst (λ outputs. CanHold (HasRoom shelf) outputs) (sym saves) tt,
    subst (λ (r : List ℕ). CanTake sink (length r)) (sym says)
        (takes (Read (Make make)) shelf sink [] has (length report) short),
  )

  made_fits : (said : Said) → IsMade make said
      → CanHold (HasRoom shelf) said.outputs × CanTake sink (length said.report)
  made_fits said (inl (status, saves, (cost, bound, says, plan, least, is_bound, (parts, made, (found_plan, journal, found, text, certificate, verdict))))) =
      let small = accepted_is_small reads parts text cost bound
      (certificate.accepted ∙ ap (λ (v : Verdict). Ok v) (sym verdict)) in
      let low : bound ≤ cost = is_bound.least cost (omega arith) in
      fits said (made_text (Bounded cost bound)) saves says
      (made_long cost bound small (omega (arith, small, low)))
  made_fits said (inr (inl (status, saves, (says, none, certified)))) =
      fits said (made_text Unsolvable) saves says (omega arith)
  made_fits said (inr (inr (status, saves, (budget, says, (parts, made, (is, stopped)))))) =
      fits said (stopped_report budget) saves says (stopped_long budget (omega (arith, is)))

pub makes_are_served : ReadAsSpelled → MakesAreServed
makes_are_served reads make shelf sink has =
    serves (Read (Make make)) shelf sink [] has refl
    (λ said answers. made_fits reads make shelf sink has said answers)
