-- What is judged before the rows, and then the rows.
use Rattle.std.proofs.Common.{◌≡◌, ℕ, Bool, Option, Result, Ok, Err, refl, sym, ap, ◌∙◌}
use Rattle.pb_model.specs.Certificate.{cost_of}
use Rattle.pb_task.specs.declared.parts.TaskParts.{TaskParts}
use Rattle.pb_task.specs.Parts.{space_of}
use Rattle.pb_task.specs.Kinds.{kind_of}
use Rattle.pb_estimate.specs.Estimates.{estimate_by}
use Rattle.pb_check.specs.declared.fault.CertificateFault.{CertificateFault}
use Rattle.pb_check.specs.declared.fault.CertificateFault.TheVariants as faults
use Rattle.pb_check.specs.declared.fault.CheckError.{CheckError}
use Rattle.pb_check.specs.declared.fault.CheckError.TheVariants as errors
use Rattle.pb_check.specs.declared.fault.Verdict.{Verdict}
use Rattle.pb_check.specs.Faults.{◌>>=◌, Fails}
use Rattle.pb_check.specs.Reading.{Text}
use Rattle.pb_check.specs.Judging.{passes, unless, same_kind, width_fault, grounding_fault, stated_fault, is_weight, rows_order_fault, first_fault_by, state_fault, row_fault, verdict_of, start_judged, judged, judged_head, judged_before}

-- a step before both is a step before the first
over : (step first : Result Bool CertificateFault) (then whole : Result Verdict CertificateFault) → whole ≡ (first >>= λ x. then) → (step >>= λ x. whole) ≡ ((step >>= λ x. first) >>= λ x. then)
over (Ok x) first then whole e = e
over (Err fault) first then whole e = refl

-- the faults of the rows themselves
abbrev pub rows_judged : TaskParts → Text → (best : Option ℕ) → Result Bool CertificateFault
rows_judged parts text best =
    passes (first_fault_by (row_fault (space_of parts) (estimate_by parts text.spelling.stated.choice) text.certificate.weight best text.certificate.lines) text.first text.certificate.lines)

-- the verdict, if the rows have no fault
abbrev pub after_before : TaskParts → Text → Result Verdict CertificateFault
after_before parts text = rows_judged parts text (cost_of text.certificate.plan) >>= λ rows. Ok (verdict_of text.certificate.weight text.certificate.plan)

-- what is judged behind the plan
abbrev after_head : TaskParts → Text → Result Verdict CertificateFault
after_head parts text =
    passes (rows_order_fault text.first text.certificate.lines)
    >>= λ orders. passes (first_fault_by (state_fault (space_of parts)) text.first text.certificate.lines)
    >>= λ states. start_judged parts text.certificate.lines
    >>= λ starts. after_before parts text

head_first : (parts : TaskParts) (text : Text) → judged parts text ≡ (judged_head parts text >>= λ head. after_head parts text)
unfolding judged judged_head
head_first parts text =
    let then = after_head parts text in
    over (passes (unless (same_kind (kind_of parts) text.spelling.kind) faults.Kind)) _ then _
    (over (passes (width_fault parts text.spelling.version text.spelling.width)) _ then _
    (over (passes (grounding_fault parts text.spelling.stated)) _ then _
    (over (passes (stated_fault parts text.spelling.stated)) _ then _
    (over (passes (unless (is_weight text.certificate.weight) faults.Weight)) _ then _ refl))))

pub judged_is : (parts : TaskParts) (text : Text) → judged parts text ≡ (judged_before parts text >>= λ before. after_before parts text)
unfolding judged judged_before
judged_is parts text =
    let then = after_before parts text in
    head_first parts text
    ∙ over (judged_head parts text) _ then _
    (over (passes (rows_order_fault text.first text.certificate.lines)) _ then _
    (over (passes (first_fault_by (state_fault (space_of parts)) text.first text.certificate.lines)) _ then _ refl))

-- what fails before the rows fails
pub before_fails : (e : CheckError) (parts : TaskParts) (text : Text) → Fails e (judged_before parts text) → Fails e (judged parts text)
before_fails errors.Memory parts text h = tt
before_fails (errors.Fault fault) parts text h = judged_is parts text ∙ ap (λ r. r >>= λ x. after_before parts text) h

-- what fails in the rows fails
pub rows_fail : (e : CheckError) (parts : TaskParts) (text : Text) (x : Bool) (best : Option ℕ) → judged_before parts text ≡ Ok x → best ≡ cost_of text.certificate.plan → Fails e (rows_judged parts text best) → Fails e (judged parts text)
rows_fail errors.Memory parts text x best before best_is h = tt
rows_fail (errors.Fault fault) parts text x best before best_is h =
    judged_is parts text ∙ ap (λ r. r >>= λ x. after_before parts text) before
    ∙ ap (λ (r : Result Bool CertificateFault). r >>= λ rows. Ok (verdict_of text.certificate.weight text.certificate.plan)) (ap (rows_judged parts text) (sym best_is) ∙ h)

-- what passes before the rows and in them has the verdict
pub rows_pass : (parts : TaskParts) (text : Text) (x y : Bool) (best : Option ℕ) (verdict : Verdict) → judged_before parts text ≡ Ok x → best ≡ cost_of text.certificate.plan → rows_judged parts text best ≡ Ok y → verdict ≡ verdict_of text.certificate.weight text.certificate.plan → judged parts text ≡ Ok verdict
rows_pass parts text x y best verdict before best_is rows is =
    judged_is parts text ∙ ap (λ r. r >>= λ x. after_before parts text) before
    ∙ ap (λ (r : Result Bool CertificateFault). r >>= λ rows. Ok (verdict_of text.certificate.weight text.certificate.plan)) (ap (rows_judged parts text) (sym best_is) ∙ rows)
    ∙ ap (λ (v : Verdict). Ok v) (sym is)
