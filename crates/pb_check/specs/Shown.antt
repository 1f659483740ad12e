-- What the checker's answer means: that the certificate is valid, and what it shows of the task.
use Rattle.std.specs.Prelude.{◌≡◌, ◌≢◌, ℕ, ◌+◌, ◌≤◌, true, List, [], ◌++◌, Err}
use Rattle.pb_model.specs.Space.{Space}
use Rattle.pb_model.specs.Weight.{Weight, IsWeight}
use Rattle.pb_model.specs.Plan.{Plan, IsPlan, HasNoPlan, IsBound}
use Rattle.pb_model.specs.Certificate.{Certificate, IsValid, ClaimHolds}
use Rattle.pb_task.specs.declared.parts.TaskParts.{TaskParts}
use Rattle.pb_task.specs.Parts.{space_of}
use Rattle.pb_task.specs.Kinds.{kind_of}
use Rattle.pb_task.specs.Groundings.{grounding_of}
use Rattle.pb_estimate.specs.declared.spelling.Spelling.{Spelling}
use Rattle.pb_estimate.specs.Estimates.{estimate_by, suits}
use Rattle.pb_lines.specs.Words.{line_feeds}
use Rattle.pb_check.specs.declared.fault.Verdict.{Verdict}
use Rattle.pb_check.specs.declared.fault.Claim.TheVariants.{Bounded, Unsolvable}
use Rattle.pb_check.specs.declared.fault.CertificateFault.TheVariants.{Syntax}
use Rattle.pb_check.specs.Spelling.{IsSpelled, HasWidthOf}
use Rattle.pb_check.specs.Judging.{verdict_of, bound_of, checked}

-- The bytes spell a valid certificate of this task, and this is its verdict. The estimate by which
-- it is valid is the one that the bytes state, which suits the task.
pub record IsAccepted (parts : TaskParts) (bytes : List ℕ) (verdict : Verdict) : Type 0 where
  pub spelling : Spelling
  pub certificate : Certificate
  pub spelled : IsSpelled bytes spelling certificate
  pub kind : spelling.kind ≡ kind_of parts
  pub width : HasWidthOf parts spelling.version spelling.width
  pub grounding : spelling.stated.grounding ≡ grounding_of parts
  pub stated : suits parts spelling.stated.choice ≡ true
  pub valid : IsValid (space_of parts) (estimate_by parts spelling.stated.choice) certificate
  pub verdict_is : verdict ≡ verdict_of certificate.weight certificate.plan

-- The bytes spell a certificate with this verdict, for a task of the kind of this one, whose claim
-- is true of the task. Every plan of a cost f has num * f >= den * C, for the cost C of the
-- certificate's plan and its weight num / den; or there is no plan.
pub record ShowsClaim (parts : TaskParts) (bytes : List ℕ) (verdict : Verdict) : Type 0 where
  pub spelling : Spelling
  pub certificate : Certificate
  pub spelled : IsSpelled bytes spelling certificate
  pub kind : spelling.kind ≡ kind_of parts
  pub weight : IsWeight certificate.weight
  pub claim : ClaimHolds (space_of parts) certificate.weight certificate.plan
  pub verdict_is : verdict ≡ verdict_of certificate.weight certificate.plan

-- what a verdict says of a space: a plan has the cost, and each plan costs at least the bound; or
-- there is no plan
abbrev pub VerdictHolds : Space → Verdict → Type 0
VerdictHolds space Unsolvable = HasNoPlan space
VerdictHolds space (Bounded cost bound) =
    ((plan : Plan) × IsPlan space plan × (plan.cost ≡ cost))
    × ((plan : Plan) → IsPlan space plan → bound ≤ plan.cost)

-- The bound of a verdict is the least whole number that is no less than the cost divided by the
-- weight.
abbrev pub BoundsAreLeast : Type 0
BoundsAreLeast =
    (weight : Weight) (cost : ℕ) → IsWeight weight → IsBound weight cost (bound_of weight cost)

-- the bytes are a beginning of a certificate's text, and not the whole
abbrev pub IsCutOff : List ℕ → Type 0
IsCutOff bytes =
    (spelling : Spelling) × (certificate : Certificate) × (rest : List ℕ)
    × IsSpelled (bytes ++ rest) spelling certificate × (rest ≢ [])

-- A certificate that is cut off is refused as misspelled, in the line that it ends in, whatever the
-- task is. The line is 1 plus the number of line feeds in what is left.
abbrev pub CutCertificatesAreRefused : Type 0
CutCertificatesAreRefused =
    (parts : TaskParts) (bytes : List ℕ) → IsCutOff bytes
    → checked parts bytes ≡ Err (Syntax (1 + line_feeds bytes))
