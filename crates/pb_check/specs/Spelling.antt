-- How bytes spell a certificate.
use Rattle.std.specs.Prelude.{◌≡◌, ℕ, ◌^◌, ◌<◌, List, length, All, Option, None, Some, Ok, ⊤}
use Rattle.pb_model.specs.Plan.{Plan}
use Rattle.pb_model.specs.Certificate.{Certificate}
use Rattle.pb_task.specs.declared.parts.TaskParts.{TaskParts}
use Rattle.pb_task.specs.Widths.{width_of}
use Rattle.pb_estimate.specs.declared.spelling.Spelling.{Spelling}
use Rattle.pb_estimate.specs.declared.spelling.Version.{Version}
use Rattle.pb_estimate.specs.declared.spelling.Version.TheVariants.{One, Two, Three, Four}
use Rattle.pb_estimate.specs.Spelling.{IsSpelling, spelled_text}
use Rattle.pb_check.specs.Reading.{Text, first_line, text_of}

-- a number that a certificate can state
abbrev pub IsNumber : ℕ → Type 0
IsNumber n = n < 2 ^ 63

-- a plan whose numbers can be stated
pub record PlanFits (plan : Plan) : Type 0 where
  pub count : IsNumber (length plan.actions)
  pub actions : All (λ action. IsNumber action) plan.actions
  pub cost : IsNumber plan.cost

abbrev pub PlanFitsIfAny : Option Plan → Type 0
PlanFitsIfAny None = ⊤
PlanFitsIfAny (Some plan) = PlanFits plan

-- a certificate whose numbers can be stated, and whose states have so many hexadecimal digits
pub record Fits (width : ℕ) (certificate : Certificate) : Type 0 where
  pub weight : IsNumber certificate.weight.num × IsNumber certificate.weight.den
  pub plan : PlanFitsIfAny certificate.plan
  pub count : IsNumber (length certificate.lines)
  pub lines : All (λ line. (line.state < 16 ^ width) × IsNumber line.g) certificate.lines

-- the bytes are the text of the certificate, spelled so
pub record IsSpelled (bytes : List ℕ) (spelling : Spelling) (certificate : Certificate) : Type 0
  where
    pub known : IsSpelling spelling
    pub text : bytes ≡ spelled_text spelling certificate
    pub fits : Fits spelling.width certificate

-- What a text of this version says of the digits of a state is what the task's states need. Version
-- 1 says nothing of the task: its states have 64 digits, whatever the task is.
abbrev pub HasWidthOf : TaskParts → Version → (width : ℕ) → Type 0
HasWidthOf parts One width = ⊤
HasWidthOf parts Two width = width ≡ width_of parts
HasWidthOf parts Three width = width ≡ width_of parts
HasWidthOf parts Four width = width ≡ width_of parts

-- What is read is spelled so, and what is spelled so is read, with the line of the first row.
abbrev pub ReadAsSpelled : Type 0
ReadAsSpelled =
    (bytes : List ℕ) (text : Text)
    → (text_of bytes ≡ Ok text → IsSpelled bytes text.spelling text.certificate
    × (text.first ≡ first_line text.spelling text.certificate.plan))
    × (IsSpelled bytes text.spelling text.certificate → text.first
    ≡ first_line text.spelling text.certificate.plan → text_of bytes ≡ Ok text)

-- A text has one spelling, and spells one certificate.
abbrev pub TextsHaveOneSpelling : Type 0
TextsHaveOneSpelling =
    (bytes : List ℕ) (spelling other : Spelling) (certificate another : Certificate)
    → IsSpelled bytes spelling certificate → IsSpelled bytes other another
    → (spelling ≡ other) × (certificate ≡ another)
