-- What a contract sees of a certificate, and the lines of its text.
use Rattle.std.specs.Prelude.{ℕ, Option, None, Some, List, [], ◌∷◌, ◌++◌, length, map, codes}
use Rattle.std.specs.Fmt.{decimal}
use Rattle.pb_model.specs.Weight.{Weight}
use Rattle.pb_model.specs.Plan.{Plan}
use Rattle.pb_model.specs.Certificate.{Certificate}
use Rattle.pb_model.specs.Texts.{spaced, line_text}
use Rattle.pb_estimate.specs.declared.spelling.Spelling.{Spelling}
use Rattle.pb_estimate.specs.Spelling.{head_of, spelled_text}

-- a certificate, and how it is spelled
pub record SpelledCertificate : Type 0 where
  pub spelling : Spelling
  pub certificate : Certificate

-- the text of a certificate
abbrev pub text_of : SpelledCertificate → List ℕ
text_of spelled = spelled_text spelled.spelling spelled.certificate

-- ---- the same text, line by line

abbrev pub weight_line : Weight → List ℕ
weight_line weight = spaced (codes "weight") (spaced (decimal weight.num) (decimal weight.den))

-- the lines before the weight, and the weight
abbrev pub first_lines : SpelledCertificate → List (List ℕ)
first_lines spelled = head_of spelled.spelling ++ weight_line spelled.certificate.weight ∷ []

abbrev pub plan_lines : Option Plan → List (List ℕ)
plan_lines None = codes "none" ∷ []
plan_lines (Some plan) =
    spaced (codes "plan") (decimal (length plan.actions))
    ∷ (map decimal plan.actions ++ spaced (codes "cost") (decimal plan.cost) ∷ [])

-- the number of rows, a line for each row with a state of so many digits, and the end
abbrev pub rows_lines : (digits : ℕ) → Certificate → List (List ℕ)
rows_lines digits certificate =
    spaced (codes "rows") (decimal (length certificate.lines))
    ∷ (map (line_text digits) certificate.lines ++ codes "end" ∷ [])

-- all lines of the text
unfoldable pub lines_of : SpelledCertificate → List (List ℕ)
lines_of spelled =
    first_lines spelled ++ plan_lines spelled.certificate.plan
    ++ rows_lines spelled.spelling.width spelled.certificate
