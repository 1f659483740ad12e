-- How bytes spell a certificate, line by line and word by word.
use Rattle.std.specs.Prelude.{◌≡◌, ℕ, ◌+◌, ◌*◌, Bool, true, false, Option, None, Some, List, [], ◌∷◌, ◌++◌, length, codes, nat_lt}
use Rattle.std.specs.List.{list_all}
use Rattle.pb_model.specs.Weight.{Weight}
use Rattle.pb_model.specs.Plan.{Plan}
use Rattle.pb_model.specs.Certificate.{Line}
use Rattle.pb_model.specs.Texts.{lines}
use Rattle.pb_task.specs.declared.kind.Kind.{Kind}
use Rattle.pb_estimate.specs.declared.spelling.Stated.{Stated}
use Rattle.pb_estimate.specs.declared.spelling.Spelling.{Spelling}
use Rattle.pb_estimate.specs.declared.spelling.Version.{Version}
use Rattle.pb_estimate.specs.Spelling.{IsSpelling, head_of}
use Rattle.pb_lines.proofs.Callers.{IsNumberWord}
use Rattle.pb_check.specs.Words.{hex_value}
use Rattle.pb_check.specs.Reading.{Text, first_line}

-- the value of hexadecimal digits behind a number
abbrev pub hex_value_after : ℕ → List ℕ → ℕ
hex_value_after n [] = n
hex_value_after n (b ∷ bs) = hex_value_after (n * 16 + hex_value b) bs

-- exactly so many hexadecimal digits
pub record IsStateWord (width : ℕ) (word : List ℕ) (state : ℕ) : Type 0 where
  pub count : length word ≡ width
  pub digits : list_all (λ b. nat_lt (hex_value b) 16) word ≡ true
  pub value : state ≡ hex_value_after 0 word

-- a text begins with a line, and this is the rest: each line has its end
abbrev pub BeginsWith : (text line rest : List ℕ) → Type 0
BeginsWith text line rest = text ≡ line ++ 10 ∷ rest

-- a line that is these words and a number
abbrev pub BeginsWithNumber : (text piece : List ℕ) (n : ℕ) (rest : List ℕ) → Type 0
BeginsWithNumber text piece n rest = (word : List ℕ) × IsNumberWord word n × BeginsWith text (piece ++ word) rest

abbrev pub closed_text : Bool → List ℕ
closed_text true = codes "closed"
closed_text false = codes "cut"

abbrev pub spelling_with : Version → Kind → (width : ℕ) → Stated → Spelling
spelling_with version kind width stated = record { kind = kind; version = version; width = width; stated = stated }

pub record IsWeightLine (line : List ℕ) (weight : Weight) : Type 0 where
  pub num : List ℕ
  pub den : List ℕ
  pub line_is : line ≡ codes "weight " ++ (num ++ 32 ∷ den)
  pub num_is : IsNumberWord num weight.num
  pub den_is : IsNumberWord den weight.den

pub record IsRowLine (width : ℕ) (line : List ℕ) (row : Line) : Type 0 where
  pub state : List ℕ
  pub g : List ℕ
  pub line_is : line ≡ state ++ 32 ∷ (g ++ 32 ∷ closed_text row.is_closed)
  pub state_is : IsStateWord width state row.state
  pub g_is : IsNumberWord g row.g

-- the lines of these actions, and of these rows, and then the rest
abbrev pub AreActionLines : (text actions rest : List ℕ) → Type 0
AreActionLines text [] rest = text ≡ rest
AreActionLines text (action ∷ actions) rest = (after : List ℕ) × BeginsWithNumber text [] action after × AreActionLines after actions rest

abbrev pub AreRowLines : (width : ℕ) → (text : List ℕ) → List Line → (rest : List ℕ) → Type 0
AreRowLines width text [] rest = text ≡ rest
AreRowLines width text (row ∷ rows) rest = (line : List ℕ) × (after : List ℕ) × BeginsWith text line after × IsRowLine width line row × AreRowLines width after rows rest

-- the lines of a plan, or the line none
abbrev pub ArePlanLines : (text : List ℕ) → Option Plan → (rest : List ℕ) → Type 0
ArePlanLines text None rest = BeginsWith text (codes "none") rest
ArePlanLines text (Some plan) rest =
    (actions : List ℕ) × (cost : List ℕ) × BeginsWithNumber text (codes "plan ") (length plan.actions) actions
    × AreActionLines actions plan.actions cost × BeginsWithNumber cost (codes "cost ") plan.cost rest

pub record Spells (bytes : List ℕ) (text : Text) : Type 0 where
  pub weight_line : List ℕ
  pub plan_part : List ℕ
  pub count_line : List ℕ
  pub row_part : List ℕ
  pub end_line : List ℕ
  pub weight_words : List ℕ
  pub known : IsSpelling text.spelling
  pub head : bytes ≡ lines (head_of text.spelling) ++ weight_line
  pub weight : BeginsWith weight_line weight_words plan_part × IsWeightLine weight_words text.certificate.weight
  pub plan : ArePlanLines plan_part text.certificate.plan count_line
  pub count : BeginsWithNumber count_line (codes "rows ") (length text.certificate.lines) row_part
  pub rows : AreRowLines text.spelling.width row_part text.certificate.lines end_line
  pub end : BeginsWith end_line (codes "end") []
  pub first : text.first ≡ first_line text.spelling text.certificate.plan
