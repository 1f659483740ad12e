-- How a certificate is spelled: the lines before its weight, and the digits of its states. What
-- writes certificates and what reads them both cite this.
use Rattle.std.specs.Prelude.{◌≡◌, ◌<◌, ◌≤◌, ◌^◌, ℕ, ⊤, List, [], ◌∷◌, ◌++◌, length, codes}
use Rattle.std.specs.Fmt.{decimal}
use Rattle.pb_packed.specs.Sizes.{version_1_digits, most_digits}
use Rattle.pb_model.specs.Certificate.{Certificate}
use Rattle.pb_model.specs.Texts.{spaced, certificate_text}
use Rattle.pb_task.specs.declared.kind.Kind.{Kind}
use Rattle.pb_task.specs.declared.kind.Kind.TheVariants.{Strips}
use Rattle.pb_task.specs.declared.grounding.Grounding.{Grounding}
use Rattle.pb_task.specs.declared.grounding.Grounding.TheVariants.{All, Reachable}
use Rattle.pb_task.specs.declared.parts.TaskParts.{TaskParts}
use Rattle.pb_task.specs.Kinds.{kind_of, kind_name}
use Rattle.pb_task.specs.Groundings.{grounding_of, grounding_name}
use Rattle.pb_task.specs.Widths.{width_of}
use Rattle.pb_table_lines.specs.Lines.{tables_lines}
use Rattle.pb_table_lines.specs.Spelling.{CanBeStated as TablesCanBeStated}
use Rattle.pb_estimate.specs.Choices.{Choice, Plain, Pattern, Tables}
use Rattle.pb_estimate.specs.declared.spelling.Stated.{Stated}
use Rattle.pb_estimate.specs.declared.spelling.Version.{Version}
use Rattle.pb_estimate.specs.declared.spelling.Version.TheVariants.{One, Two, Three, Four}
use Rattle.pb_estimate.specs.declared.spelling.Spelling.{Spelling}

-- The version in which a certificate of a task with this grounding is written whose search had this
-- choice of an estimate.
abbrev pub version_of : Grounding → Choice → Version
version_of Reachable choice = Four
version_of All Plain = Two
version_of All (Pattern number) = Three
version_of All (Tables tables) = Four

-- How a certificate of this task is written whose search had this choice of an estimate: with as
-- many digits as the task's states need.
abbrev pub spelling_of : TaskParts → Choice → Spelling
spelling_of parts choice =
    record {
      kind = kind_of parts;
      version = version_of (grounding_of parts) choice;
      width = width_of parts;
      stated = record { grounding = grounding_of parts; choice = choice };
    }

-- the states of this version have so many digits
abbrev pub IsWidthOf : Version → (width : ℕ) → Type 0
IsWidthOf One width = width ≡ version_1_digits
IsWidthOf Two width = (1 ≤ width) × (width ≤ most_digits)
IsWidthOf Three width = (1 ≤ width) × (width ≤ most_digits)
IsWidthOf Four width = (1 ≤ width) × (width ≤ most_digits)

-- the plain choice, a pattern by any number that a text can state, or tables whose images have so
-- many digits
abbrev pub CanBeStated : (width : ℕ) → Choice → Type 0
CanBeStated width Plain = ⊤
CanBeStated width (Pattern number) = number < 2 ^ 63
CanBeStated width (Tables tables) = TablesCanBeStated width tables

-- This version states this choice. Version 3 states a pattern, by any number that a text can state,
-- and version 4 any choice. The others say nothing of a choice.
abbrev pub StatesChoice : Version → (width : ℕ) → Choice → Type 0
StatesChoice One width Plain = ⊤
StatesChoice Two width Plain = ⊤
StatesChoice Three width (Pattern number) = number < 2 ^ 63
StatesChoice Four width choice = CanBeStated width choice
StatesChoice version width choice = ⊥

-- This version states this grounding. Before version 4 none is stated: all ground atoms have
-- numbers.
abbrev pub StatesGrounding : Version → Grounding → Type 0
StatesGrounding One grounding = grounding ≡ All
StatesGrounding Two grounding = grounding ≡ All
StatesGrounding Three grounding = grounding ≡ All
StatesGrounding Four grounding = ⊤

-- this version is for tasks of this kind
abbrev pub IsVersionFor : Version → Kind → Type 0
IsVersionFor One kind = ⊤
IsVersionFor Two kind = ⊤
IsVersionFor Three kind = ⊤
IsVersionFor Four kind = kind ≡ Strips

-- a spelling that there is
pub record IsSpelling (spelling : Spelling) : Type 0 where
  pub width : IsWidthOf spelling.version spelling.width
  pub choice : StatesChoice spelling.version spelling.width spelling.stated.choice
  pub grounding : StatesGrounding spelling.version spelling.stated.grounding
  pub kind : IsVersionFor spelling.version spelling.kind

-- ---- the lines before the weight

abbrev pub version_line : Version → List ℕ
version_line One = codes "pbnf-certificate 1"
version_line Two = codes "pbnf-certificate 2"
version_line Three = codes "pbnf-certificate 3"
version_line Four = codes "pbnf-certificate 4"

abbrev pub kind_line : Kind → List ℕ
kind_line kind = spaced (codes "kind") (kind_name kind)

-- the line that says how many digits a state has; version 1 has none
abbrev pub width_text : Version → (width : ℕ) → List (List ℕ)
width_text One width = []
width_text Two width = spaced (codes "width") (decimal width) ∷ []
width_text Three width = spaced (codes "width") (decimal width) ∷ []
width_text Four width = spaced (codes "width") (decimal width) ∷ []

-- the lines that say the choice of an estimate in version 3, which has no tables; the plain one
-- needs none
abbrev pub choice_text : Choice → List (List ℕ)
choice_text Plain = []
choice_text (Pattern number) = spaced (codes "pattern") (decimal number) ∷ []
choice_text (Tables tables) = []

abbrev pub grounding_line : Grounding → List ℕ
grounding_line grounding = spaced (codes "grounding") (grounding_name grounding)

abbrev pub plain_line : List ℕ
plain_line = codes "estimate plain"

abbrev pub pattern_line : (number : ℕ) → List ℕ
pattern_line number = spaced (codes "estimate pattern") (decimal number)

-- the lines that say the choice of an estimate in version 4; the images of tables have so many
-- digits
abbrev pub estimate_text : (width : ℕ) → Choice → List (List ℕ)
estimate_text width Plain = plain_line ∷ []
estimate_text width (Pattern number) = pattern_line number ∷ []
estimate_text width (Tables tables) = tables_lines width tables

-- the lines that say what is stated besides
abbrev pub stated_text : Version → (width : ℕ) → Stated → List (List ℕ)
stated_text One width stated = []
stated_text Two width stated = []
stated_text Three width stated = choice_text stated.choice
stated_text Four width stated =
    grounding_line stated.grounding ∷ estimate_text width stated.choice

abbrev pub head_of : Spelling → List (List ℕ)
head_of spelling =
    version_line spelling.version
    ∷ kind_line spelling.kind
    ∷ (width_text spelling.version spelling.width ++ stated_text spelling.version spelling.width
    spelling.stated)

-- how many lines come before the weight
abbrev pub head_lines : Spelling → ℕ
head_lines spelling = length (head_of spelling)

-- ---- the whole text

-- the text of a certificate that is spelled so
abbrev pub spelled_text : Spelling → Certificate → List ℕ
spelled_text spelling certificate =
    certificate_text (head_of spelling) spelling.width certificate
