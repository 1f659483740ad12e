-- The laws of this crate. Each is proved, as the contract of the public function that has its name.
use Rattle.std.specs.Prelude.{◌≡◌, ◌≢◌, ℕ, Option, Some, List, Ok}
use Rattle.pb_model.specs.Space.{Space}
use Rattle.pb_model.specs.Weight.{Weight}
use Rattle.pb_model.specs.Guide.{Guide}
use Rattle.pb_model.specs.Store.{Rows, Store, IsShown}
use Rattle.pb_model.specs.Sound.{IsSound}
use Rattle.pb_model.specs.Certificate.{Line, AreLinesOf}
use Rattle.pb_lists.specs.Store.{store_with, IsPlaced, IsSoundAt}
use Rattle.pb_task.specs.declared.parts.TaskParts.{TaskParts}
use Rattle.pb_task.specs.Parts.{IsTask}
use Rattle.pb_task.specs.Widths.{width_of}
use Rattle.pb_estimate.specs.declared.spelling.Version.TheVariants.{One}
use Rattle.pb_check.specs.declared.fault.Verdict.{Verdict}
use Rattle.pb_check.specs.Judging.{checked}
use Rattle.pb_check.specs.Spelling.{IsSpelled}
use Rattle.pb_check.specs.Shown.{IsAccepted}
use Rattle.pb_cert.specs.Traced.{HasGoal}
use Rattle.pb_cert.specs.Rewritten.{version_anew, rewritten_text}

-- If a sound store has an incumbent that is shown, a goal has a row. The rows are those of a sound
-- store: what a trace asks for.
abbrev pub ShownRowsCanBeTraced : Type 0
ShownRowsCanBeTraced =
    (space : Space) (guide : Guide) (rows : Rows) (weight : Weight) (incumbent : Option ℕ)
    (cost : ℕ) → IsSound space guide (store_with rows weight incumbent)
    → IsShown space guide (store_with rows weight incumbent) → incumbent ≡ Some cost
    → IsSoundAt space guide.home rows weight × HasGoal space rows

-- In a sound store each row is at the home of its state.
abbrev pub SoundRowsArePlaced : Type 0
SoundRowsArePlaced =
    (space : Space) (guide : Guide) (store : Store) → IsSound space guide store
    → IsPlaced guide.home store.rows

-- Rows have one list of lines: two that are those of the same rows are the same. So a certificate
-- with a line more, or one less, or another one, isn't that of the rows.
abbrev pub LinesAreUnique : Type 0
LinesAreUnique =
    (guide : Guide) (rows : Rows) (lines others : List Line) → AreLinesOf guide rows lines
    → AreLinesOf guide rows others → lines ≡ others

-- What is saved anew of an accepted certificate is the text of the same certificate, with the width
-- of the task, and in version 2 if it was in version 1. It is accepted with the same verdict. A text
-- of a later version stays as it is.
abbrev pub RewrittenTextsAreAccepted : Type 0
RewrittenTextsAreAccepted =
    (parts : TaskParts) (bytes : List ℕ) (verdict : Verdict) → IsTask parts
    → (accepted : IsAccepted parts bytes verdict)
    → IsSpelled (rewritten_text parts bytes)
    (record accepted.spelling {
      version = version_anew accepted.spelling.version;
      width = width_of parts;
    }) accepted.certificate
    × (checked parts (rewritten_text parts bytes) ≡ Ok verdict)
    × (accepted.spelling.version ≢ One → rewritten_text parts bytes ≡ bytes)

-- What is saved anew of bytes, if they were accepted, is the text of the accepted certificate: with
-- the width of the task, and in version 2 if it was in version 1.
abbrev pub SpellsAccepted : TaskParts → (bytes : List ℕ) → Type 0
SpellsAccepted parts bytes =
    (verdict : Verdict) (accepted : IsAccepted parts bytes verdict)
    → IsSpelled (rewritten_text parts bytes)
    (record accepted.spelling {
      version = version_anew accepted.spelling.version;
      width = width_of parts;
    }) accepted.certificate

-- What is saved anew of bytes, if they were accepted, is accepted with the same verdict.
abbrev pub IsAcceptedAgain : TaskParts → (bytes : List ℕ) → Type 0
IsAcceptedAgain parts bytes =
    (verdict : Verdict) → IsAccepted parts bytes verdict
    → checked parts (rewritten_text parts bytes) ≡ Ok verdict
