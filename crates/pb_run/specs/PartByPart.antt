-- Parts that are handed out one after another: what was called, and what that means for the known
-- files of the shelf and for what was written.
use Rattle.std.specs.Prelude.{◌≡◌, ◌⊎◌, ℕ, Option, List, ◌++◌, length}
use Rattle.pb_outside.specs.Outside.{Files, IfTold, Appends, KeepsHolds}
use Rattle.pb_outside.specs.Calls.{Call, KeepsTakes}
use Rattle.pb_command.specs.Meaning.{Reading}
use Rattle.pb_answer.specs.Answer.{Said}
use Rattle.pb_answer.specs.Parts.{AnswerPart, outputs_of, report_of}
use Rattle.pb_run.specs.Calls.{outputs_in, put_bytes}
use Rattle.pb_run.specs.Answers.{AnswersReading}
use Rattle.pb_run.specs.Parted.{AreAllParts, AreFirstParts, AreDecided}
use Rattle.pb_run.specs.Handing.{HandsOutAll, FailsInSaves, FailsInPuts}
use Rattle.pb_run.specs.Contents.{SavesIn, SavesPartsIn}
use Rattle.pb_run.specs.declared.output.Ending.{Ending}
use Rattle.pb_run.specs.declared.output.Ending.TheVariants.{Done, NotSaved, NotPrinted}

-- the calls that hand out the parts, all of them or up to one that failed
abbrev pub HandsUpTo : Ending → List AnswerPart → (saves puts : List Call) → Type 0
HandsUpTo Done parts saves puts = HandsOutAll parts saves puts
HandsUpTo NotSaved parts saves puts = FailsInSaves parts saves puts
HandsUpTo NotPrinted parts saves puts = FailsInPuts parts saves puts

-- what these calls do to files
abbrev pub SavesUpTo : Ending → List AnswerPart → (saves puts : List Call) → Files → Files → Type 0
SavesUpTo Done parts saves puts before after = SavesIn (outputs_of parts) before after
SavesUpTo NotSaved parts saves puts before after = SavesPartsIn parts puts before after
SavesUpTo NotPrinted parts saves puts before after = SavesIn (outputs_in saves) before after

-- The parts were handed out since, all of them or up to a call that failed.
pub record HandsParts (ending : Ending) (parts : List AnswerPart) (files files' : Option Files)
    (shelf shelf' sink sink' : List Call) (written written' : Option (List ℕ)) : Type 0 where
  pub saves : List Call
  pub puts : List Call
  pub shelf_is : shelf' ≡ shelf ++ saves
  pub sink_is : sink' ≡ sink ++ puts
  pub hands : HandsUpTo ending parts saves puts
  pub told : IfTold files files' (SavesUpTo ending parts saves puts)
  pub printed : IfTold written written' (λ before after. Appends before after (put_bytes puts))

-- After these parts the shelf can still hold what it could hold before. The sink can take what it
-- could take, but for their pieces.
pub record StillFits (parts : List AnswerPart) (can_hold can_hold' : List ℕ → ℕ → Type 0)
    (can_take can_take' : ℕ → Type 0) : Type 0 where
  pub holds : KeepsHolds can_hold can_hold'
  pub takes : KeepsTakes can_take can_take' (length (report_of parts))

-- How it ends with the parts of an answer to these texts, after so many looks: all were handed out,
-- or memory ran out before the next one was decided. Or a file of the part in hand wasn't saved, or
-- its piece not put.
abbrev pub EndsParts : Reading → (texts : List (List ℕ)) → Ending → List AnswerPart
    → (status looks : ℕ) → Type 0
EndsParts reading texts Done parts status looks =
    ((said : Said) × AnswersReading reading texts said × AreAllParts reading texts said parts
    × (status ≡ said.status) × (looks ≡ said.looks))
    ⊎ ((status ≡ 71) × AreFirstParts reading texts parts)
EndsParts reading texts NotSaved parts status looks =
    (status ≡ 73) × AreDecided reading texts looks parts
EndsParts reading texts NotPrinted parts status looks =
    (status ≡ 74) × AreDecided reading texts looks parts

-- what is due for these texts was handed out, part by part
pub record HandsOutTexts (reading : Reading) (texts : List (List ℕ)) (status looks : ℕ)
    (files files' : Option Files) (shelf shelf' sink sink' : List Call)
    (written written' : Option (List ℕ)) : Type 0 where
  pub ending : Ending
  pub parts : List AnswerPart
  pub hands : HandsParts ending parts files files' shelf shelf' sink sink' written written'
  pub ends : EndsParts reading texts ending parts status looks
