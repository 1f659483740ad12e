-- How an answer is handed out, part by part: of each part the files are saved, and then its piece
-- of the report is put.
use Rattle.std.specs.Prelude.{◌≡◌, ◌⊎◌, ℕ, ◌≤◌, List, [], ◌∷◌, ◌++◌, length}
use Rattle.pb_outside.specs.Calls.{Call, Put, PutFailed}
use Rattle.pb_answer.specs.Answer.{Said}
use Rattle.pb_answer.specs.Parts.{AnswerPart}
use Rattle.pb_command.specs.Meaning.{Reading}
use Rattle.pb_run.specs.Calls.{SaveAll, FailToSaveAll}
use Rattle.pb_run.specs.Answers.{AnswersReading}
use Rattle.pb_run.specs.Parted.{AreAllParts, AreDecided}

-- these calls hand out one part, and the other calls come after them
pub record HandsOutOne (part : AnswerPart) (saves sink saves' sink' : List Call) : Type 0 where
  pub own : List Call
  pub saves_are : saves ≡ own ++ saves'
  pub saved : SaveAll own part.outputs
  pub sink_is : sink ≡ Put part.report ∷ sink'

-- all parts are handed out, one after another
abbrev pub HandsOutAll : List AnswerPart → (saves sink : List Call) → Type 0
HandsOutAll [] saves sink = (saves ≡ []) × (sink ≡ [])
HandsOutAll (part ∷ parts) saves sink =
    (saves' : List Call) × (sink' : List Call) × HandsOutOne part saves sink saves' sink'
    × HandsOutAll parts saves' sink'

-- some parts are handed out, and of the next one the shelf fails while a file is saved
abbrev pub FailsInSaves : List AnswerPart → (saves sink : List Call) → Type 0
FailsInSaves [] saves sink = ⊥
FailsInSaves (part ∷ parts) saves sink =
    (FailToSaveAll saves part.outputs × (sink ≡ []))
    ⊎ ((saves' : List Call) × (sink' : List Call) × HandsOutOne part saves sink saves' sink'
    × FailsInSaves parts saves' sink')

-- the sink fails while this piece is put
pub record FailsInOnePut (report : List ℕ) (sink : List Call) : Type 0 where
  pub kept : ℕ
  pub within : kept ≤ length report
  pub sink_is : sink ≡ PutFailed report kept ∷ []

-- some parts are handed out, and of the next one the sink fails while its piece is put
abbrev pub FailsInPuts : List AnswerPart → (saves sink : List Call) → Type 0
FailsInPuts [] saves sink = ⊥
FailsInPuts (part ∷ parts) saves sink =
    (SaveAll saves part.outputs × FailsInOnePut part.report sink)
    ⊎ ((saves' : List Call) × (sink' : List Call) × HandsOutOne part saves sink saves' sink'
    × FailsInPuts parts saves' sink')

-- all parts of an answer are handed out, and status and looks are those of the answer
pub record HandsOutAnswer (reading : Reading) (texts : List (List ℕ)) (parts : List AnswerPart)
    (status looks : ℕ) (saves sink : List Call) : Type 0 where
  pub said : Said
  pub answers : AnswersReading reading texts said
  pub parts_are : AreAllParts reading texts said parts
  pub status_is : status ≡ said.status
  pub looks_is : looks ≡ said.looks
  pub hands : HandsOutAll parts saves sink

-- the parts that are decided are handed out, up to a file that the shelf fails to save
pub record BreaksOffSaving (reading : Reading) (texts : List (List ℕ)) (parts : List AnswerPart)
    (status looks : ℕ) (saves sink : List Call) : Type 0 where
  pub status_is : status ≡ 73
  pub decided : AreDecided reading texts looks parts
  pub hands : FailsInSaves parts saves sink

-- the parts that are decided are handed out, up to a piece that the sink fails to take
pub record BreaksOffPutting (reading : Reading) (texts : List (List ℕ)) (parts : List AnswerPart)
    (status looks : ℕ) (saves sink : List Call) : Type 0 where
  pub status_is : status ≡ 74
  pub decided : AreDecided reading texts looks parts
  pub hands : FailsInPuts parts saves sink

-- an answer is handed out in parts, or up to a call that fails
abbrev pub HandsOutParts : Reading → (texts : List (List ℕ)) → List AnswerPart
    → (status looks : ℕ) → (saves sink : List Call) → Type 0
HandsOutParts reading texts parts status looks saves sink =
    HandsOutAnswer reading texts parts status looks saves sink
    ⊎ (BreaksOffSaving reading texts parts status looks saves sink
    ⊎ BreaksOffPutting reading texts parts status looks saves sink)
