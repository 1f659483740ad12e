-- An answer in one part is handed out at once: how a call then goes.
use Rattle.std.specs.Prelude.{◌≡◌, ◌⊎◌, ℕ, ◌<◌, ◌≤◌, true, Option, Some, IfSome, List, [], ◌∷◌, ◌++◌, length}
use Rattle.pb_outside.specs.declared.shelf.Load.{Load}
use Rattle.pb_outside.specs.declared.shelf.Load.TheVariants.{Failed}
use Rattle.pb_outside.specs.Calls.{Call, Put, IsNoFault}
use Rattle.pb_command.specs.Meaning.{Reading}
use Rattle.pb_answer.specs.Answer.{Said}
use Rattle.pb_run.specs.Asked.{files_of}
use Rattle.pb_run.specs.Calls.{load_calls, EndLoads, SaveAll, FailToSaveAll}
use Rattle.pb_run.specs.Answers.{AnswersReading}
use Rattle.pb_run.specs.Parted.{asks_one_part}
use Rattle.pb_run.specs.Handing.{FailsInOnePut}
use Rattle.pb_run.specs.Course.{Does}

-- All files of the answer are saved, and then the whole report is put. Or a file isn't saved, and
-- nothing is put. Or all files are saved, and the report isn't put.
abbrev pub SavesThenPuts : Said → (status : ℕ) → (saves sink : List Call) → Type 0
SavesThenPuts said status saves sink =
    ((status ≡ said.status) × SaveAll saves said.outputs × (sink ≡ Put said.report ∷ []))
    ⊎ (((status ≡ 73) × FailToSaveAll saves said.outputs × (sink ≡ []))
    ⊎ ((status ≡ 74) × SaveAll saves said.outputs × FailsInOnePut said.report sink))

-- Memory ran out, or the shelf failed to load a file: the one after so many texts. A load that
-- fails at 71 doesn't fail by a fault.
abbrev pub LoadsInPart : (files : ℕ) → (texts : List (List ℕ)) → (unloaded : Option Load)
    → (status : ℕ) → Type 0
LoadsInPart files texts unloaded status =
    ((status ≡ 71) × (length texts ≤ files) × IfSome unloaded IsNoFault)
    ⊎ ((status ≡ 73) × (length texts < files) × (unloaded ≡ Some Failed))

-- Files are loaded. Then memory runs out or a load fails, and nothing is saved or put. Or the loads
-- came to their end, and the answer to their texts, with so many looks, is saved and put.
abbrev pub HandsOutAtOnce : Reading → (status looks : ℕ) → (shelf sink : List Call) → Type 0
HandsOutAtOnce reading status looks shelf sink =
    (texts : List (List ℕ)) × (unloaded : Option Load) × (saves : List Call)
    × (shelf ≡ load_calls (files_of reading) texts unloaded ++ saves)
    × ((LoadsInPart (length (files_of reading)) texts unloaded status × (saves ≡ []) × (sink ≡ []))
    ⊎ (EndLoads (files_of reading) texts unloaded
    × ((said : Said) × AnswersReading reading texts said × (looks ≡ said.looks)
    × SavesThenPuts said status saves sink)))

-- If a command line asks for one part, its answer is handed out at once.
abbrev pub OnePartIsHandedOutAtOnce : Type 0
OnePartIsHandedOutAtOnce =
    (reading : Reading) (status looks : ℕ) (shelf sink : List Call) → asks_one_part reading ≡ true
    → Does reading status looks shelf sink → HandsOutAtOnce reading status looks shelf sink
