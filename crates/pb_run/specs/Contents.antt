-- What a call of the program does to the files of a shelf, if they are known.
use Rattle.std.specs.Prelude.{◌≡◌, ◌≢◌, ◌⊎◌, ℕ, ◌<◌, ◌≤◌, Option, Some, IfSome, List, [], ◌∷◌, ◌++◌, length, ⊤}
use mathlib.Core.Logic.{inl, inr}
use Rattle.pb_outside.specs.declared.shelf.Load.{Load}
use Rattle.pb_outside.specs.declared.shelf.Load.TheVariants.{Failed}
use Rattle.pb_outside.specs.Outside.{Files, IfTold, Appends, KeepsAll, KeepsOthers}
use Rattle.pb_outside.specs.Calls.{Call, Put, Notes, NotesPutFailed, IsNoFault}
use Rattle.pb_outside.specs.Saves.{IsPartSaved}
use Rattle.pb_command.specs.Meaning.{Reading}
use Rattle.pb_run.specs.Asked.{Wanted, files_of, saved_names}
use Rattle.pb_answer.specs.Outputs.{Output}
use Rattle.pb_run.specs.Calls.{outputs_in, put_bytes, load_calls, EndLoads, SaveAll, FailToSaveAll}
use Rattle.pb_run.specs.Loads.{AreLoaded}
use Rattle.pb_answer.specs.Answer.{Said}
use Rattle.pb_answer.specs.Parts.{AnswerPart, outputs_of, report_of}
use Rattle.pb_run.specs.Parted.{AreDecided}
use Rattle.pb_run.specs.Handing.{HandsOutParts}
use Rattle.pb_run.specs.Course.{RunsOut, FailsToLoad, HasAnswered}
use Rattle.pb_run.specs.declared.output.Ending.{Ending}
use Rattle.pb_run.specs.declared.output.Ending.TheVariants.{Done, NotSaved, NotPrinted}
use Rattle.pb_run.specs.declared.load.Fault.{Fault}
use Rattle.pb_run.specs.declared.load.Fault.TheVariants.{OutOfMemory, ShelfFailed}

-- ---- files

-- these files were saved, one after another, and all others stay
abbrev pub SavesIn : List Output → Files → Files → Type 0
SavesIn [] before after = KeepsAll before after
SavesIn (first ∷ outputs) before after =
    (between : Files) × (between first.name ≡ Some first.text)
    × KeepsOthers before between first.name × SavesIn outputs between after

-- some of these files were saved, and of the next one a first part, or nothing; all others stay
abbrev pub SavesPartIn : List Output → Files → Files → Type 0
SavesPartIn [] before after = ⊥
SavesPartIn (first ∷ outputs) before after =
    (IsPartSaved before after first.name first.text × KeepsOthers before after first.name)
    ⊎ ((between : Files) × (between first.name ≡ Some first.text)
    × KeepsOthers before between first.name × SavesPartIn outputs between after)

-- So many of these parts as pieces were put were handed out: their files are saved. Of the next
-- part some files are saved, and of the next file a first part, or nothing.
abbrev pub SavesPartsIn : List AnswerPart → (puts : List Call) → Files → Files → Type 0
SavesPartsIn [] puts before after = ⊥
SavesPartsIn (part ∷ parts) [] before after = SavesPartIn part.outputs before after
SavesPartsIn (part ∷ parts) (put ∷ puts) before after =
    (between : Files) × SavesIn part.outputs before between × SavesPartsIn parts puts between after

-- Of what is due for these texts, after so many looks, some parts are finished. Their files are
-- saved, and their pieces are what was printed. Of the next part only some files were saved, and of
-- one more a first part, or nothing.
pub record LeavesPart (reading : Reading) (texts : List (List ℕ)) (looks : ℕ) (printed : List ℕ)
    (before after : Files) : Type 0 where
  pub finished : List AnswerPart
  pub next : AnswerPart
  pub rest : List AnswerPart
  pub decided : AreDecided reading texts looks (finished ++ next ∷ rest)
  pub printed_is : printed ≡ report_of finished
  pub between : Files
  pub saved : SavesIn (outputs_of finished) before between
  pub part : SavesPartIn next.outputs between after

-- it is none of these names
abbrev pub IsNoneOf : (names : List (List ℕ)) → (other : List ℕ) → Type 0
IsNoneOf [] other = ⊤
IsNoneOf (name ∷ names) other = (other ≢ name) × IsNoneOf names other

-- all files stay but those under the names that the words give
abbrev pub KeepsUnnamed : Reading → Files → Files → Type 0
KeepsUnnamed reading before after =
    (other : List ℕ) → IsNoneOf (saved_names reading) other → after other ≡ before other

-- ---- how the parts of the program go

-- the loads came to their end, with these texts
abbrev pub LoadsAll : (old new : List Call) → List Wanted → (texts : List (List ℕ)) → Type 0
LoadsAll old new files texts =
    (unloaded : Option Load) × EndLoads files texts unloaded
    × (new ≡ old ++ load_calls files texts unloaded)

-- memory ran out while files were loaded, or a load failed by a fault of the shelf
abbrev pub LoadsUpTo : (old new : List Call) → List Wanted → Fault → Type 0
LoadsUpTo old new files OutOfMemory =
    (texts : List (List ℕ)) × (unloaded : Option Load) × (length texts ≤ length files)
    × IfSome unloaded IsNoFault × (new ≡ old ++ load_calls files texts unloaded)
LoadsUpTo old new files ShelfFailed =
    (texts : List (List ℕ)) × (length texts < length files)
    × (new ≡ old ++ load_calls files texts (Some Failed))

abbrev pub Saved : (old new : List Call) → List Output → Type 0
Saved old new outputs = (saves : List Call) × (new ≡ old ++ saves) × SaveAll saves outputs

abbrev pub SavedPart : (old new : List Call) → List Output → Type 0
SavedPart old new outputs = (saves : List Call) × (new ≡ old ++ saves) × FailToSaveAll saves outputs

-- an answer was handed out, or the shelf or the sink failed
abbrev pub Hands : Said → Ending → (shelf shelf' sink sink' : List Call)
    → (written written' : Option (List ℕ)) → Type 0
Hands said Done shelf shelf' sink sink' written written' =
    Saved shelf shelf' said.outputs × Notes sink sink' (Put said.report)
    × IfTold written written' (λ before after. Appends before after said.report)
Hands said NotSaved shelf shelf' sink sink' written written' =
    SavedPart shelf shelf' said.outputs × (sink' ≡ sink)
    × IfTold written written' (λ before after. after ≡ before)
Hands said NotPrinted shelf shelf' sink sink' written written' =
    Saved shelf shelf' said.outputs × NotesPutFailed sink sink' written written' said.report

-- how an answer was handed out, with what that means for the known files of the shelf
abbrev pub HandsTold : Said → Ending → Option Files → Option Files → Type 0
HandsTold said Done files files' = IfTold files files' (SavesIn said.outputs)
HandsTold said NotSaved files files' = IfTold files files' (SavesPartIn said.outputs)
HandsTold said NotPrinted files files' = IfTold files files' (SavesIn said.outputs)

-- how parts were handed out, with what that means for the known files of the shelf
abbrev pub TellsHands : (reading : Reading) (texts : List (List ℕ)) (parts : List AnswerPart)
    (status looks : ℕ) (saves sink : List Call) → Option Files → Option Files
    → HandsOutParts reading texts parts status looks saves sink → Type 0
TellsHands reading texts parts status looks saves sink files files' (inl done) =
    IfTold files files' (SavesIn (outputs_of parts))
TellsHands reading texts parts status looks saves sink files files' (inr (inl failed)) =
    IfTold files files' (SavesPartsIn parts sink)
TellsHands reading texts parts status looks saves sink files files' (inr (inr failed)) =
    IfTold files files' (SavesIn (outputs_in saves))

-- what was done, with what that means for the known files of the shelf
abbrev pub GoesBy : Reading → (status looks : ℕ) → Option Files → Option Files
    → (shelf sink : List Call) → Type 0
GoesBy reading status looks files files' shelf sink =
    ((out : RunsOut reading status shelf sink)
    × IfTold files files' (SavesIn (outputs_of out.parts)))
    ⊎ ((FailsToLoad reading status shelf sink × IfTold files files' KeepsAll)
    ⊎ ((a : HasAnswered reading status looks shelf sink)
    × AreLoaded files (files_of reading) a.texts
    × TellsHands reading a.texts a.parts status looks a.saves sink files files' a.hands))

abbrev pub Goes : Reading → (status looks : ℕ) → Option Files → Option Files
    → (shelf shelf' sink sink' : List Call) → Type 0
Goes reading status looks files files' shelf shelf' sink sink' =
    (own : List Call) × (out : List Call) × (shelf' ≡ shelf ++ own) × (sink' ≡ sink ++ out)
    × GoesBy reading status looks files files' own out

-- what was put since follows what was written before, if that is known
abbrev pub WritesPut : (written written' : Option (List ℕ)) → (sink sink' : List Call) → Type 0
WritesPut written written' sink sink' =
    (out : List Call) × (sink' ≡ sink ++ out) × IfTold written written'
    (λ before after. Appends before after (put_bytes out))
