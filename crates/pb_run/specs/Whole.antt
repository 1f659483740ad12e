-- What holds of every call, whatever its command: the sequence of its calls, completeness, what is
-- left out where nothing is answered, and the contents of files and output.
use Rattle.std.specs.Prelude.{◌≡◌, ◌⊎◌, ◌↔◌, ℕ, ◌≤◌, IsTrue, true, false, Option, List, [], map}
use Rattle.pb_outside.specs.Outside.{Files, IfTold, Appends, Rose, KeepsAll}
use Rattle.pb_outside.specs.Calls.{Call}
use Rattle.pb_answer.specs.Outputs.{Output}
use Rattle.pb_run.specs.Asked.{files_of, saved_names, AreSomeOf}
use Rattle.pb_command.specs.Meaning.{reading_of_words}
use Rattle.pb_run.specs.Calls.{calls_since, loaded_texts, outputs_in, have_failed}
use Rattle.pb_run.specs.Loads.{AreLoaded}
use Rattle.pb_run.specs.Contents.{SavesIn, LeavesPart, KeepsUnnamed}
use Rattle.pb_run.specs.Served.{IsAnswered, CanServe, AnswersWhatFits, IsComplete}
use Rattle.pb_run.specs.Parted.{asks_one_part}
use Rattle.pb_run.specs.Course.{DoesSince}
use Rattle.pb_run.specs.Outcome.{Outcome, outcome, IsAnswer}

-- - `in_order`: the calls are a beginning of one sequence, so no other call can provoke a failure.
-- - `shelf_fault`, `sink_fault`: 73 and 74 come if and only if a call on the shelf, or on the sink,
--   failed.
-- - `answered`: if no call failed, there is an answer to the loaded texts, or memory ran out.
-- - `named`: files are begun only under names of the command line, in its order.
pub record CallsHold (words : List (List ℕ)) (status looks : ℕ)
    (shelf shelf' sink sink' : List Call) : Type 0 where
  pub in_order : DoesSince (reading_of_words words) status looks shelf shelf' sink sink'
  pub shelf_fault : status ≡ 73 ↔ IsTrue (have_failed (calls_since shelf shelf'))
  pub sink_fault : status ≡ 74 ↔ IsTrue (have_failed (calls_since sink sink'))
  pub answered : have_failed (calls_since shelf shelf') ≡ false
      → have_failed (calls_since sink sink') ≡ false
      → IsAnswered (reading_of_words words) (loaded_texts (calls_since shelf shelf'))
      (outcome words status looks shelf shelf' sink sink').said
  pub named : AreSomeOf (map (λ (o : Output). o.name) (outputs_in (calls_since shelf shelf')))
      (saved_names (reading_of_words words))

-- There is an answer, or memory ran out. If the files are known and the named ones are there, it is
-- an answer to their texts.
pub record IsServed (it : Outcome) (files : Option Files) : Type 0 where
  pub complete : IsComplete it.asked files it.said
  pub answered : IsAnswer it.said.status ⊎ (it.said.status ≡ 71)

-- - `served`: it is so if the shelf can load the named files, can hold whatever may be answered of
--   their texts, and the sink can take whatever may be printed.
-- - `fits`: if the shelf can load them, it is enough that both can do this of the one answer that
--   these texts get. A journal that is saved is then as long as its own events, and not as those
--   that the budget allows (`saved_journals_are_short`).
pub record AnswersIfServed (it : Outcome) (files : Option Files) (can_load : List ℕ → Type 0)
    (can_hold : List ℕ → ℕ → Type 0) (can_take : ℕ → Type 0) : Type 0 where
  pub served : CanServe it.asked files can_load can_hold can_take → IsServed it files
  pub fits : AnswersWhatFits it.asked it.said.status it.said.looks files can_load can_hold can_take

-- Where nothing is answered: if one part is asked for, nothing is printed at 71 and 73, and nothing
-- is saved at 71. The shelf's count of faults rises at 73 and the sink's at 74, and none ever
-- falls.
pub record BreaksOnlyBy (it : Outcome) (shelf shelf' sink sink' : ℕ) : Type 0 where
  pub unsaved : asks_one_part it.asked ≡ true → it.said.status ≡ 71 → it.said.outputs ≡ []
  pub silent : asks_one_part it.asked ≡ true
      → (it.said.status ≡ 71) ⊎ (it.said.status ≡ 73) → it.said.report ≡ []
  pub shelf_rose : it.said.status ≡ 73 → Rose shelf shelf'
  pub sink_rose : it.said.status ≡ 74 → Rose sink sink'
  pub shelf_later : shelf ≤ shelf'
  pub sink_later : sink ≤ sink'

-- If the contents of files and output are known:
-- - `loaded`: the texts are those of the files;
-- - `saved`: unless the shelf failed, what was saved is there;
-- - `kept`: at 71 all files are as before, if one part is asked for;
-- - `left`: at 73 the files of the parts that were printed are saved, and of the next part some
--   files and of one more a prefix; if a load failed, nothing is saved or printed;
-- - `others`: files under other names stay;
-- - `printed`: what was printed follows what was written before.
pub record ContentsHold (it : Outcome) (files files' : Option Files)
    (written written' : Option (List ℕ)) : Type 0 where
  pub loaded : IsAnswer it.said.status → AreLoaded files (files_of it.asked) it.texts
  pub saved : IsAnswer it.said.status ⊎ ((it.said.status ≡ 71) ⊎ (it.said.status ≡ 74))
      → IfTold files files' (SavesIn it.said.outputs)
  pub kept : asks_one_part it.asked ≡ true → it.said.status ≡ 71 → IfTold files files' KeepsAll
  pub left : it.said.status ≡ 73 → IfTold files files'
      (λ before after. (KeepsAll before after × (it.said.report ≡ []))
      ⊎ LeavesPart it.asked it.texts it.said.looks it.said.report before after)
  pub others : IfTold files files' (KeepsUnnamed it.asked)
  pub printed : IfTold written written'
      (λ before after. Appends before after it.said.report)
