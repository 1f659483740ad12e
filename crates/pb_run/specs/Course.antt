-- How a call of the program goes: what it calls on the shelf and the sink, how far it comes, and
-- what it then answers.
use Rattle.std.specs.Prelude.{◌≡◌, ◌⊎◌, ℕ, ◌<◌, ◌≤◌, Option, Some, IfSome, List, [], ◌++◌, length}
use Rattle.pb_outside.specs.declared.shelf.Load.{Load}
use Rattle.pb_outside.specs.declared.shelf.Load.TheVariants.{Failed}
use Rattle.pb_outside.specs.Calls.{Call, IsNoFault}
use Rattle.pb_command.specs.Meaning.{Reading}
use Rattle.pb_run.specs.Asked.{files_of}
use Rattle.pb_run.specs.Calls.{calls_since, load_calls, EndLoads}
use Rattle.pb_answer.specs.Parts.{AnswerPart}
use Rattle.pb_run.specs.Parted.{AreFirstParts}
use Rattle.pb_run.specs.Handing.{HandsOutAll, HandsOutParts}

-- Memory ran out, after these parts were handed out. Some of the loads were done, and at most one
-- failed, not by a fault. No part is handed out before the loads come to their end.
pub record RunsOut (reading : Reading) (status : ℕ) (shelf sink : List Call) : Type 0 where
  pub texts : List (List ℕ)
  pub unloaded : Option Load
  pub few : length texts ≤ length (files_of reading)
  pub no_fault : IfSome unloaded IsNoFault
  pub status_is : status ≡ 71
  pub parts : List AnswerPart
  pub parts_are : AreFirstParts reading texts parts
  pub loaded : (parts ≡ []) ⊎ EndLoads (files_of reading) texts unloaded
  pub saves : List Call
  pub shelf_is : shelf ≡ load_calls (files_of reading) texts unloaded ++ saves
  pub hands : HandsOutAll parts saves sink

-- The shelf failed to load a file.
pub record FailsToLoad (reading : Reading) (status : ℕ) (shelf sink : List Call) : Type 0 where
  pub texts : List (List ℕ)
  pub few : length texts < length (files_of reading)
  pub status_is : status ≡ 73
  pub shelf_is : shelf ≡ load_calls (files_of reading) texts (Some Failed)
  pub sink_is : sink ≡ []

-- All files were loaded, or one was too long. What is answered of their texts is handed out in
-- parts, up to a call that fails. Grounding looked at so many rows for it.
pub record HasAnswered (reading : Reading) (status looks : ℕ) (shelf sink : List Call) : Type 0
  where
    pub texts : List (List ℕ)
    pub unloaded : Option Load
    pub ends : EndLoads (files_of reading) texts unloaded
    pub parts : List AnswerPart
    pub saves : List Call
    pub shelf_is : shelf ≡ load_calls (files_of reading) texts unloaded ++ saves
    pub hands : HandsOutParts reading texts parts status looks saves sink

-- The calls on the shelf and the sink are a beginning of one sequence. The files are loaded in the
-- order of the words. Then, part by part, the answer to their texts is saved and printed. Each call
-- but the last is done.
abbrev pub Does : Reading → (status looks : ℕ) → (shelf sink : List Call) → Type 0
Does reading status looks shelf sink =
    RunsOut reading status shelf sink ⊎ (FailsToLoad reading status shelf sink
    ⊎ HasAnswered reading status looks shelf sink)

-- the calls that were made since are a beginning of the sequence
pub record DoesSince (reading : Reading) (status looks : ℕ) (shelf shelf' sink sink' : List Call)
    : Type 0 where
  pub shelf_grows : shelf' ≡ shelf ++ calls_since shelf shelf'
  pub sink_grows : sink' ≡ sink ++ calls_since sink sink'
  pub does : Does reading status looks (calls_since shelf shelf') (calls_since sink sink')
