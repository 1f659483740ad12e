-- What a call of the program calls on the shelf and the sink: one sequence, of which it may do a
-- beginning.
use Rattle.std.specs.Prelude.{◌≡◌, ◌⊎◌, ℕ, ◌<◌, Bool, true, false, ◌||◌, Option, None, Some, List, [], ◌∷◌, ◌++◌, length, take, drop}
use Rattle.pb_outside.specs.declared.shelf.Load.{Load}
use Rattle.pb_outside.specs.declared.shelf.Load.TheVariants.{Failed, TooLong, Memory}
use Rattle.pb_outside.specs.Calls.{Call, Loaded, LoadFailed, Created, CreateFailed, Appended, AppendFailed, Put, PutFailed, SaveText, FailToSave}
use Rattle.pb_answer.specs.Outputs.{Output, output}
use Rattle.pb_run.specs.Asked.{Wanted}

-- the calls that were made since
abbrev pub calls_since : (old new : List Call) → List Call
calls_since old new = drop (length old) new

-- ---- what calls say

-- the bytes that were loaded of each file, in order
abbrev pub loaded_texts : List Call → List (List ℕ)
loaded_texts [] = []
loaded_texts (Loaded name most bytes ∷ calls) = bytes ∷ loaded_texts calls
loaded_texts (call ∷ calls) = loaded_texts calls

-- the bytes that are appended before the next file is begun
abbrev pub appended_bytes : List Call → List ℕ
appended_bytes [] = []
appended_bytes (Created name ∷ calls) = []
appended_bytes (Appended name piece ∷ calls) = piece ++ appended_bytes calls
appended_bytes (AppendFailed name piece kept ∷ calls) = take kept piece ++ appended_bytes calls
appended_bytes (call ∷ calls) = appended_bytes calls

-- the files that were begun, in order, with what was appended to each
abbrev pub outputs_in : List Call → List Output
outputs_in [] = []
outputs_in (Created name ∷ calls) = output name (appended_bytes calls) ∷ outputs_in calls
outputs_in (call ∷ calls) = outputs_in calls

-- the bytes that were put, in order
abbrev pub put_bytes : List Call → List ℕ
put_bytes [] = []
put_bytes (Put piece ∷ calls) = piece ++ put_bytes calls
put_bytes (PutFailed piece kept ∷ calls) = take kept piece ++ put_bytes calls
put_bytes (call ∷ calls) = put_bytes calls

-- whether a load failed by a fault
abbrev pub is_fault : Load → Bool
is_fault Failed = true
is_fault (TooLong seen) = false
is_fault Memory = false

-- whether a call failed
abbrev pub has_failed : Call → Bool
has_failed (Loaded name most bytes) = false
has_failed (LoadFailed name most why) = is_fault why
has_failed (Created name) = false
has_failed (CreateFailed name) = true
has_failed (Appended name piece) = false
has_failed (AppendFailed name piece kept) = true
has_failed (Put piece) = false
has_failed (PutFailed piece kept) = true

-- whether one of these calls failed
abbrev pub have_failed : List Call → Bool
have_failed [] = false
have_failed (call ∷ calls) = has_failed call || have_failed calls

-- ---- loads

-- The calls that load these files in order and get these texts. If a reason is given, the load of
-- the next file fails for that reason. There are no more calls.
abbrev pub load_calls : List Wanted → (texts : List (List ℕ)) → (unloaded : Option Load) → List Call
load_calls [] texts unloaded = []
load_calls (file ∷ files) [] None = []
load_calls (file ∷ files) [] (Some why) = LoadFailed file.name file.most why ∷ []
load_calls (file ∷ files) (text ∷ texts) unloaded =
    Loaded file.name file.most text ∷ load_calls files texts unloaded

-- the loads came to their end: each file was loaded, or the next one is too long
abbrev pub EndLoads : List Wanted → (texts : List (List ℕ)) → (unloaded : Option Load) → Type 0
EndLoads files texts None = length texts ≡ length files
EndLoads files texts (Some Failed) = ⊥
EndLoads files texts (Some (TooLong seen)) = length texts < length files
EndLoads files texts (Some Memory) = ⊥

-- ---- outputs

-- the calls save these files, one after another: each is begun, and grows by pieces that are
-- together its text
abbrev pub SaveAll : List Call → List Output → Type 0
SaveAll calls [] = calls ≡ []
SaveAll calls (first ∷ outputs) =
    (own : List Call) × (rest : List Call) × (calls ≡ own ++ rest)
    × SaveText own first.name first.text × SaveAll rest outputs

-- the calls save some of these files, up to a call that failed, which is the last
abbrev pub FailToSaveAll : List Call → List Output → Type 0
FailToSaveAll calls [] = ⊥
FailToSaveAll calls (first ∷ outputs) =
    FailToSave calls first.name first.text
    ⊎ ((own : List Call) × (rest : List Call) × (calls ≡ own ++ rest)
    × SaveText own first.name first.text × FailToSaveAll rest outputs)

-- the shelf can hold each of these files
abbrev pub CanHold : (can_hold : List ℕ → ℕ → Type 0) → List Output → Type 0
CanHold can_hold [] = Unit {0}
CanHold can_hold (first ∷ outputs) =
    can_hold first.name (length first.text) × CanHold can_hold outputs
