-- Parts that are handed out: what that says of the calls.
use Rattle.std.proofs.Common.{◌≡◌, inl, inr, ℕ, true, false, List, [], ◌∷◌, ◌++◌, refl, sym, ap, subst, ◌∙◌, append_assoc}
use Rattle.pb_outside.specs.Outside.{Files}
use Rattle.pb_outside.specs.Calls.{Call}
use Rattle.pb_command.specs.Meaning.{Reading, Refused, Read, Solve, Falling, Check, Journal, Make}
use Rattle.pb_answer.specs.Outputs.{Output}
use Rattle.pb_answer.specs.Answer.{Said}
use Rattle.pb_answer.specs.Parts.{AnswerPart, outputs_of, report_of}
use Rattle.pb_run.specs.Asked.{saved_names, AreSomeOf}
use Rattle.pb_run.specs.Calls.{put_bytes, have_failed, SaveAll, FailToSaveAll}
use Rattle.pb_answer.specs.FallingRuns.{part_of}
use Rattle.pb_run.specs.Parted.{asks_one_part, AreFirstParts, AreDecided}
use Rattle.pb_run.specs.Handing.{HandsOutAll, FailsInSaves, FailsInPuts}
use Rattle.pb_run.specs.Contents.{SavesIn, SavesPartIn, SavesPartsIn}
use Rattle.pb_answer.proofs.Callers.{names_of_first}
use Rattle.pb_run.proofs.CallLists.{names_of}
use Rattle.pb_run.proofs.Parted.{all_are_one, none_are_first, all_outputs}
use Rattle.pb_run.proofs.FallingNames.{first_runs_named}
use Rattle.pb_run.proofs.Saving.{save_joined, fail_joined, fail_first, part_first, part_joined, in_joined}
use Rattle.pb_run.proofs.Told as told

-- ---- all parts

-- the calls of all parts: their files are saved, and their pieces are put
pub record TellParts (parts : List AnswerPart) (saves sink : List Call) : Type 0 where
  pub saved : SaveAll saves (outputs_of parts)
  pub printed : put_bytes sink ≡ report_of parts
  pub none_failed : have_failed sink ≡ false

pub parts_tell : (parts : List AnswerPart) (saves sink : List Call) → HandsOutAll parts saves sink → TellParts parts saves sink
parts_tell [] saves sink (no_saves, no_sink) = record { saved = no_saves; printed = ap put_bytes no_sink; none_failed = ap have_failed no_sink }
parts_tell (part ∷ parts) saves sink (saves', sink', one, more) =
    let later = parts_tell parts saves' sink' more in
    record {
      saved = subst (λ (calls : List Call). SaveAll calls (part.outputs ++ outputs_of parts)) (sym one.saves_are)
          (save_joined part.outputs (outputs_of parts) one.own saves' one.saved later.saved);
      printed = ap put_bytes one.sink_is ∙ ap (λ (text : List ℕ). part.report ++ text) later.printed;
      none_failed = ap have_failed one.sink_is ∙ later.none_failed;
    }

-- ---- up to a file that isn't saved

pub record TellUnsaved (parts : List AnswerPart) (saves sink : List Call) : Type 0 where
  pub failed : FailToSaveAll saves (outputs_of parts)
  pub none_failed : have_failed sink ≡ false

pub unsaved_tell : (parts : List AnswerPart) (saves sink : List Call) → FailsInSaves parts saves sink → TellUnsaved parts saves sink
unsaved_tell [] saves sink none = absurd none
unsaved_tell (part ∷ parts) saves sink (inl (fails, no_sink)) = record { failed = fail_first part.outputs (outputs_of parts) saves fails; none_failed = ap have_failed no_sink }
unsaved_tell (part ∷ parts) saves sink (inr (saves', sink', one, more)) =
    let later = unsaved_tell parts saves' sink' more in
    record {
      failed = subst (λ (calls : List Call). FailToSaveAll calls (part.outputs ++ outputs_of parts)) (sym one.saves_are)
          (fail_joined part.outputs (outputs_of parts) one.own saves' one.saved later.failed);
      none_failed = ap have_failed one.sink_is ∙ later.none_failed;
    }

-- the parts that are finished, the next one of which only a part was saved, and the others
pub record LeftParts (parts : List AnswerPart) (puts : List Call) (before after : Files) : Type 0 where
  pub finished : List AnswerPart
  pub next : AnswerPart
  pub rest : List AnswerPart
  pub parts_are : parts ≡ finished ++ next ∷ rest
  pub printed : put_bytes puts ≡ report_of finished
  pub between : Files
  pub saved : SavesIn (outputs_of finished) before between
  pub part : SavesPartIn next.outputs between after

pub parts_left : (parts : List AnswerPart) (saves puts : List Call) → FailsInSaves parts saves puts → (x y : Files) → SavesPartsIn parts puts x y → LeftParts parts puts x y
parts_left [] saves puts none x y left = absurd none
parts_left (part ∷ parts) saves puts (inl (fails, no_puts)) x y left = record {
  finished = [];
  next = part;
  rest = parts;
  parts_are = refl;
  printed = ap put_bytes no_puts;
  between = x;
  saved = λ name. refl;
  part = subst (λ (calls : List Call). SavesPartsIn (part ∷ parts) calls x y) no_puts left;
}
parts_left (part ∷ parts) saves puts (inr (saves', puts', one, more)) x y left =
    let saved = subst (λ (calls : List Call). SavesPartsIn (part ∷ parts) calls x y) one.sink_is left in
    let later = parts_left parts saves' puts' more saved.0 y saved.2 in
    record {
      finished = part ∷ later.finished;
      next = later.next;
      rest = later.rest;
      parts_are = ap (λ (ps : List AnswerPart). part ∷ ps) later.parts_are;
      printed = ap put_bytes one.sink_is ∙ ap (λ (text : List ℕ). part.report ++ text) later.printed;
      between = later.between;
      saved = in_joined part.outputs (outputs_of later.finished) x saved.0 later.between saved.1 later.saved;
      part = later.part;
    }

-- together: of all files that are due some were saved
pub saved_in_part : (parts : List AnswerPart) (puts : List Call) (x y : Files) → SavesPartsIn parts puts x y → SavesPartIn (outputs_of parts) x y
saved_in_part [] puts x y left = left
saved_in_part (part ∷ parts) [] x y left = part_first part.outputs (outputs_of parts) x y left
saved_in_part (part ∷ parts) (put ∷ puts) x y (between, own, others) =
    part_joined part.outputs (outputs_of parts) x between y own (saved_in_part parts puts between y others)

-- ---- up to a piece that isn't put

-- the files are saved of the first parts, the last of which is the one in hand
pub record TellUnput (parts : List AnswerPart) (saves sink : List Call) : Type 0 where
  pub first : List Output
  pub rest : List Output
  pub outputs_are : outputs_of parts ≡ first ++ rest
  pub saved : SaveAll saves first
  pub failed : have_failed sink ≡ true

pub unput_tell : (parts : List AnswerPart) (saves sink : List Call) → FailsInPuts parts saves sink → TellUnput parts saves sink
unput_tell [] saves sink none = absurd none
unput_tell (part ∷ parts) saves sink (inl (saved, fails)) =
    record { first = part.outputs; rest = outputs_of parts; outputs_are = refl; saved = saved; failed = ap have_failed fails.sink_is }
unput_tell (part ∷ parts) saves sink (inr (saves', sink', one, more)) =
    let later = unput_tell parts saves' sink' more in
    record {
      first = part.outputs ++ later.first;
      rest = later.rest;
      outputs_are = ap (λ (outputs : List Output). part.outputs ++ outputs) later.outputs_are ∙ sym (append_assoc part.outputs later.first later.rest);
      saved = subst (λ (calls : List Call). SaveAll calls (part.outputs ++ later.first)) (sym one.saves_are)
          (save_joined part.outputs later.first one.own saves' one.saved later.saved);
      failed = ap have_failed one.sink_is ∙ later.failed;
    }

-- ---- the parts that are decided

pub first_parts_named : (reading : Reading) (texts : List (List ℕ)) (parts : List AnswerPart) → AreFirstParts reading texts parts → AreSomeOf (names_of (outputs_of parts)) (saved_names reading)
first_parts_named reading texts parts first = go reading first
  where
    none : (r : Reading) → parts ≡ [] → AreSomeOf (names_of (outputs_of parts)) (saved_names r)
    none r is = subst (λ (ps : List AnswerPart). AreSomeOf (names_of (outputs_of ps)) (saved_names r)) (sym is) tt

    go : (r : Reading) → AreFirstParts r texts parts → AreSomeOf (names_of (outputs_of parts)) (saved_names r)
    go (Refused fault) is = none (Refused fault) is
    go (Read (Solve solve)) is = none (Read (Solve solve)) is
    go (Read (Falling falling)) (inl is) = none (Read (Falling falling)) is
    go (Read (Falling falling)) (inr (read, is, (choice, asked, claims))) =
        first_runs_named falling.solve falling.steps (outputs_of parts) (names_of_first falling.solve choice read.0 falling.steps parts claims)
    go (Read (Check check)) is = none (Read (Check check)) is
    go (Read (Journal journal)) is = none (Read (Journal journal)) is
    go (Read (Make make)) is = none (Read (Make make)) is

pub decided_named : (reading : Reading) (texts : List (List ℕ)) (looks : ℕ) (parts : List AnswerPart) → AreDecided reading texts looks parts → AreSomeOf (names_of (outputs_of parts)) (saved_names reading)
decided_named reading texts looks parts (inl (said, answers, are, counted)) =
    subst (λ (outputs : List Output). AreSomeOf (names_of outputs) (saved_names reading)) (all_outputs reading texts said parts are) (told.outputs_are_named texts said reading answers)
decided_named reading texts looks parts (inr first) = first_parts_named reading texts parts first

-- ---- one part

module _ (reading : Reading) (one : asks_one_part reading ≡ true) (texts : List (List ℕ)) where
  -- nothing is handed out before the whole answer is decided
  pub none_before : (parts : List AnswerPart) (saves sink : List Call) → AreFirstParts reading texts parts → HandsOutAll parts saves sink → (saves ≡ []) × (sink ≡ [])
  none_before parts saves sink first hands = subst (λ (ps : List AnswerPart). HandsOutAll ps saves sink) (none_are_first reading texts parts one first) hands

  -- where a file isn't saved, nothing is put
  none_put : (said : Said) (saves sink : List Call) → FailsInSaves (part_of said ∷ []) saves sink → sink ≡ []
  none_put said saves sink (inl (fails, no_sink)) = no_sink
  none_put said saves sink (inr (saves', sink', part, more)) = absurd more

  pub unsaved_is_silent : (looks : ℕ) (parts : List AnswerPart) (saves sink : List Call) → AreDecided reading texts looks parts → FailsInSaves parts saves sink → sink ≡ []
  unsaved_is_silent looks parts saves sink (inl (said, answers, are, counted)) fails =
      none_put said saves sink (subst (λ (ps : List AnswerPart). FailsInSaves ps saves sink) (all_are_one reading texts said parts one are) fails)
  unsaved_is_silent looks parts saves sink (inr first) fails =
      absurd (subst (λ (ps : List AnswerPart). FailsInSaves ps saves sink) (none_are_first reading texts parts one first) fails)
