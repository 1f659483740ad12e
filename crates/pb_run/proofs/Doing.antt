-- From how a call of the program goes to its promises.
use Rattle.std.proofs.Common.{◌≡◌, ◌≢◌, ◌⊎◌, ◌↔◌, inl, inr, ℕ, ◌<◌, IsTrue, true, false, true≢false, Option, None, Some, List, [], ◌∷◌, ◌++◌, Result, Ok, Err, refl, sym, ap, subst, ◌∙◌, arith, append-nil}
use Rattle.pb_outside.specs.Outside.{Files, IfTold, Appends, KeepsAll}
use Rattle.pb_outside.specs.Calls.{Call}
use Rattle.pb_outside.specs.declared.shelf.Load.TheVariants.{Failed}
use Rattle.pb_outside.proofs.Callers.{told_as}
use Rattle.pb_check.specs.declared.fault.CertificateFault.{CertificateFault}
use Rattle.pb_check.specs.declared.fault.Verdict.{Verdict}
use Rattle.pb_check.specs.Judging.{checked}
use Rattle.pb_grid.specs.Laws.{ReadAsSpelled}
use Rattle.pb_tiles.specs.Laws.{ReadingsAreSpelled}
use Rattle.pb_command.specs.Causes.{IsPrinted}
use Rattle.pb_command.specs.Meaning.{Reading, Refused, Read}
use Rattle.pb_run.specs.Asked.{files_of, saved_names, AreSomeOf}
use Rattle.pb_answer.specs.Outputs.{Output}
use Rattle.pb_answer.specs.Parts.{AnswerPart, outputs_of}
use Rattle.pb_run.specs.Calls.{calls_since, loaded_texts, outputs_in, put_bytes, have_failed, load_calls, FailToSaveAll}
use Rattle.pb_run.specs.Loads.{loads_of, AreLoaded}
use Rattle.pb_answer.specs.Answer.{Said, Saves}
use Rattle.pb_run.specs.Answers.{AnswersReading}
use Rattle.pb_run.specs.Parted.{asks_one_part, AreDecided}
use Rattle.pb_run.specs.Handing.{HandsOutAnswer, BreaksOffSaving, BreaksOffPutting, HandsOutParts}
use Rattle.pb_run.specs.Course.{RunsOut, FailsToLoad, HasAnswered, Does, DoesSince}
use Rattle.pb_run.specs.Outcome.{Outcome, outcome_by, IfRefused, IsAnswer, IsBroken}
use Rattle.pb_run.specs.Headline.{PlanIsPlan, NoneIsCheaper, CertificateHolds, NoneMeansNone, StopHasCause}
use Rattle.pb_run.specs.Commands.{IsOfVerdict, SolvesHold, ChecksHold, JournalsHold, MakesHold, RefusalHolds}
use Rattle.pb_run.specs.Served.{IsAnswered, IsComplete}
use Rattle.pb_run.specs.Contents.{IsNoneOf, SavesIn, SavesPartIn, SavesPartsIn, LeavesPart, KeepsUnnamed, TellsHands, GoesBy, Goes, WritesPut}
use Rattle.pb_run.proofs.CallLists.{names_of, names_joined, TellOf, TellPartOf, since_is, loads_tell, loads_save_none, loads_fail_none, loads_fail, ended_few, ended_no_fault, saves_tell, failures_tell}
use Rattle.pb_run.proofs.Some.{first_are_some, none_of_some}
use Rattle.pb_run.proofs.Parted.{all_outputs, all_report, none_are_first}
use Rattle.pb_run.proofs.Handed.{parts_tell, unsaved_tell, unput_tell, parts_left, saved_in_part, first_parts_named, decided_named, none_before, unsaved_is_silent}
use Rattle.pb_run.proofs.ByCommand.{if_solve, if_check, if_journal, if_make}
use Rattle.pb_run.proofs.Told as told

-- ---- statuses

-- a status at which nothing is answered is another one
pub broken_is_other : (n k : ℕ) → k < 71 → IsBroken n → n ≢ k
broken_is_other n k less (inl e) f = omega (arith, less, e, f)
broken_is_other n k less (inr (inl e)) f = omega (arith, less, e, f)
broken_is_other n k less (inr (inr e)) f = omega (arith, less, e, f)

pub answer_not : (n : ℕ) → IsAnswer n → IsBroken n → ⊥
answer_not n (inl k) broken = broken_is_other n 0 (omega arith) broken k
answer_not n (inr (inl k)) broken = broken_is_other n 1 (omega arith) broken k
answer_not n (inr (inr (inl k))) broken = broken_is_other n 2 (omega arith) broken k
answer_not n (inr (inr (inr (inl k)))) broken = broken_is_other n 3 (omega arith) broken k
answer_not n (inr (inr (inr (inr (inl k))))) broken = broken_is_other n 64 (omega arith) broken k
answer_not n (inr (inr (inr (inr (inr k))))) broken = broken_is_other n 65 (omega arith) broken k

-- where all that was begun is saved, the shelf didn't fail
saved_not : (n : ℕ) → IsAnswer n ⊎ ((n ≡ 71) ⊎ (n ≡ 74)) → n ≡ 73 → ⊥
saved_not n (inl k) e = answer_not n k (inr (inl e))
saved_not n (inr (inl k)) e = omega (arith, k, e)
saved_not n (inr (inr k)) e = omega (arith, k, e)

module _ (reading : Reading) (n looks : ℕ) (shelf sink : List Call) where
  abbrev pub Made : Outcome
  Made = outcome_by reading n looks shelf sink

  -- how far parts were handed out
  abbrev pub Handed : HasAnswered reading n looks shelf sink → Type 0
  Handed a = HandsOutParts reading a.texts a.parts n looks a.saves sink

  abbrev Whole : HasAnswered reading n looks shelf sink → Type 0
  Whole a = HandsOutAnswer reading a.texts a.parts n looks a.saves sink

  -- ---- which way it went

  answered_texts : (a : HasAnswered reading n looks shelf sink) → loaded_texts a.saves ≡ [] → loaded_texts shelf ≡ a.texts
  answered_texts a none = ap loaded_texts a.shelf_is ∙ loads_tell (files_of reading) a.texts a.unloaded a.saves (ended_few (files_of reading) a.texts a.unloaded a.ends)
      ∙ ap (λ (ts : List (List ℕ)). a.texts ++ ts) none ∙ append-nil a.texts

  answered_outputs : (a : HasAnswered reading n looks shelf sink) → outputs_in shelf ≡ outputs_in a.saves
  answered_outputs a = ap outputs_in a.shelf_is ∙ loads_save_none (files_of reading) a.texts a.unloaded a.saves

  answered_failed : (a : HasAnswered reading n looks shelf sink) → have_failed shelf ≡ have_failed a.saves
  answered_failed a = ap have_failed a.shelf_is ∙ loads_fail_none (files_of reading) a.texts a.unloaded a.saves (ended_no_fault (files_of reading) a.texts a.unloaded a.ends)

  -- what the calls of all parts tell
  whole_tells : (a : HasAnswered reading n looks shelf sink) (h : Whole a) → TellOf a.saves (outputs_of a.parts)
  whole_tells a h = saves_tell a.saves (outputs_of a.parts) (parts_tell a.parts a.saves sink h.hands).saved

  unput_tells : (a : HasAnswered reading n looks shelf sink) (f : BreaksOffPutting reading a.texts a.parts n looks a.saves sink)
      → TellOf a.saves (unput_tell a.parts a.saves sink f.hands).first
  unput_tells a f = let tell = unput_tell a.parts a.saves sink f.hands in saves_tell a.saves tell.first tell.saved

  unsaved_tells : (a : HasAnswered reading n looks shelf sink) (f : BreaksOffSaving reading a.texts a.parts n looks a.saves sink)
      → TellPartOf a.saves (outputs_of a.parts)
  unsaved_tells a f = failures_tell a.saves (outputs_of a.parts) (unsaved_tell a.parts a.saves sink f.hands).failed

  -- what those tell that were made before memory ran out
  out_tells : (out : RunsOut reading n shelf sink) → TellOf out.saves (outputs_of out.parts)
  out_tells out = saves_tell out.saves (outputs_of out.parts) (parts_tell out.parts out.saves sink out.hands).saved

  out_outputs : (out : RunsOut reading n shelf sink) → outputs_in shelf ≡ outputs_of out.parts
  out_outputs out = ap outputs_in out.shelf_is ∙ loads_save_none (files_of reading) out.texts out.unloaded out.saves ∙ (out_tells out).saved

  -- all parts of an answer were handed out
  made_is : (a : HasAnswered reading n looks shelf sink) (h : Whole a) → (loaded_texts shelf ≡ a.texts) × (Made.said ≡ h.said)
  made_is a h =
      let tell = whole_tells a h in (
        answered_texts a tell.none_loaded,
        λ i. record {
          status = h.status_is i;
          report = ((parts_tell a.parts a.saves sink h.hands).printed ∙ sym (all_report reading a.texts h.said a.parts h.parts_are)) i;
          outputs = (answered_outputs a ∙ tell.saved ∙ sym (all_outputs reading a.texts h.said a.parts h.parts_are)) i;
          looks = h.looks_is i;
        },
      )

  answer_is : (a : HasAnswered reading n looks shelf sink) → Whole a → IsAnswer n
  answer_is a h = subst IsAnswer (sym h.status_is) (told.known a.texts h.said reading h.answers)

  made_answers : (a : HasAnswered reading n looks shelf sink) → Whole a → AnswersReading reading Made.texts Made.said
  made_answers a h =
      let made = made_is a h in
      subst (λ (s : Said). AnswersReading reading Made.texts s) (sym made.1) (subst (λ (ts : List (List ℕ)). AnswersReading reading ts h.said) (sym made.0) h.answers)

  -- an answer was handed out, or memory ran out, or the shelf or the sink failed
  pub way : Does reading n looks shelf sink → AnswersReading reading Made.texts Made.said ⊎ (IsBroken n)
  way (inl out) = inr (inl out.status_is)
  way (inr (inl failed)) = inr (inr (inl failed.status_is))
  way (inr (inr a)) = go a.hands
    where
      go : Handed a → AnswersReading reading Made.texts Made.said ⊎ (IsBroken n)
      go (inl h) = inl (made_answers a h)
      go (inr (inl f)) = inr (inr (inl f.status_is))
      go (inr (inr f)) = inr (inr (inr f.status_is))

  -- ---- failures

  no_fault : have_failed shelf ≡ false → (n ≡ 73 → ⊥) → n ≡ 73 ↔ IsTrue (have_failed shelf)
  no_fault none other = (λ e. absurd (other e), λ failed. absurd (true≢false (sym failed ∙ none)))

  pub shelf_fails : Does reading n looks shelf sink → n ≡ 73 ↔ IsTrue (have_failed shelf)
  shelf_fails (inl out) = no_fault
      (ap have_failed out.shelf_is ∙ loads_fail_none (files_of reading) out.texts out.unloaded out.saves out.no_fault ∙ (out_tells out).none_failed)
      (λ e. omega (arith, e, out.status_is))
  shelf_fails (inr (inl failed)) = (λ e. ap have_failed failed.shelf_is ∙ loads_fail (files_of reading) failed.texts failed.few, λ h. failed.status_is)
  shelf_fails (inr (inr a)) = go a.hands
    where
      go : Handed a → n ≡ 73 ↔ IsTrue (have_failed shelf)
      go (inl h) = no_fault (answered_failed a ∙ (whole_tells a h).none_failed) (λ e. answer_not n (answer_is a h) (inr (inl e)))
      go (inr (inl f)) = (λ e. answered_failed a ∙ (unsaved_tells a f).failed, λ h. f.status_is)
      go (inr (inr f)) = no_fault (answered_failed a ∙ (unput_tells a f).none_failed) (λ e. omega (arith, e, f.status_is))

  all_put : have_failed sink ≡ false → (n ≡ 74 → ⊥) → n ≡ 74 ↔ IsTrue (have_failed sink)
  all_put none other = (λ e. absurd (other e), λ failed. absurd (true≢false (sym failed ∙ none)))

  pub sink_fails : Does reading n looks shelf sink → n ≡ 74 ↔ IsTrue (have_failed sink)
  sink_fails (inl out) = all_put (parts_tell out.parts out.saves sink out.hands).none_failed (λ e. omega (arith, e, out.status_is))
  sink_fails (inr (inl failed)) = all_put (ap have_failed failed.sink_is) (λ e. omega (arith, e, failed.status_is))
  sink_fails (inr (inr a)) = go a.hands
    where
      go : Handed a → n ≡ 74 ↔ IsTrue (have_failed sink)
      go (inl h) = all_put (parts_tell a.parts a.saves sink h.hands).none_failed (λ e. answer_not n (answer_is a h) (inr (inr e)))
      go (inr (inl f)) = all_put (unsaved_tell a.parts a.saves sink f.hands).none_failed (λ e. omega (arith, e, f.status_is))
      go (inr (inr f)) = (λ e. (unput_tell a.parts a.saves sink f.hands).failed, λ h. f.status_is)

  -- ---- the promises

  -- what holds of an answer, and of each status where nothing is answered
  by_way : (P : Type 0) → Does reading n looks shelf sink → (AnswersReading reading Made.texts Made.said → P) → (n ≡ 71 → P) → (n ≡ 73 → P) → (n ≡ 74 → P) → P
  by_way P does f memory shelf_failed sink_failed = go (way does)
    where
      go : AnswersReading reading Made.texts Made.said ⊎ (IsBroken n) → P
      go (inl answers) = f answers
      go (inr (inl e)) = memory e
      go (inr (inr (inl e))) = shelf_failed e
      go (inr (inr (inr e))) = sink_failed e

  pub statuses : Does reading n looks shelf sink → IsAnswer n ⊎ IsBroken n
  statuses does = by_way (IsAnswer n ⊎ IsBroken n) does (λ answers. inl (told.known Made.texts Made.said reading answers)) (λ e. inr (inl e)) (λ e. inr (inr (inl e))) (λ e. inr (inr (inr e)))

  promise : (P : Outcome → Type 0) → ((texts : List (List ℕ)) (said : Said) (r : Reading) → AnswersReading r texts said → P (told.Done texts said r)) → (IsBroken n → P Made)
      → Does reading n looks shelf sink → P Made
  promise P answered idle does = by_way (P Made) does (answered Made.texts Made.said reading) (λ e. idle (inl e)) (λ e. idle (inr (inl e))) (λ e. idle (inr (inr e)))

  not_zero : IsBroken n → n ≢ 0
  not_zero = broken_is_other n 0 (omega arith)

  not_one : IsBroken n → n ≢ 1
  not_one = broken_is_other n 1 (omega arith)

  not_two : IsBroken n → n ≢ 2
  not_two = broken_is_other n 2 (omega arith)

  not_three : IsBroken n → n ≢ 3
  not_three = broken_is_other n 3 (omega arith)

  pub plan : Does reading n looks shelf sink → PlanIsPlan Made
  plan = promise PlanIsPlan told.plan (λ b. if_solve reading _ (λ s e. absurd (not_zero b e)))

  pub cheapest : Does reading n looks shelf sink → NoneIsCheaper Made
  cheapest = promise NoneIsCheaper told.cheapest (λ b. if_solve reading _ (λ s e. absurd (not_zero b e)))

  pub certified : Does reading n looks shelf sink → CertificateHolds Made
  certified = promise CertificateHolds told.certified
      (λ b. record { plan = if_solve reading _ (λ s e. absurd (not_zero b e)); none = if_solve reading _ (λ s e. absurd (not_one b e)) })

  pub none : Does reading n looks shelf sink → NoneMeansNone Made
  none = promise NoneMeansNone told.none (λ b. if_solve reading _ (λ s e. absurd (not_one b e)))

  pub stopped : Does reading n looks shelf sink → StopHasCause Made
  stopped = promise StopHasCause told.stopped (λ b. if_solve reading _ (λ s e. absurd (not_two b e)))

  pub solved : Does reading n looks shelf sink → SolvesHold Made
  solved = promise SolvesHold told.solved (λ b. if_solve reading _ (λ s. record { one_plan = λ e. absurd (not_zero b e); statuses = inr b }))

  pub checked_text : Does reading n looks shelf sink → ChecksHold Made
  checked_text = promise ChecksHold told.checked_text (λ b. if_check reading _ (λ c. record {
    accepted = λ e. absurd (not_zero b e);
    rejected = λ e. absurd (not_three b e);
    exact = λ parts certificate is. inl (either (checked parts certificate) b);
    rewritten = λ parts certificate is e. absurd (not_zero b e);
    unsaved = λ e. absurd (not_three b e);
    stopped = λ e. absurd (not_two b e);
    statuses = inr b;
  }))
    where
      either : (v : Result Verdict CertificateFault) → IsBroken n → IsOfVerdict v n
      either (Ok verdict) broken = inr broken
      either (Err fault) broken = inr broken

  pub judged_text : Does reading n looks shelf sink → JournalsHold Made
  judged_text = promise JournalsHold told.judged_text (λ b. if_journal reading _ (λ j. record {
    accepted = λ e. absurd (not_zero b e);
    rejected = λ e. absurd (not_three b e);
    exact = λ parts text events is legal. inr (inr b);
    stopped = λ e. absurd (not_two b e);
    statuses = inr b;
  }))

  pub made : Does reading n looks shelf sink → MakesHold Made
  made = promise MakesHold told.made (λ b. if_make reading _ (λ m. record {
    plan = λ e. absurd (not_zero b e);
    none = λ e. absurd (not_one b e);
    stop = λ e. absurd (not_two b e);
    statuses = inr b;
  }))

-- if no call failed, there is an answer to the texts that were loaded, or want of memory
pub done_is_answered : (reading : Reading) (n looks : ℕ) (shelf sink : List Call) → Does reading n looks shelf sink → have_failed shelf ≡ false → have_failed sink ≡ false
    → IsAnswered reading (loaded_texts shelf) (outcome_by reading n looks shelf sink).said
done_is_answered reading n looks shelf sink does shelf_done sink_done =
    by_way reading n looks shelf sink (IsAnswered reading (loaded_texts shelf) (outcome_by reading n looks shelf sink).said) does (told.answered (loaded_texts shelf) (outcome_by reading n looks shelf sink).said reading)
    (told.memory_answers reading (loaded_texts shelf) (outcome_by reading n looks shelf sink).said)
    (λ e. absurd (true≢false (sym ((shelf_fails reading n looks shelf sink does).0 e) ∙ shelf_done)))
    (λ e. absurd (true≢false (sym ((sink_fails reading n looks shelf sink does).0 e) ∙ sink_done)))

-- words that are no command line name no files and ask for nothing to be saved, so the shelf doesn't fail
abbrev IfNoCommand : Reading → (n looks : ℕ) → (shelf sink : List Call) → Type 0
IfNoCommand r n looks shelf sink =
    IfRefused r (λ fault. ((n ≡ 64) × IsPrinted fault (put_bytes sink) × Saves (outcome_by r n looks shelf sink).said []) ⊎ ((n ≡ 71) ⊎ (n ≡ 74)))

no_command : (r : Reading) (n looks : ℕ) (shelf sink : List Call) → Does r n looks shelf sink → IsBroken n → IfNoCommand r n looks shelf sink
no_command (Refused fault) n looks shelf sink went (inl e) = inr (inl e)
no_command (Refused fault) n looks shelf sink went (inr (inr e)) = inr (inr e)
no_command (Refused fault) n looks shelf sink (inl out) (inr (inl e)) = absurd (omega (arith, e, out.status_is))
no_command (Refused fault) n looks shelf sink (inr (inl failed)) (inr (inl e)) = absurd (omega (arith, failed.few))
no_command (Refused fault) n looks shelf sink (inr (inr a)) (inr (inl e)) = go a.hands
  where
    none : (outputs : List Output) → AreSomeOf (names_of outputs) [] → FailToSaveAll a.saves outputs → ⊥
    none [] named fails = fails
    none (first ∷ outputs) named fails = named

    go : Handed (Refused fault) n looks shelf sink a → IfNoCommand (Refused fault) n looks shelf sink
    go (inl h) = absurd (answer_not n (answer_is (Refused fault) n looks shelf sink a h) (inr (inl e)))
    go (inr (inl f)) = absurd (none (outputs_of a.parts) (decided_named (Refused fault) a.texts looks a.parts f.decided) (unsaved_tell a.parts a.saves sink f.hands).failed)
    go (inr (inr f)) = absurd (omega (arith, e, f.status_is))
no_command (Read meaning) n looks shelf sink went broken = tt

pub refused : ReadAsSpelled → ReadingsAreSpelled → (reading : Reading) (n looks : ℕ) (shelf sink : List Call) → Does reading n looks shelf sink → RefusalHolds (outcome_by reading n looks shelf sink)
refused maps boards reading n looks shelf sink does = promise reading n looks shelf sink RefusalHolds (λ texts said. told.refused texts said maps boards) (λ b. record {
  words = no_command reading n looks shelf sink does b;
  input = λ e. absurd (broken_is_other n 65 (omega arith) b e);
  input_exact = λ report refuses. inr (inr b);
  spelled = λ spelled. broken_is_other n 65 (omega arith) b;
  unsaved = λ e. absurd (broken_is_other n 65 (omega arith) b e);
}) does

-- ---- what is saved and printed

none_begun : (reading : Reading) (outputs : List Output) → outputs ≡ [] → AreSomeOf (names_of outputs) (saved_names reading)
none_begun reading outputs none = subst (λ (os : List Output). AreSomeOf (names_of os) (saved_names reading)) (sym none) tt

module _ (reading : Reading) (n looks : ℕ) (shelf sink : List Call) where
  no_outputs_failed : (failed : FailsToLoad reading n shelf sink) → outputs_in shelf ≡ []
  no_outputs_failed failed = ap outputs_in (failed.shelf_is ∙ sym (append-nil (load_calls (files_of reading) failed.texts (Some Failed)))) ∙ loads_save_none (files_of reading) failed.texts (Some Failed) []

  abbrev pub AreNamed : Type 0
  AreNamed = AreSomeOf (names_of (outputs_in shelf)) (saved_names reading)

  named_as : (outputs : List Output) → outputs_in shelf ≡ outputs → AreSomeOf (names_of outputs) (saved_names reading) → AreNamed
  named_as outputs is some = subst (λ (os : List Output). AreSomeOf (names_of os) (saved_names reading)) (sym is) some

  -- the first files of parts that are decided have names that the words give
  first_named : (begun : List Output) (rest : List (List ℕ)) (parts : List AnswerPart) → names_of (outputs_of parts) ≡ names_of begun ++ rest
      → AreSomeOf (names_of (outputs_of parts)) (saved_names reading) → AreSomeOf (names_of begun) (saved_names reading)
  first_named begun rest parts is due = first_are_some (names_of begun) rest (saved_names reading) (subst (λ (ns : List (List ℕ)). AreSomeOf ns (saved_names reading)) is due)

  -- of a part whose piece isn't put the files are saved
  unput_named : (a : HasAnswered reading n looks shelf sink) (f : BreaksOffPutting reading a.texts a.parts n looks a.saves sink)
      → AreSomeOf (names_of (unput_tell a.parts a.saves sink f.hands).first) (saved_names reading)
  unput_named a f =
      let tell = unput_tell a.parts a.saves sink f.hands in
      first_named tell.first (names_of tell.rest) a.parts (ap names_of tell.outputs_are ∙ names_joined tell.first tell.rest) (decided_named reading a.texts looks a.parts f.decided)

  pub outputs_are_named : Does reading n looks shelf sink → AreNamed
  outputs_are_named (inl out) = named_as (outputs_of out.parts) (out_outputs reading n looks shelf sink out) (first_parts_named reading out.texts out.parts out.parts_are)
  outputs_are_named (inr (inl failed)) = none_begun reading (outputs_in shelf) (no_outputs_failed failed)
  outputs_are_named (inr (inr a)) = go a.hands
    where
      go : Handed reading n looks shelf sink a → AreNamed
      go (inl h) = named_as (outputs_of a.parts) (answered_outputs reading n looks shelf sink a ∙ (whole_tells reading n looks shelf sink a h).saved)
          (decided_named reading a.texts looks a.parts (inl (h.said, h.answers, h.parts_are, h.looks_is)))
      go (inr (inl f)) =
          let tell = unsaved_tells reading n looks shelf sink a f in
          named_as (outputs_in a.saves) (answered_outputs reading n looks shelf sink a)
          (first_named (outputs_in a.saves) tell.rest a.parts tell.named (decided_named reading a.texts looks a.parts f.decided))
      go (inr (inr f)) = named_as (unput_tell a.parts a.saves sink f.hands).first (answered_outputs reading n looks shelf sink a ∙ (unput_tells reading n looks shelf sink a f).saved) (unput_named a f)

  -- ---- if one part is asked for

  pub nothing_saved : asks_one_part reading ≡ true → Does reading n looks shelf sink → n ≡ 71 → outputs_in shelf ≡ []
  nothing_saved one (inl out) e = out_outputs reading n looks shelf sink out ∙ ap outputs_of (none_are_first reading out.texts out.parts one out.parts_are)
  nothing_saved one (inr (inl failed)) e = no_outputs_failed failed
  nothing_saved one (inr (inr a)) e = go a.hands
    where
      go : Handed reading n looks shelf sink a → outputs_in shelf ≡ []
      go (inl h) = absurd (answer_not n (answer_is reading n looks shelf sink a h) (inl e))
      go (inr (inl f)) = absurd (omega (arith, e, f.status_is))
      go (inr (inr f)) = absurd (omega (arith, e, f.status_is))

  pub silent : asks_one_part reading ≡ true → Does reading n looks shelf sink → (n ≡ 71) ⊎ (n ≡ 73) → put_bytes sink ≡ []
  silent one (inl out) e = ap put_bytes (none_before reading one out.texts out.parts out.saves sink out.parts_are out.hands).1
  silent one (inr (inl failed)) e = ap put_bytes failed.sink_is
  silent one (inr (inr a)) e = go a.hands
    where
      broken : (n ≡ 71) ⊎ (n ≡ 73) → IsBroken n
      broken (inl h) = inl h
      broken (inr h) = inr (inl h)

      not_printed : (n ≡ 71) ⊎ (n ≡ 73) → n ≡ 74 → ⊥
      not_printed (inl h) f = omega (arith, h, f)
      not_printed (inr h) f = omega (arith, h, f)

      go : Handed reading n looks shelf sink a → put_bytes sink ≡ []
      go (inl h) = absurd (answer_not n (answer_is reading n looks shelf sink a h) (broken e))
      go (inr (inl f)) = ap put_bytes (unsaved_is_silent reading one a.texts looks a.parts a.saves sink f.decided f.hands)
      go (inr (inr f)) = absurd (not_printed e f.status_is)

  -- ---- where the shelf tells its files

  module _ (files files' : Option Files) where
    pub does : GoesBy reading n looks files files' shelf sink → Does reading n looks shelf sink
    does (inl (out, saved)) = inl out
    does (inr (inl (failed, kept))) = inr (inl failed)
    does (inr (inr (a, loaded, hands))) = inr (inr a)

    pub texts_loaded : GoesBy reading n looks files files' shelf sink → IsAnswer n → AreLoaded files (files_of reading) (loaded_texts shelf)
    texts_loaded (inl (out, saved)) is = absurd (answer_not n is (inl out.status_is))
    texts_loaded (inr (inl (failed, kept))) is = absurd (answer_not n is (inr (inl failed.status_is)))
    texts_loaded (inr (inr (a, loaded, hands))) is = go a.hands
      where
        go : Handed reading n looks shelf sink a → AreLoaded files (files_of reading) (loaded_texts shelf)
        go (inl h) = subst (AreLoaded files (files_of reading)) (sym (made_is reading n looks shelf sink a h).0) loaded
        go (inr (inl f)) = absurd (answer_not n is (inr (inl f.status_is)))
        go (inr (inr f)) = absurd (answer_not n is (inr (inr f.status_is)))

    saved_as : (outputs : List Output) → outputs_in shelf ≡ outputs → IfTold files files' (SavesIn outputs) → IfTold files files' (SavesIn (outputs_in shelf))
    saved_as outputs is told_it = subst (λ (os : List Output). IfTold files files' (SavesIn os)) (sym is) told_it

    pub files_saved : GoesBy reading n looks files files' shelf sink → IsAnswer n ⊎ ((n ≡ 71) ⊎ (n ≡ 74)) → IfTold files files' (SavesIn (outputs_in shelf))
    files_saved (inl (out, saved)) is = saved_as (outputs_of out.parts) (out_outputs reading n looks shelf sink out) saved
    files_saved (inr (inl (failed, kept))) is = absurd (saved_not n is failed.status_is)
    files_saved (inr (inr (a, loaded, hands))) is = go a.hands hands
      where
        go : (h : Handed reading n looks shelf sink a) → TellsHands reading a.texts a.parts n looks a.saves sink files files' h → IfTold files files' (SavesIn (outputs_in shelf))
        go (inl h) told_it = saved_as (outputs_of a.parts) (answered_outputs reading n looks shelf sink a ∙ (whole_tells reading n looks shelf sink a h).saved) told_it
        go (inr (inl f)) told_it = absurd (saved_not n is f.status_is)
        go (inr (inr f)) told_it = saved_as (outputs_in a.saves) (answered_outputs reading n looks shelf sink a) told_it

    pub files_kept : asks_one_part reading ≡ true → GoesBy reading n looks files files' shelf sink → n ≡ 71 → IfTold files files' KeepsAll
    files_kept one (inl (out, saved)) e =
        told_as files files' (SavesIn []) KeepsAll
        (subst (λ (parts : List AnswerPart). IfTold files files' (SavesIn (outputs_of parts))) (none_are_first reading out.texts out.parts one out.parts_are) saved)
        (λ x y h. h)
    files_kept one (inr (inl (failed, kept))) e = kept
    files_kept one (inr (inr (a, loaded, hands))) e = go a.hands
      where
        go : Handed reading n looks shelf sink a → IfTold files files' KeepsAll
        go (inl h) = absurd (answer_not n (answer_is reading n looks shelf sink a h) (inl e))
        go (inr (inl f)) = absurd (omega (arith, e, f.status_is))
        go (inr (inr f)) = absurd (omega (arith, e, f.status_is))

    abbrev Left : Type 0
    Left = IfTold files files' (λ before after. (KeepsAll before after × (put_bytes sink ≡ [])) ⊎ LeavesPart reading (loaded_texts shelf) looks (put_bytes sink) before after)

    pub files_left : GoesBy reading n looks files files' shelf sink → n ≡ 73 → Left
    files_left (inl (out, saved)) e = absurd (omega (arith, e, out.status_is))
    files_left (inr (inl (failed, kept))) e = told_as files files' KeepsAll _ kept (λ x y h. inl (h, ap put_bytes failed.sink_is))
    files_left (inr (inr (a, loaded, hands))) e = go a.hands hands
      where
        go : (h : Handed reading n looks shelf sink a) → TellsHands reading a.texts a.parts n looks a.saves sink files files' h
            → Left
        go (inl h) told_it = absurd (answer_not n (answer_is reading n looks shelf sink a h) (inr (inl e)))
        go (inr (inl f)) told_it =
            let texts_are = answered_texts reading n looks shelf sink a (unsaved_tells reading n looks shelf sink a f).none_loaded in
            let decided = subst (λ (ts : List (List ℕ)). AreDecided reading ts looks a.parts) (sym texts_are) f.decided in
            told_as files files' (SavesPartsIn a.parts sink) _ told_it (λ x y saves.
            let left = parts_left a.parts a.saves sink f.hands x y saves in
            inr (record {
              finished = left.finished;
              next = left.next;
              rest = left.rest;
              decided = subst (λ (parts : List AnswerPart). AreDecided reading (loaded_texts shelf) looks parts) left.parts_are decided;
              printed_is = left.printed;
              between = left.between;
              saved = left.saved;
              part = left.part;
            }))
        go (inr (inr f)) told_it = absurd (omega (arith, e, f.status_is))

    -- ---- files under other names

    stay_in : (outputs : List Output) (x y : Files) (other : List ℕ) → IsNoneOf (names_of outputs) other → SavesIn outputs x y → y other ≡ x other
    stay_in [] x y other h saves = saves other
    stay_in (first ∷ outputs) x y other h (between, here, others, more) = stay_in outputs between y other h.1 more ∙ others other h.0

    stay_in_part : (outputs : List Output) (x y : Files) (other : List ℕ) → IsNoneOf (names_of outputs) other → SavesPartIn outputs x y → y other ≡ x other
    stay_in_part [] x y other h saves = absurd saves
    stay_in_part (first ∷ outputs) x y other h (inl (part, others)) = others other h.0
    stay_in_part (first ∷ outputs) x y other h (inr (between, here, others, more)) = stay_in_part outputs between y other h.1 more ∙ others other h.0

    -- files that are saved have names that the words give, so all others stay
    unnamed_stay : (outputs : List Output) → AreSomeOf (names_of outputs) (saved_names reading) → IfTold files files' (SavesIn outputs) → IfTold files files' (KeepsUnnamed reading)
    unnamed_stay outputs named told_it = told_as files files' (SavesIn outputs) (KeepsUnnamed reading) told_it
        (λ x y saves other none. stay_in outputs x y other (none_of_some (names_of outputs) (saved_names reading) other named none) saves)

    pub others_stay : GoesBy reading n looks files files' shelf sink → IfTold files files' (KeepsUnnamed reading)
    others_stay (inl (out, saved)) = unnamed_stay (outputs_of out.parts) (first_parts_named reading out.texts out.parts out.parts_are) saved
    others_stay (inr (inl (failed, kept))) = told_as files files' KeepsAll (KeepsUnnamed reading) kept (λ x y h other none. h other)
    others_stay (inr (inr (a, loaded, hands))) = go a.hands hands
      where
        go : (h : Handed reading n looks shelf sink a) → TellsHands reading a.texts a.parts n looks a.saves sink files files' h → IfTold files files' (KeepsUnnamed reading)
        go (inl h) told_it = unnamed_stay (outputs_of a.parts) (decided_named reading a.texts looks a.parts (inl (h.said, h.answers, h.parts_are, h.looks_is))) told_it
        go (inr (inl f)) told_it =
            let named = decided_named reading a.texts looks a.parts f.decided in
            told_as files files' (SavesPartsIn a.parts sink) (KeepsUnnamed reading) told_it
            (λ x y saves other none. stay_in_part (outputs_of a.parts) x y other (none_of_some (names_of (outputs_of a.parts)) (saved_names reading) other named none)
            (saved_in_part a.parts sink x y saves))
        go (inr (inr f)) told_it = unnamed_stay (outputs_in a.saves)
            (subst (λ (os : List Output). AreSomeOf (names_of os) (saved_names reading)) (sym (unput_tells reading n looks shelf sink a f).saved) (unput_named a f)) told_it

    same_texts : (loads : Option (List (List ℕ))) (a b : List (List ℕ)) → loads ≡ Some a → loads ≡ Some b → a ≡ b
    same_texts loads a b x y = cc

    -- where nothing fails there is an answer to the texts of the files
    pub complete : GoesBy reading n looks files files' shelf sink → IsAnswer n ⊎ (n ≡ 71) → IsComplete reading files (outcome_by reading n looks shelf sink).said
    complete by is = go files refl
      where
        at : IsAnswer n ⊎ (n ≡ 71) → (shelf_files : Files) → files ≡ Some shelf_files → (texts : List (List ℕ)) → loads_of shelf_files (files_of reading) ≡ Some texts → IsAnswered reading texts (outcome_by reading n looks shelf sink).said
        at (inr e) shelf_files there texts loads = told.memory_answers reading texts (outcome_by reading n looks shelf sink).said e
        at (inl k) shelf_files there texts loads =
            let mine : loads_of shelf_files (files_of reading) ≡ Some (loaded_texts shelf) = subst (λ (f : Option Files). AreLoaded f (files_of reading) (loaded_texts shelf)) there (texts_loaded by k) in
            let same = same_texts (loads_of shelf_files (files_of reading)) (loaded_texts shelf) texts mine loads in
            subst (λ (ts : List (List ℕ)). IsAnswered reading ts (outcome_by reading n looks shelf sink).said) same (by_answer (way reading n looks shelf sink (does by)))
          where
            by_answer : AnswersReading reading (loaded_texts shelf) (outcome_by reading n looks shelf sink).said ⊎ (IsBroken n) → IsAnswered reading (loaded_texts shelf) (outcome_by reading n looks shelf sink).said
            by_answer (inl answers) = told.answered (loaded_texts shelf) (outcome_by reading n looks shelf sink).said reading answers
            by_answer (inr broken) = absurd (answer_not n k broken)

        go : (f : Option Files) → files ≡ f → IsComplete reading f (outcome_by reading n looks shelf sink).said
        go None there = tt
        go (Some shelf_files) there = at is shelf_files there

-- ---- by the calls that were made since

module _ (reading : Reading) (n looks : ℕ) (files files' : Option Files) (shelf shelf' sink sink' : List Call) (goes : Goes reading n looks files files' shelf shelf' sink sink') where
  own_calls : calls_since shelf shelf' ≡ goes.0
  own_calls = ap (calls_since shelf) goes.2 ∙ since_is shelf goes.0

  own_puts : calls_since sink sink' ≡ goes.1
  own_puts = ap (calls_since sink) goes.3 ∙ since_is sink goes.1

  pub since : (P : ℕ → List Call → List Call → Type 0) (k : ℕ) → k ≡ n → (GoesBy reading n looks files files' goes.0 goes.1 → P n goes.0 goes.1) → P k (calls_since shelf shelf') (calls_since sink sink')
  since P k is f = subst (λ m. P m (calls_since shelf shelf') (calls_since sink sink')) (sym is)
      (subst (λ (calls : List Call). P n calls (calls_since sink sink')) (sym own_calls) (subst (λ (calls : List Call). P n goes.0 calls) (sym own_puts) (f goes.4)))

  pub promised : (P : Outcome → Type 0) → ((m l : ℕ) (own out : List Call) → Does reading m l own out → P (outcome_by reading m l own out)) → (k : ℕ) → k ≡ n
      → P (outcome_by reading k looks (calls_since shelf shelf') (calls_since sink sink'))
  promised P f k is = since (λ m own out. P (outcome_by reading m looks own out)) k is (λ by. f n looks goes.0 goes.1 (does reading n looks goes.0 goes.1 files files' by))

  pub does_since : (k : ℕ) → k ≡ n → DoesSince reading k looks shelf shelf' sink sink'
  does_since k is = record {
    shelf_grows = goes.2 ∙ ap (λ (calls : List Call). shelf ++ calls) (sym own_calls);
    sink_grows = goes.3 ∙ ap (λ (calls : List Call). sink ++ calls) (sym own_puts);
    does = since (λ m own out. Does reading m looks own out) k is (does reading n looks goes.0 goes.1 files files');
  }

pub puts_since : (written written' : Option (List ℕ)) (sink sink' : List Call) → WritesPut written written' sink sink'
    → IfTold written written' (λ before after. Appends before after (put_bytes (calls_since sink sink')))
puts_since written written' sink sink' (out, is, told_it) =
    subst (λ (calls : List Call). IfTold written written' (λ before after. Appends before after (put_bytes calls))) (sym (ap (calls_since sink) is ∙ since_is sink out)) told_it
