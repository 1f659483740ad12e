-- From how a call of the program goes to what is promised of falling weights.
use Rattle.std.proofs.Common.{◌≡◌, ◌⊎◌, inl, inr, ℕ, ◌<◌, Option, Some, List, [], ◌∷◌, ◌++◌, Result, Ok, Err, take, drop, refl, sym, ap, subst, ◌∙◌, arith, append-nil}
use Rattle.std.proofs.lemmas.List.{take-append-drop}
use Rattle.pb_outside.specs.declared.shelf.Load.TheVariants.{Failed}
use Rattle.pb_outside.specs.Calls.{Call}
use Rattle.pb_task.specs.declared.parts.TaskParts.{TaskParts}
use Rattle.pb_tables.specs.Tables.{TablesValue}
use Rattle.pb_estimate.specs.Choices.{Choice}
use Rattle.pb_command.specs.Meaning.{Reading, Refused, Read, Solve, Falling, Check, Journal, Make, FallingMeaning}
use Rattle.pb_answer.specs.Outputs.{Output}
use Rattle.pb_answer.specs.Loaded.{OfTexts, solve_task}
use Rattle.pb_answer.specs.Searches.{ByAskedChoice}
use Rattle.pb_answer.specs.Answer.{Said, IsRefused, OrRefused}
use Rattle.pb_answer.specs.Parts.{AnswerPart, AreAnswerParts, outputs_of, report_of}
use Rattle.pb_answer.specs.Falling.{IsProvedCheapest, IsFallingNone, IsFallingStop, IsFallingFound}
use Rattle.pb_answer.specs.Stops.{InputMayStop, HasTablesText, StopsSolve}
use Rattle.pb_run.specs.Asked.{files_of}
use Rattle.pb_run.specs.Calls.{loaded_texts, outputs_in, put_bytes, load_calls, FailToSaveAll}
use Rattle.pb_run.specs.Answers.{AnswersReading}
use Rattle.pb_run.specs.Parted.{OfTaskOr, AreAllParts, AreFirstParts, AreDecided}
use Rattle.pb_run.specs.Handing.{HandsOutAnswer, BreaksOffSaving, BreaksOffPutting, HandsOutParts}
use Rattle.pb_run.specs.Course.{RunsOut, FailsToLoad, HasAnswered, Does}
use Rattle.pb_run.specs.Outcome.{Outcome, outcome_by, AnswersOneOf}
use Rattle.pb_run.specs.FallingHeadline.{IsSilent, EndsProved, EndsNone, EndsStopped, EndsShort, EndsUnsaved, EndsUnprinted, IsRefusedInPart, IsStoppedInPart, FallingHolds}
use Rattle.pb_run.specs.FallingLaws.{CallsGiveFalling}
use Rattle.pb_run.proofs.CallLists.{loads_tell, loads_save_none, ended_few}
use Rattle.pb_run.proofs.Parted.{all_outputs, all_report}
use Rattle.pb_run.proofs.FallingCalls.{TellAll, all_tell, SplitUnsaved, split_unsaved, is_begun, SplitUnput, split_unput}
use Rattle.pb_run.proofs.FallingEnds.{claimed_as, Broken, broken, broken_among, ends_short, one_file, at_zero, at_one, at_two, which}

module _ (falling : FallingMeaning) (n looks : ℕ) (shelf sink : List Call) where
  abbrev reading : Reading
  reading = Read (Falling falling)

  abbrev it : Outcome
  it = outcome_by reading n looks shelf sink

  abbrev Holds : Type 0
  Holds = FallingHolds falling it

  -- what holds of the task of these texts holds of that of the texts that were loaded
  of_texts : (texts : List (List ℕ)) → loaded_texts shelf ≡ texts → (P : Choice → TaskParts → Type 0) → OfTexts falling.solve texts P → OfTexts falling.solve it.texts P
  of_texts texts same P (read, is, holds) = (read, ap (solve_task falling.solve) same ∙ is, holds)

  -- what was read of a task, and the tables of a file if there are any
  abbrev Given : Type 0
  Given = TaskParts × Option TablesValue

  -- all of a search is handed out in these parts
  abbrev FoundOf : Said → List AnswerPart → (read : Given) → Type 0
  FoundOf said parts read = ByAskedChoice falling.solve read (λ choice task. IsFallingFound falling.solve choice task falling.steps said parts)

  -- some search of what was read is handed out
  abbrev AnswerOf : (read : Given) → Said → Type 0
  AnswerOf read all = ByAskedChoice falling.solve read (λ choice task. (parts : List AnswerPart) × IsFallingFound falling.solve choice task falling.steps all parts)

  -- a part broke off in a search of the task that the texts spell
  abbrev BrokenOf : (texts : List (List ℕ)) → List AnswerPart → AnswerPart → Type 0
  BrokenOf texts before part = OfTexts falling.solve texts (λ choice task. Broken falling.solve choice task falling.steps before part)

  abbrev StatusesAre : Type 0
  StatusesAre = AnswersOneOf (0 ∷ 1 ∷ 2 ∷ 65 ∷ []) it

  abbrev IsUnprinted : Type 0
  IsUnprinted = IsRefusedInPart falling.solve it.texts it.said
      ⊎ (IsStoppedInPart falling.solve it.texts it.said ⊎ OfTexts falling.solve it.texts (EndsUnprinted falling.solve falling.steps it.said))

  -- grounding of these texts was stopped, with what was said
  abbrev IsHalted : (texts : List (List ℕ)) → Said → Type 0
  IsHalted texts said = StopsSolve falling.solve texts said

  abbrev MayHalt : (texts : List (List ℕ)) → Type 0
  MayHalt texts = InputMayStop falling.solve.input falling.solve.options 0 texts

  abbrev HasTables : (texts : List (List ℕ)) → Type 0
  HasTables texts = HasTablesText falling.solve.input falling.solve.tables texts

  -- ---- statuses at which one promise is made

  at_memory : n ≡ 71 → IsSilent it.said ⊎ OfTexts falling.solve it.texts (EndsShort falling.solve falling.steps it.said) → Holds
  at_memory is short = record {
    found = λ e. absurd (none e);
    proved = λ e. absurd (omega (arith, is, e));
    none = λ e. absurd (omega (arith, is, e));
    stopped = λ e. absurd (omega (arith, is, e));
    short = λ e. short;
    unsaved = λ e. absurd (omega (arith, is, e));
    unprinted = λ e. absurd (omega (arith, is, e));
    statuses = inr (inl is);
  }
    where
      none : (n ≡ 0) ⊎ ((n ≡ 1) ⊎ (n ≡ 2)) → ⊥
      none (inl e) = omega (arith, is, e)
      none (inr (inl e)) = omega (arith, is, e)
      none (inr (inr e)) = omega (arith, is, e)

  at_shelf : n ≡ 73 → IsSilent it.said ⊎ OfTexts falling.solve it.texts (EndsUnsaved falling.solve falling.steps it.said) → Holds
  at_shelf is unsaved = record {
    found = λ e. absurd (none e);
    proved = λ e. absurd (omega (arith, is, e));
    none = λ e. absurd (omega (arith, is, e));
    stopped = λ e. absurd (omega (arith, is, e));
    short = λ e. absurd (omega (arith, is, e));
    unsaved = λ e. unsaved;
    unprinted = λ e. absurd (omega (arith, is, e));
    statuses = inr (inr (inl is));
  }
    where
      none : (n ≡ 0) ⊎ ((n ≡ 1) ⊎ (n ≡ 2)) → ⊥
      none (inl e) = omega (arith, is, e)
      none (inr (inl e)) = omega (arith, is, e)
      none (inr (inr e)) = omega (arith, is, e)

  at_sink : n ≡ 74 → IsUnprinted → Holds
  at_sink is unprinted = record {
    found = λ e. absurd (none e);
    proved = λ e. absurd (omega (arith, is, e));
    none = λ e. absurd (omega (arith, is, e));
    stopped = λ e. absurd (omega (arith, is, e));
    short = λ e. absurd (omega (arith, is, e));
    unsaved = λ e. absurd (omega (arith, is, e));
    unprinted = λ e. unprinted;
    statuses = inr (inr (inr is));
  }
    where
      none : (n ≡ 0) ⊎ ((n ≡ 1) ⊎ (n ≡ 2)) → ⊥
      none (inl e) = omega (arith, is, e)
      none (inr (inl e)) = omega (arith, is, e)
      none (inr (inr e)) = omega (arith, is, e)

  at_refusal : n ≡ 65 → Holds
  at_refusal is = record {
    found = λ e. absurd (none e);
    proved = λ e. absurd (omega (arith, is, e));
    none = λ e. absurd (omega (arith, is, e));
    stopped = λ e. absurd (omega (arith, is, e));
    short = λ e. absurd (omega (arith, is, e));
    unsaved = λ e. absurd (omega (arith, is, e));
    unprinted = λ e. absurd (omega (arith, is, e));
    statuses = inl (inr (inr (inr (inl is))));
  }
    where
      none : (n ≡ 0) ⊎ ((n ≡ 1) ⊎ (n ≡ 2)) → ⊥
      none (inl e) = omega (arith, is, e)
      none (inr (inl e)) = omega (arith, is, e)
      none (inr (inr e)) = omega (arith, is, e)

  at_stop : IsHalted it.texts it.said → Holds
  at_stop stop = record {
    found = λ e. inr stop;
    proved = λ e. absurd (omega (arith, stop.1.status, e));
    none = λ e. absurd (omega (arith, stop.1.status, e));
    stopped = λ e. inr stop;
    short = λ e. absurd (omega (arith, stop.1.status, e));
    unsaved = λ e. absurd (omega (arith, stop.1.status, e));
    unprinted = λ e. absurd (omega (arith, stop.1.status, e));
    statuses = inl (inr (inr (inl stop.1.status)));
  }

  -- all of a search is out
  at_found : (texts : List (List ℕ)) → loaded_texts shelf ≡ texts → (read : Given) → solve_task falling.solve texts ≡ Ok read → (parts : List AnswerPart) → FoundOf it.said parts read → Holds
  at_found texts same read is parts (choice, asked, found) = record {
    found = λ e. inl (of_it (λ by task. (all : List AnswerPart) × IsFallingFound falling.solve by task falling.steps it.said all) (parts, found));
    proved = λ e. of_it (EndsProved falling.solve falling.steps it.said) (at_zero falling.solve choice read.0 falling.steps it.said parts found e);
    none = λ e. of_it (EndsNone falling.solve it.said) (at_one falling.solve choice read.0 falling.steps it.said parts found e);
    stopped = λ e. inl (of_it (EndsStopped falling.solve falling.steps it.said) (at_two falling.solve choice read.0 falling.steps it.said parts found e));
    short = λ e. absurd (other 71 e (omega arith));
    unsaved = λ e. absurd (other 73 e (omega arith));
    unprinted = λ e. absurd (other 74 e (omega arith));
    statuses = inl (among (which falling.solve choice read.0 falling.steps it.said parts found));
  }
    where
      of_it : (P : Choice → TaskParts → Type 0) → P choice read.0 → OfTexts falling.solve it.texts P
      of_it P holds = of_texts texts same P (read, is, (choice, asked, holds))

      other : (k : ℕ) → n ≡ k → 2 < k → ⊥
      other k e past = go (which falling.solve choice read.0 falling.steps it.said parts found)
        where
          go : (n ≡ 0) ⊎ ((n ≡ 1) ⊎ (n ≡ 2)) → ⊥
          go (inl z) = omega (arith, e, z, past)
          go (inr (inl z)) = omega (arith, e, z, past)
          go (inr (inr z)) = omega (arith, e, z, past)

      among : (n ≡ 0) ⊎ ((n ≡ 1) ⊎ (n ≡ 2)) → (n ≡ 0) ⊎ ((n ≡ 1) ⊎ ((n ≡ 2) ⊎ ((n ≡ 65) ⊎ ⊥)))
      among (inl z) = inl z
      among (inr (inl z)) = inr (inl z)
      among (inr (inr z)) = inr (inr (inl z))

  -- ---- memory ran out

  runs_out : RunsOut reading n shelf sink → Holds
  runs_out out = at_memory out.status_is (go out.parts_are)
    where
      tell : TellAll out.parts out.saves sink
      tell = all_tell out.parts out.saves sink out.hands

      texts_are : loaded_texts shelf ≡ out.texts
      texts_are = ap loaded_texts out.shelf_is ∙ loads_tell (files_of reading) out.texts out.unloaded out.saves out.few
          ∙ ap (λ (ts : List (List ℕ)). out.texts ++ ts) tell.none_loaded ∙ append-nil out.texts

      outputs_are : outputs_in shelf ≡ outputs_of out.parts
      outputs_are = ap outputs_in out.shelf_is ∙ loads_save_none (files_of reading) out.texts out.unloaded out.saves ∙ tell.saved

      go : AreFirstParts reading out.texts out.parts → IsSilent it.said ⊎ OfTexts falling.solve it.texts (EndsShort falling.solve falling.steps it.said)
      go (inl none) = inl (tell.printed ∙ ap report_of none, outputs_are ∙ ap outputs_of none)
      go (inr (read, is, (choice, asked, are))) = inr (of_texts out.texts texts_are (EndsShort falling.solve falling.steps it.said)
          (read, is, (choice, asked, ends_short falling.solve choice read.0 falling.steps it.said out.parts tell.printed outputs_are are)))

  -- ---- a file isn't loaded

  fails_to_load : FailsToLoad reading n shelf sink → Holds
  fails_to_load failed = at_shelf failed.status_is (inl (ap put_bytes failed.sink_is, none_saved))
    where
      none_saved : outputs_in shelf ≡ []
      none_saved = ap outputs_in (failed.shelf_is ∙ sym (append-nil (load_calls (files_of reading) failed.texts (Some Failed)))) ∙ loads_save_none (files_of reading) failed.texts (Some Failed) []

  -- ---- an answer is handed out

  module _ (a : HasAnswered reading n looks shelf sink) where
    texts_of : loaded_texts a.saves ≡ [] → loaded_texts shelf ≡ a.texts
    texts_of none = ap loaded_texts a.shelf_is ∙ loads_tell (files_of reading) a.texts a.unloaded a.saves (ended_few (files_of reading) a.texts a.unloaded a.ends)
        ∙ ap (λ (ts : List (List ℕ)). a.texts ++ ts) none ∙ append-nil a.texts

    outputs_of_saves : outputs_in shelf ≡ outputs_in a.saves
    outputs_of_saves = ap outputs_in a.shelf_is ∙ loads_save_none (files_of reading) a.texts a.unloaded a.saves

    whole : HandsOutAnswer reading a.texts a.parts n looks a.saves sink → Holds
    whole h = by h.answers h.parts_are
      where
        tell : TellAll a.parts a.saves sink
        tell = all_tell a.parts a.saves sink h.hands

        halted : IsHalted a.texts h.said → Holds
        halted (tables, stop) = at_stop (
          subst HasTables (sym (texts_of tell.none_loaded)) tables,
          record {
            due = subst MayHalt (sym (texts_of tell.none_loaded)) stop.due;
            looks = h.looks_is ∙ stop.looks;
            status = h.status_is ∙ stop.status;
            report = tell.printed ∙ sym (all_report reading a.texts h.said a.parts h.parts_are) ∙ stop.report;
            outputs = outputs_of_saves ∙ tell.saved ∙ sym (all_outputs reading a.texts h.said a.parts h.parts_are) ∙ stop.outputs;
          },
        )

        -- what was said is what was found
        as_said : (choice : Choice) (task : TaskParts) → IsFallingFound falling.solve choice task falling.steps h.said a.parts → IsFallingFound falling.solve choice task falling.steps it.said a.parts
        as_said choice task found = record {
          report = tell.printed;
          outputs = outputs_of_saves ∙ tell.saved;
          abstraction = found.abstraction;
          graph_of = found.graph_of;
          finest = found.finest;
          found = ends found.found;
        }
          where
            ends : ((h.said.status ≡ 0) × IsProvedCheapest falling.solve task found.abstraction choice falling.steps a.parts)
                ⊎ (((h.said.status ≡ 1) × IsFallingNone falling.solve task found.abstraction choice falling.steps a.parts)
                ⊎ ((h.said.status ≡ 2) × IsFallingStop falling.solve task found.abstraction choice falling.steps a.parts))
                → ((n ≡ 0) × IsProvedCheapest falling.solve task found.abstraction choice falling.steps a.parts)
                ⊎ (((n ≡ 1) × IsFallingNone falling.solve task found.abstraction choice falling.steps a.parts)
                ⊎ ((n ≡ 2) × IsFallingStop falling.solve task found.abstraction choice falling.steps a.parts))
            ends (inl (status, proved)) = inl (h.status_is ∙ status, proved)
            ends (inr (inl (status, none))) = inr (inl (h.status_is ∙ status, none))
            ends (inr (inr (status, stop))) = inr (inr (h.status_is ∙ status, stop))

        go : (t : Result Given (List ℕ)) → solve_task falling.solve a.texts ≡ t → OrRefused t AnswerOf h.said
            → OfTaskOr t (AreAnswerParts h.said a.parts) (FoundOf h.said a.parts) → Holds
        go (Ok read) is answers (choice, asked, found) =
            at_found a.texts (texts_of tell.none_loaded) read is a.parts (choice, asked, as_said choice read.0 found)
        go (Err report) is refused parts_are = at_refusal (h.status_is ∙ refused.0)

        by : AnswersReading reading a.texts h.said → AreAllParts reading a.texts h.said a.parts → Holds
        by (inr stop) parts_are = halted stop
        by (inl answers) (inl (stop, one)) = halted stop
        by (inl answers) (inr parts_are) = go (solve_task falling.solve a.texts) refl answers parts_are

    -- the part that broke off, of all parts or of the first ones; or the texts are refused or grounding was stopped, and there is one part
    by_decided : (Q : Type 0) (before : List AnswerPart) (part : AnswerPart) (after : List AnswerPart) → a.parts ≡ before ++ part ∷ after → AreDecided reading a.texts looks a.parts
        → (BrokenOf a.texts before part → Q)
        → ((said : Said) → solve_task falling.solve a.texts ≡ Err said.report → IsRefused said.report said → before ++ part ∷ after ≡ record { outputs = said.outputs; report = said.report } ∷ [] → Q)
        → ((said : Said) → IsHalted a.texts said → looks ≡ said.looks → before ++ part ∷ after ≡ record { outputs = said.outputs; report = said.report } ∷ [] → Q) → Q
    by_decided Q before part after parts_are decided of_task refused halted = go (subst (λ (ps : List AnswerPart). AreDecided reading a.texts looks ps) parts_are decided)
      where
        by_found : (said : Said) (read : Given) → solve_task falling.solve a.texts ≡ Ok read → FoundOf said (before ++ part ∷ after) read → Q
        by_found said read is (choice, asked, found) = of_task (read, is, (choice, asked, broken falling.solve choice read.0 falling.steps said before part after found))

        by_task : (said : Said) (t : Result Given (List ℕ)) → solve_task falling.solve a.texts ≡ t → OrRefused t AnswerOf said
            → OfTaskOr t (AreAnswerParts said (before ++ part ∷ after)) (FoundOf said (before ++ part ∷ after)) → Q
        by_task said (Ok read) is answers found = by_found said read is found
        by_task said (Err report) is (status, says, saves) one =
            refused said (is ∙ ap (λ (text : List ℕ). Err text) (sym says)) (status, refl, saves) one

        by_stop : (said : Said) → IsHalted a.texts said → looks ≡ said.looks → (t : Result Given (List ℕ)) → solve_task falling.solve a.texts ≡ t
            → OfTaskOr t (AreAnswerParts said (before ++ part ∷ after)) (FoundOf said (before ++ part ∷ after)) → Q
        by_stop said stop counted (Ok read) is found = by_found said read is found
        by_stop said stop counted (Err report) is one = halted said stop counted one

        by : (said : Said) → AnswersReading reading a.texts said → AreAllParts reading a.texts said (before ++ part ∷ after) → looks ≡ said.looks → Q
        by said answers (inl (stop, one)) counted = halted said stop counted one
        by said (inl answers) (inr are) counted = by_task said (solve_task falling.solve a.texts) refl answers are
        by said (inr stop) (inr are) counted = by_stop said stop counted (solve_task falling.solve a.texts) refl are

        never : (before : List AnswerPart) → before ++ part ∷ after ≡ [] → ⊥
        never [] e = cc
        never (b ∷ before) e = cc

        go : AreDecided reading a.texts looks (before ++ part ∷ after) → Q
        go (inl (said, answers, are, counted)) = by said answers are counted
        go (inr (inl none)) = absurd (never before none)
        go (inr (inr (read, is, (choice, asked, are)))) = of_task (read, is, (choice, asked, broken_among falling.solve choice read.0 falling.steps before part after are))

    -- a refusal and a stop have no file and are in one part
    only_part : (before : List AnswerPart) (part : AnswerPart) (after : List AnswerPart) (said : Said) → before ++ part ∷ after ≡ record { outputs = said.outputs; report = said.report } ∷ []
        → (before ≡ []) × (part.outputs ≡ said.outputs) × (part.report ≡ said.report)
    only_part [] part after said e =
        let same : part ≡ record { outputs = said.outputs; report = said.report } = first part after (record { outputs = said.outputs; report = said.report }) e in
        (refl, ap (λ (p : AnswerPart). p.outputs) same, ap (λ (p : AnswerPart). p.report) same)
      where
        first : (part : AnswerPart) (after : List AnswerPart) (one : AnswerPart) → part ∷ after ≡ one ∷ [] → part ≡ one
        first part after one e = cc
    only_part (b ∷ before) part after said e = absurd (none before (record { outputs = said.outputs; report = said.report }) e)
      where
        none : (before : List AnswerPart) (one : AnswerPart) → b ∷ (before ++ part ∷ after) ≡ one ∷ [] → ⊥
        none [] one e = cc
        none (c ∷ before) one e = cc

    unsaved : BreaksOffSaving reading a.texts a.parts n looks a.saves sink → Holds
    unsaved f = at_shelf f.status_is (by_decided (IsSilent it.said ⊎ OfTexts falling.solve it.texts (EndsUnsaved falling.solve falling.steps it.said)) s.before s.part s.after s.parts_are f.decided
        (λ b. inr (of_texts a.texts (texts_of s.none_loaded) (EndsUnsaved falling.solve falling.steps it.said) (b.0, b.1, (b.2.0, b.2.1, ends b.2.0 b.0.0 b.2.2))))
        (λ said is refusal one. absurd (no_file said refusal.2 one)) (λ said stop counted one. absurd (no_file said stop.1.outputs one)))
      where
        s : SplitUnsaved a.parts a.saves sink
        s = split_unsaved a.parts a.saves sink f.hands

        no_file : (said : Said) → said.outputs ≡ [] → s.before ++ s.part ∷ s.after ≡ record { outputs = said.outputs; report = said.report } ∷ [] → ⊥
        no_file said none one = subst (λ (os : List Output). FailToSaveAll s.own os) ((only_part s.before s.part s.after said one).1 ∙ none) s.fails

        ends : (choice : Choice) (task : TaskParts) → Broken falling.solve choice task falling.steps s.before s.part → EndsUnsaved falling.solve falling.steps it.said choice task
        ends choice task b = go (one_file falling.solve choice task falling.steps b.claims s.part b.next)
          where
            go : (s.part.outputs ≡ []) ⊎ ((file : Output) × (s.part.outputs ≡ file ∷ [])) → EndsUnsaved falling.solve falling.steps it.said choice task
            go (inl none) = absurd (subst (λ (os : List Output). FailToSaveAll s.own os) none s.fails)
            go (inr (file, due)) = record {
              claims = b.claims;
              files = outputs_of s.before;
              so_far = claimed_as falling.solve choice task falling.steps b.claims (report_of s.before) it.said.report (outputs_of s.before) (outputs_of s.before) s.printed refl b.so_far;
              part = s.part;
              next = b.next;
              file = file;
              due = due;
              begun = outputs_in s.own;
              is_begun = is_begun s.own file (subst (λ (os : List Output). FailToSaveAll s.own os) due s.fails);
              outputs = outputs_of_saves ∙ s.saved;
            }

    unput : BreaksOffPutting reading a.texts a.parts n looks a.saves sink → Holds
    unput f = at_sink f.status_is (by_decided IsUnprinted s.before s.part s.after s.parts_are f.decided
        (λ b. inr (inr (of_texts a.texts (texts_of s.none_loaded) (EndsUnprinted falling.solve falling.steps it.said) (b.0, b.1, (b.2.0, b.2.1, ends b.2.0 b.0.0 b.2.2)))))
        (λ said is refusal one. inl (refused said is refusal (only_part s.before s.part s.after said one)))
        (λ said stop counted one. inr (inl (stopped said stop counted (only_part s.before s.part s.after said one)))))
      where
        s : SplitUnput a.parts a.saves sink
        s = split_unput a.parts a.saves sink f.hands

        ends : (choice : Choice) (task : TaskParts) → Broken falling.solve choice task falling.steps s.before s.part → EndsUnprinted falling.solve falling.steps it.said choice task
        ends choice task b = record {
          claims = b.claims;
          report = report_of s.before;
          files = outputs_of s.before;
          so_far = b.so_far;
          part = s.part;
          next = b.next;
          outputs = outputs_of_saves ∙ s.saved;
          kept = take s.kept s.part.report;
          rest = drop s.kept s.part.report;
          is_kept = sym (take-append-drop s.kept s.part.report);
          printed = s.printed;
        }

        refused : (said : Said) → solve_task falling.solve a.texts ≡ Err said.report → IsRefused said.report said → (s.before ≡ []) × (s.part.outputs ≡ said.outputs) × (s.part.report ≡ said.report)
            → IsRefusedInPart falling.solve it.texts it.said
        refused said is refusal (none, files, report) = (
          take s.kept s.part.report,
          drop s.kept s.part.report,
          ap (solve_task falling.solve) (texts_of s.none_loaded) ∙ is ∙ ap (λ (text : List ℕ). Err text) (sym report ∙ sym (take-append-drop s.kept s.part.report)),
          s.printed ∙ ap (λ (ps : List AnswerPart). report_of ps ++ take s.kept s.part.report) none,
          outputs_of_saves ∙ s.saved ∙ ap (λ (ps : List AnswerPart). outputs_of ps ++ s.part.outputs) none ∙ files ∙ refusal.2,
        )

        stopped : (said : Said) → IsHalted a.texts said → looks ≡ said.looks → (s.before ≡ []) × (s.part.outputs ≡ said.outputs) × (s.part.report ≡ said.report)
            → IsStoppedInPart falling.solve it.texts it.said
        stopped said (tables, stop) counted (none, files, report) = (
          drop s.kept s.part.report,
          subst HasTables (sym (texts_of s.none_loaded)) tables,
          subst MayHalt (sym (texts_of s.none_loaded)) stop.due,
          counted ∙ stop.looks,
          sym (ap (λ (text : List ℕ). text ++ drop s.kept s.part.report) (s.printed ∙ ap (λ (ps : List AnswerPart). report_of ps ++ take s.kept s.part.report) none)
              ∙ take-append-drop s.kept s.part.report ∙ report ∙ stop.report),
          outputs_of_saves ∙ s.saved ∙ ap (λ (ps : List AnswerPart). outputs_of ps ++ s.part.outputs) none ∙ files ∙ stop.outputs,
        )

    answered : HandsOutParts reading a.texts a.parts n looks a.saves sink → Holds
    answered (inl h) = whole h
    answered (inr (inl f)) = unsaved f
    answered (inr (inr f)) = unput f

  pub falling_holds : Does reading n looks shelf sink → Holds
  falling_holds (inl out) = runs_out out
  falling_holds (inr (inl failed)) = fails_to_load failed
  falling_holds (inr (inr a)) = answered a a.hands

pub calls_give_falling : CallsGiveFalling
calls_give_falling (Refused fault) n looks shelf sink does = tt
calls_give_falling (Read (Solve solve)) n looks shelf sink does = tt
calls_give_falling (Read (Falling falling)) n looks shelf sink does = falling_holds falling n looks shelf sink does
calls_give_falling (Read (Check check)) n looks shelf sink does = tt
calls_give_falling (Read (Journal journal)) n looks shelf sink does = tt
calls_give_falling (Read (Make make)) n looks shelf sink does = tt
