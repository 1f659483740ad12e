-- The certificates that a call with falling weights saves are accepted by another call.
use Rattle.std.proofs.Common.{◌≡◌, ◌⊎◌, inl, inr, ℕ, ◌+◌, Option, None, Some, List, [], ◌∷◌, ◌++◌, length, Result, Ok, refl, sym, ap, subst, ◌∙◌}
use Rattle.std.specs.List.{AllByRecursion}
use Rattle.pb_model.specs.Weight.{Weight}
use Rattle.pb_model.specs.Plan.{Plan}
use Rattle.pb_task.specs.declared.parts.TaskParts.{TaskParts}
use Rattle.pb_tables.specs.Tables.{TablesValue}
use Rattle.pb_estimate.specs.Choices.{Choice}
use Rattle.pb_check.specs.declared.fault.CertificateFault.{CertificateFault}
use Rattle.pb_check.specs.declared.fault.Verdict.{Verdict}
use Rattle.pb_check.specs.Judging.{checked, verdict_of}
use Rattle.pb_command.specs.Meaning.{Reading, Read, Falling, FallingMeaning, CheckMeaning, SolveMeaning}
use Rattle.pb_command.specs.Options.{number_of, solve_given, FallingReadsOptions, CheckReadsOptions}
use Rattle.pb_answer.specs.Outputs.{Output}
use Rattle.pb_answer.specs.Searches.{weight_asked}
use Rattle.pb_answer.specs.Loaded.{input_task, solve_task, check_task, with_text, OfTexts}
use Rattle.pb_answer.specs.Parts.{AnswerPart}
use Rattle.pb_answer.specs.Stops.{StopsSolve, StopsBehind}
use Rattle.pb_answer.proofs.Callers.{task_read}
use Rattle.pb_run.specs.Outcome.{Outcome, IfFalling, IfCheck}
use Rattle.pb_run.specs.Commands.{IsOfVerdict, CheckHolds}
use Rattle.pb_run.specs.FallingHeadline.{PrintedClaim, IsNumberedFile, SavesOne, AreNumberedFiles, SavesEach, IsNext, IsSilent, EndsProved, EndsNone, EndsStopped, EndsShort, EndsUnprinted, IsRefusedInPart, IsStoppedInPart, FallingHolds}
use Rattle.pb_run.specs.Laws.{task_texts, AcceptsUnlessStopped}
use Rattle.pb_run.specs.FallingLaws.{SavesWhole, IsSaved, SavedClaimsAreAccepted, ClaimsAreAcceptedByWords}
use Rattle.pb_run.proofs.Accepted.{input_behind, verdict_or_stop, check_accepts, options_agree}
use Rattle.pb_run.proofs.FallingTold.{all_joined}

-- ---- files that are accepted

abbrev IsAcceptedFile : TaskParts → Output → Type 0
IsAcceptedFile task file = (verdict : Verdict) × (checked task file.text ≡ Ok verdict)

one_accepted : (name : List ℕ) (run : ℕ) (task : TaskParts) (choice : Choice) (weight : Weight) (plan : Option Plan) (file : Output) → IsNumberedFile name run task choice weight plan file → IsAcceptedFile task file
one_accepted name run task choice weight plan file (named, guide, store, certificate) = (verdict_of weight plan, certificate.accepted)

numbered_accepted : (name : List ℕ) (run : ℕ) (task : TaskParts) (choice : Choice) (claims : List PrintedClaim) (files : List Output) → AreNumberedFiles name run task choice claims files → AllByRecursion (IsAcceptedFile task) files
numbered_accepted name run task choice [] [] are = tt
numbered_accepted name run task choice [] (file ∷ files) are = absurd are
numbered_accepted name run task choice (claim ∷ claims) [] are = absurd are
numbered_accepted name run task choice (claim ∷ claims) (file ∷ files) (is, are) =
    (one_accepted name run task choice claim.weight (Some claim.plan) file is, numbered_accepted name (run + 1) task choice claims files are)

none_accepted : (task : TaskParts) (files : List Output) → files ≡ [] → AllByRecursion (IsAcceptedFile task) files
none_accepted task files none = subst (AllByRecursion (IsAcceptedFile task)) (sym none) tt

each_accepted : (given : Option (List ℕ)) (task : TaskParts) (choice : Choice) (claims : List PrintedClaim) (files : List Output) → SavesEach given task choice claims files → AllByRecursion (IsAcceptedFile task) files
each_accepted None task choice claims files none = none_accepted task files none
each_accepted (Some name) task choice claims files are = numbered_accepted name 0 task choice claims files are

saved_accepted : (given : Option (List ℕ)) (run : ℕ) (task : TaskParts) (choice : Choice) (weight : Weight) (plan : Option Plan) (files : List Output) → SavesOne given run task choice weight plan files → AllByRecursion (IsAcceptedFile task) files
saved_accepted None run task choice weight plan files none = none_accepted task files none
saved_accepted (Some name) run task choice weight plan files (file, is, are) =
    subst (AllByRecursion (IsAcceptedFile task)) (sym are) (one_accepted name run task choice weight plan file is, tt)

next_accepted : (solve : SolveMeaning) (choice : Choice) (task : TaskParts) (steps : ℕ) (claims : List PrintedClaim) (part : AnswerPart) → IsNext solve choice task steps claims part → AllByRecursion (IsAcceptedFile task) part.outputs
next_accepted solve choice task steps claims part (inl (claim, are, of, text, saves)) =
    saved_accepted solve.certificate (length claims) task choice claim.weight (Some claim.plan) part.outputs saves
next_accepted solve choice task steps claims part (inr (inl (none, no_plan, text, saves))) =
    saved_accepted solve.certificate 0 task choice (weight_asked solve) None part.outputs saves
next_accepted solve choice task steps claims part (inr (inr (spent, text, none))) = none_accepted task part.outputs none

-- ---- one of the files

one_of : (task : TaskParts) (before : List Output) (file : Output) (after : List Output) → AllByRecursion (IsAcceptedFile task) (before ++ file ∷ after) → IsAcceptedFile task file
one_of task [] file after all = all.0
one_of task (first ∷ before) file after all = one_of task before file after all.1

not_none : (before : List Output) (file : Output) (after : List Output) → [] ≡ before ++ file ∷ after → ⊥
not_none [] file after e = cc
not_none (first ∷ before) file after e = cc

-- ---- another call

module _ (falling : FallingMeaning) (check : CheckMeaning) (ran checked_ran : Outcome) (file : Output) (same_input : check.input ≡ falling.solve.input) (same_options : check.options ≡ falling.solve.options)
    (saved : IsSaved ran.said file) (texts : checked_ran.texts ≡ file.text ∷ task_texts falling.solve.input ran.texts) (decided : CheckHolds check checked_ran) where
  abbrev Accepts : Type 0
  Accepts = AcceptsUnlessStopped check.input check.options checked_ran

  task_is : (read : TaskParts × Option TablesValue) → solve_task falling.solve ran.texts ≡ Ok read → check_task check checked_ran.texts ≡ Ok (read.0, file.text)
  task_is read is =
      let there = task_texts falling.solve.input ran.texts in
      let input : input_task check.input check.options 1 (file.text ∷ there) ≡ Ok read.0 =
      (λ i. input_task (same_input i) (same_options i) 1 (file.text ∷ there)) ∙ input_behind falling.solve.input falling.solve.options file.text ran.texts
      ∙ task_read falling.solve ran.texts read is in
      ap (check_task check) texts ∙ ap (with_text (Some file.text)) input

  accepts : (read : TaskParts × Option TablesValue) → solve_task falling.solve ran.texts ≡ Ok read → AllByRecursion (IsAcceptedFile read.0) ran.said.outputs → Accepts
  accepts read is all =
      let mine = one_of read.0 saved.0 file saved.1 (subst (AllByRecursion (IsAcceptedFile read.0)) saved.2 all) in
      verdict_or_stop check.input check.options checked_ran
      (subst (λ (v : Result Verdict CertificateFault). IsOfVerdict v checked_ran.said.status ⊎ StopsBehind check.input check.options checked_ran.texts checked_ran.said) mine.1
      (decided.exact read.0 file.text (task_is read is)))

  nothing : ran.said.outputs ≡ [] → Accepts
  nothing none = absurd (not_none saved.0 file saved.1 (sym none ∙ saved.2))

  -- what holds of the task that the texts spell gives that all files are accepted
  of_texts : (P : Choice → TaskParts → Type 0) → ((choice : Choice) (task : TaskParts) → P choice task → AllByRecursion (IsAcceptedFile task) ran.said.outputs)
      → OfTexts falling.solve ran.texts P → Accepts
  of_texts P f (read, is, (choice, asked, holds)) = accepts read is (f choice read.0 holds)

  pub by_status : SavesWhole ran.said.status → FallingHolds falling ran → Accepts
  by_status (inl zero) holds = of_texts (EndsProved falling.solve falling.steps ran.said)
      (λ choice task e. each_accepted falling.solve.certificate task choice (e.claims ++ e.last ∷ []) ran.said.outputs e.certified) (holds.proved zero)
  by_status (inr (inl one)) holds = of_texts (EndsNone falling.solve ran.said)
      (λ choice task e. saved_accepted falling.solve.certificate 0 task choice (weight_asked falling.solve) None ran.said.outputs e.certified) (holds.none one)
  by_status (inr (inr (inl two))) holds = go (holds.stopped two)
    where
      go : OfTexts falling.solve ran.texts (EndsStopped falling.solve falling.steps ran.said) ⊎ StopsSolve falling.solve ran.texts ran.said → Accepts
      go (inl stop) = of_texts (EndsStopped falling.solve falling.steps ran.said)
          (λ choice task e. each_accepted falling.solve.certificate task choice e.claims ran.said.outputs e.so_far.certified) stop
      go (inr halted) = nothing halted.1.outputs
  by_status (inr (inr (inr (inl memory)))) holds = go (holds.short memory)
    where
      go : IsSilent ran.said ⊎ OfTexts falling.solve ran.texts (EndsShort falling.solve falling.steps ran.said) → Accepts
      go (inl silent) = nothing silent.1
      go (inr short) = of_texts (EndsShort falling.solve falling.steps ran.said)
          (λ choice task e. each_accepted falling.solve.certificate task choice e.claims ran.said.outputs e.so_far.certified) short
  by_status (inr (inr (inr (inr sink)))) holds = go (holds.unprinted sink)
    where
      all : (choice : Choice) (task : TaskParts) → EndsUnprinted falling.solve falling.steps ran.said choice task → AllByRecursion (IsAcceptedFile task) ran.said.outputs
      all choice task e = subst (AllByRecursion (IsAcceptedFile task)) (sym e.outputs)
          (all_joined (IsAcceptedFile task) e.files e.part.outputs
          (each_accepted falling.solve.certificate task choice e.claims e.files e.so_far.certified)
          (next_accepted falling.solve choice task falling.steps e.claims e.part e.next))

      go : IsRefusedInPart falling.solve ran.texts ran.said
          ⊎ (IsStoppedInPart falling.solve ran.texts ran.said ⊎ OfTexts falling.solve ran.texts (EndsUnprinted falling.solve falling.steps ran.said)) → Accepts
      go (inl refused) = nothing refused.4
      go (inr (inl stopped)) = nothing stopped.5
      go (inr (inr unprinted)) = of_texts (EndsUnprinted falling.solve falling.steps ran.said) all unprinted

pub saved_claims_are_accepted : SavedClaimsAreAccepted
saved_claims_are_accepted falling check ran checked_ran file asked same_input same_options whole saved texts holds decided =
    by_status falling check ran checked_ran file same_input same_options saved texts decided whole holds

-- ---- by the words

pub claims_are_accepted_by_words : FallingReadsOptions → CheckReadsOptions → ClaimsAreAcceptedByWords
claims_are_accepted_by_words falling_reads check_reads input steps file arguments others ran checked_ran saved m asked holds kept whole is texts =
    let falling : FallingMeaning = record { solve = solve_given input arguments; steps = number_of steps } in
    let reads : ran.asked ≡ Read (Falling falling) = asked ∙ falling_reads input steps arguments m.solve m.falling m.weight m.engine m.journal m.estimate in
    let also = kept.asked ∙ check_reads input file others m.each m.distinct m.placed m.new in
    check_accepts checked_ran _ also
    (saved_claims_are_accepted falling _ ran checked_ran saved reads refl (options_agree _ _ _ _ _ _ m.row m.swamp m.reachable) whole is texts
    (subst (λ (r : Reading). IfFalling r (λ f. FallingHolds f ran)) reads holds)
    (subst (λ (r : Reading). IfCheck r (λ c. CheckHolds c checked_ran)) also kept.check))
