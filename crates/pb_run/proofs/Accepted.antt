-- What one call of the program saves, another one accepts.
use Rattle.std.proofs.Common.{◌≡◌, ◌⊎◌, inl, inr, ℕ, false, ◌<◌, ◌≤◌, Option, None, Some, List, [], ◌∷◌, ◌++◌, length, Ok, Bool, refl, sym, ap, subst, ◌∙◌, arith}
use Rattle.pb_model.specs.Plan.{Plan}
use Rattle.pb_model.specs.Texts.{stopped_report}
use Rattle.pb_task.specs.declared.parts.TaskParts.{TaskParts}
use Rattle.pb_tables.specs.Tables.{TablesValue}
use Rattle.pb_estimate.specs.Choices.{Choice}
use Rattle.pb_check.specs.Judging.{checked}
use Rattle.pb_grid.specs.Laws.{SwampChangesMarksAlone}
use Rattle.pb_abstract.specs.Laws.{BlocksAskForNoCosts}
use Rattle.pb_journal.specs.Texts.{journal_text}
use Rattle.pb_journal.specs.Shown.{WrittenJournalsAreAccepted}
use Rattle.pb_journal.specs.Lengths.{most_bytes, JournalTextsAreShort}
use Rattle.pb_command.specs.declared.command.Engine.{Engine}
use Rattle.pb_command.specs.declared.command.Engine.TheVariants.{Leases, Owners}
use Rattle.pb_command.specs.declared.command.InputOptions.{InputOptions}
use Rattle.pb_command.specs.declared.table.ValuedOption.TheVariants.{Journal as JournalOption}
use Rattle.pb_command.specs.Values.{InputNames, Grid, Tiles, Strips, grounding_by}
use Rattle.pb_command.specs.Meaning.{Reading, Read, Solve, Check, Journal, SolveMeaning, CheckMeaning, JournalMeaning, reading_of_words}
use Rattle.pb_command.specs.Options.{Argument, value_given, engine_given, HaveKeptJournal, SolveReadsOptions, CheckReadsOptions, JournalReadsOptions}
use Rattle.pb_answer.specs.Outputs.{Output, output}
use Rattle.pb_answer.specs.Loaded.{input_task, solve_task, check_task, journal_task, with_text, OfTexts}
use Rattle.pb_answer.specs.Searches.{settings_of, weight_asked}
use Rattle.pb_answer.specs.Claims.{IsCertificate, journal_outputs, journal_outputs_if_any, Certifies, Stops}
use Rattle.pb_answer.specs.Journals.{IsJournalOf}
use Rattle.pb_answer.specs.Answer.{Says, Saves}
use Rattle.pb_answer.specs.Stops.{StopsSolve, StopsBehind, StopsTexts}
use Rattle.pb_answer.proofs.Callers.{task_read, SavesJournal, of_quiet, of_stopped, without_swamp}
use Rattle.pb_run.specs.Outcome.{Outcome, IfSolve, IfCheck, IfJournal, IsAnswer, IsBroken}
use Rattle.pb_run.specs.Headline.{CertificateHolds, StopHasCause}
use Rattle.pb_run.specs.Commands.{IsOfVerdict, SolveHolds, CheckHolds, JournalHolds}
use Rattle.pb_run.specs.Laws.{task_texts, IsSavedFirst, IsSavedLast, SavedCertificatesAreAccepted, SavedJournalsAreAccepted, SavedJournalsAreShort, Keeps, AcceptsUnlessStopped, AcceptsIt, CertificatesAreAcceptedByWords, JournalsAreAcceptedByWords}

-- The texts of a task, behind another text, spell the task that they spell alone. The text of a file
-- of tables may follow there.
pub input_behind : (input : InputNames) (options : InputOptions) (text : List ℕ)
    (texts : List (List ℕ))
    → input_task input options 1 (text ∷ task_texts input texts) ≡ input_task input options 0 texts
input_behind (Grid names) options text [] = refl
input_behind (Grid names) options text (first ∷ []) = refl
input_behind (Grid names) options text (first ∷ (second ∷ rest)) = refl
input_behind (Tiles board) options text [] = refl
input_behind (Tiles board) options text (first ∷ rest) = refl
input_behind (Strips names) options text [] = refl
input_behind (Strips names) options text (first ∷ []) = refl
input_behind (Strips names) options text (first ∷ (second ∷ rest)) = refl

-- ---- what is promised of a search

-- the certificate of none, or the cause of a stop, if the arguments are this command
pub none_of : (solve : SolveMeaning) (it : Outcome) → it.asked ≡ Read (Solve solve) → CertificateHolds it → it.said.status ≡ 1
    → OfTexts solve it.texts (λ choice task. Certifies (Saves it.said) solve choice task None)
none_of solve it is holds =
    subst (λ (r : Reading). IfSolve r (λ s. it.said.status ≡ 1 → OfTexts s it.texts (λ choice task. Certifies (Saves it.said) s choice task None))) is holds.none

none_last : (first : List Output) (last : Output) → [] ≡ first ++ last ∷ [] → ⊥
none_last [] last e = cc
none_last (one ∷ first) last e = cc

-- a journal is saved, so grounding wasn't stopped
stop_of : (solve : SolveMeaning) (it : Outcome) (name text : List ℕ) → it.asked ≡ Read (Solve solve) → IsSavedLast it.said name text → StopHasCause it → it.said.status ≡ 2
    → OfTexts solve it.texts (Stops (Saves it.said) solve)
stop_of solve it name text is saved holds two = go
    (subst (λ (r : Reading). IfSolve r (λ s. it.said.status ≡ 2 → (Says it.said (stopped_report s.settings.budget) × OfTexts s it.texts (Stops (Saves it.said) s))
    ⊎ StopsSolve s it.texts it.said)) is holds two)
  where
    go : (Says it.said (stopped_report solve.settings.budget) × OfTexts solve it.texts (Stops (Saves it.said) solve)) ⊎ StopsSolve solve it.texts it.said
        → OfTexts solve it.texts (Stops (Saves it.said) solve)
    go (inl stop) = stop.1
    go (inr halted) = absurd (none_last saved.0 (output name text) (sym halted.1.outputs ∙ saved.1))

-- ---- a verdict, or a stop

pub verdict_or_stop : (input : InputNames) (options : InputOptions) (it : Outcome)
    → ((it.said.status ≡ 0) ⊎ IsBroken it.said.status) ⊎ StopsBehind input options it.texts it.said → AcceptsUnlessStopped input options it
verdict_or_stop input options it (inl (inl zero)) = inl zero
verdict_or_stop input options it (inl (inr broken)) = inr (inr broken)
verdict_or_stop input options it (inr stop) = inr (inl stop)

-- ---- certificates

abbrev pub first_text : List Output → List ℕ
first_text [] = []
first_text (first ∷ rest) = first.text

module _ (solve : SolveMeaning) (check : CheckMeaning) (ran checked_ran : Outcome) (name text : List ℕ) (same_input : check.input ≡ solve.input) (same_options : check.options ≡ solve.options)
    (named : solve.certificate ≡ Some name) (saved : IsSavedFirst ran.said name text) (texts : checked_ran.texts ≡ text ∷ task_texts solve.input ran.texts) (decided : CheckHolds check checked_ran) where
  task_is : (read : TaskParts × Option TablesValue) → solve_task solve ran.texts ≡ Ok read → check_task check checked_ran.texts ≡ Ok (read.0, text)
  task_is read is =
      let there = task_texts solve.input ran.texts in
      let input : input_task check.input check.options 1 (text ∷ there) ≡ Ok read.0 =
      (λ i. input_task (same_input i) (same_options i) 1 (text ∷ there)) ∙ input_behind solve.input solve.options text ran.texts ∙ task_read solve ran.texts read is in
      ap (check_task check) texts ∙ ap (with_text (Some text)) input

  -- the text of the certificate is accepted
  accepted : (read : TaskParts × Option TablesValue) (choice : Choice) (plan : Option Plan) → solve_task solve ran.texts ≡ Ok read
      → Certifies (Saves ran.said) solve choice read.0 plan
      → AcceptsUnlessStopped check.input check.options checked_ran
  accepted read choice plan is (left, searched, found, outputs, certificate, saves) =
      let mine = subst (λ (n : Option (List ℕ)). IsCertificate n read.0 choice (weight_asked solve) left.guide
      left.store plan outputs) named certificate in
      let journals = journal_outputs_if_any solve.journal (settings_of solve) left.journal in
      let all : output name text ∷ saved.0 ≡ (output name mine.0 ∷ []) ++ journals =
      sym saved.1 ∙ saves ∙ ap (λ (os : List Output). os ++ journals) mine.2 in
      let same : text ≡ mine.0 = ap first_text all in
      verdict_or_stop check.input check.options checked_ran
      (subst (λ v. IsOfVerdict v checked_ran.said.status ⊎ StopsBehind check.input check.options checked_ran.texts checked_ran.said)
      (ap (checked read.0) same ∙ mine.1.accepted)
      (decided.exact read.0 text (task_is read is)))

  pub either : (ran.said.status ≡ 0) ⊎ (ran.said.status ≡ 1) → ran.asked ≡ Read (Solve solve) → SolveHolds solve ran → CertificateHolds ran
      → AcceptsUnlessStopped check.input check.options checked_ran
  either (inl zero) is all certified = let found = all.one_plan zero in accepted found.0 found.2.0 (Some found.2.2.0) found.1 found.2.2.6
  either (inr one) is all certified = let found = none_of solve ran is certified one in accepted found.0 found.2.0 None found.1 found.2.2

pub saved_certificates_are_accepted : SavedCertificatesAreAccepted
saved_certificates_are_accepted solve check ran checked_ran name text is same_input same_options named answered saved texts all certified decided =
    either solve check ran checked_ran name text same_input same_options named saved texts decided answered is all certified

-- ---- journals

last_text : List Output → List ℕ
last_text [] = []
last_text (last ∷ []) = last.text
last_text (first ∷ (second ∷ rest)) = last_text (second ∷ rest)

last_is : (first : List Output) (last : Output) → last_text (first ++ last ∷ []) ≡ last.text
unfolding last_text
last_is [] last = refl
last_is (a ∷ []) last = refl
last_is (a ∷ (b ∷ rest)) last = last_is (b ∷ rest) last

-- two lists with the same files have the same last one
same_last : (first others : List Output) (name text other : List ℕ)
    → first ++ output name text ∷ [] ≡ others ++ output name other ∷ [] → text ≡ other
same_last first others name text other e =
    sym (last_is first (output name text)) ∙ ap last_text e ∙ last_is others (output name other)

-- the journal that a call saved of its search
saved_journal : WrittenJournalsAreAccepted → JournalTextsAreShort → (solve : SolveMeaning)
    → solve.engine ≡ Leases → (ran : Outcome) → (ran.said.status ≡ 0) ⊎ ((ran.said.status ≡ 1) ⊎ (ran.said.status ≡ 2))
    → ran.asked ≡ Read (Solve solve) → SolveHolds solve ran → CertificateHolds ran
    → StopHasCause ran → (name text : List ℕ) → IsSavedLast ran.said name text
    → OfTexts solve ran.texts (λ choice parts. SavesJournal (Saves ran.said) solve parts)
saved_journal law lengths solve engine ran (inl zero) is all certified stop name text saved =
    let found = all.one_plan zero in
    (found.0, found.1, (found.2.0, found.2.1, of_quiet law lengths solve engine found.2.0 found.0.0 (Saves ran.said) (Some found.2.2.0) found.2.2.6))
saved_journal law lengths solve engine ran (inr (inl one)) is all certified stop name text saved =
    let found = none_of solve ran is certified one in
    (found.0, found.1, (found.2.0, found.2.1, of_quiet law lengths solve engine found.2.0 found.0.0 (Saves ran.said) None found.2.2))
saved_journal law lengths solve engine ran (inr (inr two)) is all certified stop name text saved =
    let found = stop_of solve ran name text is saved stop two in
    (found.0, found.1, (found.2.0, found.2.1, of_stopped law lengths solve engine found.2.0 found.0.0 (Saves ran.said) found.2.2))

-- the text that was saved last is that of the journal
text_is : (solve : SolveMeaning) (ran : Outcome) (name text : List ℕ) → solve.journal ≡ Some name
    → IsSavedLast ran.said name text → (parts : TaskParts)
    → (mine : SavesJournal (Saves ran.said) solve parts)
    → text ≡ journal_text (settings_of solve) mine.events
text_is solve ran name text named saved parts mine =
    let written = journal_text (settings_of solve) mine.events in
    let all : saved.0 ++ output name text ∷ [] ≡ mine.first ++ output name written ∷ [] =
    sym saved.1 ∙ mine.saved
    ∙ ap (λ (n : Option (List ℕ)). mine.first ++ journal_outputs n (settings_of solve) mine.events)
    named in
    same_last saved.0 mine.first name text written all

-- a saved journal is as long as its own events allow
pub saved_journals_are_short : WrittenJournalsAreAccepted → JournalTextsAreShort
    → SavedJournalsAreShort
saved_journals_are_short law lengths solve ran name text engine is named answered saved all certified stop =
    let found = saved_journal law lengths solve engine ran answered is all certified stop name text saved in
    let mine = found.2.2 in
    let same = text_is solve ran name text named saved found.0.0 mine in (
      found.0,
      found.1,
      (
        found.2.0,
        found.2.1,
        (
          length mine.events,
          subst (λ (t : List ℕ). IsJournalOf found.0.0 t (length mine.events)) (sym same) mine.legal,
          subst (λ (t : List ℕ). length t ≤ most_bytes (length mine.events)) (sym same) mine.short,
        ),
      ),
    )

module _ (law : WrittenJournalsAreAccepted) (lengths : JournalTextsAreShort) (marks : SwampChangesMarksAlone)
    (blocks : BlocksAskForNoCosts) (solve : SolveMeaning) (engine : solve.engine ≡ Leases) (journal : JournalMeaning)
    (ran judged_ran : Outcome) (name text : List ℕ) (same_input : journal.input ≡ solve.input)
    (same_options : journal.options ≡ record solve.options { swamp = false }) (named : solve.journal ≡ Some name)
    (saved : IsSavedLast ran.said name text) (texts : judged_ran.texts ≡ text ∷ task_texts solve.input ran.texts)
    (decided : JournalHolds journal judged_ran) where
  judged_task : (parts : TaskParts) → input_task solve.input (record solve.options { swamp = false }) 0 ran.texts ≡ Ok parts
      → journal_task journal judged_ran.texts ≡ Ok (parts, text)
  judged_task parts is =
      let there = task_texts solve.input ran.texts in
      let input : input_task journal.input journal.options 1 (text ∷ there) ≡ Ok parts =
      (λ i. input_task (same_input i) (same_options i) 1 (text ∷ there))
      ∙ input_behind solve.input (record solve.options { swamp = false }) text ran.texts ∙ is in
      ap (journal_task journal) texts ∙ ap (with_text (Some text)) input

  -- the saved text is accepted, whatever was saved before it
  journal_accepted : (parts : TaskParts) → input_task solve.input solve.options 0 ran.texts ≡ Ok parts
      → SavesJournal (Saves ran.said) solve parts
      → AcceptsUnlessStopped journal.input journal.options judged_ran
  journal_accepted parts is mine =
      let same = text_is solve ran name text named saved parts mine in
      let there = without_swamp marks blocks solve.input solve.options 0 ran.texts parts is in
      decided.exact there.other text (length mine.events) (judged_task there.other there.is)
      (there.journals text (length mine.events)
      (subst (λ (t : List ℕ). IsJournalOf parts t (length mine.events)) (sym same) mine.legal))

  pub any_journal : (ran.said.status ≡ 0) ⊎ ((ran.said.status ≡ 1) ⊎ (ran.said.status ≡ 2))
      → ran.asked ≡ Read (Solve solve) → SolveHolds solve ran → CertificateHolds ran
      → StopHasCause ran
      → AcceptsUnlessStopped journal.input journal.options judged_ran
  any_journal answered is all certified stop =
      let found = saved_journal law lengths solve engine ran answered is all certified stop name text saved in
      journal_accepted found.0.0 (task_read solve ran.texts found.0 found.1) found.2.2

pub saved_journals_are_accepted : WrittenJournalsAreAccepted → JournalTextsAreShort
    → SwampChangesMarksAlone → BlocksAskForNoCosts → SavedJournalsAreAccepted
saved_journals_are_accepted law lengths marks blocks solve journal ran judged name text engine is same_input same_options named answered saved texts all certified stop decided =
    any_journal law lengths marks blocks solve engine journal ran judged name text same_input same_options named saved
    texts decided answered is all certified stop

-- ---- by the words

-- what options say of how files are read, if they say the same of the row, of swamp and of the grounding
pub options_agree : (row other : ℕ) (swamp another flag mine : Bool) → row ≡ other → swamp ≡ another → flag ≡ mine
    → ◌≡◌ {A = InputOptions} (record { row = row; swamp = swamp; grounding = grounding_by flag }) (record { row = other; swamp = another; grounding = grounding_by mine })
options_agree row other swamp another flag mine rows swamps flags i = record { row = rows i; swamp = swamps i; grounding = grounding_by (flags i) }

-- where the shelf and the sink serve, there is an answer or memory ran out
served_is : (status : ℕ) → 71 < status → IsAnswer status ⊎ (status ≡ 71) → ⊥
served_is status past (inl (inl k)) = omega (arith, k, past)
served_is status past (inl (inr (inl k))) = absurd (omega (arith, k, past))
served_is status past (inl (inr (inr (inl k)))) = absurd (omega (arith, k, past))
served_is status past (inl (inr (inr (inr (inl k))))) = absurd (omega (arith, k, past))
served_is status past (inl (inr (inr (inr (inr (inl k)))))) = absurd (omega (arith, k, past))
served_is status past (inl (inr (inr (inr (inr (inr k)))))) = absurd (omega (arith, k, past))
served_is status past (inr k) = omega (arith, k, past)

-- an answer that is none of the broken ones is that it is accepted
accepts_it : (it : Outcome) → (it.said.status ≡ 0) ⊎ (StopsTexts it.asked it.texts it.said ⊎ IsBroken it.said.status) → AcceptsIt it
accepts_it it (inl zero) = (inl zero, λ served. inl zero)
accepts_it it (inr (inl stop)) = (inr (inl stop), λ served. inr (inl stop))
accepts_it it (inr (inr (inl memory))) = (inr (inr (inl memory)), λ served. inr (inr memory))
accepts_it it (inr (inr (inr (inl shelf)))) = (inr (inr (inr (inl shelf))), λ served. absurd (served_is it.said.status (omega (arith, shelf)) served))
accepts_it it (inr (inr (inr (inr sink)))) = (inr (inr (inr (inr sink))), λ served. absurd (served_is it.said.status (omega (arith, sink)) served))

-- the same of a call that checks or judges
module _ (it : Outcome) (input : InputNames) (options : InputOptions) (same : StopsBehind input options it.texts it.said → StopsTexts it.asked it.texts it.said) where
  accepts_by : AcceptsUnlessStopped input options it → AcceptsIt it
  accepts_by (inl zero) = accepts_it it (inl zero)
  accepts_by (inr (inl stop)) = accepts_it it (inr (inl (same stop)))
  accepts_by (inr (inr broken)) = accepts_it it (inr (inr broken))

pub check_accepts : (it : Outcome) (check : CheckMeaning) → it.asked ≡ Read (Check check) → AcceptsUnlessStopped check.input check.options it → AcceptsIt it
check_accepts it check is = accepts_by it check.input check.options (subst (λ (r : Reading). StopsTexts r it.texts it.said) (sym is))

pub journal_accepts : (it : Outcome) (journal : JournalMeaning) → it.asked ≡ Read (Journal journal) → AcceptsUnlessStopped journal.input journal.options it → AcceptsIt it
journal_accepts it journal is = accepts_by it journal.input journal.options (subst (λ (r : Reading). StopsTexts r it.texts it.said) (sym is))

-- what is kept of words is kept of what they ask for
module _ (words others : List (List ℕ)) (solve : SolveMeaning) (solved other : Outcome)
    (reads : reading_of_words words ≡ Read (Solve solve)) (kept : Keeps words solved)
    (kept_too : Keeps others other) where
  asked_is : solved.asked ≡ Read (Solve solve)
  asked_is = kept.asked ∙ reads

  all_there : SolveHolds solve solved
  all_there = subst (λ (r : Reading). IfSolve r (λ s. SolveHolds s solved)) asked_is kept.solve

  pub certificate_by_words : (check : CheckMeaning) (name text : List ℕ)
      → reading_of_words others ≡ Read (Check check) → check.input ≡ solve.input
      → check.options ≡ solve.options → solve.certificate ≡ Some name
      → (solved.said.status ≡ 0) ⊎ (solved.said.status ≡ 1)
      → IsSavedFirst solved.said name text
      → other.texts ≡ text ∷ task_texts solve.input solved.texts
      → AcceptsIt other
  certificate_by_words check name text also same_input same_options named answered saved texts =
      check_accepts other check (kept_too.asked ∙ also)
      (saved_certificates_are_accepted solve check solved other name text asked_is same_input
      same_options named answered saved texts all_there kept.certified
      (subst (λ (r : Reading). IfCheck r (λ c. CheckHolds c other)) (kept_too.asked ∙ also)
      kept_too.check))

  pub journal_by_words : SavedJournalsAreAccepted → solve.engine ≡ Leases
      → (journal : JournalMeaning) (name text : List ℕ)
      → reading_of_words others ≡ Read (Journal journal) → journal.input ≡ solve.input
      → journal.options ≡ record solve.options { swamp = false } → solve.journal ≡ Some name
      → (solved.said.status ≡ 0) ⊎ ((solved.said.status ≡ 1) ⊎ (solved.said.status ≡ 2))
      → IsSavedLast solved.said name text
      → other.texts ≡ text ∷ task_texts solve.input solved.texts
      → AcceptsIt other
  journal_by_words law engine journal name text also same_input same_options named answered saved texts =
      journal_accepts other journal (kept_too.asked ∙ also)
      (law solve journal solved other name text engine asked_is same_input same_options named answered saved
      texts all_there kept.certified kept.stopped
      (subst (λ (r : Reading). IfJournal r (λ j. JournalHolds j other)) (kept_too.asked ∙ also)
      kept_too.journal))

pub certificates_are_accepted_by_words : SolveReadsOptions → CheckReadsOptions
    → CertificatesAreAcceptedByWords
certificates_are_accepted_by_words solve_reads check_reads input name file text arguments others solved checked matching same_swamp new named kept kept_too answered saved texts =
    certificate_by_words _ _ _ solved checked
    (solve_reads input arguments matching.solve matching.one_run matching.weight matching.names
    matching.kept matching.estimate) kept
    kept_too _ name
    text (check_reads input file others matching.each matching.distinct matching.placed new) refl
    (options_agree _ _ _ _ _ _ matching.row same_swamp matching.reachable) named answered saved texts

-- a journal that may be asked for is one of a search by leases
by_leases : (arguments : List Argument) (name : List ℕ) → HaveKeptJournal arguments
    → value_given JournalOption arguments ≡ Some name → engine_given arguments ≡ Leases
by_leases arguments name kept named = go (engine_given arguments) kept
  where
    go : (engine : Engine) → (engine ≡ Owners → value_given JournalOption arguments ≡ None)
        → engine ≡ Leases
    go Leases none = refl
    go Owners none =
        let bad : ◌≡◌ {A = Option (List ℕ)} (Some name) None = sym named ∙ none refl in
        absurd cc

pub journals_are_accepted_by_words : SavedJournalsAreAccepted → SolveReadsOptions
    → JournalReadsOptions → JournalsAreAcceptedByWords
journals_are_accepted_by_words law solve_reads journal_reads input name file text arguments others solved judged matching named kept kept_too answered saved texts =
    journal_by_words _ _ _ solved judged
    (solve_reads input arguments matching.solve matching.one_run matching.weight matching.names
    matching.kept matching.estimate) kept
    kept_too law (by_leases arguments name matching.kept named) _
    name text (journal_reads input file others matching.each matching.distinct matching.placed) refl
    (options_agree _ _ false false _ _ matching.row refl matching.reachable) named answered saved texts
