-- What is answered of the words and of the texts that were loaded, promise by promise.
use Rattle.std.proofs.Common.{◌≡◌, ◌≢◌, ◌⊎◌, inl, inr, ℕ, Option, None, Some, List, [], ◌∷◌, ◌++◌, Result, Ok, Err, refl, sym, ap, subst, ◌∙◌, arith}
use Rattle.pb_model.specs.Plan.{Plan, HasNoPlan}
use Rattle.pb_model.specs.Texts.{none_report, stopped_report}
use Rattle.pb_task.specs.declared.parts.TaskParts.{TaskParts}
use Rattle.pb_task.specs.Parts.{space_of}
use Rattle.pb_check.specs.Judging.{checked}
use Rattle.pb_grid.specs.Laws.{ReadAsSpelled}
use Rattle.pb_tiles.specs.Laws.{ReadingsAreSpelled}
use Rattle.pb_command.specs.declared.refusal.CommandFault.{CommandFault}
use Rattle.pb_command.specs.Causes.{IsPrinted}
use Rattle.pb_command.specs.Meaning.{Reading, Refused, Read, Solve, Falling, Check, Journal, Make, SolveMeaning, FallingMeaning, CheckMeaning, JournalMeaning, MakeMeaning}
use Rattle.pb_run.specs.Asked.{listed, saved_names, AreSomeOf}
use Rattle.pb_answer.specs.Outputs.{Output}
use Rattle.pb_cert.specs.Rewritten.{rewritten_text}
use Rattle.pb_answer.specs.Loaded.{solve_task, check_task, journal_task, OfTexts, RefusesTexts}
use Rattle.pb_machine.specs.declared.event.Event.{Event}
use Rattle.pb_machine.specs.declared.settings.Settings.{Settings}
use Rattle.pb_model.specs.Guide.{Guide}
use Rattle.pb_model.specs.Store.{Store}
use Rattle.pb_tables.specs.Tables.{TablesValue}
use Rattle.pb_estimate.specs.Choices.{Choice}
use Rattle.pb_model.specs.Weight.{Weight}
use Rattle.pb_answer.specs.Searches.{settings_of, weight_asked, ByAskedChoice}
use Rattle.pb_answer.specs.Claims.{IsCertificate, journal_outputs, journal_outputs_if_any, Certifies, Stops, Solves, PrintsPlan, PrintsLeastCost, SavesPlan, text_outputs, rewritten_outputs, Accepts, Rejects}
use Rattle.pb_answer.specs.Journals.{AcceptsJournal, RejectsJournal}
use Rattle.pb_answer.specs.Parts.{AnswerPart, outputs_of}
use Rattle.pb_answer.specs.Falling.{IsFallingFound}
use Rattle.pb_answer.specs.Answer.{Said, Says, Saves, IsSolved, IsUnsolvable, IsStopped, IsFoundOf, IsChecked, IsRefused, OrRefused}
use Rattle.pb_run.specs.Makes.{MakesPlan, MakesNone, MakesStop}
use Rattle.pb_run.specs.Answers.{IsMade, AnswersReading}
use Rattle.pb_run.specs.Outcome.{Outcome, IsAnswer, IsBroken, AnswersOneOf}
use Rattle.pb_run.specs.Headline.{PlanIsPlan, NoneIsCheaper, CertificateHolds, NoneMeansNone, StopHasCause}
use Rattle.pb_run.specs.Commands.{IsOfVerdict, SolveHolds, CheckHolds, JournalHolds, MakeHolds, SolvesHold, ChecksHold, JournalsHold, MakesHold, RefusalHolds}
use Rattle.pb_run.specs.Served.{IsAnswered}
use Rattle.pb_run.proofs.ByCommand.{of_refused, of_solve, of_check, of_journal, of_make}
use Rattle.pb_run.proofs.CallLists.{names_of, names_joined}
use Rattle.pb_run.proofs.FallingNames.{first_runs_named}
use Rattle.pb_run.proofs.Some.{all_are_some, some_behind, some_with}
use Rattle.pb_answer.specs.Stops.{StopsTexts, StopsSolve, StopsBehind}
use Rattle.pb_answer.proofs.Callers.{never_refused, names_of_found, found_status}
use Rattle.pb_run.proofs.Stopping.{IsStop, stop_says}

module _ (texts : List (List ℕ)) (said : Said) where
  abbrev pub Done : Reading → Outcome
  Done reading = record { asked = reading; texts = texts; said = said }

  abbrev pub Answered : Reading → Type 0
  Answered reading = AnswersReading reading texts said

  abbrev pub Stopped : Reading → Type 0
  Stopped reading = StopsTexts reading texts said

  says_stop : (reading : Reading) → Stopped reading → IsStop said
  says_stop reading stop = stop_says reading texts said stop

  -- ---- the names of what is saved

  abbrev pub AreNamed : Reading → Type 0
  AreNamed reading = AreSomeOf (names_of said.outputs) (saved_names reading)

  none_named : (reading : Reading) → said.outputs ≡ [] → AreNamed reading
  none_named reading none = subst (λ (os : List Output). AreSomeOf (names_of os) (saved_names reading)) (sym none) tt

  text_named : (given : Option (List ℕ)) (text : List ℕ) → AreSomeOf (names_of (text_outputs given text)) (listed given)
  text_named None text = tt
  text_named (Some name) text = inl (refl, tt)

  -- ---- texts that are refused, and others

  -- what is said of a task, or of a task with a text, by whether the texts are refused
  module _ {A : Type 0} (task : Result A (List ℕ)) (P : A → Said → Type 0) (answers : OrRefused task P said) where
    by_task : (Q : Type 0) → ((a : A) → task ≡ Ok a → P a said → Q) → (task ≡ Err said.report → IsRefused said.report said → Q) → Q
    by_task Q answered refused = go task refl answers
      where
        go : (t : Result A (List ℕ)) → task ≡ t → OrRefused t P said → Q
        go (Ok a) is h = answered a is h
        go (Err report) is h = refused (is ∙ ap (λ (text : List ℕ). Err text) (sym h.1)) (h.0, refl, h.2)

    of_task : (a : A) → task ≡ Ok a → P a said
    of_task a is = subst (λ (t : Result A (List ℕ)). OrRefused t P said) is answers

    refuses : (report : List ℕ) → task ≡ Err report → said.status ≡ 65
    refuses report is = (subst (λ (t : Result A (List ℕ)). OrRefused t P said) is answers).0

  -- ---- of a search

  module _ (solve : SolveMeaning) (answers : AnswersReading (Read (Solve solve)) texts said) where
    abbrev IsHalted : Type 0
    IsHalted = StopsSolve solve texts said

    -- P holds of the task that the texts spell, and of a choice of an estimate that the words ask for
    abbrev Of : (P : Choice → TaskParts → Said → Type 0) → Type 0
    Of P = OfTexts solve texts (λ choice parts. P choice parts said)

    -- how the search ended, or that the texts are refused, or that grounding was stopped
    by_end : (Q : Type 0) → (Of (IsSolved solve) → Q) → (Of (IsUnsolvable solve) → Q) → (Of (IsStopped solve) → Q)
        → (solve_task solve texts ≡ Err said.report → IsRefused said.report said → Q) → (IsHalted → Q) → Q
    by_end Q solved unsolvable stopped refused halted = go answers
      where
        found : (read : TaskParts × Option TablesValue) → solve_task solve texts ≡ Ok read → IsFoundOf solve read said → Q
        found read is (choice, asked, inl h) = solved (read, is, (choice, asked, h))
        found read is (choice, asked, inr (inl h)) = unsolvable (read, is, (choice, asked, h))
        found read is (choice, asked, inr (inr h)) = stopped (read, is, (choice, asked, h))

        go : AnswersReading (Read (Solve solve)) texts said → Q
        go (inl ends) = by_task (solve_task solve texts) (IsFoundOf solve) ends Q found refused
        go (inr stop) = halted stop

    search_known : IsAnswer said.status
    search_known = by_end (IsAnswer said.status) (λ h. inl h.2.2.0) (λ h. inr (inl h.2.2.0)) (λ h. inr (inr (inl h.2.2.0))) (λ is h. inr (inr (inr (inr (inr h.0))))) (λ h. inr (inr (inl h.1.status)))

    of_zero : (P : Choice → TaskParts → Type 0) → ((choice : Choice) (parts : TaskParts) → IsSolved solve choice parts said → P choice parts) → said.status ≡ 0 → OfTexts solve texts P
    of_zero P f zero = by_end (OfTexts solve texts P) (λ h. (h.0, h.1, (h.2.0, h.2.1, f h.2.0 h.0.0 h.2.2)))
        (λ h. absurd (omega (arith, zero, h.2.2.0))) (λ h. absurd (omega (arith, zero, h.2.2.0))) (λ is h. absurd (omega (arith, zero, h.0)))
        (λ h. absurd (omega (arith, zero, h.1.status)))

    of_one : (P : Choice → TaskParts → Type 0) → ((choice : Choice) (parts : TaskParts) → IsUnsolvable solve choice parts said → P choice parts) → said.status ≡ 1 → OfTexts solve texts P
    of_one P f one = by_end (OfTexts solve texts P) (λ h. absurd (omega (arith, one, h.2.2.0)))
        (λ h. (h.0, h.1, (h.2.0, h.2.1, f h.2.0 h.0.0 h.2.2))) (λ h. absurd (omega (arith, one, h.2.2.0))) (λ is h. absurd (omega (arith, one, h.0)))
        (λ h. absurd (omega (arith, one, h.1.status)))

    at_two : (Q : Type 0) → (Of (IsStopped solve) → Q) → (IsHalted → Q) → said.status ≡ 2 → Q
    at_two Q stopped halted two = by_end Q (λ h. absurd (omega (arith, two, h.2.2.0)))
        (λ h. absurd (omega (arith, two, h.2.2.0))) stopped (λ is h. absurd (omega (arith, two, h.0))) halted

    search_statuses : AnswersOneOf (0 ∷ 1 ∷ 2 ∷ 65 ∷ []) (Done (Read (Solve solve)))
    search_statuses = by_end (AnswersOneOf (0 ∷ 1 ∷ 2 ∷ 65 ∷ []) (Done (Read (Solve solve)))) (λ h. inl (inl h.2.2.0)) (λ h. inl (inr (inl h.2.2.0)))
        (λ h. inl (inr (inr (inl h.2.2.0)))) (λ is h. inl (inr (inr (inr (inl h.0))))) (λ h. inl (inr (inr (inl h.1.status))))

    solve_refused : said.status ≡ 65 → solve_task solve texts ≡ Err said.report
    solve_refused e = by_end (solve_task solve texts ≡ Err said.report) (λ h. absurd (omega (arith, e, h.2.2.0)))
        (λ h. absurd (omega (arith, e, h.2.2.0))) (λ h. absurd (omega (arith, e, h.2.2.0))) (λ is h. is) (λ h. absurd (omega (arith, e, h.1.status)))

    -- ---- what is saved

    certificate_names : (parts : TaskParts) (given : Option (List ℕ)) (choice : Choice) (weight : Weight) (guide : Guide) (store : Store) (plan : Option Plan) (outputs : List Output)
        → IsCertificate given parts choice weight guide store plan outputs → names_of outputs ≡ listed given
    certificate_names parts None choice weight guide store plan outputs is = ap names_of is
    certificate_names parts (Some name) choice weight guide store plan outputs (text, certificate, is) = ap names_of is

    journal_names : (given : Option (List ℕ)) (settings : Settings) (journal : List Event) → names_of (journal_outputs given settings journal) ≡ listed given
    journal_names None settings journal = refl
    journal_names (Some name) settings journal = refl

    -- an engine that keeps no journal saves none
    kept_names : (given : Option (List ℕ)) (settings : Settings) (journal : Option (List Event)) → AreSomeOf (names_of (journal_outputs_if_any given settings journal)) (listed given)
    kept_names given settings None = tt
    kept_names given settings (Some journal) = subst (λ (ns : List (List ℕ)). AreSomeOf ns (listed given)) (sym (journal_names given settings journal)) (all_are_some (listed given))

    certified_named : (choice : Choice) (parts : TaskParts) (plan : Option Plan) → Certifies (Saves said) solve choice parts plan → AreNamed (Read (Solve solve))
    certified_named choice parts plan (left, searched, found, outputs, is_certificate, saves) =
        let journals = journal_outputs_if_any solve.journal (settings_of solve) left.journal in
        let names : names_of said.outputs ≡ listed solve.certificate ++ names_of journals =
        ap names_of saves ∙ names_joined outputs journals
        ∙ ap (λ (ns : List (List ℕ)). ns ++ names_of journals) (certificate_names parts solve.certificate _ _ _ _ plan outputs is_certificate) in
        subst (λ (ns : List (List ℕ)). AreSomeOf ns (listed solve.certificate ++ listed solve.journal)) (sym names)
        (some_with (listed solve.certificate) (names_of journals) (listed solve.journal) (kept_names solve.journal (settings_of solve) left.journal))

    stopped_named : (choice : Choice) (parts : TaskParts) → Stops (Saves said) solve choice parts → AreNamed (Read (Solve solve))
    stopped_named choice parts (left, searched, saves) =
        let journals = journal_outputs_if_any solve.journal (settings_of solve) left.journal in
        subst (λ (os : List Output). AreSomeOf (names_of os) (listed solve.certificate ++ listed solve.journal)) (sym saves)
        (some_behind (listed solve.certificate) (names_of journals) (listed solve.journal) (kept_names solve.journal (settings_of solve) left.journal))

    solve_named : AreNamed (Read (Solve solve))
    solve_named = by_end (AreNamed (Read (Solve solve))) (λ h. certified_named h.2.0 h.0.0 (Some h.2.2.1.0) h.2.2.1.6)
        (λ h. certified_named h.2.0 h.0.0 None h.2.2.3) (λ h. stopped_named h.2.0 h.0.0 h.2.2.2) (λ is h. none_named (Read (Solve solve)) h.2)
        (λ h. none_named (Read (Solve solve)) h.1.outputs)

    solve_saves_none : (said.status ≡ 0 → ⊥) → (said.status ≡ 1 → ⊥) → (said.status ≡ 2 → ⊥) → said.outputs ≡ []
    solve_saves_none not_zero not_one not_two = by_end (said.outputs ≡ []) (λ h. absurd (not_zero h.2.2.0))
        (λ h. absurd (not_one h.2.2.0)) (λ h. absurd (not_two h.2.2.0)) (λ is h. h.2) (λ h. h.1.outputs)

    solve_answered : IsAnswered (Read (Solve solve)) texts said
    solve_answered read is = go answers
      where
        ends : IsFoundOf solve read said → (said.status ≡ 0) ⊎ ((said.status ≡ 1) ⊎ ((said.status ≡ 2) ⊎ (said.status ≡ 71)))
        ends (choice, asked, inl found) = inl found.0
        ends (choice, asked, inr (inl none)) = inr (inl none.0)
        ends (choice, asked, inr (inr stop)) = inr (inr (inl stop.0))

        go : AnswersReading (Read (Solve solve)) texts said → (said.status ≡ 0) ⊎ ((said.status ≡ 1) ⊎ ((said.status ≡ 2) ⊎ (said.status ≡ 71)))
        go (inl found) = ends (of_task (solve_task solve texts) (IsFoundOf solve) found read is)
        go (inr stop) = inr (inr (inl stop.1.status))

    solve_refuses : (report : List ℕ) → solve_task solve texts ≡ Err report → (said.status ≡ 65) ⊎ IsHalted
    solve_refuses report is = go answers
      where
        go : AnswersReading (Read (Solve solve)) texts said → (said.status ≡ 65) ⊎ IsHalted
        go (inl ends) = inl (refuses (solve_task solve texts) (IsFoundOf solve) ends report is)
        go (inr stop) = inr stop

  -- ---- of a search with falling weights

  module _ (falling : FallingMeaning) (answers : AnswersReading (Read (Falling falling)) texts said) where
    abbrev IsFallingOf : (read : TaskParts × Option TablesValue) → Said → Type 0
    IsFallingOf read all =
        ByAskedChoice falling.solve read (λ choice task. (parts : List AnswerPart) × IsFallingFound falling.solve choice task falling.steps all parts)

    abbrev IsFallingHalted : Type 0
    IsFallingHalted = StopsSolve falling.solve texts said

    -- what was found, or that the texts are refused, or that grounding was stopped
    by_falling : (Q : Type 0) → ((choice : Choice) (task : TaskParts) (parts : List AnswerPart) → IsFallingFound falling.solve choice task falling.steps said parts → Q)
        → (solve_task falling.solve texts ≡ Err said.report → IsRefused said.report said → Q) → (IsFallingHalted → Q) → Q
    by_falling Q found refused halted = go answers
      where
        go : AnswersReading (Read (Falling falling)) texts said → Q
        go (inl ends) = by_task (solve_task falling.solve texts) IsFallingOf ends Q (λ read is h. found h.0 read.0 h.2.0 h.2.1) refused
        go (inr stop) = halted stop

    abbrev IsSearched : Type 0
    IsSearched = (said.status ≡ 0) ⊎ ((said.status ≡ 1) ⊎ (said.status ≡ 2))

    status_of : (choice : Choice) (task : TaskParts) (parts : List AnswerPart) → IsFallingFound falling.solve choice task falling.steps said parts → IsSearched
    status_of choice task parts found = found_status falling.solve choice task falling.steps said parts found

    searched_known : IsSearched → IsAnswer said.status
    searched_known (inl is) = inl is
    searched_known (inr (inl is)) = inr (inl is)
    searched_known (inr (inr is)) = inr (inr (inl is))

    falling_known : IsAnswer said.status
    falling_known = by_falling (IsAnswer said.status) (λ choice task parts found. searched_known (status_of choice task parts found)) (λ is h. inr (inr (inr (inr (inr h.0)))))
        (λ h. inr (inr (inl h.1.status)))

    not_refused : IsSearched → said.status ≢ 65
    not_refused (inl is) e = omega (arith, is, e)
    not_refused (inr (inl is)) e = omega (arith, is, e)
    not_refused (inr (inr is)) e = omega (arith, is, e)

    falling_refused : said.status ≡ 65 → solve_task falling.solve texts ≡ Err said.report
    falling_refused e = by_falling (solve_task falling.solve texts ≡ Err said.report)
        (λ choice task parts found. absurd (not_refused (status_of choice task parts found) e)) (λ is h. is) (λ h. absurd (omega (arith, e, h.1.status)))

    falling_saves_none : said.status ≡ 65 → said.outputs ≡ []
    falling_saves_none e = by_falling (said.outputs ≡ []) (λ choice task parts found. absurd (not_refused (status_of choice task parts found) e)) (λ is h. h.2)
        (λ h. h.1.outputs)

    falling_named : AreNamed (Read (Falling falling))
    falling_named = by_falling (AreNamed (Read (Falling falling)))
        (λ choice task parts found. subst (λ (os : List Output). AreSomeOf (names_of os) (saved_names (Read (Falling falling)))) (sym found.outputs)
        (first_runs_named falling.solve falling.steps (outputs_of parts) (names_of_found falling.solve choice task falling.steps said parts found)))
        (λ is h. none_named (Read (Falling falling)) h.2) (λ h. none_named (Read (Falling falling)) h.1.outputs)

    falling_answered : IsAnswered (Read (Falling falling)) texts said
    falling_answered read is = go answers
      where
        ends : IsSearched → (said.status ≡ 0) ⊎ ((said.status ≡ 1) ⊎ ((said.status ≡ 2) ⊎ (said.status ≡ 71)))
        ends (inl h) = inl h
        ends (inr (inl h)) = inr (inl h)
        ends (inr (inr h)) = inr (inr (inl h))

        go : AnswersReading (Read (Falling falling)) texts said → (said.status ≡ 0) ⊎ ((said.status ≡ 1) ⊎ ((said.status ≡ 2) ⊎ (said.status ≡ 71)))
        go (inl answer) = let found = of_task (solve_task falling.solve texts) IsFallingOf answer read is in ends (status_of found.0 read.0 found.2.0 found.2.1)
        go (inr stop) = inr (inr (inl stop.1.status))

    falling_refuses : (report : List ℕ) → solve_task falling.solve texts ≡ Err report → (said.status ≡ 65) ⊎ IsFallingHalted
    falling_refuses report is = go answers
      where
        go : AnswersReading (Read (Falling falling)) texts said → (said.status ≡ 65) ⊎ IsFallingHalted
        go (inl ends) = inl (refuses (solve_task falling.solve texts) IsFallingOf ends report is)
        go (inr stop) = inr stop

  -- ---- of a text that is accepted or rejected: a certificate, or a journal

  -- a task with the text that is judged for it
  abbrev Judged : Type 0
  Judged = Result (TaskParts × List ℕ) (List ℕ)

  -- `anew` is what is saved of an accepted text, and `Halts` that grounding was stopped
  module _ (task : Judged) (Good Bad : (says : List ℕ → Type 0) → TaskParts → List ℕ → Type 0) (anew : TaskParts → List ℕ → List Output) (Halts : Type 0) (says_it : Halts → IsStop said) where
    abbrev IsVerdict : TaskParts × List ℕ → Said → Type 0
    IsVerdict t s = ((s.status ≡ 0) × Saves s (anew t.0 t.1) × Good (Says s) t.0 t.1) ⊎ ((s.status ≡ 3) × Saves s [] × Bad (Says s) t.0 t.1)

    abbrev Holds : (P : TaskParts → List ℕ → Type 0) → Type 0
    Holds P = (parts : TaskParts) × (text : List ℕ) × (task ≡ Ok (parts, text)) × P parts text

    -- a stop has no other status
    not_at : (k : ℕ) → k ≢ 2 → Halts → said.status ≢ k
    not_at k other stop e = other (sym e ∙ (says_it stop).0)

    module _ (answers : OrRefused task IsVerdict said ⊎ Halts) where
      -- whether the text is accepted or rejected, or the texts are refused, or grounding was stopped
      by_verdict : (Q : Type 0) → ((parts : TaskParts) (text : List ℕ) → task ≡ Ok (parts, text) → (said.status ≡ 0) × Saves said (anew parts text) × Good (Says said) parts text → Q)
          → ((parts : TaskParts) (text : List ℕ) → task ≡ Ok (parts, text) → (said.status ≡ 3) × Saves said [] × Bad (Says said) parts text → Q)
          → (task ≡ Err said.report → IsRefused said.report said → Q) → (Halts → Q) → Q
      by_verdict Q good bad refused halted = go answers
        where
          judged : (t : TaskParts × List ℕ) → task ≡ Ok t → IsVerdict t said → Q
          judged (parts, text) is (inl h) = good parts text is h
          judged (parts, text) is (inr h) = bad parts text is h

          go : OrRefused task IsVerdict said ⊎ Halts → Q
          go (inl verdict) = by_task task IsVerdict verdict Q judged refused
          go (inr stop) = halted stop

      verdict_known : IsAnswer said.status
      verdict_known = by_verdict (IsAnswer said.status) (λ parts text is h. inl h.0) (λ parts text is h. inr (inr (inr (inl h.0)))) (λ is h. inr (inr (inr (inr (inr h.0)))))
          (λ stop. inr (inr (inl (says_it stop).0)))

      accepted : said.status ≡ 0 → Holds (Good (Says said))
      accepted zero = by_verdict (Holds (Good (Says said))) (λ parts text is h. (parts, text, is, h.2)) (λ parts text is h. absurd (omega (arith, zero, h.0)))
          (λ is h. absurd (omega (arith, zero, h.0))) (λ stop. absurd (not_at 0 (λ e. omega (arith, e)) stop zero))

      rejected : said.status ≡ 3 → Holds (Bad (Says said))
      rejected three = by_verdict (Holds (Bad (Says said))) (λ parts text is h. absurd (omega (arith, three, h.0))) (λ parts text is h. (parts, text, is, h.2))
          (λ is h. absurd (omega (arith, three, h.0))) (λ stop. absurd (not_at 3 (λ e. omega (arith, e)) stop three))

      verdict_statuses : (reading : Reading) → AnswersOneOf (0 ∷ 2 ∷ 3 ∷ 65 ∷ []) (Done reading)
      verdict_statuses reading = by_verdict (AnswersOneOf (0 ∷ 2 ∷ 3 ∷ 65 ∷ []) (Done reading)) (λ parts text is h. inl (inl h.0)) (λ parts text is h. inl (inr (inr (inl h.0))))
          (λ is h. inl (inr (inr (inr (inl h.0))))) (λ stop. inl (inr (inl (says_it stop).0)))

      verdict_stopped : said.status ≡ 2 → Halts
      verdict_stopped two = by_verdict Halts (λ parts text is h. absurd (omega (arith, two, h.0))) (λ parts text is h. absurd (omega (arith, two, h.0)))
          (λ is h. absurd (omega (arith, two, h.0))) (λ stop. stop)

      verdict_refused : said.status ≡ 65 → task ≡ Err said.report
      verdict_refused e = by_verdict (task ≡ Err said.report) (λ parts text is h. absurd (omega (arith, e, h.0))) (λ parts text is h. absurd (omega (arith, e, h.0))) (λ is h. is)
          (λ stop. absurd (not_at 65 (λ e. omega (arith, e)) stop e))

      verdict_refuses : (report : List ℕ) → task ≡ Err report → (said.status ≡ 65) ⊎ Halts
      verdict_refuses report is = go answers
        where
          go : OrRefused task IsVerdict said ⊎ Halts → (said.status ≡ 65) ⊎ Halts
          go (inl verdict) = inl (refuses task IsVerdict verdict report is)
          go (inr stop) = inr stop

      refusal_saves : said.status ≡ 65 → said.outputs ≡ []
      refusal_saves e = by_verdict (said.outputs ≡ []) (λ parts text is h. absurd (omega (arith, e, h.0))) (λ parts text is h. h.1) (λ is h. h.2) (λ stop. (says_it stop).2)

      rejected_saves : said.status ≡ 3 → said.outputs ≡ []
      rejected_saves three = by_verdict (said.outputs ≡ []) (λ parts text is h. absurd (omega (arith, three, h.0))) (λ parts text is h. h.1) (λ is h. h.2) (λ stop. (says_it stop).2)

      verdict_saves : (parts : TaskParts) (text : List ℕ) → task ≡ Ok (parts, text) → said.status ≡ 0 → said.outputs ≡ anew parts text
      verdict_saves parts text is zero = go answers
        where
          saved : IsVerdict (parts, text) said → said.outputs ≡ anew parts text
          saved (inl h) = h.1
          saved (inr h) = absurd (omega (arith, zero, h.0))

          go : OrRefused task IsVerdict said ⊎ Halts → said.outputs ≡ anew parts text
          go (inl verdict) = saved (of_task task IsVerdict verdict (parts, text) is)
          go (inr stop) = absurd (not_at 0 (λ e. omega (arith, e)) stop zero)

      -- what is saved has names among these, if what is saved anew has
      verdict_named : (reading : Reading) → ((parts : TaskParts) (text : List ℕ) → AreSomeOf (names_of (anew parts text)) (saved_names reading)) → AreNamed reading
      verdict_named reading named =
          by_verdict (AreNamed reading) (λ parts text is h. subst (λ (os : List Output). AreSomeOf (names_of os) (saved_names reading)) (sym h.1) (named parts text))
          (λ parts text is h. none_named reading h.1) (λ is h. none_named reading h.2) (λ stop. none_named reading (says_it stop).2)

      -- what is not rejected is accepted, unless grounding was stopped
      verdict_answered : (parts : TaskParts) (text : List ℕ) → task ≡ Ok (parts, text) → (Bad (Says said) parts text → ⊥) → (said.status ≡ 0) ⊎ Halts
      verdict_answered parts text is not_bad = go answers
        where
          good : IsVerdict (parts, text) said → said.status ≡ 0
          good (inl h) = h.0
          good (inr h) = absurd (not_bad h.2)

          go : OrRefused task IsVerdict said ⊎ Halts → (said.status ≡ 0) ⊎ Halts
          go (inl verdict) = inl (good (of_task task IsVerdict verdict (parts, text) is))
          go (inr stop) = inr stop

  -- ---- of a task that is made

  module _ (make : MakeMeaning) (answers : AnswersReading (Read (Make make)) texts said) where
    by_made : (Q : Type 0) → ((said.status ≡ 0) × Saves said [] × MakesPlan (Says said) make → Q) → ((said.status ≡ 1) × Saves said [] × MakesNone (Says said) make → Q)
        → ((said.status ≡ 2) × Saves said [] × MakesStop (Says said) make → Q) → Q
    by_made Q plan none stop = go answers
      where
        go : IsMade make said → Q
        go (inl h) = plan h
        go (inr (inl h)) = none h
        go (inr (inr h)) = stop h

    made_known : IsAnswer said.status
    made_known = by_made (IsAnswer said.status) (λ h. inl h.0) (λ h. inr (inl h.0)) (λ h. inr (inr (inl h.0)))

    made_zero : said.status ≡ 0 → MakesPlan (Says said) make
    made_zero zero = by_made (MakesPlan (Says said) make) (λ h. h.2) (λ h. absurd (omega (arith, zero, h.0))) (λ h. absurd (omega (arith, zero, h.0)))

    made_one : said.status ≡ 1 → MakesNone (Says said) make
    made_one one = by_made (MakesNone (Says said) make) (λ h. absurd (omega (arith, one, h.0))) (λ h. h.2) (λ h. absurd (omega (arith, one, h.0)))

    made_two : said.status ≡ 2 → MakesStop (Says said) make
    made_two two = by_made (MakesStop (Says said) make) (λ h. absurd (omega (arith, two, h.0))) (λ h. absurd (omega (arith, two, h.0))) (λ h. h.2)

    made_statuses : AnswersOneOf (0 ∷ 1 ∷ 2 ∷ []) (Done (Read (Make make)))
    made_statuses = by_made (AnswersOneOf (0 ∷ 1 ∷ 2 ∷ []) (Done (Read (Make make)))) (λ h. inl (inl h.0)) (λ h. inl (inr (inl h.0))) (λ h. inl (inr (inr (inl h.0))))

    made_is_read : said.status ≢ 65
    made_is_read e = by_made ⊥ (λ h. omega (arith, e, h.0)) (λ h. omega (arith, e, h.0)) (λ h. omega (arith, e, h.0))

    made_saves_none : said.outputs ≡ []
    made_saves_none = by_made (said.outputs ≡ []) (λ h. h.1) (λ h. h.1) (λ h. h.1)

    made_answered : IsAnswered (Read (Make make)) texts said
    made_answered = by_made ((said.status ≡ 0) ⊎ ((said.status ≡ 1) ⊎ ((said.status ≡ 2) ⊎ (said.status ≡ 71)))) (λ h. inl h.0) (λ h. inr (inl h.0)) (λ h. inr (inr (inl h.0)))

  -- ---- which statuses there are

  pub known : (reading : Reading) → AnswersReading reading texts said → IsAnswer said.status
  known (Refused fault) answers = inr (inr (inr (inr (inl answers.0))))
  known (Read (Solve solve)) answers = search_known solve answers
  known (Read (Falling falling)) answers = falling_known falling answers
  known (Read (Check check)) answers = verdict_known (check_task check texts) Accepts Rejects (rewritten_outputs check) (Stopped (Read (Check check))) (says_stop (Read (Check check))) answers
  known (Read (Journal journal)) answers = verdict_known (journal_task journal texts) AcceptsJournal RejectsJournal (λ parts text. []) (Stopped (Read (Journal journal))) (says_stop (Read (Journal journal))) answers
  known (Read (Make make)) answers = made_known make answers

  -- ---- the promises to whoever solves

  pub plan : (reading : Reading) → Answered reading → PlanIsPlan (Done reading)
  plan = of_solve Answered _ at
    where
      at : (solve : SolveMeaning) → Answered (Read (Solve solve)) → said.status ≡ 0 → OfTexts solve texts (λ choice parts. PrintsPlan (Says said) parts (weight_asked solve))
      at solve answers = of_zero solve answers (λ choice parts. PrintsPlan (Says said) parts (weight_asked solve)) (λ choice parts is. (is.1.0, is.1.1, is.1.2, is.1.3, is.1.4))

  pub cheapest : (reading : Reading) → Answered reading → NoneIsCheaper (Done reading)
  cheapest = of_solve Answered _ at
    where
      at : (solve : SolveMeaning) → Answered (Read (Solve solve)) → said.status ≡ 0 → OfTexts solve texts (λ choice parts. PrintsLeastCost (Says said) parts (weight_asked solve))
      at solve answers = of_zero solve answers (λ choice parts. PrintsLeastCost (Says said) parts (weight_asked solve)) (λ choice parts is. is.2)

  pub certified : (reading : Reading) → Answered reading → CertificateHolds (Done reading)
  certified reading answers = record { plan = of_solve Answered _ with_plan reading answers; none = of_solve Answered _ with_none reading answers }
    where
      with_plan : (solve : SolveMeaning) → Answered (Read (Solve solve)) → said.status ≡ 0 → OfTexts solve texts (SavesPlan (Says said) (Saves said) solve)
      with_plan solve done = of_zero solve done (SavesPlan (Says said) (Saves said) solve) (λ choice parts is. is.3)

      with_none : (solve : SolveMeaning) → Answered (Read (Solve solve)) → said.status ≡ 1 → OfTexts solve texts (λ choice parts. Certifies (Saves said) solve choice parts None)
      with_none solve done = of_one solve done (λ choice parts. Certifies (Saves said) solve choice parts None) (λ choice parts is. is.3)

  -- what is said of a task is said without it
  said_alone : (solve : SolveMeaning) (text : List ℕ) → OfTexts solve texts (λ choice parts. Says said text) → Says said text
  said_alone solve text h = h.2.2

  pub none : (reading : Reading) → Answered reading → NoneMeansNone (Done reading)
  none = of_solve Answered _ at
    where
      at : (solve : SolveMeaning) → Answered (Read (Solve solve)) → said.status ≡ 1 → Says said none_report × OfTexts solve texts (λ choice parts. HasNoPlan (space_of parts))
      at solve answers one = (
        said_alone solve none_report (of_one solve answers (λ choice parts. Says said none_report) (λ choice parts is. is.1) one),
        of_one solve answers (λ choice parts. HasNoPlan (space_of parts)) (λ choice parts is. is.2) one,
      )

  pub stopped : (reading : Reading) → Answered reading → StopHasCause (Done reading)
  stopped = of_solve Answered _ at
    where
      Cause : SolveMeaning → Type 0
      Cause solve = (Says said (stopped_report solve.settings.budget) × OfTexts solve texts (Stops (Saves said) solve)) ⊎ StopsSolve solve texts said

      at : (solve : SolveMeaning) → Answered (Read (Solve solve)) → said.status ≡ 2 → Cause solve
      at solve answers two = at_two solve answers (Cause solve) (λ h. inl (h.2.2.1, (h.0, h.1, (h.2.0, h.2.1, h.2.2.2)))) (λ stop. inr stop) two

  -- ---- command by command

  pub solved : (reading : Reading) → Answered reading → SolvesHold (Done reading)
  solved reading given = of_solve Answered _ at reading given
    where
      at : (solve : SolveMeaning) → Answered (Read (Solve solve)) → SolveHolds solve (Done reading)
      at solve answers = record { one_plan = of_zero solve answers (Solves (Says said) (Saves said) solve) (λ choice parts is. is.1); statuses = search_statuses solve answers }

  pub checked_text : (reading : Reading) → Answered reading → ChecksHold (Done reading)
  checked_text reading given = of_check Answered _ at reading given
    where
      decided : (check : CheckMeaning) (parts : TaskParts) (certificate : List ℕ) → IsChecked check parts certificate said → IsOfVerdict (checked parts certificate) said.status
      decided check parts certificate (inl valid) = subst (λ v. IsOfVerdict v said.status) (sym valid.2.2) (inl valid.0)
      decided check parts certificate (inr faulty) = subst (λ v. IsOfVerdict v said.status) (sym faulty.2.2) (inl faulty.0)

      exactly : (check : CheckMeaning) (parts : TaskParts) (certificate : List ℕ) → check_task check texts ≡ Ok (parts, certificate) → Answered (Read (Check check))
          → IsOfVerdict (checked parts certificate) said.status ⊎ StopsBehind check.input check.options texts said
      exactly check parts certificate is (inl verdict) =
          inl (decided check parts certificate (of_task (check_task check texts) (λ t. IsChecked check t.0 t.1) verdict (parts, certificate) is))
      exactly check parts certificate is (inr stop) = inr stop

      at : (check : CheckMeaning) → Answered (Read (Check check)) → CheckHolds check (Done reading)
      at check answers = record {
        accepted = accepted (check_task check texts) Accepts Rejects (rewritten_outputs check) (Stopped (Read (Check check))) (says_stop (Read (Check check))) answers;
        rejected = rejected (check_task check texts) Accepts Rejects (rewritten_outputs check) (Stopped (Read (Check check))) (says_stop (Read (Check check))) answers;
        exact = λ parts certificate is. exactly check parts certificate is answers;
        rewritten = λ parts certificate is zero. verdict_saves (check_task check texts) Accepts Rejects (rewritten_outputs check) (Stopped (Read (Check check))) (says_stop (Read (Check check))) answers parts certificate is zero;
        unsaved = rejected_saves (check_task check texts) Accepts Rejects (rewritten_outputs check) (Stopped (Read (Check check))) (says_stop (Read (Check check))) answers;
        stopped = verdict_stopped (check_task check texts) Accepts Rejects (rewritten_outputs check) (Stopped (Read (Check check))) (says_stop (Read (Check check))) answers;
        statuses = verdict_statuses (check_task check texts) Accepts Rejects (rewritten_outputs check) (Stopped (Read (Check check))) (says_stop (Read (Check check))) answers (Read (Check check));
      }

  pub judged_text : (reading : Reading) → Answered reading → JournalsHold (Done reading)
  judged_text reading given = of_journal Answered _ at reading given
    where
      either : (journal : JournalMeaning) → (said.status ≡ 0) ⊎ Stopped (Read (Journal journal)) → (said.status ≡ 0) ⊎ (Stopped (Read (Journal journal)) ⊎ IsBroken said.status)
      either journal (inl zero) = inl zero
      either journal (inr stop) = inr (inl stop)

      at : (journal : JournalMeaning) → Answered (Read (Journal journal)) → JournalHolds journal (Done reading)
      at journal answers = record {
        accepted = accepted (journal_task journal texts) AcceptsJournal RejectsJournal (λ parts text. []) (Stopped (Read (Journal journal))) (says_stop (Read (Journal journal))) answers;
        rejected = rejected (journal_task journal texts) AcceptsJournal RejectsJournal (λ parts text. []) (Stopped (Read (Journal journal))) (says_stop (Read (Journal journal))) answers;
        exact = λ parts text events is legal. either journal (verdict_answered (journal_task journal texts) AcceptsJournal RejectsJournal (λ parts text. []) (Stopped (Read (Journal journal))) (says_stop (Read (Journal journal))) answers parts text is (λ bad. bad.4 events legal));
        stopped = verdict_stopped (journal_task journal texts) AcceptsJournal RejectsJournal (λ parts text. []) (Stopped (Read (Journal journal))) (says_stop (Read (Journal journal))) answers;
        statuses = verdict_statuses (journal_task journal texts) AcceptsJournal RejectsJournal (λ parts text. []) (Stopped (Read (Journal journal))) (says_stop (Read (Journal journal))) answers (Read (Journal journal));
      }

  pub made : (reading : Reading) → Answered reading → MakesHold (Done reading)
  made reading given = of_make Answered _ at reading given
    where
      at : (make : MakeMeaning) → Answered (Read (Make make)) → MakeHolds make (Done reading)
      at make answers = record { plan = made_zero make answers; none = made_one make answers; stop = made_two make answers; statuses = made_statuses make answers }

  -- ---- refusals

  -- texts are refused at 65, and at no other status
  input_refused : (reading : Reading) → Answered reading → said.status ≡ 65 → RefusesTexts reading texts said.report
  input_refused (Refused fault) answers = λ e. omega (arith, e, answers.0)
  input_refused (Read (Solve solve)) answers = solve_refused solve answers
  input_refused (Read (Falling falling)) answers = falling_refused falling answers
  input_refused (Read (Check check)) answers = verdict_refused (check_task check texts) Accepts Rejects (rewritten_outputs check) (Stopped (Read (Check check))) (says_stop (Read (Check check))) answers
  input_refused (Read (Journal journal)) answers = verdict_refused (journal_task journal texts) AcceptsJournal RejectsJournal (λ parts text. []) (Stopped (Read (Journal journal))) (says_stop (Read (Journal journal))) answers
  input_refused (Read (Make make)) answers = λ e. absurd (made_is_read make answers e)

  always_refused : (reading : Reading) → Answered reading → (report : List ℕ) → RefusesTexts reading texts report → (said.status ≡ 65) ⊎ Stopped reading
  always_refused (Refused fault) answers report refused = absurd refused
  always_refused (Read (Solve solve)) answers report is = solve_refuses solve answers report is
  always_refused (Read (Falling falling)) answers report is = falling_refuses falling answers report is
  always_refused (Read (Check check)) answers report is = verdict_refuses (check_task check texts) Accepts Rejects (rewritten_outputs check) (Stopped (Read (Check check))) (says_stop (Read (Check check))) answers report is
  always_refused (Read (Journal journal)) answers report is = verdict_refuses (journal_task journal texts) AcceptsJournal RejectsJournal (λ parts text. []) (Stopped (Read (Journal journal))) (says_stop (Read (Journal journal))) answers report is
  always_refused (Read (Make make)) answers report refused = absurd refused

  -- ---- what is saved

  pub outputs_are_named : (reading : Reading) → Answered reading → AreNamed reading
  outputs_are_named (Refused fault) answers = none_named (Refused fault) answers.2
  outputs_are_named (Read (Solve solve)) answers = solve_named solve answers
  outputs_are_named (Read (Falling falling)) answers = falling_named falling answers
  outputs_are_named (Read (Check check)) answers =
      verdict_named (check_task check texts) Accepts Rejects (rewritten_outputs check) (Stopped (Read (Check check))) (says_stop (Read (Check check))) answers (Read (Check check)) (λ parts text. text_named check.rewrite (rewritten_text parts text))
  outputs_are_named (Read (Journal journal)) answers = verdict_named (journal_task journal texts) AcceptsJournal RejectsJournal (λ parts text. []) (Stopped (Read (Journal journal))) (says_stop (Read (Journal journal))) answers (Read (Journal journal)) (λ parts text. tt)
  outputs_are_named (Read (Make make)) answers = none_named (Read (Make make)) (made_saves_none make answers)

  refusal_saves_none : (reading : Reading) → Answered reading → said.status ≡ 65 → said.outputs ≡ []
  refusal_saves_none (Refused fault) answers e = answers.2
  refusal_saves_none (Read (Solve solve)) answers e = solve_saves_none solve answers (λ zero. omega (arith, e, zero)) (λ one. omega (arith, e, one)) (λ two. omega (arith, e, two))
  refusal_saves_none (Read (Falling falling)) answers e = falling_saves_none falling answers e
  refusal_saves_none (Read (Check check)) answers e = refusal_saves (check_task check texts) Accepts Rejects (rewritten_outputs check) (Stopped (Read (Check check))) (says_stop (Read (Check check))) answers e
  refusal_saves_none (Read (Journal journal)) answers e = refusal_saves (journal_task journal texts) AcceptsJournal RejectsJournal (λ parts text. []) (Stopped (Read (Journal journal))) (says_stop (Read (Journal journal))) answers e
  refusal_saves_none (Read (Make make)) answers e = made_saves_none make answers

  pub refused : ReadAsSpelled → ReadingsAreSpelled → (reading : Reading) → Answered reading → RefusalHolds (Done reading)
  refused maps boards reading answers = record {
    words = of_refused Answered _ at reading answers;
    input = input_refused reading answers;
    input_exact = λ report is. either (always_refused reading answers report is);
    spelled = λ spelled e. never_refused maps boards reading texts spelled said.report (input_refused reading answers e);
    unsaved = refusal_saves_none reading answers;
  }
    where
      either : (said.status ≡ 65) ⊎ Stopped reading → (said.status ≡ 65) ⊎ (Stopped reading ⊎ IsBroken said.status)
      either (inl e) = inl e
      either (inr stop) = inr (inl stop)

      at : (fault : CommandFault) → Answered (Refused fault)
          → ((said.status ≡ 64) × IsPrinted fault said.report × Saves said []) ⊎ ((said.status ≡ 71) ⊎ (said.status ≡ 74))
      at fault done = inl done

  -- ---- completeness

  accepts_or_stops : (reading : Reading) → (said.status ≡ 0) ⊎ Stopped reading → (said.status ≡ 0) ⊎ (Stopped reading ⊎ (said.status ≡ 71))
  accepts_or_stops reading (inl zero) = inl zero
  accepts_or_stops reading (inr stop) = inr (inl stop)

  pub answered : (reading : Reading) → AnswersReading reading texts said → IsAnswered reading texts said
  answered (Refused fault) answers = inl answers.0
  answered (Read (Solve solve)) answers = solve_answered solve answers
  answered (Read (Falling falling)) answers = falling_answered falling answers
  answered (Read (Check check)) answers = λ parts certificate verdict is valid.
      accepts_or_stops (Read (Check check)) (verdict_answered (check_task check texts) Accepts Rejects (rewritten_outputs check) (Stopped (Read (Check check))) (says_stop (Read (Check check))) answers parts certificate is (λ bad. bad.3 verdict valid))
  answered (Read (Journal journal)) answers = λ parts text events is legal.
      accepts_or_stops (Read (Journal journal)) (verdict_answered (journal_task journal texts) AcceptsJournal RejectsJournal (λ parts text. []) (Stopped (Read (Journal journal))) (says_stop (Read (Journal journal))) answers parts text is (λ bad. bad.4 events legal))
  answered (Read (Make make)) answers = made_answered make answers

-- want of memory is an answer to all
pub memory_answers : (reading : Reading) (texts : List (List ℕ)) (said : Said) → said.status ≡ 71 → IsAnswered reading texts said
memory_answers (Refused fault) texts said is = inr is
memory_answers (Read (Solve solve)) texts said is = λ read task. inr (inr (inr is))
memory_answers (Read (Falling falling)) texts said is = λ read task. inr (inr (inr is))
memory_answers (Read (Check check)) texts said is = λ parts certificate verdict task valid. inr (inr is)
memory_answers (Read (Journal journal)) texts said is = λ parts text events task legal. inr (inr is)
memory_answers (Read (Make make)) texts said is = inr (inr (inr is))
