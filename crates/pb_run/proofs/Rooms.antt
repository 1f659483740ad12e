-- A `check` of a valid certificate and a `journal` of a legal one are served with little room. What
-- all such laws share is here too.
use Rattle.std.proofs.Common.{◌≡◌, inl, inr, ℕ, ◌^◌, ◌<◌, ◌≤◌, true, Option, None, Some, List, [], ◌∷◌, ◌++◌, length, Result, codes, refl, sym, ap, subst, ◌∙◌, arith, mul-le-mul_right}
use Rattle.std.specs.Fmt.{decimal}
use Rattle.std.proofs.lemmas.List.{length-append}
use Rattle.pb_model.specs.Plan.{Plan}
use Rattle.pb_model.specs.Weight.{Weight, IsWeight}
use Rattle.pb_model.specs.Texts.{line, spaced}
use Rattle.pb_outside.specs.Memory.{ShelfView, SinkView, file_of, HasFile, HasRoom, CanTake}
use Rattle.pb_machine.specs.declared.event.Event.{Event}
use Rattle.pb_task.specs.declared.parts.TaskParts.{TaskParts}
use Rattle.pb_check.specs.declared.fault.Verdict.{Verdict}
use Rattle.pb_check.specs.Judging.{verdict_of, bound_of}
use Rattle.pb_check.specs.Shown.{IsAccepted, BoundsAreLeast}
use Rattle.pb_check.specs.Spelling.{PlanFitsIfAny}
use Rattle.pb_journal.specs.Texts.{header_text, event_line, events_text}
use Rattle.pb_report.specs.Texts.{verdict_text, journal_report, stopped_grounding_report}
use Rattle.pb_command.specs.Meaning.{Reading, Read, Check, Journal, CheckMeaning, JournalMeaning}
use Rattle.pb_answer.specs.Outputs.{Output}
use Rattle.pb_answer.specs.Claims.{rewritten_outputs}
use Rattle.pb_answer.specs.Journals.{IsJournalOf}
use Rattle.pb_answer.specs.Answer.{Said, IsChecked, IsJudged, OrRefused}
use Rattle.pb_answer.specs.Stops.{StopsTexts}
use Rattle.pb_run.specs.Asked.{files_of}
use Rattle.pb_run.specs.Calls.{CanHold}
use Rattle.pb_run.specs.Answers.{AnswersReading}
use Rattle.pb_run.specs.Parted.{asks_one_part}
use Rattle.pb_run.specs.Served.{CanHandOut, CanServe}
use Rattle.pb_run.specs.InMemory.{HasRoomFor}
use Rattle.pb_run.specs.Rooms.{HasTextsAndLine, ChecksAreServed, JournalsAreServed}
use Rattle.pb_run.proofs.InMemory.{can_load, can_hold}
use Rattle.pb_run.proofs.Fitting.{one_part_fits}
use Rattle.pb_run.proofs.Stopping.{stop_says, stop_long}
use Rattle.pb_run.proofs.Lengths.{line_long, spaced_long, number_long}

-- ---- how long reports are

accepted_long : (cost bound : ℕ) → cost < 2 ^ 63 → bound < 2 ^ 63
    → length (line (spaced (codes "accepted cost") (spaced (decimal cost)
    (spaced (codes "bound") (decimal bound))))) ≤ 64
accepted_long cost bound small low =
    let whole = line_long (spaced (codes "accepted cost") (spaced (decimal cost)
    (spaced (codes "bound") (decimal bound)))) in
    let one = spaced_long (codes "accepted cost") (spaced (decimal cost)
    (spaced (codes "bound") (decimal bound))) in
    let two = spaced_long (decimal cost) (spaced (codes "bound") (decimal bound)) in
    let three = spaced_long (codes "bound") (decimal bound) in
    let costs = number_long cost small in
    let bounds = number_long bound low in
    omega (arith, whole, one, two, three, costs, bounds)

journal_long : (events : ℕ) → events < 2 ^ 63 → length (journal_report events) ≤ 64
journal_long events small =
    let whole = line_long (spaced (codes "journal") (decimal events)) in
    let one = spaced_long (codes "journal") (decimal events) in
    let digits = number_long events small in
    omega (arith, whole, one, digits)

-- ---- certificates

-- a verdict's numbers are no greater than the certificate's
verdict_long : BoundsAreLeast → (weight : Weight) (plan : Option Plan) → IsWeight weight
    → PlanFitsIfAny plan → length (verdict_text (verdict_of weight plan)) ≤ 64
verdict_long law weight None is fits = omega arith
verdict_long law weight (Some plan) is fits =
    let low : bound_of weight plan.cost ≤ plan.cost =
    (law weight plan.cost is).least plan.cost (mul-le-mul_right plan.cost is.at_least_one) in
    accepted_long plan.cost (bound_of weight plan.cost) fits.cost (omega (arith, low, fits.cost))

accepted_is_long : BoundsAreLeast → (parts : TaskParts) (certificate : List ℕ) (verdict : Verdict)
    → IsAccepted parts certificate verdict → length (verdict_text verdict) ≤ 64
accepted_is_long law parts certificate verdict is =
    subst (λ (v : Verdict). length (verdict_text v) ≤ 64) (sym is.verdict_is)
    (verdict_long law is.certificate.weight is.certificate.plan is.valid.weight
    is.spelled.fits.plan)

-- ---- journals

-- each event has a line
events_long : (journal : List Event) → length journal ≤ length (events_text journal)
events_long [] = omega arith
events_long (event ∷ journal) =
    let rest = events_long journal in
    let whole = length-append (line (event_line event)) (events_text journal) in
    let one = line_long (event_line event) in
    omega (arith, rest, whole, one)

few_events : (parts : TaskParts) (text : List ℕ) (events : ℕ) → IsJournalOf parts text events
    → events ≤ length text
few_events parts text events is =
    let lines = events_long is.finished.journal in
    let whole : length text ≡ length (header_text is.finished.settings ++ events_text is.finished.journal) =
    ap length is.finished.text in
    let sum = length-append (header_text is.finished.settings) (events_text is.finished.journal) in
    let count = is.finished.count in
    omega (arith, lines, whole, sum, count)

-- ---- what is served

same_texts : (texts others : List (List ℕ)) → ◌≡◌ {A = Option (List (List ℕ))} (Some texts) (Some others)
    → texts ≡ others
same_texts texts others e = cc

module _ (reading : Reading) (shelf : ShelfView) (sink : SinkView) (texts : List (List ℕ))
    (has : HasTextsAndLine reading shelf sink texts) where
  -- one part is asked for, and what is answered fits
  pub serves : asks_one_part reading ≡ true
      → ((said : Said) → AnswersReading reading texts said
      → CanHold (HasRoom shelf) said.outputs × CanTake sink (length said.report))
      → CanServe reading (Some (file_of shelf)) (HasFile shelf) (HasRoom shelf) (CanTake sink)
  serves one fits = (
    can_load shelf sink has.none_fails has.none_fails_to_put (files_of reading) has.files,
    λ others loaded.
        subst (λ (ts : List (List ℕ)). CanHandOut reading ts (HasRoom shelf) (CanTake sink))
        (same_texts texts others (sym has.texts_are ∙ loaded))
        (one_part_fits reading texts (HasRoom shelf) (CanTake sink) one fits),
  )

  pub takes : (n : ℕ) → n ≤ 64 → CanTake sink n
  takes n few = let line = has.line in (has.none_fails_to_put, omega (arith, few, line))

  -- a stop of grounding is one line, and saves nothing
  pub stop_fits : (said : Said) → StopsTexts reading texts said
      → CanHold (HasRoom shelf) said.outputs × CanTake sink (length said.report)
  stop_fits said stop =
      let says = stop_says reading texts said stop in (
        subst (λ (outputs : List Output). CanHold (HasRoom shelf) outputs) (sym says.2) tt,
        subst (λ (report : List ℕ). CanTake sink (length report)) (sym says.1)
            (takes (length stopped_grounding_report) stop_long),
      )

  holds : (outputs : List Output) → CanHold (HasRoomFor shelf) outputs
      → CanHold (HasRoom shelf) outputs
  holds outputs = can_hold shelf sink has.none_fails has.none_fails_to_put outputs

module _ (law : BoundsAreLeast) (check : CheckMeaning) (shelf : ShelfView) (sink : SinkView)
    (texts : List (List ℕ)) (parts : TaskParts) (certificate : List ℕ) (verdict : Verdict)
    (has : HasTextsAndLine (Read (Check check)) shelf sink texts)
    (is : IsAccepted parts certificate verdict)
    (room : CanHold (HasRoomFor shelf) (rewritten_outputs check parts certificate)) where
  verdict_fits : (said : Said) → IsChecked check parts certificate said
      → CanHold (HasRoom shelf) said.outputs × CanTake sink (length said.report)
  verdict_fits said (inl (status, saves, (other, says, judged, accepted, shows, true_of))) = (
    subst (λ (outputs : List Output). CanHold (HasRoom shelf) outputs) (sym saves)
        (holds (Read (Check check)) shelf sink texts has (rewritten_outputs check parts certificate)
        room),
    subst (λ (report : List ℕ). CanTake sink (length report)) (sym says)
        (takes (Read (Check check)) shelf sink texts has (length (verdict_text other))
        (accepted_is_long law parts certificate other accepted)),
  )
  verdict_fits said (inr (status, saves, (fault, says, judged, never))) = absurd (never verdict is)

pub checks_are_served : BoundsAreLeast → ChecksAreServed
checks_are_served law check shelf sink texts parts certificate verdict has task is room =
    serves (Read (Check check)) shelf sink texts has refl
    (λ said answers. go said answers)
  where
    go : (said : Said) → AnswersReading (Read (Check check)) texts said
        → CanHold (HasRoom shelf) said.outputs × CanTake sink (length said.report)
    go said (inl answer) =
        verdict_fits law check shelf sink texts parts certificate verdict has is room said
        (subst (λ (t : Result (TaskParts × List ℕ) (List ℕ)).
        OrRefused t (λ of. IsChecked check of.0 of.1) said) task answer)
    go said (inr stop) = stop_fits (Read (Check check)) shelf sink texts has said stop

module _ (journal : JournalMeaning) (shelf : ShelfView) (sink : SinkView) (texts : List (List ℕ))
    (parts : TaskParts) (text : List ℕ) (events : ℕ)
    (has : HasTextsAndLine (Read (Journal journal)) shelf sink texts)
    (is : IsJournalOf parts text events) (short : length text < 2 ^ 63) where
  count_fits : (said : Said) → IsJudged parts text said
      → CanHold (HasRoom shelf) said.outputs × CanTake sink (length said.report)
  count_fits said (inl (status, saves, (count, says, legal))) =
      let few = few_events parts text count legal in (
        subst (λ (outputs : List Output). CanHold (HasRoom shelf) outputs) (sym saves) tt,
        subst (λ (report : List ℕ). CanTake sink (length report)) (sym says)
            (takes (Read (Journal journal)) shelf sink texts has (length (journal_report count))
            (journal_long count (omega (arith, few, short)))),
      )
  count_fits said (inr (status, saves, (at, why, says, first, never))) = absurd (never events is)

pub journals_are_served : JournalsAreServed
journals_are_served journal shelf sink texts parts text events has task is short =
    serves (Read (Journal journal)) shelf sink texts has refl
    (λ said answers. go said answers)
  where
    go : (said : Said) → AnswersReading (Read (Journal journal)) texts said
        → CanHold (HasRoom shelf) said.outputs × CanTake sink (length said.report)
    go said (inl answer) =
        count_fits journal shelf sink texts parts text events has is short said
        (subst (λ (t : Result (TaskParts × List ℕ) (List ℕ)).
        OrRefused t (λ of. IsJudged of.0 of.1) said) task answer)
    go said (inr stop) = stop_fits (Read (Journal journal)) shelf sink texts has said stop
