-- What is handed out of a search with falling weights, as the answer to the texts of its task.
use Rattle.std.proofs.Common.{◌≡◌, inl, inr, ℕ, Option, List, [], Result, Ok, refl, sym, subst}
use Rattle.pb_machine.specs.Machine.{Machine}
use Rattle.pb_outside.specs.Outside.{Files}
use Rattle.pb_outside.specs.Calls.{Call}
use Rattle.pb_task.specs.declared.parts.TaskParts.{TaskParts}
use Rattle.pb_tables.specs.Tables.{TablesValue}
use Rattle.pb_command.specs.Meaning.{Reading, Refused, Read, Solve, Falling, Check, Journal, Make, SolveMeaning, FallingMeaning}
use Rattle.pb_answer.specs.Loaded.{solve_task}
use Rattle.pb_answer.specs.Searches.{IsChoiceAsked, ByAskedChoice}
use Rattle.pb_answer.specs.Answer.{Said, OrRefused}
use Rattle.pb_answer.specs.Parts.{AnswerPart, AreAnswerParts}
use Rattle.pb_answer.specs.Falling.{AreClaimParts, IsFallingFound}
use Rattle.pb_answer.specs.FallingRuns.{FallingValue, IsFalling}
use Rattle.pb_run.specs.Answers.{AnswersReading}
use Rattle.pb_run.specs.Parted.{OfTaskOr, AreAllParts, AreFirstParts, AreDecided}
use Rattle.pb_run.specs.Served.{HandsOutIfPartsFit}
use Rattle.pb_run.specs.PartByPart.{EndsParts, HandsOutTexts}
use Rattle.pb_run.specs.FallingParts.{AreFallingParts, EndsFalling, HandsOutFalling, ClaimsIfTheyFit}
use Rattle.pb_run.specs.Begun.{IsFirstRun}
use Rattle.pb_run.specs.declared.output.Ending.{Ending}
use Rattle.pb_run.specs.declared.output.Ending.TheVariants.{Done, NotSaved, NotPrinted}

-- ---- a search of the task that the texts spell

module _ (falling : FallingMeaning) (texts : List (List ℕ)) (search : FallingValue) (solve_is : search.solve ≡ falling.solve) (steps_is : search.steps ≡ falling.steps)
    (given : Option TablesValue) (task_is : solve_task falling.solve texts ≡ Ok (search.parts, given))
    (by : IsChoiceAsked falling.solve given search.parts search.graph.choice) (looks : ℕ) where
  abbrev asked : Reading
  asked = Read (Falling falling)

  -- what holds of what the words ask for
  as_asked : (P : SolveMeaning → ℕ → Type 0) → P search.solve search.steps → P falling.solve falling.steps
  as_asked P h = subst (λ (s : SolveMeaning). P s falling.steps) solve_is (subst (λ (k : ℕ). P search.solve k) steps_is h)

  -- the same that is said, with the looks of this call
  abbrev counted : Said → Said
  counted said = record { status = said.status; report = said.report; outputs = said.outputs; looks = looks }

  count : (said : Said) (parts : List AnswerPart) → IsFallingFound search.solve search.graph.choice search.parts search.steps said parts
      → IsFallingFound search.solve search.graph.choice search.parts search.steps (counted said) parts
  count said parts found = record {
    report = found.report;
    outputs = found.outputs;
    abstraction = found.abstraction;
    graph_of = found.graph_of;
    finest = found.finest;
    found = found.found;
  }

  all_answer : (said : Said) (parts : List AnswerPart) → IsFallingFound search.solve search.graph.choice search.parts search.steps said parts
      → AnswersReading asked texts (counted said) × AreAllParts asked texts (counted said) parts
  all_answer said parts is_found =
      let found = as_asked (λ solve steps. IsFallingFound solve search.graph.choice search.parts steps (counted said) parts) (count said parts is_found) in (
        inl (subst (λ (task : Result (TaskParts × Option TablesValue) (List ℕ)). OrRefused task
            (λ (read : TaskParts × Option TablesValue) (all : Said). ByAskedChoice falling.solve read
            (λ choice t. (ps : List AnswerPart) × IsFallingFound falling.solve choice t falling.steps all ps)) (counted said))
            (sym task_is) (search.graph.choice, by, (parts, found))),
        inr (subst (λ (task : Result (TaskParts × Option TablesValue) (List ℕ)). OfTaskOr task (AreAnswerParts (counted said) parts)
            (λ (read : TaskParts × Option TablesValue). ByAskedChoice falling.solve read
            (λ choice t. IsFallingFound falling.solve choice t falling.steps (counted said) parts)))
            (sym task_is) (search.graph.choice, by, found)),
      )

  first_parts : (parts : List AnswerPart) → AreClaimParts search.solve search.graph.choice search.parts search.steps parts → AreFirstParts asked texts parts
  first_parts parts claims =
      inr ((search.parts, given), task_is, (search.graph.choice, by, as_asked (λ solve steps. AreClaimParts solve search.graph.choice search.parts steps parts) claims))

  decided_parts : (parts : List AnswerPart) → AreFallingParts search.solve search.graph.choice search.parts search.steps parts → AreDecided asked texts looks parts
  decided_parts parts (inl (said, found)) = let all = all_answer said parts found in inl (counted said, all.0, all.1, refl)
  decided_parts parts (inr claims) = inr (first_parts parts claims)

  ends_parts : (ending : Ending) (parts : List AnswerPart) (status : ℕ) → EndsFalling search.solve search.graph.choice search.parts search.steps ending parts status → EndsParts asked texts ending parts status looks
  ends_parts Done parts status (inl (said, found, is)) = let all = all_answer said parts found in inl (counted said, all.0, all.1, is, refl)
  ends_parts Done parts status (inr (is, claims)) = inr (is, first_parts parts claims)
  ends_parts NotSaved parts status (is, decided) = (is, decided_parts parts decided)
  ends_parts NotPrinted parts status (is, decided) = (is, decided_parts parts decided)

  fit_parts : (status : ℕ) (can_hold : List ℕ → ℕ → Type 0) (can_take : ℕ → Type 0) → ClaimsIfTheyFit search.solve search.graph.choice search.parts search.steps status can_hold can_take
      → HandsOutIfPartsFit asked texts status looks can_hold can_take
  fit_parts status can_hold can_take (inl is) = inl is
  fit_parts status can_hold can_take (inr (inl all)) =
      let answer = all_answer all.said all.parts all.found in
      inr (inl (record { said = counted all.said; answers = answer.0; looks_is = refl; parts = all.parts; parts_are = answer.1; if_they_fit = all.if_they_fit }))
  fit_parts status can_hold can_take (inr (inr first)) =
      inr (inr (record { broke = first.broke; parts = first.parts; parts_are = first_parts first.parts first.parts_are; do_not_fit = first.do_not_fit }))

-- ---- by what was asked for

pub first_run : (reading : Reading) (texts : List (List ℕ)) (search : FallingValue) → IsFirstRun reading texts search → (machine : Machine) × IsFalling [] machine search
first_run (Refused fault) texts search first = absurd first
first_run (Read (Solve solve)) texts search first = absurd first
first_run (Read (Falling falling)) texts search (solve_is, steps_is, read, run) = run
first_run (Read (Check check)) texts search first = absurd first
first_run (Read (Journal journal)) texts search first = absurd first
first_run (Read (Make make)) texts search first = absurd first

module _ (files files' : Option Files) (shelf shelf' sink sink' : List Call) (written written' : Option (List ℕ)) (status looks : ℕ) where
  pub claims_handed : (reading : Reading) (texts : List (List ℕ)) (search : FallingValue) → IsFirstRun reading texts search
      → HandsOutFalling search.solve search.graph.choice search.parts search.steps status files files' shelf shelf' sink sink' written written'
      → HandsOutTexts reading texts status looks files files' shelf shelf' sink sink' written written'
  claims_handed (Refused fault) texts search first hands = absurd first
  claims_handed (Read (Solve solve)) texts search first hands = absurd first
  claims_handed (Read (Falling falling)) texts search (solve_is, steps_is, (given, task_is, by), run) hands = record {
    ending = hands.ending;
    parts = hands.parts;
    hands = hands.hands;
    ends = ends_parts falling texts search solve_is steps_is given task_is by looks hands.ending hands.parts status hands.ends;
  }
  claims_handed (Read (Check check)) texts search first hands = absurd first
  claims_handed (Read (Journal journal)) texts search first hands = absurd first
  claims_handed (Read (Make make)) texts search first hands = absurd first

pub claims_fit : (reading : Reading) (texts : List (List ℕ)) (search : FallingValue) → IsFirstRun reading texts search
    → (status looks : ℕ) (can_hold : List ℕ → ℕ → Type 0) (can_take : ℕ → Type 0) → ClaimsIfTheyFit search.solve search.graph.choice search.parts search.steps status can_hold can_take
    → HandsOutIfPartsFit reading texts status looks can_hold can_take
claims_fit (Refused fault) texts search first status looks can_hold can_take fit = absurd first
claims_fit (Read (Solve solve)) texts search first status looks can_hold can_take fit = absurd first
claims_fit (Read (Falling falling)) texts search (solve_is, steps_is, (given, task_is, by), run) status looks can_hold can_take fit =
    fit_parts falling texts search solve_is steps_is given task_is by looks status can_hold can_take fit
claims_fit (Read (Check check)) texts search first status looks can_hold can_take fit = absurd first
claims_fit (Read (Journal journal)) texts search first status looks can_hold can_take fit = absurd first
claims_fit (Read (Make make)) texts search first status looks can_hold can_take fit = absurd first
