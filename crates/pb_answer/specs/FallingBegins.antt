-- How a search with falling weights begins.
use Rattle.std.specs.Prelude.{◌≡◌, ℕ, Option, List, [], Ok, Err, ⊤}
use Rattle.pb_machine.specs.Machine.{Machine}
use Rattle.pb_tables.specs.Tables.{TablesValue}
use Rattle.pb_command.specs.Meaning.{FallingMeaning, Read, Falling}
use Rattle.pb_answer.specs.Loaded.{solve_task}
use Rattle.pb_answer.specs.Searches.{IsChoiceAsked}
use Rattle.pb_answer.specs.Answer.{said_of, IsRefused}
use Rattle.pb_answer.specs.Stops.{StopsTexts}
use Rattle.pb_answer.specs.FallingRuns.{IsFalling}
use Rattle.pb_answer.specs.declared.begin.FallingBegin.{FallingBegin}
use Rattle.pb_answer.specs.declared.begin.FallingBegin.TheVariants.{Search, Refused, Stopped}

-- The texts spell a task, and its first run was made, as the words ask for it and by a choice of an
-- estimate that they ask for. Or they are refused with the report that says why. Or grounding was
-- stopped.
abbrev pub BeginsFalling : FallingMeaning → (texts : List (List ℕ)) → FallingBegin → Type 0
BeginsFalling falling texts (Search search) =
    (search.solve ≡ falling.solve) × (search.steps ≡ falling.steps)
    × ((given : Option TablesValue) × (solve_task falling.solve texts ≡ Ok (search.parts, given))
    × IsChoiceAsked falling.solve given search.parts search.graph.choice)
    × ((machine : Machine) × IsFalling [] machine search)
BeginsFalling falling texts (Refused answer) =
    (report : List ℕ) × (solve_task falling.solve texts ≡ Err report)
    × IsRefused report (said_of answer)
BeginsFalling falling texts (Stopped answer) = StopsTexts (Read (Falling falling)) texts (said_of answer)

-- an answer in place of a search says how many looks were taken
abbrev pub SaysLooks : FallingBegin → (looks : ℕ) → Type 0
SaysLooks (Search search) looks = ⊤
SaysLooks (Refused answer) looks = (said_of answer).looks ≡ looks
SaysLooks (Stopped answer) looks = (said_of answer).looks ≡ looks
