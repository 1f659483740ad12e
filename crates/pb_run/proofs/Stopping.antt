-- What a stop of grounding says.
use Rattle.std.proofs.Common.{◌≡◌, ℕ, ◌≤◌, List, [], length, arith}
use Rattle.pb_command.specs.Meaning.{Reading, Refused, Read, Solve, Falling, Check, Journal, Make}
use Rattle.pb_report.specs.Texts.{stopped_grounding_report}
use Rattle.pb_answer.specs.Answer.{Said, Says, Saves}
use Rattle.pb_answer.specs.Stops.{StopsTexts}

-- one line is printed, and nothing is saved
abbrev pub IsStop : Said → Type 0
IsStop said = (said.status ≡ 2) × Says said stopped_grounding_report × Saves said []

pub stop_says : (reading : Reading) (texts : List (List ℕ)) (said : Said) → StopsTexts reading texts said → IsStop said
stop_says (Refused fault) texts said stop = absurd stop
stop_says (Read (Solve solve)) texts said (there, stop) = (stop.status, stop.report, stop.outputs)
stop_says (Read (Falling falling)) texts said (there, stop) = (stop.status, stop.report, stop.outputs)
stop_says (Read (Check check)) texts said (text, there, stop) = (stop.status, stop.report, stop.outputs)
stop_says (Read (Journal journal)) texts said (text, there, stop) = (stop.status, stop.report, stop.outputs)
stop_says (Read (Make make)) texts said stop = absurd stop

-- its line is short
pub stop_long : length stopped_grounding_report ≤ 64
stop_long = omega arith
