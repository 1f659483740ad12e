-- By what the rows of a certificate are judged.
use Rattle.std.specs.Prelude.{ℕ, List, Option, All, IsTrue}
use Rattle.pb_model.specs.Space.{Space}
use Rattle.pb_model.specs.Weight.{Weight}
use Rattle.pb_model.specs.Certificate.{Line}
use Rattle.pb_task.specs.Parts.{space_of}
use Rattle.pb_estimate.specs.Estimates.{estimate_by}
use Rattle.pb_check.specs.declared.fault.CertificateFault.{CertificateFault}
use Rattle.pb_check.specs.declared.rows_to_judge.RowsToJudge.{RowsToJudge}
use Rattle.pb_check.specs.Judging.{row_fault}
use Rattle.pb_check.specs.Pieces.{row_fault_at}

-- the stated weight
abbrev pub weight_of : RowsToJudge → Weight
weight_of judged = record { num = judged.weight.now.num; den = judged.weight.now.den }

-- the states of the rows are states of the space
abbrev pub AreStates : Space → List Line → Type 0
AreStates space rows = All (λ (row : Line). IsTrue (space.is_state row.state)) rows

-- the fault of a row in this line, judged against all rows
abbrev pub fault_by : RowsToJudge → (line : ℕ) → Line → Option CertificateFault
fault_by judged =
    row_fault (space_of judged.task.now) (estimate_by judged.task.now judged.choice.now)
    (weight_of judged) judged.best judged.rows.now

-- the fault of the row in a place, judged against all rows
abbrev pub fault_in_place : RowsToJudge → (place : ℕ) → Option CertificateFault
fault_in_place judged =
    row_fault_at judged.task.now judged.choice.now (weight_of judged) judged.best judged.line
    judged.rows.now
