-- The lines of a plan's actions, which are read once more where the plan is walked.
use Rattle.std.specs.Prelude.{◌≡◌, ℕ, List, [], Result, Ok, Err}
use Rattle.pb_check.specs.declared.fault.CertificateFault.{CertificateFault}
use Rattle.pb_check.specs.Reading.{actions_at}

abbrev pub actions_of : Result (List ℕ × List ℕ) CertificateFault → List ℕ
actions_of (Ok read) = read.0
actions_of (Err fault) = []

-- the actions in so many lines, from this line of the text on
abbrev pub actions_in : (count line : ℕ) → List ℕ → List ℕ
actions_in count line text = actions_of (actions_at count line text)

-- so many lines, from this line of the text on, are actions
abbrev pub AreActions : (count line : ℕ) → List ℕ → Type 0
AreActions count line text = (read : List ℕ × List ℕ) × (actions_at count line text ≡ Ok read)
