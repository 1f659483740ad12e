-- Rows of a text of which those behind the first that does not rise may be left out.
use Rattle.std.specs.Prelude.{◌≡◌, ◌≤◌, ◌-◌, ℕ, Bool, true, false, List, ◌++◌, length, slice_index, Result, Ok, Err}
use Rattle.pb_model.specs.Certificate.{Line}
use Rattle.pb_check.specs.declared.kept.KeptRows.{KeptRows}
use Rattle.pb_check.specs.declared.front.Spelled.{Spelled}
use Rattle.pb_check.specs.declared.fault.CertificateFault.{CertificateFault}
use Rattle.pb_check.specs.declared.fault.CheckError.{CheckError}
use Rattle.pb_check.specs.Faults.{Fails}
use Rattle.pb_check.specs.Reading.{Text}
use Rattle.pb_check.specs.Rows.{rows_of, rises_at}
use Rattle.pb_check.specs.Fronts.{RowsThen}

-- the state of some row is not above that of the row before it
abbrev pub Falls : List Line → Type 0
Falls rows = (i : ℕ) × (rises_at rows i ≡ false)

-- the first of other states is not above the last of some
abbrev pub FallsBetween : (states others : List ℕ) → Type 0
FallsBetween states others =
    (1 ≤ length states) × (1 ≤ length others)
    × (slice_index others 0 ≤ slice_index states (length states - 1))

-- the rows that are kept of all: these, or if one doesn't rise, some first ones with it
abbrev pub AreKeptBy : (falls : Bool) → (kept all : List Line) → Type 0
AreKeptBy false kept all = kept ≡ all
AreKeptBy true kept all = Falls kept × ((more : List Line) × (all ≡ kept ++ more))

-- the arrays are those of rows that are kept of all, with so many words a state
pub record Keeps (rows : KeptRows) (width : ℕ) (all : List Line) : Type 0 where
  pub width_is : rows.states.width ≡ width
  pub costs : length rows.costs.items ≡ length rows.states.numbers
  pub closed : length rows.closed.items ≡ length rows.states.numbers
  pub rows_are : AreKeptBy rows.falls
      (rows_of rows.states.numbers rows.costs.items rows.closed.items) all

-- what was found of rows at the front of a text: those that are kept, how many there are, and how
-- many bytes are left behind them
pub record IsSpelledAs (spelled : Spelled) (words : ℕ) (found : RowsThen) : Type 0 where
  pub rows : Keeps spelled.rows words found.0
  pub count_is : spelled.count ≡ length found.0
  pub left_is : spelled.left ≡ length found.1

-- ---- a text with such rows

-- what a text says, with the rows that are kept
pub record IsKeptText (kept text : Text) : Type 0 where
  pub spelling : kept.spelling ≡ text.spelling
  pub weight : kept.certificate.weight ≡ text.certificate.weight
  pub plan : kept.certificate.plan ≡ text.certificate.plan
  pub first : kept.first ≡ text.first
  pub falls : Bool
  pub lines : AreKeptBy falls kept.certificate.lines text.certificate.lines

-- what a function returned is a text that was given, with the rows that are kept, unless memory ran
-- out
abbrev pub GivesKept : Result Text CheckError → (given : Result Text CertificateFault) → Type 0
GivesKept (Ok kept) given = (text : Text) × (given ≡ Ok text) × IsKeptText kept text
GivesKept (Err e) given = Fails e given
