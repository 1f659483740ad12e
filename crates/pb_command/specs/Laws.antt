-- The laws of this crate. Each is proved, as the contract of the public function that has its name.
use Rattle.std.specs.Prelude.{◌≡◌, ℕ, List, [], ◌∷◌, false, codes}
use Rattle.pb_command.specs.Names.{IsName}
use Rattle.std.specs.Str.{bytes_eq}
use Rattle.pb_command.specs.Meaning.{Refused, reading_of_words}
use Rattle.pb_command.specs.declared.refusal.CommandFault.TheVariants as fault

abbrev pub OneFileIsRefused : Type 0
OneFileIsRefused =
    (map : List ℕ) → IsName map → reading_of_words (codes "solve" ∷ codes "grid" ∷ map ∷ [])
    ≡ Refused fault.Files

abbrev pub TwoBoardsAreRefused : Type 0
TwoBoardsAreRefused = (board other : List ℕ) → IsName board → IsName other
    → reading_of_words (codes "solve" ∷ codes "tiles" ∷ board ∷ other ∷ []) ≡ Refused fault.Files

abbrev pub DomainAloneIsRefused : Type 0
DomainAloneIsRefused =
    (domain : List ℕ) → IsName domain → reading_of_words
    (codes "solve" ∷ codes "strips" ∷ domain ∷ []) ≡ Refused fault.Files

abbrev pub OtherKindIsRefused : Type 0
OtherKindIsRefused =
    (kind map : List ℕ) → IsName kind → IsName map → bytes_eq kind (codes "grid") ≡ false
    → bytes_eq kind (codes "tiles") ≡ false
    → bytes_eq kind (codes "strips") ≡ false → reading_of_words (codes "solve" ∷ kind ∷ map ∷ [])
    ≡ Refused fault.Kind

-- the number of files is tested before the weight
abbrev pub FilesComeBeforeWeight : Type 0
FilesComeBeforeWeight =
    (map : List ℕ) → IsName map → reading_of_words
    (codes "solve" ∷ codes "grid" ∷ map ∷ codes "--den" ∷ codes "2" ∷ []) ≡ Refused fault.Files

-- the weight is tested before the names
abbrev pub WeightComesBeforeNames : Type 0
WeightComesBeforeNames = (board : List ℕ) → IsName board
    → reading_of_words (codes "solve" ∷ codes "tiles" ∷ board ∷ codes "--den" ∷ codes "2"
    ∷ codes "--cert" ∷ codes "c" ∷ codes "--trace" ∷ codes "c" ∷ []) ≡ Refused fault.Weight

-- the names are tested before the engine
abbrev pub NamesComeBeforeEngine : Type 0
NamesComeBeforeEngine = (board : List ℕ) → IsName board
    → reading_of_words (codes "solve" ∷ codes "tiles" ∷ board ∷ codes "--engine" ∷ codes "hda"
    ∷ codes "--cert" ∷ codes "c" ∷ codes "--trace" ∷ codes "c" ∷ []) ≡ Refused fault.Names

-- the engine is tested before the journal of falling weights
abbrev pub EngineComesBeforeFalling : Type 0
EngineComesBeforeFalling = (board : List ℕ) → IsName board
    → reading_of_words (codes "solve" ∷ codes "tiles" ∷ board ∷ codes "--engine" ∷ codes "hda"
    ∷ codes "--falling" ∷ codes "2" ∷ codes "--trace" ∷ codes "c" ∷ []) ≡ Refused fault.Engine

-- the journal of falling weights is tested before the pattern database beside tables
abbrev pub FallingComesBeforeEstimate : Type 0
FallingComesBeforeEstimate = (board : List ℕ) → IsName board
    → reading_of_words (codes "solve" ∷ codes "tiles" ∷ board ∷ codes "--estimate"
    ∷ codes "tables" ∷ codes "--pattern" ∷ codes "1" ∷ codes "--falling" ∷ codes "2"
    ∷ codes "--trace" ∷ codes "c" ∷ []) ≡ Refused fault.Falling

-- tables beside a pattern database, with the least effort
abbrev pub TablesWithPatternAreRefused : Type 0
TablesWithPatternAreRefused = (domain problem : List ℕ) → IsName domain → IsName problem
    → reading_of_words (codes "solve" ∷ codes "strips" ∷ domain ∷ problem ∷ codes "--estimate"
    ∷ codes "tables" ∷ codes "--effort" ∷ codes "1" ∷ codes "--pattern" ∷ codes "1" ∷ [])
    ≡ Refused fault.Estimate

abbrev pub WeightOfOneHalfIsRefused : Type 0
WeightOfOneHalfIsRefused = (map scenario : List ℕ) → IsName map → IsName scenario
    → reading_of_words (codes "solve" ∷ codes "grid" ∷ map ∷ scenario ∷ codes "--num" ∷ codes "1"
    ∷ codes "--den" ∷ codes "2" ∷ []) ≡ Refused fault.Weight

abbrev pub SideOfZeroIsRefused : Type 0
SideOfZeroIsRefused =
    reading_of_words (codes "make" ∷ codes "grid" ∷ codes "0" ∷ codes "0" ∷ []) ≡ Refused fault.Size

-- a seed that is too great
abbrev pub SeedOutOfRangeIsRefused : Type 0
SeedOutOfRangeIsRefused =
    reading_of_words (codes "make" ∷ codes "grid" ∷ codes "4294967296" ∷ codes "1" ∷ [])
    ≡ Refused fault.Form
