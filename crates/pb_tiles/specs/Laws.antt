-- The laws of this crate. Each is proved, as the contract of the public function that has its name.
use Rattle.std.specs.Prelude.{◌≡◌, ◌↔◌, ℕ, List, Ok, Err}
use Rattle.pb_task.specs.declared.parts.TilesParts.{TilesParts}
use Rattle.pb_tiles.specs.declared.error.TilesError.{TilesError}
use Rattle.pb_tiles.specs.Reading.{tiles_reading}
use Rattle.pb_tiles.specs.Spelling.{SpellsTiles}
use Rattle.pb_tiles.specs.Cases.{IsCaseOf}

-- A text is read as the tiles that it spells, and as no others.
abbrev pub ReadingsAreSpelled : Type 0
ReadingsAreSpelled =
    (text : List ℕ) (tiles : TilesParts) → (tiles_reading text ≡ Ok tiles) ↔ SpellsTiles text tiles

-- A text spells one start and one goal at most.
abbrev pub SpelledTilesAreUnique : Type 0
SpelledTilesAreUnique =
    (text : List ℕ) (tiles other : TilesParts) → SpellsTiles text tiles → SpellsTiles text other
    → tiles ≡ other

-- A refusal is told only in its case.
abbrev pub RefusalsHaveTheirCase : Type 0
RefusalsHaveTheirCase =
    (text : List ℕ) (error : TilesError) → tiles_reading text ≡ Err error → IsCaseOf text error

-- In its case a refusal is told.
abbrev pub CasesAreRefused : Type 0
CasesAreRefused =
    (text : List ℕ) (error : TilesError) → IsCaseOf text error → tiles_reading text ≡ Err error
