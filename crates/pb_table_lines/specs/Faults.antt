-- What a function returns that follows a definition which ends with a line.
use Rattle.std.specs.Prelude.{◌≡◌, ℕ, List, [], ◌∷◌, ◌++◌, Result, Ok, Err, ⊤}
use Rattle.pb_table_lines.specs.declared.fault.LinesError.{LinesError}
use Rattle.pb_table_lines.specs.declared.fault.LinesError.TheVariants as errors
use Rattle.pb_table_lines.specs.Reading.{StatedImages}

-- the line is the one that is given; nothing is said if memory ran out
abbrev pub Fails : {Y : Type 0} → LinesError → (given : Result Y ℕ) → Type 0
Fails errors.Memory given = ⊤
Fails (errors.Unspelled line) given = given ≡ Err line

-- what a function returned, seen by `view`, is what is given, unless memory ran out
abbrev pub Gives : {X Y : Type 0} → (view : X → Y) → Result X LinesError → (given : Result Y ℕ)
    → Type 0
Gives view (Ok x) given = given ≡ Ok (view x)
Gives view (Err e) given = Fails e given

-- a function added what is given at the end of a list, unless memory ran out
abbrev pub Adds : {X : Type 0} → Result X LinesError → (old new : List ℕ)
    → (given : Result (List ℕ) ℕ) → Type 0
Adds (Ok x) old new given = (added : List ℕ) × (given ≡ Ok added) × (new ≡ old ++ added)
Adds (Err e) old new given = Fails e given

-- a function added an image and its values, unless memory ran out
abbrev pub AddsImage : {X : Type 0} → Result X LinesError → (old new : StatedImages)
    → (given : Result (ℕ × List ℕ) ℕ) → Type 0
AddsImage (Ok x) old new given =
    (image : ℕ) × (values : List ℕ) × (given ≡ Ok (image, values))
    × (new.listed ≡ old.listed ++ image ∷ []) × (new.values ≡ old.values ++ values)
AddsImage (Err e) old new given = Fails e given
