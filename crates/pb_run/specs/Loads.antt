-- What loading the files of a command line gives.
use Rattle.std.specs.Prelude.{◌≡◌, ℕ, Option, None, Some, IfSome, List, [], ◌∷◌, length, if◌then◌else◌, nat_le, option_map}
use Rattle.pb_outside.specs.Outside.{Files}
use Rattle.pb_run.specs.Asked.{Wanted}

-- the text of a file before those of the next ones, if it is no longer than it may be; else no more
-- is loaded
abbrev pub load_before : (most : ℕ) → Option (List ℕ) → (rest : Option (List (List ℕ)))
    → Option (List (List ℕ))
load_before most None rest = None
load_before most (Some text) rest =
    if nat_le (length text) most then option_map (λ texts. text ∷ texts) rest else Some []

-- the texts of the files, loaded one after another up to the first that is too long; none if a file
-- isn't there
abbrev pub loads_of : Files → List Wanted → Option (List (List ℕ))
loads_of told [] = Some []
loads_of told (file ∷ files) = load_before file.most (told file.name) (loads_of told files)

-- these texts were loaded of the files; if the shelf's files are known, they are the texts of those
abbrev pub AreLoaded : Option Files → List Wanted → (texts : List (List ℕ)) → Type 0
AreLoaded files wanted texts = IfSome files (λ told. loads_of told wanted ≡ Some texts)
