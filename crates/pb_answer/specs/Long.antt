-- A file that is too long is refused with the line of its own.
use Rattle.std.specs.Prelude.{◌≡◌, ℕ, Option, None, Some, List, [], ◌∷◌}
use Rattle.pb_model.specs.Texts.{line}
use Rattle.pb_command.specs.Files.{LoadedFile, loaded_files}
use Rattle.pb_command.specs.Meaning.{Meaning, Read}
use Rattle.pb_answer.specs.Loaded.{RefusesTexts}

-- the line of the first of these files that was not loaded
abbrev pub fault_of : List LoadedFile → (texts : List (List ℕ)) → Option (List ℕ)
fault_of [] texts = None
fault_of (file ∷ files) [] = Some (line file.fault)
fault_of (file ∷ files) (text ∷ texts) = fault_of files texts

abbrev pub LongFilesAreRefused : Type 0
LongFilesAreRefused =
    (meaning : Meaning) (texts : List (List ℕ)) (report : List ℕ)
    → fault_of (loaded_files meaning) texts ≡ Some report → RefusesTexts (Read meaning) texts report
