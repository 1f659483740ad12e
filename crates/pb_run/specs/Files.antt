-- Which files are loaded, and what loading one of them gives.
use Rattle.std.specs.Prelude.{◌≡◌, ℕ, ◌<◌, ◌≤◌, Option, None, Some, IfSome, List, length}
use Rattle.pb_outside.specs.Outside.{Files}
use Rattle.pb_run.specs.Asked.{Wanted}
use Rattle.pb_command.specs.Files.{file_meant}
use Rattle.pb_command.specs.declared.files.LoadedFile.{LoadedFile as WantedFile}

abbrev pub wanted_of : WantedFile → Wanted
wanted_of = file_meant

-- the text of the file was loaded, or the file is too long, if the shelf's files are known
abbrev pub LoadsText : Option Files → Wanted → (loaded : Option (List ℕ)) → Type 0
LoadsText files file None =
    IfSome files (λ told. (text : List ℕ) × (told file.name ≡ Some text)
    × (file.most < length text))
LoadsText files file (Some text) =
    (length text ≤ file.most) × IfSome files (λ told. told file.name ≡ Some text)
