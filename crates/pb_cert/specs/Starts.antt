-- Where the lines of the tables begin that a certificate states.
use Rattle.std.specs.Prelude.{ℕ, ⊤, Option, None, Some, List}
use Rattle.pb_table_lines.specs.Stated.{AreStarts}
use Rattle.pb_estimate.specs.Choices.{Choice, Plain, Pattern, Tables}

-- a choice of tables has the starts of their lines, and any other choice has none
abbrev pub HasStarts : Choice → Option (List ℕ) → Type 0
HasStarts Plain None = ⊤
HasStarts Plain (Some starts) = ⊥
HasStarts (Pattern number) None = ⊤
HasStarts (Pattern number) (Some starts) = ⊥
HasStarts (Tables tables) None = ⊥
HasStarts (Tables tables) (Some starts) = AreStarts tables starts
