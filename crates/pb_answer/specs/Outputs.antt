-- Files that are saved.
use Rattle.std.specs.Prelude.{ℕ, List}

-- a file that is saved: its name and its text
pub record Output : Type 0 where
  pub name : List ℕ
  pub text : List ℕ

abbrev pub output : (name text : List ℕ) → Output
output name text = record { name = name; text = text }
