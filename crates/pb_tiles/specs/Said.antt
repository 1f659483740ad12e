-- What the words of a text have said.
use Rattle.std.specs.Prelude.{ℕ, Bool, List}

-- the numbers before the word `goal`, whether that word is there, and the numbers after it
pub record Said : Type 0 where
  pub before : List ℕ
  pub has_goal : Bool
  pub behind : List ℕ
