-- What a contract sees of bundles that are away from home: each block with the content of its
-- bundle, in the order in which they left.
use Rattle.std.specs.Prelude.{ℕ, List, Option, Some, None, nat_eq}
use Rattle.std.specs.Map.{lookup, set_value}
use Rattle.pb_model.specs.Store.{Part, Rows}
use Rattle.pb_lists.specs.Bundle.{Content, row_of}

-- The list, and how many bundles fit in it without more memory.
pub record PartList : Type 0 where
  pub parts : List (ℕ × Content)
  pub fits : ℕ

-- the content of the block's bundle, or none if the block isn't among these
abbrev pub content_in : List (ℕ × Content) → (block : ℕ) → Option Content
content_in parts block = lookup (nat_eq block) parts

-- the block's bundle has this content, and all other bundles keep theirs
abbrev pub with_content : List (ℕ × Content) → (block : ℕ) → Content → List (ℕ × Content)
with_content parts block content = set_value (nat_eq block) parts content

-- the same of a list with its room
abbrev pub with_part : PartList → (block : ℕ) → Content → PartList
with_part list block content = record list { parts = with_content list.parts block content }

-- the rows of a bundle, or no row if there is none
abbrev pub rows_in : Option Content → Part
rows_in None state = None
rows_in (Some content) state = row_of content state

-- the rows that are away, by block
abbrev pub away_rows : List (ℕ × Content) → Rows
away_rows parts home = rows_in (content_in parts home)
