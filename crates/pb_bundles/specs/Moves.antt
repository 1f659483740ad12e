-- Bundles that leave home and come back.
use Rattle.std.specs.Prelude.{◌≡◌, ℕ, ◌<◌, ◌==◌, Bool, List, [], ◌∷◌, Option, Some, None, length, get_or, slice_set, option_map, filter_map}
use Rattle.std.specs.List.{list_any}
use Rattle.pb_model.specs.declared.key.Key.{Key}
use Rattle.pb_model.specs.Key.{IsBest}
use Rattle.pb_lists.specs.Bundle.{Content, row_of}
use Rattle.pb_bundles.specs.Parts.{content_in}

-- whether the block is in the list
abbrev pub is_among : List ℕ → (block : ℕ) → Bool
is_among scope block = list_any (λ other. other == block) scope

-- the places after the bundles of these blocks left
abbrev pub vacated : (scope : List ℕ) → List (Option Content) → List (Option Content)
vacated [] bundles = bundles
vacated (block ∷ scope) bundles = vacated scope (slice_set bundles block None)

-- the bundles of these blocks, as far as they are at home, in the order of the blocks
abbrev pub moved : (scope : List ℕ) → List (Option Content) → List (ℕ × Content)
moved scope bundles =
    filter_map (λ block. option_map (λ content. (block, content)) (get_or bundles block None)) scope

-- the places after the bundles came back, each to its own
abbrev pub put_back : List (ℕ × Content) → List (Option Content) → List (Option Content)
put_back [] bundles = bundles
put_back (part ∷ parts) bundles = slice_set (put_back parts bundles) part.0 (Some part.1)

-- there is such a place, and no bundle is there
abbrev pub IsVacant : List (Option Content) → (block : ℕ) → Type 0
IsVacant bundles block = (block < length bundles) × (get_or bundles block None ≡ None)

-- the key of this content's first Opened row is noted for the block, or that none is Opened; the
-- keys of all other blocks stay
pub record NotesKey (content : Content) (old new : List (Option Key)) (block : ℕ) : Type 0 where
  pub key : Option Key
  pub best : IsBest content.weight (row_of content) key
  pub set : new ≡ slice_set old block key

-- For each of these blocks the key of the first Opened row is noted, or that none is Opened; the
-- keys of all other blocks stay.
pub record NotesKeys (parts : List (ℕ × Content)) (old new : List (Option Key)) : Type 0 where
  pub noted : (block : ℕ) (content : Content) → content_in parts block ≡ Some content
      → IsBest content.weight (row_of content) (get_or new block None)
  pub others : (block : ℕ) → content_in parts block ≡ None
      → get_or new block None ≡ get_or old block None
  pub count : length new ≡ length old
