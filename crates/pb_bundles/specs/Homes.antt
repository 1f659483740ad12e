-- What a contract sees of the rows at home: the bundles that are there and the keys that were
-- noted, by block.
use Rattle.std.specs.Prelude.{◌≡◌, ℕ, ◌<◌, ◌^◌, List, [], Option, Some, None, length, get_or, replicate}
use Rattle.pb_model.specs.declared.key.Key.{Key}
use Rattle.pb_model.specs.Weight.{Weight}
use Rattle.pb_model.specs.Store.{Rows}
use Rattle.pb_model.specs.Key.{IsBest}
use Rattle.pb_model.specs.declared.row.Estimate.{Estimate}
use Rattle.pb_model.specs.Work.{offered_row}
use Rattle.pb_lists.specs.Bundle.{Content, row_of, put}
use Rattle.pb_bundles.specs.Parts.{rows_in}

pub record HomeTable : Type 0 where
  pub bundles : List (Option Content)  -- by block: its bundle, or none if that is away
  pub keys : List (Option Key)  -- by block: the key of its first Opened row when last noted

-- the content of the block's bundle, or none if the bundle isn't at home
abbrev pub content_at : HomeTable → (block : ℕ) → Option Content
content_at table block = get_or table.bundles block None

-- the key that was noted last for the block
abbrev pub key_at : HomeTable → (block : ℕ) → Option Key
key_at table block = get_or table.keys block None

-- the rows at home, by block
abbrev pub home_rows : HomeTable → Rows
home_rows table home = rows_in (content_at table home)

-- so many blocks, each with a bundle without a row
abbrev pub empty_homes : (count : ℕ) → Weight → HomeTable
empty_homes count weight =
    record {
      bundles = replicate count (Some (record { entries = []; weight = weight }));
      keys = replicate count None;
    }

-- the content after the start was offered a row of g 0, without a parent
abbrev pub with_start : Content → (start : ℕ) → Estimate → Content
with_start content start estimate =
    put content start (offered_row 0 estimate None 0 (row_of content start))

-- for each block at home the key of its first Opened row is noted
abbrev pub AreNoted : HomeTable → Type 0
AreNoted table =
    (block : ℕ) (content : Content) → content_at table block ≡ Some content
    → IsBest content.weight (row_of content) (key_at table block)

-- what is true of every table
pub record AreHomes (table : HomeTable) : Type 0 where
  pub same_count : length table.keys ≡ length table.bundles
  pub few : length table.bundles < 2 ^ 32
  pub noted : AreNoted table
