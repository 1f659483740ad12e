-- The laws of this crate. Each is proved, as the contract of the public function that has its name.
use Rattle.std.specs.Prelude.{◌≡◌, ◌↔◌, ℕ, ◌<◌, ◌≤◌, ◌==◌, nat_eq, Bool, not, IsTrue, IsFalse, IsSome, List, [], Option, Some, None, length, get_or, slice_set, if◌then◌else◌}
use Rattle.std.specs.List.{IsDistinct}
use Rattle.std.specs.List.Sorted.{IsStrictlyIncreasing}
use Rattle.std.specs.Map.{keys_of}
use Rattle.pb_model.specs.declared.key.Key.{Key}
use Rattle.pb_model.specs.Key.{IsBest}
use Rattle.pb_model.specs.Space.{Space}
use Rattle.pb_model.specs.Guide.{Guide}
use Rattle.pb_model.specs.Work.{opening_store}
use Rattle.pb_model.specs.Weight.{Weight}
use Rattle.pb_model.specs.Store.{Rows, Store, HasOpened, IsQuiet, lesser}
use Rattle.pb_model.specs.Local.{AgreesOn, restriction, merged_store}
use Rattle.pb_machine.specs.declared.settings.Settings.{Settings}
use Rattle.pb_machine.specs.Blocks.{Blocks, interferes}
use Rattle.pb_machine.specs.Counts.{Counts, is_taken, is_near_hot}
use Rattle.pb_machine.specs.Choice.{IsBetter, IsRival, MayBeLeased, IsFirstChoice}
use Rattle.pb_machine.specs.Whole.{AreGone}
use Rattle.pb_lists.specs.Bundle.{Content, row_of}
use Rattle.pb_bundles.specs.Parts.{content_in, with_content, away_rows}
use Rattle.pb_bundles.specs.Homes.{HomeTable, content_at, key_at, home_rows, empty_homes, with_start, AreNoted}
use Rattle.pb_bundles.specs.Moves.{is_among, vacated, moved, put_back, IsVacant, NotesKeys}
use Rattle.pb_bundles.specs.Choosing.{IsBetterBy, IsFirstBy, IsRivalBy}
use Rattle.pb_bundles.specs.Stores.{store_of, HasKeys, TakesRows, BringsRows}

-- ---- the choice by keys is that by rows

-- If the keys are those of a store, the one block is better by them exactly if it is better by its
-- rows.
abbrev pub BettersAreByKey : Type 0
BettersAreByKey =
    (store : Store) (keys : ℕ → Option Key) → HasKeys store keys → (block other : ℕ)
    → IsBetterBy keys block other ↔ IsBetter store block other

-- A block has a key exactly if a row of it is Opened. So some block has a key exactly if some row
-- is Opened, and else the store is quiet.
abbrev pub OpenedIsByKey : Type 0
OpenedIsByKey =
    (store : Store) (keys : ℕ → Option Key) → HasKeys store keys
    → ((block : ℕ) → IsSome (keys block) ↔ HasOpened (store.rows block))
    × (((block : ℕ) × IsSome (keys block)) ↔ ((block : ℕ) × HasOpened (store.rows block)))
    × ((((block : ℕ) × IsSome (keys block)) → ⊥) ↔ IsQuiet store)

-- The rival of a block by the keys is its rival, if the blocks near are those that interfere with
-- it.
abbrev pub RivalsAreByKey : Type 0
RivalsAreByKey =
    (blocks : Blocks) (store : Store) (keys : ℕ → Option Key) (near : ℕ → Bool) (block : ℕ)
    (rival : Option ℕ) → HasKeys store keys
    → ((other : ℕ) → near other ≡ interferes blocks block other)
    → ((other : ℕ) → IsTrue (near other) → other < blocks.count)
    → IsRivalBy near keys block rival ↔ IsRival blocks store block rival

-- Let exactly those blocks pass that may be leased, apart from their rows. Then the best of them by
-- the keys is the first choice. If there is none, no block may be leased.
abbrev pub FirstChoicesAreByKey : Type 0
FirstChoicesAreByKey =
    (blocks : Blocks) (settings : Settings) (counts : Counts) (store : Store)
    (keys : ℕ → Option Key) (pass : ℕ → Bool) → HasKeys store keys
    → ((block : ℕ) → blocks.count ≤ block → keys block ≡ None)
    → ((block : ℕ) → block < blocks.count → IsTrue (pass block)
    ↔ (IsFalse (is_taken blocks settings.workers counts.leases block)
    × IsFalse (is_near_hot blocks counts.hot block) × (0 < counts.left) × (counts.end ≡ None)))
    → ((block : ℕ) → IsFirstBy pass keys (Some block)
    ↔ IsFirstChoice blocks settings counts store block)
    × (IsFirstBy pass keys None ↔ ((block : ℕ) → MayBeLeased blocks settings counts store block
    → ⊥))

-- ---- the keys that are noted are those of the rows

-- The key of a block at home is that of its first Opened row. The store may be any that has the
-- block's rows and the bundle's weight.
abbrev pub HomeKeysAreBest : Type 0
HomeKeysAreBest =
    (table : HomeTable) (store : Store) (block : ℕ) (content : Content) → AreNoted table
    → content_at table block ≡ Some content
    → content.weight ≡ store.weight
    → ((state : ℕ) → store.rows block state ≡ home_rows table block state)
    → IsBest store.weight (store.rows block) (key_at table block)

-- If all blocks are at home, at one weight, the keys are those of the rows at home.
abbrev pub KeysAtHomeAreBest : Type 0
KeysAtHomeAreBest =
    (table : HomeTable) (incumbent : Option ℕ) (weight : Weight)
    → length table.keys ≡ length table.bundles → AreNoted table
    → ((block : ℕ) → block < length table.bundles → (content : Content)
    × (content_at table block ≡ Some content) × (content.weight ≡ weight))
    → HasKeys (store_of (home_rows table) incumbent weight) (key_at table)

-- Let homes of one weight have no row, except that the block of the start was offered the start.
-- They then have the rows of the opening store, and all blocks are at home at that weight.
abbrev pub OpeningRowsAreHome : Type 0
OpeningRowsAreHome =
    (space : Space) (guide : Guide) (weight : Weight) (count : ℕ) (table : HomeTable)
    → guide.home space.start < count
    → table.bundles ≡ slice_set (empty_homes count weight).bundles (guide.home space.start)
    (Some (with_start (record { entries = []; weight = weight }) space.start
    (guide.estimate space.start)))
    → ((home state : ℕ) → home_rows table home state
    ≡ (opening_store space guide weight).rows home state)
    × ((block : ℕ) → block < count → (content : Content) × (content_at table block ≡ Some content)
    × (content.weight ≡ weight))

-- If the keys were those of a store, and some bundles' keys are noted anew, they are those of the
-- store with these bundles' rows.
abbrev pub NotedKeysAreBest : Type 0
NotedKeysAreBest =
    (store worked : Store) (scope : ℕ → Bool) (parts : List (ℕ × Content))
    (old new : List (Option Key)) → HasKeys store (λ block. get_or old block None)
    → NotesKeys parts old new → ((block : ℕ) → is_among (keys_of parts) block ≡ scope block)
    → AgreesOn scope (away_rows parts) worked.rows
    → ((block : ℕ) (content : Content) → content_in parts block ≡ Some content
    → content.weight ≡ store.weight)
    → HasKeys (merged_store scope worked store) (λ block. get_or new block None)

-- ---- the moves by rows

-- A list in strictly increasing order, as scopes are, has each block once.
abbrev pub IncreasingScopesAreDistinct : Type 0
IncreasingScopesAreDistinct =
    (scope : List ℕ) → IsStrictlyIncreasing scope → IsDistinct nat_eq scope

-- The rows that leave home are those of the scope.
abbrev pub MovesTakeRows : Type 0
MovesTakeRows =
    (list : List ℕ) (scope : ℕ → Bool) (old new : HomeTable)
    → ((block : ℕ) → is_among list block ≡ scope block) → new.bundles ≡ vacated list old.bundles
    → TakesRows scope (home_rows old) (home_rows new) (away_rows (moved list old.bundles))

-- If the bundles of some blocks left home, the places of these blocks are vacant. What is kept of
-- them may thus come back.
abbrev pub TakenPlacesAreVacant : Type 0
TakenPlacesAreVacant =
    (list : List ℕ) (old new : HomeTable) (parts : List (ℕ × Content))
    → ((block : ℕ) → IsTrue (is_among list block) → IsSome (content_at old block))
    → new.bundles ≡ vacated list old.bundles → keys_of parts ≡ list
    → (block : ℕ) → IsSome (content_in parts block) → IsVacant new.bundles block

-- The rows that come home are those of the bundles that come.
abbrev pub MovesBringRows : Type 0
MovesBringRows =
    (parts : List (ℕ × Content)) (scope : ℕ → Bool) (old new : HomeTable)
    → ((block : ℕ) → IsSome (content_in parts block) → block < length old.bundles)
    → ((block : ℕ) → is_among (keys_of parts) block ≡ scope block)
    → new.bundles ≡ put_back parts old.bundles
    → BringsRows scope (home_rows old) (home_rows new) (away_rows parts)

-- A change of one bundle that is away changes no other: the blocks stay, in their order, and each
-- other block has the same bundle.
abbrev pub ChangesAreApart : Type 0
ChangesAreApart =
    (parts : List (ℕ × Content)) (block : ℕ) (content : Content) → IsSome (content_in parts block)
    → (keys_of (with_content parts block content) ≡ keys_of parts)
    × ((other : ℕ) → content_in (with_content parts block content) other
    ≡ (if other == block then Some content else content_in parts other))
    × ((home state : ℕ) → away_rows (with_content parts block content) home state
    ≡ (if home == block then row_of content state else away_rows parts home state))

-- The rows of bundles that are away are of their blocks alone.
abbrev pub AwayRowsAreOfBlocks : Type 0
AwayRowsAreOfBlocks =
    (parts : List (ℕ × Content)) (scope : ℕ → Bool)
    → ((block : ℕ) → is_among (keys_of parts) block ≡ scope block)
    → AreGone (λ block. not (scope block)) (away_rows parts)

-- ---- the moves as stores

-- The store of the rows that are taken is the restriction to the scope.
abbrev pub TakenRowsAreRestricted : Type 0
TakenRowsAreRestricted =
    (scope : ℕ → Bool) (home left taken : Rows) (before incumbent : Option ℕ) (weight : Weight)
    → TakesRows scope home left taken
    → store_of taken incumbent weight ≡ restriction scope (store_of home before weight) incumbent

-- The store with the rows that come home is the merged one.
abbrev pub BroughtRowsAreMerged : Type 0
BroughtRowsAreMerged =
    (scope : ℕ → Bool) (home together worked : Rows) (incumbent other : Option ℕ)
    (weight worked_weight : Weight) → BringsRows scope home together worked
    → store_of together (lesser incumbent other) weight
    ≡ merged_store scope (store_of worked other worked_weight) (store_of home incumbent weight)

-- Rows that are taken and come home unchanged leave home unchanged.
abbrev pub MovesTurnBack : Type 0
MovesTurnBack =
    (scope : ℕ → Bool) (home left taken together : Rows) → TakesRows scope home left taken
    → BringsRows scope left together taken
    → (block state : ℕ) → together block state ≡ home block state
