-- What a contract sees of a bundle: the rows of one part of a store (the open and closed list of a
-- block), in order of insertion, and the weight of the search.
use Rattle.std.specs.Prelude.{◌≡◌, ◌≢◌, ℕ, List, Option, Some, nat_eq}
use Rattle.std.specs.Map.{lookup}
use Rattle.indexmap.specs.IndexMap.{insert_entry}
use Rattle.pb_model.specs.declared.row.Row.{Row}
use Rattle.pb_model.specs.declared.row.Status.{Status}
use Rattle.pb_model.specs.declared.row.Status.TheVariants.{Opened}
use Rattle.pb_model.specs.Weight.{Weight}
use Rattle.pb_model.specs.Store.{Part, Store}
use Rattle.pb_model.specs.Local.{one_part_store}
use Rattle.pb_model.specs.Work.{with_status}

pub record Content : Type 0 where
  pub entries : List (ℕ × Row)  -- each state that has a row, with its row, in order of insertion
  pub weight : Weight

-- the row of a state in a list of entries
abbrev pub row_in : List (ℕ × Row) → Part
row_in entries state = lookup (nat_eq state) entries

-- the content as a part of a store
abbrev pub row_of : Content → Part
row_of content state = row_in content.entries state

-- the store of a search that has all its rows in this bundle
abbrev pub store_of : Content → (incumbent : Option ℕ) → Store
store_of content incumbent = one_part_store (row_of content) incumbent content.weight

-- the row becomes that of its state: a state that has one keeps its place, and a new one goes last
abbrev pub put : Content → ℕ → Row → Content
put content state row = record content { entries = insert_entry nat_eq content.entries state row }

-- this state has this row, and all other states keep theirs
pub record SetsRow (old new : Part) (state : ℕ) (row : Row) : Type 0 where
  pub here : new state ≡ Some row
  pub others : (other : ℕ) → other ≢ state → new other ≡ old other

-- this state's row has this status, and all else stays
pub record SetsStatus (old new : Part) (state : ℕ) (status : Status) : Type 0 where
  pub here : new state ≡ with_status status (old state)
  pub others : (other : ℕ) → other ≢ state → new other ≡ old other

-- the state has a row, and it is Opened
abbrev pub IsOpened : Option Row → Type 0
IsOpened found = (row : Row) × (found ≡ Some row) × (row.status ≡ Opened)
