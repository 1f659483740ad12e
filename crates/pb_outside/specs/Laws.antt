-- The laws of this crate. Each is proved, as the contract of the public function that has its name.
use Rattle.std.specs.Prelude.{◌≡◌, ℕ, ◌+◌, ◌-◌, ◌≤◌, Some, List, [], length}
use Rattle.pb_outside.specs.Calls.{Call, SaveText, FailToSave}
use Rattle.pb_outside.specs.Memory.{ShelfView, SinkView, file_of, room_of, HasFile, HasRoom, CanTake}

-- To save a text takes at most one call more than the text has bytes, also if the last call failed.
-- The text thus bounds the calls. This law doesn't say how long a text may be.
pub record SavesAreBounded : Type 0 where
  pub saved : (calls : List Call) (name text : List ℕ) → SaveText calls name text
      → length calls ≤ length text + 1
  pub failed : (calls : List Call) (name text : List ℕ) → FailToSave calls name text
      → length calls ≤ length text + 1

-- What the fakes promise if no call is listed to fail. A shelf in memory can load each file that it
-- has, and can hold under each name as many bytes as room is reserved for. A sink in memory can
-- take as many bytes as have room.
pub record MemoryServes : Type 0 where
  pub loads : (shelf : ShelfView) (name bytes : List ℕ) → shelf.calls.listed ≡ []
      → file_of shelf name ≡ Some bytes → HasFile shelf name
  pub holds : (shelf : ShelfView) (name : List ℕ) (room n : ℕ) → shelf.calls.listed ≡ []
      → room_of shelf name ≡ Some room → n ≤ room → HasRoom shelf name n
  pub takes : (sink : SinkView) (n : ℕ) → sink.calls.listed ≡ [] → n ≤ sink.room - length sink.bytes
      → CanTake sink n
