-- What contracts see of the outside in memory.
use Rattle.std.specs.Prelude.{◌≡◌, ◌≢◌, ℕ, ◌+◌, ◌-◌, ◌<◌, ◌≤◌, min, Bool, false, ◌||◌, IsTrue, is_some, is_none, IsSome, IsSomeAnd, Option, None, Some, List, [], ◌∷◌, ◌++◌, length, take, if◌then◌else◌, ◌==◌, find, unwrap_or}
use Rattle.std.specs.Option.{option_map, option_and_then}
use Rattle.std.specs.Str.{bytes_eq}
use Rattle.pb_outside.specs.Outside.{counted, Files}
use Rattle.pb_outside.specs.Calls.{Call}
use Rattle.pb_outside.specs.declared.shelf.Load.{Load}
use Rattle.pb_outside.specs.declared.shelf.Load.TheVariants.{Failed, TooLong, Memory}
use Rattle.pb_outside.specs.declared.calls.ListedFailure.{ListedFailure}

-- the calls so far, how often they failed, and those that are to fail
pub record CallsView : Type 0 where
  pub count : ℕ
  pub faults : ℕ
  pub listed : List ListedFailure

-- how many bytes the call of this number keeps, if it is to fail: the first in the list decides
abbrev pub kept_at : List ListedFailure → ℕ → Option ℕ
kept_at [] call = None
kept_at (failure ∷ listed) call =
    if failure.call == call then Some failure.kept else kept_at listed call

-- the same of the next call
abbrev pub kept_next : CallsView → Option ℕ
kept_next calls = kept_at calls.listed (counted calls.count)

-- one call more, which was done or failed
abbrev pub after_call : CallsView → Bool → CallsView
after_call calls done =
    record {
      count = counted calls.count;
      faults = if done then calls.faults
          else counted calls.faults;
      listed = calls.listed;
    }

-- one more call that is to fail
abbrev pub with_listed : CallsView → ℕ → ℕ → CallsView
with_listed calls call kept =
    record calls { listed = calls.listed ++ record { call = call; kept = kept } ∷ [] }

-- bytes, and how many there may be
pub record BufferView : Type 0 where
  pub bytes : List ℕ
  pub room : ℕ

-- how many bytes of a longer piece are kept if this many have room
abbrev pub most_kept : Option ℕ → ℕ → ℕ
most_kept None left = left
most_kept (Some kept) left = min kept left

-- a sink's bytes, how many there may be, how many calls there were, and its transcript
pub record SinkView : Type 0 where
  pub bytes : List ℕ
  pub room : ℕ
  pub calls : CallsView
  pub transcript : List Call

-- the next call isn't listed, and so many bytes have room
abbrev pub PutSucceeds : SinkView → ℕ → Type 0
PutSucceeds sink len = (kept_next sink.calls ≡ None) × (len ≤ sink.room - length sink.bytes)

-- nothing is to fail, and so many bytes have room
abbrev pub CanTake : SinkView → ℕ → Type 0
CanTake sink n = (sink.calls.listed ≡ []) × (n ≤ sink.room - length sink.bytes)

-- what is kept under a name: the bytes of its file, if there is one, and how many there may be, if
-- room is reserved
pub record PlaceView : Type 0 where
  pub name : List ℕ
  pub bytes : Option (List ℕ)
  pub room : Option ℕ

abbrev pub is_named : List ℕ → PlaceView → Bool
is_named name place = bytes_eq place.name name

abbrev pub place_of : List PlaceView → List ℕ → Option PlaceView
place_of places name = find (is_named name) places

-- a shelf's places, how many calls there were, and its transcript
pub record ShelfView : Type 0 where
  pub places : List PlaceView
  pub calls : CallsView
  pub transcript : List Call

-- the file of this name
abbrev pub file_in : List PlaceView → List ℕ → Option (List ℕ)
file_in places name = option_and_then (λ place. place.bytes) (place_of places name)

abbrev pub file_of : ShelfView → Files
file_of shelf name = file_in shelf.places name

-- the room that is reserved for this name
abbrev pub room_in : List PlaceView → List ℕ → Option ℕ
room_in places name = option_and_then (λ place. place.room) (place_of places name)

abbrev pub room_of : ShelfView → List ℕ → Option ℕ
room_of shelf name = room_in shelf.places name

abbrev pub KeepsFiles : ShelfView → ShelfView → Type 0
KeepsFiles old new = (name : List ℕ) → file_of new name ≡ file_of old name

abbrev pub KeepsRooms : ShelfView → ShelfView → Type 0
KeepsRooms old new = (name : List ℕ) → room_of new name ≡ room_of old name

-- the rooms of all other names stay
abbrev pub KeepsOtherRooms : ShelfView → ShelfView → List ℕ → Type 0
KeepsOtherRooms old new name =
    (other : List ℕ) → other ≢ name → room_of new other ≡ room_of old other

-- nothing is to fail, and room for so many bytes is reserved for the name
abbrev pub HasRoom : ShelfView → List ℕ → ℕ → Type 0
HasRoom shelf name n = (shelf.calls.listed ≡ []) × IsSomeAnd (room_of shelf name) (λ room. n ≤ room)

-- nothing is to fail, and the file is there
abbrev pub HasFile : ShelfView → List ℕ → Type 0
HasFile shelf name = (shelf.calls.listed ≡ []) × IsSome (file_of shelf name)

-- the next call isn't listed, and room is reserved for the name
abbrev pub CreateSucceeds : ShelfView → List ℕ → Type 0
CreateSucceeds shelf name = (kept_next shelf.calls ≡ None) × IsSome (room_of shelf name)

-- the next call isn't listed, the file is there, and so many bytes have room after its bytes
abbrev pub AppendSucceeds : ShelfView → List ℕ → ℕ → Type 0
AppendSucceeds shelf name len =
    (kept_next shelf.calls ≡ None) × IsSomeAnd (file_of shelf name)
    (λ bytes. len ≤ unwrap_or (room_of shelf name) 0 - length bytes)

-- so many bytes of the piece come after the bytes that the file had, if the file is there
abbrev pub GrowsBy : (kept : ℕ) → (old new : Option (List ℕ)) → (piece : List ℕ) → Type 0
GrowsBy kept old new piece =
    (kept ≤ length piece) × (new ≡ option_map (λ bytes. bytes ++ take kept piece) old)

-- how many bytes of a longer piece the next call keeps after a file of these bytes
abbrev pub append_keeps : ShelfView → List ℕ → List ℕ → ℕ
append_keeps shelf name bytes =
    most_kept (kept_next shelf.calls) (unwrap_or (room_of shelf name) 0 - length bytes)

-- the file with what the next call keeps of the piece
abbrev pub grown_file : ShelfView → List ℕ → List ℕ → Option (List ℕ)
grown_file shelf name piece =
    option_map (λ bytes. bytes ++ take (append_keeps shelf name bytes) piece) (file_of shelf name)

-- the next call is listed, or no file has the name
abbrev pub load_fails : ShelfView → List ℕ → Bool
load_fails shelf name = is_some (kept_next shelf.calls) || is_none (file_of shelf name)

-- a place with what a call keeps of the piece after the file's bytes
abbrev pub grown : PlaceView → Option ℕ → List ℕ → PlaceView
grown place kept piece =
    record place {
      bytes = option_map (λ bytes. bytes ++ take
          (most_kept kept (unwrap_or place.room 0 - length bytes)) piece) place.bytes;
    }

-- the places of all other names stay
abbrev pub KeepsOtherPlaces : List PlaceView → List PlaceView → List ℕ → Type 0
KeepsOtherPlaces old new name =
    (other : List ℕ) → other ≢ name → place_of new other ≡ place_of old other

-- the place of this name, or one with no file and no room
abbrev pub place_or_new : List PlaceView → List ℕ → PlaceView
place_or_new places name =
    unwrap_or (place_of places name) (record { name = name; bytes = None; room = None })

-- a place with an empty file
abbrev pub emptied : PlaceView → PlaceView
emptied place = record place { bytes = Some [] }

-- why so many bytes weren't copied when at most `most` are allowed
abbrev pub IsCopyError : Load → ℕ → ℕ → Type 0
IsCopyError Failed len most = ⊥
IsCopyError (TooLong seen) len most = (seen ≡ most + 1) × (most < len)
IsCopyError Memory len most = len ≤ most

-- why a file wasn't loaded, for a call that is to fail or for one that isn't
abbrev pub IsLoadError : (fails : Bool) → (file : Option (List ℕ)) → (most : ℕ) → Load → Type 0
IsLoadError fails file most Failed = IsTrue (fails || is_none file)
IsLoadError fails file most (TooLong seen) =
    (fails ≡ false) × (seen ≡ most + 1) × IsSomeAnd file (λ bytes. most < length bytes)
IsLoadError fails file most Memory = (fails ≡ false) × IsSomeAnd file (λ bytes. length bytes ≤ most)
