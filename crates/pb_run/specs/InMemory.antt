-- Files and output in memory: what they can load, hold and take.
use Rattle.std.specs.Prelude.{ℕ, ◌-◌, ◌≤◌, ⊤, IsSome, IsSomeAnd, List, [], ◌∷◌, length}
use Rattle.pb_outside.specs.Memory.{ShelfView, SinkView, file_of, room_of}
use Rattle.pb_run.specs.Asked.{Wanted}

-- each of these files is on the shelf
abbrev pub HaveFiles : ShelfView → List Wanted → Type 0
HaveFiles shelf [] = ⊤
HaveFiles shelf (file ∷ files) = IsSome (file_of shelf file.name) × HaveFiles shelf files

-- room for so many bytes is reserved for the name
abbrev pub HasRoomFor : ShelfView → List ℕ → ℕ → Type 0
HasRoomFor shelf name n = IsSomeAnd (room_of shelf name) (λ room. n ≤ room)

-- so many bytes have room behind those that were written
abbrev pub HasRoomToPut : SinkView → ℕ → Type 0
HasRoomToPut sink n = n ≤ sink.room - length sink.bytes
