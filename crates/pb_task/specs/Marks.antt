-- Marks of actions as bits of words.
use Rattle.std.specs.Prelude.{ℕ, ◌/◌, ◌%◌, Bool, List, slice_index_or, ◌==◌}
use Rattle.std.specs.Int.{bit_at}

-- whether an action is marked: 64 actions have a word
abbrev pub is_marked : (marks : List ℕ) → (action : ℕ) → Bool
is_marked marks action = bit_at (slice_index_or marks (action / 64) 0) (action % 64) == 1
