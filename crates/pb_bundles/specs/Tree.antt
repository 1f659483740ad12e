-- The tree of winners over the keys that are noted (a tournament: Knuth, The Art of Computer
-- Programming 3, section 5.4.1). Of n blocks the nodes are 1 to 2n - 1. Node n + b is the block b.
-- Below n the node i has the better of the nodes 2i and 2i + 1.
use Rattle.std.specs.Prelude.{◌≡◌, ℕ, zero, suc, ◌+◌, ◌-◌, ◌*◌, ◌<◌, ◌≤◌, ◌^◌, ◌⊎◌, nat_lt, if◌then◌else◌, Bool, IsTrue, IsSome, List, Option, Some, None, length, get_or}
use Rattle.pb_model.specs.declared.key.Key.{Key}
use Rattle.pb_machine.specs.Choice.{ComesBefore}
use Rattle.pb_bundles.specs.declared.winner.Winner.{Winner}

-- the block with its key
abbrev pub leaf : List (Option Key) → (block : ℕ) → Winner
leaf keys block = record { key = get_or keys block None; block = block }

-- what the node has
abbrev pub node : List (Option Key) → List Winner → (at : ℕ) → Winner
node keys winners at =
    if nat_lt at (length keys) then get_or winners at (leaf keys 0)
    else leaf keys (at - length keys)

-- the one block is better than the other
abbrev pub IsAhead : Winner → Winner → Type 0
IsAhead one other = ComesBefore one.key one.block other.key other.block

-- the better of the two
abbrev pub IsWonBy : (left right winner : Winner) → Type 0
IsWonBy left right winner =
    ((winner ≡ left) × (IsAhead right left → ⊥)) ⊎ ((winner ≡ right) × IsAhead right left)

-- the node has the better of the two below it
abbrev pub IsWon : List (Option Key) → List Winner → (at : ℕ) → Type 0
IsWon keys winners at =
    IsWonBy (node keys winners (2 * at)) (node keys winners (2 * at + 1)) (node keys winners at)

-- what is true of every tree
pub record IsKeyTree (keys : List (Option Key)) (winners : List Winner) : Type 0 where
  pub places : length winners ≡ length keys
  pub few : length keys < 2 ^ 32
  pub won : (at : ℕ) → 1 ≤ at → at < length keys → IsWon keys winners at

-- the node is reached from the other by so many steps down at most
abbrev pub Under : (steps : ℕ) → (above below : ℕ) → Type 0
Under zero above below = above ≡ below
Under (suc steps) above below =
    (above ≡ below) ⊎ (Under steps (2 * above) below ⊎ Under steps (2 * above + 1) below)

-- the winner, if there is one, is the other, or better
abbrev pub IsNotBehind : Option Winner → Winner → Type 0
IsNotBehind None other = ⊥
IsNotBehind (Some winner) other = (winner ≡ other) ⊎ IsAhead winner other

-- the best of the blocks below the node that pass and have an Opened row, and of the best one so
-- far
pub record IsBestBelow (test : ℕ → Bool) (keys : List (Option Key)) (at : ℕ)
    (best result : Option Winner) : Type 0 where
  pub from : (result ≡ best) ⊎ ((block : ℕ) × (block < length keys)
      × (result ≡ Some (leaf keys block)) × IsTrue (test block) × IsSome (get_or keys block None))
  pub kept : (other : Winner) → IsNotBehind best other → IsNotBehind result other
  pub least : (block steps : ℕ) → block < length keys → Under steps at (length keys + block)
      → IsTrue (test block) → IsSome (get_or keys block None) → IsNotBehind result (leaf keys block)
