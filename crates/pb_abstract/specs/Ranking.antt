-- How the tracked atoms are found: one after another, by the numbers of the actions that change
-- each atom.
use Rattle.std.specs.Prelude.{◌≡◌, ◌≢◌, ℕ, ◌<◌, Bool, true, not, IsTrue, List, Option, None, Some, All, if◌then◌else◌, length, slice_index, ◌==◌, ◌&&◌, ◌||◌, nat_lt}
use Rattle.pb_task.specs.declared.parts.StripsParts.{StripsParts}
use Rattle.pb_abstract.specs.Tracked.{changers, is_changed, comes_before, AreInOrder}
use Rattle.pb_abstract.specs.Graph.{has}

-- The numbers say of each atom how many actions change it.
pub record AreCounts (strips : StripsParts) (counts : List ℕ) : Type 0 where
  pub len : length counts ≡ strips.atoms
  pub each : (atom : ℕ) → atom < strips.atoms → slice_index counts atom
      ≡ changers atom strips.actions

-- some action changes the atom, and it isn't tracked yet
abbrev pub is_left : (counts tracked : List ℕ) → (atom : ℕ) → Bool
is_left counts tracked atom = nat_lt 0 (slice_index counts atom) && not (has tracked atom)

-- fewer actions change the atom than the best one so far, if there is one
abbrev pub is_fewer : (counts : List ℕ) (atom : ℕ) → (best : Option ℕ) → Bool
is_fewer counts atom None = true
is_fewer counts atom (Some other) = nat_lt (slice_index counts atom) (slice_index counts other)

-- the best one with this atom
abbrev pub better : (counts tracked : List ℕ) (atom : ℕ) → (best : Option ℕ) → Option ℕ
better counts tracked atom best =
    if is_left counts tracked atom && is_fewer counts atom best then Some atom else best

-- fewer actions change the one atom, or as many, and its number is less
abbrev pub precedes : (counts : List ℕ) → (one other : ℕ) → Bool
precedes counts one other =
    nat_lt (slice_index counts one) (slice_index counts other)
    || (slice_index counts one == slice_index counts other && nat_lt one other)

-- The atom is left, and comes before all others that are left.
pub record IsNext (counts tracked : List ℕ) (atom : ℕ) : Type 0 where
  pub left : IsTrue (is_left counts tracked atom)
  pub first : (other : ℕ) → IsTrue (is_left counts tracked other) → atom ≢ other
      → IsTrue (precedes counts atom other)

-- no atom is left
abbrev pub IsNone : (counts tracked : List ℕ) → Type 0
IsNone counts tracked = (atom : ℕ) → IsTrue (is_left counts tracked atom) → ⊥

-- They are changed atoms in order, and each of them comes before every other changed atom.
pub record AreFirst (strips : StripsParts) (atoms : List ℕ) : Type 0 where
  pub changed : All (λ atom. IsTrue (is_changed strips atom)) atoms
  pub order : AreInOrder strips atoms
  pub first : (other : ℕ) → IsTrue (is_changed strips other) → All (λ atom. atom ≢ other) atoms
      → All (λ atom. IsTrue (comes_before strips atom other)) atoms
