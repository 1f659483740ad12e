-- Entries, each an estimate, a state and the place of its row, and the least of several.
use Rattle.std.specs.Prelude.{◌≡◌, ◌≤◌, ◌<◌, ◌⊎◌, ◌&&◌, ℕ, Bool, true, false, Option, None, Some, List, [], ◌∷◌, IfSome, IfNone, nat_eq, if◌then◌else◌}
use Rattle.std.specs.List.{list_any}
use Rattle.std.specs.Ordering.{nat_cmp, then_cmp, on, is_lt, is_eq}
use Rattle.std.specs.declared.cmp.Ordering.{Ordering}
use Rattle.std.specs.declared.cmp.Reverse.{Reverse}

-- an estimate, a state, and the place of the state's row in the order of insertion
abbrev pub Entry : Type 0
Entry = ℕ × ℕ × ℕ

-- By the estimate, for equal estimates by the state, and for equal states by the place. The entries
-- of one state have one place, so the place decides nothing: this is the order of a tuple's parts.
abbrev pub entry_cmp : Entry → Entry → Ordering
entry_cmp =
    then_cmp
    (then_cmp (on (λ (entry : Entry). entry.0) nat_cmp) (on (λ (entry : Entry). entry.1) nat_cmp))
    (on (λ (entry : Entry). entry.2) nat_cmp)

-- the estimate and the place
abbrev pub estimate_and_place : Entry → ℕ × ℕ
estimate_and_place entry = (entry.0, entry.2)

-- the equality of that order
abbrev pub same_entry : Entry → Entry → Bool
same_entry entry other = is_eq (entry_cmp entry other)

-- the greatest of a heap comes first, so the lesser entry is the greater
abbrev pub later : Reverse Entry → Reverse Entry → Ordering
later item other = entry_cmp other.0 item.0

-- What contracts see of a heap of entries.
pub record Heaped : Type 0 where
  pub items : List (Reverse Entry)  -- the first is the least
  pub len : ℕ

-- the entry is the other, or comes before it
abbrev pub IsNoLater : Entry → Entry → Type 0
IsNoLater entry other =
    (entry.0 < other.0)
    ⊎ ((entry.0 ≡ other.0) × ((entry.1 < other.1) ⊎ ((entry.1 ≡ other.1) × (entry.2 ≤ other.2))))

abbrev pub is_same : Entry → Entry → Bool
is_same entry other = nat_eq entry.0 other.0 && (nat_eq entry.1 other.1 && nat_eq entry.2 other.2)

abbrev pub is_among : Entry → List (Reverse Entry) → Bool
is_among entry items = list_any (λ item. is_same entry item.0) items

abbrev pub first_of : List (Reverse Entry) → Option Entry
first_of [] = None
first_of (item ∷ items) = Some item.0

-- whether the first entry of the second part comes before that of the first
abbrev pub is_second_first : Option Entry → Option Entry → Bool
is_second_first first None = false
is_second_first None (Some second) = true
is_second_first (Some first) (Some second) = is_lt (entry_cmp second first)

-- the first entry of two parts
abbrev pub top_of_two : Option Entry → Option Entry → Option Entry
top_of_two first second = if is_second_first first second then second else first

-- this is the first of the entries: no entry comes before it, and without one there are none
pub record IsTop (has : Entry → Bool) (top : Option Entry) : Type 0 where
  pub here : IfSome top (λ first. has first ≡ true)
  pub least : IfSome top (λ first. (other : Entry) → has other ≡ true → IsNoLater first other)
  pub none : IfNone top ((entry : Entry) → has entry ≡ false)
