-- An exploration of what can hold after a state if nothing is deleted: costs of atoms that fall
-- until they are final, and a queue of the atoms that were reached.
use Rattle.std.specs.Prelude.{◌≡◌, ℕ, zero, suc, ◌+◌, ◌*◌, ◌%◌, ◌<◌, ◌≤◌, ◌↔◌, ◌⊎◌, Bool, true, false, not, ◌&&◌, List, length, Contains, Option, None, Some, is_some, slice_index, slice_index_or, if◌then◌else◌}
use Rattle.pb_packed.specs.Sizes.{most_atoms}
use Rattle.pb_estimate.specs.declared.exploration.AtomCost.{AtomCost}
use Rattle.pb_estimate.specs.declared.exploration.AtomCost.TheVariants.{Unreached, Open, Final}
use Rattle.pb_estimate.specs.declared.buckets.Buckets.{Buckets}
use Rattle.pb_estimate.specs.declared.exploration.Exploration.{Exploration}
use Rattle.pb_estimate.specs.Hmax.{IsAtMost}

-- how many of the first numbers pass a test
abbrev pub count : (accepts : ℕ → Bool) → (below : ℕ) → ℕ
count accepts zero = 0
count accepts (suc n) = count accepts n + (if accepts n then 1 else 0)

-- ---- costs

-- what an atom costs so far
abbrev pub known_cost : AtomCost → Option ℕ
known_cost Unreached = None
known_cost (Open cost) = Some cost
known_cost (Final cost) = Some cost

-- the cost of an atom, if it is final
abbrev pub final_cost : AtomCost → Option ℕ
final_cost Unreached = None
final_cost (Open cost) = None
final_cost (Final cost) = Some cost

abbrev pub known_in : (costs : List AtomCost) → (atom : ℕ) → AtomCost
known_in costs atom = slice_index_or costs atom Unreached

abbrev pub cost_in : (costs : List AtomCost) → (atom : ℕ) → Option ℕ
cost_in costs atom = known_cost (known_in costs atom)

abbrev pub final_in : (costs : List AtomCost) → (atom : ℕ) → Option ℕ
final_in costs atom = final_cost (known_in costs atom)

abbrev pub is_final_in : (costs : List AtomCost) → (atom : ℕ) → Bool
is_final_in costs atom = is_some (final_in costs atom)

-- how many of the first atoms that pass a test have no final cost
abbrev pub waiting : (wanted : ℕ → Bool) → (costs : List AtomCost) → (below : ℕ) → ℕ
waiting wanted costs below = count (λ atom. wanted atom && not (is_final_in costs atom)) below

-- no atom costs more by the other costs
abbrev pub AreNoLess : (costs costs' : ℕ → Option ℕ) → Type 0
AreNoLess costs costs' = (atom cost : ℕ) → IsAtMost (costs atom) cost → IsAtMost (costs' atom) cost

-- each of these atoms costs the lesser of this cost and its cost before; all other costs stayed
abbrev pub AreLowered : (atoms : List ℕ) → (cost : ℕ) → (before after : List AtomCost) → Type 0
AreLowered atoms cost before after =
    (atom c : ℕ) → IsAtMost (cost_in after atom) c
    ↔ (IsAtMost (cost_in before atom) c ⊎ (Contains atoms atom × (cost ≤ c)))

-- the same atoms have the same final costs
abbrev pub HaveSameFinals : (before after : List AtomCost) → Type 0
HaveSameFinals before after = (atom : ℕ) → final_in after atom ≡ final_in before atom

-- no final cost is greater
abbrev pub FinalsAreWithin : (cost : ℕ) → (costs : List AtomCost) → Type 0
FinalsAreWithin cost costs = (atom c : ℕ) → final_in costs atom ≡ Some c → c ≤ cost

-- no cost that is open is less
abbrev pub OpensAreFrom : (cost : ℕ) → (costs : List AtomCost) → Type 0
OpensAreFrom cost costs = (atom c : ℕ) → known_in costs atom ≡ Open c → cost ≤ c

-- ---- the buckets

-- the atom that came as the k-th into one of 64 buckets
abbrev pub entry : (places : List ℕ) → (bucket k : ℕ) → ℕ
entry places bucket k = slice_index places (k * 64 + bucket)

-- no atom from one place of a bucket to another has an open cost that belongs into the bucket
abbrev pub ArePassed : (costs : List AtomCost) → (places : List ℕ) → (bucket from to : ℕ) → Type 0
ArePassed costs places bucket from to =
    (k : ℕ) → from ≤ k → k < to → (cost : ℕ) → known_in costs (entry places bucket k) ≡ Open cost
    → cost % 64 ≡ bucket → ⊥

-- Each bucket has room for all atoms. Unless some were lost, each atom whose cost is open is in the
-- bucket of its cost.
pub record AreEntries (costs : List AtomCost) (places filled : List ℕ) (lost : Bool) : Type 0 where
  pub rows : length places ≡ 64 * length costs
  pub buckets : length filled ≡ 64
  pub room : (bucket : ℕ) → bucket < 64 → slice_index filled bucket ≤ length costs
  pub inside : (bucket k : ℕ) → bucket < 64 → k < slice_index filled bucket
      → entry places bucket k < length costs
  pub entered : lost ≡ false → (atom cost : ℕ) → known_in costs atom ≡ Open cost
      → (k : ℕ) × (k < slice_index filled (cost % 64)) × (entry places (cost % 64) k ≡ atom)

abbrev pub AreBuckets : (costs : List AtomCost) → Buckets → Type 0
AreBuckets costs b = AreEntries costs b.places.items b.filled.items b.is_lost

-- ---- the queue

-- The queue has a place for each atom, and its first places have exactly the atoms that were
-- reached. The costs of the atoms before `first` are final. The buckets are of these costs.
pub record IsExploration (e : Exploration) : Type 0 where
  pub few : length e.costs.items ≤ most_atoms
  pub places : length e.queue.items ≡ length e.costs.items
  pub reached : e.reached ≡ count (λ atom. is_some (cost_in e.costs.items atom))
      (length e.costs.items)
  pub inside : (k : ℕ) → k < e.reached → slice_index e.queue.items k < length e.costs.items
  pub all : (atom : ℕ) → is_some (cost_in e.costs.items atom) ≡ true
      → (k : ℕ) × (k < e.reached) × (slice_index e.queue.items k ≡ atom)
  pub first : e.first ≤ e.reached
  pub passed : (k : ℕ) → k < e.first → is_final_in e.costs.items (slice_index e.queue.items k)
      ≡ true
  pub entered : AreBuckets e.costs.items e.buckets

-- an atom whose cost is open, and no other open cost is less
pub record IsLeastOpen (costs : List AtomCost) (atom cost : ℕ) : Type 0 where
  pub inside : atom < length costs
  pub is : known_in costs atom ≡ Open cost
  pub least : OpensAreFrom cost costs
