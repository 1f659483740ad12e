-- The choice among blocks by the keys that are noted: best first (Burns, Lemons, Ruml, Zhou 2010).
use Rattle.std.specs.Prelude.{◌≡◌, ℕ, Bool, IsTrue, IsSome, Option, Some, None, ◌⊎◌}
use Rattle.pb_model.specs.declared.key.Key.{Key}
use Rattle.pb_machine.specs.Choice.{ComesBefore}

-- the one block is better than the other: by the lesser key, for equal keys by the lesser number,
-- and a block without a key comes last
abbrev pub IsBetterBy : (keys : ℕ → Option Key) → (block other : ℕ) → Type 0
IsBetterBy keys block other = ComesBefore (keys block) block (keys other) other

-- the best of the candidates, or none if there is no candidate
abbrev pub IsBestOf : (candidate : ℕ → Type 0) → (keys : ℕ → Option Key) → Option ℕ → Type 0
IsBestOf candidate keys None = (block : ℕ) → candidate block → ⊥
IsBestOf candidate keys (Some best) =
    candidate best × ((block : ℕ) → candidate block → (block ≡ best) ⊎ IsBetterBy keys best block)

-- the block passes, and a row of it is Opened
abbrev pub MayBeFirst : (pass : ℕ → Bool) → (keys : ℕ → Option Key) → (block : ℕ) → Type 0
MayBeFirst pass keys block = IsTrue (pass block) × IsSome (keys block)

-- the best block that passes and has an Opened row, or none if there is no such block
abbrev pub IsFirstBy : (pass : ℕ → Bool) → (keys : ℕ → Option Key) → Option ℕ → Type 0
IsFirstBy pass keys = IsBestOf (MayBeFirst pass keys) keys

-- the other block is near, and better than the block
abbrev pub MayRival : (near : ℕ → Bool) → (keys : ℕ → Option Key) → (block other : ℕ) → Type 0
MayRival near keys block other = IsTrue (near other) × IsBetterBy keys other block

-- the best block near that is better than the block, or none if there is no such block
abbrev pub IsRivalBy : (near : ℕ → Bool) → (keys : ℕ → Option Key) → (block : ℕ) → Option ℕ → Type 0
IsRivalBy near keys block = IsBestOf (MayRival near keys block) keys

-- the better of the two, or the other if it is the only one
abbrev pub IsBetterOf : (keys : ℕ → Option Key) → (best : Option ℕ) → (other : ℕ) → Option ℕ
    → Type 0
IsBetterOf keys None other result = result ≡ Some other
IsBetterOf keys (Some best) other result =
    ((result ≡ Some other) × IsBetterBy keys other best)
    ⊎ ((result ≡ Some best) × (IsBetterBy keys other best → ⊥))
