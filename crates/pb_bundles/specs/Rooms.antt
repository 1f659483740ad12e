-- What a contract sees of emptied rooms that are kept.
use Rattle.std.specs.Prelude.{ℕ, List}

pub record RoomList : Type 0 where
  pub rooms : List ℕ  -- how many bundles fit in each that is kept
  pub places : ℕ  -- how many may be kept
