-- What the look at tables computes on the way.
use Rattle.std.specs.Prelude.{◌≡◌, ℕ, ◌*◌, ◌^◌, ◌<◌, ◌≤◌, Bool, true, false}
use Rattle.pb_packed.specs.Words.{number_of, AreWords}
use Rattle.pb_task.specs.declared.parts.GroundAction.{GroundAction}
use Rattle.pb_tables.specs.declared.effect.Effect.{Effect}
use Rattle.pb_tables.specs.Images.{both}

-- the least number below the count that passes the test, and the count if none does
pub record IsFirst (count : ℕ) (test : ℕ → Bool) (number : ℕ) : Type 0 where
  pub within : number ≤ count
  pub before : (other : ℕ) → other < number → test other ≡ false
  pub here : number < count → test number ≡ true

-- The sets of an action, cut to the tracked atoms, and the tracked atoms. What it needs and what it
-- adds takes at most so many words.
pub record IsEffect (count tracked : ℕ) (action : GroundAction) (effect : Effect) : Type 0 where
  pub needs_words : AreWords 16 effect.needs
  pub adds_words : AreWords 16 effect.adds
  pub deletes_words : AreWords 16 effect.deletes
  pub tracked_words : AreWords 16 effect.tracked
  pub needs : number_of effect.needs ≡ both count action.needs tracked
  pub adds : number_of effect.adds ≡ both count action.adds tracked
  pub deletes : number_of effect.deletes ≡ both count action.deletes tracked
  pub tracked_atoms : number_of effect.tracked ≡ tracked
  pub most : effect.width ≤ 16
  pub needs_fit : number_of effect.needs < 2 ^ (64 * effect.width)
  pub adds_fit : number_of effect.adds < 2 ^ (64 * effect.width)
