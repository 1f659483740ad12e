-- The owners' shares, and how a search ends.
use Rattle.std.specs.Prelude.{◌≡◌, ℕ, ◌↔◌, ◌⊎◌, List, [], Option, Some, None, slice_get}
use Rattle.std.specs.Option.{option_map}
use Rattle.pb_machine.specs.declared.event.End.{End}
use Rattle.pb_machine.specs.declared.event.End.TheVariants.{Quiet, Budget}
use Rattle.pb_hashed.specs.Mailed.{Owner}
use Rattle.pb_owner.specs.declared.share.Share.{Share}
use Rattle.pb_owner.specs.Shares.{owner_of}
use Rattle.pb_owners.specs.declared.seat.Seat.{Seat}
use Rattle.pb_owners.specs.Between.{AnyOpened}

-- the share with no letter, or that of an owner that there isn't
abbrev pub owner_in : Option Share → Owner
owner_in None = record { part = λ state. None; incumbent = None; letters = λ to. [] }
owner_in (Some share) = owner_of share (λ to. [])

-- the owner of this number, by the list of all shares
abbrev pub share_at : List Share → (owner : ℕ) → Owner
share_at shares owner = owner_in (slice_get shares owner)

abbrev pub share_of : Seat → Share
share_of seat = seat.share

-- the same by the list of all seats
abbrev pub seat_at : List Seat → (owner : ℕ) → Owner
seat_at seats owner = owner_in (option_map share_of (slice_get seats owner))

-- How a search ends: Quiet if and only if no row is Opened, and Budget if and only if a row is and
-- the budget is used up.
pub record IsEnd (limit spent : ℕ) (at : ℕ → Owner) (end : End) : Type 0 where
  pub either : (end ≡ Quiet) ⊎ (end ≡ Budget)
  pub quiet : (end ≡ Quiet) ↔ (AnyOpened at → ⊥)
  pub budget : (end ≡ Budget) ↔ (AnyOpened at × (spent ≡ limit))
