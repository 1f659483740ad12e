-- The owners of a search, and how it ends.
use Rattle.std.specs.Prelude.{◌≡◌, ℕ, ◌-◌, ◌≤◌, ◌^◌, ◌==◌, ◌&&◌, Bool, true, if◌then◌else◌, List, All, Some, None, length}
use Rattle.pb_model.specs.declared.row.Estimate.{Estimate}
use Rattle.pb_model.specs.Space.{Space}
use Rattle.pb_model.specs.Weight.{Weight}
use Rattle.pb_model.specs.Guide.{Guide}
use Rattle.pb_model.specs.Store.{Store, IsShown, CostsAtMost}
use Rattle.pb_model.specs.Sound.{IsSound}
use Rattle.pb_model.specs.Work.{offered_row}
use Rattle.pb_lists.specs.Bundle.{row_of}
use Rattle.pb_machine.specs.declared.event.End.{End}
use Rattle.pb_machine.specs.declared.settings.Settings.{Settings}
use Rattle.pb_machine.specs.Settings.{AreInRange, weight_of}
use Rattle.pb_task.specs.declared.parts.TaskParts.{TaskParts}
use Rattle.pb_task.specs.Parts.{space_of}
use Rattle.pb_estimate.specs.Choices.{Choice}
use Rattle.pb_estimate.specs.Estimates.{suits}
use Rattle.pb_abstract.specs.Graph.{AbstractGraph, IsGraphOf}
use Rattle.pb_owner.specs.declared.share.Share.{Share}
use Rattle.pb_owner.specs.Shares.{guide_for}
use Rattle.pb_owners.specs.Between.{opening_mailed, IsBetween, store_at, IsSearched}
use Rattle.pb_owners.specs.Shares.{share_at, IsEnd}

pub record OwnersValue : Type 0 where
  pub task : TaskParts
  pub abstraction : AbstractGraph
  pub choice : Choice
  pub settings : Settings
  pub spent : ℕ
  pub shares : List Share  -- in order of the owners' numbers

abbrev pub space_in : OwnersValue → Space
space_in owners = space_of owners.task

abbrev pub guide_in : OwnersValue → Guide
guide_in owners = guide_for owners.task owners.abstraction owners.settings.workers owners.choice

abbrev pub weight_in : OwnersValue → Weight
weight_in owners = weight_of owners.settings

-- the rows of all owners, with the incumbent that they agree on
abbrev pub owners_store : OwnersValue → Store
owners_store owners = store_at (share_at owners.shares) (weight_in owners)

-- the share at the start of a search: the start has a row if it is the owner's
pub record IsOpeningShare (weight : Weight) (is_home : Bool) (start : ℕ) (estimate : Estimate)
    (share : Share) : Type 0 where
  pub rows : (state : ℕ) → row_of share.bundle state
      ≡ (if is_home && (state == start) then Some (offered_row 0 estimate None 0 None) else None)
  pub weight_is : share.bundle.weight ≡ weight
  pub incumbent_is : share.incumbent ≡ None

-- the owners are those at the start of a search
pub record IsOpening (owners : OwnersValue) : Type 0 where
  pub abstraction : IsGraphOf owners.task owners.abstraction
  pub suits : suits owners.task owners.choice ≡ true
  pub settings : AreInRange owners.settings
  pub many : length owners.shares ≡ owners.settings.workers
  pub spent : owners.spent ≡ 0
  pub of_weight : All (λ share. share.bundle.weight ≡ weight_in owners) owners.shares
  pub shares : IsBetween owners.settings.workers (weight_in owners) (share_at owners.shares)
      (opening_mailed (space_in owners) (guide_in owners) (weight_in owners))

-- all but the rows and the number of expansions stays
pub record IsSameSearch (old new : OwnersValue) : Type 0 where
  pub task : new.task ≡ old.task
  pub abstraction : new.abstraction ≡ old.abstraction
  pub choice : new.choice ≡ old.choice
  pub settings : new.settings ≡ old.settings

-- A search came to this end. Its rows are a sound store, in which a goal's row shows the incumbent,
-- and no g leaves 61 bits.
pub record OwnersEnd (end : End) (owners : OwnersValue) : Type 0 where
  pub searched : IsSearched (space_in owners) (guide_in owners) (weight_in owners)
      owners.settings.workers owners.settings.lot owners.settings.budget owners.spent
      (share_at owners.shares)
  pub end_is : IsEnd owners.settings.budget owners.spent (share_at owners.shares) end
  pub within : owners.spent ≤ owners.settings.budget
  pub many : length owners.shares ≡ owners.settings.workers
  pub sound : IsSound (space_in owners) (guide_in owners) (owners_store owners)
  pub shown : IsShown (space_in owners) (guide_in owners) (owners_store owners)
  pub small : CostsAtMost (owners_store owners) (2 ^ 61 - 1)

-- The home of each state of the task can be computed: the blocks are those of the task, and each
-- of 1 to 64 owners has a share.
pub record CanLookUp (owners : OwnersValue) : Type 0 where
  pub abstraction : IsGraphOf owners.task owners.abstraction
  pub workers : (1 ≤ owners.settings.workers) × (owners.settings.workers ≤ 64)
  pub many : length owners.shares ≡ owners.settings.workers
