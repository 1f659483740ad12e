-- The rule of a round: how many rows each owner may expand, and when its part ends.
use Rattle.std.specs.Prelude.{◌≡◌, ℕ, ◌+◌, ◌-◌, ◌<◌, ◌≤◌, ◌⊎◌, min, List, [], ◌∷◌, IsFalse}
use Rattle.pb_model.specs.declared.row.Row.{Row}
use Rattle.pb_model.specs.Space.{Space}
use Rattle.pb_model.specs.Weight.{Weight}
use Rattle.pb_model.specs.Guide.{Guide}
use Rattle.pb_model.specs.Store.{HasOpened, MayBeCut}
use Rattle.pb_model.specs.Key.{IsFirstRow}
use Rattle.pb_model.specs.Work.{Work, expansions, broken_expansions}
use Rattle.pb_mail.specs.declared.letter.Sent.{Sent}
use Rattle.pb_hashed.specs.Mailed.{Owner, Mailed}
use Rattle.pb_hashed.specs.Laws.{sum_below, IsRound, IsAfterRound}
use Rattle.pb_owner.specs.Shares.{AreOwnTurns}

-- The quota of the owner of this number, with so much of the budget left at the start of the round:
-- the lot, or what the owners before it left if that is less. It is 0 if no row of it is Opened.
pub record IsQuota (lot left : ℕ) (quotas : ℕ → ℕ) (shares : ℕ → Owner) (number : ℕ) : Type 0
  where
    pub opened : HasOpened (shares number).part
        → quotas number ≡ min lot (left - sum_below number quotas)
    pub none : (HasOpened (shares number).part → ⊥) → quotas number ≡ 0

-- the owner's next turn would be an expansion: its first Opened row may not be cut, and is no goal's
pub record IsNextExpansion (space : Space) (weight : Weight) (share : Owner) : Type 0 where
  pub state : ℕ
  pub row : Row
  pub first : IsFirstRow weight share.part state row
  pub kept : ¬ MayBeCut weight share.incumbent row.g row.estimate
  pub no_goal : IsFalse (space.is_goal state)

-- An owner's work in a round: turns on its own rows, with no more expansions than its quota. It
-- ends when no row of it is Opened, or when the quota is used up and the next turn would be one
-- more expansion. So an owner without a quota still cuts rows and takes goals.
pub record WorksByQuota (space : Space) (guide : Guide) (weight : Weight) (number quota : ℕ)
    (works : List Work) (old new : Owner) : Type 0 where
  pub turns : AreOwnTurns space guide weight number works old
  pub none_broken : broken_expansions works ≡ 0
  pub within : expansions works ≤ quota
  pub ends : (HasOpened new.part → ⊥)
      ⊎ ((expansions works ≡ quota) × IsNextExpansion space weight new)

-- A round of so many owners with these quotas, by so many expansions: each works alone, then takes
-- in all that was sent to it, and then all copies of the incumbent become the least of them.
pub record IsRoundWith (space : Space) (guide : Guide) (owners used : ℕ) (quotas : ℕ → ℕ)
    (old new : Mailed) : Type 0 where
  pub works : ℕ → List Work
  pub shares : ℕ → Owner  -- before the letters are taken in
  pub takes : ℕ → List Sent
  pub round : IsRound space guide owners old works shares takes
  pub worked : (owner : ℕ) → owner < owners
      → WorksByQuota space guide old.weight owner (quotas owner) (works owner) (old.owner owner)
      (shares owner)
  pub after : IsAfterRound guide owners old shares takes new
  pub used_is : sum_below owners (λ owner. expansions (works owner)) ≡ used

-- A round of a search with this lot, by so many expansions. It begins with an Opened row and with
-- so much of the budget left, from which the owners draw their quotas.
pub record IsRoundOf (space : Space) (guide : Guide) (owners lot left used : ℕ) (old new : Mailed)
    : Type 0 where
  pub opened : (owner : ℕ) × HasOpened (old.owner owner).part
  pub some_left : 0 < left
  pub quotas : ℕ → ℕ
  pub drawn : (owner : ℕ) → owner < owners → IsQuota lot left quotas old.owner owner
  pub round : IsRoundWith space guide owners used quotas old new

-- how many rows these rounds expanded in all
abbrev pub total : List ℕ → ℕ
total [] = 0
total (used ∷ rounds) = used + total rounds

-- rounds, one after another, with so much of the budget left at first; the list has how many rows
-- each of them expanded
abbrev pub RunsInRounds : Space → Guide → (owners lot left : ℕ) → List ℕ → (old new : Mailed)
    → Type 0
RunsInRounds space guide owners lot left [] old new = new ≡ old
RunsInRounds space guide owners lot left (used ∷ rounds) old new =
    (next : Mailed) × IsRoundOf space guide owners lot left used old next
    × RunsInRounds space guide owners lot (left - used) rounds next new
