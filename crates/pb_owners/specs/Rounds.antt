-- What a round does.
use Rattle.std.specs.Prelude.{◌≡◌, ℕ, ◌+◌, ◌-◌, ◌*◌, ◌<◌, ◌≤◌, ◌^◌, ◌⊎◌, min, Bool, true, false, if◌then◌else◌, List, [], ◌++◌, Option, Some, length}
use Rattle.pb_model.specs.declared.row.Row.{Row}
use Rattle.pb_model.specs.Store.{HasOpened}
use Rattle.pb_lists.specs.Bundle.{row_of}
use Rattle.pb_task.specs.Parts.{greatest_cost}
use Rattle.pb_mail.specs.declared.letter.Sent.{Sent}
use Rattle.pb_mail.specs.declared.post.Post.{Post}
use Rattle.pb_mail.specs.declared.pass.PostPass.{PostPass}
use Rattle.pb_mail.specs.Rule.{AreWhole}
use Rattle.pb_mail.specs.Passes.{view_at, owners_of, IsPassOf}
use Rattle.pb_mail.specs.Posted.{HasPosted}
use Rattle.pb_hashed.specs.Laws.{sum_below}
use Rattle.pb_owner.specs.declared.share.Share.{Share}
use Rattle.pb_owner.specs.Shares.{AreOwnWithin, IsNextRow}
use Rattle.pb_owner.specs.Expanding.{HasExpanded}
use Rattle.pb_owner.specs.Taking.{HasTakenIn}
use Rattle.pb_owner.specs.declared.plan.Plan.{Plan}
use Rattle.pb_owners.specs.declared.seat.Seat.{Seat}
use Rattle.pb_owner.specs.Plans.{space_in, guide_in, weight_in}
use Rattle.pb_owners.specs.Plans.{HasTools}
use Rattle.pb_owners.specs.Seats.{Each, quota_at}
use Rattle.pb_owners.specs.Passing.{IsFresh}
use Rattle.pb_owners.specs.RoundRule.{IsRoundWith, IsRoundOf}
use Rattle.pb_owners.specs.Between.{RunsByMail, IsSearched, AnyOpened}
use Rattle.pb_owners.specs.Shares.{seat_at}

-- the post has a queue for each owner, and letters are of states of the task
pub record IsPostOf {K : Type 0} (plan : Plan) (fits : ℕ → Bool) (post : Post K) : Type 0 where
  pub owners_is : owners_of post ≡ plan.owners
  pub fits_is : (state : ℕ) → fits state ≡ (space_in plan).is_state state

-- the owner drew the lot, or what the owners before it had left, if it has an Opened row, and
-- nothing if it has none; nothing else changed
pub record IsDrawn (lot left : ℕ) (all : List Seat) (number : ℕ) (old new : Seat) : Type 0 where
  pub new_is : new ≡ record old { quota = new.quota }
  pub opened : HasOpened (row_of old.share.bundle)
      → new.quota ≡ min lot (left - sum_below number (quota_at all))
  pub none : (HasOpened (row_of old.share.bundle) → ⊥) → new.quota ≡ 0

-- the rows are of the owner's own states, and no g can leave 61 bits within the quota
abbrev pub IsWithin : Plan → (number : ℕ) → Share → (quota : ℕ) → Type 0
IsWithin plan number share quota =
    (most : ℕ)
    × AreOwnWithin (space_in plan) (guide_in plan) number most (row_of share.bundle)
    × (most + greatest_cost * quota < 2 ^ 61)

-- ---- an owner's part

pub record IsReady {K : Type 0} (plan : Plan) (post : Post K) (number : ℕ) (seat : Seat) : Type 0
  where
    pub pass : PostPass
    pub pass_is : seat.pass ≡ Some pass
    pub fresh : IsFresh post number pass
    pub tools : HasTools plan seat
    pub within : IsWithin plan number seat.share seat.quota

abbrev pub one_if : Bool → ℕ
one_if b = if b then 1 else 0

-- The owner worked within its quota and sent its letters: by so many expansions, and one that was
-- broken off if memory ran out. Else no row of it is Opened, or its quota is used and its first
-- Opened row is neither to be cut nor a goal's. That holds for each quota, so also for none.
pub record HasBegun {K : Type 0} (plan : Plan) (post : Post K) (number : ℕ) (old new : Seat)
    : Type 0 where
  pub before : PostPass
  pub before_is : old.pass ≡ Some before
  pub after : PostPass
  pub after_is : new.pass ≡ Some after
  pub quota_is : new.quota ≡ old.quota
  pub expanded : HasExpanded (space_in plan) (guide_in plan) (weight_in plan) number new.used
      (one_if new.failed) post old.share new.share before after
  pub within : new.used ≤ old.quota
  pub ends : (new.failed ≡ true) ⊎ ((HasOpened (row_of new.share.bundle) → ⊥)
      ⊎ ((new.used ≡ old.quota) × ((state : ℕ) × (row : Row)
      × IsNextRow (space_in plan) (weight_in plan) new.share state row)))
  pub tools : HasTools plan new

pub record HasLeft {K : Type 0} (plan : Plan) (post : Post K) (number : ℕ) (seat : Seat) : Type 0
  where
    pub pass : PostPass
    pub pass_is : seat.pass ≡ Some pass
    pub own : IsPassOf post pass
    pub tools : HasTools plan seat

-- the owner took letters from its queue, one after another, and offered their states to its rows
pub record TakesIn {K : Type 0} (plan : Plan) (post : Post K) (before after : PostPass)
    (old new : Share) : Type 0 where
  pub takes : List Sent
  pub posted : HasPosted post before after [] takes
  pub taken_in : HasTakenIn plan.task.now plan.choice.now takes old new

pub record HasTaken {K : Type 0} (plan : Plan) (post : Post K) (number : ℕ) (old new : Seat)
    : Type 0 where
  pub before : PostPass
  pub before_is : old.pass ≡ Some before
  pub after : PostPass
  pub after_is : new.pass ≡ Some after
  pub used_is : new.used ≡ old.used
  pub taken : new.failed ≡ false → TakesIn plan post before after old.share new.share
  pub tools : HasTools plan new

-- memory ran out in no owner's part
abbrev pub NoneFailed : List Seat → Type 0
NoneFailed seats = Each (λ i seat. seat.failed ≡ false) seats

-- ---- after the owners were joined

-- what was left in the owner's queue was taken in, and so all that was sent to it
pub record IsCleared (plan : Plan) (before after : PostPass) (number : ℕ) (old new : Seat)
    : Type 0 where
  pub more : List Sent
  pub taken : (view_at after number).taken ≡ (view_at before number).taken ++ more
  pub taken_in : HasTakenIn plan.task.now plan.choice.now more old.share new.share
  pub whole : AreWhole (view_at after number)
  pub used_is : new.used ≡ old.used
  pub tools : HasTools plan new

-- the owner's copy of the incumbent is this, and nothing else changed
abbrev pub HasIncumbent : Option ℕ → (number : ℕ) → (old new : Seat) → Type 0
HasIncumbent incumbent number old new =
    new ≡ record old { share = record old.share { incumbent = incumbent } }

-- no owner used more than the greatest budget
abbrev pub AreLow : List Seat → Type 0
AreLow seats = Each (λ i seat. seat.used ≤ 2 ^ 40) seats

-- ---- a round

pub record IsToRun (plan : Plan) (seats : List Seat) : Type 0 where
  pub many : length seats ≡ plan.owners
  pub tools : Each (λ i. HasTools plan) seats
  pub within : Each (λ i seat. IsWithin plan i seat.share seat.quota) seats
  pub low : Each (λ i seat. seat.quota ≤ 2 ^ 40) seats

pub record HasRun (plan : Plan) (used : ℕ) (olds news : List Seat) : Type 0 where
  pub many : length news ≡ plan.owners
  pub tools : Each (λ i. HasTools plan) news
  pub within : used ≤ sum_below (length olds) (quota_at olds)
  pub mail : RunsByMail (space_in plan) (guide_in plan) (weight_in plan) plan.owners used
      (IsRoundWith (space_in plan) (guide_in plan) plan.owners used (quota_at olds))
      (seat_at olds) (seat_at news)

-- the owners may begin a round with so much of the budget left: a row is Opened, and some is left
pub record IsToRound (plan : Plan) (left : ℕ) (seats : List Seat) : Type 0 where
  pub opened : AnyOpened (seat_at seats)
  pub some_left : 0 < left
  pub many : length seats ≡ plan.owners
  pub tools : Each (λ i. HasTools plan) seats
  pub within : Each (λ i seat. IsWithin plan i seat.share left) seats
  pub low : left ≤ 2 ^ 40

pub record HasRounded (plan : Plan) (lot left used : ℕ) (olds news : List Seat) : Type 0 where
  pub many : length news ≡ plan.owners
  pub tools : Each (λ i. HasTools plan) news
  pub within : used ≤ left
  pub mail : RunsByMail (space_in plan) (guide_in plan) (weight_in plan) plan.owners used
      (IsRoundOf (space_in plan) (guide_in plan) plan.owners lot left used)
      (seat_at olds) (seat_at news)

-- the search has come so far, with so many expansions
pub record HasSearched (plan : Plan) (lot budget spent : ℕ) (seats : List Seat) : Type 0 where
  pub searched : IsSearched (space_in plan) (guide_in plan) (weight_in plan) plan.owners lot
      budget spent (seat_at seats)
  pub within : spent ≤ budget
  pub many : length seats ≡ plan.owners
  pub tools : Each (λ i. HasTools plan) seats
