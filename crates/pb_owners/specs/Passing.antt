-- The passes of a round: what each is when it is given out, and what the first one knows once it
-- took in all others.
use Rattle.std.specs.Prelude.{◌≡◌, ℕ, ◌<◌, ◌==◌, false, IsTrue, List, [], Some, None, slice_get}
use Rattle.pb_mail.specs.declared.post.Post.{Post}
use Rattle.pb_mail.specs.declared.pass.PostPass.{PostPass}
use Rattle.pb_mail.specs.Passes.{view_at, number_of, made_by, owners_of, IsPassOf, KnowsTheSame}
use Rattle.pb_mail.specs.Posted.{KnowsOf}
use Rattle.pb_owners.specs.declared.seat.Seat.{Seat}

-- the pass has sent and taken nothing, and may take from its owner's queue alone
pub record IsFresh {K : Type 0} (post : Post K) (number : ℕ) (pass : PostPass) : Type 0 where
  pub own : IsPassOf post pass
  pub number_is : number_of pass ≡ number
  pub made_is : number ≡ 0 → made_by pass ≡ owners_of post
  pub sent : (q : ℕ) → q < owners_of post → (view_at pass q).sent ≡ []
  pub taken : (q : ℕ) → q < owners_of post → (view_at pass q).taken ≡ []
  pub role : (q : ℕ) → q < owners_of post → (view_at pass q).takes ≡ (q == number)

-- the first pass, after so many passes were made: it has sent and taken nothing, and may take from
-- no queue of another owner that has a pass
pub record IsSplitting {K : Type 0} (post : Post K) (made : ℕ) (pass : PostPass) : Type 0 where
  pub own : IsPassOf post pass
  pub number_is : number_of pass ≡ 0
  pub made_is : made_by pass ≡ made
  pub sent : (q : ℕ) → q < owners_of post → (view_at pass q).sent ≡ []
  pub taken : (q : ℕ) → q < owners_of post → (view_at pass q).taken ≡ []
  pub handed : (q : ℕ) → 0 < q → q < made → q < owners_of post → (view_at pass q).takes ≡ false

-- the owner got a fresh pass, and nothing else changed
pub record HasSeat {K : Type 0} (post : Post K) (number : ℕ) (old new : Seat) : Type 0 where
  pub pass : PostPass
  pub fresh : IsFresh post number pass
  pub new_is : new ≡ record old { pass = Some pass }

-- the pass is that of this number, and may take from its owner's queue alone
pub record IsOwnersPass {K : Type 0} (post : Post K) (number : ℕ) (pass : PostPass) : Type 0 where
  pub own : IsPassOf post pass
  pub number_is : number_of pass ≡ number
  pub made_is : number ≡ 0 → made_by pass ≡ owners_of post
  pub role : (q : ℕ) → q < owners_of post → (view_at pass q).takes ≡ (q == number)

pub record IsToMeet {K : Type 0} (post : Post K) (number : ℕ) (seat : Seat) : Type 0 where
  pub pass : PostPass
  pub pass_is : seat.pass ≡ Some pass
  pub owners : IsOwnersPass post number pass

-- the pass was taken from the seat, and nothing else changed
abbrev pub IsWithoutPass : (old new : Seat) → Type 0
IsWithoutPass old new = new ≡ record old { pass = None }

-- the first pass knows what this owner's pass knew of what it sent and took, and may take from that
-- owner's queue
pub record KnowsAllOf {K : Type 0} (post : Post K) (first : PostPass) (number : ℕ)
    (pass : PostPass) : Type 0 where
  pub sent : (q : ℕ) → q < owners_of post
      → KnowsOf (view_at first q) number (view_at pass q).sent
  pub takes : IsTrue (view_at first number).takes
  pub taken : (view_at first number).taken ≡ (view_at pass number).taken

-- the first pass took in those of all these seats
pub record HasMetAll {K : Type 0} (post : Post K) (seats : List Seat) (first : PostPass) : Type 0
  where
    pub own : IsPassOf post first
    pub number_is : number_of first ≡ 0
    pub made_is : made_by first ≡ owners_of post
    pub knows : (i : ℕ) (seat : Seat) (pass : PostPass) → slice_get seats i ≡ Some seat
        → seat.pass ≡ Some pass → KnowsAllOf post first i pass

abbrev pub MayTakeAll : {K : Type 0} → Post K → PostPass → Type 0
MayTakeAll post pass = (q : ℕ) → q < owners_of post → IsTrue (view_at pass q).takes

-- what the pass knows changed in what was taken alone
pub record KeepsSent (old new : PostPass) : Type 0 where
  pub number_is : number_of new ≡ number_of old
  pub made_is : made_by new ≡ made_by old
  pub sent : (q : ℕ) → (view_at new q).sent ≡ (view_at old q).sent
  pub met : (q : ℕ) → (view_at new q).met ≡ (view_at old q).met
  pub number : (q : ℕ) → (view_at new q).number ≡ (view_at old q).number
  pub takes : (q : ℕ) → (view_at new q).takes ≡ (view_at old q).takes

pub record HasPassOf {K : Type 0} (post : Post K) (seat : Seat) : Type 0 where
  pub pass : PostPass
  pub pass_is : seat.pass ≡ Some pass
  pub own : IsPassOf post pass

-- the owner looked at its queue: its pass knows what it knew, and nothing else changed
pub record HasLooked {K : Type 0} (post : Post K) (old new : Seat) : Type 0 where
  pub before : PostPass
  pub before_is : old.pass ≡ Some before
  pub after : PostPass
  pub own : IsPassOf post after
  pub number_is : number_of after ≡ number_of before
  pub made_is : made_by after ≡ made_by before
  pub knows : KnowsTheSame before after
  pub new_is : new ≡ record old { pass = Some after }
