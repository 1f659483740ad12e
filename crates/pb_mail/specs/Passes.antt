-- What clauses say of a pass.
use Rattle.std.specs.Prelude.{◌≡◌, ◌≢◌, ℕ, ◌<◌, ◌≤◌, ◌==◌, Bool, IsTrue, Option, None, Some, vec_len, slice_get, slice_index_or}
use Rattle.std.specs.Vec.{with_item}
use Rattle.std.specs.declared.alloc.Global.{Global}
use Rattle.atomic_blocks.specs.declared.web.Seat.{Seat}
use Rattle.crossbeam_queue.specs.declared.seg_queue.Going.{Going}
use Rattle.crossbeam_queue.specs.SegTies.{IsSegPassOf}
use Rattle.pb_mail.specs.declared.letter.Sent.{Sent}
use Rattle.pb_mail.specs.declared.view.View.{View}
use Rattle.pb_mail.specs.declared.pass.PostPass.{PostPass}
use Rattle.pb_mail.specs.declared.post.Post.{Post}
use Rattle.pb_mail.specs.Rule.{IsTaken}
use Rattle.pb_mail.specs.Views.{spent_view, kept_view, given_view, met_view}

-- what a pass knows of one queue, as it is kept
abbrev pub QueuePass : Type 0
QueuePass = Seat (Option Sent) (Going Sent View) Global

abbrev pub view_in : Option QueuePass → View
view_in None = spent_view
view_in (Some queue_pass) = queue_pass.me.view.client

-- what the pass knows of the queue of this owner
abbrev pub view_at : PostPass → (owner : ℕ) → View
view_at pass owner = view_in (slice_get pass.queue_passes.items owner)

abbrev pub number_of : PostPass → ℕ
number_of pass = pass.number

-- how many passes were made, in the first one
abbrev pub made_by : PostPass → ℕ
made_by pass = pass.made

-- the pass with another queue_pass for the queue of this owner
abbrev pub with_queue_pass : PostPass → (owner : ℕ) → QueuePass → PostPass
with_queue_pass pass owner queue_pass =
    record { queue_passes = with_item pass.queue_passes owner queue_pass; number = pass.number; made = pass.made }

-- how many owners there are
abbrev pub owners_of : {K : Type 0} → Post K → ℕ
owners_of post = vec_len post.queues

-- the view is one of this owner's live pass
pub record IsViewOf (pass : PostPass) (v : View) : Type 0 where
  pub live : IsTrue v.is_live
  pub number : v.number ≡ pass.number
  pub made : v.made ≡ pass.made

-- it is a pass of these queues
pub record IsPassOf {K : Type 0} (post : Post K) (pass : PostPass) : Type 0 where
  pub many : vec_len pass.queue_passes ≡ vec_len post.queues
  pub queue_passes : (owner : ℕ) (queue : _) (queue_pass : _) → owner < vec_len post.queues
      → IsSegPassOf (slice_index_or post.queues.items owner queue)
      (slice_index_or pass.queue_passes.items owner queue_pass)
  pub views : (owner : ℕ) → owner < vec_len post.queues → IsViewOf pass (view_at pass owner)
  -- its owner is one of theirs, and it may take from its owner's queue
  pub below : pass.number < vec_len post.queues
  pub takes : IsTrue (view_at pass pass.number).takes
  -- the first pass counts the passes, and may take from the queues of all that have none yet
  pub counts : pass.number ≡ 0 → 0 < pass.made
  pub free : pass.number ≡ 0 → (owner : ℕ) → pass.made ≤ owner → owner < vec_len post.queues
      → IsTrue (view_at pass owner).takes

-- the same pass, which knows this of the queue of this owner, and of all others what it knew
pub record ChangesAt (old new : PostPass) (owner : ℕ) (v : View) : Type 0 where
  pub here : view_at new owner ≡ v
  pub others : (other : ℕ) → other ≢ owner → view_at new other ≡ view_at old other

-- the same pass, after it took this from the queue of this owner
pub record TakesFrom (fits : ℕ → Bool) (old new : PostPass) (owner : ℕ) (x : Sent) : Type 0 where
  pub taken : IsTaken fits (view_at old owner) x (view_at new owner)
  pub others : (other : ℕ) → other ≢ owner → view_at new other ≡ view_at old other

-- the same pass, with the same knowledge
abbrev pub KnowsTheSame : (old new : PostPass) → Type 0
KnowsTheSame old new = (owner : ℕ) → view_at new owner ≡ view_at old owner

-- what the first pass knows after a split, and what the pass knows that was split from it
pub record IsSplit (owners : ℕ) (old new other : PostPass) : Type 0 where
  pub kept : (owner : ℕ) → owner < owners
      → view_at new owner ≡ kept_view (owner == made_by old) (view_at old owner)
  pub given : (owner : ℕ) → owner < owners
      → view_at other owner ≡ given_view (owner == made_by old) (view_at old owner)

-- the pass took in the other one
abbrev pub HasMet : (owners : ℕ) → (old other new : PostPass) → Type 0
HasMet owners old other new =
    (owner : ℕ) → owner < owners
    → view_at new owner ≡ met_view (view_at old owner) (view_at other owner)

-- the queue_pass is one of the queue of this owner
abbrev pub IsQueuePassOf : {K : Type 0} → Post K → (owner : ℕ) → QueuePass → Type 0
IsQueuePassOf post owner queue_pass =
    (queue : _) → IsSegPassOf (slice_index_or post.queues.items owner queue) queue_pass

-- the pass has a queue_pass for each queue
pub record HasQueuePasses {K : Type 0} (post : Post K) (pass : PostPass) : Type 0 where
  pub many : vec_len pass.queue_passes ≡ vec_len post.queues
  pub queue_passes : (owner : ℕ) (queue_pass : QueuePass) → owner < vec_len post.queues
      → IsQueuePassOf post owner (slice_index_or pass.queue_passes.items owner queue_pass)

-- the pass has a new queue_pass for this queue, with this view
pub record HasNewQueuePass {K : Type 0} (post : Post K) (old new : PostPass) (owner : ℕ) (v : View) : Type 0
  where
    pub queue_pass : QueuePass
    pub new_is : new ≡ with_queue_pass old owner queue_pass
    pub of_queue : IsQueuePassOf post owner queue_pass
    pub view_is : queue_pass.me.view.client ≡ v
