-- What taking letters in does to an owner's rows, and to what a pass knows.
use Rattle.std.specs.Prelude.{◌≡◌, ◌≢◌, ℕ, List}
use Rattle.pb_lists.specs.Bundle.{row_of}
use Rattle.pb_task.specs.declared.parts.TaskParts.{TaskParts}
use Rattle.pb_estimate.specs.Choices.{Choice}
use Rattle.pb_estimate.specs.Estimates.{estimate_by}
use Rattle.pb_mail.specs.declared.letter.Sent.{Sent}
use Rattle.pb_mail.specs.declared.pass.PostPass.{PostPass}
use Rattle.pb_mail.specs.Passes.{view_at, number_of, made_by}
use Rattle.pb_hashed.specs.MailWork.{part_after}
use Rattle.pb_owner.specs.declared.share.Share.{Share}

-- The states of these letters were offered, one after another, and nothing else changed. Which
-- owner a state has makes no difference to an offer, so `homes` is any.
pub record HasTakenIn (task : TaskParts) (choice : Choice) (takes : List Sent) (old new : Share)
    : Type 0 where
  pub rows : (homes : ℕ → ℕ) → row_of new.bundle
      ≡ part_after (record { estimate = estimate_by task choice; home = homes }) takes
      (row_of old.bundle)
  pub weight_is : new.bundle.weight ≡ old.bundle.weight
  pub incumbent_is : new.incumbent ≡ old.incumbent

-- of this owner's queue the pass knows the same but for what was taken, and of all others the same
pub record KeepsQueues (owner : ℕ) (old new : PostPass) : Type 0 where
  pub number_is : number_of new ≡ number_of old
  pub made_is : made_by new ≡ made_by old
  pub sent : (view_at new owner).sent ≡ (view_at old owner).sent
  pub met : (view_at new owner).met ≡ (view_at old owner).met
  pub number : (view_at new owner).number ≡ (view_at old owner).number
  pub takes : (view_at new owner).takes ≡ (view_at old owner).takes
  pub others : (other : ℕ) → other ≢ owner → view_at new other ≡ view_at old other
