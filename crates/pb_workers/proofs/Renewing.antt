-- What is true by the answer to a worker that asks to go on with its lease.
use Rattle.std.proofs.Common.{◌≡◌, false, refl}
use Rattle.pb_lease.specs.declared.answer.Renewed.{Renewed}
use Rattle.pb_lease.specs.declared.answer.Renewed.TheVariants.{Kept, Given}
use Rattle.pb_lease.specs.LeaseValue.{LeaseValue}
use Rattle.pb_lease.specs.GraphValue.{GraphValue}
use Rattle.pb_lease.specs.Steps.{IsReleased, IsRenewed, GoesOn}
use Rattle.pb_workers.specs.Serving.{searched_in}
use Rattle.pb_workers.specs.Switched.{IfKept, IfGiven}
use Rattle.pb_workers.proofs.Going.{same_searched}
use Rattle.pb_workers.proofs.Returned.{returned_same}

pub if_kept : (reply : Renewed) (P : LeaseValue → Type 0) → ((kept : LeaseValue) → reply ≡ Kept kept → P kept) → IfKept reply P
if_kept (Kept kept) P is = is kept refl
if_kept Given P is = tt

pub if_given : (reply : Renewed) (P : Type 0) → (reply ≡ Given → P) → IfGiven reply P
if_given (Kept kept) P is = tt
if_given Given P is = is refl

pub renewal_searched : (old : GraphValue) (lease : LeaseValue) (new : GraphValue) (reply : Renewed) → ((kept : LeaseValue) → reply ≡ Kept kept → GoesOn old lease new × IsRenewed old lease kept new)
    → (reply ≡ Given → (GoesOn old lease new → ⊥) × IsReleased old lease false new) → searched_in new ≡ searched_in old
renewal_searched old lease new (Kept kept) goes back =
    let n = (goes kept refl).1 in
    same_searched old new (record { task = n.task; abstraction = n.events.abstraction; choice = n.choice; settings = n.events.settings; past = n.events.past })
renewal_searched old lease new Given goes back = same_searched old new (returned_same old lease false new (back refl).1)
