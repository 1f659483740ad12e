-- What is true by the answer to a worker that tries or asks to go on.
use Rattle.std.specs.Prelude.{⊤}
use Rattle.pb_lease.specs.LeaseValue.{LeaseValue}
use Rattle.pb_lease.specs.declared.answer.Renewed.{Renewed}
use Rattle.pb_lease.specs.declared.answer.Renewed.TheVariants as renewed
use Rattle.pb_workers.specs.declared.lessor.Switched.{Switched}
use Rattle.pb_workers.specs.declared.lessor.Switched.TheVariants.{Kept, Next, Home, Busy}

-- the worker goes on with a lease, of which this is true
abbrev pub IfGoing : Switched → (LeaseValue → Type 0) → Type 0
IfGoing (Kept lease) is = is lease
IfGoing (Next lease) is = is lease
IfGoing Home is = ⊤
IfGoing (Busy lease) is = ⊤

-- its lease came back, and this is true
abbrev pub IfHome : Switched → Type 0 → Type 0
IfHome (Kept lease) is = ⊤
IfHome (Next lease) is = ⊤
IfHome Home is = is
IfHome (Busy lease) is = ⊤

-- it still has its lease as it was, of which this is true
abbrev pub IfBusy : Switched → (LeaseValue → Type 0) → Type 0
IfBusy (Kept lease) is = ⊤
IfBusy (Next lease) is = ⊤
IfBusy Home is = ⊤
IfBusy (Busy lease) is = is lease

-- the lease was renewed, and this is true of it
abbrev pub IfKept : Renewed → (LeaseValue → Type 0) → Type 0
IfKept (renewed.Kept lease) is = is lease
IfKept renewed.Given is = ⊤

-- the lease came back, and this is true
abbrev pub IfGiven : Renewed → Type 0 → Type 0
IfGiven (renewed.Kept lease) is = ⊤
IfGiven renewed.Given is = is
