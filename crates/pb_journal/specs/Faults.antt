-- Definitions that end with the first fault, one step after another, and what a function that
-- follows them returns.
use Rattle.std.specs.Prelude.{◌≡◌, ℕ, Option, None, Some, Result, Ok, Err, ⊤}
use Rattle.pb_machine.specs.declared.event.EventRefusal.{EventRefusal}
use Rattle.pb_machine.specs.declared.event.EventRefusal.TheVariants as refusals
use Rattle.pb_journal.specs.declared.error.Why.{Why}
use Rattle.pb_journal.specs.declared.error.Why.TheVariants.{Spelling, Ended, Worker, Holds, Block, Scope, Hot, Quota, NoEnd, Trouble}
use Rattle.pb_journal.specs.declared.error.Fault.{Fault}
use Rattle.pb_journal.specs.declared.error.JournalError.{JournalError}
use Rattle.pb_journal.specs.declared.error.JournalError.TheVariants as errors

-- goes on with what the first gave, or ends with its fault
infixl 10 ◌>>=◌
abbrev pub ◌>>=◌ : {A B : Type 0} → Result A Fault → (A → Result B Fault) → Result B Fault
(Ok x) >>= f = f x
(Err fault) >>= f = Err fault

abbrev pub fault_at : {A : Type 0} → (line : ℕ) → Why → Result A Fault
fault_at line why = Err (record { line = line; why = why })

-- what a line needs, or else it is not spelled as it must be
abbrev pub wanted : {A : Type 0} → (line : ℕ) → Option A → Result A Fault
wanted line None = fault_at line Spelling
wanted line (Some x) = Ok x

-- the reason of a line whose event may not come next
abbrev pub why_of : EventRefusal → Why
why_of refusals.Ended = Ended
why_of refusals.Worker = Worker
why_of refusals.Holds = Holds
why_of refusals.Block = Block
why_of refusals.Scope = Scope
why_of refusals.Hot = Hot
why_of refusals.Quota = Quota
why_of refusals.NoEnd = NoEnd
why_of refusals.Trouble = Trouble

-- what a function returned, seen by `view`, is what is given
abbrev pub Reads : {X Y : Type 0} → (view : X → Y) → Result X Fault → (given : Result Y Fault)
    → Type 0
Reads view (Ok x) given = given ≡ Ok (view x)
Reads view (Err fault) given = given ≡ Err fault

-- the fault is the one that is given
abbrev pub IsFault : {Y : Type 0} → JournalError → (given : Result Y Fault) → (memory : Type 0)
    → Type 0
IsFault errors.Memory given memory = memory
IsFault (errors.At line why) given memory = given ≡ fault_at line why

-- what a function that reports errors returned, seen by `view`, is what is given; the function
-- never runs out of memory
abbrev pub Answers : {X Y : Type 0} → (view : X → Y) → Result X JournalError
    → (given : Result Y Fault) → Type 0
Answers view (Ok x) given = given ≡ Ok (view x)
Answers view (Err e) given = IsFault e given ⊥

-- what a function that reports errors returned, seen by `view`, is what is given, unless memory ran
-- out
abbrev pub Gives : {X Y : Type 0} → (view : X → Y) → Result X JournalError
    → (given : Result Y Fault) → Type 0
Gives view (Ok x) given = given ≡ Ok (view x)
Gives view (Err e) given = IsFault e given ⊤
