-- Definitions that end with a fault, one step after another, and what a function that follows them
-- returns.
use Rattle.std.specs.Prelude.{◌≡◌, ℕ, Option, None, Some, Result, Ok, Err, ⊤}
use Rattle.pb_check.specs.declared.fault.CertificateFault.{CertificateFault}
use Rattle.pb_check.specs.declared.fault.CertificateFault.TheVariants.{Syntax}
use Rattle.pb_check.specs.declared.fault.CheckError.{CheckError}
use Rattle.pb_check.specs.declared.fault.CheckError.TheVariants as errors

-- goes on with what the first gave, or ends with its fault
infixl 10 ◌>>=◌
abbrev pub ◌>>=◌ : {A B : Type 0} → Result A CertificateFault → (A → Result B CertificateFault)
    → Result B CertificateFault
(Ok x) >>= f = f x
(Err fault) >>= f = Err fault

-- what a line needs, or else it is a fault of that line
abbrev pub wanted : {A : Type 0} → (line : ℕ) → Option A → Result A CertificateFault
wanted line None = Err (Syntax line)
wanted line (Some x) = Ok x

-- the fault is the one that is given; nothing is said if memory ran out
abbrev pub Fails : {Y : Type 0} → CheckError → (given : Result Y CertificateFault) → Type 0
Fails errors.Memory given = ⊤
Fails (errors.Fault fault) given = given ≡ Err fault

-- it is a fault, and not that memory ran out
abbrev pub IsFault : CheckError → Type 0
IsFault errors.Memory = ⊥
IsFault (errors.Fault fault) = ⊤

-- what a function returned, seen by `view`, is what is given, unless memory ran out
abbrev pub Gives : {X Y : Type 0} → (view : X → Y) → Result X CheckError
    → (given : Result Y CertificateFault) → Type 0
Gives view (Ok x) given = given ≡ Ok (view x)
Gives view (Err e) given = Fails e given
