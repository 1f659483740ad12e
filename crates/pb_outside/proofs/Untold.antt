-- What is owed of contents where none are told.
use Rattle.std.proofs.Common.{Result, Ok, Err}
use Rattle.std.specs.Prelude.{OnOk, OnErr, IfOk, IfErr}

pub ok_claims_nothing : {T E : Type 0} (r : Result T E) → OnOk r (Unit {0})
ok_claims_nothing (Ok value) = tt
ok_claims_nothing (Err error) = tt

pub err_claims_nothing : {T E : Type 0} (r : Result T E) → OnErr r (Unit {0})
err_claims_nothing (Ok value) = tt
err_claims_nothing (Err error) = tt

pub value_claims_nothing : {T E : Type 0} (r : Result T E) → IfOk r (λ value. Unit {0})
value_claims_nothing (Ok value) = tt
value_claims_nothing (Err error) = tt

pub error_claims_nothing : {T E : Type 0} (r : Result T E) → IfErr r (λ error. Unit {0})
error_claims_nothing (Ok value) = tt
error_claims_nothing (Err error) = tt
