use Rattle.pb_outside.proofs.Untold.{ok_claims_nothing, err_claims_nothing, value_claims_nothing, error_claims_nothing}
use Rattle.std.proofs.lemmas.Result.{on_err_weaker}
use Rattle.pb_outside.proofs.file_shelf.FileShelfShelf.TheImpl.Goals as goal

pub load-tells : goal.load-tells
load-tells g c = record {
  whole = value_claims_nothing c.result;
  short = c.ensures.short;
  long = error_claims_nothing c.result;
  seen = c.ensures.seen;
  same = tt;
  sure = λ h. absurd h;
  holds = λ name n h. h;
  loads = λ name h. h;
  noted = c.ensures.noted;
  noted_error = c.ensures.noted_error;
  cause = c.ensures.cause;
}

pub create-tells : goal.create-tells
create-tells g c = record {
  ok = ok_claims_nothing c.result;
  err = err_claims_nothing c.result;
  others = tt;
  sure = λ n h. absurd h;
  holds = λ name n h. h;
  loads = λ name h. h;
  noted = c.ensures.noted;
  cause = c.ensures.cause;
}

pub append-tells : goal.append-tells
append-tells g c = record {
  ok = ok_claims_nothing c.result;
  err = err_claims_nothing c.result;
  others = tt;
  sure = tt;
  holds = λ name n h. h;
  loads = λ name h. h;
  noted = c.ensures.noted;
  noted_error = on_err_weaker c.result (λ f. record { kept = f.kept; within = f.within; noted = f.noted; told = tt }) c.ensures.noted_error;
  cause = c.ensures.cause;
}
