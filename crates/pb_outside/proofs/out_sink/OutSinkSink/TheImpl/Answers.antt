use Rattle.pb_outside.proofs.Untold.{ok_claims_nothing, err_claims_nothing}
use Rattle.std.proofs.lemmas.Result.{on_err_weaker}
use Rattle.pb_outside.proofs.out_sink.OutSinkSink.TheImpl.Goals as goal

pub put-tells : goal.put-tells
put-tells g c = record {
  ok = ok_claims_nothing c.result;
  err = err_claims_nothing c.result;
  sure = λ h. absurd h;
  takes = λ n h. h;
  noted = c.ensures.noted;
  noted_error = on_err_weaker c.result (λ f. record { kept = f.kept; within = f.within; noted = f.noted; told = tt }) c.ensures.noted_error;
  cause = c.ensures.cause;
}
