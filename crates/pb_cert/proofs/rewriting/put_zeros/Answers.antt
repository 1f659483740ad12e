use Rattle.std.proofs.Common.{[], ◌∷◌, ◌∙◌, ap, length, arith}
use Rattle.std.proofs.lemmas.List.{length-append}
use Rattle.pb_cert.proofs.Respelled.{one_zero_more}
use Rattle.pb_cert.proofs.rewriting.put_zeros.Goals as goal

pub zeros-preserved : goal.zeros-preserved
zeros-preserved c = record {
  within = omega (arith, c.zeros-test.true);
  so_far = c.push.ensures ∙ one_zero_more c.args.out.now c.zeros.out c.zeros.at c.zeros.invariant.so_far;
  long = (
      let longer = ap length c.push.ensures ∙ length-append c.zeros.out (48 ∷ []) in
      omega (arith, longer, c.zeros.invariant.long)
      );
}
