use Rattle.std.proofs.lemmas.Result.{err_from_is_err_and}
use Rattle.pb_check.proofs.TextByRows.{front_fails, behind_front}
use Rattle.pb_check.proofs.front_shares.text_by_shares.Goals as goal

pub returns-in_err-front-clause-kept : goal.returns-in_err-front-clause-kept
returns-in_err-front-clause-kept g c =
    let p = err_from_is_err_and c.from_residual.result c.from_residual.ensures.1 in
    rw (p.1, p.2) (front_fails c.in_err-front.field-0.0 c.args.bytes.now c.in_err-front.ensures.gives)

pub returns-clause-kept : goal.returns-clause-kept
returns-clause-kept g c = behind_front c.args.bytes.now c.in_ok-front.front c.in_ok-front.rest.now c.text_by.result c.in_ok-front.ensures.gives c.text_by.ensures.kept
