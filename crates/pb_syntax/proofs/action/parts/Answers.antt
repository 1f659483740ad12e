use Rattle.std.proofs.Common.{◌∙◌, sym, length}
use Rattle.std.proofs.lemmas.Result.{err_from_is_err_and}
use Rattle.pb_pddl.specs.Reading.{begins_key, part_at, limited}
use Rattle.pb_syntax.proofs.Folds.{goes_on, ends, stops, is_done, at_first}
use Rattle.pb_syntax.proofs.action.parts.Goals as goal

pub loop-init : goal.loop-init
loop-init c = at_first (begins_key) (part_at limited) c.args.out.now c.args.tokens.now

pub returns-then-not-begins_key : goal.returns-then-not-begins_key
returns-then-not-begins_key c = stops (begins_key) (part_at limited) _ c.loop.out c.loop.rest.now _ (sym c.begins_key.ensures ∙ c.if-not-begins_key.true) c.loop.invariant

pub returns-in_err-rest : goal.returns-in_err-rest
returns-in_err-rest c =
    let p = err_from_is_err_and c.from_residual.result c.from_residual.ensures.1 in
    rw (p.1, p.2) (ends (begins_key) (part_at limited) c.in_err-rest.field-0.0 _ c.loop.counter c.loop.out c.loop.rest.now _ c.loop-test.true (sym c.begins_key.ensures ∙ c.if-not-begins_key.false) c.in_err-rest.ensures c.loop.invariant)

pub loop-preserved : goal.loop-preserved
loop-preserved c =
    goes_on (begins_key) (part_at limited) (length c.args.tokens.now) c.loop.counter c.loop.out c.part.new.out c.loop.rest.now c.in_ok-rest.rest.now _ c.loop-test.true (sym c.begins_key.ensures ∙ c.if-not-begins_key.false)
    c.in_ok-rest.ensures c.loop.invariant

pub returns : goal.returns
returns c = is_done (begins_key) (part_at limited) (length c.args.tokens.now) c.loop.counter c.loop.out c.loop.rest.now _ c.loop-test.false c.loop.invariant
