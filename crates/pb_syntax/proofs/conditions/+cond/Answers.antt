use Rattle.std.proofs.Common.{◌∙◌, sym, length}
use Rattle.std.proofs.lemmas.Result.{err_from_is_err_and}
use Rattle.pb_pddl.specs.Reading.{begins_open, cond_at}
use Rattle.pb_syntax.proofs.Folds.{goes_on, ends, stops, is_done, at_first}
use Rattle.pb_syntax.proofs.conditions.+cond.Goals as goal

pub all_conds-loop-init : goal.all_conds-loop-init
all_conds-loop-init t c = at_first (begins_open) (cond_at c.args.variables c.args.room) c.args.out.now c.args.tokens.now

pub all_conds-returns-then-not-begins : goal.all_conds-returns-then-not-begins
all_conds-returns-then-not-begins t c = stops (begins_open) (cond_at c.args.variables c.args.room) _ c.loop.out c.loop.rest.now _ (sym c.begins.ensures ∙ c.if-not-begins.true) c.loop.invariant

pub all_conds-returns-in_err-rest : goal.all_conds-returns-in_err-rest
all_conds-returns-in_err-rest t c =
    let p = err_from_is_err_and c.from_residual.result c.from_residual.ensures.1 in
    rw (p.1, p.2) (ends (begins_open) (cond_at c.args.variables c.args.room) c.in_err-rest.field-0.0 _ c.loop.counter c.loop.out c.loop.rest.now _ c.loop-test.true (sym c.begins.ensures ∙ c.if-not-begins.false) c.in_err-rest.ensures c.loop.invariant)

pub all_conds-loop-preserved : goal.all_conds-loop-preserved
all_conds-loop-preserved t c =
    goes_on (begins_open) (cond_at c.args.variables c.args.room) (length c.args.tokens.now) c.loop.counter c.loop.out c.cond.new.out c.loop.rest.now c.in_ok-rest.rest.now _ c.loop-test.true (sym c.begins.ensures ∙ c.if-not-begins.false)
    c.in_ok-rest.ensures c.loop.invariant

pub all_conds-returns : goal.all_conds-returns
all_conds-returns t c = is_done (begins_open) (cond_at c.args.variables c.args.room) (length c.args.tokens.now) c.loop.counter c.loop.out c.loop.rest.now _ c.loop-test.false c.loop.invariant
