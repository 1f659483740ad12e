use Rattle.std.proofs.Common.{◌≡◌, suc, ◌+◌, ◌-◌, Some, drop, ap, sym, arith, ◌∙◌}
use Rattle.pb_check.specs.Judging.{rows_order_fault}
use Rattle.pb_check.specs.declared.fault.CertificateFault.TheVariants as faults
use Rattle.pb_check.proofs.Passes.{order_goes_on, order_ends, order_done}
use Rattle.pb_check.proofs.row_faults.first_in_order.Goals as goal

pub loop-i-init : goal.loop-i-init
loop-i-init c = let e : c.args.line ≡ c.args.line + (1 - 1) = omega arith in ap (λ k. rows_order_fault k c.args.rows.now) e

pub returns-then-not-rises_at : goal.returns-then-not-rises_at
returns-then-not-rises_at c =
    let e : c.args.line + suc (c.loop-i.i - 1) ≡ c.args.line + c.loop-i.i = omega arith in
    sym (
    c.loop-i.invariant
    ∙ order_ends c.args.line c.args.rows.now (c.loop-i.i - 1) (omega (arith, c.loop-i-test.true, c.len-i-end.ensures)) (sym c.rises_at.ensures ∙ c.if-not-rises_at.true)
    ∙ ap (λ k. Some (faults.RowOrder k)) e
    )

pub loop-i-preserved : goal.loop-i-preserved
loop-i-preserved c =
    let e : suc (c.loop-i.i - 1) ≡ c.loop-i.i + 1 - 1 = omega arith in
    c.loop-i.invariant
    ∙ order_goes_on c.args.line c.args.rows.now (c.loop-i.i - 1) (omega (arith, c.loop-i-test.true, c.len-i-end.ensures)) (sym c.rises_at.ensures ∙ c.if-not-rises_at.false)
    ∙ ap (λ k. rows_order_fault (c.args.line + k) (drop k c.args.rows.now)) e

pub returns : goal.returns
returns c = sym (c.loop-i.invariant ∙ order_done (c.args.line + (c.loop-i.i - 1)) c.args.rows.now (c.loop-i.i - 1) (omega (arith, c.loop-i-test.false, c.len-i-end.ensures)))
