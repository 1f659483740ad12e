use Rattle.std.proofs.Common.{◌≡◌, ◌+◌, refl, sym, ap, arith, ◌∙◌}
use Rattle.pb_model.specs.Certificate.{Line}
use Rattle.pb_task.specs.Parts.{space_of}
use Rattle.pb_check.specs.Judging.{state_fault, unless}
use Rattle.pb_check.specs.declared.fault.CertificateFault.TheVariants as faults
use Rattle.pb_check.proofs.Passes.{by_goes_on, by_ends_with, by_done, not_none, is_none, read}
use Rattle.pb_check.proofs.row_faults.states_fault.Goals as goal

pub returns-then-is_some : goal.returns-then-is_some
returns-then-is_some c =
    let same : c.unless-fault.result ≡ state_fault (space_of c.args.task.now) (c.args.line + c.loop-i.i) c.at-row.result =
    c.unless-fault.ensures ∙ ap (λ b. unless b (faults.BadState (c.args.line + c.loop-i.i))) (c.is_state.ensures ∙ ap (λ (l : Line). (space_of c.args.task.now).is_state l.state) c.row.view_is) in
    by_ends_with (state_fault (space_of c.args.task.now)) c.args.line c.args.rows.now c.loop-i.i (c.args.line + c.loop-i.i) c.at-row.result c.unless-fault.result (not_none c.unless-fault.result (sym c.is_some.ensures ∙ c.if-is_some.true)) refl
    (omega (arith, c.loop-i-test.true, c.len-i-end.ensures)) (read c.args.rows.now c.loop-i.i c.at-row.result c.at-row.ensures) same c.loop-i.invariant.so_far

pub loop-i-preserved : goal.loop-i-preserved
loop-i-preserved c =
    let same : c.unless-fault.result ≡ state_fault (space_of c.args.task.now) (c.args.line + c.loop-i.i) c.at-row.result =
    c.unless-fault.ensures ∙ ap (λ b. unless b (faults.BadState (c.args.line + c.loop-i.i))) (c.is_state.ensures ∙ ap (λ (l : Line). (space_of c.args.task.now).is_state l.state) c.row.view_is) in
    record {
      so_far = by_goes_on (state_fault (space_of c.args.task.now)) c.args.line c.args.rows.now c.loop-i.i (c.args.line + c.loop-i.i) c.at-row.result refl (omega (arith, c.loop-i-test.true, c.len-i-end.ensures))
          (read c.args.rows.now c.loop-i.i c.at-row.result c.at-row.ensures) (sym same ∙ is_none c.unless-fault.result (sym c.is_some.ensures ∙ c.if-is_some.false)) c.loop-i.invariant.so_far;
    }

pub returns : goal.returns
returns c = by_done (state_fault (space_of c.args.task.now)) c.args.line c.args.rows.now c.loop-i.i (omega (arith, c.loop-i-test.false, c.len-i-end.ensures)) c.loop-i.invariant.so_far
