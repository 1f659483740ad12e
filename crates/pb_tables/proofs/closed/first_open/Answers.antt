use Rattle.std.proofs.Common.{◌≡◌, ◌+◌, ℕ, suc, length, slice_index, subst, arith}
use Rattle.pb_task.specs.Strips.{action_at}
use Rattle.pb_tables.specs.Below.{any_below}
use Rattle.pb_tables.specs.Images.{leads_out}
use Rattle.pb_tables.specs.Looking.{IsFirst}
use Rattle.pb_tables.proofs.Firsts.{either_first}
use Rattle.pb_tables.proofs.closed.first_open.Goals as goal

pub loop-action-preserved : goal.loop-action-preserved
loop-action-preserved c =
    let strips = c.args.strips.now in
    let out = λ (number place : ℕ). leads_out strips.atoms c.args.tracked.now c.args.listed.now (action_at strips.actions number) (slice_index c.args.listed.now place) in
    let next : suc c.loop-action.action ≡ c.loop-action.action + 1 = omega arith in
    subst (λ n. IsFirst c.args.limit (λ place. any_below n (λ number. out number place)) c.first_out_if_touched-first.result) next
    (either_first c.args.limit (λ place. any_below c.loop-action.action (λ number. out number place)) (out c.loop-action.action) c.loop-action.first c.first_out_if_touched-first.result
    c.loop-action.invariant c.first_out_if_touched-first.ensures)

pub returns : goal.returns
returns c =
    let strips = c.args.strips.now in
    let all : c.loop-action.action ≡ length strips.actions = omega (arith, c.loop-action-test.false, c.loop-action.auto.action-end, c.len-action-end.ensures) in
    subst (λ n. IsFirst c.args.limit (λ place. any_below n (λ number. leads_out strips.atoms c.args.tracked.now c.args.listed.now (action_at strips.actions number) (slice_index c.args.listed.now place))) c.loop-action.first)
    all c.loop-action.invariant
