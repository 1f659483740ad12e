use Rattle.std.proofs.Common.{◌≡◌, ◌<◌, ℕ, Bool, ◌∷◌, ◌||◌, is_some, None, true, false, length, sym, ap, ◌∙◌, subst}
use Rattle.pb_turn.specs.Passes.{view, number, found}
use Rattle.pb_lease.specs.GraphValue.{GraphValue, counts_in}
use Rattle.pb_yard.specs.Views.{cost_of}
use Rattle.pb_lease.specs.Events.{ending}
use Rattle.pb_lease.specs.Steps.{IsSignedOff, KeepsLeases}
use Rattle.pb_machine.specs.declared.event.Event.TheVariants.{Off}
use Rattle.pb_yard.specs.Replies.{SignsOffAs, reported, off_events}
use Rattle.pb_yard.specs.Calls.{SignsOff}
use Rattle.pb_yard.proofs.Asks.{worker_known, vacant, active, cause, still_cause}
use Rattle.pb_yard.proofs.Clauses.{look_keeps, look_holds, look_seen, may_sign_off}
use Rattle.pb_yard.proofs.yard.Yard.sign_off.Goals as goal

-- the graph's answer to a sign-off with this report, or without
abbrev SignsOffWith : (worker : ℕ) → (report : Bool) → (x y : GraphValue) → Type 0
SignsOffWith worker report x y = IsSignedOff x worker report y × KeepsLeases x (Off worker report ∷ ending report x.table.end) y

pub sign_off-requires-clause-worker : goal.sign_off-requires-clause-worker
sign_off-requires-clause-worker g c =
    let p = c.args.pass.now in
    let r = c.enter-held.ensures.rule.1 in
    subst (λ (z : GraphValue). p.worker < z.table.settings.workers) (sym (c.state_mut-graph.ensures.value ∙ c.enter-held.ensures.won.1))
    (subst (λ w. w < (found c.enter-held.result).table.settings.workers) p.worker_is
    (worker_known (found c.enter-held.result) (cost_of c.enter-held.ensures.rule.0) r.0 (number p.turn) (view p.turn) r.1 r.2 p.is_live))

pub sign_off-requires-clause-vacant : goal.sign_off-requires-clause-vacant
sign_off-requires-clause-vacant g c =
    let p = c.args.pass.now in
    let r = c.enter-held.ensures.rule.1 in
    subst (λ (z : GraphValue). (counts_in z).leases p.worker ≡ None) (sym (c.state_mut-graph.ensures.value ∙ c.enter-held.ensures.won.1))
    (subst (λ w. (counts_in (found c.enter-held.result)).leases w ≡ None) p.worker_is
    (vacant (found c.enter-held.result) (cost_of c.enter-held.ensures.rule.0) r.0 (number p.turn) (view p.turn) r.1 r.2 p.is_live c.requires.vacant))

pub sign_off-requires-clause-stays : goal.sign_off-requires-clause-stays
sign_off-requires-clause-stays g c =
    let p = c.args.pass.now in
    let r = c.enter-held.ensures.rule.1 in
    subst (λ (z : GraphValue). (counts_in z).signed_off p.worker ≡ false) (sym (c.state_mut-graph.ensures.value ∙ c.enter-held.ensures.won.1))
    (subst (λ w. (counts_in (found c.enter-held.result)).signed_off w ≡ false) p.worker_is
    (active (found c.enter-held.result) (cost_of c.enter-held.ensures.rule.0) r.0 (number p.turn) (view p.turn) r.1 r.2 p.is_live c.requires.stays))

pub sign_off-requires-clause-cause : goal.sign_off-requires-clause-cause
sign_off-requires-clause-cause g c =
    let p = c.args.pass.now in
    let r = c.enter-held.ensures.rule.1 in
    let found_is = c.state_mut-graph.ensures.value ∙ c.enter-held.ensures.won.1 in
    let x = found c.enter-held.result in
    let report : reported c.args.memory x.table.end ≡ c.is_reported-report.result = sym (c.is_reported-report.ensures ∙ ap (reported c.args.memory) (c.end.ensures ∙ ap (λ (z : GraphValue). z.table.end) found_is)) in
    subst (λ (z : GraphValue). (c.is_reported-report.result || is_some z.table.end) ≡ true) (sym found_is)
    (subst (λ b. (b || is_some x.table.end) ≡ true) report (still_cause c.args.memory x.table.end
    (cause (found c.enter-held.result) (cost_of c.enter-held.ensures.rule.0) r.0 (number p.turn) (view p.turn) r.1 r.2 p.is_live c.args.memory c.requires.cause)))

pub leave-requires-clause-rule : goal.leave-requires-clause-rule
leave-requires-clause-rule g c =
    let p = c.args.pass.now in
    let e = c.enter-held.ensures in
    let x = found c.enter-held.result in
    let y = c.sign_off.new.self in
    let t = c.args.memory in
    let f = c.sign_off.ensures in
    let v = view p.turn in
    let found_is : c.state_mut-graph.result.now ≡ x = c.state_mut-graph.ensures.value ∙ e.won.1 in
    let report : c.is_reported-report.result ≡ reported t x.table.end = c.is_reported-report.ensures ∙ ap (reported t) (c.end.ensures ∙ ap (λ (z : GraphValue). z.table.end) found_is) in
    let r : SignsOffAs v.journal.own.worker t x y = subst (λ w. SignsOffAs w t x y) (sym p.worker_is) (subst (λ b. SignsOffWith p.worker b x y) report
    (subst (λ (z : GraphValue). SignsOffWith p.worker c.is_reported-report.result z y) found_is (f.signed_off, f.moment))) in
    look_keeps x y v p.is_live (off_events v.journal.own.worker t) (may_sign_off x y v p.is_live t r) _ e.same.1 (number c.enter-held.new.pass)

pub returns-clause-signed_off : goal.returns-clause-signed_off
returns-clause-signed_off g c =
    let p = c.args.pass.now in
    let e = c.enter-held.ensures in
    let x = found c.enter-held.result in
    let y = c.sign_off.new.self in
    let t = c.args.memory in
    let f = c.sign_off.ensures in
    let v = view p.turn in
    let found_is : c.state_mut-graph.result.now ≡ x = c.state_mut-graph.ensures.value ∙ e.won.1 in
    let report : c.is_reported-report.result ≡ reported t x.table.end = c.is_reported-report.ensures ∙ ap (reported t) (c.end.ensures ∙ ap (λ (z : GraphValue). z.table.end) found_is) in
    let r : SignsOffAs v.journal.own.worker t x y = subst (λ w. SignsOffAs w t x y) (sym p.worker_is) (subst (λ b. SignsOffWith p.worker b x y) report
    (subst (λ (z : GraphValue). SignsOffWith p.worker c.is_reported-report.result z y) found_is (f.signed_off, f.moment))) in
    subst (λ w. SignsOff w t v (view c.leave.new.pass)) p.worker_is
    (look_holds x y v p.is_live (off_events v.journal.own.worker t) (may_sign_off x y v p.is_live t r) _ e.same.1 (view c.leave.new.pass) c.leave.ensures.view (number p.turn) e.rule (SignsOffAs v.journal.own.worker t) r)

pub invariant_of-pass-clause-seen_is : goal.invariant_of-pass-clause-seen_is
invariant_of-pass-clause-seen_is g c =
    let p = c.args.pass.now in
    let e = c.enter-held.ensures in
    let x = found c.enter-held.result in
    let y = c.sign_off.new.self in
    let t = c.args.memory in
    let f = c.sign_off.ensures in
    let v = view p.turn in
    let found_is : c.state_mut-graph.result.now ≡ x = c.state_mut-graph.ensures.value ∙ e.won.1 in
    let report : c.is_reported-report.result ≡ reported t x.table.end = c.is_reported-report.ensures ∙ ap (reported t) (c.end.ensures ∙ ap (λ (z : GraphValue). z.table.end) found_is) in
    let r : SignsOffAs v.journal.own.worker t x y = subst (λ w. SignsOffAs w t x y) (sym p.worker_is) (subst (λ b. SignsOffWith p.worker b x y) report
    (subst (λ (z : GraphValue). SignsOffWith p.worker c.is_reported-report.result z y) found_is (f.signed_off, f.moment))) in
    look_seen x y v p.is_live (off_events v.journal.own.worker t) (may_sign_off x y v p.is_live t r) _ e.same.1 (view c.leave.new.pass) c.leave.ensures.view (number p.turn) e.rule
    ∙ ap length (ap (λ (z : GraphValue). z.table.journal) (sym c.state.ensures) ∙ sym c.journal.ensures.events)
