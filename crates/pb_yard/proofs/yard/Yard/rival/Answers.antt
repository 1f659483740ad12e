use Rattle.std.proofs.Common.{◌≡◌, Some, [], length, sym, ap, ◌∙◌, subst}
use Rattle.pb_turn.specs.Passes.{view, number, found, state}
use Rattle.pb_lease.specs.Leased.{grant_of}
use Rattle.pb_lease.specs.GraphValue.{GraphValue, counts_in}
use Rattle.pb_yard.specs.Views.{cost_of}
use Rattle.pb_yard.specs.Replies.{RivalsAs}
use Rattle.pb_yard.proofs.Asks.{leased_as}
use Rattle.pb_yard.proofs.Clauses.{look_keeps, look_holds, look_seen, stays}
use Rattle.pb_yard.proofs.yard.Yard.rival.Goals as goal

pub rival-rival-requires : goal.rival-rival-requires
rival-rival-requires g c =
    let p = c.args.pass.now in
    let r = c.enter-held.ensures.rule.1 in
    subst (λ (z : GraphValue). (counts_in z).leases c.args.lease.now.worker ≡ Some (grant_of c.args.lease.now)) (sym (c.state.ensures ∙ c.enter-held.ensures.won.1))
    (leased_as (found c.enter-held.result) (cost_of c.enter-held.ensures.rule.0) r.0 (number p.turn) (view p.turn) r.1 r.2 p.is_live c.args.lease.now c.requires.leased)

pub leave-requires-clause-rule : goal.leave-requires-clause-rule
leave-requires-clause-rule g c =
    let p = c.args.pass.now in
    let e = c.enter-held.ensures in
    let x = found c.enter-held.result in
    let y = state c.enter-held.result in
    let v = view p.turn in
    look_keeps x y v p.is_live (λ _. []) (stays x y v p.is_live e.won.1) _ e.same.1 (number c.enter-held.new.pass)

pub returns-clause-rival : goal.returns-clause-rival
returns-clause-rival g c =
    let p = c.args.pass.now in
    let e = c.enter-held.ensures in
    let x = found c.enter-held.result in
    let y = state c.enter-held.result in
    let q = c.rival-rival.result in
    let l = c.args.lease.now in
    let f = c.rival-rival.ensures in
    let v = view p.turn in
    let found_is : c.state.result.now ≡ x = c.state.ensures ∙ e.won.1 in
    let r : RivalsAs l q x y = subst (λ (z : GraphValue). RivalsAs l q z y) found_is (f.rival, f.moment, sym c.state.ensures) in
    look_holds x y v p.is_live (λ _. []) (stays x y v p.is_live e.won.1) _ e.same.1 (view c.leave.new.pass) c.leave.ensures.view (number p.turn) e.rule (RivalsAs l q) r

pub invariant_of-pass-clause-seen_is : goal.invariant_of-pass-clause-seen_is
invariant_of-pass-clause-seen_is g c =
    let p = c.args.pass.now in
    let e = c.enter-held.ensures in
    let x = found c.enter-held.result in
    let y = state c.enter-held.result in
    let v = view p.turn in
    look_seen x y v p.is_live (λ _. []) (stays x y v p.is_live e.won.1) _ e.same.1 (view c.leave.new.pass) c.leave.ensures.view (number p.turn) e.rule
    ∙ ap length (ap (λ (z : GraphValue). z.table.journal) (sym c.state-2.ensures) ∙ sym c.journal.ensures.events)
