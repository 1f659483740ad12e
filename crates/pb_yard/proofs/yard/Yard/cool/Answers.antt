use Rattle.std.proofs.Common.{◌≡◌, ◌<◌, IsSome, [], length, refl, sym, ap, ◌∙◌, subst}
use Rattle.pb_turn.specs.Passes.{view, number, found}
use Rattle.pb_machine.specs.declared.event.Event.TheVariants.{Cold}
use Rattle.pb_lease.specs.Tables.{blocks}
use Rattle.pb_lease.specs.Choices.{MayCool}
use Rattle.pb_lease.specs.GraphValue.{GraphValue, counts_in}
use Rattle.pb_yard.specs.Views.{cost_of}
use Rattle.pb_yard.specs.Replies.{CoolsAs, mark_events}
use Rattle.pb_yard.specs.Calls.{Cools}
use Rattle.pb_yard.proofs.Asks.{has_lease, block_known}
use Rattle.pb_yard.proofs.Steps.{first_by}
use Rattle.pb_yard.proofs.Clauses.{look_keeps, look_holds, look_seen, may_mark, marks_as}
use Rattle.pb_yard.proofs.yard.Yard.cool.Goals as goal

pub cool-done-requires-clause-leased : goal.cool-done-requires-clause-leased
cool-done-requires-clause-leased g c =
    let p = c.args.pass.now in
    let r = c.enter-held.ensures.rule.1 in
    subst (λ (z : GraphValue). IsSome ((counts_in z).leases p.worker)) (sym (c.state_mut.ensures.value ∙ c.enter-held.ensures.won.1))
    (subst (λ w. IsSome ((counts_in (found c.enter-held.result)).leases w)) p.worker_is
    (has_lease (found c.enter-held.result) (cost_of c.enter-held.ensures.rule.0) r.0 (number p.turn) (view p.turn) r.1 r.2 p.is_live c.requires.leased))

pub cool-done-requires-clause-block : goal.cool-done-requires-clause-block
cool-done-requires-clause-block g c =
    let p = c.args.pass.now in
    let r = c.enter-held.ensures.rule.1 in
    subst (λ (z : GraphValue). c.args.block < (blocks z.table).count) (sym (c.state_mut.ensures.value ∙ c.enter-held.ensures.won.1))
    (block_known (found c.enter-held.result) (cost_of c.enter-held.ensures.rule.0) r.0 (number p.turn) (view p.turn) r.1 r.2 p.is_live c.args.block c.requires.block)

pub leave-requires-clause-rule : goal.leave-requires-clause-rule
leave-requires-clause-rule g c =
    let p = c.args.pass.now in
    let e = c.enter-held.ensures in
    let x = found c.enter-held.result in
    let y = c.cool-done.new.self in
    let q = c.cool-done.result in
    let b = c.args.block in
    let f = c.cool-done.ensures in
    let v = view p.turn in
    let found_is : c.state_mut.result.now ≡ x = c.state_mut.ensures.value ∙ e.won.1 in
    let r : CoolsAs v.journal.own.worker b q x y = subst (λ w. CoolsAs w b q x y) (sym p.worker_is) (subst (λ (z : GraphValue). CoolsAs p.worker b q z y) found_is
    (marks_as c.state_mut.result.now y (MayCool c.state_mut.result.now p.worker b) p.worker (Cold p.worker b) q f.answer f.cooled f.refused f.moment)) in
    look_keeps x y v p.is_live (λ _. mark_events (Cold v.journal.own.worker b) q) (may_mark x y v p.is_live (MayCool x v.journal.own.worker b) (Cold v.journal.own.worker b) q tt (λ _. refl) (first_by v.journal.own.worker (Cold v.journal.own.worker b) [] (λ _. refl) (λ _ _. refl)) r) _ e.same.1 (number c.enter-held.new.pass)

pub returns-clause-cooled : goal.returns-clause-cooled
returns-clause-cooled g c =
    let p = c.args.pass.now in
    let e = c.enter-held.ensures in
    let x = found c.enter-held.result in
    let y = c.cool-done.new.self in
    let q = c.cool-done.result in
    let b = c.args.block in
    let f = c.cool-done.ensures in
    let v = view p.turn in
    let found_is : c.state_mut.result.now ≡ x = c.state_mut.ensures.value ∙ e.won.1 in
    let r : CoolsAs v.journal.own.worker b q x y = subst (λ w. CoolsAs w b q x y) (sym p.worker_is) (subst (λ (z : GraphValue). CoolsAs p.worker b q z y) found_is
    (marks_as c.state_mut.result.now y (MayCool c.state_mut.result.now p.worker b) p.worker (Cold p.worker b) q f.answer f.cooled f.refused f.moment)) in
    subst (λ w. Cools w b v q (view c.leave.new.pass)) p.worker_is
    (look_holds x y v p.is_live (λ _. mark_events (Cold v.journal.own.worker b) q) (may_mark x y v p.is_live (MayCool x v.journal.own.worker b) (Cold v.journal.own.worker b) q tt (λ _. refl) (first_by v.journal.own.worker (Cold v.journal.own.worker b) [] (λ _. refl) (λ _ _. refl)) r) _ e.same.1 (view c.leave.new.pass) c.leave.ensures.view (number p.turn) e.rule (CoolsAs v.journal.own.worker b q) r)

pub invariant_of-pass-clause-seen_is : goal.invariant_of-pass-clause-seen_is
invariant_of-pass-clause-seen_is g c =
    let p = c.args.pass.now in
    let e = c.enter-held.ensures in
    let x = found c.enter-held.result in
    let y = c.cool-done.new.self in
    let q = c.cool-done.result in
    let b = c.args.block in
    let f = c.cool-done.ensures in
    let v = view p.turn in
    let found_is : c.state_mut.result.now ≡ x = c.state_mut.ensures.value ∙ e.won.1 in
    let r : CoolsAs v.journal.own.worker b q x y = subst (λ w. CoolsAs w b q x y) (sym p.worker_is) (subst (λ (z : GraphValue). CoolsAs p.worker b q z y) found_is
    (marks_as c.state_mut.result.now y (MayCool c.state_mut.result.now p.worker b) p.worker (Cold p.worker b) q f.answer f.cooled f.refused f.moment)) in
    look_seen x y v p.is_live (λ _. mark_events (Cold v.journal.own.worker b) q) (may_mark x y v p.is_live (MayCool x v.journal.own.worker b) (Cold v.journal.own.worker b) q tt (λ _. refl) (first_by v.journal.own.worker (Cold v.journal.own.worker b) [] (λ _. refl) (λ _ _. refl)) r) _ e.same.1 (view c.leave.new.pass) c.leave.ensures.view (number p.turn) e.rule
    ∙ ap length (ap (λ (z : GraphValue). z.table.journal) (sym c.state.ensures) ∙ sym c.journal.ensures.events)
