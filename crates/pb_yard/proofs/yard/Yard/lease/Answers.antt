use Rattle.std.proofs.Common.{◌≡◌, List, Some, ◌<◌, length, None, false, sym, ap, ◌∙◌, subst}
use Rattle.pb_machine.specs.declared.event.Event.{Event}
use Rattle.pb_turn.specs.Passes.{view, number, found}
use Rattle.pb_lease.specs.declared.answer.LeaseReply.{LeaseReply}
use Rattle.pb_lease.specs.GraphValue.{GraphValue, counts_in}
use Rattle.pb_yard.specs.declared.view.View.{View}
use Rattle.pb_yard.specs.Views.{cost_of, bounded, view_read, view_left}
use Rattle.pb_lease.specs.Moments.{moves_of}
use Rattle.pb_yard.specs.Replies.{LeasesAs, lease_events, lent_by, told_by}
use Rattle.pb_yard.specs.Calls.{Leases}
use Rattle.pb_yard.proofs.Asks.{worker_known, vacant, active}
use Rattle.pb_yard.proofs.Reading.{entered, bounded_is, bounded_journal, read_keeps, read_holds, read_seen}
use Rattle.pb_yard.proofs.Clauses.{may_lease, leases_as}
use Rattle.pb_yard.proofs.yard.Yard.lease.Goals as goal

pub lease-reply-requires-clause-worker : goal.lease-reply-requires-clause-worker
lease-reply-requires-clause-worker g c =
    let p = c.args.pass.now in let e = c.enter_reading-held.ensures in
    let f = found c.enter_reading-held.result.0 in
    let o = c.enter_reading-held.result.1 in
    let v = view p.turn in
    let k = entered f v o (number p.turn) _ e.view p.is_live e.rule in
    subst (λ (z : GraphValue). p.worker < z.table.settings.workers) (sym (c.state_mut.ensures.value ∙ e.graph))
    (subst (λ w. w < (bounded f o).table.settings.workers) p.worker_is (worker_known (bounded f o) (cost_of k.0) k.1 (number p.turn) (view_read (Some f) v o) k.2 k.3 p.is_live))

pub lease-reply-requires-clause-vacant : goal.lease-reply-requires-clause-vacant
lease-reply-requires-clause-vacant g c =
    let p = c.args.pass.now in let e = c.enter_reading-held.ensures in
    let f = found c.enter_reading-held.result.0 in
    let o = c.enter_reading-held.result.1 in
    let v = view p.turn in
    let k = entered f v o (number p.turn) _ e.view p.is_live e.rule in
    subst (λ (z : GraphValue). (counts_in z).leases p.worker ≡ None) (sym (c.state_mut.ensures.value ∙ e.graph))
    (subst (λ w. (counts_in (bounded f o)).leases w ≡ None) p.worker_is
    (vacant (bounded f o) (cost_of k.0) k.1 (number p.turn) (view_read (Some f) v o) k.2 k.3 p.is_live c.requires.vacant))

pub lease-reply-requires-clause-stays : goal.lease-reply-requires-clause-stays
lease-reply-requires-clause-stays g c =
    let p = c.args.pass.now in let e = c.enter_reading-held.ensures in
    let f = found c.enter_reading-held.result.0 in
    let o = c.enter_reading-held.result.1 in
    let v = view p.turn in
    let k = entered f v o (number p.turn) _ e.view p.is_live e.rule in
    subst (λ (z : GraphValue). (counts_in z).signed_off p.worker ≡ false) (sym (c.state_mut.ensures.value ∙ e.graph))
    (subst (λ w. (counts_in (bounded f o)).signed_off w ≡ false) p.worker_is
    (active (bounded f o) (cost_of k.0) k.1 (number p.turn) (view_read (Some f) v o) k.2 k.3 p.is_live c.requires.stays))

pub leave-requires-clause-rule : goal.leave-requires-clause-rule
leave-requires-clause-rule g c =
    let p = c.args.pass.now in
    let e = c.enter_reading-held.ensures in
    let f = found c.enter_reading-held.result.0 in
    let o = c.enter_reading-held.result.1 in
    let x = bounded f o in
    let y = c.lease-reply.new.self in
    let q = c.lease-reply.result in
    let s = c.lease-reply.ensures in
    let v = view p.turn in
    let w = view_read (Some f) v o in
    let is_last : x.incumbent ≡ w.last = bounded_is f o e.falls.1 in
    let read_at : w.read_at ≡ Some (length x.table.journal) = ap (λ (l : List Event). Some (length l)) (sym (bounded_journal f o)) in
    let found_is : c.state_mut.result.now ≡ x = c.state_mut.ensures.value ∙ e.graph in
    let r : LeasesAs v.journal.own.worker q x y = subst (λ w. LeasesAs w q x y) (sym p.worker_is) (subst (λ (z : GraphValue). LeasesAs p.worker q z y) found_is
    (leases_as c.state_mut.result.now y p.worker q s.leased s.not_yet s.over s.ended s.same s.leased_moment s.ended_moment s.not_yet_moment)) in
    read_keeps f y v o p.is_live (lease_events v.journal.own.worker q) (λ u. moves_of (lease_events v.journal.own.worker q u)) (λ u. lent_by q u.lent) (λ u. told_by q u.told) (may_lease x y w p.is_live is_last read_at q r) _ e.view (number c.enter_reading-held.new.turn)

pub returns-clause-leased : goal.returns-clause-leased
returns-clause-leased g c =
    let p = c.args.pass.now in
    let e = c.enter_reading-held.ensures in
    let f = found c.enter_reading-held.result.0 in
    let o = c.enter_reading-held.result.1 in
    let x = bounded f o in
    let y = c.lease-reply.new.self in
    let q = c.lease-reply.result in
    let s = c.lease-reply.ensures in
    let v = view p.turn in
    let w = view_read (Some f) v o in
    let is_last : x.incumbent ≡ w.last = bounded_is f o e.falls.1 in
    let read_at : w.read_at ≡ Some (length x.table.journal) = ap (λ (l : List Event). Some (length l)) (sym (bounded_journal f o)) in
    let found_is : c.state_mut.result.now ≡ x = c.state_mut.ensures.value ∙ e.graph in
    let r : LeasesAs v.journal.own.worker q x y = subst (λ w. LeasesAs w q x y) (sym p.worker_is) (subst (λ (z : GraphValue). LeasesAs p.worker q z y) found_is
    (leases_as c.state_mut.result.now y p.worker q s.leased s.not_yet s.over s.ended s.same s.leased_moment s.ended_moment s.not_yet_moment)) in
    subst (λ w. Leases w v q (view c.leave.new.pass)) p.worker_is
    (read_holds f y v o p.is_live (lease_events v.journal.own.worker q) (λ u. moves_of (lease_events v.journal.own.worker q u)) (λ u. lent_by q u.lent) (λ u. told_by q u.told) (may_lease x y w p.is_live is_last read_at q r) _ e.view (view c.leave.new.pass) c.leave.ensures.view (number p.turn) e.rule e.falls.0 (LeasesAs v.journal.own.worker q) r)

pub returns-clause-copy : goal.returns-clause-copy
returns-clause-copy g c =
    let p = c.args.pass.now in
    let e = c.enter_reading-held.ensures in
    let f = found c.enter_reading-held.result.0 in
    let o = c.enter_reading-held.result.1 in
    let x = bounded f o in
    let y = c.lease-reply.new.self in
    let q = c.lease-reply.result in
    let s = c.lease-reply.ensures in
    let v = view p.turn in
    let w = view_read (Some f) v o in
    let is_last : x.incumbent ≡ w.last = bounded_is f o e.falls.1 in
    let found_is : c.state_mut.result.now ≡ x = c.state_mut.ensures.value ∙ e.graph in
    let r : LeasesAs v.journal.own.worker q x y = subst (λ w. LeasesAs w q x y) (sym p.worker_is) (subst (λ (z : GraphValue). LeasesAs p.worker q z y) found_is
    (leases_as c.state_mut.result.now y p.worker q s.leased s.not_yet s.over s.ended s.same s.leased_moment s.ended_moment s.not_yet_moment)) in
    let is : view c.leave.new.pass ≡ view_left f y (lent_by q v.lent) (told_by q v.told) w =
    c.leave.ensures.view ∙ ap (λ (u : View). view_left f y (lent_by q u.lent) (told_by q u.told) u) e.view in
    λ given reply_is. (subst (λ (z : LeaseReply). LeasesAs v.journal.own.worker z x y) reply_is r).0.lent_incumbent ∙ is_last ∙ sym (ap (λ (u : View). u.last) is)

pub invariant_of-pass-clause-seen_is : goal.invariant_of-pass-clause-seen_is
invariant_of-pass-clause-seen_is g c =
    let p = c.args.pass.now in
    let e = c.enter_reading-held.ensures in
    let f = found c.enter_reading-held.result.0 in
    let o = c.enter_reading-held.result.1 in
    let x = bounded f o in
    let y = c.lease-reply.new.self in
    let q = c.lease-reply.result in
    let s = c.lease-reply.ensures in
    let v = view p.turn in
    let w = view_read (Some f) v o in
    let is_last : x.incumbent ≡ w.last = bounded_is f o e.falls.1 in
    let read_at : w.read_at ≡ Some (length x.table.journal) = ap (λ (l : List Event). Some (length l)) (sym (bounded_journal f o)) in
    let found_is : c.state_mut.result.now ≡ x = c.state_mut.ensures.value ∙ e.graph in
    let r : LeasesAs v.journal.own.worker q x y = subst (λ w. LeasesAs w q x y) (sym p.worker_is) (subst (λ (z : GraphValue). LeasesAs p.worker q z y) found_is
    (leases_as c.state_mut.result.now y p.worker q s.leased s.not_yet s.over s.ended s.same s.leased_moment s.ended_moment s.not_yet_moment)) in
    read_seen f y v o p.is_live (lease_events v.journal.own.worker q) (λ u. moves_of (lease_events v.journal.own.worker q u)) (λ u. lent_by q u.lent) (λ u. told_by q u.told) (may_lease x y w p.is_live is_last read_at q r) _ e.view (view c.leave.new.pass) c.leave.ensures.view (number p.turn) e.rule
    ∙ ap length (ap (λ (z : GraphValue). z.table.journal) (sym c.state.ensures) ∙ sym c.journal.ensures.events)
