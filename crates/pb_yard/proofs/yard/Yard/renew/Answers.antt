use Rattle.std.proofs.Common.{◌≡◌, List, Some, length, None, sym, ap, ◌∙◌, subst}
use Rattle.pb_machine.specs.declared.event.Event.{Event}
use Rattle.pb_turn.specs.Passes.{view, number, found}
use Rattle.pb_model.specs.Store.{AtMost}
use Rattle.pb_model.proofs.Callers.{lesser_same}
use Rattle.pb_lease.specs.declared.answer.Renewed.{Renewed}
use Rattle.pb_lease.specs.LeaseValue.{LeaseValue}
use Rattle.pb_lease.specs.Tables.{blocks}
use Rattle.pb_lease.specs.GraphValue.{GraphValue, IsLeaseGraph, IsOfGraph}
use Rattle.pb_yard.specs.declared.view.View.{View}
use Rattle.pb_yard.specs.Views.{cost_of, bounded, view_read, view_left}
use Rattle.pb_lease.specs.Moments.{moves_of}
use Rattle.pb_yard.specs.Replies.{RenewsAs, renewal_events, kept_by}
use Rattle.pb_yard.proofs.Steps.{brought_of_graph}
use Rattle.pb_yard.proofs.Reading.{entered, brought_on, bounded_is, bounded_journal, read_keeps, read_holds, read_seen}
use Rattle.pb_yard.proofs.Clauses.{may_renew, renews_as}
use Rattle.pb_yard.proofs.yard.Yard.renew.Goals as goal

pub renew-reply-requires : goal.renew-reply-requires
renew-reply-requires g c =
    let p = c.args.pass.now in
    let e = c.enter_reading-held.ensures in
    let f = found c.enter_reading-held.result.0 in
    let o = c.enter_reading-held.result.1 in
    let v = view p.turn in
    let k = entered f v o (number p.turn) _ e.view p.is_live e.rule in
    subst (λ (z : GraphValue). IsOfGraph z c.args.lease) (sym (c.state_mut-graph.ensures.value ∙ e.graph))
    (brought_of_graph (bounded f o) (bounded f o) (cost_of k.0) k.1 (number p.turn) (view_read (Some f) v o) k.2 k.3 p.is_live 0 c.args.lease (brought_on v (Some f) o _ c.args.lease e.falls.0 c.requires.brought))

pub leave-requires-clause-rule : goal.leave-requires-clause-rule
leave-requires-clause-rule g c =
    let p = c.args.pass.now in
    let e = c.enter_reading-held.ensures in
    let f = found c.enter_reading-held.result.0 in
    let o = c.enter_reading-held.result.1 in
    let x = bounded f o in
    let y = c.renew-reply.new.self in
    let q = c.renew-reply.result in
    let l = c.args.lease in
    let s = c.renew-reply.ensures in
    let v = view p.turn in
    let w = view_read (Some f) v o in
    let is_last : x.incumbent ≡ w.last = bounded_is f o e.falls.1 in
    let read_at : w.read_at ≡ Some (length x.table.journal) = ap (λ (l : List Event). Some (length l)) (sym (bounded_journal f o)) in
    let found_is : c.state_mut-graph.result.now ≡ x = c.state_mut-graph.ensures.value ∙ e.graph in
    let places : length x.homes.keys ≡ (blocks x.table).count = (subst IsLeaseGraph found_is c.abstraction.ensures.lawful).key_places in
    let r : RenewsAs l q x y = subst (λ (z : GraphValue). RenewsAs l q z y) found_is
    (renews_as c.state_mut-graph.result.now y l q s.kept s.given s.first s.kept_moment s.given_moment) in
    read_keeps f y v o p.is_live (λ _. renewal_events l q) (λ _. moves_of (renewal_events l q)) (λ _. kept_by q) (λ _. None) (may_renew x y w p.is_live is_last read_at l q c.requires.spent places (brought_on v (Some f) o _ l e.falls.0 c.requires.brought) r) _ e.view (number c.enter_reading-held.new.turn)

pub returns-clause-renewed : goal.returns-clause-renewed
returns-clause-renewed g c =
    let p = c.args.pass.now in
    let e = c.enter_reading-held.ensures in
    let f = found c.enter_reading-held.result.0 in
    let o = c.enter_reading-held.result.1 in
    let x = bounded f o in
    let y = c.renew-reply.new.self in
    let q = c.renew-reply.result in
    let l = c.args.lease in
    let s = c.renew-reply.ensures in
    let v = view p.turn in
    let w = view_read (Some f) v o in
    let is_last : x.incumbent ≡ w.last = bounded_is f o e.falls.1 in
    let read_at : w.read_at ≡ Some (length x.table.journal) = ap (λ (l : List Event). Some (length l)) (sym (bounded_journal f o)) in
    let found_is : c.state_mut-graph.result.now ≡ x = c.state_mut-graph.ensures.value ∙ e.graph in
    let places : length x.homes.keys ≡ (blocks x.table).count = (subst IsLeaseGraph found_is c.abstraction.ensures.lawful).key_places in
    let r : RenewsAs l q x y = subst (λ (z : GraphValue). RenewsAs l q z y) found_is
    (renews_as c.state_mut-graph.result.now y l q s.kept s.given s.first s.kept_moment s.given_moment) in
    read_holds f y v o p.is_live (λ _. renewal_events l q) (λ _. moves_of (renewal_events l q)) (λ _. kept_by q) (λ _. None) (may_renew x y w p.is_live is_last read_at l q c.requires.spent places (brought_on v (Some f) o _ l e.falls.0 c.requires.brought) r) _ e.view (view c.leave.new.pass) c.leave.ensures.view (number p.turn) e.rule e.falls.0 (RenewsAs l q) r

pub returns-clause-copy : goal.returns-clause-copy
returns-clause-copy g c =
    let p = c.args.pass.now in
    let e = c.enter_reading-held.ensures in
    let f = found c.enter_reading-held.result.0 in
    let o = c.enter_reading-held.result.1 in
    let x = bounded f o in
    let y = c.renew-reply.new.self in
    let q = c.renew-reply.result in
    let l = c.args.lease in
    let s = c.renew-reply.ensures in
    let v = view p.turn in
    let w = view_read (Some f) v o in
    let is_last : x.incumbent ≡ w.last = bounded_is f o e.falls.1 in
    let found_is : c.state_mut-graph.result.now ≡ x = c.state_mut-graph.ensures.value ∙ e.graph in
    let r : RenewsAs l q x y = subst (λ (z : GraphValue). RenewsAs l q z y) found_is
    (renews_as c.state_mut-graph.result.now y l q s.kept s.given s.first s.kept_moment s.given_moment) in
    let is : view c.leave.new.pass ≡ view_left f y (kept_by q) (None) w =
    c.leave.ensures.view ∙ ap (λ (u : View). view_left f y (kept_by q) (None) u) e.view in
    λ kept reply_is. ap (λ (z : LeaseValue). z.incumbent) (subst (λ (z : Renewed). RenewsAs l z x y) reply_is r).1.kept_is
    ∙ lesser_same x.incumbent l.incumbent (subst (λ n. AtMost n l.incumbent) (sym is_last) (brought_on v (Some f) o _ l e.falls.0 c.requires.brought).copy)
    ∙ is_last ∙ sym (ap (λ (u : View). u.last) is)

pub invariant_of-pass-clause-seen_is : goal.invariant_of-pass-clause-seen_is
invariant_of-pass-clause-seen_is g c =
    let p = c.args.pass.now in
    let e = c.enter_reading-held.ensures in
    let f = found c.enter_reading-held.result.0 in
    let o = c.enter_reading-held.result.1 in
    let x = bounded f o in
    let y = c.renew-reply.new.self in
    let q = c.renew-reply.result in
    let l = c.args.lease in
    let s = c.renew-reply.ensures in
    let v = view p.turn in
    let w = view_read (Some f) v o in
    let is_last : x.incumbent ≡ w.last = bounded_is f o e.falls.1 in
    let read_at : w.read_at ≡ Some (length x.table.journal) = ap (λ (l : List Event). Some (length l)) (sym (bounded_journal f o)) in
    let found_is : c.state_mut-graph.result.now ≡ x = c.state_mut-graph.ensures.value ∙ e.graph in
    let places : length x.homes.keys ≡ (blocks x.table).count = (subst IsLeaseGraph found_is c.abstraction.ensures.lawful).key_places in
    let r : RenewsAs l q x y = subst (λ (z : GraphValue). RenewsAs l q z y) found_is
    (renews_as c.state_mut-graph.result.now y l q s.kept s.given s.first s.kept_moment s.given_moment) in
    read_seen f y v o p.is_live (λ _. renewal_events l q) (λ _. moves_of (renewal_events l q)) (λ _. kept_by q) (λ _. None) (may_renew x y w p.is_live is_last read_at l q c.requires.spent places (brought_on v (Some f) o _ l e.falls.0 c.requires.brought) r) _ e.view (view c.leave.new.pass) c.leave.ensures.view (number p.turn) e.rule
    ∙ ap length (ap (λ (z : GraphValue). z.table.journal) (sym c.state.ensures) ∙ sym c.journal.ensures.events)
