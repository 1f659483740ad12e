use Rattle.std.proofs.Common.{◌≡◌, List, Option, Some, None, length, inl, inr, sym, ap, ◌∙◌, subst}
use Rattle.pb_machine.specs.declared.event.Event.{Event}
use Rattle.pb_machine.specs.Machine.{journal_of}
use Rattle.pb_turn.specs.Passes.{view, number, found}
use Rattle.std.proofs.lemmas.Option.{none-some}
use Rattle.pb_model.specs.Store.{AtMost, lesser}
use Rattle.pb_model.proofs.Callers.{lesser_same}
use Rattle.pb_lease.specs.declared.answer.SwitchReply.{SwitchReply}
use Rattle.pb_lease.specs.declared.answer.SwitchReply.TheVariants as reply
use Rattle.pb_lease.specs.LeaseValue.{LeaseValue}
use Rattle.pb_lease.specs.Tables.{blocks}
use Rattle.pb_lease.specs.GraphValue.{GraphValue, IsLeaseGraph, IsOfGraph}
use Rattle.pb_yard.specs.declared.switch.Switch.{Switch}
use Rattle.pb_yard.specs.declared.switch.Switch.TheVariants.{Switched, Kept, Given}
use Rattle.pb_yard.specs.declared.view.View.{View}
use Rattle.pb_yard.specs.Views.{cost_of, bounded, view_read, view_left}
use Rattle.pb_yard.specs.Replies.{SwitchesAs, switch_moves, switched_by}
use Rattle.pb_yard.specs.Calls.{Switches}
use Rattle.pb_yard.proofs.Steps.{brought_of_graph}
use Rattle.pb_yard.proofs.Reading.{entered, brought_on, bounded_is, bounded_journal, read_keeps, read_holds, read_seen}
use Rattle.pb_yard.proofs.Clauses.{may_switch, switches_as}
use Rattle.pb_yard.proofs.yard.Yard.try_switch.Goals as goal

pub try_switch-reply-requires : goal.try_switch-reply-requires
try_switch-reply-requires c =
    let p = c.args.pass.now in
    let e = c.in-Some.ensures in
    let f = found c.in-Some.held in
    let o = c.in-Some.incumbent in
    let v = view p.turn in
    let k = entered f v o (number p.turn) _ e.view p.is_live e.rule in
    subst (λ (z : GraphValue). IsOfGraph z c.args.lease) (sym (c.state_mut-graph.ensures.value ∙ e.graph))
    (brought_of_graph (bounded f o) (bounded f o) (cost_of k.0) k.1 (number p.turn) (view_read (Some f) v o) k.2 k.3 p.is_live 0 c.args.lease (brought_on v (Some f) o _ c.args.lease e.falls.0 c.requires.brought))

pub leave-requires-clause-rule : goal.leave-requires-clause-rule
leave-requires-clause-rule c =
    let p = c.args.pass.now in
    let e = c.in-Some.ensures in
    let f = found c.in-Some.held in
    let o = c.in-Some.incumbent in
    let x = bounded f o in
    let y = c.try_switch-reply.new.self in
    let q = c.try_switch-reply.result in
    let l = c.args.lease in
    let s = c.try_switch-reply.ensures in
    let v = view p.turn in
    let w = view_read (Some f) v o in
    let is_last : x.incumbent ≡ w.last = bounded_is f o e.falls.1 in
    let read_at : w.read_at ≡ Some (length x.table.journal) = ap (λ (l : List Event). Some (length l)) (sym (bounded_journal f o)) in
    let found_is : c.state_mut-graph.result.now ≡ x = c.state_mut-graph.ensures.value ∙ e.graph in
    let places : length x.homes.keys ≡ (blocks x.table).count = (subst IsLeaseGraph found_is c.abstraction.ensures.lawful).key_places in
    let r : SwitchesAs l q x y = subst (λ (z : GraphValue). SwitchesAs l q z y) found_is
    (switches_as c.state_mut-graph.result.now y l q s.kept s.switched s.given s.came_back s.first s.kept_moment s.switched_moment s.given_moment) in
    let may = may_switch x y w p.is_live is_last read_at l q c.requires.cause places (brought_on v (Some f) o _ l e.falls.0 c.requires.brought) r in
    read_keeps f y v o p.is_live (λ _. journal_of (switch_moves l q)) (λ _. switch_moves l q) (λ _. switched_by q) (λ _. None) may _ e.view (number c.try_enter_reading.new.turn)

pub invariant_of-pass-2-clause-seen_is : goal.invariant_of-pass-2-clause-seen_is
invariant_of-pass-2-clause-seen_is c =
    let p = c.args.pass.now in
    let e = c.in-Some.ensures in
    let f = found c.in-Some.held in
    let o = c.in-Some.incumbent in
    let x = bounded f o in
    let y = c.try_switch-reply.new.self in
    let q = c.try_switch-reply.result in
    let l = c.args.lease in
    let s = c.try_switch-reply.ensures in
    let v = view p.turn in
    let w = view_read (Some f) v o in
    let is_last : x.incumbent ≡ w.last = bounded_is f o e.falls.1 in
    let read_at : w.read_at ≡ Some (length x.table.journal) = ap (λ (l : List Event). Some (length l)) (sym (bounded_journal f o)) in
    let found_is : c.state_mut-graph.result.now ≡ x = c.state_mut-graph.ensures.value ∙ e.graph in
    let places : length x.homes.keys ≡ (blocks x.table).count = (subst IsLeaseGraph found_is c.abstraction.ensures.lawful).key_places in
    let r : SwitchesAs l q x y = subst (λ (z : GraphValue). SwitchesAs l q z y) found_is
    (switches_as c.state_mut-graph.result.now y l q s.kept s.switched s.given s.came_back s.first s.kept_moment s.switched_moment s.given_moment) in
    let may = may_switch x y w p.is_live is_last read_at l q c.requires.cause places (brought_on v (Some f) o _ l e.falls.0 c.requires.brought) r in
    read_seen f y v o p.is_live (λ _. journal_of (switch_moves l q)) (λ _. switch_moves l q) (λ _. switched_by q) (λ _. None) may _ e.view (view c.leave.new.pass) c.leave.ensures.view (number p.turn) e.rule
    ∙ ap length (ap (λ (z : GraphValue). z.table.journal) (sym c.state.ensures) ∙ sym c.journal.ensures.events)

-- the answers of the graph, one by one

kept_same : (a b : LeaseValue) → ◌≡◌ {A = Switch} (Kept a) (Kept b) → a ≡ b
kept_same a b e = cc

switched_same : (a b : LeaseValue) → ◌≡◌ {A = Switch} (Switched a) (Switched b) → a ≡ b
switched_same a b e = cc

pub returns-in-Kept-clause-kept : goal.returns-in-Kept-clause-kept
returns-in-Kept-clause-kept c kept same =
    let p = c.args.pass.now in
    let e = c.in-Some.ensures in
    let f = found c.in-Some.held in
    let o = c.in-Some.incumbent in
    let x = bounded f o in
    let y = c.try_switch-reply.new.self in
    let q = c.try_switch-reply.result in
    let l = c.args.lease in
    let s = c.try_switch-reply.ensures in
    let v = view p.turn in
    let w = view_read (Some f) v o in
    let is_last : x.incumbent ≡ w.last = bounded_is f o e.falls.1 in
    let read_at : w.read_at ≡ Some (length x.table.journal) = ap (λ (l : List Event). Some (length l)) (sym (bounded_journal f o)) in
    let found_is : c.state_mut-graph.result.now ≡ x = c.state_mut-graph.ensures.value ∙ e.graph in
    let places : length x.homes.keys ≡ (blocks x.table).count = (subst IsLeaseGraph found_is c.abstraction.ensures.lawful).key_places in
    let r : SwitchesAs l q x y = subst (λ (z : GraphValue). SwitchesAs l q z y) found_is
    (switches_as c.state_mut-graph.result.now y l q s.kept s.switched s.given s.came_back s.first s.kept_moment s.switched_moment s.given_moment) in
    let may = may_switch x y w p.is_live is_last read_at l q c.requires.cause places (brought_on v (Some f) o _ l e.falls.0 c.requires.brought) r in
    let all : Switches l v q (view c.leave.new.pass) =
    read_holds f y v o p.is_live (λ _. journal_of (switch_moves l q)) (λ _. switch_moves l q) (λ _. switched_by q) (λ _. None) may _ e.view (view c.leave.new.pass) c.leave.ensures.view (number p.turn) e.rule e.falls.0 (SwitchesAs l q) r in
    subst (λ (a : SwitchReply). Switches l v a (view c.leave.new.pass)) (c.in-Kept.is ∙ ap (λ (k : LeaseValue). reply.Kept k) (kept_same c.in-Kept.kept kept same)) all

pub returns-in-Switched-clause-switched : goal.returns-in-Switched-clause-switched
returns-in-Switched-clause-switched c next same =
    let p = c.args.pass.now in
    let e = c.in-Some.ensures in
    let f = found c.in-Some.held in
    let o = c.in-Some.incumbent in
    let x = bounded f o in
    let y = c.try_switch-reply.new.self in
    let q = c.try_switch-reply.result in
    let l = c.args.lease in
    let s = c.try_switch-reply.ensures in
    let v = view p.turn in
    let w = view_read (Some f) v o in
    let is_last : x.incumbent ≡ w.last = bounded_is f o e.falls.1 in
    let read_at : w.read_at ≡ Some (length x.table.journal) = ap (λ (l : List Event). Some (length l)) (sym (bounded_journal f o)) in
    let found_is : c.state_mut-graph.result.now ≡ x = c.state_mut-graph.ensures.value ∙ e.graph in
    let places : length x.homes.keys ≡ (blocks x.table).count = (subst IsLeaseGraph found_is c.abstraction.ensures.lawful).key_places in
    let r : SwitchesAs l q x y = subst (λ (z : GraphValue). SwitchesAs l q z y) found_is
    (switches_as c.state_mut-graph.result.now y l q s.kept s.switched s.given s.came_back s.first s.kept_moment s.switched_moment s.given_moment) in
    let may = may_switch x y w p.is_live is_last read_at l q c.requires.cause places (brought_on v (Some f) o _ l e.falls.0 c.requires.brought) r in
    let all : Switches l v q (view c.leave.new.pass) =
    read_holds f y v o p.is_live (λ _. journal_of (switch_moves l q)) (λ _. switch_moves l q) (λ _. switched_by q) (λ _. None) may _ e.view (view c.leave.new.pass) c.leave.ensures.view (number p.turn) e.rule e.falls.0 (SwitchesAs l q) r in
    subst (λ (a : SwitchReply). Switches l v a (view c.leave.new.pass)) (c.in-Switched.is ∙ ap (λ (k : LeaseValue). reply.Switched k) (switched_same c.in-Switched.next next same)) all

pub returns-in-Given-clause-given : goal.returns-in-Given-clause-given
returns-in-Given-clause-given c same =
    let p = c.args.pass.now in
    let e = c.in-Some.ensures in
    let f = found c.in-Some.held in
    let o = c.in-Some.incumbent in
    let x = bounded f o in
    let y = c.try_switch-reply.new.self in
    let q = c.try_switch-reply.result in
    let l = c.args.lease in
    let s = c.try_switch-reply.ensures in
    let v = view p.turn in
    let w = view_read (Some f) v o in
    let is_last : x.incumbent ≡ w.last = bounded_is f o e.falls.1 in
    let read_at : w.read_at ≡ Some (length x.table.journal) = ap (λ (l : List Event). Some (length l)) (sym (bounded_journal f o)) in
    let found_is : c.state_mut-graph.result.now ≡ x = c.state_mut-graph.ensures.value ∙ e.graph in
    let places : length x.homes.keys ≡ (blocks x.table).count = (subst IsLeaseGraph found_is c.abstraction.ensures.lawful).key_places in
    let r : SwitchesAs l q x y = subst (λ (z : GraphValue). SwitchesAs l q z y) found_is
    (switches_as c.state_mut-graph.result.now y l q s.kept s.switched s.given s.came_back s.first s.kept_moment s.switched_moment s.given_moment) in
    let may = may_switch x y w p.is_live is_last read_at l q c.requires.cause places (brought_on v (Some f) o _ l e.falls.0 c.requires.brought) r in
    let all : Switches l v q (view c.leave.new.pass) =
    read_holds f y v o p.is_live (λ _. journal_of (switch_moves l q)) (λ _. switch_moves l q) (λ _. switched_by q) (λ _. None) may _ e.view (view c.leave.new.pass) c.leave.ensures.view (number p.turn) e.rule e.falls.0 (SwitchesAs l q) r in
    subst (λ (a : SwitchReply). Switches l v a (view c.leave.new.pass)) c.in-Given.is all

-- the lease that the worker has then was given the graph's incumbent
some_same : (a b : LeaseValue) → ◌≡◌ {A = Option LeaseValue} (Some a) (Some b) → a ≡ b
some_same a b e = cc

apart : (a b : LeaseValue) → ◌≡◌ {A = Switch} (Kept a) (Switched b) → ⊥
apart a b e = cc

has_copy : (x y : GraphValue) (l : LeaseValue) (q : SwitchReply) → SwitchesAs l q x y → lesser x.incumbent l.incumbent ≡ x.incumbent → (k : LeaseValue) → switched_by q ≡ Some k → k.incumbent ≡ x.incumbent
has_copy x y l (reply.Kept kept) r least k is = ap (λ (z : LeaseValue). z.incumbent) (sym (some_same kept k is)) ∙ ap (λ (z : LeaseValue). z.incumbent) r.1.kept_is ∙ least
has_copy x y l (reply.Switched next) r least k is = ap (λ (z : LeaseValue). z.incumbent) (sym (some_same next k is)) ∙ r.1.lent_incumbent ∙ least
has_copy x y l reply.Given r least k is = absurd (none-some k is)

pub returns-in-Kept-clause-copy : goal.returns-in-Kept-clause-copy
returns-in-Kept-clause-copy c has which =
    let p = c.args.pass.now in
    let e = c.in-Some.ensures in
    let f = found c.in-Some.held in
    let o = c.in-Some.incumbent in
    let x = bounded f o in
    let y = c.try_switch-reply.new.self in
    let q = c.try_switch-reply.result in
    let l = c.args.lease in
    let s = c.try_switch-reply.ensures in
    let v = view p.turn in
    let w = view_read (Some f) v o in
    let is_last : x.incumbent ≡ w.last = bounded_is f o e.falls.1 in
    let read_at : w.read_at ≡ Some (length x.table.journal) = ap (λ (l : List Event). Some (length l)) (sym (bounded_journal f o)) in
    let found_is : c.state_mut-graph.result.now ≡ x = c.state_mut-graph.ensures.value ∙ e.graph in
    let places : length x.homes.keys ≡ (blocks x.table).count = (subst IsLeaseGraph found_is c.abstraction.ensures.lawful).key_places in
    let r : SwitchesAs l q x y = subst (λ (z : GraphValue). SwitchesAs l q z y) found_is
    (switches_as c.state_mut-graph.result.now y l q s.kept s.switched s.given s.came_back s.first s.kept_moment s.switched_moment s.given_moment) in
    let least = lesser_same x.incumbent l.incumbent (subst (λ n. AtMost n l.incumbent) (sym is_last) (brought_on v (Some f) o _ l e.falls.0 c.requires.brought).copy) in
    let left : view c.leave.new.pass ≡ view_left f y (switched_by q) None w = c.leave.ensures.view ∙ ap (λ (u : View). view_left f y (switched_by q) None u) e.view in
    let same : ◌≡◌ {A = Switch} (Kept c.in-Kept.kept) (Kept has) = elim which [ inl e ↦ e | inr e ↦ absurd (apart c.in-Kept.kept has e) ] in
    has_copy x y l q r least has (ap switched_by c.in-Kept.is ∙ ap (λ (k : LeaseValue). Some k) (kept_same c.in-Kept.kept has same)) ∙ is_last ∙ sym (ap (λ (u : View). u.last) left)

pub returns-in-Switched-clause-copy : goal.returns-in-Switched-clause-copy
returns-in-Switched-clause-copy c has which =
    let p = c.args.pass.now in
    let e = c.in-Some.ensures in
    let f = found c.in-Some.held in
    let o = c.in-Some.incumbent in
    let x = bounded f o in
    let y = c.try_switch-reply.new.self in
    let q = c.try_switch-reply.result in
    let l = c.args.lease in
    let s = c.try_switch-reply.ensures in
    let v = view p.turn in
    let w = view_read (Some f) v o in
    let is_last : x.incumbent ≡ w.last = bounded_is f o e.falls.1 in
    let read_at : w.read_at ≡ Some (length x.table.journal) = ap (λ (l : List Event). Some (length l)) (sym (bounded_journal f o)) in
    let found_is : c.state_mut-graph.result.now ≡ x = c.state_mut-graph.ensures.value ∙ e.graph in
    let places : length x.homes.keys ≡ (blocks x.table).count = (subst IsLeaseGraph found_is c.abstraction.ensures.lawful).key_places in
    let r : SwitchesAs l q x y = subst (λ (z : GraphValue). SwitchesAs l q z y) found_is
    (switches_as c.state_mut-graph.result.now y l q s.kept s.switched s.given s.came_back s.first s.kept_moment s.switched_moment s.given_moment) in
    let least = lesser_same x.incumbent l.incumbent (subst (λ n. AtMost n l.incumbent) (sym is_last) (brought_on v (Some f) o _ l e.falls.0 c.requires.brought).copy) in
    let left : view c.leave.new.pass ≡ view_left f y (switched_by q) None w = c.leave.ensures.view ∙ ap (λ (u : View). view_left f y (switched_by q) None u) e.view in
    let same : ◌≡◌ {A = Switch} (Switched c.in-Switched.next) (Switched has) = elim which [ inl e ↦ absurd (apart has c.in-Switched.next (sym e)) | inr e ↦ e ] in
    has_copy x y l q r least has (ap switched_by c.in-Switched.is ∙ ap (λ (k : LeaseValue). Some k) (switched_same c.in-Switched.next has same)) ∙ is_last ∙ sym (ap (λ (u : View). u.last) left)
