use Rattle.std.proofs.Common.{◌≡◌, Some, length, None, sym, ap, ◌∙◌, subst}
use Rattle.pb_turn.specs.Passes.{view, number, found}
use Rattle.pb_machine.specs.Tables.{one_if}
use Rattle.pb_lease.specs.GraphValue.{GraphValue, IsOfGraph}
use Rattle.pb_yard.specs.Views.{cost_of, bounded, view_read}
use Rattle.pb_lease.specs.Moments.{moves_of}
use Rattle.pb_yard.specs.Replies.{ReleasesAs, release_events}
use Rattle.pb_yard.proofs.Steps.{brought_of_graph}
use Rattle.pb_yard.proofs.Reading.{entered, brought_on, bounded_is, read_keeps, read_holds, read_seen}
use Rattle.pb_yard.proofs.Clauses.{may_release}
use Rattle.pb_yard.proofs.yard.Yard.release.Goals as goal

pub release-requires : goal.release-requires
release-requires g c =
    let p = c.args.pass.now in
    let e = c.enter_reading-held.ensures in
    let f = found c.enter_reading-held.result.0 in
    let o = c.enter_reading-held.result.1 in
    let v = view p.turn in
    let k = entered f v o (number p.turn) _ e.view p.is_live e.rule in
    subst (λ (z : GraphValue). IsOfGraph z c.args.lease) (sym (c.state_mut.ensures.value ∙ e.graph))
    (brought_of_graph (bounded f o) (bounded f o) (cost_of k.0) k.1 (number p.turn) (view_read (Some f) v o) k.2 k.3 p.is_live (one_if c.args.memory) c.args.lease (brought_on v (Some f) o _ c.args.lease e.falls.0 c.requires.brought))

pub leave-requires-clause-rule : goal.leave-requires-clause-rule
leave-requires-clause-rule g c =
    let p = c.args.pass.now in
    let e = c.enter_reading-held.ensures in
    let f = found c.enter_reading-held.result.0 in
    let o = c.enter_reading-held.result.1 in
    let x = bounded f o in
    let y = c.release.new.self in
    let l = c.args.lease in
    let t = c.args.memory in
    let s = c.release.ensures in
    let v = view p.turn in
    let w = view_read (Some f) v o in
    let is_last : x.incumbent ≡ w.last = bounded_is f o e.falls.1 in
    let found_is : c.state_mut.result.now ≡ x = c.state_mut.ensures.value ∙ e.graph in
    let r : ReleasesAs l t x y = subst (λ (z : GraphValue). ReleasesAs l t z y) found_is (s.released, s.moment) in
    read_keeps f y v o p.is_live (release_events l t) (λ u. moves_of (release_events l t u)) (λ _. None) (λ _. None) (may_release x y w p.is_live is_last l t c.requires.cause (brought_on v (Some f) o _ l e.falls.0 c.requires.brought) r) _ e.view (number c.enter_reading-held.new.turn)

pub returns-clause-released : goal.returns-clause-released
returns-clause-released g c =
    let p = c.args.pass.now in
    let e = c.enter_reading-held.ensures in
    let f = found c.enter_reading-held.result.0 in
    let o = c.enter_reading-held.result.1 in
    let x = bounded f o in
    let y = c.release.new.self in
    let l = c.args.lease in
    let t = c.args.memory in
    let s = c.release.ensures in
    let v = view p.turn in
    let w = view_read (Some f) v o in
    let is_last : x.incumbent ≡ w.last = bounded_is f o e.falls.1 in
    let found_is : c.state_mut.result.now ≡ x = c.state_mut.ensures.value ∙ e.graph in
    let r : ReleasesAs l t x y = subst (λ (z : GraphValue). ReleasesAs l t z y) found_is (s.released, s.moment) in
    read_holds f y v o p.is_live (release_events l t) (λ u. moves_of (release_events l t u)) (λ _. None) (λ _. None) (may_release x y w p.is_live is_last l t c.requires.cause (brought_on v (Some f) o _ l e.falls.0 c.requires.brought) r) _ e.view (view c.leave.new.pass) c.leave.ensures.view (number p.turn) e.rule e.falls.0 (ReleasesAs l t) r

pub invariant_of-pass-clause-seen_is : goal.invariant_of-pass-clause-seen_is
invariant_of-pass-clause-seen_is g c =
    let p = c.args.pass.now in
    let e = c.enter_reading-held.ensures in
    let f = found c.enter_reading-held.result.0 in
    let o = c.enter_reading-held.result.1 in
    let x = bounded f o in
    let y = c.release.new.self in
    let l = c.args.lease in
    let t = c.args.memory in
    let s = c.release.ensures in
    let v = view p.turn in
    let w = view_read (Some f) v o in
    let is_last : x.incumbent ≡ w.last = bounded_is f o e.falls.1 in
    let found_is : c.state_mut.result.now ≡ x = c.state_mut.ensures.value ∙ e.graph in
    let r : ReleasesAs l t x y = subst (λ (z : GraphValue). ReleasesAs l t z y) found_is (s.released, s.moment) in
    read_seen f y v o p.is_live (release_events l t) (λ u. moves_of (release_events l t u)) (λ _. None) (λ _. None) (may_release x y w p.is_live is_last l t c.requires.cause (brought_on v (Some f) o _ l e.falls.0 c.requires.brought) r) _ e.view (view c.leave.new.pass) c.leave.ensures.view (number p.turn) e.rule
    ∙ ap length (ap (λ (z : GraphValue). z.table.journal) (sym c.state.ensures) ∙ sym c.journal.ensures.events)
