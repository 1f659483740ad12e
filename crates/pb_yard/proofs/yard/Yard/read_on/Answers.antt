use Rattle.std.proofs.Common.{◌≡◌, Option, Some, ap, sym, ◌∙◌, subst}
use Rattle.pb_turn.specs.Obligations.{Stands, IsHeld}
use Rattle.pb_turn.specs.Passes.{view, number, found, found_by, held}
use Rattle.pb_model.specs.Store.{AtMost}
use Rattle.pb_lease.specs.GraphValue.{GraphValue}
use Rattle.pb_yard.specs.declared.view.View.{View}
use Rattle.pb_yard.specs.Rule.{YardFact}
use Rattle.pb_yard.specs.Views.{cost_of, view_read}
use Rattle.pb_yard.proofs.Wording.{load_keeps, read_stands}
use Rattle.pb_yard.proofs.yard.Yard.read_on.Goals as goal
use Rattle.pb_yard.proofs.yard.Yard.read_on.Goals.{in-Some, in_default}

pub word-requires-clause-rule : goal.word-requires-clause-rule
word-requires-clause-rule c = load_keeps _ _ _ c.requires.live

pub returns-clause-rule : goal.returns-clause-rule
returns-clause-rule c =
    let t = c.args.turn.now in
    let f = found c.args.held in
    let found_is : f ≡ found c.match-incumbent.held = elim c.match-incumbent.branch [ in-Some w ↦ ap found (sym w.held-is) | in_default w ↦ ap found (sym w.held-is) ] in
    let held_is : held c.args.turn.now ≡ Some f = ap found_by c.requires.holds.0 in
    let r = c.word.ensures.rule in
    let at = read_stands f (view c.args.turn.now) (number c.args.turn.now) c.word.result c.requires.live
    r.0 r.1 (subst (λ (o : Option GraphValue). IsHeld o r.0) held_is r.2) in
    let is : view_read (Some f) (view c.args.turn.now) (cost_of c.word.result) ≡ view c.word.new.pass =
    ap (λ (o : Option GraphValue). view_read o (view c.args.turn.now) (cost_of c.word.result)) (sym held_is) ∙ sym c.word.ensures.view in
    subst (λ (z : GraphValue). Stands YardFact (number t) (view c.word.new.pass) z) found_is
    (subst (λ (u : View). Stands YardFact (number t) u f) is at.0)

pub returns-clause-falls : goal.returns-clause-falls
returns-clause-falls c =
    let t = c.args.turn.now in
    let f = found c.args.held in
    let found_is : f ≡ found c.match-incumbent.held = elim c.match-incumbent.branch [ in-Some w ↦ ap found (sym w.held-is) | in_default w ↦ ap found (sym w.held-is) ] in
    let number_is : cost_of c.word.result ≡ c.match-incumbent.incumbent = sym c.cost-incumbent.ensures ∙ (elim c.match-incumbent.branch [ in-Some w ↦ w.in-Some.is ∙ sym w.incumbent-is | in_default w ↦ sym w.incumbent-is ]) in
    let held_is : held c.args.turn.now ≡ Some f = ap found_by c.requires.holds.0 in
    let r = c.word.ensures.rule in
    let at = read_stands f (view c.args.turn.now) (number c.args.turn.now) c.word.result c.requires.live
    r.0 r.1 (subst (λ (o : Option GraphValue). IsHeld o r.0) held_is r.2) in
    subst (λ o. AtMost o (view t).last × AtMost o (found c.match-incumbent.held).incumbent) number_is
    (subst (λ (z : GraphValue). AtMost (cost_of c.word.result) (view t).last × AtMost (cost_of c.word.result) z.incumbent) found_is
    (at.1, at.2))
