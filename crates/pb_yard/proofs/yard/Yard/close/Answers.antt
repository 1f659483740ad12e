use Rattle.std.proofs.Common.{◌≡◌, sym, ap, ◌∙◌, subst, arith}
use Rattle.pb_turn.specs.Passes.{view, number}
use Rattle.pb_lease.specs.GraphValue.{GraphValue}
use Rattle.pb_yard.specs.Calls.{IsClosedFor}
use Rattle.pb_yard.specs.Views.{cost_of, bounded, keeps_order}
use Rattle.pb_yard.proofs.Closing.{closed}
use Rattle.pb_yard.proofs.Reading.{closing_fits, closing_yard}
use Rattle.pb_yard.proofs.yard.Yard.close.Goals as goal

pub returns-in-Some : goal.returns-in-Some
returns-in-Some c =
    let p = c.args.pass in
    let r = c.close_with-graph.ensures.rule in
    let f = c.close_with-graph.result.0 in
    let n = c.close_with-graph.result.1 in
    let is : bounded f (cost_of n) ≡ c.lower_incumbent.new.self = ap (bounded f) (sym c.cost.ensures ∙ c.in-Some.is) ∙ sym c.lower_incumbent.ensures.lowered in
    record { closed = subst (λ (z : GraphValue). IsClosedFor (keeps_order (view p.turn)) (view p.turn) z) is (closed (bounded f (cost_of n)) (number p.turn) (view p.turn) p.is_live r.0 (closing_yard f n r.0 r.1) r.2 r.3 c.requires.off (closing_fits f n r.0 r.1 (omega arith))) }

pub returns-in_default : goal.returns-in_default
returns-in_default c =
    let p = c.args.pass in
    let r = c.close_with-graph.ensures.rule in
    let f = c.close_with-graph.result.0 in
    let n = c.close_with-graph.result.1 in
    let is : bounded f (cost_of n) ≡ f = ap (bounded f) (sym c.cost.ensures ∙ c.in_default.is) in
    record { closed = subst (λ (z : GraphValue). IsClosedFor (keeps_order (view p.turn)) (view p.turn) z) is (closed (bounded f (cost_of n)) (number p.turn) (view p.turn) p.is_live r.0 (closing_yard f n r.0 r.1) r.2 r.3 c.requires.off (closing_fits f n r.0 r.1 (omega arith))) }
