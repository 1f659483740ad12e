use Rattle.pb_turn.specs.Passes.{view, found, state}
use Rattle.pb_yard.proofs.Passing.{leaving_keeps}
use Rattle.pb_yard.proofs.yard.Yard.leave_order.Goals as goal

pub leave-requires-clause-rule : goal.leave-requires-clause-rule
leave-requires-clause-rule g c =
    let p = c.args.pass.now in
    let e = c.enter-held.ensures in
    leaving_keeps _ (view p.turn) (found c.enter-held.result) (state c.enter-held.result) p.is_live e.won.1 _ e.same.1
