use Rattle.std.proofs.lemmas.Result.{IfOk-weaker}
use Rattle.pb_owners.proofs.Assembling.{drawn_to_run, rounded}
use Rattle.pb_owners.proofs.round.run_round.Goals as goal

pub run_with-result-requires-clause-to_run : goal.run_with-result-requires-clause-to_run
run_with-result-requires-clause-to_run g c κs within = drawn_to_run c.args.plan.now c.args.lot c.args.left c.args.seats.now c.draw.new.seats c.requires.ready c.draw.ensures.drawn c.draw.ensures.within

pub returns : goal.returns
returns g c =
    IfOk-weaker c.run_with-result.result _ _ (λ used h. rounded c.args.plan.now c.args.lot c.args.left c.args.seats.now c.draw.new.seats c.requires.ready c.draw.ensures.drawn c.draw.ensures.within used c.run_with-result.new.seats h) c.run_with-result.ensures
