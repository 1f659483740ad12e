use Rattle.std.proofs.Common.{subst}
use Rattle.pb_turn.specs.Obligations.{Stands}
use Rattle.pb_turn.specs.Passes.{view, found}
use Rattle.pb_yard.specs.Rule.{YardFact}
use Rattle.pb_yard.proofs.yard.Yard.enter_reading.Goals as goal

pub returns-clause-rule : goal.returns-clause-rule
returns-clause-rule g c =
    subst (λ n. Stands YardFact n (view c.read_on.new.turn) (found c.read_on.result.0)) c.enter-held.ensures.same.0.1 c.read_on.ensures.rule
