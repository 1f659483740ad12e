use Rattle.pb_strips.proofs.Groundings.{all_accepted, all_tell}
use Rattle.pb_strips.proofs.task.reached.Goals as goal

pub returns-clause-accepted : goal.returns-clause-accepted
returns-clause-accepted c =
    all_accepted c.args.domain.now c.args.problem.now c.ground_reached.result c.ground_reached.ensures.accepted c.ground_reached.ensures.within

pub returns-clause-refused : goal.returns-clause-refused
returns-clause-refused c = all_tell c.args.domain.now c.args.problem.now c.ground_reached.result c.ground_reached.ensures.refused
