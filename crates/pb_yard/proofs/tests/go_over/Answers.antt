use Rattle.pb_yard.proofs.tests.go_over.Goals as goal

pub returns-clause-switched : goal.returns-clause-switched
returns-clause-switched g c = c.try_switch-answer.ensures.switched c.switched.result c.switched.ensures
