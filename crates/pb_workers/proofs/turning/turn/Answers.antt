use Rattle.pb_workers.proofs.turning.turn.Goals as goal

pub returns-in-Empty-clause-holds : goal.returns-in-Empty-clause-holds
returns-in-Empty-clause-holds g c = λ begin given h.
    c.settle-in-Empty.ensures.holds begin given (g.L.Lessor.unmarked begin given c.work_on-worked.new.self c.work_on-worked.new.lease 0 (c.in-Empty.ensures.worked begin given h))
