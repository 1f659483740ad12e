use Rattle.pb_test_search.proofs.graphs.start_estimate.Goals as goal

pub estimate-requires-clause-state : goal.estimate-requires-clause-state
estimate-requires-clause-state c = rw c.initial-start.ensures.start ((c.tasks_are_proper.ensures c.args.task.now c.initial-start.ensures.lawful).0.start)
