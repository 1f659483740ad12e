use Rattle.std.proofs.Common.{◌∙◌}
use Rattle.pb_test_search.proofs.graphs.go_over.Goals as goal

pub work_on-worked-requires-clause-task : goal.work_on-worked-requires-clause-task
work_on-worked-requires-clause-task c = c.in_ok-lease.ensures.leased.task ∙ c.requires.task

pub work_on-worked-requires-clause-of_graph : goal.work_on-worked-requires-clause-of_graph
work_on-worked-requires-clause-of_graph c = c.in_ok-lease.ensures.leased.of_graph

pub work_on-worked-requires-clause-at_work : goal.work_on-worked-requires-clause-at_work
work_on-worked-requires-clause-at_work c = c.in_ok-lease.ensures.at_work
