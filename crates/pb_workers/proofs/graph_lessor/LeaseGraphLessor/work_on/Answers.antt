use Rattle.std.proofs.Common.{sym, ap, ◌∙◌, arith, subst}
use Rattle.pb_estimate.specs.Tables.{IsOfTask}
use Rattle.pb_lease.specs.Tables.{rooms}
use Rattle.pb_expand.specs.Worked.{broken_by}
use Rattle.pb_workers.proofs.Held.{at_work, work_of}
use Rattle.pb_workers.proofs.graph_lessor.LeaseGraphLessor.work_on.Goals as goal

pub work-requires-clause-at_work : goal.work-requires-clause-at_work
work-requires-clause-at_work c =
    at_work c.args.self.now c.args.lease.now c.requires.holds.2.held c.args.worker.now.task.now c.args.worker.now.abstraction.now c.requires.serves.task c.requires.serves.abstraction c.abstraction.ensures.lawful

pub work-requires-clause-tools : goal.work-requires-clause-tools
work-requires-clause-tools c = subst (IsOfTask c.args.worker.now.estimator c.args.worker.now.task.now) (sym c.requires.holds.2.held.of_graph.choice) c.requires.serves.tools

pub returns-clause-worked : goal.returns-clause-worked
returns-clause-worked c = λ begin given on. record {
  held = c.args.lease.now;
  on = on;
  work = work_of c.args.self.now c.args.lease.now on.held c.args.worker.now.task.now c.args.worker.now.abstraction.now c.requires.serves.task c.requires.serves.abstraction c.work.new.lease (broken_by c.work.result) c.work.ensures.out c.work.ensures.within
      c.work.ensures.same c.work.ensures.scope;
}

pub returns-clause-left : goal.returns-clause-left
returns-clause-left c = let same = ap (rooms c.args.self.now.table) c.work.ensures.same.worker in omega (arith, same)

pub returns-clause-serves : goal.returns-clause-serves
returns-clause-serves c = record {
  task = c.requires.serves.task ∙ sym c.work.ensures.task;
  abstraction = c.requires.serves.abstraction ∙ sym c.work.ensures.abstraction;
  tools = subst (IsOfTask c.work.new.self.estimator c.work.new.self.task.now) c.requires.holds.2.held.of_graph.choice c.work.ensures.tools;
}
