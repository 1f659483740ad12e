use Rattle.std.proofs.Common.{sym, ◌∙◌, subst}
use Rattle.pb_estimate.specs.Tables.{IsOfTask}
use Rattle.pb_expand.specs.Worked.{broken_by}
use Rattle.pb_yard.specs.Passes.{view_of}
use Rattle.pb_workers.specs.Shared.{IsLeased}
use Rattle.pb_workers.proofs.Sharing.{choice_is, at_work, of_search, watched, leased_for, work_since, work_turn, kept_searched}
use Rattle.pb_workers.proofs.yard_lessor.YardLessorLessor.work_on.Goals as goal

pub work_watched-requires-clause-of_task : goal.work_watched-requires-clause-of_task
work_watched-requires-clause-of_task g c =
    let v = view_of c.args.self.now.watch.pass in
    IsLeased.of_task (leased_for v c.args.lease.now c.args.worker.now.task.now c.args.worker.now.abstraction.now c.requires.serves.task c.requires.serves.abstraction c.requires.holds.2.leased)

pub work_watched-requires-clause-at_work : goal.work_watched-requires-clause-at_work
work_watched-requires-clause-at_work g c =
    let p = c.args.self.now.watch.pass in let t = c.args.worker.now.task.now in let a = c.args.worker.now.abstraction.now in
    at_work t a (view_of p) p.is_live c.args.lease.now (leased_for (view_of p) c.args.lease.now t a c.requires.serves.task c.requires.serves.abstraction c.requires.holds.2.leased)

pub work_watched-requires-clause-tools : goal.work_watched-requires-clause-tools
work_watched-requires-clause-tools g c =
    let p = c.args.self.now.watch.pass in let t = c.args.worker.now.task.now in let a = c.args.worker.now.abstraction.now in
    subst (IsOfTask c.args.worker.now.estimator t)
    (choice_is t a (view_of p) p.is_live c.args.lease.now (leased_for (view_of p) c.args.lease.now t a c.requires.serves.task c.requires.serves.abstraction c.requires.holds.2.leased)) c.requires.serves.tools

pub work_watched-requires-clause-can : goal.work_watched-requires-clause-can
work_watched-requires-clause-can g c = c.requires.holds.2.own

pub work_watched-requires-clause-search : goal.work_watched-requires-clause-search
work_watched-requires-clause-search g c =
    let p = c.args.self.now.watch.pass in let t = c.args.worker.now.task.now in let a = c.args.worker.now.abstraction.now in
    of_search t a (view_of p) p.is_live c.args.lease.now (leased_for (view_of p) c.args.lease.now t a c.requires.serves.task c.requires.serves.abstraction c.requires.holds.2.leased)

pub work_watched-requires-clause-watched : goal.work_watched-requires-clause-watched
work_watched-requires-clause-watched g c =
    let p = c.args.self.now.watch.pass in let t = c.args.worker.now.task.now in let a = c.args.worker.now.abstraction.now in
    watched t a (view_of p) p.is_live c.args.lease.now (leased_for (view_of p) c.args.lease.now t a c.requires.serves.task c.requires.serves.abstraction c.requires.holds.2.leased)

pub returns-clause-worked : goal.returns-clause-worked
returns-clause-worked g c = λ begin given h.
    let e = c.work_watched.ensures in record {
      work = work_since begin.watch c.args.self.now.watch c.work_watched.new.watch c.args.lease.now h c.args.worker.now.task.now c.args.worker.now.abstraction.now c.requires.serves.task c.requires.serves.abstraction e.can e.stays c.work_watched.new.lease e.same
          (broken_by c.work_watched.result) e.watched e.scope;
      turn = work_turn begin.watch c.args.self.now.watch c.work_watched.new.watch c.args.lease.now h c.args.worker.now.task.now c.args.worker.now.abstraction.now c.requires.serves.task c.requires.serves.abstraction e.stays c.work_watched.new.lease e.same;
    }

pub returns-clause-searched : goal.returns-clause-searched
returns-clause-searched g c = kept_searched (view_of c.args.self.now.watch.pass) (view_of c.work_watched.new.watch.pass) c.work_watched.ensures.stays.lease

pub returns-clause-serves : goal.returns-clause-serves
returns-clause-serves g c =
    let p = c.args.self.now.watch.pass in let t = c.args.worker.now.task.now in let a = c.args.worker.now.abstraction.now in
    let e = c.work_watched.ensures in let s = c.work_watched.new.self in
    let choice = choice_is t a (view_of p) p.is_live c.args.lease.now (leased_for (view_of p) c.args.lease.now t a c.requires.serves.task c.requires.serves.abstraction c.requires.holds.2.leased) in
    record {
      task = e.stays.lease.task ∙ c.requires.serves.task ∙ sym e.task;
      abstraction = e.stays.lease.abstraction ∙ c.requires.serves.abstraction ∙ sym e.abstraction;
      tools = subst (IsOfTask s.estimator s.task.now) (sym (e.stays.lease.choice ∙ choice)) e.tools;
    }
