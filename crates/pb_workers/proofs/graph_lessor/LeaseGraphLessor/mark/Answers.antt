use Rattle.std.proofs.Common.{is_some, ap, ◌∙◌, subst, inr}
use Rattle.pb_lease.specs.GraphValue.{GraphValue, counts_in}
use Rattle.pb_workers.specs.Holding.{MarksRival}
use Rattle.pb_workers.proofs.Going.{same_searched}
use Rattle.pb_workers.proofs.Held.{worked_of_graph}
use Rattle.pb_workers.proofs.Marked.{marks_where_may, marked_at_most, marked_room, marked_same, marked_turn}
use Rattle.pb_workers.proofs.graph_lessor.LeaseGraphLessor.mark.Goals as goal

pub mark_hot-requires-clause-leased : goal.mark_hot-requires-clause-leased
mark_hot-requires-clause-leased c =
    let w = c.requires.worked.2 in
    ap (λ worker. is_some ((counts_in c.args.self.now).leases worker)) c.worker.ensures ∙ ap is_some (worked_of_graph c.args.self.now w.held w.on.held c.args.lease.now 0 w.work).leased

pub mark_hot-requires-clause-block : goal.mark_hot-requires-clause-block
mark_hot-requires-clause-block c = c.requires.told.1.known

pub returns-clause-may_return : goal.returns-clause-may_return
returns-clause-may_return c = λ begin given w. record {
  first = c.args.self.now;
  held = w.held;
  on = w.on;
  work = w.work;
  mark = marked_at_most c.args.self.now c.args.lease.now.worker c.worker.result c.args.rival c.mark_hot.new.self c.mark_hot.result c.worker.ensures c.mark_hot.ensures.answer c.mark_hot.ensures.marked c.mark_hot.ensures.refused c.mark_hot.ensures.moment;
  turn = λ before. marked_turn c.args.self.now c.args.lease.now.worker c.mark_hot.new.self (marked_at_most c.args.self.now c.args.lease.now.worker c.worker.result c.args.rival c.mark_hot.new.self c.mark_hot.result c.worker.ensures c.mark_hot.ensures.answer c.mark_hot.ensures.marked c.mark_hot.ensures.refused c.mark_hot.ensures.moment) given.worker (w.work.same.worker ∙ w.on.worker) w.held.quota c.args.lease.now.used
      (c.requires.spent ∙ w.work.same.quota) (w.on.turn before);
}

pub returns-clause-marked : goal.returns-clause-marked
returns-clause-marked c = λ asked told.
    subst (λ (v : GraphValue). MarksRival v c.args.lease.now c.mark_hot.new.self) told.same (inr (
      c.args.rival,
      told.rival_is,
      marks_where_may c.args.self.now c.args.lease.now.worker c.worker.result c.args.rival c.mark_hot.new.self c.mark_hot.result c.worker.ensures c.mark_hot.ensures.answer c.mark_hot.ensures.marked c.mark_hot.ensures.refused,
    ))

pub returns-clause-left : goal.returns-clause-left
returns-clause-left c = marked_room c.args.self.now c.args.lease.now.worker c.mark_hot.new.self (marked_at_most c.args.self.now c.args.lease.now.worker c.worker.result c.args.rival c.mark_hot.new.self c.mark_hot.result c.worker.ensures c.mark_hot.ensures.answer c.mark_hot.ensures.marked c.mark_hot.ensures.refused c.mark_hot.ensures.moment)

pub returns-clause-searched : goal.returns-clause-searched
returns-clause-searched c = same_searched c.args.self.now c.mark_hot.new.self (marked_same c.args.self.now c.args.lease.now.worker c.mark_hot.new.self (marked_at_most c.args.self.now c.args.lease.now.worker c.worker.result c.args.rival c.mark_hot.new.self c.mark_hot.result c.worker.ensures c.mark_hot.ensures.answer c.mark_hot.ensures.marked c.mark_hot.ensures.refused c.mark_hot.ensures.moment))
