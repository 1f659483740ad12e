use Rattle.std.proofs.Common.{Some, is_some, refl, sym, ap, subst}
use Rattle.pb_machine.specs.declared.event.Event.TheVariants.{Hot}
use Rattle.pb_yard.specs.Passes.{view_of, worker_of}
use Rattle.pb_yard.specs.Replies.{MarksAs, mark_events}
use Rattle.pb_yard.specs.Calls.{Marks}
use Rattle.pb_workers.specs.declared.yard_watch.YardWatch.{YardWatch}
use Rattle.pb_workers.proofs.Sharing.{holder, mark_stays, look_since, holder_searched}
use Rattle.pb_workers.proofs.SharedTurns.{marking_turn}
use Rattle.pb_workers.proofs.yard_lessor.YardLessorLessor.mark.Goals as goal

pub mark_hot-requires-clause-own : goal.mark_hot-requires-clause-own
mark_hot-requires-clause-own g c = c.requires.worked.2.work.own

pub mark_hot-requires-clause-leased : goal.mark_hot-requires-clause-leased
mark_hot-requires-clause-leased g c = ap is_some c.requires.worked.2.work.brought.lent_is

pub mark_hot-requires-clause-block : goal.mark_hot-requires-clause-block
mark_hot-requires-clause-block g c = c.requires.told.1.known

pub returns-clause-may_return : goal.returns-clause-may_return
returns-clause-may_return g c = λ begin given h.
    let w = c.args.self.now.watch in let n : YardWatch = record w { pass = c.mark_hot.new.pass } in let worker = worker_of w.pass in let rival = c.args.rival in
    record {
      work = look_since begin.watch w n c.args._lease.now 0 h.work refl c.mark_hot.ensures.same (MarksAs worker rival c.mark_hot.result) (λ found. mark_events (Hot worker rival) c.mark_hot.result) c.mark_hot.ensures.marked
          (mark_stays worker rival c.mark_hot.result (view_of w.pass) (view_of n.pass) c.mark_hot.ensures.marked h.work.stays);
      turn = λ before.
          marking_turn worker rival c.mark_hot.result (view_of w.pass) (view_of n.pass) (sym w.pass.worker_is) c.mark_hot.ensures.marked c.args._lease.now.quota c.args._lease.now.used c.requires.spent (h.turn before);
    }

pub returns-clause-marked : goal.returns-clause-marked
returns-clause-marked g c = λ asked told.
    let v = view_of c.args.self.now.watch.pass in let u = view_of c.mark_hot.new.pass in
    (v, Some c.args.rival, told.asked, (c.mark_hot.result, subst (λ worker. Marks worker c.args.rival v c.mark_hot.result u) told.worker c.mark_hot.ensures.marked))

pub returns-clause-searched : goal.returns-clause-searched
returns-clause-searched g c =
    let p = c.args.self.now.watch.pass in let v = view_of p in let u = view_of c.mark_hot.new.pass in
    holder_searched v u (holder (MarksAs (worker_of p) c.args.rival c.mark_hot.result) (λ found. mark_events (Hot (worker_of p) c.args.rival) c.mark_hot.result) v v.lent v.told u c.mark_hot.ensures.marked)
