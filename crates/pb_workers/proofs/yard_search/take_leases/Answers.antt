use Rattle.std.proofs.Common.{refl, sym, subst, rules}
use Rattle.pb_lease.specs.declared.answer.LeaseReply.TheVariants.{Leased, NotYet}
use Rattle.pb_yard.specs.Passes.{view_of, worker_of}
use Rattle.pb_workers.specs.declared.yard_watch.YardWatch.{YardWatch}
use Rattle.pb_workers.specs.Serving.{Serves}
use Rattle.pb_workers.proofs.Sharing.{holder_searched, asked_holder, lease_asked, wait_asked, memory_asked, over_asked}
use Rattle.pb_workers.proofs.yard_search.take_leases.Goals as goal

pub hold-requires-clause-serves : goal.hold-requires-clause-serves
hold-requires-clause-serves g c _ _ =
    let w = c.loop.lessor.watch in let n : YardWatch = record w { pass = c.lease.new.pass } in let l = c.in-Leased.lease in
    subst (Serves c.loop.worker)
    (sym (holder_searched (view_of w.pass) (view_of n.pass) (asked_holder c.args.lessor.now.watch w n c.loop.invariant.none refl c.lease.ensures.same (worker_of w.pass) (sym w.pass.worker_is) (Leased l) c.in-Leased.ensures.leased))) c.loop.invariant.serves

pub hold-requires-clause-holds : goal.hold-requires-clause-holds
hold-requires-clause-holds g c _ _ =
    let w = c.loop.lessor.watch in let n : YardWatch = record w { pass = c.lease.new.pass } in let l = c.in-Leased.lease in
    (c.args.lessor.now, l, lease_asked c.args.lessor.now.watch w n c.loop.invariant.none refl c.lease.ensures.same (worker_of w.pass) (sym w.pass.worker_is) l c.in-Leased.ensures.leased)

pub loop-preserved-in-Leased : goal.loop-preserved-in-Leased
loop-preserved-in-Leased g c =
    let w = c.loop.lessor.watch in let n : YardWatch = record w { pass = c.lease.new.pass } in let l = c.in-Leased.lease in
    record {
      can = search rules;
      finite = search rules;
      none = c.hold.ensures.home c.args.lessor.now l (lease_asked c.args.lessor.now.watch w n c.loop.invariant.none refl c.lease.ensures.same (worker_of w.pass) (sym w.pass.worker_is) l c.in-Leased.ensures.leased);
      serves = c.hold.ensures.serves;
    }

pub loop-preserved : goal.loop-preserved
loop-preserved g c =
    let w = c.loop.lessor.watch in let n : YardWatch = record w { pass = c.lease.new.pass } in let none = c.loop.invariant.none in
    record {
      can = search rules;
      finite = search rules;
      none = wait_asked c.args.lessor.now.watch w n none refl c.lease.ensures.same (worker_of w.pass) (sym w.pass.worker_is) c.in-NotYet.ensures.leased;
      serves = subst (Serves c.loop.worker)
          (sym (holder_searched (view_of w.pass) (view_of n.pass) (asked_holder c.args.lessor.now.watch w n none refl c.lease.ensures.same (worker_of w.pass) (sym w.pass.worker_is) NotYet c.in-NotYet.ensures.leased))) c.loop.invariant.serves;
    }

pub returns-in-Over-clause-idle : goal.returns-in-Over-clause-idle
returns-in-Over-clause-idle g c =
    let w = c.loop.lessor.watch in let n : YardWatch = record w { pass = c.lease.new.pass } in
    (over_asked c.args.lessor.now.watch w n c.loop.invariant.none refl c.lease.ensures.same (worker_of w.pass) (sym w.pass.worker_is) c.in-Over.field-0 c.in-Over.ensures.leased).0

pub returns-in-Over-clause-cause : goal.returns-in-Over-clause-cause
returns-in-Over-clause-cause g c =
    let w = c.loop.lessor.watch in let n : YardWatch = record w { pass = c.lease.new.pass } in
    (over_asked c.args.lessor.now.watch w n c.loop.invariant.none refl c.lease.ensures.same (worker_of w.pass) (sym w.pass.worker_is) c.in-Over.field-0 c.in-Over.ensures.leased).1

pub returns-in-Memory-clause-idle : goal.returns-in-Memory-clause-idle
returns-in-Memory-clause-idle g c =
    let w = c.loop.lessor.watch in let n : YardWatch = record w { pass = c.lease.new.pass } in
    memory_asked c.args.lessor.now.watch w n c.loop.invariant.none refl c.lease.ensures.same (worker_of w.pass) (sym w.pass.worker_is) c.in-Memory.ensures.leased
