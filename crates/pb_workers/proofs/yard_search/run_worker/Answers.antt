use Rattle.std.proofs.Common.{sym, ◌∙◌}
use Rattle.pb_yard.specs.Passes.{view_of, worker_of}
use Rattle.pb_workers.specs.declared.yard_watch.YardWatch.{YardWatch}
use Rattle.pb_workers.proofs.Sharing.{worker_self, idle_with}
use Rattle.pb_workers.proofs.SharedTurns.{off_turn}
use Rattle.pb_workers.proofs.yard_search.run_worker.Goals as goal

pub take_leases-memory-requires-clause-serves : goal.take_leases-memory-requires-clause-serves
take_leases-memory-requires-clause-serves g c _ _ =
    let i = c.requires.idle in record {
      task = i.task_is ∙ sym c.new-worker.ensures.task;
      abstraction = i.graph_is ∙ sym c.new-worker.ensures.abstraction;
      tools = c.new-worker.ensures.tools (view_of c.args.pass).choice c.requires.tools.0;
    }

pub take_leases-memory-requires-clause-idle : goal.take_leases-memory-requires-clause-idle
take_leases-memory-requires-clause-idle g c _ _ =
    let w : YardWatch = record { yard = c.args.team.now.yard; pass = c.args.pass } in
    let v = view_of c.args.pass in
    let i = c.requires.idle in
    record { own = c.requires.own; since = worker_self w; idle = idle_with c.args.team.now.task.now v.task c.args.team.now.abstraction.now v.abstraction i.task_is i.graph_is v i; turn = λ before. before }

pub returns-clause-turn : goal.returns-clause-turn
returns-clause-turn g c before =
    off_turn (worker_of c.take_leases-memory.new.lessor.watch.pass) c.take_leases-memory.result (view_of c.take_leases-memory.new.lessor.watch.pass) (view_of c.sign_off.new.pass)
    (sym c.take_leases-memory.new.lessor.watch.pass.worker_is) c.sign_off.ensures.signed_off (c.take_leases-memory.ensures.idle.turn before)
