use Rattle.std.proofs.Common.{◌-◌, arith}
use Rattle.pb_expand.specs.Worked.{broken_by}
use Rattle.pb_expand.proofs.Known.{out_on}
use Rattle.pb_expand.proofs.working.work.Goals as goal

pub returns-clause-turned : goal.returns-clause-turned
returns-clause-turned c = c.work_watched.ensures.turned.turned

pub returns-clause-out : goal.returns-clause-out
returns-clause-out c = λ settings reopenings machine before.
    let new = c.work_watched.new.lease in
    out_on c.args.task.now c.args.abstraction.now c.args.lease.now.choice settings reopenings machine c.args.lease.now new (new.used - c.args.lease.now.used) (broken_by c.work_watched.result) before
    c.work_watched.ensures.turned.turned c.work_watched.ensures.same (omega (arith, c.work_watched.ensures.counted))
