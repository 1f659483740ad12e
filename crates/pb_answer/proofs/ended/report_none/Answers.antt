use Rattle.std.proofs.Common.{None, refl}
use Rattle.pb_lists.specs.Store.{store_with}
use Rattle.pb_cert.proofs.Callers.{no_plan}
use Rattle.pb_command.specs.Causes.{solve_meant}
use Rattle.pb_answer.specs.Ended.{guide_by}
use Rattle.pb_answer.specs.Answer.{certificates_of, journals_of}
use Rattle.pb_answer.proofs.Certified.{can_be_stated, holds, certifies}
use Rattle.pb_answer.proofs.ended.report_none.Goals as goal

pub returns : goal.returns
returns g c =
    let solve = solve_meant c.args.solve.now in
    let parts = c.args.task.now in
    let choice = c.args.choice.now in
    let homes = g.S.Store.home c.args.store.now in
    let store = store_with (g.S.Store.rows c.args.store.now) (g.S.Store.weight c.args.store.now)
    (g.S.Store.incumbent c.args.store.now) in
    let journal = journals_of c.args.journal in
    let best = no_plan parts (guide_by parts choice homes) store c.requires.quiet.end
    c.requires.none in (
      refl,
      c.in_ok-report.ensures,
      holds solve parts choice homes store journal c.requires.quiet None c.requires.none,
      certifies solve parts choice homes store journal c.requires.quiet None
          (certificates_of c.in_ok-certificate.certificate) best
          (c.in_ok-certificate.ensures
          (can_be_stated solve parts choice homes store journal c.requires.quiet None best)),
    )
