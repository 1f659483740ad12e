use Rattle.pb_check.proofs.Known.{accepted, claimed}
use Rattle.pb_check.proofs.Completeness.{gives_accepted}
use Rattle.pb_check.proofs.Claims.{verdicts}
use Rattle.pb_check.proofs.Cuts.{gives_cut}
use Rattle.pb_check.proofs.checker.check.Goals as goal

pub returns-clause-valid : goal.returns-clause-valid
returns-clause-valid c = accepted c.args.task.now c.args.bytes.now c.first_fault.result c.first_fault.ensures.lawful c.first_fault.ensures.exact

pub returns-clause-only : goal.returns-clause-only
returns-clause-only c = gives_accepted c.args.task.now c.args.bytes.now c.first_fault.result c.first_fault.ensures.exact

pub returns-clause-claim : goal.returns-clause-claim
returns-clause-claim c = claimed c.args.task.now c.args.bytes.now c.first_fault.result c.first_fault.ensures.lawful c.first_fault.ensures.exact

pub returns-clause-holds : goal.returns-clause-holds
returns-clause-holds c =
    verdicts c.args.task.now c.args.bytes.now c.first_fault.result (claimed c.args.task.now c.args.bytes.now c.first_fault.result c.first_fault.ensures.lawful c.first_fault.ensures.exact)

pub returns-clause-cut : goal.returns-clause-cut
returns-clause-cut c = gives_cut c.args.task.now c.args.bytes.now c.first_fault.result c.first_fault.ensures.exact
