use Rattle.pb_check.proofs.Known.{accepted, claimed}
use Rattle.pb_check.proofs.Completeness.{gives_accepted}
use Rattle.pb_check.proofs.Claims.{verdicts}
use Rattle.pb_check.proofs.Cuts.{gives_cut}
use Rattle.pb_check.proofs.pieces.check_pieces.Goals as goal

pub returns-clause-valid : goal.returns-clause-valid
returns-clause-valid g c = accepted c.args.task.now c.args.bytes.now c.first_fault.result c.first_fault.ensures.lawful c.first_fault.ensures.exact

pub returns-clause-only : goal.returns-clause-only
returns-clause-only g c = gives_accepted c.args.task.now c.args.bytes.now c.first_fault.result c.first_fault.ensures.exact

pub returns-clause-claim : goal.returns-clause-claim
returns-clause-claim g c = claimed c.args.task.now c.args.bytes.now c.first_fault.result c.first_fault.ensures.lawful c.first_fault.ensures.exact

pub returns-clause-holds : goal.returns-clause-holds
returns-clause-holds g c =
    verdicts c.args.task.now c.args.bytes.now c.first_fault.result (claimed c.args.task.now c.args.bytes.now c.first_fault.result c.first_fault.ensures.lawful c.first_fault.ensures.exact)

pub returns-clause-cut : goal.returns-clause-cut
returns-clause-cut g c = gives_cut c.args.task.now c.args.bytes.now c.first_fault.result c.first_fault.ensures.exact
