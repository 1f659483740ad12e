use Rattle.std.proofs.Common.{ap, Some}
use Rattle.pb_estimate.specs.Estimates.{estimate_by}
use Rattle.pb_lists.specs.Bundle.{Content, row_of}
use Rattle.pb_owner.proofs.Offering.{known_rows}
use Rattle.pb_owner.proofs.expanding.offer.Goals as goal

pub returns-in-Ok-clause-rows : goal.returns-in-Ok-clause-rows
returns-in-Ok-clause-rows c =
    let found = c.in-Some.ensures.some in
    known_rows (row_of c.args.share.now.bundle) (row_of c.offer_at.new.self) c.args.letter.now.state c.args.letter.now.g (estimate_by c.args.plan.now.task.now c.args.plan.now.choice.now c.args.letter.now.state) (Some c.args.letter.now.parent) c.args.letter.now.action found.0 found.1 (c.in-Ok.ensures.sets _ _ found.2)

pub returns-in-Ok-clause-weight : goal.returns-in-Ok-clause-weight
returns-in-Ok-clause-weight c = ap (λ (b : Content). b.weight) (c.in-Ok.ensures.put _ _ c.in-Some.ensures.some.2)
