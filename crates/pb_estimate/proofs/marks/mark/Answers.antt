use Rattle.std.proofs.Common.{◌/◌, refl, get_or}
use Rattle.pb_estimate.proofs.Marked.{marked_now, marked_as_before}
use Rattle.pb_estimate.proofs.marks.mark.Goals as goal

pub returns-clause-marked : goal.returns-clause-marked
returns-clause-marked c = marked_now c.args.marks.now c.args.action (get_or c.args.marks.now (c.args.action / 64) 0) refl c.requires

pub returns-clause-others : goal.returns-clause-others
returns-clause-others c = marked_as_before c.args.marks.now c.args.action (get_or c.args.marks.now (c.args.action / 64) 0) refl c.requires
