use Rattle.std.proofs.Common.{length, sym, ap, ◌∙◌}
use Rattle.pb_check.specs.PlanLines.{actions_of}
use Rattle.pb_check.proofs.Loops.{as_many}
use Rattle.pb_check.proofs.actions.StatedActions.len.Goals as goal

pub returns : goal.returns
returns c =
    let a = c.self.inside in
    let read = c.self.invariant.0 in
    sym (as_many a.count a.line a.text.now read.0 read.1) ∙ ap length (sym (ap actions_of read.1)) ∙ ap length c.self.view_is
