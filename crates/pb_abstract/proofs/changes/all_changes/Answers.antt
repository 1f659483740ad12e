use Rattle.std.proofs.Common.{◌≡◌, ◌<◌, ◌++◌, ◌∷◌, [], length, if◌then◌else◌, ap, ◌∙◌, arith}
use Rattle.pb_task.specs.Strips.{action_at}
use Rattle.pb_abstract.specs.Changes.{change_of, changes_some}
use Rattle.pb_abstract.specs.declared.changes.Change.{Change}
use Rattle.pb_abstract.proofs.Changing.{any_more}
use Rattle.pb_abstract.proofs.changes.all_changes.Goals as goal

pub loop-at-preserved : goal.loop-at-preserved
loop-at-preserved c = λ test.
    let less : c.loop-at.at < length c.args.actions.now = omega arith in
    any_more c.args.atoms.now c.args.actions.now c.loop-at.at test c.loop-at.changes.items c.push_change.new.changes.items less (c.loop-at.invariant test)
    (c.in_ok-push_change.ensures
    ∙ ap (λ (change : Change). if changes_some change then c.loop-at.changes.items ++ change ∷ [] else c.loop-at.changes.items) c.change_of.ensures)
