use Rattle.std.proofs.Common.{length, ap, sym, ◌∙◌}
use Rattle.pb_task.specs.FlatSets.{FlatSets}
use Rattle.pb_task.proofs.FlatActions.{many_sets}
use Rattle.pb_task.proofs.atom_sets.AtomSets.len.Goals as goal

pub returns : goal.returns
returns c = sym (many_sets c.self.inside.width c.self.inside.count c.self.inside.words.items) ∙ ap (λ (f : FlatSets). length f.sets) c.self.view_is
