use Rattle.std.proofs.Common.{length, ap, sym, ◌∙◌}
use Rattle.pb_tables.specs.Flat.{FlatNumbersView}
use Rattle.pb_task.proofs.Callers.{many_sets}
use Rattle.pb_tables.proofs.numbers.FlatNumbers.len.Goals as goal

pub returns : goal.returns
returns c = sym (many_sets c.self.inside.width c.self.inside.count c.self.inside.words.items) ∙ ap (λ (f : FlatNumbersView). length f.numbers) c.self.view_is
