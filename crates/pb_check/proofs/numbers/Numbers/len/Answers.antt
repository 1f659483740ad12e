use Rattle.std.proofs.Common.{length, ap, sym, ◌∙◌}
use Rattle.pb_check.specs.Numbers.{Flat}
use Rattle.pb_task.proofs.Callers.{many_sets}
use Rattle.pb_check.proofs.numbers.Numbers.len.Goals as goal

pub returns : goal.returns
returns c = sym (many_sets c.self.inside.width c.self.inside.count c.self.inside.words.items) ∙ ap (λ (f : Flat). length f.numbers) c.self.view_is
