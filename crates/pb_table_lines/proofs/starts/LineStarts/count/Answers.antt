use Rattle.std.proofs.Common.{ℕ, List, sym, subst, ◌∙◌}
use Rattle.pb_table_lines.specs.Stated.{AreStarts}
use Rattle.pb_table_lines.proofs.Written.{count_start}
use Rattle.pb_table_lines.proofs.starts.LineStarts.count.Goals as goal

pub returns-clause-lines : goal.returns-clause-lines
returns-clause-lines c = λ digits.
    count_start digits c.args.tables.now c.as_slice-starts.result.now c.count.result (subst (λ (ss : List ℕ). AreStarts c.args.tables.now ss) (sym (c.as_slice-starts.ensures.value ∙ c.self.view_is)) c.requires) c.count.ensures.count
