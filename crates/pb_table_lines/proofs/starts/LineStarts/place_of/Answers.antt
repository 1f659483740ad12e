use Rattle.std.proofs.Common.{ℕ, List, sym, subst, ◌∙◌}
use Rattle.pb_table_lines.specs.Stated.{AreStarts}
use Rattle.pb_table_lines.proofs.Written.{within_list}
use Rattle.pb_table_lines.proofs.starts.LineStarts.place_of.Goals as goal

pub returns-clause-within : goal.returns-clause-within
returns-clause-within c =
    within_list c.args._tables.now c.as_slice-starts.result.now c.args.at c.last_from-list.result
    (subst (λ (ss : List ℕ). AreStarts c.args._tables.now ss) (sym (c.as_slice-starts.ensures.value ∙ c.self.view_is)) c.requires.starts)
    c.last_from-list.ensures.within c.last_from-list.ensures.from c.last_from-list.ensures.to
