use Rattle.std.proofs.Common.{map, sym, ap, ◌∙◌}
use Rattle.pb_lifted.specs.Tables.{predicate_text}
use Rattle.pb_lifted.proofs.scope.predicate_of.Goals as goal

pub entry-requires : goal.entry-requires
entry-requires c = c.requires.tables.predicates ∙ sym (ap (map predicate_text) c.as_slice.ensures)
