use Rattle.std.proofs.Common.{◌∙◌}
use Rattle.pb_task.specs.Strips.{has_atom}
use Rattle.pb_estimate.proofs.NextAtoms.{bit_has, or_not_true, or_not_false}
use Rattle.pb_estimate.proofs.atom_sets.with_unless.Goals as goal

pub returns-then-has-clause-has : goal.returns-then-has-clause-has
returns-then-has-clause-has c = or_not_true (has_atom c.args.set.now c.args.atom) (has_atom c.args.but.now c.args.atom) (bit_has c.args.but.now c.args.atom c.has.result c.has.ensures ∙ c.if-has.true)

pub returns-else-has-clause-has : goal.returns-else-has-clause-has
returns-else-has-clause-has c =
    c.with_atom.ensures.has ∙ or_not_false (has_atom c.args.set.now c.args.atom) (has_atom c.args.but.now c.args.atom) (bit_has c.args.but.now c.args.atom c.has.result c.has.ensures ∙ c.if-has.false)
