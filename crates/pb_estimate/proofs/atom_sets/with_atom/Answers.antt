use Rattle.std.proofs.Common.{lit<, ap, ◌∙◌, ◌==◌}
use Rattle.pb_task.specs.Strips.{has_atom}
use Rattle.pb_estimate.proofs.NextAtoms.{others_same}
use Rattle.pb_estimate.proofs.atom_sets.with_atom.Goals as goal

pub returns-clause-has : goal.returns-clause-has
returns-clause-has c =
    let law = c.fields_are_replaced.ensures c.args.set.now c.args.atom 1 1 (lit< tt) in
    ap (λ n. has_atom n c.args.atom) c.with.ensures ∙ ap (λ n. n == 1) law.0

pub returns-clause-others : goal.returns-clause-others
returns-clause-others c = λ other apart.
    let law = c.fields_are_replaced.ensures c.args.set.now c.args.atom 1 1 (lit< tt) in
    ap (λ n. has_atom n other) c.with.ensures ∙ others_same _ c.args.set.now c.args.atom law.1 law.2 other apart
