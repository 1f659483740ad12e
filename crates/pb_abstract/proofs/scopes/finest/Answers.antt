use Rattle.std.proofs.Common.{sym, subst}
use Rattle.pb_task.specs.declared.parts.TaskParts.{TaskParts}
use Rattle.pb_abstract.specs.declared.projection.Projection.TheVariants.{Atoms}
use Rattle.pb_abstract.specs.Projection.{Fits}
use Rattle.pb_abstract.proofs.Ordering.{are_atoms}
use Rattle.pb_abstract.proofs.scopes.finest.Goals as goal

pub returns-in_ok-atoms-in-Strips-clause-fits : goal.returns-in_ok-atoms-in-Strips-clause-fits
returns-in_ok-atoms-in-Strips-clause-fits c =
    subst (λ (parts : TaskParts). Fits parts (Atoms c.in_ok-atoms-in-Strips.atoms)) (sym c.in-Strips.is)
    (are_atoms c.in-Strips.strips c.args.wish c.in_ok-atoms-in-Strips.atoms c.requires.greatest c.in_ok-atoms-in-Strips.ensures)
