use Rattle.std.proofs.Common.{◌<◌, sym, ap, ◌∙◌, subst}
use Rattle.pb_pattern.specs.Costs.{cost_in, estimate_in}
use Rattle.pb_pattern.proofs.Imaged.{small_atoms, strips_table}
use Rattle.pb_pattern.proofs.table.least_of_strips.Goals as goal

pub image_of_set-image-requires-clause-atoms : goal.image_of_set-image-requires-clause-atoms
image_of_set-image-requires-clause-atoms c = small_atoms c.args.strips.now c.args.tracked.now c.requires.strips c.requires.atoms

pub estimate_at-requires : goal.estimate_at-requires
estimate_at-requires c = subst (λ n. c.image_of_set-image.result < n) (sym c.requires.costs.long) c.image_of_set-image.ensures.small

pub returns : goal.returns
returns c =
    c.estimate_at.ensures ∙ ap (λ n. estimate_in (cost_in c.args.costs.now n)) c.image_of_set-image.ensures.image
    ∙ strips_table c.args.strips.now c.args.tracked.now c.args.costs.now c.args.state.now c.requires.strips c.requires.atoms c.requires.few c.requires.costs c.requires.state
