use Rattle.std.proofs.Common.{IfOk, subst, ◌^◌}
use Rattle.pb_task.specs.declared.parts.StripsParts.{StripsParts}
use Rattle.pb_task.specs.Strips.{strips_space}
use Rattle.pb_pattern.specs.Costs.{AreLeast}
use Rattle.pb_pattern.proofs.Imaged.{are_sets, small_atoms}
use Rattle.pb_pattern.proofs.table.costs_of_strips.Goals as goal

pub sets_of-requires-clause-atoms : goal.sets_of-requires-clause-atoms
sets_of-requires-clause-atoms c = small_atoms c.args.strips.now c.args.tracked.now c.requires.strips c.requires.atoms

pub least_costs-requires : goal.least_costs-requires
least_costs-requires c = record { graph = are_sets c.args.strips.now c.args.tracked.now c.in_ok-sets.sets c.requires.strips c.requires.atoms c.requires.few c.in_ok-sets.ensures }

pub returns : goal.returns
returns c =
    subst (λ (p : StripsParts). IfOk c.least_costs.result (λ costs. AreLeast (strips_space p) (2 ^ p.atoms) costs.items)) c.in_ok-sets.ensures c.least_costs.ensures
