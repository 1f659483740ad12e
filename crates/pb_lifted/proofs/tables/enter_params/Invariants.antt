use Rattle.std.proofs.Common.{◌≡◌, take, drop}
use Rattle.pb_lifted.specs.Names.{earliest}
use Rattle.pb_lifted.specs.Tables.{names_of_params}
use Rattle.pb_lifted.specs.Refusals.{repeated_params}
use Rattle.pb_lifted.proofs.tables.enter_params.Given as goal

abbrev pub invariant-loop-action : goal.invariant-loop-action
invariant-loop-action l = record {
  names : l.all.items ≡ names_of_params (take l.action-index l.actions);
  twice : earliest l.found (repeated_params (drop l.action-index l.actions)) ≡ earliest l.fn.first (repeated_params l.actions);
}
