-- The surroundings of an atom.
use Rattle.std.specs.Prelude.{◌≡◌, map}
use Rattle.pb_lifted.specs.declared.scope.Scope.{Scope}
use Rattle.pb_lifted.specs.Types.{name_text}
use Rattle.pb_lifted.specs.Tables.{AreTables}

pub record IsScope (scope : Scope) : Type 0 where
  pub tables : AreTables scope.tables.now scope.domain.now scope.problem.now
  pub names : scope.names.now ≡ map name_text scope.params.now
