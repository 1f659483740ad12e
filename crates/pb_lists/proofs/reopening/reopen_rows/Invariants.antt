use Rattle.std.proofs.Common.{◌≡◌}
use Rattle.pb_lists.specs.Fields.{weight_of}
use Rattle.pb_lists.proofs.AgainOpened.{so_far}
use Rattle.pb_lists.proofs.reopening.reopen_rows.Given as goal

abbrev pub invariant-places : goal.invariant-places
invariant-places l = record {
  written : l.rows.entries ≡ so_far (weight_of l.num l.den) l.bound l.place l.initial.rows.entries;
}
