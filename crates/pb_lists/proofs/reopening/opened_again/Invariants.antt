use Rattle.std.proofs.Common.{◌≡◌, ℕ}
use Rattle.pb_lists.specs.Buckets.{IsTidy, HasPlaces}
use Rattle.pb_lists.specs.Fields.{weight_of}
use Rattle.pb_lists.specs.Reopened.{reopened_entries}
use Rattle.pb_lists.proofs.AgainOpened.{AreFiled}
use Rattle.pb_lists.proofs.reopening.opened_again.Given as goal

abbrev pub invariant-places : goal.invariant-places
invariant-places l = record {
  filed : AreFiled (weight_of l.num l.den) l.bound l.rows.entries l.opened l.place;
  tidy : IsTidy (weight_of l.num l.den) (reopened_entries (weight_of l.num l.den) l.bound l.rows.entries) l.opened;
  placed : HasPlaces (reopened_entries (weight_of l.num l.den) l.bound l.rows.entries) l.opened;
}
