use Rattle.std.proofs.Common.{◌≡◌, ◌==◌, ℕ, Some, slice_get, vec_len, vec_capacity}
use Rattle.pb_machine.specs.Settings.{weight_of}
use Rattle.pb_owner.specs.declared.share.Share.{Share}
use Rattle.pb_owners.specs.Owners.{IsOpeningShare}
use Rattle.pb_owners.proofs.owners.opening_shares.Given as goal

abbrev pub invariant-loop-at : goal.invariant-loop-at
invariant-loop-at l = record {
  each : (i : ℕ) (share : Share) → slice_get l.shares.items i ≡ Some share → IsOpeningShare (weight_of l.settings) (i == l.home) l.start l.estimate share;
  count : vec_len l.shares ≡ l.at;
  room : vec_capacity l.shares ≡ l.settings.workers;
}
