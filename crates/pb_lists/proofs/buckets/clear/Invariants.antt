use Rattle.std.proofs.Common.{◌≡◌, true}
use Rattle.pb_lists.specs.Fields.{weight_of}
use Rattle.pb_lists.specs.Heaped.{Entry}
use Rattle.pb_lists.specs.Buckets.{count_of, has_entry, KeepsLive}
use Rattle.pb_lists.proofs.buckets.clear.Given as goal

abbrev pub invariant-loop-first : goal.invariant-loop-first
invariant-loop-first l = record {
  had : (entry : Entry) → has_entry l.bucket entry ≡ true → has_entry l.initial.bucket entry ≡ true;
  kept : KeepsLive (weight_of l.num l.den) l.rows.entries l.sum l.initial.bucket l.bucket;
}

abbrev pub decreases-loop-first : goal.decreases-loop-first
decreases-loop-first l = count_of l.bucket
