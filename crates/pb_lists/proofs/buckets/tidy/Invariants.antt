use Rattle.std.specs.BTreeMap.{btree_map_len}
use Rattle.pb_lists.specs.Fields.{weight_of}
use Rattle.pb_lists.specs.Buckets.{HasFiled, HasPlaces}
use Rattle.pb_lists.proofs.buckets.tidy.Given as goal

abbrev pub invariant-loop-sum : goal.invariant-loop-sum
invariant-loop-sum l = record {
  filed : HasFiled (weight_of l.num l.den) l.rows.entries l.initial.buckets → HasFiled (weight_of l.num l.den) l.rows.entries l.buckets;
  placed : HasPlaces l.rows.entries l.buckets;
}

abbrev pub decreases-loop-sum : goal.decreases-loop-sum
decreases-loop-sum l = btree_map_len l.buckets
