use Rattle.std.proofs.Common.{◌≡◌, ◌+◌, ◌-◌, ◌≤◌, ◌++◌, length}
use Rattle.pb_cert.specs.Rewritten.{zeros}
use Rattle.pb_cert.proofs.rewriting.put_zeros.Given as goal

abbrev pub invariant-zeros : goal.invariant-zeros
invariant-zeros l = record {
  within : l.at ≤ l.count;
  so_far : l.out ≡ l.fn.out ++ zeros l.at;
  long : length l.out ≡ length l.fn.out + l.at;
}

abbrev pub decreases-zeros : goal.decreases-zeros
decreases-zeros l = l.count - l.at
