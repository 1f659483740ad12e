use Rattle.std.proofs.Common.{◌≡◌, Some, [], replicate}
use Rattle.pb_bundles.proofs.homes.empty_bundles.Given as goal

abbrev pub invariant-loop : goal.invariant-loop
invariant-loop l = l.bundles.items ≡ replicate l.counter (Some (record { entries = []; weight = record { num = l.num; den = l.den } }))
