use Rattle.std.proofs.Common.{◌≡◌, nat_eq, drop}
use Rattle.std.specs.List.{list_any}
use Rattle.pb_ground.proofs.numbers.is_among.Given as goal

abbrev pub invariant-loop-n : goal.invariant-loop-n
invariant-loop-n l = list_any (nat_eq l.number) (drop l.n-index l.numbers) ≡ list_any (nat_eq l.number) l.numbers
