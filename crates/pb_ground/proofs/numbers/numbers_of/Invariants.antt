use Rattle.std.proofs.Common.{◌≡◌, drop}
use Rattle.pb_ground.specs.Actions.{numbers_with, numbers_of}
use Rattle.pb_ground.proofs.numbers.numbers_of.Given as goal

abbrev pub invariant-loop-atom : goal.invariant-loop-atom
invariant-loop-atom l = numbers_with l.atoms l.given l.numbers (drop l.atom-index l.list) ≡ numbers_of l.atoms l.given l.list
