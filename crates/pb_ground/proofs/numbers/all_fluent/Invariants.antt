use Rattle.std.proofs.Common.{◌≡◌, ℕ, List, true, drop}
use Rattle.pb_ground.specs.Statics.{statics_hold}
use Rattle.pb_ground.proofs.numbers.all_fluent.Given as goal

-- the atoms before hold, whatever those that are left do
abbrev pub invariant-loop-atom : goal.invariant-loop-atom
invariant-loop-atom l = (given : List ℕ) → statics_hold l.lifted (drop l.atom-index l.atoms) given ≡ true → statics_hold l.lifted l.atoms given ≡ true
