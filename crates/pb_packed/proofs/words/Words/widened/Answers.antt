use Rattle.std.proofs.Common.{lit<, ◌≤◌, ◌*◌, ◌^◌, ℕ, length, arith}
use Rattle.std.proofs.Math.ListN.{replicate}
use Rattle.std.proofs.Math.Nat.{pow-le-pow_right}
use Rattle.std.proofs.lemmas.List.{length-replicate}
use Rattle.pb_packed.proofs.Zeros.{below_power}
use Rattle.pb_packed.proofs.words.Words.widened.Goals as goal

pub copy_words-requires-clause-fits : goal.copy_words-requires-clause-fits
copy_words-requires-clause-fits g c =
    let size = length-replicate {A = ℕ} g.row.V 0 in
    let enough : 64 * g.row.W ≤ 64 * length (replicate {A = ℕ} g.row.V 0) = omega (arith, size, c.requires) in
    let grown : 2 ^ (64 * g.row.W) ≤ 2 ^ (64 * length (replicate {A = ℕ} g.row.V 0)) =
    pow-le-pow_right {n = 2} (lit< tt) {i = 64 * g.row.W} {j = 64 * length (replicate {A = ℕ} g.row.V 0)} enough in
    let below = below_power g.row.W c.self.inside.words c.self.invariant in
    omega (arith, grown, below)
