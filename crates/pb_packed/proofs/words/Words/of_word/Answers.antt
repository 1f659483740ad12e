use Rattle.std.proofs.Common.{lit<, ◌≤◌, ◌*◌, ◌^◌, ℕ, length, arith}
use Rattle.std.proofs.Math.ListN.{replicate}
use Rattle.std.proofs.Math.Nat.{pow-le-pow_right}
use Rattle.std.proofs.lemmas.List.{length-replicate}
use Rattle.pb_packed.proofs.words.Words.of_word.Goals as goal

pub copy_words-requires-clause-fits : goal.copy_words-requires-clause-fits
copy_words-requires-clause-fits g c =
    let size = length-replicate {A = ℕ} g.row.W 0 in
    let enough : 64 ≤ 64 * length (replicate {A = ℕ} g.row.W 0) = omega (arith, size, c.requires) in
    let grown : 2 ^ 64 ≤ 2 ^ (64 * length (replicate {A = ℕ} g.row.W 0)) = pow-le-pow_right {n = 2} (lit< tt) {i = 64} {j = 64 * length (replicate {A = ℕ} g.row.W 0)} enough in
    omega (arith, grown)
