use Rattle.std.proofs.Common.{◌≡◌, ◌≤◌, ◌^◌, ℕ, nat_lt, false, cond, sym, ap, subst, ◌∙◌, arith}
use Rattle.std.proofs.lemmas.Bool.Decides.{nat_tests}
use Rattle.std.specs.Hash as fed
use Rattle.std.specs.List.{flat_map, fold}
use Rattle.pb_packed.specs.Words.{words_of}
use Rattle.pb_packed.specs.Forms.{words_fed, number_in, IsSmallest}
use Rattle.pb_packed.specs.declared.packed.Form.TheVariants.{Many}
use Rattle.pb_packed.proofs.order.PackedHash.hash.Goals as goal

many : (n : ℕ) → 2 ^ 256 ≤ n → flat_map fed.u64 (words_of 16 n) ≡ words_fed n
many n h =
    let above : 2 ^ 64 ≤ n = omega (arith, h) in
    let e : nat_lt n (2 ^ 64) ≡ false = grind (arith, nat_tests, above) in
    let f : nat_lt n (2 ^ 256) ≡ false = grind (arith, nat_tests, h) in
    sym (ap (λ b. cond b (fed.u64 n) (cond (nat_lt n (2 ^ 256)) (flat_map fed.u64 (words_of 4 n)) (flat_map fed.u64 (words_of 16 n)))) e
    ∙ ap (λ b. cond b (flat_map fed.u64 (words_of 4 n)) (flat_map fed.u64 (words_of 16 n))) f)

pub returns-in-Many : goal.returns-in-Many
returns-in-Many g c =
    let smallest : IsSmallest (Many c.in-Many.words) = subst IsSmallest c.in-Many.is c.self.invariant in
    let same : c.in-Many.words ≡ c.args.self.now = sym (ap number_in c.in-Many.is) ∙ c.self.view_is in
    c.hash-in-Many.ensures ∙ ap (fold g.H.Hasher.write c.args.state.now) (many c.in-Many.words smallest.0)
    ∙ ap (λ n. fold g.H.Hasher.write c.args.state.now (words_fed n)) same
