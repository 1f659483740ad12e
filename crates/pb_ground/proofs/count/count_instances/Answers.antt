use Rattle.std.proofs.Common.{◌≡◌, ℕ, [], ◌*◌, ◌+◌, ◌<◌, ◌∷◌, length, drop, get_or, min, sym, ap, ◌∙◌, arith}
use Rattle.std.proofs.lemmas.Grind.{common_steps}
use Rattle.pb_ground.specs.Errors.{told}
use Rattle.pb_ground.specs.Instances.{candidates, fitting}
use Rattle.pb_ground.specs.Count.{product_of}
use Rattle.pb_ground.proofs.Products.{told_step, product_is}
use Rattle.pb_ground.proofs.count.count_instances.Goals as goal

twice : (n : ℕ) → min (min n 18446744073709551615) 4294967295 ≡ told n
twice n = omega arith

pub loop-kind-preserved : goal.loop-kind-preserved
loop-kind-preserved c =
    let later = candidates c.args.lifted.now (drop (c.loop-kind.kind-index + 1) c.args.kinds.now) in
    let i = c.loop-kind.kind-index in
    let h : i < length c.args.kinds.now = omega arith in
    let next : drop i c.args.kinds.now ≡ get_or c.args.kinds.now i 0 ∷ drop (i + 1) c.args.kinds.now = grind (arith, common_steps) in
    let f = length (fitting c.args.lifted.now (get_or c.args.kinds.now i 0)) in
    let value : c.min-count.result ≡ told (c.loop-kind.count * f) = c.min-count.ensures ∙ (ap (λ n. min n 4294967295) c.saturating_mul.ensures
    ∙ (ap (λ n. min (min (c.loop-kind.count * n) 18446744073709551615) 4294967295) c.count_fitting.ensures ∙ twice (c.loop-kind.count * f))) in
    record {
      counted = ap (λ n. told (n * product_of later)) value
          ∙ told_step c.loop-kind.count f (product_of later) _ (ap (λ kinds. told (c.loop-kind.count * product_of (candidates c.args.lifted.now kinds))) (sym next) ∙ c.loop-kind.invariant.counted);
      small = omega (arith, c.min-count.ensures);
    }

pub returns : goal.returns
returns c =
    let none : drop c.loop-kind.kind-index c.args.kinds.now ≡ [] = grind (arith, common_steps) in
    let all : told (c.loop-kind.count * 1) ≡ told (product_of (candidates c.args.lifted.now c.args.kinds.now)) =
    ap (λ kinds. told (c.loop-kind.count * product_of (candidates c.args.lifted.now kinds))) (sym none) ∙ c.loop-kind.invariant.counted in
    let here : c.loop-kind.count ≡ told (c.loop-kind.count * 1) = omega (arith, c.loop-kind.invariant.small) in
    here ∙ (all ∙ ap told (sym (product_is (candidates c.args.lifted.now c.args.kinds.now))))
