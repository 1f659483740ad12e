-- The weights of the runs.
use Rattle.std.proofs.Common.{◌≡◌, ℕ, ◌+◌, ◌-◌, ◌*◌, ◌/◌, ◌≤◌, ap, ◌∙◌, subst, arith, le_trans}
use Rattle.std.proofs.Math.Nat.{mul-le-mul_left, div-mul-le_self, div-le_of_le-mul, mul_comm}
use Rattle.std.proofs.lemmas.Nat.{le-div}
use Rattle.pb_model.specs.Weight.{Weight, IsWeight}
use Rattle.pb_falling.specs.Falling.{weight_at}
use Rattle.pb_falling.specs.Laws.{WeightsFall}

less_divided : (x y k : ℕ) → 1 ≤ k → x ≤ y → x / k ≤ y / k
less_divided x y k some le = le-div (x / k) y k some (le_trans (div-mul-le_self x k) le)

whole : (a k : ℕ) → 1 ≤ k → (a * k) / k ≡ a
whole a k some =
    let low : a ≤ (a * k) / k = le-div a (a * k) k some (omega arith) in
    let high : (a * k) / k ≤ a = div-le_of_le-mul k (subst (λ n. a * k ≤ n) (mul_comm a k) (omega arith)) in
    omega arith

module _ (weight : Weight) (steps : ℕ) (is : IsWeight weight) (some : 1 ≤ steps) where
  over : ℕ
  over = weight.num - weight.den

  part : (left : ℕ) → left ≤ steps → (over * left) / steps ≤ over
  part left le = subst (λ n. (over * left) / steps ≤ n) (whole over steps some) (less_divided (over * left) (over * steps) steps some (mul-le-mul_left over le))

  is_weight : (k : ℕ) → k ≤ steps → IsWeight (weight_at weight steps k)
  unfolding over
  is_weight k within =
      let p = part (steps - k) (omega arith) in
      let one : weight.den ≤ weight.num = is.at_least_one in
      let small : weight.num ≤ 1000 = is.small in
      record { positive = is.positive; at_least_one = omega arith; small = omega (arith, p, one, small) }

  first : (weight_at weight steps 0).num ≡ weight.num
  unfolding over
  first =
      let e : over * (steps - 0) / steps ≡ over = ap (λ n. over * n / steps) (let same : steps - 0 ≡ steps = omega arith in same) ∙ whole over steps some in
      let one : weight.den ≤ weight.num = is.at_least_one in
      omega (arith, e, one)

  last : (weight_at weight steps steps).num ≡ weight.den
  unfolding over
  last =
      let p : over * (steps - steps) / steps ≡ 0 = ap (λ n. over * n / steps) (let same : steps - steps ≡ 0 = omega arith in same) ∙ ap (λ n. n / steps) (let z : over * 0 ≡ 0 = omega arith in z) ∙ none in
      omega (arith, p)
    where
      none : 0 / steps ≡ 0
      none = let le : 0 / steps ≤ 0 = div-le_of_le-mul steps (omega arith) in omega arith

  falls : (k : ℕ) → (weight_at weight steps (k + 1)).num ≤ (weight_at weight steps k).num
  unfolding over
  falls k = let p = less_divided (over * (steps - (k + 1))) (over * (steps - k)) steps some (mul-le-mul_left over (omega arith)) in omega (arith, p)

pub weights_fall : WeightsFall
weights_fall weight steps k is some within = (is_weight weight steps is some k within, first weight steps is some, last weight steps is some, falls weight steps is some k)
