-- Worked rows of the rule of cuts.
use Rattle.std.proofs.Common.{ℕ, ◌-◌, ◌^◌, Some, None, arith}
use Rattle.pb_model.specs.declared.row.Estimate.TheVariants.{Cost, Dead}
use Rattle.pb_model.specs.Weight.{Weight}
use Rattle.pb_model.specs.Store.{MayBeCut}

-- at the weight 3/2 a row is cut if 3 * (g + h) is at least 2 * U: with U = 10 if g + h is 7 or more
abbrev three_halves : Weight
three_halves = record { num = 3; den = 2 }

six-is-kept : MayBeCut three_halves (Some 10) 4 (Cost 2) → ⊥
six-is-kept h = omega (arith, h)

seven-is-cut : MayBeCut three_halves (Some 10) 4 (Cost 3)
seven-is-cut = omega arith

the-estimate-may-be-0 : MayBeCut three_halves (Some 10) 7 (Cost 0)
the-estimate-may-be-0 = omega arith

a-greater-incumbent-keeps-seven : MayBeCut three_halves (Some 11) 4 (Cost 3) → ⊥
a-greater-incumbent-keeps-seven h = omega (arith, h)

all-is-cut-at-0 : MayBeCut three_halves (Some 0) 0 (Cost 0)
all-is-cut-at-0 = omega arith

without-an-incumbent-rows-are-kept : MayBeCut three_halves None 4 (Cost 3) → ⊥
without-an-incumbent-rows-are-kept h = h

a-dead-end-is-cut : MayBeCut three_halves None 4 Dead
a-dead-end-is-cut = tt

-- the greatest weight and the greatest numbers
abbrev most : ℕ
most = 2 ^ 64 - 1

abbrev greatest : Weight
greatest = record { num = 1000; den = 1 }

abbrev plain : Weight
plain = record { num = 1000; den = 1000 }

the-greatest-numbers-are-cut : MayBeCut three_halves (Some most) most (Cost most)
the-greatest-numbers-are-cut = omega arith

the-greatest-cost-is-cut : MayBeCut plain (Some most) most (Cost 0)
the-greatest-cost-is-cut = omega arith

one-less-is-kept : MayBeCut plain (Some most) (most - 1) (Cost 0) → ⊥
one-less-is-kept h = omega (arith, h)

the-greatest-sum-is-cut : MayBeCut greatest (Some most) most (Cost most)
the-greatest-sum-is-cut = omega arith
