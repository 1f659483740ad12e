-- Shares of places, if there are so many for each.
use Rattle.std.proofs.Common.{◌≡◌, ℕ, zero, suc, ◌+◌, ◌-◌, ◌*◌, ◌/◌, ◌≤◌, arith}
use Rattle.std.proofs.Math.Nat.{mul-div-le, mul-le-mul_left, suc-mul}

-- the places before the last share are enough for the others
before_last : (many shares least : ℕ) → suc shares * least ≤ many → shares * least ≤ many - many / suc shares
before_last many shares least enough =
    let last : suc shares * (many / suc shares) ≤ many = mul-div-le many (suc shares) in
    let all : suc shares * (many / suc shares) ≡ shares * (many / suc shares) + many / suc shares = suc-mul shares (many / suc shares) in
    let each : least ≤ many / suc shares = grind arith in
    let more : shares * least ≤ shares * (many / suc shares) = mul-le-mul_left shares each in
    omega (arith, last, all, more)

pub others_have : (from to shares least : ℕ) → from ≤ to → 1 ≤ shares → shares * least ≤ to - from → (shares - 1) * least ≤ to - (to - from) / shares - from
others_have from to zero least range some enough = absurd (omega (arith, some))
others_have from to (suc shares) least range some enough =
    let h : shares * least ≤ (to - from) - (to - from) / suc shares = before_last (to - from) shares least enough in
    let e : suc shares - 1 ≡ shares = omega arith in
    rw e (omega (arith, h))
