-- What is found first below a count, and values below a count.
use Rattle.std.proofs.Common.{◌≡◌, ℕ, zero, suc, ◌+◌, ◌*◌, ◌<◌, ◌≤◌, max, Bool, true, false, inl, inr, Option, None, Some, refl, subst, ap, arith, ◌∙◌}
use Rattle.std.proofs.lemmas.Bool.{false≢true, cases_lt, or_parts, or_from, or_left, or_right, or_cases}
use Rattle.pb_tables.specs.Below.{or_else, some_if, first_below, any_below, greatest_below, sum_below}

-- ---- one or another

pub else_none : {A : Type 0} (one other : Option A) → or_else one other ≡ None → (one ≡ None) × (other ≡ None)
else_none None other e = (refl, e)
else_none {A} (Some found) other e = absurd (let f : ◌≡◌ {A = Option A} (Some found) None = e in cc)

pub none_else : {A : Type 0} (one other : Option A) → one ≡ None → or_else one other ≡ other
none_else one other e = ap (λ o. or_else o other) e

pub some_else : {A : Type 0} (one other : Option A) (found : A) → one ≡ Some found → or_else one other ≡ Some found
some_else one other found e = ap (λ o. or_else o other) e

pub is_if : {A : Type 0} (test : Bool) (found : A) → test ≡ true → some_if test found ≡ Some found
is_if true found e = refl
is_if false found e = absurd (false≢true e)

pub none_if : {A : Type 0} (test : Bool) (found : A) → test ≡ false → some_if test found ≡ None
none_if test found e = ap (λ t. some_if t found) e

pub if_none : {A : Type 0} (test : Bool) (found : A) → some_if test found ≡ None → test ≡ false
if_none {A} true found e = absurd (let f : ◌≡◌ {A = Option A} (Some found) None = e in cc)
if_none false found e = refl

pub if_some : {A : Type 0} (test : Bool) (found other : A) → some_if test found ≡ Some other → (test ≡ true) × (found ≡ other)
if_some {A} true found other e = (refl, let f : ◌≡◌ {A = Option A} (Some found) (Some other) = e in cc)
if_some {A} false found other e = absurd (let f : ◌≡◌ {A = Option A} None (Some other) = e in cc)

-- ---- the first that is found

pub first_none : {A : Type 0} (count : ℕ) (find : ℕ → Option A) → first_below count find ≡ None → (number : ℕ) → number < count → find number ≡ None
first_none zero find e number less = absurd (omega (arith, less))
first_none (suc count) find e number less =
    let both : (first_below count find ≡ None) × (find count ≡ None) = else_none (first_below count find) (find count) e in
    elim (cases_lt number count) [
      | inl lower ↦ first_none count find both.0 number lower
      | inr last ↦
          let here : count ≡ number = omega (arith, last, less) in
          subst (λ n. find n ≡ None) here both.1
    ]

pub none_first : {A : Type 0} (count : ℕ) (find : ℕ → Option A) → ((number : ℕ) → number < count → find number ≡ None) → first_below count find ≡ None
none_first zero find none = refl
none_first (suc count) find none =
    none_else (first_below count find) (find count) (none_first count find (λ number less. none number (omega (arith, less)))) ∙ none count (omega arith)

pub none_more : {A : Type 0} (count : ℕ) (find : ℕ → Option A) → first_below count find ≡ None → find count ≡ None → first_below (count + 1) find ≡ None
none_more count find before here =
    let next : suc count ≡ count + 1 = omega arith in
    subst (λ n. first_below n find ≡ None) next (none_else (first_below count find) (find count) before ∙ here)

pub found_first : {A : Type 0} (count : ℕ) (find : ℕ → Option A) (number : ℕ) (found : A) → number < count → first_below number find ≡ None → find number ≡ Some found
    → first_below count find ≡ Some found
found_first zero find number found less before here = absurd (omega (arith, less))
found_first (suc count) find number found less before here = elim (cases_lt number count) [
  | inl lower ↦ some_else (first_below count find) (find count) found (found_first count find number found lower before here)
  | inr last ↦
      let same : number ≡ count = omega (arith, last, less) in
      none_else (first_below count find) (find count) (subst (λ n. first_below n find ≡ None) same before) ∙ subst (λ n. find n ≡ Some found) same here
]

pub record Found {A : Type 0} (count : ℕ) (find : ℕ → Option A) (found : A) : Type 0 where
  pub number : ℕ
  pub inside : number < count
  pub here : find number ≡ Some found
  pub before : first_below number find ≡ None

pub first_some : {A : Type 0} (count : ℕ) (find : ℕ → Option A) (found : A) → first_below count find ≡ Some found → Found count find found
first_some {A} zero find found e = absurd (let f : ◌≡◌ {A = Option A} None (Some found) = e in cc)
first_some {A} (suc count) find found e = go (first_some count find found) (first_below count find) refl e where
  go : (first_below count find ≡ Some found → Found count find found) → (first : Option A) → first_below count find ≡ first → or_else first (find count) ≡ Some found → Found (suc count) find found
  go lower None is f = record { number = count; inside = omega arith; here = f; before = is }
  go lower (Some other) is f =
      let below : Found count find found = lower (is ∙ f) in
      record { number = below.number; inside = omega (arith, below.inside); here = below.here; before = below.before }

pub first_same : {A : Type 0} (count : ℕ) (one other : ℕ → Option A) → ((number : ℕ) → number < count → one number ≡ other number) → first_below count one ≡ first_below count other
first_same zero one other same = refl
first_same (suc count) one other same =
    ap (λ o. or_else o (one count)) (first_same count one other (λ number less. same number (omega (arith, less))))
    ∙ ap (λ o. or_else (first_below count other) o) (same count (omega arith))

-- ---- some number that passes

pub any_none : (count : ℕ) (test : ℕ → Bool) → any_below count test ≡ false → (number : ℕ) → number < count → test number ≡ false
any_none zero test e number less = absurd (omega (arith, less))
any_none (suc count) test e number less =
    let both : (any_below count test ≡ false) × (test count ≡ false) = or_parts (any_below count test) (test count) e in
    elim (cases_lt number count) [
      | inl lower ↦ any_none count test both.0 number lower
      | inr last ↦
          let here : count ≡ number = omega (arith, last, less) in
          subst (λ n. test n ≡ false) here both.1
    ]

pub none_any : (count : ℕ) (test : ℕ → Bool) → ((number : ℕ) → number < count → test number ≡ false) → any_below count test ≡ false
none_any zero test none = refl
none_any (suc count) test none =
    or_from (any_below count test) (test count) (none_any count test (λ number less. none number (omega (arith, less)))) (none count (omega arith))

pub any_more : (count : ℕ) (test : ℕ → Bool) → any_below count test ≡ false → test count ≡ false → any_below (count + 1) test ≡ false
any_more count test before here =
    let next : suc count ≡ count + 1 = omega arith in
    subst (λ n. any_below n test ≡ false) next (or_from (any_below count test) (test count) before here)

pub found_any : (count : ℕ) (test : ℕ → Bool) (number : ℕ) → number < count → test number ≡ true → any_below count test ≡ true
found_any zero test number less here = absurd (omega (arith, less))
found_any (suc count) test number less here = elim (cases_lt number count) [
  | inl lower ↦ or_left (any_below count test) (test count) (found_any count test number lower here)
  | inr last ↦
      let same : number ≡ count = omega (arith, last, less) in
      or_right (any_below count test) (test count) (subst (λ n. test n ≡ true) same here)
]

pub any_found : (count : ℕ) (test : ℕ → Bool) → any_below count test ≡ true → (number : ℕ) × (number < count) × (test number ≡ true)
any_found zero test e = absurd (false≢true e)
any_found (suc count) test e = elim (or_cases (any_below count test) (test count) e) [
  | inl before ↦ let lower : (number : ℕ) × (number < count) × (test number ≡ true) = any_found count test before in (lower.0, omega (arith, lower.1), lower.2)
  | inr here ↦ (count, omega arith, here)
]

-- ---- the greatest, and sums

pub greatest_covers : (count : ℕ) (value : ℕ → ℕ) (number : ℕ) → number < count → value number ≤ greatest_below count value
greatest_covers zero value number less = absurd (omega (arith, less))
greatest_covers (suc count) value number less = elim (cases_lt number count) [
  | inl lower ↦ let before : value number ≤ greatest_below count value = greatest_covers count value number lower in omega (arith, before)
  | inr last ↦
      let same : count ≡ number = omega (arith, last, less) in
      subst (λ n. value n ≤ max (greatest_below count value) (value count)) same (omega arith)
]

pub greatest_bound : (count : ℕ) (value : ℕ → ℕ) (bound : ℕ) → ((number : ℕ) → number < count → value number ≤ bound) → greatest_below count value ≤ bound
greatest_bound zero value bound each = omega arith
greatest_bound (suc count) value bound each =
    let before : greatest_below count value ≤ bound = greatest_bound count value bound (λ number less. each number (omega (arith, less))) in
    let here : value count ≤ bound = each count (omega arith) in
    omega (arith, before, here)

pub greatest_same : (count : ℕ) (one other : ℕ → ℕ) → ((number : ℕ) → number < count → one number ≡ other number) → greatest_below count one ≡ greatest_below count other
greatest_same zero one other same = refl
greatest_same (suc count) one other same =
    let before : greatest_below count one ≡ greatest_below count other = greatest_same count one other (λ number less. same number (omega (arith, less))) in
    let here : one count ≡ other count = same count (omega arith) in
    omega (arith, before, here)

pub sum_bound : (count : ℕ) (value : ℕ → ℕ) (bound : ℕ) → ((number : ℕ) → number < count → value number ≤ bound) → sum_below count value ≤ count * bound
sum_bound zero value bound each = omega arith
sum_bound (suc count) value bound each =
    let before : sum_below count value ≤ count * bound = sum_bound count value bound (λ number less. each number (omega (arith, less))) in
    let here : value count ≤ bound = each count (omega arith) in
    let more : suc count * bound ≡ count * bound + bound = omega arith in
    omega (arith, before, here, more)

pub sum_lowered : (count : ℕ) (one drop other : ℕ → ℕ) → ((number : ℕ) → number < count → one number ≤ drop number + other number)
    → sum_below count one ≤ sum_below count drop + sum_below count other
sum_lowered zero one drop other each = omega arith
sum_lowered (suc count) one drop other each =
    let before : sum_below count one ≤ sum_below count drop + sum_below count other = sum_lowered count one drop other (λ number less. each number (omega (arith, less))) in
    let here : one count ≤ drop count + other count = each count (omega arith) in
    omega (arith, before, here)

pub sum_none : (count : ℕ) (value : ℕ → ℕ) → ((number : ℕ) → number < count → value number ≡ 0) → sum_below count value ≡ 0
sum_none zero value each = refl
sum_none (suc count) value each =
    let before : sum_below count value ≡ 0 = sum_none count value (λ number less. each number (omega (arith, less))) in
    let here : value count ≡ 0 = each count (omega arith) in
    omega (arith, before, here)

pub sum_more : (count : ℕ) (value : ℕ → ℕ) → sum_below (count + 1) value ≡ sum_below count value + value count
sum_more count value =
    let next : suc count ≡ count + 1 = omega arith in
    subst (λ n. sum_below n value ≡ sum_below count value + value count) next refl
