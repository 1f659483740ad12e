-- What is found among the numbers below a count.
use Rattle.std.specs.Prelude.{ℕ, zero, suc, ◌+◌, max, Bool, false, ◌||◌, Option, None, Some, if◌then◌else◌}

abbrev pub or_else : {A : Type 0} → Option A → Option A → Option A
or_else None other = other
or_else (Some found) other = Some found

abbrev pub some_if : {A : Type 0} → Bool → A → Option A
some_if test found = if test then Some found else None

-- what is found for the least number for which something is found
abbrev pub first_below : {A : Type 0} → (count : ℕ) → (find : ℕ → Option A) → Option A
first_below zero find = None
first_below (suc number) find = or_else (first_below number find) (find number)

-- some number passes the test
abbrev pub any_below : (count : ℕ) → (test : ℕ → Bool) → Bool
any_below zero test = false
any_below (suc number) test = any_below number test || test number

-- the greatest value, and 0 if there is none
abbrev pub greatest_below : (count : ℕ) → (value : ℕ → ℕ) → ℕ
greatest_below zero value = 0
greatest_below (suc number) value = max (greatest_below number value) (value number)

abbrev pub sum_below : (count : ℕ) → (value : ℕ → ℕ) → ℕ
sum_below zero value = 0
sum_below (suc number) value = sum_below number value + value number
