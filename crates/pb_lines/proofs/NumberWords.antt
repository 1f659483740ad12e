-- Words of decimal digits.
use Rattle.std.specs.Prelude.{◌≡◌, ℕ, ◌+◌, ◌-◌, ◌*◌, ◌^◌, ◌<◌, ◌≤◌, true, false, List, [], ◌∷◌, length}
use Rattle.std.specs.List.{list_all}
use Rattle.pb_lines.specs.Words.{is_digit, is_padded}

-- the value of decimal digits behind a number
abbrev pub value_after : ℕ → List ℕ → ℕ
value_after n [] = n
value_after n (b ∷ bs) = value_after (n * 10 + (b - 48)) bs

-- one digit or more, without a leading zero but 0 itself, below 2^63
pub record IsNumberWord (word : List ℕ) (n : ℕ) : Type 0 where
  pub some : 1 ≤ length word
  pub digits : list_all is_digit word ≡ true
  pub unpadded : is_padded word ≡ false
  pub value : n ≡ value_after 0 word
  pub small : n < 2 ^ 63
