-- NUM: the numbers of costs.
use Rattle.std.specs.Prelude.{ℕ, ◌+◌, ◌-◌, ◌*◌, Bool, ◌&&◌, nat_le, List, [], ◌∷◌, length}
use Rattle.std.specs.Char.{is_ascii_digit}
use Rattle.std.specs.List.{list_all}

-- a word of 1 to 9 decimal digits
unfoldable pub is_number : List ℕ → Bool
is_number word = nat_le 1 (length word) && (nat_le (length word) 9 && list_all is_ascii_digit word)

-- the value of a number followed by decimal digits
abbrev pub value_behind : (number : ℕ) → (digits : List ℕ) → ℕ
value_behind number [] = number
value_behind number (digit ∷ digits) = value_behind (number * 10 + (digit - 48)) digits

-- the number that decimal digits spell
abbrev pub number_of : List ℕ → ℕ
number_of digits = value_behind 0 digits
