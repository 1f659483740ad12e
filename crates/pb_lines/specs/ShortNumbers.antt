-- Numbers of one to nine decimal digits, as maps, scenarios and boards have them. Such a number may
-- begin with zeros.
use Rattle.std.specs.Prelude.{◌≡◌, ℕ, ◌+◌, ◌-◌, ◌*◌, ◌≤◌, Bool, true, ◌&&◌, nat_le, List, [], ◌∷◌, length, Option, None, Some, if◌then◌else◌}
use Rattle.std.specs.Char.{is_ascii_digit}
use Rattle.std.specs.List.{list_all}

-- the value of a number followed by decimal digits
abbrev pub value_behind : (number : ℕ) → (digits : List ℕ) → ℕ
value_behind number [] = number
value_behind number (digit ∷ digits) = value_behind (number * 10 + (digit - 48)) digits

-- one to nine decimal digits
abbrev pub is_short_number : (word : List ℕ) → Bool
is_short_number word =
    nat_le 1 (length word) && (nat_le (length word) 9 && list_all is_ascii_digit word)

-- the number that a word spells, if it spells one
unfoldable pub short_number_of : (word : List ℕ) → Option ℕ
short_number_of word = if is_short_number word then Some (value_behind 0 word) else None

-- one to nine decimal digits, and the number that they spell
pub record IsShortNumber (word : List ℕ) (number : ℕ) : Type 0 where
  pub some : 1 ≤ length word
  pub most : length word ≤ 9
  pub digits : list_all is_ascii_digit word ≡ true
  pub value : number ≡ value_behind 0 word
