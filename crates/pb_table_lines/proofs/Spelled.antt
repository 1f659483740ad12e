-- How lines spell tables, word by word.
use Rattle.std.specs.Prelude.{◌≡◌, ℕ, ◌+◌, ◌*◌, true, List, [], ◌∷◌, length, nat_lt}
use Rattle.std.specs.List.{list_all}
use Rattle.pb_table_lines.specs.Words.{hex_value}

-- the value of hexadecimal digits behind a number
abbrev pub hex_value_after : ℕ → List ℕ → ℕ
hex_value_after n [] = n
hex_value_after n (b ∷ bs) = hex_value_after (n * 16 + hex_value b) bs

-- exactly so many hexadecimal digits
pub record IsStateWord (digits : ℕ) (word : List ℕ) (state : ℕ) : Type 0 where
  pub count : length word ≡ digits
  pub all : list_all (λ b. nat_lt (hex_value b) 16) word ≡ true
  pub value : state ≡ hex_value_after 0 word
