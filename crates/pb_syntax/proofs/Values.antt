-- A short number is a number of a cost, and has the same value.
use Rattle.std.proofs.Common.{◌≡◌, ℕ, ◌+◌, ◌-◌, ◌*◌, Bool, true, false, cond, List, [], ◌∷◌, Option, Some, None, refl, sym, ap, ◌∙◌}
use Rattle.std.proofs.lemmas.Bool.{true≢false}
use Rattle.std.specs.Prelude.{is_some}
use Rattle.pb_pddl.specs.Numbers.{is_number, value_behind, number_of}
use Rattle.pb_lines.specs.ShortNumbers as short

same_value : (number : ℕ) (digits : List ℕ) → short.value_behind number digits ≡ value_behind number digits
same_value number [] = refl
same_value number (digit ∷ digits) = same_value (number * 10 + (digit - 48)) digits

if_number : (word : List ℕ) → short.short_number_of word ≡ cond (is_number word) (Some (number_of word)) None
unfolding short.short_number_of is_number
if_number word = ap (λ n. cond (short.is_short_number word) (Some n) None) (same_value 0 word)

either_some : (b : Bool) (n : ℕ) → is_some (cond b (Some n) None) ≡ b
either_some true n = refl
either_some false n = refl

pub some_is_number : (word : List ℕ) → is_some (short.short_number_of word) ≡ is_number word
some_is_number word = ap (λ (o : Option ℕ). is_some o) (if_number word) ∙ either_some (is_number word) (number_of word)

of_some : (b : Bool) (m n : ℕ) → cond b (Some m) None ≡ Some n → n ≡ m
of_some true m n e = cc
of_some false m n e = absurd cc

pub value_is : (word : List ℕ) (n : ℕ) → short.short_number_of word ≡ Some n → n ≡ number_of word
value_is word n e = of_some (is_number word) (number_of word) n (sym (if_number word) ∙ e)

of_none : (b : Bool) (m : ℕ) → cond b (Some m) None ≡ None → b ≡ false
of_none true m e = absurd cc
of_none false m e = refl

pub none_is_no_number : (word : List ℕ) → short.short_number_of word ≡ None → is_number word ≡ true → ⊥
none_is_no_number word e is = true≢false (sym is ∙ of_none (is_number word) (number_of word) (sym (if_number word) ∙ e))
