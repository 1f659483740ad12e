-- What lies behind a reading that went well, step by step.
use Rattle.std.proofs.Common.{◌≡◌, ℕ, Bool, true, false, cond, Option, Some, None, Result, Ok, Err, List, [], ◌∷◌, length, eqb, refl, ap, ◌∙◌, arith}
use Rattle.std.specs.Str.{bytes_eq}
use Rattle.std.proofs.lemmas.Bool.{eqb-true, and_parts, and_from}
use Rattle.std.proofs.lemmas.Slice.Eq.{bytes_eq-Decides}
use Rattle.pb_grid.specs.declared.error.GridError.{GridError}
use Rattle.pb_lines.specs.ShortNumbers.{short_number_of, IsShortNumber}
use Rattle.pb_lines.proofs.Callers.{if_some, spells_short_number, reads_short_number}
use Rattle.pb_grid.specs.Lines.{words_of, is_blank_line}
use Rattle.pb_grid.specs.Reading.{◌>>=◌, wanted, must, are_words, number_named}

-- ---- results

pub ok_is : {A : Type 0} → (x y : A) → ◌≡◌ {A = Result A GridError} (Ok x) (Ok y) → x ≡ y
ok_is x y e = cc

pub bind_ok : {A B : Type 0} → (r : Result A GridError) (f : A → Result B GridError) (y : B) → (r >>= f) ≡ Ok y → (x : A) × (r ≡ Ok x) × (f x ≡ Ok y)
bind_ok (Ok x) f y e = (x, refl, e)
bind_ok (Err error) f y e = cc

pub must_ok : (error : GridError) (holds found : Bool) → must error holds ≡ Ok found → holds ≡ true
must_ok error true found e = refl
must_ok error false found e = cc

pub must_true : (error : GridError) (holds : Bool) → holds ≡ true → must error holds ≡ Ok true
must_true error holds e = ap (must error) e

pub wanted_ok : {A : Type 0} → (error : GridError) (o : Option A) (x : A) → wanted error o ≡ Ok x → o ≡ Some x
wanted_ok error None x e = cc
wanted_ok error (Some y) x e = let same : y ≡ x = cc in ap Some same

-- ---- tests

pub nil_of : {A : Type 0} → (xs : List A) → eqb (length xs) 0 ≡ true → xs ≡ []
nil_of [] e = refl
nil_of (x ∷ xs) e = let zero_is : length (x ∷ xs) ≡ 0 = eqb-true (length (x ∷ xs)) 0 e in absurd (omega (arith, zero_is))

pub blank_is : (line : List ℕ) → is_blank_line line ≡ true → words_of line ≡ []
blank_is line e = nil_of (words_of line) e

pub is_blank_is : (line : List ℕ) → words_of line ≡ [] → is_blank_line line ≡ true
is_blank_is line e = ap (λ (ws : List (List ℕ)). eqb (length ws) 0) e

-- ---- words

pub words_are : (words wanted : List (List ℕ)) → are_words words wanted ≡ true → words ≡ wanted
words_are [] [] e = refl
words_are [] (want ∷ wanted) e = cc
words_are (word ∷ words) [] e = cc
words_are (word ∷ words) (want ∷ wanted) e =
    let parts = and_parts (bytes_eq word want) (are_words words wanted) e in
    let here : word ≡ want = (bytes_eq-Decides word want).0 parts.0 in
    let there : words ≡ wanted = words_are words wanted parts.1 in
    λ i. here i ∷ there i

pub are_words_is : (words : List (List ℕ)) → are_words words words ≡ true
are_words_is [] = refl
are_words_is (word ∷ words) = and_from (bytes_eq word word) (are_words words words) ((bytes_eq-Decides word word).1 refl) (are_words_is words)

-- ---- numbers

pub record Named (name : List ℕ) (words : List (List ℕ)) (number : ℕ) : Type 0 where
  pub word : List ℕ
  pub words_are : words ≡ name ∷ word ∷ []
  pub number_is : IsShortNumber word number

pub named_is : (name : List ℕ) (words : List (List ℕ)) (number : ℕ) → number_named name words ≡ Some number → Named name words number
named_is name [] number e = cc
named_is name (word ∷ []) number e = cc
named_is name (word ∷ digits ∷ []) number e =
    let found = if_some (bytes_eq word name) (short_number_of digits) number e in
    let same : word ≡ name = (bytes_eq-Decides word name).0 found.0 in
    record { word = digits; words_are = λ i. same i ∷ digits ∷ []; number_is = spells_short_number digits number found.1 }
named_is name (word ∷ digits ∷ more ∷ words) number e = cc

pub number_named_is : (name word : List ℕ) (number : ℕ) → IsShortNumber word number → number_named name (name ∷ word ∷ []) ≡ Some number
number_named_is name word number is = ap (λ b. cond b (short_number_of word) None) ((bytes_eq-Decides name name).1 refl) ∙ reads_short_number word number is
