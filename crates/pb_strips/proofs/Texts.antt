-- From the text of a ground action its name and its objects can be read off, where they are words.
use Rattle.std.proofs.Common.{◌≡◌, ◌≢◌, ◌<◌, ℕ, suc, true, false, List, [], ◌∷◌, ◌++◌, All, refl, sym, ap, ◌∙◌, subst, append_assoc, arith}
use Rattle.std.proofs.lemmas.Bool.{both_ways}
use Rattle.std.proofs.lemmas.Bool.Decides.{nat_tests}
use Rattle.std.proofs.lemmas.List.Elements.{All-nil, All-cons, All-append}
use Rattle.std.proofs.lemmas.Str.{IsUtf8-from_ascii, utf8_lossy-IsUtf8}
use Rattle.std.proofs.lemmas.Str.Ascii.{IsAscii-from_all}
use Rattle.std.specs.Str.Lossy.{utf8_lossy}
use Rattle.pb_pddl.specs.Words.{is_word_byte, AreWordBytes}
use Rattle.pb_strips.specs.Names.{spaced}

-- ---- words

abbrev pub IsPlain : List ℕ → Type 0
IsPlain [] = Unit {0}
IsPlain (c ∷ cs) = (is_word_byte c ≡ true) × IsPlain cs

abbrev pub ArePlain : List (List ℕ) → Type 0
ArePlain [] = Unit {0}
ArePlain (word ∷ words) = IsPlain word × ArePlain words

pub plain : (text : List ℕ) → AreWordBytes text → IsPlain text
plain [] h = tt
plain (c ∷ cs) h = (h 0 c (omega arith), plain cs (λ k d less. h (suc k) d (omega arith)))

-- ---- where words end

-- a text that begins with what is in no word
abbrev pub Ends : List ℕ → Type 0
Ends [] = ⊥
Ends (c ∷ cs) = is_word_byte c ≡ false

split : (a b s t : List ℕ) → IsPlain a → IsPlain b → Ends s → Ends t → a ++ s ≡ b ++ t → (a ≡ b) × (s ≡ t)
split [] [] s t pa pb es et e = (refl, e)
split [] (y ∷ b) [] t pa pb es et e = absurd es
split [] (y ∷ b) (x ∷ s) t pa pb es et e =
    let same : x ≡ y = cc in
    absurd (both_ways (is_word_byte y) (ap is_word_byte (sym same) ∙ es) pb.0)
split (x ∷ a) [] s [] pa pb es et e = absurd et
split (x ∷ a) [] s (y ∷ t) pa pb es et e =
    let same : x ≡ y = cc in
    absurd (both_ways (is_word_byte x) (ap is_word_byte same ∙ et) pa.0)
split (x ∷ a) (y ∷ b) s t pa pb es et e =
    let first : x ≡ y = cc in
    let rest : a ++ s ≡ b ++ t = cc in
    let more = split a b s t pa.1 pb.1 es et rest in
    (λ i. first i ∷ more.0 i, more.1)

-- ---- a list of words with a space before each, and the parenthesis behind them

abbrev pub closed : List (List ℕ) → List ℕ
closed [] = 41 ∷ []
closed (word ∷ words) = 32 ∷ word ++ closed words

closed_is : (words : List (List ℕ)) → spaced words ++ 41 ∷ [] ≡ closed words
closed_is [] = refl
closed_is (word ∷ words) = ap (λ t. 32 ∷ t) (append_assoc word (spaced words) (41 ∷ []) ∙ ap (λ t. word ++ t) (closed_is words))

closed_ends : (words : List (List ℕ)) → Ends (closed words)
closed_ends [] = refl
closed_ends (word ∷ words) = refl

same_words : (xs ys : List (List ℕ)) → ArePlain xs → ArePlain ys → closed xs ≡ closed ys → xs ≡ ys
same_words [] [] h k e = refl
same_words [] (y ∷ ys) h k e = absurd (let bad : ◌≡◌ {A = ℕ} 41 32 = cc in omega (arith, bad))
same_words (x ∷ xs) [] h k e = absurd (let bad : ◌≡◌ {A = ℕ} 32 41 = cc in omega (arith, bad))
same_words (x ∷ xs) (y ∷ ys) h k e =
    let rest : x ++ closed xs ≡ y ++ closed ys = cc in
    let both = split x y (closed xs) (closed ys) h.0 k.0 (closed_ends xs) (closed_ends ys) rest in
    let more = same_words xs ys h.1 k.1 both.1 in
    λ i. both.0 i ∷ more i

pub same_parts : (a b : List ℕ) (xs ys : List (List ℕ)) → IsPlain a → IsPlain b → ArePlain xs → ArePlain ys
    → 40 ∷ a ++ spaced xs ++ 41 ∷ [] ≡ 40 ∷ b ++ spaced ys ++ 41 ∷ [] → (a ≡ b) × (xs ≡ ys)
same_parts a b xs ys pa pb px py e =
    let whole : (a ++ spaced xs) ++ 41 ∷ [] ≡ (b ++ spaced ys) ++ 41 ∷ [] = cc in
    let parts = sym (append_assoc a (spaced xs) (41 ∷ [])) ∙ (whole ∙ append_assoc b (spaced ys) (41 ∷ [])) in
    let both = split a b (spaced xs ++ 41 ∷ []) (spaced ys ++ 41 ∷ []) pa pb (subst Ends (sym (closed_is xs)) (closed_ends xs)) (subst Ends (sym (closed_is ys)) (closed_ends ys)) parts in
    (both.0, same_words xs ys px py (sym (closed_is xs) ∙ (both.1 ∙ closed_is ys)))

-- ---- ASCII without line feeds

word_small : (c : ℕ) → is_word_byte c ≡ true → c < 128
word_small c h = grind (arith, nat_tests)

no_feed : (c : ℕ) → is_word_byte c ≡ true → c ≢ 10
no_feed c h e = both_ways (is_word_byte c) (ap is_word_byte e) h

-- a byte of ASCII other than the line feed
abbrev pub IsOfLine : ℕ → Type 0
IsOfLine c = (c < 128) × (c ≢ 10)

word_of_line : (word : List ℕ) → IsPlain word → All IsOfLine word
word_of_line [] h = All-nil IsOfLine
word_of_line (c ∷ cs) h = All-cons IsOfLine c cs (word_small c h.0, no_feed c h.0) (word_of_line cs h.1)

sign_of_line : (c : ℕ) → 10 < c → c < 128 → IsOfLine c
sign_of_line c h k = (k, λ e. omega (arith, h, e))

spaced_of_line : (words : List (List ℕ)) → ArePlain words → All IsOfLine (spaced words)
spaced_of_line [] h = All-nil IsOfLine
spaced_of_line (word ∷ words) h =
    All-cons IsOfLine 32 (word ++ spaced words) (sign_of_line 32 (omega arith) (omega arith)) (All-append IsOfLine word (spaced words) (word_of_line word h.0) (spaced_of_line words h.1))

pub text_of_line : (a : List ℕ) (xs : List (List ℕ)) → IsPlain a → ArePlain xs → All IsOfLine (40 ∷ a ++ spaced xs ++ 41 ∷ [])
text_of_line a xs pa px =
    All-cons IsOfLine 40 ((a ++ spaced xs) ++ 41 ∷ []) (sign_of_line 40 (omega arith) (omega arith))
    (All-append IsOfLine (a ++ spaced xs) (41 ∷ []) (All-append IsOfLine a (spaced xs) (word_of_line a pa) (spaced_of_line xs px))
    (All-cons IsOfLine 41 [] (sign_of_line 41 (omega arith) (omega arith)) (All-nil IsOfLine)))

-- so the text has the bytes as they are
pub text_is : (bytes : List ℕ) → All IsOfLine bytes → utf8_lossy bytes ≡ bytes
text_is bytes h = utf8_lossy-IsUtf8 bytes (IsUtf8-from_ascii bytes (IsAscii-from_all bytes (λ k d less. (h k d less).0)))
