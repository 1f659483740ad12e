-- A text's first line, its other lines, and what stands after them.
use Rattle.std.proofs.Common.{◌≡◌, ℕ, suc, ◌+◌, ◌<◌, ◌≤◌, Bool, true, false, cond, ◌||◌, ◌==◌, nat_lt, Option, None, Some, List, [], ◌∷◌, length, take, drop, refl, sym, ap, ◌∙◌, arith}
use Rattle.std.specs.List.{list_any}
use Rattle.std.proofs.lemmas.Bool.{ltb-true}
use Rattle.pb_model.proofs.Callers.{not_below}
use Rattle.pb_lines.specs.Words.{place_of, part}
use Rattle.pb_journal.specs.Reading.{with_first, lines_in, tail_in}

abbrev pub has_end : List ℕ → Bool
has_end text = list_any (λ c. c == 10) text

some_end : (text : List ℕ) → place_of 10 text < length text → has_end text ≡ true
unfolding place_of
some_end [] lt = absurd (omega (arith, lt))
some_end (b ∷ bs) lt = go (b == 10) (some_end bs) lt
  where
    go : (t : Bool) → (place_of 10 bs < length bs → has_end bs ≡ true)
        → cond t 0 (suc (place_of 10 bs)) < suc (length bs) → (t || has_end bs) ≡ true
    go true rest lt = refl
    go false rest lt = rest (omega (arith, lt))

no_end : (text : List ℕ) → length text ≤ place_of 10 text → has_end text ≡ false
unfolding place_of
no_end [] le = refl
no_end (b ∷ bs) le = go (b == 10) (no_end bs) le
  where
    go : (t : Bool) → (length bs ≤ place_of 10 bs → has_end bs ≡ false)
        → suc (length bs) ≤ cond t 0 (suc (place_of 10 bs)) → (t || has_end bs) ≡ false
    go true rest le = absurd (omega (arith, le))
    go false rest le = rest (omega (arith, le))

first_lines : (text : List ℕ) → place_of 10 text < length text
    → (lines_in text ≡ take (place_of 10 text) text ∷ lines_in (drop (place_of 10 text + 1) text))
    × (tail_in text ≡ tail_in (drop (place_of 10 text + 1) text))
unfolding place_of lines_in tail_in
first_lines [] lt = absurd (omega (arith, lt))
first_lines (b ∷ bs) lt = go (first_lines bs) (b == 10) refl lt
  where
    go : (place_of 10 bs < length bs
        → (lines_in bs ≡ take (place_of 10 bs) bs ∷ lines_in (drop (place_of 10 bs + 1) bs))
        × (tail_in bs ≡ tail_in (drop (place_of 10 bs + 1) bs)))
        → (t : Bool) → (b == 10) ≡ t → cond t 0 (suc (place_of 10 bs)) < suc (length bs)
        → (cond t ([] ∷ lines_in bs) (with_first b (lines_in bs))
        ≡ take (cond t 0 (suc (place_of 10 bs))) (b ∷ bs) ∷ lines_in
        (drop (cond t 0 (suc (place_of 10 bs)) + 1) (b ∷ bs)))
        × (cond (t || has_end bs) (tail_in bs) (b ∷ bs)
        ≡ tail_in (drop (cond t 0 (suc (place_of 10 bs)) + 1) (b ∷ bs)))
    go others true e lt = (refl, refl)
    go others false e lt =
        let less : place_of 10 bs < length bs = omega (arith, lt) in
        let rest = others less in
        let more : suc (place_of 10 bs) + 1 ≡ suc (place_of 10 bs + 1) = omega arith in
        let dropped : drop (suc (place_of 10 bs) + 1) (b ∷ bs) ≡ drop (place_of 10 bs + 1) bs =
        ap (λ n. drop n (b ∷ bs)) more in (
          ap (with_first b) rest.0
              ∙ ap (λ (xs : List ℕ). (b ∷ take (place_of 10 bs) bs) ∷ lines_in xs) (sym dropped),
          ap (λ r. cond r (tail_in bs) (b ∷ bs)) (some_end bs less) ∙ rest.1
              ∙ ap tail_in (sym dropped),
        )

last_lines : (text : List ℕ) → length text ≤ place_of 10 text → (lines_in text ≡ [])
    × (tail_in text ≡ text)
unfolding place_of lines_in tail_in
last_lines [] le = (refl, refl)
last_lines (b ∷ bs) le = go (last_lines bs) (b == 10) le
  where
    go : (length bs ≤ place_of 10 bs → (lines_in bs ≡ []) × (tail_in bs ≡ bs)) → (t : Bool)
        → suc (length bs) ≤ cond t 0 (suc (place_of 10 bs))
        → (cond t ([] ∷ lines_in bs) (with_first b (lines_in bs)) ≡ [])
        × (cond (t || has_end bs) (tail_in bs) (b ∷ bs) ≡ b ∷ bs)
    go others true le = absurd (omega (arith, le))
    go others false le =
        let over : length bs ≤ place_of 10 bs = omega (arith, le) in
        (ap (with_first b) (others over).0, ap (λ r. cond r (tail_in bs) (b ∷ bs)) (no_end bs over))

-- a text with a first line
pub has_line : (text front rest : List ℕ) → part 10 text ≡ Some (front, rest)
    → (lines_in text ≡ front ∷ lines_in rest) × (tail_in text ≡ tail_in rest)
has_line text front rest e = go (nat_lt (place_of 10 text) (length text)) refl e
  where
    pair : (x y : List ℕ × List ℕ) → ◌≡◌ {A = Option (List ℕ × List ℕ)} (Some x) (Some y) → x ≡ y
    pair x y e = cc

    go : (t : Bool) → nat_lt (place_of 10 text) (length text) ≡ t
        → cond {A = Option (List ℕ × List ℕ)} t
        (Some (take (place_of 10 text) text, drop (place_of 10 text + 1) text)) None
        ≡ Some (front, rest)
        → (lines_in text ≡ front ∷ lines_in rest) × (tail_in text ≡ tail_in rest)
    go true is e =
        let parts = first_lines text (ltb-true _ _ is) in
        let same =
        pair (take (place_of 10 text) text, drop (place_of 10 text + 1) text)
        (front, rest) e in (
          parts.0 ∙ ap (λ (x : List ℕ × List ℕ). x.0 ∷ lines_in x.1) same,
          parts.1 ∙ ap (λ (x : List ℕ × List ℕ). tail_in x.1) same,
        )
    go false is e = absurd cc

-- a text without a whole line
pub has_no_line : (text : List ℕ) → part 10 text ≡ None → (lines_in text ≡ [])
    × (tail_in text ≡ text)
has_no_line text e = go (nat_lt (place_of 10 text) (length text)) refl e
  where
    go : (t : Bool) → nat_lt (place_of 10 text) (length text) ≡ t
        → cond {A = Option (List ℕ × List ℕ)} t
        (Some (take (place_of 10 text) text, drop (place_of 10 text + 1) text)) None ≡ None
        → (lines_in text ≡ []) × (tail_in text ≡ text)
    go true is e = absurd cc
    go false is e = last_lines text (not_below (place_of 10 text) (length text) is)
