-- Rows of numbers of which none stands twice.
use Rattle.std.proofs.Common.{◌≡◌, ℕ, zero, suc, Bool, true, false, cond, ◌||◌, List, [], ◌∷◌, ◌++◌, Some, slice_get, refl, sym, ap, ◌∙◌}
use Rattle.std.proofs.lemmas.Bool.{or_right, both_ways}
use Rattle.std.specs.List.{list_any, filter}
use Rattle.std.specs.Str.{bytes_eq}
use Rattle.std.proofs.lemmas.Slice.Eq.{bytes_eq-Decides}
use Rattle.std.proofs.lemmas.List.Folds.{list_any-append}

-- none of the rows stands twice
abbrev pub AreApart : List (List ℕ) → Type 0
AreApart [] = Unit {0}
AreApart (row ∷ rows) = (list_any (bytes_eq row) rows ≡ false) × AreApart rows

-- a row is among those where it stands
pub stands_among : (rows : List (List ℕ)) (i : ℕ) (row : List ℕ) → slice_get rows i ≡ Some row → list_any (bytes_eq row) rows ≡ true
stands_among [] i row e = cc
stands_among (first ∷ rows) zero row e =
    let same : first ≡ row = cc in
    ap (λ b. b || list_any (bytes_eq row) rows) ((bytes_eq-Decides row first).1 (sym same))
stands_among (first ∷ rows) (suc i) row e = or_right (bytes_eq row first) (list_any (bytes_eq row) rows) (stands_among rows i row e)

not_later : (first row : List ℕ) (rows : List (List ℕ)) (j : ℕ) → first ≡ row → list_any (bytes_eq first) rows ≡ false → slice_get rows j ≡ Some row → ⊥
not_later first row rows j same apart e = both_ways (list_any (bytes_eq row) rows) (ap (λ r. list_any (bytes_eq r) rows) (sym same) ∙ apart) (stands_among rows j row e)

-- so a row stands at one place
pub same_place : (rows : List (List ℕ)) (i j : ℕ) (row : List ℕ) → AreApart rows → slice_get rows i ≡ Some row → slice_get rows j ≡ Some row → i ≡ j
same_place [] i j row apart h k = cc
same_place (first ∷ rows) zero zero row apart h k = refl
same_place (first ∷ rows) zero (suc j) row apart h k =
    let same : first ≡ row = cc in
    absurd (not_later first row rows j same apart.0 k)
same_place (first ∷ rows) (suc i) zero row apart h k =
    let same : first ≡ row = cc in
    absurd (not_later first row rows i same apart.0 h)
same_place (first ∷ rows) (suc i) (suc j) row apart h k = ap suc (same_place rows i j row apart.1 h k)

-- Rows apart stay so behind others apart, of which none is among them.
pub joined : (rows others : List (List ℕ)) → AreApart rows → AreApart others
    → ((row : List ℕ) → list_any (bytes_eq row) rows ≡ true → list_any (bytes_eq row) others ≡ false) → AreApart (rows ++ others)
joined [] others h k none = k
joined (row ∷ rows) others h k none =
    (list_any-append (bytes_eq row) rows others ∙ (ap (λ b. b || list_any (bytes_eq row) others) h.0 ∙ none row here), joined rows others h.1 k later)
  where
    here : list_any (bytes_eq row) (row ∷ rows) ≡ true
    here = ap (λ b. b || list_any (bytes_eq row) rows) ((bytes_eq-Decides row row).1 refl)

    later : (other : List ℕ) → list_any (bytes_eq other) rows ≡ true → list_any (bytes_eq other) others ≡ false
    later other e = none other (or_right (bytes_eq other row) (list_any (bytes_eq other) rows) e)

-- What isn't among rows isn't among those of them that pass a test.
absent_kept : (test : List ℕ → Bool) (row : List ℕ) (rows : List (List ℕ)) → list_any (bytes_eq row) rows ≡ false → list_any (bytes_eq row) (filter test rows) ≡ false
absent_kept test row [] h = refl
absent_kept test row (first ∷ rows) h = at (test first) (bytes_eq row first) refl (absent_kept test row rows) h
  where
    at : (b c : Bool) → bytes_eq row first ≡ c → (list_any (bytes_eq row) rows ≡ false → list_any (bytes_eq row) (filter test rows) ≡ false)
        → (c || list_any (bytes_eq row) rows) ≡ false → list_any (bytes_eq row) (cond b (first ∷ filter test rows) (filter test rows)) ≡ false
    at b true same rest e = cc
    at true false same rest e = ap (λ x. x || list_any (bytes_eq row) (filter test rows)) same ∙ rest e
    at false false same rest e = rest e

pub kept_apart : (test : List ℕ → Bool) (rows : List (List ℕ)) → AreApart rows → AreApart (filter test rows)
kept_apart test [] h = tt
kept_apart test (row ∷ rows) h = at (test row) (kept_apart test rows h.1)
  where
    at : (b : Bool) → AreApart (filter test rows) → AreApart (cond b (row ∷ filter test rows) (filter test rows))
    at true rest = (absent_kept test row rows h.0, rest)
    at false rest = rest
