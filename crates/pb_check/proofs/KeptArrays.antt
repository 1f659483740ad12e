-- The arrays of rows that are kept.
use Rattle.std.proofs.Common.{◌≡◌, ℕ, suc, ◌-◌, ◌≤◌, ◌<◌, Bool, true, false, nat_lt, List, [], ◌∷◌, ◌++◌, length, get_or, refl, sym, ap, subst, ◌∙◌, arith, append_assoc, length-append}
use Rattle.std.proofs.lemmas.List.{get_or_append_left, get_or_push}
use Rattle.std.proofs.lemmas.Bool.Decides.{nat_tests}
use Rattle.pb_model.specs.Certificate.{Line}
use Rattle.pb_check.specs.Rows.{rows_of}
use Rattle.pb_check.specs.Kept.{Falls, AreKeptBy}
use Rattle.pb_check.proofs.Arrays.{rises_at-rows_of, rows_of-push}
use Rattle.pb_check.proofs.Keeping.{keeps_more}

pub both_long : {A B : Type 0} (xs : List A) (ys : List A) (zs ws : List B) → length xs ≡ length zs → length ys ≡ length ws → length (xs ++ ys) ≡ length (zs ++ ws)
both_long xs ys zs ws e f = omega (arith, length-append xs ys, length-append zs ws, e, f)

pub rows_of-both : (ss gs : List ℕ) (cs : List Bool) (ts hs : List ℕ) (ds : List Bool) → length gs ≡ length ss → length cs ≡ length ss → rows_of (ss ++ ts) (gs ++ hs) (cs ++ ds) ≡ rows_of ss gs cs ++ rows_of ts hs ds
rows_of-both [] [] [] ts hs ds e f = refl
rows_of-both [] (g ∷ gs) cs ts hs ds e f = absurd (omega (arith, e))
rows_of-both [] [] (c ∷ cs) ts hs ds e f = absurd (omega (arith, f))
rows_of-both (s ∷ ss) [] cs ts hs ds e f = absurd (omega (arith, e))
rows_of-both (s ∷ ss) (g ∷ gs) [] ts hs ds e f = absurd (omega (arith, f))
rows_of-both (s ∷ ss) (g ∷ gs) (c ∷ cs) ts hs ds e f =
    ap (λ (rows : List Line). record { state = s; g = g; is_closed = c } ∷ rows) (rows_of-both ss gs cs ts hs ds (omega (arith, e)) (omega (arith, f)))

-- where the last state isn't above the one before it, the rows fall
pub last_falls : (ss gs : List ℕ) (cs : List Bool) → length gs ≡ length ss → length cs ≡ length ss → 2 ≤ length ss → get_or ss (length ss - 1) 0 ≤ get_or ss (length ss - 2) 0 → Falls (rows_of ss gs cs)
last_falls ss gs cs e f two le =
    let i : ℕ = length ss - 2 in
    let next : length ss - 1 ≡ suc i = omega (arith, two) in
    let within : suc i < length ss = omega (arith, two) in
    let below : get_or ss (suc i) 0 ≤ get_or ss i 0 = subst (λ (k : ℕ). get_or ss k 0 ≤ get_or ss i 0) next le in
    let no : nat_lt (get_or ss i 0) (get_or ss (suc i) 0) ≡ false = grind (arith, nat_tests, below) in
    (i, rises_at-rows_of ss gs cs i e f within ∙ no)

pub keeps_still : (falls : Bool) (kept all more : List Line) → falls ≡ true → AreKeptBy falls kept all → AreKeptBy falls kept (all ++ more)
keeps_still true kept all more e h = keeps_more kept all more h
keeps_still false kept all more e h = absurd cc

-- ---- others behind them, the first of which isn't above the last

pub pushed_falls : (ss gs : List ℕ) (cs : List Bool) (row : Line) → length gs ≡ length ss → length cs ≡ length ss → 1 ≤ length ss → row.state ≤ get_or ss (length ss - 1) 0 → Falls (rows_of ss gs cs ++ row ∷ [])
pushed_falls ss gs cs row e f some le =
    let states = ss ++ row.state ∷ [] in
    let long : length states ≡ suc (length ss) = length-append ss (row.state ∷ []) ∙ omega arith in
    let last : get_or states (length states - 1) 0 ≡ row.state = get_or_push ss row.state 0 (length states - 1) (omega (arith, long)) in
    let two : length states - 2 ≡ length ss - 1 = omega (arith, long, some) in
    let before : get_or states (length states - 2) 0 ≡ get_or ss (length ss - 1) 0 =
    ap (λ k. get_or states k 0) two ∙ get_or_append_left ss (row.state ∷ []) 0 (length ss - 1) (omega (arith, some)) in
    let falls : get_or states (length states - 1) 0 ≤ get_or states (length states - 2) 0 = omega (arith, last, before, le) in
    subst (λ (rows : List Line). Falls rows) (rows_of-push ss gs cs row e f)
    (last_falls states (gs ++ row.g ∷ []) (cs ++ row.is_closed ∷ []) (both_long gs (row.g ∷ []) ss (row.state ∷ []) e refl) (both_long cs (row.is_closed ∷ []) ss (row.state ∷ []) f refl) (omega (arith, long, some)) falls)

first_row : (ss gs : List ℕ) (cs : List Bool) (row : Line) → length gs ≡ length ss → length cs ≡ length ss → 1 ≤ length ss → row.state ≡ get_or ss 0 0 → row.g ≡ get_or gs 0 row.g → row.is_closed ≡ get_or cs 0 row.is_closed
    → (others : List Line) × (rows_of ss gs cs ≡ row ∷ others)
first_row [] gs cs row e f some state g closed = absurd (omega (arith, some))
first_row (s ∷ ss) [] cs row e f some state g closed = absurd (omega (arith, e))
first_row (s ∷ ss) (h ∷ gs) [] row e f some state g closed = absurd (omega (arith, f))
first_row (s ∷ ss) (h ∷ gs) (c ∷ cs) row e f some state g closed = (rows_of ss gs cs, rw (← state, ← g, ← closed) refl)

begins_so : (falls : Bool) (row : Line) (kept others more : List Line) → kept ≡ row ∷ others → AreKeptBy falls kept more → (rest : List Line) × (more ≡ row ∷ rest)
begins_so false row kept others more is h = (others, sym h ∙ is)
begins_so true row kept others more is h = (others ++ h.1.0, h.1.1 ∙ ap (λ (rows : List Line). rows ++ h.1.0) is)

pub keeps_first : (falls : Bool) (ss gs : List ℕ) (cs : List Bool) (kept all more : List Line) (row : Line) → length gs ≡ length ss → length cs ≡ length ss → 1 ≤ length ss
    → row.state ≡ get_or ss 0 0 → row.g ≡ get_or gs 0 row.g → row.is_closed ≡ get_or cs 0 row.is_closed
    → kept ≡ all → Falls (kept ++ row ∷ []) → AreKeptBy falls (rows_of ss gs cs) more → AreKeptBy true (kept ++ row ∷ []) (all ++ more)
keeps_first falls ss gs cs kept all more row e f some state g closed same down h =
    let first = first_row ss gs cs row e f some state g closed in
    let rest = begins_so falls row (rows_of ss gs cs) first.0 more first.1 h in
    let is : all ++ more ≡ (kept ++ row ∷ []) ++ rest.0 =
    ap (λ (rows : List Line). rows ++ more) (sym same) ∙ ap (λ (rows : List Line). kept ++ rows) rest.1 ∙ sym (append_assoc kept (row ∷ []) rest.0) in
    (down, (rest.0, is))
