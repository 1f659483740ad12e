-- Rows as arrays of their states, costs and statuses.
use Rattle.std.proofs.Common.{◌≡◌, ℕ, zero, suc, ◌<◌, Bool, false, nat_lt, None, Some, List, [], ◌∷◌, ◌++◌, length, get_or, refl, sym, ap, ◌∙◌, arith}
use Rattle.std.specs.List.{slice_get}
use Rattle.std.proofs.lemmas.Option.{get_or_from_slice_get}
use Rattle.std.proofs.lemmas.Grind.{get_or_default_zero}
use Rattle.pb_model.specs.Certificate.{Line}
use Rattle.pb_check.specs.Judging.{g_of, AreAbove, Rise}
use Rattle.pb_check.specs.Numbers.{AreRising}
use Rattle.pb_check.specs.Rows.{rows_of, rises_at}
use Rattle.pb_check.proofs.Finding.{rise, skip, nowhere, equal_at}

pub length-rows_of : (ss gs : List ℕ) (cs : List Bool) → length gs ≡ length ss → length cs ≡ length ss → length (rows_of ss gs cs) ≡ length ss
length-rows_of [] gs cs e f = refl
length-rows_of (s ∷ ss) [] cs e f = absurd (omega (arith, e))
length-rows_of (s ∷ ss) (g ∷ gs) [] e f = absurd (omega (arith, f))
length-rows_of (s ∷ ss) (g ∷ gs) (c ∷ cs) e f = let h : length (rows_of ss gs cs) ≡ length ss = length-rows_of ss gs cs (omega (arith, e)) (omega (arith, f)) in omega (arith, h)

pub slice_get-rows_of : (ss gs : List ℕ) (cs : List Bool) (i : ℕ) (row : Line) → length gs ≡ length ss → length cs ≡ length ss → i < length ss
    → row.state ≡ get_or ss i row.state → row.g ≡ get_or gs i row.g → row.is_closed ≡ get_or cs i row.is_closed → slice_get (rows_of ss gs cs) i ≡ Some row
slice_get-rows_of [] gs cs i row e f lt s-is g-is c-is = absurd (omega (arith, lt))
slice_get-rows_of (s ∷ ss) [] cs i row e f lt s-is g-is c-is = absurd (omega (arith, e))
slice_get-rows_of (s ∷ ss) (g ∷ gs) [] i row e f lt s-is g-is c-is = absurd (omega (arith, f))
slice_get-rows_of (s ∷ ss) (g ∷ gs) (c ∷ cs) zero row e f lt s-is g-is c-is = rw (← s-is, ← g-is, ← c-is) refl
slice_get-rows_of (s ∷ ss) (g ∷ gs) (c ∷ cs) (suc i) row e f lt s-is g-is c-is = slice_get-rows_of ss gs cs i row (omega (arith, e)) (omega (arith, f)) (omega (arith, lt)) s-is g-is c-is

pub rows_of-push : (ss gs : List ℕ) (cs : List Bool) (row : Line) → length gs ≡ length ss → length cs ≡ length ss → rows_of (ss ++ row.state ∷ []) (gs ++ row.g ∷ []) (cs ++ row.is_closed ∷ []) ≡ rows_of ss gs cs ++ row ∷ []
rows_of-push [] [] [] row e f = refl
rows_of-push [] (g ∷ gs) cs row e f = absurd (omega (arith, e))
rows_of-push [] [] (c ∷ cs) row e f = absurd (omega (arith, f))
rows_of-push (s ∷ ss) [] cs row e f = absurd (omega (arith, e))
rows_of-push (s ∷ ss) (g ∷ gs) [] row e f = absurd (omega (arith, f))
rows_of-push (s ∷ ss) (g ∷ gs) (c ∷ cs) row e f =
    ap (λ (rows : List Line). record { state = s; g = g; is_closed = c } ∷ rows) (rows_of-push ss gs cs row (omega (arith, e)) (omega (arith, f)))

-- ---- states that rise

is_above : (before : ℕ) (ss gs : List ℕ) (cs : List Bool) (j : ℕ) → length gs ≡ length ss → length cs ≡ length ss → AreAbove before (rows_of ss gs cs) → j < length ss → before < get_or ss j 0
is_above before [] gs cs j e f above lt = absurd (omega (arith, lt))
is_above before (s ∷ ss) [] cs j e f above lt = absurd (omega (arith, e))
is_above before (s ∷ ss) (g ∷ gs) [] j e f above lt = absurd (omega (arith, f))
is_above before (s ∷ ss) (g ∷ gs) (c ∷ cs) zero e f above lt = above.0
is_above before (s ∷ ss) (g ∷ gs) (c ∷ cs) (suc j) e f above lt =
    let first : before < s = above.0 in
    let later : s < get_or ss j 0 = is_above s ss gs cs j (omega (arith, e)) (omega (arith, f)) above.1 (omega (arith, lt)) in
    omega (arith, first, later)

pub rising : (ss gs : List ℕ) (cs : List Bool) → length gs ≡ length ss → length cs ≡ length ss → Rise (rows_of ss gs cs) → AreRising ss
rising [] gs cs e f rises j k less lt = absurd (omega (arith, lt))
rising (s ∷ ss) [] cs e f rises j k less lt = absurd (omega (arith, e))
rising (s ∷ ss) (g ∷ gs) [] e f rises j k less lt = absurd (omega (arith, f))
rising (s ∷ ss) (g ∷ gs) (c ∷ cs) e f rises j zero less lt = absurd (omega (arith, less))
rising (s ∷ ss) (g ∷ gs) (c ∷ cs) e f rises zero (suc k) less lt = is_above s ss gs cs k (omega (arith, e)) (omega (arith, f)) rises (omega (arith, lt))
rising (s ∷ ss) (g ∷ gs) (c ∷ cs) e f rises (suc j) (suc k) less lt =
    rising ss gs cs (omega (arith, e)) (omega (arith, f)) (rise s (rows_of ss gs cs) rises) j k (omega (arith, less)) (omega (arith, lt))

-- whether a state rises over the one before it
pub rises_at-rows_of : (ss gs : List ℕ) (cs : List Bool) (i : ℕ) → length gs ≡ length ss → length cs ≡ length ss → suc i < length ss → rises_at (rows_of ss gs cs) i ≡ nat_lt (get_or ss i 0) (get_or ss (suc i) 0)
rises_at-rows_of [] gs cs i e f lt = absurd (omega (arith, lt))
rises_at-rows_of (s ∷ []) gs cs i e f lt = absurd (omega (arith, lt))
rises_at-rows_of (s ∷ t ∷ ss) [] cs i e f lt = absurd (omega (arith, e))
rises_at-rows_of (s ∷ t ∷ ss) (g ∷ []) cs i e f lt = absurd (omega (arith, e))
rises_at-rows_of (s ∷ t ∷ ss) (g ∷ h ∷ gs) [] i e f lt = absurd (omega (arith, f))
rises_at-rows_of (s ∷ t ∷ ss) (g ∷ h ∷ gs) (c ∷ []) i e f lt = absurd (omega (arith, f))
rises_at-rows_of (s ∷ t ∷ ss) (g ∷ h ∷ gs) (c ∷ d ∷ cs) zero e f lt = refl
rises_at-rows_of (s ∷ t ∷ ss) (g ∷ h ∷ gs) (c ∷ d ∷ cs) (suc i) e f lt = rises_at-rows_of (t ∷ ss) (h ∷ gs) (d ∷ cs) i (omega (arith, e)) (omega (arith, f)) (omega (arith, lt))

-- ---- the g of a state

pub found : (ss gs : List ℕ) (cs : List Bool) (i state g : ℕ) → length gs ≡ length ss → length cs ≡ length ss → Rise (rows_of ss gs cs) → i < length ss → get_or ss i 0 ≡ state → g ≡ get_or gs i g → Some g ≡ g_of (rows_of ss gs cs) state
found ss gs cs i state g e f rises lt is costs =
    let lines : length (rows_of ss gs cs) ≡ length ss = length-rows_of ss gs cs e f in
    let within : i < length (rows_of ss gs cs) = omega (arith, lines, lt) in
    let row : Line = record { state = state; g = g; is_closed = get_or cs i false } in
    let state_is : state ≡ get_or ss i state = sym is ∙ sym (get_or_default_zero ss i state lt) in
    let closed_is : get_or cs i false ≡ get_or cs i (get_or cs i false) = any_default cs i (get_or cs i false) (omega (arith, f, lt)) in
    let is_row : slice_get (rows_of ss gs cs) i ≡ Some row = slice_get-rows_of ss gs cs i row e f lt state_is costs closed_is in
    equal_at (rows_of ss gs cs) i row within (sym (get_or_from_slice_get (rows_of ss gs cs) i row row is_row)) rises state refl
  where
    any_default : (cs : List Bool) (i : ℕ) (d : Bool) → i < length cs → get_or cs i false ≡ get_or cs i d
    any_default [] i d lt = absurd (omega (arith, lt))
    any_default (c ∷ cs) zero d lt = refl
    any_default (c ∷ cs) (suc i) d lt = any_default cs i d (omega (arith, lt))

pub absent : (ss gs : List ℕ) (cs : List Bool) (state : ℕ) → length gs ≡ length ss → length cs ≡ length ss → ((k : ℕ) → k < length ss → get_or ss k 0 ≡ state → ⊥) → None ≡ g_of (rows_of ss gs cs) state
absent [] gs cs state e f differ = sym (nowhere state)
absent (s ∷ ss) [] cs state e f differ = absurd (omega (arith, e))
absent (s ∷ ss) (g ∷ gs) [] state e f differ = absurd (omega (arith, f))
absent (s ∷ ss) (g ∷ gs) (c ∷ cs) state e f differ =
    let others : (k : ℕ) → k < length ss → get_or ss k 0 ≡ state → ⊥ = λ k lt is. differ (suc k) (omega (arith, lt)) is in
    absent ss gs cs state (omega (arith, e)) (omega (arith, f)) others
    ∙ sym (skip (record { state = s; g = g; is_closed = c }) (rows_of ss gs cs) state (λ is. differ 0 (omega arith) is))
