-- Finding a state among rows that rise.
use Rattle.std.proofs.Common.{◌≡◌, ℕ, suc, ◌+◌, ◌<◌, Bool, true, false, cond, ltb, Option, None, Some, List, [], ◌∷◌, ◌++◌, length, get_or, drop, take, refl, sym, ap, ◌∙◌, subst, arith, drop-cons}
use Rattle.std.proofs.lemmas.List.{take-append-drop}
use Rattle.pb_model.specs.Certificate.{Line}
use Rattle.pb_check.specs.declared.fault.CertificateFault.{CertificateFault}
use Rattle.pb_check.specs.declared.fault.CertificateFault.TheVariants as faults
use Rattle.pb_check.specs.Judging.{g_of, AreAbove, Rise, order_fault, rows_order_fault}

pub rise : (before : ℕ) (rows : List Line) → AreAbove before rows → Rise rows
rise before [] h = tt
rise before (row ∷ rows) h = h.1

below : (before : ℕ) (xs : List Line) (row : Line) (ys : List Line) → AreAbove before (xs ++ row ∷ ys) → before < row.state
below before [] row ys h = h.0
below before (x ∷ xs) row ys h = let a : before < x.state = h.0 in let b : x.state < row.state = below x.state xs row ys h.1 in omega (arith, a, b)

pub skip : (row : Line) (rows : List Line) (state : ℕ) → (row.state ≡ state → ⊥) → g_of (row ∷ rows) state ≡ g_of rows state
unfolding g_of
skip row rows state differs = grind (arith, differs)

here : (row : Line) (rows : List Line) (state : ℕ) → row.state ≡ state → g_of (row ∷ rows) state ≡ Some row.g
unfolding g_of
here row rows state is = rw is (grind arith)

pub nowhere : (state : ℕ) → g_of [] state ≡ None
unfolding g_of
nowhere state = refl

equal : (xs : List Line) (row : Line) (ys : List Line) (state : ℕ) → Rise (xs ++ row ∷ ys) → row.state ≡ state → g_of (xs ++ row ∷ ys) state ≡ Some row.g
equal [] row ys state h is = here row ys state is
equal (x ∷ xs) row ys state h is = let a : x.state < row.state = below x.state xs row ys h in skip x (xs ++ row ∷ ys) state (λ e. omega (arith, a, e, is)) ∙ equal xs row ys state (rise x.state (xs ++ row ∷ ys) h) is

split : (rows : List Line) (k : ℕ) (row : Line) → k < length rows → row ≡ get_or rows k row → rows ≡ take k rows ++ row ∷ drop (suc k) rows
split rows k row lt is = sym (take-append-drop k rows) ∙ ap (λ (ys : List Line). take k rows ++ ys) (drop-cons rows k row lt ∙ ap (λ (x : Line). x ∷ drop (suc k) rows) (sym is))

pub equal_at : (rows : List Line) (k : ℕ) (row : Line) → k < length rows → row ≡ get_or rows k row → Rise rows → (state : ℕ) → row.state ≡ state → Some row.g ≡ g_of rows state
equal_at rows k row lt is rises state e =
    let parts : rows ≡ take k rows ++ row ∷ drop (suc k) rows = split rows k row lt is in
    sym (ap (λ (r : List Line). g_of r state) parts ∙ equal (take k rows) row (drop (suc k) rows) state (subst Rise parts rises) e)

-- rows in order rise
order_above : (line before : ℕ) (rows : List Line) → order_fault line before rows ≡ None → AreAbove before rows
unfolding order_fault
order_above line before [] e = tt
order_above line before (row ∷ rows) e =
    let h = chosen (ltb before row.state) (order_fault (line + 1) row.state rows) (faults.RowOrder line) e in
    (grind (arith, h.0), order_above (line + 1) row.state rows h.1)
  where
    chosen : (b : Bool) (rest : Option CertificateFault) (fault : CertificateFault) → cond b rest (Some fault) ≡ None → (b ≡ true) × (rest ≡ None)
    chosen true rest fault e = (refl, e)
    chosen false rest fault e = absurd cc

pub order_rises : (line : ℕ) (rows : List Line) → rows_order_fault line rows ≡ None → Rise rows
order_rises line [] e = tt
order_rises line (row ∷ rows) e = order_above (line + 1) row.state rows e
