-- Work without an expansion opens no row, and how many blocks have an Opened row.
use Rattle.std.proofs.Common.{◌≡◌, ℕ, zero, suc, ◌<◌, ◌≤◌, Bool, true, false, cond, ◌==◌, is_some, List, [], ◌∷◌, Option, Some, None, refl, sym, ap, ◌∙◌, arith, subst, true≢false}
use Rattle.std.specs.List.{AllByRecursion}
use Rattle.std.proofs.lemmas.Bool.Decides.{nat_tests}
use Rattle.pb_model.specs.declared.row.Row.{Row}
use Rattle.pb_model.specs.declared.row.Status.{Status}
use Rattle.pb_model.specs.declared.row.Status.TheVariants.{Opened, Closed, Cut}
use Rattle.pb_model.specs.Space.{Space}
use Rattle.pb_model.specs.Guide.{Guide}
use Rattle.pb_model.specs.Store.{Store, HasOpened, is_place_of}
use Rattle.pb_model.specs.Work.{Work, expand, break_off, cut, take_goal, lower, reopen, with_status, row_after_status, Comes, store_after, expansions, broken_expansions}
use Rattle.pb_model.proofs.Callers.{by_cases}
use Rattle.pb_machine.specs.Tables.{one_if, count_below}
use Rattle.pb_machine.specs.Machine.{IsOn}

-- ---- work without an expansion

abbrev not_cut : Status → Bool
not_cut Opened = true
not_cut Closed = true
not_cut Cut = false

abbrev status_there : Option Row → Bool
status_there None = true
status_there (Some row) = not_cut row.status

-- an Opened row where a row was cut was there before
cut_leaves : (guide : Guide) (own home state : ℕ) (old : Option Row) (row : Row) → row_after_status guide own Cut home state old ≡ Some row → row.status ≡ Opened → old ≡ Some row
cut_leaves guide own home state old row is opened = go (is_place_of guide own home state) old is
  where
    cut_row : (o : Option Row) → with_status Cut o ≡ Some row → o ≡ Some row
    cut_row None e = absurd (true≢false (sym (ap is_some e)))
    cut_row (Some r) e = absurd (true≢false (sym (ap not_cut opened) ∙ sym (ap (λ (o : Option Row). status_there o) e)))

    go : (r : Bool) (o : Option Row) → cond r (with_status Cut o) o ≡ Some row → o ≡ Some row
    go true o e = cut_row o e
    go false o e = e

module _ (space : Space) (guide : Guide) (block : ℕ) (known : Option ℕ → Bool) where
  opened_from : (own home : ℕ) (old : Store) → HasOpened (λ state. row_after_status guide own Cut home state (old.rows home state)) → HasOpened (old.rows home)
  opened_from own home old h = (h.0, h.1, cut_leaves guide own home h.0 (old.rows home h.0) h.1 h.2 h.3, h.3)

  pub none_opened : (works : List Work) (old new : Store) → AllByRecursion (IsOn guide block known) works → Comes space guide works old new
      → expansions works ≡ 0 → broken_expansions works ≡ 0 → (home : ℕ) → HasOpened (new.rows home) → HasOpened (old.rows home)
  none_opened [] old new on comes made broken home h = subst (λ (s : Store). HasOpened (s.rows home)) comes h
  none_opened (expand own ∷ works) old new on comes made broken home h = absurd (omega (arith, made))
  none_opened (break_off own offers ∷ works) old new on comes made broken home h = absurd (omega (arith, broken))
  none_opened (cut own ∷ works) old new on comes made broken home h =
      opened_from own home old (none_opened works (store_after space guide (cut own) old) new on.1 comes.1 made broken home h)
  none_opened (take_goal own ∷ works) old new on comes made broken home h =
      opened_from own home old (none_opened works (store_after space guide (take_goal own) old) new on.1 comes.1 made broken home h)
  none_opened (lower cost ∷ works) old new on comes made broken home h =
      none_opened works (store_after space guide (lower cost) old) new on.1 comes.1 made broken home h
  none_opened (reopen weight ∷ works) old new on comes made broken home h = absurd on.0

-- ---- counts

one_at_most : (a b : Bool) → (a ≡ true → b ≡ true) → one_if a ≤ one_if b
one_at_most true true h = omega arith
one_at_most true false h = absurd (true≢false (sym (h refl)))
one_at_most false b h = omega arith

pub count_at_most : (n : ℕ) (p q : ℕ → Bool) → ((k : ℕ) → p k ≡ true → q k ≡ true) → count_below n p ≤ count_below n q
count_at_most zero p q h = omega arith
count_at_most (suc n) p q h =
    let rest : count_below n p ≤ count_below n q = count_at_most n p q h in
    let here : one_if (p n) ≤ one_if (q n) = one_at_most (p n) (q n) (h n) in
    omega (arith, rest, here)

pub count_fewer : (n k : ℕ) (p q : ℕ → Bool) → ((i : ℕ) → p i ≡ true → q i ≡ true) → k < n → p k ≡ false → q k ≡ true → count_below n p < count_below n q
count_fewer zero k p q h lt out inside = absurd (omega arith)
count_fewer (suc n) k p q h lt out inside = by_cases (k == n) at_top (below (λ lower. count_fewer n k p q h lower out inside))
  where
    at_top : (k == n) ≡ true → count_below (suc n) p < count_below (suc n) q
    at_top e =
        let same : k ≡ n = grind (arith, nat_tests) in
        let rest : count_below n p ≤ count_below n q = count_at_most n p q h in
        let less : one_if (p n) ≡ 0 = ap (λ i. one_if (p i)) (sym same) ∙ ap one_if out in
        let more : one_if (q n) ≡ 1 = ap (λ i. one_if (q i)) (sym same) ∙ ap one_if inside in
        omega (arith, rest, less, more)

    below : (k < n → count_below n p < count_below n q) → (k == n) ≡ false → count_below (suc n) p < count_below (suc n) q
    below fewer e =
        let lower : k < n = grind (arith, nat_tests) in
        let rest : count_below n p < count_below n q = fewer lower in
        let here : one_if (p n) ≤ one_if (q n) = one_at_most (p n) (q n) (h n) in
        omega (arith, rest, here)
