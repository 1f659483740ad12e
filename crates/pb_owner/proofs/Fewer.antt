-- A row that is cut is one Opened row fewer.
use Rattle.std.proofs.Common.{◌≡◌, ℕ, ◌<◌, Bool, true, false, cond, List, [], ◌∷◌, Option, Some, None, nat_eq, sum_by, refl, sym, ap, ◌∙◌, subst, arith}
use Rattle.std.proofs.lemmas.List.Sums.{sum_by-cons}
use Rattle.pb_model.specs.Weight.{Weight}
use Rattle.pb_model.specs.declared.row.Status.TheVariants.{Opened, Cut}
use Rattle.pb_model.specs.declared.row.Row.{Row}
use Rattle.pb_model.proofs.Callers.{some_row}
use Rattle.pb_lists.specs.Bundle.{Content, row_in, row_of, put}
use Rattle.pb_owner.specs.Shares.{one_if_opened, opened_in}

abbrev one_of : ℕ × Row → ℕ
one_of entry = one_if_opened entry.1.status

-- the entries after a row was put
abbrev after : Weight → List (ℕ × Row) → ℕ → Row → List (ℕ × Row)
after weight entries state row = (put (record { entries = entries; weight = weight }) state row).entries

-- an Opened row gave way to one that is Cut
entries_fall : (weight : Weight) (entries : List (ℕ × Row)) (state : ℕ) (row new : Row) → row_in entries state ≡ Some row → row.status ≡ Opened → new.status ≡ Cut
    → sum_by one_of (after weight entries state new) < sum_by one_of entries
entries_fall weight [] state row new found opened settled = let bad : ◌≡◌ {A = Option Row} None (Some row) = found in cc
entries_fall weight (entry ∷ entries) state row new found opened settled = go (λ there. entries_fall weight entries state row new there opened settled) (nat_eq state entry.0) refl
  where
    go : (row_in entries state ≡ Some row → sum_by one_of (after weight entries state new) < sum_by one_of entries) → (b : Bool) → nat_eq state entry.0 ≡ b → sum_by one_of (after weight (entry ∷ entries) state new) < sum_by one_of (entry ∷ entries)
    go rest true e =
        let is : entry.1 ≡ row = some_row entry.1 row (sym (ap (λ b. cond b (Some entry.1) (row_in entries state)) e) ∙ found) in
        let was : one_of entry ≡ 1 = ap (λ (r : Row). one_if_opened r.status) is ∙ ap one_if_opened opened in
        let now : one_if_opened new.status ≡ 0 = ap one_if_opened settled in
        subst (λ b. sum_by one_of (cond b ((entry.0, new) ∷ entries) (entry ∷ after weight entries state new)) < sum_by one_of (entry ∷ entries)) (sym e)
        (omega (arith, was, now, sum_by-cons one_of (entry.0, new) entries, sum_by-cons one_of entry entries))
    go rest false e =
        let less : sum_by one_of (after weight entries state new) < sum_by one_of entries = rest (sym (ap (λ b. cond b (Some entry.1) (row_in entries state)) e) ∙ found) in
        subst (λ b. sum_by one_of (cond b ((entry.0, new) ∷ entries) (entry ∷ after weight entries state new)) < sum_by one_of (entry ∷ entries)) (sym e)
        (omega (arith, less, sum_by-cons one_of entry (after weight entries state new), sum_by-cons one_of entry entries))

pub opened_fall : (old new : Content) (state : ℕ) (row : Row) → row_of old state ≡ Some row → row.status ≡ Opened → new ≡ put old state (record row { status = Cut })
    → opened_in new < opened_in old
opened_fall old new state row found opened is =
    subst (λ (content : Content). opened_in content < opened_in old) (sym is) (entries_fall old.weight old.entries state row (record row { status = Cut }) found opened refl)
