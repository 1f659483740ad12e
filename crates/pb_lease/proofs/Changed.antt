-- What becomes of a lease's rows where one of its bundles changes.
use Rattle.std.proofs.Common.{◌≡◌, ◌≢◌, ℕ, ◌<◌, true, false, cond, ◌&&◌, ◌==◌, nat_eq, List, Option, Some, None, IsSome, is_some, Result, Ok, Err, OnOk, OnErr, refl, sym, ap, ◌∙◌, subst}
use Rattle.std.proofs.lemmas.Bool.{eqb-false}
use Rattle.std.proofs.lemmas.Cmp.{nat_eq_equiv}
use Rattle.std.proofs.lemmas.Map.{lookup-set_value, keys-set_value}
use Rattle.std.proofs.lemmas.Map.Steps.{set_value_same}
use Rattle.pb_model.specs.declared.row.Estimate.{Estimate}
use Rattle.pb_model.specs.declared.row.Row.{Row}
use Rattle.pb_model.specs.declared.row.Status.{Status}
use Rattle.pb_model.specs.declared.row.Status.TheVariants.{Opened, Cut}
use Rattle.pb_model.specs.Store.{Part, HasOpened}
use Rattle.pb_model.specs.Work.{with_status, offered_row}
use Rattle.pb_model.proofs.Callers.{by_cases, equal, equal_self, equal_swap}
use Rattle.pb_lists.specs.Bundle.{Content, row_of, put, SetsRow, SetsStatus, IsOpened}
use Rattle.pb_bundles.specs.Parts.{content_in, with_content, rows_in, away_rows}
use Rattle.pb_lease.specs.LeaseValue.{LeaseValue, with_bundle}
use Rattle.pb_lease.specs.Rows.{ChangesRows, SetsStatusAt, OffersAt, own_opened, opened_in}
use Rattle.pb_lease.proofs.Fewer.{opened_fall}

pub on_err : {X E : Type 0} (r : Result X E) (P : Type 0) → P → OnErr r P
on_err (Ok x) P h = tt
on_err (Err e) P h = h

pub on_ok : {X E : Type 0} (r : Result X E) (P Q : Type 0) → (P → Q) → OnOk r P → OnOk r Q
on_ok (Ok x) P Q gives h = gives h
on_ok (Err e) P Q gives h = tt

pub if_err : {X E : Type 0} (r : Result X E) (P Q : Type 0) → (P → Q) → OnErr r P → OnErr r Q
if_err (Ok x) P Q gives h = tt
if_err (Err e) P Q gives h = gives h

pub if_ok : {X E : Type 0} (r : Result X E) (P Q : Type 0) {R : Type 0} → (P → R) → (Q → R) → OnOk r P → OnErr r Q → R
if_ok (Ok x) P Q one other ok err = one ok
if_ok (Err e) P Q one other ok err = other err

pub has_opened : (part : Part) (state : ℕ) → IsOpened (part state) → HasOpened part
has_opened part state is = (state, is.0, is.1, is.2)

one_key : (block x y : ℕ) → nat_eq block x ≡ true → nat_eq block y ≡ nat_eq x y
one_key block x y e = ap (λ k. nat_eq k y) (equal block x e)

is_there : (o : Option Content) (was : Content) → o ≡ Some was → IsSome o
is_there o was e = ap is_some e

module _ (parts : List (ℕ × Content)) (block : ℕ) (was now : Content) (there : content_in parts block ≡ Some was) where
  abbrev after : List (ℕ × Content)
  after = with_content parts block now

  pub content_after : (other : ℕ) → content_in after other ≡ cond (other == block) (Some now) (content_in parts other)
  content_after other =
      lookup-set_value nat_eq_equiv (nat_eq block) (one_key block) other now parts (is_there (content_in parts block) was there)
      ∙ ap (λ b. cond b (Some now) (content_in parts other)) (equal_swap block other)

  rows_there : (home other : ℕ) → (home == block) ≡ true → away_rows after home other ≡ row_of now other
  rows_there home other e = ap (λ o. rows_in o other) (content_after home ∙ ap (λ b. cond b (Some now) (content_in parts home)) e)

  rows_elsewhere : (home other : ℕ) → (home == block) ≡ false → away_rows after home other ≡ away_rows parts home other
  rows_elsewhere home other e = ap (λ o. rows_in o other) (content_after home ∙ ap (λ b. cond b (Some now) (content_in parts home)) e)

  rows_before : (home other : ℕ) → (home == block) ≡ true → away_rows parts home other ≡ row_of was other
  rows_before home other e = ap (λ k. away_rows parts k other) (equal home block e) ∙ ap (λ o. rows_in o other) there

  -- one row of the bundle changed
  row_changed : (change : Option Row → Option Row) (state : ℕ) → row_of now state ≡ change (row_of was state) → ((other : ℕ) → other ≢ state → row_of now other ≡ row_of was other)
      → (home other : ℕ) → away_rows after home other ≡ cond ((home == block) && (other == state)) (change (away_rows parts home other)) (away_rows parts home other)
  row_changed change state here others home other = by_cases (home == block)
      (λ e. by_cases (other == state)
      (λ f. rows_there home other e ∙ subst (λ s. row_of now s ≡ change (row_of was s)) (sym (equal other state f)) here ∙ ap change (sym (rows_before home other e))
      ∙ sym (ap (λ b. cond (b && (other == state)) (change (away_rows parts home other)) (away_rows parts home other)) e ∙ ap (λ b. cond b (change (away_rows parts home other)) (away_rows parts home other)) f))
      (λ f. rows_there home other e ∙ others other (eqb-false other state f) ∙ sym (rows_before home other e)
      ∙ sym (ap (λ b. cond (b && (other == state)) (change (away_rows parts home other)) (away_rows parts home other)) e ∙ ap (λ b. cond b (change (away_rows parts home other)) (away_rows parts home other)) f)))
      (λ e. rows_elsewhere home other e ∙ sym (ap (λ b. cond (b && (other == state)) (change (away_rows parts home other)) (away_rows parts home other)) e))

module _ (lease : LeaseValue) (block : ℕ) (was now : Content) (there : content_in lease.parts block ≡ Some was) where
  pub changes : now.weight ≡ was.weight → ChangesRows lease (with_bundle lease block now)
  changes same = record {
    others = refl;
    places = keys-set_value (nat_eq block) lease.parts now;
    weights = λ has other content is. by_cases (other == block)
        (λ e. let found : ◌≡◌ {A = Option Content} (Some now) (Some content) = sym (content_after lease.parts block was now there other ∙ ap (λ b. cond b (Some now) (content_in lease.parts other)) e) ∙ is in
        let equal : now ≡ content = cc in
        ap (λ (c : Content). c.weight) (sym equal) ∙ same ∙ has block was there)
        (λ e. has other content (sym (content_after lease.parts block was now there other ∙ ap (λ b. cond b (Some now) (content_in lease.parts other)) e) ∙ is));
  }

  -- the lease's own rows are those of this bundle
  pub own_is : lease.block ≡ block → (other : ℕ) → away_rows lease.parts lease.block other ≡ row_of was other
  own_is own other = rows_before lease.parts block was now there lease.block other (ap (λ k. k == block) own ∙ equal_self block)

  -- the bundle is as it was
  pub unchanged : now ≡ was → with_bundle lease block now ≡ lease
  unchanged same = ap (λ (parts : List (ℕ × Content)). record lease { parts = parts }) (set_value_same (nat_eq block) lease.parts now (there ∙ ap Some (sym same)))

  pub status_set : (state : ℕ) (status : Status) → SetsStatus (row_of was) (row_of now) state status → SetsStatusAt lease (with_bundle lease block now) block state status
  status_set state status set = row_changed lease.parts block was now there (with_status status) state set.here set.others

  pub offered : (state g : ℕ) (estimate : Estimate) (parent : Option ℕ) (action : ℕ) → SetsRow (row_of was) (row_of now) state (offered_row g estimate parent action (row_of was state))
      → OffersAt lease (with_bundle lease block now) block state g estimate parent action
  offered state g estimate parent action set = row_changed lease.parts block was now there (λ old. Some (offered_row g estimate parent action old)) state set.here set.others

  -- a row keeps its estimate, so any may stand here
  pub known_offered : (state g : ℕ) (estimate : Estimate) (parent : Option ℕ) (action : ℕ) (row : Row) → row_of was state ≡ Some row
      → SetsRow (row_of was) (row_of now) state (offered_row g row.estimate parent action (Some row)) → OffersAt lease (with_bundle lease block now) block state g estimate parent action
  known_offered state g estimate parent action row found set = offered state g estimate parent action (subst (λ old. SetsRow (row_of was) (row_of now) state (offered_row g estimate parent action old)) (sym found) set)

  pub new_offered : (state g : ℕ) (one other : Estimate) (parent : Option ℕ) (action : ℕ) → row_of was state ≡ None → one ≡ other
      → SetsRow (row_of was) (row_of now) state (offered_row g one parent action None) → OffersAt lease (with_bundle lease block now) block state g other parent action
  new_offered state g one other parent action absent same set =
      offered state g other parent action
      (subst (λ old. SetsRow (row_of was) (row_of now) state (offered_row g other parent action old)) (sym absent)
      (subst (λ estimate. SetsRow (row_of was) (row_of now) state (offered_row g estimate parent action None)) same set))

  pub fewer_opened : lease.block ≡ block → (state : ℕ) (row : Row) → row_of was state ≡ Some row → row.status ≡ Opened → now ≡ put was state (record row { status = Cut })
      → own_opened (with_bundle lease block now) < own_opened lease
  fewer_opened own state row found opened is =
      let here : content_in (with_content lease.parts block now) lease.block ≡ Some now =
      content_after lease.parts block was now there lease.block ∙ ap (λ b. cond b (Some now) (content_in lease.parts lease.block)) (ap (λ k. k == block) own ∙ equal_self block) in
      let before : content_in lease.parts lease.block ≡ Some was = ap (content_in lease.parts) own ∙ there in
      subst (λ o. opened_in o < own_opened lease) (sym here) (subst (λ o. opened_in (Some now) < opened_in o) (sym before) (opened_fall was now state row found opened is))
