-- One expansion that offers one successor, as the work of a lease.
use Rattle.std.proofs.Common.{◌≡◌, ℕ, ◌+◌, Bool, List, [], ◌∷◌, length, get_or, Option, Some, Result, Ok, OnOk, IfOk, IsFalse, IsSome, refl, sym, ap, ◌∙◌, subst, arith}
use Rattle.std.specs.List.{AllByRecursion}
use Rattle.pb_model.specs.declared.row.Status.TheVariants.{Closed}
use Rattle.pb_model.specs.declared.row.Row.{Row}
use Rattle.pb_model.specs.declared.row.Succ.{Succ}
use Rattle.pb_model.specs.Space.{Space, steps}
use Rattle.pb_model.specs.Guide.{Guide}
use Rattle.pb_model.specs.Store.{MayBeCut}
use Rattle.pb_model.specs.Key.{IsFirstRow}
use Rattle.pb_model.specs.Work.{expand, row_after, row_after_status, g_of, store_after}
use Rattle.pb_model.proofs.Callers.{IsStep, are_steps}
use Rattle.pb_machine.specs.Machine.{IsWorked}
use Rattle.pb_machine.specs.Turns.{AreLeaseTurns}
use Rattle.pb_lists.specs.Bundle.{Content}
use Rattle.pb_bundles.specs.Parts.{content_in, away_rows}
use Rattle.pb_lease.specs.LeaseValue.{LeaseValue, leased_store}
use Rattle.pb_lease.specs.Rows.{ChangesRows, SetsStatusAt, OffersAt, HasOffers, LeadsInto}
use Rattle.pb_lease.proofs.Callers.{changes_on, store_is, status_rows, offers_more}

-- a list of one successor has that one
pub one_succ : (succs : List Succ) (succ : Succ) → length succs ≡ 1 → get_or succs 0 succ ≡ succ → succs ≡ succ ∷ []
one_succ [] succ long is = absurd (omega (arith, long))
one_succ (first ∷ []) succ long is = ap (λ s. s ∷ []) is
one_succ (first ∷ second ∷ rest) succ long is = absurd (omega (arith, long))

-- what a call did that answered well
pub when_ok : {X E P : Type 0} (r : Result X E) (x : X) → r ≡ Ok x → OnOk r P → P
when_ok {X} {E} {P} r x is h = subst (λ (r : Result X E). OnOk r P) is h

-- what holds of what is found, where it is expected
pub when_found : {X E : Type 0} (P : X → Type 0) (r : Result X E) (x : X) → r ≡ Ok x → IfOk r P → P x
when_found {X} {E} P r x is h = subst (λ (r : Result X E). IfOk r P) is h

-- the bundle that the only step leads to
pub only_leads : (space : Space) (guide : Guide) (state : ℕ) (parts : List (ℕ × Content)) (succ : Succ) → steps space state ≡ succ ∷ []
    → LeadsInto space guide state parts → IsSome (content_in parts (guide.home succ.state))
only_leads space guide state parts succ only leads =
    leads succ.action succ.state succ.cost (subst (λ succs. AllByRecursion (IsStep space state) succs) only (are_steps space state)).0

module _ (space : Space) (guide : Guide) (old mid new counted : LeaseValue) (state : ℕ) (row : Row) (succ : Succ)
    (first : IsFirstRow old.weight (away_rows old.parts old.block) state row) (home : guide.home state ≡ old.block) (no_goal : IsFalse (space.is_goal state))
    (kept : ¬ MayBeCut old.weight old.incumbent row.g row.estimate) (only : steps space state ≡ succ ∷ [])
    (offered : OffersAt old mid (guide.home succ.state) succ.state (row.g + succ.cost) (guide.estimate succ.state) (Some state) succ.action) (changes : ChangesRows old mid)
    (closed : SetsStatusAt mid new mid.block state Closed) (changed : ChangesRows mid new) (counted_is : counted ≡ record new { used = new.used + 1 }) where
  at_home : IsFirstRow old.weight (away_rows old.parts (guide.home state)) state row
  at_home = subst (λ k. IsFirstRow old.weight (away_rows old.parts k) state row) (sym home) first

  offers : HasOffers guide state row.g (steps space state) old mid
  offers = subst (λ succs. HasOffers guide state row.g succs old mid) (sym only) (offers_more guide state row.g [] succ old old mid (λ place other. refl) offered)

  rows : (place other : ℕ) → away_rows new.parts place other ≡ row_after space guide (expand state) row.g old.incumbent place other (away_rows old.parts place other)
  rows place other =
      status_rows guide mid.block state (home ∙ sym (ap (λ (l : LeaseValue). l.block) changes.others)) mid new Closed closed place other
      ∙ ap (row_after_status guide state Closed place other) (offers place other)

  both : ChangesRows old new
  both = changes_on old mid new changes changed

  store : leased_store counted ≡ store_after space guide (expand state) (leased_store old)
  store =
      ap leased_store counted_is
      ∙ store_is space guide (expand state) row.g old new (ap g_of at_home.found) rows (ap (λ (l : LeaseValue). l.incumbent) both.others) (ap (λ (l : LeaseValue). l.weight) both.others)

  pub worked_by_hand : (known : Option ℕ → Bool) → (work : IsWorked space guide old.block 1 0 known (leased_store old) (leased_store counted)) × AreLeaseTurns space guide work.works (leased_store old)
  worked_by_hand known = (
    record {
      works = expand state ∷ [];
      on = (home, tt);
      comes = (((row, at_home.found, at_home.opened), no_goal), store);
      used_is = refl;
      few_broken = omega arith;
      stops = tt;
    },
    ((row, at_home, kept), tt),
  )

-- what changed, with the expansion counted
pub changes_by_hand : (old mid new counted : LeaseValue) → ChangesRows old mid → ChangesRows mid new → counted ≡ record new { used = new.used + 1 }
    → ChangesRows (record old { used = old.used + 1 }) counted
changes_by_hand old mid new counted changes changed counted_is =
    let both = changes_on old mid new changes changed in
    subst (λ (l : LeaseValue). ChangesRows (record old { used = old.used + 1 }) l) (sym counted_is) (record {
      others = ap (λ (l : LeaseValue). record l { used = l.used + 1 }) both.others;
      places = both.places;
      weights = λ has. both.weights has;
    })
