-- Why a lease goes on or comes back: from what the graph and the lease tell to the rows of the whole store.
use Rattle.std.proofs.Common.{◌≡◌, ℕ, zero, suc, ◌<◌, ◌≤◌, ◌↔◌, ◌⊎◌, inl, inr, Bool, true, false, is_some, length, Option, Some, None, refl, sym, ap, ◌∙◌, arith, subst, true≢false}
use Rattle.pb_model.specs.declared.key.Key.{Key}
use Rattle.pb_model.specs.Weight.{Weight}
use Rattle.pb_model.specs.Key.{IsBest}
use Rattle.pb_model.specs.Store.{Part, Rows, HasOpened}
use Rattle.pb_model.proofs.Callers.{by_cases}
use Rattle.pb_task.specs.Parts.{greatest_cost}
use Rattle.pb_machine.specs.Counts.{Counts}
use Rattle.pb_machine.specs.Choice.{IsFirstChoice, counts_with_lease_home}
use Rattle.pb_machine.specs.Machine.{IsSetup, Machine}
use Rattle.pb_lists.specs.Bundle.{Content, row_of}
use Rattle.pb_bundles.specs.Parts.{content_in, rows_in}
use Rattle.pb_bundles.specs.Homes.{key_at}
use Rattle.pb_bundles.specs.Moves.{NotesKeys}
use Rattle.pb_bundles.proofs.Callers.{past, opened_is_by_key, first_choices_are_by_key}
use Rattle.pb_lease.specs.Tables.{blocks, rooms}
use Rattle.pb_lease.specs.LeaseValue.{LeaseValue, leased_store}
use Rattle.pb_lease.specs.Leased.{grant_of}
use Rattle.pb_lease.specs.Leasing.{can_be_leased}
use Rattle.pb_lease.specs.GraphValue.{GraphValue, setup_in, counts_in, IsOfGraph}
use Rattle.pb_lease.specs.Choices.{IsChoiceWithHome}
use Rattle.pb_lease.specs.Moments.{IsMomentAt}
use Rattle.pb_lease.specs.Steps.{GoesOn, GoesOver, ComesBack}
use Rattle.pb_machine.proofs.Callers.{not_both_come}
use Rattle.pb_bundles.specs.Choosing.{IsFirstBy, IsBetterBy}
use Rattle.pb_yard.specs.Order.{CannotGoOn, IsOvertaken}
use Rattle.pb_lease.proofs.Callers.{passes_from, passes_to}

-- one block alone is the first
one_first : (pass : ℕ → Bool) (keys : ℕ → Option Key) (one other : ℕ) → IsFirstBy pass keys (Some one) → IsFirstBy pass keys (Some other) → one ≡ other
one_first pass keys one other first second = which (first.1 other second.0) (second.1 one first.0)
  where
    which : (other ≡ one) ⊎ IsBetterBy keys one other → (one ≡ other) ⊎ IsBetterBy keys other one → one ≡ other
    which (inl e) second = sym e
    which (inr better) (inl e) = e
    which (inr better) (inr worse) = absurd (not_both_come (keys one) one (keys other) other better worse)

opened_best : (weight : Weight) (part : Part) (key : Option Key) → IsBest weight part key → is_some key ≡ true → HasOpened part
opened_best weight part None best there = absurd (true≢false (sym there))
opened_best weight part (Some key) best there = (best.0.0, best.0.1, best.0.2, best.0.3)

-- ---- a lease whose bundles came home, and their keys are noted

module _ (old : GraphValue) (lease : LeaseValue) (new : GraphValue) (noted : NotesKeys lease.parts old.homes.keys new.homes.keys) where
  pub brought_opened : (block : ℕ) (content : Content) → content_in lease.parts block ≡ Some content → is_some (key_at new.homes block) ≡ true → HasOpened ((leased_store lease).rows block)
  brought_opened block content is there =
      subst (λ (o : Option Content). HasOpened (rows_in o)) (sym is) (opened_best content.weight (row_of content) (key_at new.homes block) (noted.noted block content is) there)

  module _ (is_setup : IsSetup (setup_in old) greatest_cost) (of : IsOfGraph old lease) (recorded : (worker : ℕ) → Rows) (machine : Machine) (m : IsMomentAt old recorded machine) where
    pub block_known : lease.block < (blocks old.table).count
    block_known = (m.lawful.counts.known lease.worker (grant_of lease) (ap (λ (c : Counts). c.leases lease.worker) m.counts ∙ of.leased)).1

    own_there : is_some (content_in lease.parts lease.block) ≡ true
    own_there = of.scope.blocks lease.block ∙ is_setup.blocks.own lease.block block_known

    pub none_here : (HasOpened ((leased_store lease).rows lease.block) → ⊥) → is_some (key_at new.homes lease.block) ≡ false
    none_here none = by_cases (is_some (key_at new.homes lease.block)) (λ e. absurd (none (go (content_in lease.parts lease.block) refl own_there e))) (λ e. e)
      where
        go : (o : Option Content) → content_in lease.parts lease.block ≡ o → is_some o ≡ true → is_some (key_at new.homes lease.block) ≡ true → HasOpened ((leased_store lease).rows lease.block)
        go None is some there = absurd (true≢false (sym some))
        go (Some content) is some there = brought_opened lease.block content is there

    -- no row of its block is Opened in the whole store then
    pub none_left : (HasOpened ((leased_store lease).rows lease.block) → ⊥) → (after : (worker : ℕ) → Rows) (next : Machine) → IsMomentAt new after next
        → HasOpened (next.store.rows lease.block) → ⊥
    none_left none after next n opened =
        let there = ((opened_is_by_key next.store (key_at new.homes) n.keys).0 lease.block).1 opened in
        true≢false (sym there ∙ none_here none)

-- ---- a lease that goes on

module _ (old : GraphValue) (lease : LeaseValue) (new : GraphValue) (noted : NotesKeys lease.parts old.homes.keys new.homes.keys) (places : length old.homes.keys ≡ (blocks old.table).count) where
  -- no block above the greatest number has a key
  none_above : (block : ℕ) → (blocks old.table).count ≤ block → key_at new.homes block ≡ None
  none_above block above = past new.homes.keys block (omega (arith, above, places, noted.count))

  -- with the lease home a block is the first choice by the noted keys exactly if it is so by the rows that the whole store has then
  by_rows : (before after : (worker : ℕ) → Rows) (machine next : Machine) → IsMomentAt old before machine → IsMomentAt new after next → (block : ℕ)
      → IsChoiceWithHome old lease new (Some block)
      ↔ IsFirstChoice (blocks old.table) old.table.settings (counts_with_lease_home machine.counts lease.worker lease.used) next.store block
  by_rows before after machine next m at block =
      let home = counts_with_lease_home (counts_in old) lease.worker lease.used in
      let pass = can_be_leased (blocks old.table) old.table.settings home in
      let both = (first_choices_are_by_key (blocks old.table) old.table.settings home next.store (key_at new.homes) pass at.keys none_above
      (λ block lt. (
        passes_from (blocks old.table) old.table.settings home block,
        λ p. passes_to (blocks old.table) old.table.settings home block p.0 p.1 p.2 p.3,
      ))).0 block in
      subst (λ (c : Counts). IsChoiceWithHome old lease new (Some block) ↔ IsFirstChoice (blocks old.table) old.table.settings (counts_with_lease_home c lease.worker lease.used) next.store block)
      (sym m.counts) both

  -- so the block that is chosen by the keys is the first choice
  pub first_with_home : (before after : (worker : ℕ) → Rows) (machine next : Machine) → IsMomentAt old before machine → IsMomentAt new after next → (block : ℕ)
      → IsChoiceWithHome old lease new (Some block)
      → IsFirstChoice (blocks old.table) old.table.settings (counts_with_lease_home machine.counts lease.worker lease.used) next.store block
  first_with_home before after machine next m at block choice = (by_rows before after machine next m at block).0 choice

  pub still_first : (before after : (worker : ℕ) → Rows) (machine next : Machine) → IsMomentAt old before machine → IsMomentAt new after next
      → IsChoiceWithHome old lease new (Some lease.block)
      → IsFirstChoice (blocks old.table) old.table.settings (counts_with_lease_home machine.counts lease.worker lease.used) next.store lease.block
  still_first before after machine next m at choice = first_with_home before after machine next m at lease.block choice

  -- a lease that doesn't go on can't: its block isn't the first choice, or its room is used up
  pub cannot_go_on : (before after : (worker : ℕ) → Rows) (machine next : Machine) → IsMomentAt old before machine → IsMomentAt new after next
      → (GoesOn old lease new → ⊥) → CannotGoOn (setup_in old) (rooms old.table) machine lease.worker lease.used lease.block next
  cannot_go_on before after machine next m at stays_not = go (rooms old.table lease.worker) refl
    where
      go : (left : ℕ) → rooms old.table lease.worker ≡ left → CannotGoOn (setup_in old) (rooms old.table) machine lease.worker lease.used lease.block next
      go zero is = inr is
      go (suc left) is = inl (λ first. stays_not ((by_rows before after machine next m at lease.block).1 first, omega (arith, is)))

  -- nor is the block of a lease the first choice where its worker goes on with another one
  pub overtaken : (before after : (worker : ℕ) → Rows) (machine next : Machine) → IsMomentAt old before machine → IsMomentAt new after next → (block : ℕ) → GoesOver old lease new block
      → IsOvertaken (setup_in old) machine lease.worker lease.used lease.block next
  overtaken before after machine next m at block over first =
      over.1 (one_first (can_be_leased (blocks old.table) old.table.settings (counts_with_lease_home (counts_in old) lease.worker lease.used)) (key_at new.homes) block lease.block over.0 ((by_rows before after machine next m at lease.block).1 first))

-- a lease that comes back doesn't go on
pub back_stays_not : (old : GraphValue) (lease : LeaseValue) (new : GraphValue) → ComesBack old lease new → GoesOn old lease new → ⊥
back_stays_not old lease new (inl none) on = none lease.block on.0.0
back_stays_not old lease new (inr (inl own)) on = let some = on.1 in let no = own.1 in omega (arith, some, no)
back_stays_not old lease new (inr (inr other)) on =
    other.2 (one_first (can_be_leased (blocks old.table) old.table.settings (counts_with_lease_home (counts_in old) lease.worker lease.used)) (key_at new.homes) other.0 lease.block other.1 on.0)
