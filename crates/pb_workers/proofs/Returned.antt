-- What a lease that came back leaves.
use Rattle.std.proofs.Common.{◌≡◌, ℕ, ◌+◌, ◌-◌, ◌<◌, Bool, true, false, cond, ◌&&◌, is_some, is_none, [], ◌∷◌, Option, Some, None, refl, sym, ap, ◌∙◌, arith, subst, true≢false}
use Rattle.pb_model.specs.Store.{Rows, HasOpened}
use Rattle.pb_model.proofs.Callers.{equal_self}
use Rattle.pb_machine.specs.declared.event.End.{End}
use Rattle.pb_machine.specs.declared.event.End.TheVariants.{Memory}
use Rattle.pb_machine.specs.declared.event.Event.TheVariants.{Release, Ended}
use Rattle.pb_machine.specs.declared.event.Grant.{Grant}
use Rattle.pb_machine.specs.declared.settings.Settings.{Settings}
use Rattle.pb_machine.specs.Tables.{count_below}
use Rattle.pb_machine.specs.Blocks.{Blocks}
use Rattle.pb_machine.specs.Counts.{Counts, quota_of, counts_after}
use Rattle.pb_machine.specs.Machine.{Machine, lent_store}
use Rattle.pb_machine.proofs.Callers.{entry_here}
use Rattle.pb_abstract.specs.Graph.{AbstractGraph, blocks_of}
use Rattle.pb_lists.specs.Bundle.{Content}
use Rattle.pb_bundles.specs.Parts.{content_in}
use Rattle.pb_bundles.specs.Homes.{key_at}
use Rattle.pb_bundles.proofs.Callers.{opened_is_by_key}
use Rattle.pb_lease.specs.Tables.{blocks}
use Rattle.pb_lease.specs.Events.{counts_along, ending}
use Rattle.pb_lease.specs.LeaseValue.{LeaseValue, leased_store}
use Rattle.pb_lease.specs.Leased.{grant_of, IsOutInTurns}
use Rattle.pb_lease.specs.GraphValue.{GraphValue, setup_in, counts_in, IsLeaseGraph, IsOfGraph}
use Rattle.pb_lease.specs.Moments.{IsMoment}
use Rattle.pb_lease.specs.Steps.{IsReleased}
use Rattle.pb_lease.proofs.Callers.{setup_is}
use Rattle.pb_yard.proofs.Callers.{brought_opened, block_known, none_here, none_left}
use Rattle.pb_workers.specs.Runs.{IsSameSearch}
use Rattle.pb_workers.specs.Holding.{opened_blocks}
use Rattle.pb_workers.proofs.Opened.{none_opened, count_fewer}

-- ---- the end that follows from want of memory changes nothing else

pub ending_same : {A : Type 0} (of : Counts → A) (blocks : Blocks) (settings : Settings) (counts : Counts) (memory : Bool) (end : Option End)
    → ((c : Counts) → of (counts_after blocks settings c (Ended Memory)) ≡ of c) → of (counts_along blocks settings counts (ending memory end)) ≡ of counts
ending_same of blocks settings counts memory end same = go (memory && is_none end)
  where
    go : (r : Bool) → of (counts_along blocks settings counts (cond r (Ended Memory ∷ []) [])) ≡ of counts
    go true = same counts
    go false = refl

pub ended_by_memory : (blocks : Blocks) (settings : Settings) (counts : Counts) (end : Option End) → end ≡ None
    → (counts_along blocks settings counts (ending true end)).end ≡ Some Memory
ended_by_memory blocks settings counts end none = subst (λ (o : Option End). (counts_along blocks settings counts (ending true o)).end ≡ Some Memory) (sym none) refl

-- ---- numbers

module _ (old : GraphValue) (lease : LeaseValue) (memory : Bool) (new : GraphValue) (r : IsReleased old lease memory new) where
  abbrev Back : Counts
  Back = counts_after (blocks old.table) old.table.settings (counts_in old) (Release lease.worker lease.used memory)

  pub returned_same : IsSameSearch old new
  returned_same = record { task = r.task; abstraction = r.events.abstraction; choice = r.choice; settings = r.events.settings; past = r.events.past }

  pub returned_vacant : (counts_in new).leases lease.worker ≡ None
  returned_vacant = ap (λ (c : Counts). c.leases lease.worker) r.events.counts
      ∙ ending_same (λ c. c.leases lease.worker) (blocks old.table) old.table.settings Back memory old.table.end (λ c. refl)
      ∙ entry_here (counts_in old).leases lease.worker lease.worker None (equal_self lease.worker)

  pub returned_signed : (counts_in new).signed_off ≡ (counts_in old).signed_off
  returned_signed = ap (λ (c : Counts). c.signed_off) r.events.counts
      ∙ ending_same (λ c. c.signed_off) (blocks old.table) old.table.settings Back memory old.table.end (λ c. refl)

  pub returned_left : (counts_in old).leases lease.worker ≡ Some (grant_of lease) → new.table.left ≡ old.table.left + (lease.quota - lease.used)
  returned_left leased = ap (λ (c : Counts). c.left) r.events.counts
      ∙ ending_same (λ c. c.left) (blocks old.table) old.table.settings Back memory old.table.end (λ c. refl)
      ∙ ap (λ (o : Option Grant). old.table.left + (quota_of o - lease.used)) leased

pub returned_end : (old : GraphValue) (lease : LeaseValue) (new : GraphValue) → IsReleased old lease true new → old.table.end ≡ None → new.table.end ≡ Some Memory
returned_end old lease new r none = ap (λ (c : Counts). c.end) r.events.counts
    ∙ ended_by_memory (blocks old.table) old.table.settings (Back old lease true new r) old.table.end none

-- ---- keys

module _ (old : GraphValue) (k : IsLeaseGraph old) (lease : LeaseValue) (of : IsOfGraph old lease) (new : GraphValue) (r : IsReleased old lease false new)
    (recorded : (worker : ℕ) → Rows) (machine : Machine) (m : IsMoment old recorded machine) (out : IsOutInTurns (setup_in old) machine 0 lease) where
  -- no row of its block is Opened in the whole store then
  pub none_opened_then : (HasOpened ((leased_store lease).rows lease.block) → ⊥) → (after : (worker : ℕ) → Rows) (next : Machine) → IsMoment new after next
      → HasOpened (next.store.rows lease.block) → ⊥
  none_opened_then none after next n = none_left old lease new r.noted (setup_is old k) of recorded machine m.at none after next n.at

  module _ (unused : lease.used ≡ 0) where
    lent : (block : ℕ) → HasOpened ((leased_store lease).rows block) → HasOpened ((lent_store (setup_in old) lease.block machine.store (machine.given lease.worker)).rows block)
    lent block h = none_opened (setup_in old).space (setup_in old).guide lease.block (machine.known lease.worker) out.0.work.works
        (lent_store (setup_in old) lease.block machine.store (machine.given lease.worker)) (leased_store lease) out.0.work.on out.0.work.comes
        (out.0.work.used_is ∙ unused) (let few = out.0.work.few_broken in omega (arith, few)) block h

    inside : (block : ℕ) → HasOpened ((lent_store (setup_in old) lease.block machine.store (machine.given lease.worker)).rows block) → HasOpened (machine.store.rows block)
    inside block h = (h.0, h.1, go ((blocks old.table).scope lease.block block) h.2, h.3)
      where
        go : (b : Bool) → cond b (machine.store.rows block h.0) None ≡ Some h.1 → machine.store.rows block h.0 ≡ Some h.1
        go true e = e
        go false e = absurd (true≢false (sym (ap is_some e)))

    still_opened : (block : ℕ) → is_some (key_at new.homes block) ≡ true → is_some (key_at old.homes block) ≡ true
    still_opened block there = go (content_in lease.parts block) refl
      where
        go : (o : Option Content) → content_in lease.parts block ≡ o → is_some (key_at old.homes block) ≡ true
        go None is = ap is_some (sym (r.noted.others block is)) ∙ there
        go (Some content) is = ((opened_is_by_key machine.store (key_at old.homes) m.at.keys).0 block).1 (inside block (lent block (brought_opened old lease new r.noted block content is there)))

    -- fewer blocks have an Opened row: not the lease's any more, and no other one that had none
    pub fewer_opened : is_some (key_at old.homes lease.block) ≡ true → (HasOpened ((leased_store lease).rows lease.block) → ⊥) → opened_blocks new < opened_blocks old
    fewer_opened opened none =
        subst (λ (a : AbstractGraph). count_below (blocks_of a).count (λ block. is_some (key_at new.homes block)) < opened_blocks old) (sym r.events.abstraction)
        (count_fewer (blocks old.table).count lease.block (λ block. is_some (key_at new.homes block)) (λ block. is_some (key_at old.homes block)) still_opened (block_known old lease new r.noted (setup_is old k) of recorded machine m.at)
        (none_here old lease new r.noted (setup_is old k) of recorded machine m.at none) opened)
