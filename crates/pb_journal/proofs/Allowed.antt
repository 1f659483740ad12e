-- What is true of an event that may come next.
use Rattle.std.proofs.Common.{◌≡◌, ℕ, ◌+◌, ◌-◌, ◌<◌, ◌≤◌, ◌^◌, min, Bool, false, not, nat_lt, is_some, true≢false, Option, Some, None, refl, ap, arith}
use Rattle.pb_model.proofs.Callers.{and_true, or_false, not_false, equal, below, not_below}
use Rattle.pb_machine.specs.declared.event.Event.TheVariants.{Lease, Renew, Hot, Cold, Release, Off}
use Rattle.pb_machine.specs.declared.event.Grant.{Grant}
use Rattle.pb_machine.specs.declared.event.EventRefusal.{EventRefusal}
use Rattle.pb_machine.specs.declared.settings.Settings.{Settings}
use Rattle.pb_machine.specs.Settings.{AreInRange}
use Rattle.pb_machine.specs.Blocks.{Blocks}
use Rattle.pb_machine.specs.Counts.{Counts, AreLawful, quota_of}
use Rattle.pb_machine.specs.Legality.{is_wrong_quota, refusal}
use Rattle.pb_machine.proofs.Callers.{passes, within, grant_of}
use Rattle.pb_journal.proofs.Budgets.{quota_within}

-- nothing refuses
pub is_nothing : (o : Option EventRefusal) → is_some o ≡ false → o ≡ None
is_nothing None h = refl
is_nothing (Some why) h = absurd (true≢false h)

module _ (blocks : Blocks) (settings : Settings) (counts : Counts) where
  is_known : (block : ℕ) → not (nat_lt block blocks.count) ≡ false → block < blocks.count
  is_known block h = below block blocks.count (not_false _ h)

  right_quota : (left quota : ℕ) → is_wrong_quota settings left quota ≡ false → quota
      ≡ min settings.lot left
  right_quota left quota h = equal quota (min settings.lot left) (and_true _ _ (not_false _ h)).1

  pub lease_allowed : (worker block quota : ℕ)
      → refusal blocks settings counts (Lease worker block quota) ≡ None
      → (worker < settings.workers) × (block < blocks.count)
      × (quota ≡ min settings.lot counts.left)
  lease_allowed worker block quota may =
      let p = passes blocks settings counts (Lease worker block quota) may in (
        within blocks settings counts worker p.1.0,
        is_known block p.1.1.1.0,
        right_quota counts.left quota p.1.1.1.1.1.1.0,
      )

  pub renewal_allowed : (worker used quota : ℕ)
      → refusal blocks settings counts (Renew worker used quota) ≡ None
      → (worker < settings.workers)
      × ((grant : Grant) × (counts.leases worker ≡ Some grant) × (used ≤ grant.quota))
      × (quota ≡ min settings.lot (counts.left + (quota_of (counts.leases worker) - used)))
  renewal_allowed worker used quota may =
      let p = passes blocks settings counts (Renew worker used quota) may in
      let grant = grant_of (counts.leases worker) p.1.1.0 in
      let numbers = or_false _ _ p.1.1.1.1.0 in
      let few = not_below (quota_of (counts.leases worker)) used numbers.0 in
      let own = ap quota_of grant.1 in (
        within blocks settings counts worker p.1.0,
        (grant.0, grant.1, omega (arith, few, own)),
        right_quota (counts.left + (quota_of (counts.leases worker) - used)) quota numbers.1,
      )

  pub hot_allowed : (worker block : ℕ) → refusal blocks settings counts (Hot worker block) ≡ None
      → (worker < settings.workers) × (block < blocks.count)
  hot_allowed worker block may = let p =
      passes blocks settings counts (Hot worker block) may in
      (within blocks settings counts worker p.1.0, is_known block p.1.1.1.0)

  pub cold_allowed : (worker block : ℕ) → refusal blocks settings counts (Cold worker block) ≡ None
      → (worker < settings.workers) × (block < blocks.count)
  cold_allowed worker block may = let p =
      passes blocks settings counts (Cold worker block) may in
      (within blocks settings counts worker p.1.0, is_known block p.1.1.1.0)

  pub release_allowed : (worker used : ℕ) (memory : Bool)
      → refusal blocks settings counts (Release worker used memory) ≡ None
      → (worker < settings.workers)
      × ((grant : Grant) × (counts.leases worker ≡ Some grant) × (used ≤ grant.quota))
  release_allowed worker used memory may =
      let p = passes blocks settings counts (Release worker used memory) may in
      let grant = grant_of (counts.leases worker) p.1.0 in
      let few = not_below (quota_of (counts.leases worker)) used p.1.1.0 in
      let own = ap quota_of grant.1 in
      (within blocks settings counts worker p.0, (grant.0, grant.1, omega (arith, few, own)))

  pub off_allowed : (worker : ℕ) (memory : Bool)
      → refusal blocks settings counts (Off worker memory) ≡ None → worker < settings.workers
  off_allowed worker memory may =
      within blocks settings counts worker (passes blocks settings counts (Off worker memory) may).0

  -- the numbers of a renewal stay small
  pub renewal_fits : (worker used quota : ℕ) → AreInRange settings
      → AreLawful blocks settings counts → refusal blocks settings counts (Renew worker used quota)
      ≡ None
      → (counts.spent + used < 2 ^ 64) × (counts.left + quota_of (counts.leases worker) < 2 ^ 64)
      × (quota ≤ counts.left + (quota_of (counts.leases worker) - used))
  renewal_fits worker used quota range lawful may =
      let allowed = renewal_allowed worker used quota may in
      let own = ap quota_of allowed.1.1 in
      let small = quota_within blocks settings counts worker allowed.1.0 range lawful allowed.1.1 in
      (omega (arith, small, allowed.1.2), omega (arith, small, own), omega (arith, allowed.2))

  pub release_fits : (worker used : ℕ) (grant : Grant) → AreInRange settings
      → AreLawful blocks settings counts → counts.leases worker ≡ Some grant → used ≤ grant.quota
      → (counts.spent + used < 2 ^ 64) × (counts.left + grant.quota < 2 ^ 64)
  release_fits worker used grant range lawful leased few = let small =
      quota_within blocks settings counts worker grant range lawful leased in
      (omega (arith, small, few), omega (arith, small))
