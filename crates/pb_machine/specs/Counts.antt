-- The lease machine without its rows: who has which lease, what is left of the budget, which blocks
-- are hot, and who has signed off. A journal can be judged by these alone. Hot blocks, which others
-- leave so that they become free, are those of Burns, Lemons, Ruml, Zhou (2010).
use Rattle.std.specs.Prelude.{◌≡◌, ℕ, ◌+◌, ◌-◌, ◌<◌, ◌≤◌, Bool, true, false, IsTrue, IsFalse, not, ◌&&◌, ◌||◌, ◌==◌, is_some, is_none, Option, Some, None}
use Rattle.pb_machine.specs.declared.event.End.{End}
use Rattle.pb_machine.specs.declared.event.End.TheVariants.{Quiet, Budget}
use Rattle.pb_machine.specs.declared.event.Event.{Event}
use Rattle.pb_machine.specs.declared.event.Event.TheVariants.{Lease, Renew, Hot, Cold, Release, Off, Ended}
use Rattle.pb_machine.specs.declared.event.Grant.{Grant}
use Rattle.pb_machine.specs.declared.settings.Settings.{Settings}
use Rattle.pb_machine.specs.Tables.{with_entry, any_below, sum_below, count_below}
use Rattle.pb_machine.specs.Blocks.{Blocks, meets, interferes}

pub record Counts : Type 0 where
  pub leases : ℕ → Option Grant  -- by worker
  pub hot : ℕ → Bool  -- by block
  pub signed_off : ℕ → Bool  -- by worker
  pub spent : ℕ  -- the expansions that were settled
  pub left : ℕ  -- what is left of the budget
  pub end : Option End
  pub trouble : Bool  -- the last event reported out of memory, before any end

-- The counts at the start of a run. Runs before it on the same rows, with other weights, spent this
-- much of the one budget: 0 for the first run.
abbrev pub opening_counts : Settings → (before : ℕ) → Counts
opening_counts settings before =
    record {
      leases = λ worker. None;
      hot = λ block. false;
      signed_off = λ worker. false;
      spent = before;
      left = settings.budget - before;
      end = None;
      trouble = false;
    }

-- whether there is a lease whose block passes
abbrev pub is_lease_of : (ℕ → Bool) → Option Grant → Bool
is_lease_of test None = false
is_lease_of test (Some grant) = test grant.block

abbrev pub quota_of : Option Grant → ℕ
quota_of None = 0
quota_of (Some grant) = grant.quota

abbrev pub quotas_out : (workers : ℕ) → (ℕ → Option Grant) → ℕ
quotas_out workers leases = sum_below workers (λ worker. quota_of (leases worker))

abbrev pub is_any_out : (workers : ℕ) → (ℕ → Option Grant) → Bool
is_any_out workers leases = any_below workers (λ worker. is_some (leases worker))

-- whether a leased block is in the interference of the block
abbrev pub is_busy : Blocks → (workers : ℕ) → (ℕ → Option Grant) → (block : ℕ) → Bool
is_busy blocks workers leases block =
    any_below workers (λ worker. is_lease_of (interferes blocks block) (leases worker))

-- whether a leased scope has a block in common with the block's
abbrev pub is_taken : Blocks → (workers : ℕ) → (ℕ → Option Grant) → (block : ℕ) → Bool
is_taken blocks workers leases block =
    any_below workers (λ worker. is_lease_of (meets blocks block) (leases worker))

-- whether a hot block is in the interference of the block
abbrev pub is_near_hot : Blocks → (hot : ℕ → Bool) → (block : ℕ) → Bool
is_near_hot blocks hot block =
    any_below blocks.count (λ other. interferes blocks block other && hot other)

abbrev pub with_quota : ℕ → Option Grant → Option Grant
with_quota quota None = None
with_quota quota (Some grant) = Some (record grant { quota = quota })

-- The counts after an event. A renewal or a release settles the used expansions, and gives back the
-- others. A hot mark makes the hot blocks of its interference cold, and a release those that are no
-- longer busy.
abbrev pub counts_after : Blocks → Settings → Counts → Event → Counts
counts_after blocks settings counts (Lease worker block quota) =
    record counts {
      leases = with_entry counts.leases worker
          (Some (record { block = block; quota = quota }));
      left = counts.left - quota;
    }
counts_after blocks settings counts (Renew worker used quota) =
    record counts {
      leases = with_entry counts.leases worker (with_quota quota (counts.leases worker));
      spent = counts.spent + used;
      left = (counts.left + (quota_of (counts.leases worker) - used)) - quota;
    }
counts_after blocks settings counts (Hot worker block) =
    record counts {
      hot = λ other. (other == block)
          || (counts.hot other && not (interferes blocks block other));
    }
counts_after blocks settings counts (Cold worker block) =
    record counts { hot = λ other. counts.hot other && not (other == block) }
counts_after blocks settings counts (Release worker used memory) =
    record counts {
      leases = with_entry counts.leases worker None;
      hot =
          λ block. counts.hot block && is_busy blocks settings.workers
          (with_entry counts.leases worker None) block;
      spent = counts.spent + used;
      left = counts.left + (quota_of (counts.leases worker) - used);
      trouble = memory && is_none counts.end;
    }
counts_after blocks settings counts (Off worker memory) =
    record counts {
      signed_off = with_entry counts.signed_off worker true;
      trouble = memory && is_none counts.end;
    }
counts_after blocks settings counts (Ended end) = record counts { end = Some end; trouble = false }

-- what is true of the counts after every legal history
pub record AreLawful (blocks : Blocks) (settings : Settings) (counts : Counts) : Type 0 where
  pub known : (worker : ℕ) (grant : Grant) → counts.leases worker ≡ Some grant
      → (worker < settings.workers)
      × (grant.block < blocks.count)
  pub quota : (worker : ℕ) (grant : Grant) → counts.leases worker ≡ Some grant
      → (0 < grant.quota) × (grant.quota ≤ settings.lot)
  -- the scopes of two leases have no block in common
  pub apart : (worker other : ℕ) (grant second : Grant) → counts.leases worker ≡ Some grant
      → counts.leases other ≡ Some second
      → IsFalse (worker == other) → IsFalse (meets blocks grant.block second.block)
  pub hot_is_known : (block : ℕ) → IsTrue (counts.hot block)
      → (block < blocks.count) × IsFalse settings.plain
  pub hot_is_busy : (block : ℕ) → IsTrue (counts.hot block)
      → IsTrue (is_busy blocks settings.workers counts.leases block)
  pub hot_are_apart : (block other : ℕ) → IsTrue (counts.hot block) → IsTrue (counts.hot other)
      → IsFalse (interferes blocks block other)
  pub sum : counts.spent + quotas_out settings.workers counts.leases + counts.left ≡ settings.budget
  -- Who has signed off is one of the workers and has no lease. The search has ended, or an
  -- out-of-memory report is to end it.
  pub off : (worker : ℕ) → IsTrue (counts.signed_off worker)
      → (worker < settings.workers) × (counts.leases worker ≡ None)
      × IsTrue (is_some counts.end || counts.trouble)
  -- While an out-of-memory report waits, there is no end, and at most one worker has signed off.
  pub trouble : IsTrue counts.trouble → counts.end ≡ None
  pub waiting : IsTrue counts.trouble → count_below settings.workers counts.signed_off ≤ 1
  pub quiet : counts.end ≡ Some Quiet → IsFalse (is_any_out settings.workers counts.leases)
  pub budget : counts.end ≡ Some Budget → IsFalse (is_any_out settings.workers counts.leases)
      × (counts.left ≡ 0)
