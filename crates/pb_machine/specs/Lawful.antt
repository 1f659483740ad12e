-- What is true of the lease machine at every moment.
use Rattle.std.specs.Prelude.{◌≡◌, ℕ, ◌+◌, ◌<◌, ◌≤◌, Bool, false, ◌&&◌, ◌||◌, ◌==◌, IsTrue, IsFalse, List, Option, Some, None, ◌⊎◌, ⊤}
use Rattle.std.specs.List.{AllByRecursion}
use Rattle.pb_model.specs.Weight.{Weight, IsWeight}
use Rattle.pb_model.specs.Plan.{Plan, IsPlan}
use Rattle.pb_model.specs.Store.{HasGoalWithin, HasOpened, IsQuiet, AtMost}
use Rattle.pb_model.specs.Work.{Work, lower, reopen, Comes, expansions, broken_expansions, reopenings, ReopensQuiet, opening_store, store_after}
use Rattle.pb_machine.specs.declared.event.End.TheVariants.{Quiet, Budget, Memory}
use Rattle.pb_machine.specs.declared.event.Grant.{Grant}
use Rattle.pb_machine.specs.Settings.{weight_of, settings_with}
use Rattle.pb_machine.specs.Tables.{count_below}
use Rattle.pb_machine.specs.Counts.{Counts, opening_counts, AreLawful}
use Rattle.pb_machine.specs.Machine.{Setup, is_same, Machine}

-- how many workers' leases were released with an out-of-memory report
abbrev pub broken_leases : Setup → Machine → ℕ
broken_leases setup machine = count_below setup.settings.workers machine.broken

-- how many workers' leases were released with an out-of-memory report, and how many workers have
-- signed off, together
abbrev pub reports : (workers : ℕ) → Counts → (broken : ℕ → Bool) → ℕ
reports workers counts broken = count_below workers broken + count_below workers counts.signed_off

-- What holds of out-of-memory reports. A worker whose lease was released with one takes no other
-- lease: the search ends by its report, or had ended so before. A report that waits for its end was
-- made by one worker, by its release or by its sign-off. An end by running out of memory was
-- reported by at least one worker.
pub record AreReported (workers : ℕ) (counts : Counts) (broken : ℕ → Bool) : Type 0 where
  pub released : (worker : ℕ) → IsTrue (broken worker) → (worker < workers)
      × (counts.leases worker ≡ None)
      × (IsTrue counts.trouble ⊎ (counts.end ≡ Some Memory))
  pub waiting : IsTrue counts.trouble → reports workers counts broken ≡ 1
  pub ended : counts.end ≡ Some Memory → 0 < reports workers counts broken

-- a cost that the work lowers the incumbent to is known to some worker
abbrev pub IsRead : (known : (worker : ℕ) → Option ℕ → Bool) → Work → Type 0
IsRead known (lower cost) = (worker : ℕ) × IsTrue (known worker (Some cost))
IsRead known work = ⊤

-- The store comes from an opening one by exactly the expansions that were settled, by broken
-- expansions, and by as many reopenings as there were. There is at most one broken expansion for
-- each worker whose lease was released with an out-of-memory report. At each reopening no row was
-- Opened. Without a reopening the first weight is that of the settings, and the work reads only
-- numbers that some worker can have read.
pub record IsReached (setup : Setup) (machine : Machine) : Type 0 where
  pub first_weight : Weight
  pub is_weight : IsWeight first_weight
  pub works : List Work
  pub comes : Comes setup.space setup.guide works
      (opening_store setup.space setup.guide first_weight) machine.store
  pub spent : expansions works ≡ machine.counts.spent
  pub broken : broken_expansions works ≤ broken_leases setup machine
  pub reopened : reopenings works ≡ setup.reopenings
  pub between : ReopensQuiet setup.space setup.guide works
      (opening_store setup.space setup.guide first_weight)
  pub read : setup.reopenings ≡ 0 → AllByRecursion (IsRead machine.known) works

-- some worker that has a lease told this cost or a lower one
abbrev pub IsTold : Machine → (cost : ℕ) → Type 0
IsTold machine cost =
    (worker : ℕ) × (grant : Grant) × (told : ℕ) × (machine.counts.leases worker ≡ Some grant)
    × (machine.told worker ≡ Some told) × (told ≤ cost)

pub record IsLawful (setup : Setup) (machine : Machine) : Type 0 where
  pub counts : AreLawful setup.blocks setup.settings machine.counts
  pub reached : IsReached setup machine
  pub weight : machine.store.weight ≡ weight_of setup.settings
  -- the incumbent is known to each worker, and no known one is lower, nor any that a worker read
  pub is_known : (worker : ℕ) → IsTrue (machine.known worker machine.store.incumbent)
  pub least : (worker : ℕ) (incumbent : Option ℕ) → IsTrue (machine.known worker incumbent)
      → AtMost machine.store.incumbent incumbent
  -- the incumbent that a worker's lease was given is known to it
  pub given : (worker : ℕ) → IsTrue (machine.known worker (machine.given worker))
  -- a goal's row backs the incumbent, or a worker that told it and has still to bring the row
  pub backed : (cost : ℕ) → machine.store.incumbent ≡ Some cost
      → HasGoalWithin setup.space setup.guide machine.store cost ⊎ IsTold machine cost
  -- a worker that told a cost has a lease and knows the cost, so the incumbent is no greater
  pub teller : (worker cost : ℕ) → machine.told worker ≡ Some cost
      → ((grant : Grant) × (machine.counts.leases worker ≡ Some grant))
      × IsTrue (machine.known worker (Some cost))
  -- for each told cost, some plan costs at most as much
  pub told : (worker cost : ℕ) → machine.told worker ≡ Some cost
      → (plan : Plan) × IsPlan setup.space plan × (plan.cost ≤ cost)
  pub quiet : machine.counts.end ≡ Some Quiet → IsQuiet machine.store
  pub budget : machine.counts.end ≡ Some Budget → (block : ℕ) × HasOpened (machine.store.rows block)
  pub reported : AreReported setup.settings.workers machine.counts machine.broken

-- The worker, and no other, has signed off, or its lease was released with an out-of-memory report.
-- For this worker exactly one of the two holds.
pub record IsOnlyReporter (setup : Setup) (machine : Machine) (worker : ℕ) : Type 0 where
  pub known : worker < setup.settings.workers
  pub reported : IsTrue (machine.broken worker || machine.counts.signed_off worker)
  pub once : IsFalse (machine.broken worker && machine.counts.signed_off worker)
  pub unleased : machine.counts.leases worker ≡ None
  pub no_other : (other : ℕ) → IsFalse (other == worker)
      → IsFalse (machine.broken other || machine.counts.signed_off other)

-- The machine with another weight. Rows that may not be cut under the weight are Opened again,
-- nobody has signed off, and the search has not ended. The spent and the left expansions stay.
abbrev pub reopened_machine : Setup → Weight → Machine → Machine
reopened_machine setup weight machine =
    record {
      counts = opening_counts setup.settings machine.counts.spent;
      store = store_after setup.space setup.guide (reopen weight) machine.store;
      given = λ worker. machine.store.incumbent;
      told = λ worker. None;
      known = λ worker incumbent. is_same incumbent machine.store.incumbent;
      broken = λ worker. false;
    }

abbrev pub reopened_setup : Setup → Weight → Setup
reopened_setup setup weight =
    record setup {
      settings = settings_with setup.settings weight setup.settings.pattern;
      reopenings = setup.reopenings + 1;
    }
