-- How many leased and how many hot blocks a block has to wait for (the sigma values of Parallel
-- Structured Duplicate Detection, Zhou, Hansen 2007). These numbers are kept beside the sets: each
-- block that is leased, comes back, or is marked changes the numbers of its interference by one.
use Rattle.std.specs.Prelude.{◌≡◌, ℕ, ◌+◌, Bool, not, ◌&&◌, Option, Some}
use Rattle.pb_machine.specs.declared.event.Event.{Event}
use Rattle.pb_machine.specs.declared.event.Event.TheVariants.{Lease, Hot, Cold, Release}
use Rattle.pb_machine.specs.declared.event.Grant.{Grant}
use Rattle.pb_machine.specs.declared.settings.Settings.{Settings}
use Rattle.pb_machine.specs.Tables.{one_if, count_below}
use Rattle.pb_machine.specs.Blocks.{Blocks, interferes}
use Rattle.pb_machine.specs.Counts.{Counts, is_lease_of, is_busy, counts_after}

-- how many leased blocks are in the interference of the block
abbrev pub busy_count : Blocks → (workers : ℕ) → (ℕ → Option Grant) → (block : ℕ) → ℕ
busy_count blocks workers leases block =
    count_below workers (λ worker. is_lease_of (interferes blocks block) (leases worker))

-- how many hot blocks are in the interference of the block
abbrev pub hot_count : Blocks → (hot : ℕ → Bool) → (block : ℕ) → ℕ
hot_count blocks hot block =
    count_below blocks.count (λ other. interferes blocks block other && hot other)

-- how many hot blocks that pass are in the interference of the block
abbrev pub hot_count_of : Blocks → (test hot : ℕ → Bool) → (block : ℕ) → ℕ
hot_count_of blocks test hot block =
    count_below blocks.count (λ other. interferes blocks block other && (hot other && test other))

-- The number of leased blocks before and after this event: a lease adds one to the interference of
-- its block, and a release takes one from it.
abbrev pub ChangesBusy : Blocks → Counts → Event → (block old new : ℕ) → Type 0
ChangesBusy blocks counts (Lease worker leased quota) block old new =
    new ≡ old + one_if (interferes blocks block leased)
ChangesBusy blocks counts (Release worker used memory) block old new =
    (grant : Grant) × (counts.leases worker ≡ Some grant)
    × (new + one_if (interferes blocks block grant.block) ≡ old)
ChangesBusy blocks counts event block old new = new ≡ old

-- The number of hot blocks before and after this event: a hot mark adds one to the interference of
-- its block, and each block that becomes cold takes one from its own.
abbrev pub ChangesHot : Blocks → Settings → Counts → Event → (block old new : ℕ) → Type 0
ChangesHot blocks settings counts (Hot worker marked) block old new =
    new + hot_count_of blocks (interferes blocks marked) counts.hot block
    ≡ old + one_if (interferes blocks block marked)
ChangesHot blocks settings counts (Cold worker marked) block old new =
    new + one_if (interferes blocks block marked) ≡ old
ChangesHot blocks settings counts (Release worker used memory) block old new =
    new + hot_count_of blocks
    (λ other. not (is_busy blocks settings.workers
    (counts_after blocks settings counts (Release worker used memory)).leases other))
    counts.hot block ≡ old
ChangesHot blocks settings counts event block old new = new ≡ old
