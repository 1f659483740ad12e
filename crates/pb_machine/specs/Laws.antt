-- The laws of the lease machine with its rows. Each is proved, as the contract of the public
-- function that has its name.
use Rattle.std.specs.Prelude.{◌≡◌, ℕ, ◌+◌, ◌-◌, ◌*◌, ◌^◌, ◌<◌, ◌≤◌, Bool, not, IsTrue, IsFalse, ◌==◌, List, ◌++◌, Option, Some, None}
use Rattle.pb_model.specs.Space.{Space}
use Rattle.pb_model.specs.Weight.{Weight, IsWeight}
use Rattle.pb_model.specs.Guide.{Guide, IsAdmissible}
use Rattle.pb_model.specs.Plan.{Plan, IsPlan, IncumbentHolds}
use Rattle.pb_model.specs.Store.{Rows, Store, IsShown, HasOpened, CostsAtMost, AtMost}
use Rattle.pb_model.specs.Work.{Work, Comes, expansions, broken_expansions, reopenings, ReopensQuiet, opening_store}
use Rattle.pb_model.specs.Sound.{IsSound}
use Rattle.pb_model.specs.Local.{AgreesOn, merged_store}
use Rattle.pb_machine.specs.declared.event.End.TheVariants.{Quiet, Budget}
use Rattle.pb_machine.specs.declared.event.Event.TheVariants.{Lease, Renew, Release}
use Rattle.pb_machine.specs.declared.event.Grant.{Grant}
use Rattle.pb_machine.specs.Tables.{with_entry}
use Rattle.pb_machine.specs.Settings.{weight_of, AreInRange}
use Rattle.pb_machine.specs.Counts.{Counts, opening_counts, counts_after, is_any_out, AreLawful}
use Rattle.pb_machine.specs.Legality.{refusal}
use Rattle.pb_machine.specs.History.{IsHistory}
use Rattle.pb_machine.specs.Choice.{MayBeLeased}
use Rattle.pb_machine.specs.Machine.{Setup, IsSetup, Machine, opening_machine, lent_store, IsWorked, HasWorked, CameBack, Move, Moves, Runs, journal_of, AreOfOthers}
use Rattle.pb_machine.specs.Turns.{AreLeaseTurns, AreOnFirst, RunsInOrder}
use Rattle.pb_machine.specs.Lawful.{broken_leases, IsLawful, IsOnlyReporter, reopened_machine, reopened_setup}
use Rattle.pb_machine.specs.Whole.{AreGone, IsWhole}

-- ---- at every moment

-- The machine is lawful when it opens for the first time.
abbrev pub OpeningIsLawful : Type 0
OpeningIsLawful =
    (setup : Setup) (greatest_cost : ℕ) → IsSetup setup greatest_cost → setup.reopenings ≡ 0
    → IsLawful setup (opening_machine setup)

-- Every event, every told cost and every switch keeps the machine lawful.
abbrev pub MovesKeepLawful : Type 0
MovesKeepLawful =
    (setup : Setup) (greatest_cost : ℕ) (move : Move) (old new : Machine)
    → IsSetup setup greatest_cost → IsLawful setup old
    → Moves setup old move new → IsLawful setup new

-- The machine is lawful after any moves from a lawful machine: that of the opening, or one that was
-- opened again.
abbrev pub RunsAreLawful : Type 0
RunsAreLawful =
    (setup : Setup) (greatest_cost : ℕ) (moves : List Move) (start machine : Machine)
    → IsSetup setup greatest_cost
    → IsLawful setup start → Runs setup start moves machine → IsLawful setup machine

-- The events of a run with settings in range are a legal history, which leads to the machine's
-- counts.
abbrev pub JournalsAreHistories : Type 0
JournalsAreHistories =
    (setup : Setup) (moves : List Move) (start machine : Machine) (before : ℕ)
    → AreInRange setup.settings
    → before ≤ setup.settings.budget
    → start.counts ≡ opening_counts setup.settings before → Runs setup start moves machine
    → IsHistory setup.blocks setup.settings before (journal_of moves) machine.counts

-- The whole store of a lawful machine is sound.
abbrev pub LawfulStoresAreSound : Type 0
LawfulStoresAreSound =
    (setup : Setup) (greatest_cost : ℕ) (machine : Machine) → IsSetup setup greatest_cost
    → IsLawful setup machine
    → IsSound setup.space setup.guide machine.store

-- The incumbent of a lawful machine, if it is known, is at least the cost of some plan.
abbrev pub IncumbentsArePlans : Type 0
IncumbentsArePlans =
    (setup : Setup) (greatest_cost : ℕ) (machine : Machine) → IsSetup setup greatest_cost
    → IsLawful setup machine
    → (cost : ℕ) → machine.store.incumbent ≡ Some cost → (plan : Plan) × IsPlan setup.space plan
    × (plan.cost ≤ cost)

-- The incumbent never rises.
abbrev pub IncumbentsFall : Type 0
IncumbentsFall = (setup : Setup) (moves : List Move) (old new : Machine) → Runs setup old moves new
    → AtMost new.store.incumbent old.store.incumbent

-- What is known to a worker stays known to it. A worker thus may have read later whatever it has
-- read before.
abbrev pub KnownStays : Type 0
KnownStays = (setup : Setup) (moves : List Move) (old new : Machine) → Runs setup old moves new
    → (worker : ℕ) (incumbent : Option ℕ) → IsTrue (old.known worker incumbent)
    → IsTrue (new.known worker incumbent)

-- Moves of other workers, or of nobody, leave these as before: a worker's lease, the incumbent that
-- it was given, and the cost that it told.
abbrev pub OthersAreLeft : Type 0
OthersAreLeft =
    (setup : Setup) (moves : List Move) (old new : Machine) (worker : ℕ) → Runs setup old moves new
    → AreOfOthers worker moves
    → (new.counts.leases worker ≡ old.counts.leases worker) × (new.given worker ≡ old.given worker)
    × (new.told worker ≡ old.told worker)

-- No g exceeds the greatest cost of an action times the number of expansions so far: those settled,
-- and a broken one for each worker whose lease was released with an out-of-memory report.
abbrev pub CostsGrowByExpansions : Type 0
CostsGrowByExpansions =
    (setup : Setup) (greatest_cost : ℕ) (machine : Machine) → IsSetup setup greatest_cost
    → IsLawful setup machine
    → CostsAtMost machine.store
    (greatest_cost * (machine.counts.spent + broken_leases setup machine))
    × (broken_leases setup machine ≤ setup.settings.workers)

-- No g exceeds the greatest cost of an action times the number of expansions: those of the budget,
-- and a broken one for each worker.
abbrev pub CostsStaySmall : Type 0
CostsStaySmall =
    (setup : Setup) (greatest_cost : ℕ) (machine : Machine) → IsSetup setup greatest_cost
    → IsLawful setup machine
    → CostsAtMost machine.store (greatest_cost * (setup.settings.budget + setup.settings.workers))

-- No g needs more than 61 bits if the settings are in range and no action costs more than 2 ^ 20.
abbrev pub CostsFit : Type 0
CostsFit =
    (setup : Setup) (machine : Machine) → IsSetup setup (2 ^ 20) → AreInRange setup.settings
    → IsLawful setup machine
    → CostsAtMost machine.store (2 ^ 61 - 1)

-- No g of a lease at work exceeds the greatest cost of an action times a number of expansions:
-- those of the budget, and a broken one for each worker. This holds if the lease made no more
-- expansions than its quota, and perhaps a broken one. It holds whatever the worker may have read.
abbrev pub LeaseCostsStaySmall : Type 0
LeaseCostsStaySmall =
    (setup : Setup) (greatest_cost : ℕ) (machine : Machine) (worker used most_broken : ℕ)
    (known : Option ℕ → Bool) (grant : Grant) (worked : Store)
    → IsSetup setup greatest_cost → IsLawful setup machine
    → machine.counts.leases worker ≡ Some grant
    → IsWorked setup.space setup.guide grant.block used most_broken known
    (lent_store setup grant.block machine.store (machine.given worker)) worked
    → used ≤ grant.quota
    → CostsAtMost worked (greatest_cost * (setup.settings.budget + setup.settings.workers))

-- No g of such a lease needs more than 61 bits, if the settings are in range and no action costs
-- more than 2 ^ 20.
abbrev pub LeaseCostsFit : Type 0
LeaseCostsFit =
    (setup : Setup) (machine : Machine) (worker used most_broken : ℕ) (known : Option ℕ → Bool)
    (grant : Grant) (worked : Store)
    → IsSetup setup (2 ^ 20) → AreInRange setup.settings → IsLawful setup machine
    → machine.counts.leases worker ≡ Some grant
    → IsWorked setup.space setup.guide grant.block used most_broken known
    (lent_store setup grant.block machine.store (machine.given worker)) worked
    → used ≤ grant.quota
    → CostsAtMost worked (2 ^ 61 - 1)

-- No block is in the scopes of two leases.
abbrev pub ScopesAreApart : Type 0
ScopesAreApart =
    (setup : Setup) (greatest_cost : ℕ) (machine : Machine) → IsSetup setup greatest_cost
    → IsLawful setup machine
    → (worker other : ℕ) (grant second : Grant) → machine.counts.leases worker ≡ Some grant
    → machine.counts.leases other ≡ Some second
    → IsFalse (worker == other)
    → (block : ℕ) → IsTrue (setup.blocks.scope grant.block block)
    → IsFalse (setup.blocks.scope second.block block)

-- If no lease is out before the end, each block with an Opened row may be leased while something is
-- left of the budget.
abbrev pub NoneOutMayLease : Type 0
NoneOutMayLease =
    (setup : Setup) (greatest_cost : ℕ) (machine : Machine) → IsSetup setup greatest_cost
    → IsLawful setup machine
    → IsFalse (is_any_out setup.settings.workers machine.counts.leases) → machine.counts.end ≡ None
    → 0 < machine.counts.left
    → (block : ℕ) → HasOpened (machine.store.rows block)
    → MayBeLeased setup.blocks setup.settings machine.counts machine.store block

-- If no lease is out, nobody has told a cost that is still to be shown.
abbrev pub NoneOutUntold : Type 0
NoneOutUntold = (setup : Setup) (machine : Machine) → IsLawful setup machine
    → IsFalse (is_any_out setup.settings.workers machine.counts.leases) → (worker : ℕ)
    → machine.told worker ≡ None

-- If no lease is out, the incumbent is shown by a goal's row, from which a plan is traced.
abbrev pub NoneOutIsShown : Type 0
NoneOutIsShown =
    (setup : Setup) (greatest_cost : ℕ) (machine : Machine) → IsSetup setup greatest_cost
    → IsLawful setup machine
    → IsFalse (is_any_out setup.settings.workers machine.counts.leases)
    → IsShown setup.space setup.guide machine.store

-- At a quiet end, with admissible estimates, the incumbent bounds the costs of plans: a plan costs
-- no more, and no plan costs less than the incumbent divided by the weight. Without an incumbent
-- there is no plan.
abbrev pub QuietEndsAreBest : Type 0
QuietEndsAreBest =
    (setup : Setup) (greatest_cost : ℕ) (machine : Machine) → IsSetup setup greatest_cost
    → IsLawful setup machine
    → machine.counts.end ≡ Some Quiet
    → IsAdmissible setup.space setup.guide.estimate
    → IncumbentHolds setup.space (weight_of setup.settings) machine.store.incumbent

-- At the budget's end exactly as many expansions as the budget allows lead from an opening store to
-- one with an Opened row. None of them is broken. There is a reopening between one run and the
-- next, when no row was Opened. The opening store of a first run has the settings' weight.
abbrev pub BudgetEndsAreSpent : Type 0
BudgetEndsAreSpent =
    (setup : Setup) (greatest_cost : ℕ) (machine : Machine) → IsSetup setup greatest_cost
    → IsLawful setup machine → machine.counts.end ≡ Some Budget
    → (weight : Weight) × (works : List Work) × IsWeight weight
    × Comes setup.space setup.guide works (opening_store setup.space setup.guide weight)
    machine.store
    × (expansions works ≡ setup.settings.budget) × (broken_expansions works ≡ 0)
    × (reopenings works ≡ setup.reopenings)
    × ReopensQuiet setup.space setup.guide works (opening_store setup.space setup.guide weight)
    × (setup.reopenings ≡ 0 → weight ≡ weight_of setup.settings)
    × ((block : ℕ) × HasOpened (machine.store.rows block))

-- A machine at a quiet end is lawful when it is opened again with another weight. The spent and the
-- left expansions stay, and so does the incumbent.
abbrev pub ReopeningIsLawful : Type 0
ReopeningIsLawful =
    (setup : Setup) (greatest_cost : ℕ) (weight : Weight) (machine : Machine)
    → IsSetup setup greatest_cost → IsLawful setup machine
    → machine.counts.end ≡ Some Quiet → IsWeight weight
    → IsSetup (reopened_setup setup weight) greatest_cost
    × IsLawful (reopened_setup setup weight) (reopened_machine setup weight machine)
    × ((reopened_machine setup weight machine).counts.left ≡ machine.counts.left)
    × ((reopened_machine setup weight machine).store.incumbent ≡ machine.store.incumbent)

-- While an out-of-memory report waits for its end, exactly one worker has signed off or released
-- its lease with it: the reporter.
abbrev pub WaitingReportsAreOne : Type 0
WaitingReportsAreOne =
    (setup : Setup) (machine : Machine) → IsLawful setup machine → IsTrue machine.counts.trouble
    → (worker : ℕ) × IsOnlyReporter setup machine worker

-- ---- the work of a lease

-- Let no expansion of some work of a lease be broken off, and let other work of the lease begin
-- where it ends. If the later work may read every incumbent that the first might, both together
-- are work of the lease.
abbrev pub LeaseWorkGoesOn : Type 0
LeaseWorkGoesOn =
    (space : Space) (guide : Guide) (block used more most_broken : ℕ)
    (known later_known : Option ℕ → Bool) (given between worked : Store)
    → (first : IsWorked space guide block used 0 known given between)
    (second : IsWorked space guide block more most_broken later_known between worked)
    → ((incumbent : Option ℕ) → IsTrue (known incumbent) → IsTrue (later_known incumbent))
    → (both : IsWorked space guide block (used + more) most_broken later_known given worked)
    × (both.works ≡ first.works ++ second.works)

-- Work of a lease stays such work if more incumbents are known and more expansions may have been
-- broken off.
abbrev pub LeaseWorkStays : Type 0
LeaseWorkStays =
    (space : Space) (guide : Guide) (block used most_broken more_broken : ℕ)
    (known later_known : Option ℕ → Bool) (given worked : Store)
    → (work : IsWorked space guide block used most_broken known given worked)
    → most_broken ≤ more_broken
    → ((incumbent : Option ℕ) → IsTrue (known incumbent) → IsTrue (later_known incumbent))
    → (later : IsWorked space guide block used more_broken later_known given worked)
    × (later.works ≡ work.works)

-- Turns of a lease may go on after other turns of the lease: all together are such turns.
abbrev pub LeaseTurnsGoOn : Type 0
LeaseTurnsGoOn =
    (space : Space) (guide : Guide) (works more : List Work) (given between : Store)
    → Comes space guide works given between → AreLeaseTurns space guide works given
    → AreLeaseTurns space guide more between
    → AreLeaseTurns space guide (works ++ more) given

-- The frame lemma. What a lease has done on the rows that it was given may be done, piece by piece,
-- in the whole store of now. It doesn't matter what other leases did meanwhile. The whole store
-- then has the lease's rows in the block's scope, and all other rows as before. The lease has no
-- row outside the scope. This holds whatever the worker may have read.
abbrev pub LeaseWorkStands : Type 0
LeaseWorkStands =
    (setup : Setup) (greatest_cost : ℕ) (machine : Machine) (worker used most_broken : ℕ)
    (known : Option ℕ → Bool) (grant : Grant) (worked : Store)
    → IsSetup setup greatest_cost → IsLawful setup machine
    → machine.counts.leases worker ≡ Some grant
    → (work : IsWorked setup.space setup.guide grant.block used most_broken known
    (lent_store setup grant.block machine.store (machine.given worker)) worked)
    → Comes setup.space setup.guide work.works machine.store
    (merged_store (setup.blocks.scope grant.block) worked machine.store)
    × AreGone (λ block. not (setup.blocks.scope grant.block block)) worked.rows

-- What a lease did in turns is, in the whole store as well, each time on the first Opened row of
-- its block.
abbrev pub TurnsCarryOver : Type 0
TurnsCarryOver =
    (setup : Setup) (greatest_cost : ℕ) (machine : Machine) (worker used most_broken : ℕ)
    (grant : Grant) (worked : Store)
    → IsSetup setup greatest_cost → IsLawful setup machine
    → machine.counts.leases worker ≡ Some grant
    → (work : HasWorked setup machine worker grant used most_broken worked)
    → AreLeaseTurns setup.space setup.guide work.works
    (lent_store setup grant.block machine.store (machine.given worker))
    → AreOnFirst setup.space setup.guide work.works machine.store

-- A run in order is a run.
abbrev pub OrderedRunsAreRuns : Type 0
OrderedRunsAreRuns =
    (setup : Setup) (moves : List Move) (old new : Machine) → RunsInOrder setup old moves new
    → Runs setup old moves new

-- Moves may go on after other moves: all together are a run, in order if both parts are in order.
-- Their events are those of the first part, and then those of the later one.
abbrev pub RunsGoOn : Type 0
RunsGoOn =
    (setup : Setup) (moves more : List Move) (old between new : Machine)
    → (Runs setup old moves between → Runs setup between more new
    → Runs setup old (moves ++ more) new)
    × (RunsInOrder setup old moves between → RunsInOrder setup between more new
    → RunsInOrder setup old (moves ++ more) new)
    × (journal_of (moves ++ more) ≡ journal_of moves ++ journal_of more)

-- If the incumbent that a lease brings back is not below the whole store's, the whole store's
-- stays. This is the case if each goal's cost was told before.
abbrev pub ReturnsLeaveIncumbents : Type 0
ReturnsLeaveIncumbents =
    (setup : Setup) (machine : Machine) (worker used most_broken : ℕ) (new : Store)
    (back : CameBack setup machine worker used most_broken new)
    → AtMost machine.store.incumbent back.worked.incumbent → new.incumbent ≡ machine.store.incumbent

-- A lease that made an expansion never brings back the rows that were there before.
abbrev pub ReturnsShowWork : Type 0
ReturnsShowWork =
    (setup : Setup) (greatest_cost : ℕ) (machine : Machine) (worker used most_broken : ℕ)
    (new : Store) → IsSetup setup greatest_cost
    → IsLawful setup machine → CameBack setup machine worker used most_broken new → 0 < used
    → ((block state : ℕ) → new.rows block state ≡ machine.store.rows block state) → ⊥

-- ---- rows at home and rows in leases

-- What is recorded for a lease are the rows that it was given or last renewed with: the rows of its
-- scope in the whole store, and no others.
abbrev pub RecordedRowsAreLent : Type 0
RecordedRowsAreLent =
    (setup : Setup) (counts : Counts) (store : Store) (home : Rows) (recorded : ℕ → Rows)
    (worker : ℕ) (grant : Grant) (incumbent : Option ℕ)
    → IsWhole setup counts home recorded store → counts.leases worker ≡ Some grant
    → (block state : ℕ) → (lent_store setup grant.block store incumbent).rows block state
    ≡ recorded worker block state

-- A lease takes the rows of its scope from home, and none of them stays there. The rows are
-- recorded for it, and the whole store is the same.
abbrev pub LeasingKeepsWhole : Type 0
LeasingKeepsWhole =
    (setup : Setup) (greatest_cost : ℕ) (counts : Counts) (store : Store) (home left taken : Rows)
    (recorded : ℕ → Rows) (worker block quota : ℕ)
    → IsSetup setup greatest_cost → IsWhole setup counts home recorded store
    → refusal setup.blocks setup.settings counts (Lease worker block quota) ≡ None
    → AgreesOn (setup.blocks.scope block) taken home
    → AreGone (λ other. not (setup.blocks.scope block other)) taken
    → AgreesOn (λ other. not (setup.blocks.scope block other)) left home
    → AreGone (setup.blocks.scope block) left
    → IsWhole setup (counts_after setup.blocks setup.settings counts (Lease worker block quota))
    left (with_entry recorded worker taken) store

-- A renewal records the rows that the lease has now, and the whole store takes them.
abbrev pub RenewingKeepsWhole : Type 0
RenewingKeepsWhole =
    (setup : Setup) (greatest_cost : ℕ) (counts : Counts) (store worked : Store) (home : Rows)
    (recorded : ℕ → Rows) (worker used quota : ℕ) (grant : Grant)
    → IsSetup setup greatest_cost → AreLawful setup.blocks setup.settings counts
    → IsWhole setup counts home recorded store
    → counts.leases worker ≡ Some grant
    → AreGone (λ other. not (setup.blocks.scope grant.block other)) worked.rows
    → IsWhole setup (counts_after setup.blocks setup.settings counts (Renew worker used quota)) home
    (with_entry recorded worker worked.rows)
    (merged_store (setup.blocks.scope grant.block) worked store)

-- A release brings the rows that the lease has home, and the whole store takes them. The rows that
-- are recorded for other leases stay.
abbrev pub ReleasingKeepsWhole : Type 0
ReleasingKeepsWhole =
    (setup : Setup) (greatest_cost : ℕ) (counts : Counts) (store worked : Store)
    (home together : Rows) (recorded : ℕ → Rows) (worker used : ℕ) (memory : Bool) (grant : Grant)
    → IsSetup setup greatest_cost → AreLawful setup.blocks setup.settings counts
    → IsWhole setup counts home recorded store
    → counts.leases worker ≡ Some grant
    → AgreesOn (setup.blocks.scope grant.block) together worked.rows
    → AgreesOn (λ other. not (setup.blocks.scope grant.block other)) together home
    → IsWhole setup (counts_after setup.blocks setup.settings counts (Release worker used memory))
    together recorded (merged_store (setup.blocks.scope grant.block) worked store)

-- A mark, a sign-off, an end or a told cost changes no lease and no row, and leaves each row in its
-- place.
abbrev pub OthersKeepWhole : Type 0
OthersKeepWhole =
    (setup : Setup) (counts after : Counts) (store later : Store) (home : Rows)
    (recorded : ℕ → Rows) → after.leases ≡ counts.leases
    → later.rows ≡ store.rows
    → IsWhole setup counts home recorded store → IsWhole setup after home recorded later

-- Rows that are recorded for a worker without a lease don't matter.
abbrev pub RecordedWhereLeased : Type 0
RecordedWhereLeased =
    (setup : Setup) (counts : Counts) (store : Store) (home : Rows) (recorded other : ℕ → Rows)
    → ((worker : ℕ) (grant : Grant) → counts.leases worker ≡ Some grant
    → other worker ≡ recorded worker)
    → IsWhole setup counts home recorded store → IsWhole setup counts home other store

-- If no lease is out, the rows at home are those of the whole store, and no others.
abbrev pub AllIsHome : Type 0
AllIsHome =
    (setup : Setup) (counts : Counts) (store : Store) (home : Rows) (recorded : ℕ → Rows)
    → AreLawful setup.blocks setup.settings counts
    → IsFalse (is_any_out setup.settings.workers counts.leases)
    → (IsWhole setup counts home recorded store → (block state : ℕ)
    → store.rows block state ≡ home block state)
    × (((block state : ℕ) → store.rows block state ≡ home block state)
    → IsWhole setup counts home recorded store)
