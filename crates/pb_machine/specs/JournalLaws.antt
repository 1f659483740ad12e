-- The laws of journals, of the numbers that are kept beside them, of choice, and of what each
-- worker's pass keeps of a journal. Each is proved, as the contract of the public function that has
-- its name.
use Rattle.std.specs.Prelude.{◌≡◌, ◌≢◌, ℕ, ◌+◌, ◌*◌, ◌<◌, ◌≤◌, length, filter, min, nat_lt, is_some, ◌||◌, Bool, true, false, IsTrue, IsFalse, List, [], ◌∷◌, ◌++◌, Option, Some, None, slice_set, ◌⊎◌, ◌↔◌}
use Rattle.std.specs.List.{list_any, AllByRecursion}
use mathlib.Core.Option.{some}
use lib.ListN.{get_elem?}
use Rattle.pb_model.specs.Store.{Store}
use Rattle.pb_model.specs.Weight.{Weight, IsWeight}
use Rattle.pb_machine.specs.declared.event.End.{End}
use Rattle.pb_machine.specs.declared.event.End.TheVariants.{Quiet, Budget, Memory}
use Rattle.pb_machine.specs.declared.event.Event.{Event}
use Rattle.pb_machine.specs.declared.event.Event.TheVariants.{Lease, Renew, Hot, Cold, Release, Off, Ended}
use Rattle.pb_machine.specs.declared.event.EventRefusal.{EventRefusal}
use Rattle.pb_machine.specs.declared.event.Grant.{Grant}
use Rattle.pb_machine.specs.declared.settings.Settings.{Settings}
use Rattle.pb_machine.specs.Settings.{settings_with}
use Rattle.pb_machine.specs.Tables.{with_entry, one_if}
use Rattle.pb_machine.specs.Blocks.{Blocks, interferes}
use Rattle.pb_machine.specs.Counts.{Counts, counts_after, is_any_out, is_busy, is_near_hot, AreLawful}
use Rattle.pb_machine.specs.Counters.{busy_count, hot_count, ChangesBusy, ChangesHot}
use Rattle.pb_machine.specs.Legality.{is_stranger, refusal}
use Rattle.pb_machine.specs.History.{replay, IsHistory, AreFinished, IsFirstRefused, first_refused, StartsWith, events_of, is_off, is_report, end_in, used_in}
use Rattle.pb_machine.specs.Room.{room_from, room_after, AreWithinRoom, KeepsWithinRoom, leases_in, takes_room}
use Rattle.pb_machine.specs.Choice.{IsRival, MayBeLeased, IsFirstChoice, counts_with_lease_home}
use Rattle.pb_machine.specs.Views.{View, IsShareOf, HasWorker, AreTrueOf, AreBy, first_view, spent_view, view_after, with_one_more, next_view, met_view}
use Rattle.pb_machine.specs.Worked.{IsFinishedHistory, IsUnfinishedHistory, AreRefused, nine_cells, one_worker, nine_cells_journal, with_hot, visit, later_visits, ending, refused_journals, corridor, short_budget, corridor_journal, two_workers, two_workers_journal, both_report, refused_in_corridor, refused_of_two}

-- ---- by the counts alone

-- A legal history leads to counts that are lawful.
abbrev pub HistoriesAreLawful : Type 0
HistoriesAreLawful =
    (blocks : Blocks) (settings : Settings) (before : ℕ) (journal : List Event) (counts : Counts)
    → IsHistory blocks settings before journal counts → AreLawful blocks settings counts

-- A legal history stays one with an event that is not refused.
abbrev pub HistoriesGrow : Type 0
HistoriesGrow =
    (blocks : Blocks) (settings : Settings) (before : ℕ) (journal : List Event) (event : Event)
    (counts : Counts)
    → IsHistory blocks settings before journal counts → refusal blocks settings counts event ≡ None
    → IsHistory blocks settings before (journal ++ event ∷ [])
    (counts_after blocks settings counts event)

-- A longer legal history begins with a legal one.
abbrev pub BeginningsAreHistories : Type 0
BeginningsAreHistories =
    (blocks : Blocks) (settings : Settings) (before : ℕ) (journal start : List Event)
    (counts : Counts)
    → IsHistory blocks settings before journal counts → StartsWith journal start
    → (between : Counts) × IsHistory blocks settings before start between

-- The expansions spent after a legal history are those spent before it, and the used numbers of its
-- events.
abbrev pub SpentIsUsed : Type 0
SpentIsUsed =
    (blocks : Blocks) (settings : Settings) (before : ℕ) (journal : List Event) (counts : Counts)
    → IsHistory blocks settings before journal counts → counts.spent ≡ before + used_in journal

-- The used numbers and what was spent before together never exceed the budget; at the budget's end
-- they are all of it.
abbrev pub UsedFitsBudget : Type 0
UsedFitsBudget =
    (blocks : Blocks) (settings : Settings) (before : ℕ) (journal : List Event) (counts : Counts)
    → IsHistory blocks settings before journal counts
    → (before + used_in journal ≤ settings.budget)
    × (counts.end ≡ Some Budget → before + used_in journal ≡ settings.budget)

-- A worker has signed off exactly if one of its own events says so.
abbrev pub SigningOffIsTold : Type 0
SigningOffIsTold =
    (blocks : Blocks) (settings : Settings) (before : ℕ) (journal : List Event) (counts : Counts)
    (worker : ℕ)
    → IsHistory blocks settings before journal counts
    → counts.signed_off worker ≡ list_any is_off (events_of worker journal)

-- In a finished history every worker's own events have its signing off.
abbrev pub FinishedWorkersSignOff : Type 0
FinishedWorkersSignOff =
    (blocks : Blocks) (settings : Settings) (before : ℕ) (journal : List Event) (counts : Counts)
    → IsHistory blocks settings before journal counts → AreFinished settings counts
    → (worker : ℕ) → worker < settings.workers → IsTrue (list_any is_off (events_of worker journal))

-- If every worker's own events have its signing off, and no out-of-memory report waits for its end,
-- a legal history is finished.
abbrev pub SignedOffIsFinished : Type 0
SignedOffIsFinished =
    (blocks : Blocks) (settings : Settings) (before : ℕ) (journal : List Event) (counts : Counts)
    → IsHistory blocks settings before journal counts → IsFalse counts.trouble
    → ((worker : ℕ) → worker < settings.workers
    → IsTrue (list_any is_off (events_of worker journal)))
    → AreFinished settings counts

-- After a legal history the end of the search is the one that its journal has.
abbrev pub EndsAreTold : Type 0
EndsAreTold =
    (blocks : Blocks) (settings : Settings) (before : ℕ) (journal : List Event) (counts : Counts)
    → IsHistory blocks settings before journal counts → counts.end ≡ end_in journal

-- The end that a journal has stays so while the journal grows.
abbrev pub EndsStand : Type 0
EndsStand =
    (journal more : List Event) (end : End) → end_in journal ≡ Some end
    → end_in (journal ++ more) ≡ Some end

-- If every worker has signed off, no lease is out.
abbrev pub AllOffNoneOut : Type 0
AllOffNoneOut =
    (blocks : Blocks) (settings : Settings) (counts : Counts) → AreLawful blocks settings counts
    → ((worker : ℕ) → worker < settings.workers → IsTrue (counts.signed_off worker))
    → IsFalse (is_any_out settings.workers counts.leases)

-- A legal history is one under any weight and any pattern database: no event depends on them.
abbrev pub HistoriesHaveAnyWeight : Type 0
HistoriesHaveAnyWeight =
    (blocks : Blocks) (settings : Settings) (weight : Weight) (pattern before : ℕ)
    (journal : List Event) (counts : Counts)
    → IsWeight weight → pattern ≤ 12 → IsHistory blocks settings before journal counts
    → IsHistory blocks (settings_with settings weight pattern) before journal counts

-- A journal is judged event by event. A line and a reason are given exactly if the event on that
-- line is the first refused one, for that reason. None are given exactly if all events may come.
-- The first event is on line `from`.
abbrev pub RefusalsAreFirst : Type 0
RefusalsAreFirst =
    (blocks : Blocks) (settings : Settings) (counts : Counts) (from : ℕ) (journal : List Event)
    → ((line : ℕ) (why : EventRefusal)
    → (first_refused blocks settings counts from journal ≡ Some (line, why))
    ↔ ((place : ℕ) × (line ≡ from + place) × IsFirstRefused blocks settings counts journal place
    why))
    × ((first_refused blocks settings counts from journal ≡ None)
    ↔ ((after : Counts) × (replay blocks settings counts journal ≡ Some after)))

-- A journal with an event that may not come is no legal history.
abbrev pub RefusedJournalsFail : Type 0
RefusedJournalsFail =
    (blocks : Blocks) (settings : Settings) (counts : Counts) (journal : List Event) (place : ℕ)
    (why : EventRefusal)
    → IsFirstRefused blocks settings counts journal place why
    → replay blocks settings counts journal ≡ None

-- If a legal history ends because memory ran out, the event directly before that end reports it. A
-- report that waits for its end is the last event.
abbrev pub MemoryEndsAreReported : Type 0
MemoryEndsAreReported =
    (blocks : Blocks) (settings : Settings) (before : ℕ) (journal : List Event) (counts : Counts)
    → IsHistory blocks settings before journal counts
    → (counts.end ≡ Some Memory
    → (start rest : List Event) × (report : Event) × IsTrue (is_report report)
    × (journal ≡ start ++ report ∷ Ended Memory ∷ rest))
    × (IsTrue counts.trouble → (start : List Event) × (report : Event) × IsTrue (is_report report)
    × (journal ≡ start ++ report ∷ []))

-- If an event reports out of memory before the search has ended, the next event, if any, is the end
-- that follows from the report.
abbrev pub ReportsEndSearches : Type 0
ReportsEndSearches =
    (blocks : Blocks) (settings : Settings) (before : ℕ) (start rest : List Event) (report : Event)
    (between counts : Counts)
    → IsHistory blocks settings before start between → between.end ≡ None
    → IsTrue (is_report report)
    → IsHistory blocks settings before (start ++ report ∷ rest) counts
    → (rest ≡ []) ⊎ ((later : List Event) × (rest ≡ Ended Memory ∷ later))

-- A legal history that keeps within the room of its leases has at most 65 events a lease, one
-- sign-off a worker, and one end. These 65 include the lease and its return.
abbrev pub JournalsAreShort : Type 0
JournalsAreShort =
    (blocks : Blocks) (settings : Settings) (before : ℕ) (journal : List Event) (counts : Counts)
    → IsHistory blocks settings before journal counts → KeepsWithinRoom journal
    → length journal ≤ 65 * leases_in journal + settings.workers + 1

-- A worker renews and marks at most 63 times between two of its leases, whatever others do
-- meanwhile. Marks that come and go thus can't make a lease of a journal within room any longer.
abbrev pub LeasesTakeTheirRoom : Type 0
LeasesTakeTheirRoom =
    (start more : List Event) (worker block quota : ℕ)
    → KeepsWithinRoom (start ++ Lease worker block quota ∷ more)
    → leases_in (events_of worker more) ≡ 0 → length (filter (takes_room worker) more) ≤ 63

-- A journal and more events keep within room together exactly if the journal does, and the events
-- have the room that it leaves.
abbrev pub RoomGoesOn : Type 0
RoomGoesOn =
    (journal more : List Event)
    → (KeepsWithinRoom (journal ++ more)
    ↔ (KeepsWithinRoom journal × AreWithinRoom (room_after journal) more))
    × (room_after (journal ++ more) ≡ room_from (room_after journal) more)
    × (leases_in (journal ++ more) ≡ leases_in journal + leases_in more)

-- If no lease is out, no block is hot.
abbrev pub NoneOutNoneHot : Type 0
NoneOutNoneHot =
    (blocks : Blocks) (settings : Settings) (counts : Counts) → AreLawful blocks settings counts
    → IsFalse (is_any_out settings.workers counts.leases)
    → (block : ℕ) → IsFalse (counts.hot block)

-- A leased block is never hot.
abbrev pub LeasedAreNeverHot : Type 0
LeasedAreNeverHot =
    (blocks : Blocks) (settings : Settings) (counts : Counts) (worker : ℕ) (grant : Grant)
    → AreLawful blocks settings counts
    → counts.leases worker ≡ Some grant
    → IsFalse (counts.hot grant.block)

-- ---- the numbers that are kept beside the sets

-- A block is in the interference of those that are in its own.
abbrev pub InterferenceIsMutual : Type 0
InterferenceIsMutual =
    (blocks : Blocks) (block other : ℕ) → interferes blocks block other
    ≡ interferes blocks other block

-- A block is busy exactly if the number of leased blocks in its interference is not 0.
abbrev pub BusyIsCounted : Type 0
BusyIsCounted = (blocks : Blocks) (workers : ℕ) (leases : ℕ → Option Grant) (block : ℕ)
    → is_busy blocks workers leases block ≡ nat_lt 0 (busy_count blocks workers leases block)

-- A hot block interferes exactly if the number of hot blocks in the interference is not 0.
abbrev pub HotIsCounted : Type 0
HotIsCounted =
    (blocks : Blocks) (hot : ℕ → Bool) (block : ℕ) → is_near_hot blocks hot block
    ≡ nat_lt 0 (hot_count blocks hot block)

-- These numbers are at most those of the workers and of the blocks.
abbrev pub CountersFit : Type 0
CountersFit =
    (blocks : Blocks) (workers : ℕ) (leases : ℕ → Option Grant) (hot : ℕ → Bool) (block : ℕ)
    → (busy_count blocks workers leases block ≤ workers)
    × (hot_count blocks hot block ≤ blocks.count)

-- If no lease is out, the number of leased blocks in an interference is 0. If no block is hot, that
-- of the hot ones is 0.
abbrev pub CountersBeginAtNone : Type 0
CountersBeginAtNone =
    (blocks : Blocks) (workers : ℕ) (leases : ℕ → Option Grant) (hot : ℕ → Bool) (block : ℕ)
    → (IsFalse (is_any_out workers leases) → busy_count blocks workers leases block ≡ 0)
    × (((other : ℕ) → IsFalse (hot other)) → hot_count blocks hot block ≡ 0)

-- How each event changes the number of leased blocks in an interference.
abbrev pub EventsChangeBusy : Type 0
EventsChangeBusy =
    (blocks : Blocks) (settings : Settings) (counts : Counts) (event : Event) (block : ℕ)
    → refusal blocks settings counts event ≡ None
    → ChangesBusy blocks counts event block (busy_count blocks settings.workers counts.leases block)
    (busy_count blocks settings.workers (counts_after blocks settings counts event).leases block)

-- How each event changes the number of hot blocks in an interference.
abbrev pub EventsChangeHot : Type 0
EventsChangeHot =
    (blocks : Blocks) (settings : Settings) (counts : Counts) (event : Event) (block : ℕ)
    → refusal blocks settings counts event ≡ None
    → ChangesHot blocks settings counts event block (hot_count blocks counts.hot block)
    (hot_count blocks (counts_after blocks settings counts event).hot block)

-- One block that becomes hot adds one to the numbers of its interference. One that becomes cold
-- takes one.
abbrev pub MarksChangeHot : Type 0
MarksChangeHot =
    (blocks : Blocks) (hot : ℕ → Bool) (marked block : ℕ) → marked < blocks.count
    → (IsFalse (hot marked) → hot_count blocks (with_entry hot marked true) block
    ≡ hot_count blocks hot block + one_if (interferes blocks block marked))
    × (IsTrue (hot marked) → hot_count blocks (with_entry hot marked false) block
    + one_if (interferes blocks block marked) ≡ hot_count blocks hot block)

-- A block that a release makes cold is in the interference of the released block.
abbrev pub ReleasesCoolNear : Type 0
ReleasesCoolNear =
    (blocks : Blocks) (settings : Settings) (counts : Counts) (worker used block : ℕ)
    (memory : Bool) (grant : Grant)
    → AreLawful blocks settings counts → counts.leases worker ≡ Some grant
    → IsTrue (counts.hot block)
    → IsFalse ((counts_after blocks settings counts (Release worker used memory)).hot block)
    → IsTrue (interferes blocks grant.block block)

-- ---- the choice of a block, and the events that follow from it

-- There is one first choice at most.
abbrev pub FirstChoicesAreUnique : Type 0
FirstChoicesAreUnique =
    (blocks : Blocks) (settings : Settings) (counts : Counts) (store : Store) (block other : ℕ)
    → IsFirstChoice blocks settings counts store block
    → IsFirstChoice blocks settings counts store other → block ≡ other

-- There is one rival at most.
abbrev pub RivalsAreUnique : Type 0
RivalsAreUnique =
    (blocks : Blocks) (store : Store) (block : ℕ) (rival other : Option ℕ)
    → IsRival blocks store block rival
    → IsRival blocks store block other → rival ≡ other

-- A block that may be leased may be leased with a lot, or with all that is left, by a worker
-- without a lease.
abbrev pub ChosenLeasesAreLegal : Type 0
ChosenLeasesAreLegal =
    (blocks : Blocks) (settings : Settings) (counts : Counts) (store : Store) (worker block : ℕ)
    → MayBeLeased blocks settings counts store block → IsFalse (is_stranger settings counts worker)
    → counts.leases worker ≡ None
    → IsFalse counts.trouble → 0 < settings.lot
    → refusal blocks settings counts (Lease worker block (min settings.lot counts.left)) ≡ None

-- A lease may be renewed if, with it home, its block may be leased.
abbrev pub ChosenRenewalsAreLegal : Type 0
ChosenRenewalsAreLegal =
    (blocks : Blocks) (settings : Settings) (counts : Counts) (store : Store) (worker used : ℕ)
    (grant : Grant)
    → MayBeLeased blocks settings (counts_with_lease_home counts worker used) store grant.block
    → IsFalse (is_stranger settings counts worker) → counts.leases worker ≡ Some grant
    → used ≤ grant.quota → IsFalse counts.trouble → 0 < settings.lot
    → refusal blocks settings counts
    (Renew worker used (min settings.lot (counts_with_lease_home counts worker used).left)) ≡ None

-- Let a block be one that may be leased with the worker's lease home and the hot blocks as before.
-- Then it may also be leased after the release of that lease, when some of the hot blocks have
-- become cold.
abbrev pub ChoicesOutliveReleases : Type 0
ChoicesOutliveReleases =
    (blocks : Blocks) (settings : Settings) (counts : Counts) (store : Store)
    (worker used block : ℕ) (memory : Bool)
    → MayBeLeased blocks settings (counts_with_lease_home counts worker used) store block
    → MayBeLeased blocks settings (counts_after blocks settings counts (Release worker used memory))
    store block

-- ---- events that may come

-- Only a worker that hasn't signed off has a lease.
abbrev pub LeasesAreOfWorkers : Type 0
LeasesAreOfWorkers =
    (blocks : Blocks) (settings : Settings) (counts : Counts) (worker : ℕ) (grant : Grant)
    → AreLawful blocks settings counts
    → counts.leases worker ≡ Some grant
    → IsFalse (is_stranger settings counts worker)

-- A worker that has a lease may bring it back, with or without an out-of-memory report, if the
-- lease made no more expansions than it might.
abbrev pub ReleasesAreLegal : Type 0
ReleasesAreLegal =
    (blocks : Blocks) (settings : Settings) (counts : Counts) (worker used : ℕ) (memory : Bool)
    (grant : Grant)
    → IsFalse (is_stranger settings counts worker) → IsFalse counts.trouble
    → counts.leases worker ≡ Some grant → used ≤ grant.quota
    → refusal blocks settings counts (Release worker used memory) ≡ None

-- Before the end, a worker that has a lease may mark a busy block hot that isn't hot yet, unless
-- blocks are never marked. The worker may also take a mark away.
abbrev pub MarksAreLegal : Type 0
MarksAreLegal =
    (blocks : Blocks) (settings : Settings) (counts : Counts) (worker block : ℕ) (grant : Grant)
    → IsFalse (is_stranger settings counts worker) → IsFalse counts.trouble
    → counts.leases worker ≡ Some grant → counts.end ≡ None
    → block < blocks.count
    → (IsFalse settings.plain → IsFalse (counts.hot block)
    → IsTrue (is_busy blocks settings.workers counts.leases block)
    → refusal blocks settings counts (Hot worker block) ≡ None)
    × (IsTrue (counts.hot block) → refusal blocks settings counts (Cold worker block) ≡ None)

-- A worker without a lease may sign off at an end, or with an out-of-memory report.
abbrev pub SignOffsAreLegal : Type 0
SignOffsAreLegal =
    (blocks : Blocks) (settings : Settings) (counts : Counts) (worker : ℕ) (memory : Bool)
    → IsFalse (is_stranger settings counts worker) → IsFalse counts.trouble
    → counts.leases worker ≡ None
    → IsTrue (memory || is_some counts.end)
    → refusal blocks settings counts (Off worker memory) ≡ None

-- If no lease is out, the search may end quietly, and by its budget if nothing is left of it. After
-- an out-of-memory report it ends by that report.
abbrev pub EndsAreLegal : Type 0
EndsAreLegal =
    (blocks : Blocks) (settings : Settings) (counts : Counts) → counts.end ≡ None
    → (IsFalse counts.trouble → IsFalse (is_any_out settings.workers counts.leases)
    → refusal blocks settings counts (Ended Quiet) ≡ None)
    × (IsFalse counts.trouble → IsFalse (is_any_out settings.workers counts.leases)
    → counts.left ≡ 0 → refusal blocks settings counts (Ended Budget) ≡ None)
    × (IsTrue counts.trouble → refusal blocks settings counts (Ended Memory) ≡ None)

-- ---- what passes keep of a journal

-- The first pass's view is true of a journal without events.
abbrev pub FirstViewsAreTrue : Type 0
FirstViewsAreTrue = (workers : ℕ) → 1 ≤ workers → AreTrueOf workers [] (first_view ∷ [])

-- A pass that holds the journal may add events of its own worker, and of nobody; all views stay
-- true.
abbrev pub HoldingKeepsViews : Type 0
HoldingKeepsViews =
    (workers : ℕ) (journal added : List Event) (views : List View) (seat : ℕ) (view : View)
    → AreTrueOf workers journal views
    → get_elem? views seat ≡ some view → IsTrue view.is_live → AreBy view.own.worker added
    → AreTrueOf workers (journal ++ added) (slice_set views seat (view_after journal added view))

-- The first worker's pass may be split while there are more workers than passes.
abbrev pub SplittingKeepsViews : Type 0
SplittingKeepsViews =
    (workers : ℕ) (journal : List Event) (views : List View) (seat : ℕ) (view : View)
    → AreTrueOf workers journal views
    → get_elem? views seat ≡ some view → IsTrue view.is_live → view.own.worker ≡ 0
    → view.made < workers
    → AreTrueOf workers journal (slice_set views seat (with_one_more view) ++ next_view view ∷ [])

-- A pass may take in another.
abbrev pub MeetingKeepsViews : Type 0
MeetingKeepsViews =
    (workers : ℕ) (journal : List Event) (views : List View) (seat other : ℕ) (view met : View)
    → AreTrueOf workers journal views
    → get_elem? views seat ≡ some view → IsTrue view.is_live → other ≢ seat
    → get_elem? (slice_set views seat (met_view view met)) other ≡ some met → IsTrue met.is_live
    → AreTrueOf workers journal (slice_set (slice_set views seat (met_view view met)) other
    spent_view)

-- A view that is true of the journal begins it and has all events of its worker. If all other
-- passes were taken in, the view has seen the whole journal. Each worker's events are then among
-- those that the view has, or there are none.
abbrev pub LastViewsTellAll : Type 0
LastViewsTellAll =
    (workers : ℕ) (journal : List Event) (views : List View) (seat : ℕ) (view : View)
    → AreTrueOf workers journal views
    → get_elem? views seat ≡ some view → IsTrue view.is_live
    → StartsWith journal view.seen
    × AllByRecursion (IsShareOf journal view.seen) (view.own ∷ view.taken_in)
    × (((other : ℕ) (left : View)
    → get_elem? views other ≡ some left → other ≢ seat → IsFalse left.is_live)
    → (view.seen ≡ journal)
    × ((worker : ℕ) → HasWorker worker view ⊎ (events_of worker journal ≡ [])))

-- Let a pass have taken in all others, and its view count as many passes as there are workers. If
-- all workers that the view knows of have signed off, each worker has. The pass may be any
-- worker's.
abbrev pub LastViewsSignOff : Type 0
LastViewsSignOff =
    (workers : ℕ) (journal : List Event) (views : List View) (seat : ℕ) (view : View)
    → AreTrueOf workers journal views
    → get_elem? views seat ≡ some view → IsTrue view.is_live
    → ((other : ℕ) (left : View)
    → get_elem? views other ≡ some left → other ≢ seat → IsFalse left.is_live)
    → view.made ≡ workers
    → AllByRecursion (λ share. IsTrue (list_any is_off share.events))
    (view.own ∷ view.taken_in)
    → (worker : ℕ) → worker < workers → IsTrue (list_any is_off (events_of worker journal))

-- ---- worked journals

-- - The journal of a search over nine cells has 16 events, and 17 if a block was marked hot;
--   without its last line it is not finished.
-- - A search whose first lease has nothing to expand has 4 events, and one that runs out of memory
--   at once has 2.
-- - One that renews a lease and ends by its budget has 7.
-- - Two workers, of which one marks a block hot and takes the mark away, have 23. They have 11 if
--   both report out of memory. While one of them hasn't signed off, neither journal is finished.
abbrev pub WorkedJournalsAreLegal : Type 0
WorkedJournalsAreLegal =
    IsFinishedHistory nine_cells one_worker nine_cells_journal 16 Quiet 4
    × IsFinishedHistory nine_cells one_worker (with_hot 1) 17 Quiet 4
    × IsUnfinishedHistory nine_cells one_worker (visit 0 1 ++ later_visits ++ Ended Quiet ∷ [])
    × IsFinishedHistory nine_cells one_worker (visit 0 0 ++ ending) 4 Quiet 0
    × IsFinishedHistory nine_cells one_worker (Off 0 true ∷ Ended Memory ∷ []) 2 Memory 0
    × IsFinishedHistory corridor short_budget corridor_journal 7 Budget 5
    × IsFinishedHistory nine_cells two_workers two_workers_journal 23 Quiet 6
    × IsFinishedHistory nine_cells two_workers both_report 11 Memory 4
    × IsUnfinishedHistory nine_cells two_workers (visit 0 0 ++ ending)

-- Journals that differ from these in a few places are refused there: each reason of each event, and
-- the first of several.
abbrev pub WorkedJournalsAreRefused : Type 0
WorkedJournalsAreRefused =
    AreRefused nine_cells refused_journals × AreRefused corridor refused_in_corridor
    × AreRefused nine_cells refused_of_two
