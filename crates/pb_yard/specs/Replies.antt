-- What each call of a graph leaves, by cases of its reply, as the graph's own contracts say; and
-- which events it adds.
use Rattle.std.specs.Prelude.{◌≡◌, ℕ, Bool, true, false, ◌&&◌, is_none, if◌then◌else◌, List, [], ◌∷◌, Option, Some, None}
use Rattle.pb_model.specs.Store.{Rows}
use Rattle.pb_machine.specs.declared.event.End.{End}
use Rattle.pb_machine.specs.declared.event.Event.{Event}
use Rattle.pb_machine.specs.declared.event.Event.TheVariants.{Lease, Renew, Hot, Cold, Release, Off}
use Rattle.pb_machine.specs.Blocks.{interferes}
use Rattle.pb_machine.specs.Choice.{MayBeLeased, IsRival}
use Rattle.pb_machine.specs.Machine.{Machine, Move}
use Rattle.pb_bundles.specs.Homes.{key_at}
use Rattle.pb_bundles.specs.Choosing.{IsRivalBy}
use Rattle.pb_lease.specs.declared.answer.LeaseReply.{LeaseReply}
use Rattle.pb_lease.specs.declared.answer.LeaseReply.TheVariants.{Leased, NotYet, Over, Memory}
use Rattle.pb_lease.specs.declared.answer.Renewed.{Renewed}
use Rattle.pb_lease.specs.declared.answer.Renewed.TheVariants.{Kept, Given}
use Rattle.pb_lease.specs.declared.answer.SwitchReply.{SwitchReply}
use Rattle.pb_lease.specs.declared.answer.SwitchReply.TheVariants as switch
use Rattle.pb_lease.specs.Tables.{blocks}
use Rattle.pb_lease.specs.Events.{ending}
use Rattle.pb_lease.specs.LeaseValue.{LeaseValue}
use Rattle.pb_lease.specs.GraphValue.{GraphValue}
use Rattle.pb_lease.specs.Choices.{IsOver, IsToWait, MayMark, MayCool}
use Rattle.pb_lease.specs.Moments.{IsMomentAt, moves_of}
use Rattle.pb_lease.specs.Steps.{IsLeased, LeasesNext, IsEnded, end_events, KeepsLeases, IsMarked, IsSignedOff, IsReleased, ReleasesNext, IsRenewed, RenewsNext, GoesOn, ChoosesByRows, GoesOver, ComesBack, ChoosesAnyByRows, switch_of, IsSwitched, SwitchesNext}

-- ---- a lease

-- at no moment that the graph is one of may a block be leased
abbrev pub NoneMayBeLeased : GraphValue → Type 0
NoneMayBeLeased g =
    (recorded : (worker : ℕ) → Rows) (machine : Machine) → IsMomentAt g recorded machine
    → (block : ℕ) → MayBeLeased (blocks g.table) g.table.settings machine.counts machine.store block
    → ⊥

-- A worker asked for a lease. If memory ran out, the worker didn't have to wait, and the search
-- wasn't over. Nothing changes in that case, nor if the worker has to wait.
abbrev pub LeasesAs : (worker : ℕ) → LeaseReply → (old new : GraphValue) → Type 0
LeasesAs worker (Leased lease) old new = IsLeased old worker lease new × LeasesNext old lease new
LeasesAs worker NotYet old new = IsToWait old × NoneMayBeLeased old × (new ≡ old)
LeasesAs worker (Over end) old new =
    IsOver old end × IsEnded old end new × KeepsLeases old (end_events old.table.end end) new
LeasesAs worker Memory old new =
    (IsToWait old → ⊥) × ((end : End) → IsOver old end → ⊥) × (new ≡ old)

abbrev pub lease_events : (worker : ℕ) → LeaseReply → (old : GraphValue) → List Event
lease_events worker (Leased lease) old = Lease worker lease.block lease.quota ∷ []
lease_events worker NotYet old = []
lease_events worker (Over end) old = end_events old.table.end end
lease_events worker Memory old = []

-- the lease that the worker has then, and what it has told since it was given, by what it had and
-- had told before
abbrev pub lent_by : LeaseReply → Option LeaseValue → Option LeaseValue
lent_by (Leased lease) had = Some lease
lent_by NotYet had = had
lent_by (Over end) had = had
lent_by Memory had = had

abbrev pub told_by : LeaseReply → Option ℕ → Option ℕ
told_by (Leased lease) had = None
told_by NotYet had = had
told_by (Over end) had = had
told_by Memory had = had

-- ---- a lease that goes on, or comes back

-- A worker asked to go on with its lease.
abbrev pub RenewsAs : LeaseValue → Renewed → (old new : GraphValue) → Type 0
RenewsAs lease (Kept kept) old new =
    GoesOn old lease new × IsRenewed old lease kept new × ChoosesByRows old lease new
    × RenewsNext old lease kept new
RenewsAs lease Given old new =
    (GoesOn old lease new → ⊥) × IsReleased old lease false new × ChoosesByRows old lease new
    × ReleasesNext old lease false new

abbrev pub renewal_events : LeaseValue → Renewed → List Event
renewal_events lease (Kept kept) = Renew lease.worker lease.used kept.quota ∷ []
renewal_events lease Given = Release lease.worker lease.used false ∷ []

abbrev pub kept_by : Renewed → Option LeaseValue
kept_by (Kept kept) = Some kept
kept_by Given = None

-- A worker asked to go on with its lease, or else with another block.
abbrev pub SwitchesAs : LeaseValue → SwitchReply → (old new : GraphValue) → Type 0
SwitchesAs lease (switch.Kept kept) old new =
    GoesOn old lease new × IsRenewed old lease kept new × ChoosesAnyByRows old lease new
    × RenewsNext old lease kept new
SwitchesAs lease (switch.Switched next) old new =
    GoesOver old lease new next.block × IsSwitched old lease next new
    × ChoosesAnyByRows old lease new × SwitchesNext old lease next new
SwitchesAs lease switch.Given old new =
    ComesBack old lease new × IsReleased old lease false new × ChoosesAnyByRows old lease new
    × ReleasesNext old lease false new

-- The one move: a renewal, a switch, which has the events of the return and of the next lease, or a
-- return.
abbrev pub switch_moves : LeaseValue → SwitchReply → List Move
switch_moves lease (switch.Kept kept) = moves_of (renewal_events lease (Kept kept))
switch_moves lease (switch.Switched next) = switch_of lease next ∷ []
switch_moves lease switch.Given = moves_of (renewal_events lease Given)

-- the lease that the worker has then
abbrev pub switched_by : SwitchReply → Option LeaseValue
switched_by (switch.Kept kept) = Some kept
switched_by (switch.Switched next) = Some next
switched_by switch.Given = None

-- A worker brought its lease back.
abbrev pub ReleasesAs : LeaseValue → (memory : Bool) → (old new : GraphValue) → Type 0
ReleasesAs lease memory old new =
    IsReleased old lease memory new × ReleasesNext old lease memory new

abbrev pub release_events : LeaseValue → (memory : Bool) → (old : GraphValue) → List Event
release_events lease memory old =
    Release lease.worker lease.used memory ∷ ending memory old.table.end

-- ---- marks

-- A worker asked for the rival of its lease's block. Nothing changes.
abbrev pub RivalsAs : LeaseValue → Option ℕ → (old new : GraphValue) → Type 0
RivalsAs lease rival old new =
    IsRivalBy (interferes (blocks old.table) lease.block) (key_at old.homes) lease.block rival
    × ((recorded : (worker : ℕ) → Rows) (machine : Machine) → IsMomentAt old recorded machine
    → IsRival (blocks old.table) machine.store lease.block rival)
    × (new ≡ old)

-- The event is the mark, or the mark that is taken away, and the worker may change it. Or the
-- worker may not, and nothing changes.
abbrev pub ChangesMarkAs : (may : Type 0) → (worker : ℕ) → Event → (done : Bool)
    → (old new : GraphValue) → Type 0
ChangesMarkAs may worker event true old new =
    may × IsMarked old worker event new × KeepsLeases old (event ∷ []) new
ChangesMarkAs may worker event false old new = (may → ⊥) × (new ≡ old)

-- A worker asked that the block be hot, or cold.
abbrev pub MarksAs : (worker block : ℕ) → (done : Bool) → (old new : GraphValue) → Type 0
MarksAs worker block done old new =
    ChangesMarkAs (MayMark old worker block) worker (Hot worker block) done old new

abbrev pub CoolsAs : (worker block : ℕ) → (done : Bool) → (old new : GraphValue) → Type 0
CoolsAs worker block done old new =
    ChangesMarkAs (MayCool old worker block) worker (Cold worker block) done old new

abbrev pub mark_events : Event → (done : Bool) → List Event
mark_events event done = if done then event ∷ [] else []

-- ---- signing off

-- whether a sign-off has the worker's report that it is out of memory: it has it only if no end
-- stands, since later the report would change nothing
abbrev pub reported : (memory : Bool) → Option End → Bool
reported memory end = memory && is_none end

abbrev pub off_events : (worker : ℕ) → (memory : Bool) → (old : GraphValue) → List Event
off_events worker memory old =
    Off worker (reported memory old.table.end)
    ∷ ending (reported memory old.table.end) old.table.end

-- A worker signed off.
abbrev pub SignsOffAs : (worker : ℕ) → (memory : Bool) → (old new : GraphValue) → Type 0
SignsOffAs worker memory old new =
    IsSignedOff old worker (reported memory old.table.end) new
    × KeepsLeases old (off_events worker memory old) new
