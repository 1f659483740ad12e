-- The lease machine with its rows. The machine has one whole store. A lease works on a copy of the
-- rows of its scope, and the whole store takes them when the lease is renewed or released. The rows
-- at home are thus those of the blocks outside leased scopes.
use Rattle.std.specs.Prelude.{◌≡◌, ℕ, ◌≤◌, Bool, true, false, ◌||◌, ◌==◌, IsTrue, List, [], ◌∷◌, Option, Some, None, ⊤}
use Rattle.std.specs.List.{AllByRecursion}
use Rattle.pb_model.specs.Space.{Space, IsProper}
use Rattle.pb_model.specs.Weight.{IsWeight}
use Rattle.pb_model.specs.Guide.{Guide}
use Rattle.pb_model.specs.Store.{Store, HasGoalWithin, HasOpened, IsQuiet, lesser}
use Rattle.pb_model.specs.Work.{Work, expand, break_off, cut, take_goal, lower, reopen, Comes, expansions, broken_expansions, opening_store}
use Rattle.pb_model.specs.Local.{restriction, merged_store}
use Rattle.pb_machine.specs.declared.event.End.TheVariants.{Quiet, Budget, Memory}
use Rattle.pb_machine.specs.declared.event.Event.{Event}
use Rattle.pb_machine.specs.declared.event.Event.TheVariants.{Lease, Renew, Hot, Cold, Release, Off, Ended}
use Rattle.pb_machine.specs.declared.event.Grant.{Grant}
use Rattle.pb_machine.specs.declared.settings.Settings.{Settings}
use Rattle.pb_machine.specs.Tables.{with_entry}
use Rattle.pb_machine.specs.Blocks.{Blocks, AreBlocks, interferes}
use Rattle.pb_machine.specs.Settings.{weight_of}
use Rattle.pb_machine.specs.Counts.{Counts, opening_counts, counts_after}
use Rattle.pb_machine.specs.Legality.{refusal}
use Rattle.pb_machine.specs.History.{is_event_of}
use Rattle.pb_machine.specs.Choice.{IsBetter}

-- what is searched, by which blocks and settings
pub record Setup : Type 0 where
  pub space : Space
  pub guide : Guide
  pub blocks : Blocks
  pub settings : Settings
  pub reopenings : ℕ  -- how often the search was opened again with another weight

pub record IsSetup (setup : Setup) (greatest_cost : ℕ) : Type 0 where
  pub space : IsProper setup.space greatest_cost
  pub blocks : AreBlocks setup.space setup.guide setup.blocks
  pub weight : IsWeight (weight_of setup.settings)

-- whether both are one cost, or both unknown
abbrev pub is_same : Option ℕ → Option ℕ → Bool
is_same None None = true
is_same None (Some other) = false
is_same (Some cost) None = false
is_same (Some cost) (Some other) = cost == other

-- what a worker can have read as the incumbent, and this one
abbrev pub with_known : (known : Option ℕ → Bool) → (incumbent other : Option ℕ) → Bool
with_known known incumbent other = is_same other incumbent || known other

-- what each worker can have read, if this is the incumbent
abbrev pub with_incumbent : (known : (worker : ℕ) → Option ℕ → Bool) → (incumbent : Option ℕ)
    → (worker : ℕ) → Option ℕ → Bool
with_incumbent known incumbent worker = with_known (known worker) incumbent

pub record Machine : Type 0 where
  pub counts : Counts
  pub store : Store
  pub given : ℕ → Option ℕ  -- by worker: the incumbent that its lease was given, or last renewed with
  pub told : ℕ → Option ℕ  -- by worker: the least cost that it has told since then, and not yet shown by a goal's row
  -- by worker: the incumbents since the run began and the costs it told; it can have read no others
  pub known : (worker : ℕ) → Option ℕ → Bool
  pub broken : ℕ → Bool  -- by worker: its lease was released with an out-of-memory report

abbrev pub opening_machine : Setup → Machine
opening_machine setup =
    record {
      counts = opening_counts setup.settings 0;
      store = opening_store setup.space setup.guide (weight_of setup.settings);
      given = λ worker. None;
      told = λ worker. None;
      known = λ worker incumbent. is_same incumbent None;
      broken = λ worker. false;
    }

-- ---- the work of a lease

-- The work is on a row of the block, or it lowers the lease's incumbent to a known cost, as when
-- the worker reads it. It is no reopening.
abbrev pub IsOn : Guide → (block : ℕ) → (known : Option ℕ → Bool) → Work → Type 0
IsOn guide block known (expand own) = guide.home own ≡ block
IsOn guide block known (break_off own offers) = guide.home own ≡ block
IsOn guide block known (cut own) = guide.home own ≡ block
IsOn guide block known (take_goal own) = guide.home own ≡ block
IsOn guide block known (lower cost) = IsTrue (known (Some cost))
IsOn guide block known (reopen weight) = ⊥

-- Running out of memory ends the work: nothing comes after an expansion that was broken off. There
-- is thus at most one such expansion.
abbrev pub BreaksLast : List Work → Type 0
BreaksLast [] = ⊤
BreaksLast (break_off own offers ∷ works) = works ≡ []
BreaksLast (work ∷ works) = BreaksLast works

-- what a lease of the block is given, with this incumbent: the rows of the block's scope
abbrev pub lent_store : Setup → (block : ℕ) → Store → (incumbent : Option ℕ) → Store
lent_store setup block store incumbent = restriction (setup.blocks.scope block) store incumbent

-- The lease's store comes from the one that it was given by work on its block. The work is exactly
-- `used` expansions, and any number of cuts, of goals and of known incumbents that were read. It
-- has at most `most_broken` broken expansions, after which nothing comes.
pub record IsWorked (space : Space) (guide : Guide) (block used most_broken : ℕ)
    (known : Option ℕ → Bool) (given worked : Store) : Type 0 where
  pub works : List Work
  pub on : AllByRecursion (IsOn guide block known) works
  pub comes : Comes space guide works given worked
  pub used_is : expansions works ≡ used
  pub few_broken : broken_expansions works ≤ most_broken
  pub stops : BreaksLast works

-- The worker's lease can have made this store of the rows that it was given or last renewed with.
-- Each number that it read as the incumbent was the incumbent, or the worker told it.
abbrev pub HasWorked : Setup → Machine → (worker : ℕ) → Grant → (used most_broken : ℕ)
    → (worked : Store) → Type 0
HasWorked setup machine worker grant used most_broken worked =
    IsWorked setup.space setup.guide grant.block used most_broken (machine.known worker)
    (lent_store setup grant.block machine.store (machine.given worker)) worked

-- The worker's lease came back, and the whole store took its rows and the lesser incumbent. The
-- cost that the worker told is shown by a goal's row among the rows that came back.
pub record CameBack (setup : Setup) (machine : Machine) (worker used most_broken : ℕ)
    (new : Store) : Type 0 where
  pub grant : Grant
  pub worked : Store
  pub leased : machine.counts.leases worker ≡ Some grant
  pub work : HasWorked setup machine worker grant used most_broken worked
  pub back : new ≡ merged_store (setup.blocks.scope grant.block) worked machine.store
  pub shown : (cost : ℕ) → machine.told worker ≡ Some cost
      → HasGoalWithin setup.space setup.guide worked cost

-- ---- events

-- only the counts change
abbrev pub KeepsRows : (old new : Machine) → Type 0
KeepsRows old new =
    (new.store ≡ old.store) × (new.given ≡ old.given) × (new.told ≡ old.told)
    × (new.known ≡ old.known) × (new.broken ≡ old.broken)

-- the worker's lease is given the incumbent, or one that was known before it fell
abbrev pub GivesIncumbent : (old new : Machine) → (worker : ℕ) → Type 0
GivesIncumbent old new worker =
    (incumbent : Option ℕ) × IsTrue (new.known worker incumbent)
    × (new.given ≡ with_entry old.given worker incumbent)

-- what an event does to the rows, and which rows it needs
abbrev pub RowPart : Setup → (old : Machine) → Event → (new : Machine) → Type 0
RowPart setup old (Lease worker block quota) new =
    HasOpened (old.store.rows block) × (new.store ≡ old.store) × GivesIncumbent old new worker
    × (new.told ≡ with_entry old.told worker None) × (new.known ≡ old.known)
    × (new.broken ≡ old.broken)
RowPart setup old (Renew worker used quota) new =
    CameBack setup old worker used 0 new.store × GivesIncumbent old new worker
    × (new.told ≡ with_entry old.told worker None)
    × (new.known ≡ with_incumbent old.known new.store.incumbent) × (new.broken ≡ old.broken)
RowPart setup old (Hot worker block) new =
    ((other : ℕ) → IsTrue (interferes setup.blocks block other) → IsTrue (old.counts.hot other)
    → IsBetter old.store other block → ⊥)
    × KeepsRows old new
RowPart setup old (Cold worker block) new = KeepsRows old new
RowPart setup old (Release worker used false) new =
    CameBack setup old worker used 0 new.store × (new.given ≡ old.given)
    × (new.told ≡ with_entry old.told worker None)
    × (new.known ≡ with_incumbent old.known new.store.incumbent) × (new.broken ≡ old.broken)
RowPart setup old (Release worker used true) new =
    CameBack setup old worker used 1 new.store × (new.given ≡ old.given)
    × (new.told ≡ with_entry old.told worker None)
    × (new.known ≡ with_incumbent old.known new.store.incumbent)
    × (new.broken ≡ with_entry old.broken worker true)
RowPart setup old (Off worker memory) new = KeepsRows old new
RowPart setup old (Ended Quiet) new = IsQuiet old.store × KeepsRows old new
RowPart setup old (Ended Budget) new =
    ((block : ℕ) × HasOpened (old.store.rows block)) × KeepsRows old new
RowPart setup old (Ended Memory) new = KeepsRows old new

-- an event that may come, with its counts and its rows
pub record Happens (setup : Setup) (old : Machine) (event : Event) (new : Machine) : Type 0 where
  pub may : refusal setup.blocks setup.settings old.counts event ≡ None
  pub counts : new.counts ≡ counts_after setup.blocks setup.settings old.counts event
  pub rows : RowPart setup old event new

-- A worker that has a lease tells a cost, and the incumbent is lowered to it. The rows of the
-- lease, as it has worked on them so far, have a goal's row that costs no more. The lease's last
-- expansion may have been broken off. No journal has this.
pub record Tells (setup : Setup) (old : Machine) (worker cost : ℕ) (new : Machine) : Type 0 where
  pub grant : Grant
  pub leased : old.counts.leases worker ≡ Some grant
  pub used : ℕ
  pub worked : Store
  pub work : HasWorked setup old worker grant used 1 worked
  pub shown : HasGoalWithin setup.space setup.guide worked cost
  pub counts : new.counts ≡ old.counts
  pub store : new.store ≡ record {
    rows = old.store.rows;
    incumbent = lesser old.store.incumbent (Some cost);
    weight = old.store.weight;
  }
  pub given : new.given ≡ old.given
  pub told : new.told ≡ with_entry old.told worker (lesser (old.told worker) (Some cost))
  pub known : new.known ≡ with_incumbent (with_entry old.known worker
      (with_known (old.known worker) (Some cost))) new.store.incumbent
  pub broken : new.broken ≡ old.broken

-- An event, a cost that a worker tells, or a switch: a lease comes back after so many expansions, and
-- its worker leases another block in the same step. Nothing comes between.
pub data Move : Type 0 where
  event_move : Event → Move
  tell_move : (worker cost : ℕ) → Move
  switch_move : (worker used block quota : ℕ) → Move

abbrev pub Moves : Setup → (old : Machine) → Move → (new : Machine) → Type 0
Moves setup old (event_move event) new = Happens setup old event new
Moves setup old (tell_move worker cost) new = Tells setup old worker cost new
Moves setup old (switch_move worker used block quota) new =
    (between : Machine) × Happens setup old (Release worker used false) between
    × Happens setup between (Lease worker block quota) new

-- these moves, one after another
abbrev pub Runs : Setup → (old : Machine) → List Move → (new : Machine) → Type 0
Runs setup old [] new = new ≡ old
Runs setup old (move ∷ moves) new =
    (between : Machine) × Moves setup old move between × Runs setup between moves new

-- the events of the moves: a switch has two
abbrev pub journal_of : List Move → List Event
journal_of [] = []
journal_of (event_move event ∷ moves) = event ∷ journal_of moves
journal_of (tell_move worker cost ∷ moves) = journal_of moves
journal_of (switch_move worker used block quota ∷ moves) =
    Release worker used false ∷ Lease worker block quota ∷ journal_of moves

-- whether the move is one of this worker's: an event of its own, a cost that it told, or its switch
abbrev pub is_move_of : (worker : ℕ) → Move → Bool
is_move_of worker (event_move event) = is_event_of worker event
is_move_of worker (tell_move by cost) = by == worker
is_move_of worker (switch_move by used block quota) = by == worker

-- no move is one of this worker's
abbrev pub AreOfOthers : (worker : ℕ) → List Move → Type 0
AreOfOthers worker moves = AllByRecursion (λ move. is_move_of worker move ≡ false) moves
