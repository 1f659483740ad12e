-- What the calls of a yard report.
use Rattle.std.specs.Prelude.{◌≡◌, ◌≤◌, ◌⊎◌, ℕ, Bool, IsTrue, IsFalse, List, [], ◌∷◌, ◌++◌, Option, Some, None}
use Rattle.std.specs.List.{list_any, AllByRecursion}
use Rattle.pb_model.specs.Plan.{Plan, IsPlan}
use Rattle.pb_model.specs.Store.{Rows, AtMost, lesser}
use Rattle.pb_task.specs.Parts.{space_of}
use Rattle.pb_machine.specs.declared.event.Event.{Event}
use Rattle.pb_machine.specs.declared.event.Event.TheVariants.{Hot, Cold}
use Rattle.pb_machine.specs.History.{StartsWith, is_off, events_of, AreFinished, IsHistory}
use Rattle.pb_machine.specs.Views.{IsShareOf, HasWorker}
use Rattle.pb_machine.specs.Room.{no_room}
use Rattle.pb_machine.specs.Machine.{Machine, Move, journal_of}
use Rattle.pb_lease.specs.declared.answer.LeaseReply.{LeaseReply}
use Rattle.pb_lease.specs.declared.answer.Renewed.{Renewed}
use Rattle.pb_lease.specs.declared.answer.SwitchReply.{SwitchReply}
use Rattle.pb_lease.specs.Tables.{blocks, rooms}
use Rattle.pb_lease.specs.LeaseValue.{LeaseValue}
use Rattle.pb_lease.specs.GraphValue.{GraphValue, setup_in, counts_in}
use Rattle.pb_lease.specs.Choices.{is_out_in}
use Rattle.pb_lease.specs.Moments.{IsMoment, moves_of}
use Rattle.pb_lease.specs.Begins.{begin_machine, IsBegin, IsOfRun, FitsWord}
use Rattle.pb_yard.specs.declared.view.View.{View}
use Rattle.pb_yard.specs.Views.{view_read, view_told, view_then, keeps_order}
use Rattle.pb_yard.specs.Order.{RunsSettled, RunsInTimeFor, all_keep}
use Rattle.pb_yard.specs.Rule.{IsAt, IsSearchOf}
use Rattle.pb_yard.specs.Replies.{LeasesAs, lease_events, lent_by, told_by, RenewsAs, renewal_events, kept_by, SwitchesAs, switch_moves, switched_by, ReleasesAs, release_events, RivalsAs, MarksAs, CoolsAs, mark_events, SignsOffAs, off_events}

-- ---- the shared incumbent

-- some plan of what is searched costs at most this
abbrev pub HasPlanWithin : View → (cost : ℕ) → Type 0
HasPlanWithin view cost = (plan : Plan) × IsPlan (space_of view.task) plan × (plan.cost ≤ cost)

-- The pass told this cost at one step, at which the yard had some graph: the shared incumbent became
-- the lesser of the two, and the graph stayed.
abbrev pub LowersIncumbent : View → (cost : ℕ) → Type 0
LowersIncumbent old cost =
    (g : GraphValue) × (before : IsAt g old) × (after : IsAt g (view_told old cost))
    × (after.shared ≡ lesser before.shared (Some cost))

-- ---- a call that holds the graph

-- The pass held the graph once. It found a lawful moment, whose journal begins with all that the
-- pass had seen. From there the graph went to the moment that the pass left, as `step` says, which
-- is lawful too. Exactly these events came to the journal. They are those of these moves, which lead
-- from the one moment to the other, in order and in time if the pass's worker keeps the order. The
-- pass has seen the whole journal then,
-- and of the new events it has its own worker's. It has this lease, and has told this cost.
pub record HoldsBy (step : (found left : GraphValue) → Type 0)
    (events : (found : GraphValue) → List Event) (made : (found : GraphValue) → List Move)
    (old : View) (lent : Option LeaseValue) (told : Option ℕ) (new : View) : Type 0 where
  pub found : GraphValue
  pub left : GraphValue
  pub before : IsAt found old
  pub after : IsAt left new
  pub seen : StartsWith found.table.journal old.journal.seen
  pub step_is : step found left
  pub added : left.table.journal ≡ found.table.journal ++ events found
  pub events_are : journal_of (made found) ≡ events found
  pub moves : RunsSettled (setup_in found) (keeps_order old) (rooms found.table)
      before.yard.machine before.yard.settled (made found) after.yard.machine after.yard.settled
  pub view : new ≡ view_then found.table.journal (events found) lent told old

-- the same, with each event a move of its own
abbrev pub Holds : (step : (found left : GraphValue) → Type 0)
    → (events : (found : GraphValue) → List Event) → (old : View) → (lent : Option LeaseValue)
    → (told : Option ℕ) → (new : View) → Type 0
Holds step events old lent told new =
    HoldsBy step events (λ found. moves_of (events found)) old lent told new

-- The pass first read the incumbent, under the turn: what it read is at most what it had read or
-- told before. `between` is its view then.
pub record HasRead (old between : View) : Type 0 where
  pub held : GraphValue
  pub incumbent : Option ℕ
  pub falls : AtMost incumbent old.last
  pub view : between ≡ view_read (Some held) old incumbent

-- the pass read the incumbent, and then held the graph, with this step, these events and these moves
abbrev pub ReadsAndHoldsBy : (step : (found left : GraphValue) → Type 0)
    → (events : (found : GraphValue) → List Event) → (made : (found : GraphValue) → List Move)
    → (old : View) → (lent : Option LeaseValue) → (told : Option ℕ) → (new : View) → Type 0
ReadsAndHoldsBy step events made old lent told new =
    (between : View) × HasRead old between × HoldsBy step events made between lent told new

-- the same, with each event a move of its own
abbrev pub ReadsAndHolds : (step : (found left : GraphValue) → Type 0)
    → (events : (found : GraphValue) → List Event) → (old : View) → (lent : Option LeaseValue)
    → (told : Option ℕ) → (new : View) → Type 0
ReadsAndHolds step events old lent told new =
    (between : View) × HasRead old between × Holds step events between lent told new

-- the pass asked for a lease, with this answer
abbrev pub Leases : (worker : ℕ) → (old : View) → LeaseReply → (new : View) → Type 0
Leases worker old reply new =
    ReadsAndHolds (LeasesAs worker reply) (lease_events worker reply) old (lent_by reply old.lent)
    (told_by reply old.told) new

-- the pass asked to go on with its lease, with this answer
abbrev pub Renews : LeaseValue → (old : View) → Renewed → (new : View) → Type 0
Renews lease old reply new =
    ReadsAndHolds (RenewsAs lease reply) (λ found. renewal_events lease reply) old (kept_by reply)
    None new

-- the pass asked to go on with its lease or with another block, with this answer
abbrev pub Switches : LeaseValue → (old : View) → SwitchReply → (new : View) → Type 0
Switches lease old reply new =
    ReadsAndHoldsBy (SwitchesAs lease reply) (λ found. journal_of (switch_moves lease reply))
    (λ found. switch_moves lease reply) old (switched_by reply) None new

-- the pass brought its lease back
abbrev pub Releases : LeaseValue → (memory : Bool) → (old new : View) → Type 0
Releases lease memory old new =
    ReadsAndHolds (ReleasesAs lease memory) (release_events lease memory) old None None new

-- The pass has the lease that it had.
abbrev pub Looks : (step : (found left : GraphValue) → Type 0)
    → (events : (found : GraphValue) → List Event) → (old new : View) → Type 0
Looks step events old new = Holds step events old old.lent old.told new

abbrev pub AsksRival : LeaseValue → (old : View) → (rival : Option ℕ) → (new : View) → Type 0
AsksRival lease old rival new = Looks (RivalsAs lease rival) (λ found. []) old new

abbrev pub Marks : (worker block : ℕ) → (old : View) → (done : Bool) → (new : View) → Type 0
Marks worker block old done new =
    Looks (MarksAs worker block done) (λ found. mark_events (Hot worker block) done) old new

abbrev pub Cools : (worker block : ℕ) → (old : View) → (done : Bool) → (new : View) → Type 0
Cools worker block old done new =
    Looks (CoolsAs worker block done) (λ found. mark_events (Cold worker block) done) old new

abbrev pub SignsOff : (worker : ℕ) → (memory : Bool) → (old new : View) → Type 0
SignsOff worker memory old new =
    Looks (SignsOffAs worker memory) (off_events worker memory) old new

-- the pass's worker has signed off, or not
abbrev pub HasSignedOff : View → Type 0
HasSignedOff view = IsTrue (list_any is_off view.journal.own.events)

abbrev pub IsActive : View → Type 0
IsActive view = IsFalse (list_any is_off view.journal.own.events)

-- it is the only pass that was made so far, and there are this many workers
abbrev pub IsAlone : View → (workers : ℕ) → Type 0
IsAlone view workers =
    (view.journal.made ≡ 1) × (view.journal.taken_in ≡ []) × (view.settings.workers ≡ workers)

-- the pass may ask for a lease: it has none, and its worker has not signed off
abbrev pub IsReady : View → Type 0
IsReady view = (view.lent ≡ None) × IsActive view

-- what no call that holds the graph changes of a view
pub record KeepsWorkers (old new : View) : Type 0 where
  pub worker : new.journal.own.worker ≡ old.journal.own.worker
  pub taken_in : new.journal.taken_in ≡ old.journal.taken_in
  pub made : new.journal.made ≡ old.journal.made
  pub settings : new.settings ≡ old.settings
  pub abstraction : new.abstraction ≡ old.abstraction
  pub choice : new.choice ≡ old.choice
  pub task : new.task ≡ old.task
  pub begin : new.begin ≡ old.begin
  pub left_order : new.left_order ≡ old.left_order

-- ---- the end

-- There are as many passes as workers, and each worker that the pass knows of has signed off.
pub record AllSignedOff (view : View) : Type 0 where
  pub all_made : view.journal.made ≡ view.settings.workers
  pub off : AllByRecursion (λ share. IsTrue (list_any is_off share.events))
      (view.journal.own ∷ view.journal.taken_in)

-- The graph is of the search that the yard began with, where a run begins. Its journal is what the pass has seen, and
-- is a finished history: it has an end, and every worker has signed off. Each worker's events in it
-- are those that the pass has of it, and no other worker has any. No lease is out. Moves from the machine that a run begins with,
-- at the graph that the yard began with, lead to the graph's moment of the lease machine. They are
-- in order and in time for these workers, and their events are the journal. A word can say the incumbent beside "none",
-- so a yard can take the graph again once it was opened again.
pub record IsClosedFor (keeps : (worker : ℕ) → Bool) (view : View) (g : GraphValue) : Type 0 where
  pub search : IsSearchOf g view
  pub of_run : IsOfRun view.begin g
  pub begins : IsBegin view.begin
  pub seen : view.journal.seen ≡ g.table.journal
  pub shares : AllByRecursion (IsShareOf g.table.journal view.journal.seen)
      (view.journal.own ∷ view.journal.taken_in)
  pub every : (worker : ℕ) → HasWorker worker view.journal
      ⊎ (events_of worker g.table.journal ≡ [])
  pub history : IsHistory (blocks g.table) g.table.settings g.table.past.spent g.table.journal
      (counts_in g)
  pub finished : AreFinished g.table.settings (counts_in g)
  pub home : IsFalse (is_out_in g)
  pub moves : List Move
  pub machine : Machine
  pub run : RunsInTimeFor (setup_in g) keeps no_room (begin_machine view.begin) moves machine
  pub journal : journal_of moves ≡ g.table.journal
  pub moment : (recorded : (worker : ℕ) → Rows) → IsMoment g recorded machine
  pub fits : FitsWord g.incumbent

-- the same where every worker kept the order
abbrev pub IsClosed : View → GraphValue → Type 0
IsClosed view g = IsClosedFor all_keep view g
