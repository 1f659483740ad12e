-- The order of a search by blocks, best first: which block is leased, and which rows a lease takes
-- (Burns, Lemons, Ruml, Zhou 2010).
use Rattle.std.specs.Prelude.{◌≡◌, ℕ, true, false, List, [], ◌∷◌, ⊤}
use Rattle.pb_model.specs.Space.{Space}
use Rattle.pb_model.specs.Guide.{Guide}
use Rattle.pb_model.specs.Store.{Store}
use Rattle.pb_model.specs.Work.{Work, expand, break_off, cut, take_goal, lower, reopen, store_after}
use Rattle.pb_model.specs.Turns.{IsFirst, IsFirstToKeep, IsTurn}
use Rattle.pb_machine.specs.declared.event.Event.TheVariants.{Lease, Renew, Release}
use Rattle.pb_machine.specs.Choice.{IsFirstChoice, counts_with_lease_home}
use Rattle.pb_machine.specs.Machine.{Setup, Machine, lent_store, CameBack, Move, event_move, switch_move, Moves}

-- ---- the rows of a lease

-- The work is a turn of a lease: one of a best-first search, on the first Opened row of its block.
-- The expansion of that row may be broken off (which ends the work: `IsWorked.stops`), and between
-- turns the worker may read an incumbent.
abbrev pub IsLeaseTurn : Guide → Store → Work → Type 0
IsLeaseTurn guide store (break_off own offers) = IsFirstToKeep guide store own
IsLeaseTurn guide store (lower cost) = ⊤
IsLeaseTurn guide store work = IsTurn guide store work

-- each piece of the work is such a turn, in the store that those before it leave
abbrev pub AreLeaseTurns : Space → Guide → List Work → (old : Store) → Type 0
AreLeaseTurns space guide [] old = ⊤
AreLeaseTurns space guide (work ∷ works) old = IsLeaseTurn guide old work
    × AreLeaseTurns space guide works (store_after space guide work old)

-- the work is on the first Opened row of its part of the store, whatever the incumbent is
abbrev pub IsOnFirst : Guide → Store → Work → Type 0
IsOnFirst guide store (expand own) = IsFirst guide store own
IsOnFirst guide store (break_off own offers) = IsFirst guide store own
IsOnFirst guide store (cut own) = IsFirst guide store own
IsOnFirst guide store (take_goal own) = IsFirst guide store own
IsOnFirst guide store (lower cost) = ⊤
IsOnFirst guide store (reopen weight) = ⊥

abbrev pub AreOnFirst : Space → Guide → List Work → (old : Store) → Type 0
AreOnFirst space guide [] old = ⊤
AreOnFirst space guide (work ∷ works) old =
    IsOnFirst guide old work × AreOnFirst space guide works (store_after space guide work old)

-- ---- a run in order

-- the worker's lease came back, and its work was done in turns
abbrev pub CameBackInTurns : Setup → (old : Machine) → (worker used most_broken : ℕ) → (new : Store)
    → Type 0
CameBackInTurns setup old worker used most_broken new =
    (back : CameBack setup old worker used most_broken new)
    × AreLeaseTurns setup.space setup.guide back.work.works
    (lent_store setup back.grant.block old.store (old.given worker))

-- The move is in order: the block that is leased is the first choice, and a lease that comes back
-- has worked in turns. At a switch the next block is the first choice with the lease home and the
-- hot blocks as before the switch, though its release may make some of them cold. The rows are
-- those of the new store: the second event of a switch, a lease, changes no row.
abbrev pub IsInOrder : Setup → (old : Machine) → Move → (new : Machine) → Type 0
IsInOrder setup old (event_move (Lease worker block quota)) new =
    IsFirstChoice setup.blocks setup.settings old.counts old.store block
IsInOrder setup old (event_move (Renew worker used quota)) new =
    CameBackInTurns setup old worker used 0 new.store
IsInOrder setup old (event_move (Release worker used false)) new =
    CameBackInTurns setup old worker used 0 new.store
IsInOrder setup old (event_move (Release worker used true)) new =
    CameBackInTurns setup old worker used 1 new.store
IsInOrder setup old (switch_move worker used block quota) new =
    CameBackInTurns setup old worker used 0 new.store
    × IsFirstChoice setup.blocks setup.settings (counts_with_lease_home old.counts worker used)
    new.store block
IsInOrder setup old move new = ⊤

-- these moves, one after another, each in order
abbrev pub RunsInOrder : Setup → (old : Machine) → List Move → (new : Machine) → Type 0
RunsInOrder setup old [] new = new ≡ old
RunsInOrder setup old (move ∷ moves) new =
    (between : Machine) × Moves setup old move between × IsInOrder setup old move between
    × RunsInOrder setup between moves new
