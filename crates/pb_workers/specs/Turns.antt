-- The turns of a worker, and its marks in them.
use Rattle.std.specs.Prelude.{◌≡◌, ◌⊎◌, ◌∷◌, ℕ, false, Some}
use Rattle.std.specs.List.{AllByRecursion}
use Rattle.pb_machine.specs.History.{events_of}
use Rattle.pb_lease.specs.GraphValue.{GraphValue}
use Rattle.pb_yard.specs.declared.view.View.{View}
use Rattle.pb_yard.specs.Marking.{Turn, no_turn, turn_of, MarksInTurn}

-- the worker's events in the graph's journal lead to this turn
abbrev pub HasTurn : GraphValue → (worker : ℕ) → Turn → Type 0
HasTurn g worker turn = turn_of (events_of worker g.table.journal) ≡ Some turn

-- the events of the pass's worker lead to this turn
abbrev pub HasTurnIn : View → Turn → Type 0
HasTurnIn view turn = turn_of view.journal.own.events ≡ Some turn

-- the pass's worker has no lease, and its marks were in turn so far
abbrev pub IsBetweenTurns : View → Type 0
IsBetweenTurns view = HasTurnIn view no_turn

-- The turn may end with so many expansions, and so many that were broken off: it has no mark, or
-- its quota is used up and none was broken off.
abbrev pub MayEnd : Turn → (used broken : ℕ) → Type 0
MayEnd turn used broken = (turn.marked ≡ false) ⊎ ((used ≡ turn.quota) × (broken ≡ 0))

-- each worker that the pass knows of has its marks in turn
abbrev pub AllMarkInTurn : View → Type 0
AllMarkInTurn view =
    AllByRecursion (λ share. MarksInTurn share.events) (view.journal.own ∷ view.journal.taken_in)
