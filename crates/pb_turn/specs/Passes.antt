-- What clauses say of a pass, of what a holder has, and of the lock.
use Rattle.std.specs.Prelude.{◌≡◌, ℕ, [], ◌∷◌, Option, Some, None}
use Rattle.pb_turn.specs.declared.rule.TurnRule.{Ghosts}
use Rattle.pb_turn.specs.declared.pass.Pass.{Pass}
use Rattle.pb_turn.specs.declared.pass.Held.{Held}
use Rattle.pb_turn.specs.declared.lock.TurnLock.{TurnLock}
use Rattle.pb_turn.specs.declared.table_rule.Stage.{Stage}
use Rattle.pb_turn.specs.declared.table_rule.Stage.TheVariants.{Resting, Holding}

-- the state that the holder found, and what it has made of it
abbrev pub found : {R S V : Type 0} → Held R S V → S
found h = h.found.value

abbrev pub state : {R S V : Type 0} → Held R S V → S
state h = h.state

abbrev pub with_state : {R S V : Type 0} → Held R S V → S → Held R S V
with_state h x = record h { state = x }

-- All parts of the right to close. The first pass has them, a split gives one away, and a meeting
-- adds up. A pass has at least one, so a pass that has all is the only one.
abbrev pub whole : ℕ
whole = 18446744073709551616

-- the state that a pass has found, if it holds the turn
abbrev pub found_by : {S : Type 0} → Stage S → Option S
found_by Resting = None
found_by (Holding x) = Some x

module _ {R S V : Type 0} {g : Ghosts R S V} where
  -- what the caller's rule sees of a pass
  abbrev pub view : Pass R S V g → V
  view p = p.seat.me.0.view

  -- the number of a pass among the passes of its lock
  abbrev pub number : Pass R S V g → ℕ
  number p = p.seat.id

  -- a pass's parts of the right to close
  abbrev pub parts : Pass R S V g → ℕ
  parts p = p.seat.me.0.parts

  -- how many steps of the pass's own tried for the turn
  abbrev pub tries : Pass R S V g → ℕ
  tries p = p.seat.me.0.tries

  -- how often a step of the pass's own found the turn held
  abbrev pub misses : Pass R S V g → ℕ
  misses p = p.seat.me.0.misses

  -- the pass doesn't hold the turn
  abbrev pub IsResting : Pass R S V g → Type 0
  IsResting p = (p.seat.me.0.stage ≡ Resting) × (p.seat.me.1 ≡ [])

  -- the state that the pass found, if it holds the turn
  abbrev pub held : Pass R S V g → Option S
  held p = found_by p.seat.me.0.stage

  -- the pass holds the turn, and found this state
  abbrev pub HoldsTurn : Pass R S V g → S → Type 0
  HoldsTurn p x = (p.seat.me.0.stage ≡ Holding x) × (p.seat.me.1 ≡ (0, None) ∷ [])

  -- between the two steps of an entry or of a leaving: the pass holds the turn and found x, and the
  -- state y still is in the slot, or is there again
  abbrev pub HasLaid : Pass R S V g → S → S → Type 0
  HasLaid p x y = (p.seat.me.0.stage ≡ Holding x) × (p.seat.me.1 ≡ (0, Some y) ∷ [])

  -- the pass is one of this lock
  abbrev pub IsPassOf : TurnLock R S V → Pass R S V g → Type 0
  IsPassOf l p = p.seat.table_id ≡ l.table.shared.table_id

  -- the same pass of the same lock, with as many parts
  abbrev pub IsSamePass : Pass R S V g → Pass R S V g → Type 0
  IsSamePass p q =
      (q.seat.table_id ≡ p.seat.table_id) × (q.seat.id ≡ p.seat.id)
      × (q.seat.me.0.parts ≡ p.seat.me.0.parts)

  -- the same pass of the same lock, which holds the turn, or doesn't, as before
  abbrev pub IsSamePlace : Pass R S V g → Pass R S V g → Type 0
  IsSamePlace p q =
      (q.seat.table_id ≡ p.seat.table_id) × (q.seat.id ≡ p.seat.id)
      × (q.seat.me.0.stage ≡ p.seat.me.0.stage) × (q.seat.me.1 ≡ p.seat.me.1)
