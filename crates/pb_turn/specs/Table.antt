-- The rule of the table under a lock, and what each step reports. Word 0 is the turn: 1 while a
-- pass holds it, else 0. Word 1 is the number. Slot 0 has the state, and is at home while the turn
-- is 0.
use Rattle.std.specs.Prelude.{◌≡◌, ◌≢◌, ℕ, zero, suc, ◌+◌, ◌-◌, ◌≤◌, List, [], ◌∷◌, map, sum_by, Option, Some}
use mathlib.Core.Option as maybe
use mathlib.Core.Option.{none, some}
use lib.ListN.{get_elem?}
use Rattle.atomic_table.specs.Table.{State, Me, Step}
use Rattle.pb_turn.specs.declared.table_rule.PassView.{PassView}
use Rattle.pb_turn.specs.declared.table_rule.Stage.{Stage}
use Rattle.pb_turn.specs.declared.table_rule.Stage.TheVariants.{Resting, Holding}
use Rattle.pb_turn.specs.Obligations.{Stands, StandsAt, IsHeld}
use Rattle.pb_turn.specs.Passes.{whole, found_by}

-- the slot, by the turn
abbrev pub home_of : {S : Type 0} → ℕ → S → maybe.Option (Option S)
home_of zero x = some (Some x)
home_of (suc n) x = none

-- a pass that holds the turn is the holder, and found the state that the last holder left
abbrev pub Knows : {S : Type 0} → ℕ → ℕ → S → ℕ → Stage S → Type 0
Knows turn holder state pass Resting = Unit {0}
Knows turn holder state pass (Holding x) = (turn ≡ 1) × (pass ≡ holder) × (x ≡ state)

-- what is known of a pass, and what it has taken out of the table
abbrev pub Known : Type 0 → Type 0 → Type 0
Known S V = Me (Option S) (PassView S V)

module _ {S V : Type 0} where
  abbrev pub pass_view : Stage S → (parts tries misses leaves changes : ℕ) → ℕ × ℕ → V → PassView S V
  pass_view stage parts tries misses leaves changes calm v =
      record {
        stage = stage;
        parts = parts;
        tries = tries;
        misses = misses;
        leaves = leaves;
        changes = changes;
        calm = calm;
        view = v;
      }

  abbrev pub first_pass : V → PassView S V
  first_pass v = pass_view Resting whole 0 0 0 0 (0, 0) v

  abbrev pub spent_pass : V → PassView S V
  spent_pass v = pass_view Resting 0 0 0 0 0 (0, 0) v

  abbrev pub kept_pass : (V → V) → PassView S V → PassView S V
  kept_pass kept d =
      pass_view d.stage (d.parts - 1) d.tries d.misses d.leaves d.changes d.calm
      (kept d.view)

  abbrev pub given_pass : (V → V) → PassView S V → PassView S V
  given_pass given d = pass_view Resting 1 0 0 0 0 d.calm (given d.view)

  abbrev pub met_pass : (V → V → V) → PassView S V → PassView S V → PassView S V
  met_pass met d e =
      pass_view d.stage (d.parts + e.parts) (d.tries + e.tries) (d.misses + e.misses)
      (d.leaves + e.leaves) d.changes d.calm (met d.view e.view)

  abbrev pub view_of : PassView S V → V
  view_of d = d.view

  abbrev pub parts_of : PassView S V → ℕ
  parts_of d = d.parts

  abbrev pub tries_of : PassView S V → ℕ
  tries_of d = d.tries

  abbrev pub misses_of : PassView S V → ℕ
  misses_of d = d.misses

  abbrev pub leaves_of : PassView S V → ℕ
  leaves_of d = d.leaves

  -- Each try that was no miss took the turn, and each leaving freed it: as many as there were of the
  -- ones, there were of the others, and one more while the turn is held.
  abbrev pub AddUp : (views : List (PassView S V)) → (turn : ℕ) → Type 0
  AddUp views turn = sum_by tries_of views ≡ sum_by misses_of views + sum_by leaves_of views + turn

  -- The turn was taken and left at least as often as each pass knows.
  abbrev pub AreKnown : (views : List (PassView S V)) → Type 0
  AreKnown views =
      (j : ℕ) (d : PassView S V) → get_elem? views j ≡ some d
      → d.changes + sum_by misses_of views ≤ sum_by tries_of views + sum_by leaves_of views

  -- what a pass may know of the misses: the first number is of leavings, the second of misses
  abbrev pub IsCalm : (views : List (PassView S V)) → (turn : ℕ) → ℕ × ℕ → Type 0
  IsCalm views turn known =
      (known.0 ≤ sum_by leaves_of views)
      × (known.0 ≡ sum_by leaves_of views → turn ≡ 0 → sum_by misses_of views ≤ known.1)

  -- No pass missed since the turn was left, as far as each pass knows.
  abbrev pub AreCalm : (views : List (PassView S V)) → (turn : ℕ) → Type 0
  AreCalm views turn =
      (j : ℕ) (d : PassView S V) → get_elem? views j ≡ some d → IsCalm views turn d.calm

  -- `state` is the one that the last holder left: it is in the slot, or the holder has found it.
  -- By `counted` and `changed` no step takes the turn that doesn't count as a try and as no miss,
  -- whatever the step reports. By `calm` no step counts a miss while the turn is free.
  pub record Turned (fact : S → ℕ → List V → Type 0) (spent : V)
      (s : State (Option S) (PassView S V)) : Type 0 where
    pub state : S
    pub turn : ℕ
    pub holder : ℕ
    pub number : ℕ
    pub low : turn ≤ 1
    pub words : s.words ≡ turn ∷ number ∷ []
    pub homes : s.homes ≡ home_of turn state ∷ []
    pub each_pass : (j : ℕ) (d : PassView S V) → get_elem? s.views j ≡ some d
        → Knows turn holder state j d.stage
    pub holds_it : turn ≡ 1 → (d : PassView S V) × (get_elem? s.views holder ≡ some d)
        × (d.stage ≡ Holding state)
    pub all_parts : sum_by parts_of s.views ≡ whole
    pub no_parts : (j : ℕ) (d : PassView S V) → get_elem? s.views j ≡ some d → d.parts ≡ 0
        → d ≡ spent_pass spent
    pub counted : AddUp s.views turn
    pub changed : AreKnown s.views
    pub begun : IsCalm s.views turn (0, 0)
    pub calm : AreCalm s.views turn
    pub kept : fact state number (map view_of s.views)

  -- the pass counts a try. It has the turn and the state x, of which the fact holds
  abbrev pub Won : (S → ℕ → List V → Type 0) → ℕ → Known S V → S → Known S V → Type 0
  Won fact pass m x m' =
      (m' ≡ (
        pass_view (Holding x) m.0.parts (m.0.tries + 1) m.0.misses m.0.leaves m.0.changes m.0.calm m.0.view,
        (0, Some x) ∷ m.1,
      ))
      × Stands fact pass m.0.view x

  -- The pass counts a try and a miss. It isn't the only one, and the fact holds of what the holder
  -- found.
  abbrev pub Missed : (S → ℕ → List V → Type 0) → ℕ → Known S V → Known S V → Type 0
  Missed fact pass m m' =
      (m' ≡ (
        pass_view m.0.stage m.0.parts (m.0.tries + 1) (m.0.misses + 1) m.0.leaves m.0.changes m.0.calm
            m.0.view,
        m.1,
      ))
      × (m.0.parts ≢ whole) × ((x : S) × Stands fact pass m.0.view x)

  -- a try for the turn, by what it found
  abbrev pub tried : (S → ℕ → List V → Type 0) → ℕ → Step (Option S) → Known S V → ℕ → Known S V
      → Type 0
  tried fact pass st m n m' =
      (n ≡ 0 → (x : S) × Won fact pass m x m') × (n ≢ 0 → (n ≡ 1) × Missed fact pass m m')

  -- what a load of the number finds: the fact holds of the number and of some state, which a holder
  -- has found. The pass has the view that a load leaves
  abbrev pub read : (S → ℕ → List V → Type 0) → (Option S → V → ℕ → V) → ℕ → Step (Option S)
      → Known S V → ℕ → Known S V → Type 0
  read fact loaded pass st m n m' =
      (m' ≡ (
        pass_view m.0.stage m.0.parts m.0.tries m.0.misses m.0.leaves m.0.changes m.0.calm
            (loaded (found_by m.0.stage) m.0.view n),
        m.1,
      )) × ((x : S) × StandsAt fact pass m.0.view x n × IsHeld (found_by m.0.stage) x)

  -- a lowering: the fact held of some state and number. The pass has the view that a lowering
  -- leaves
  abbrev pub sunk : (S → ℕ → List V → Type 0) → (V → ℕ → V) → ℕ → Step (Option S) → Known S V → ℕ
      → Known S V → Type 0
  sunk fact lowered pass st m n m' =
      (m' ≡ (
        pass_view m.0.stage m.0.parts m.0.tries m.0.misses m.0.leaves m.0.changes m.0.calm
            (lowered m.0.view st.first),
        m.1,
      ))
      × ((x : S) × StandsAt fact pass m.0.view x n)

  -- the store that leaves
  abbrev pub left : Option V → Step (Option S) → Known S V → ℕ → Known S V → Type 0
  left next st m n m' =
      (m'.0.stage ≡ Resting) × (m'.0.parts ≡ m.0.parts) × (m'.0.tries ≡ m.0.tries)
      × (m'.0.misses ≡ m.0.misses) × (next ≡ Some m'.0.view) × (m'.1 ≡ [])
