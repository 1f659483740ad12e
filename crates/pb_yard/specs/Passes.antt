-- What clauses say of a pass.
use Rattle.std.specs.Prelude.{◌≡◌, ◌+◌, ℕ}
use Rattle.pb_turn.specs.Passes.{view, parts, tries, misses, whole, IsPassOf, IsSamePlace}
use Rattle.pb_yard.specs.declared.view.View.{View}
use Rattle.pb_yard.specs.declared.pass.Pass.{Pass}
use Rattle.pb_yard.specs.declared.yard.Yard.{Yard}

-- what the pass knows
abbrev pub view_of : Pass → View
view_of pass = view pass.turn

-- the pass's worker
abbrev pub worker_of : Pass → ℕ
worker_of pass = pass.worker

-- its parts of the right to close: a split gives one of them away, a meeting adds up, and there are
-- `all_parts` of them
abbrev pub parts_of : Pass → ℕ
parts_of pass = parts pass.turn

abbrev pub all_parts : ℕ
all_parts = whole

-- it is a pass of this yard
abbrev pub IsOf : Yard → Pass → Type 0
IsOf yard pass = IsPassOf yard.lock pass.turn

-- it is worker 0's, with all parts of the right to close
abbrev pub IsFirstPass : Yard → Pass → Type 0
IsFirstPass yard pass = IsOf yard pass × (worker_of pass ≡ 0) × (parts_of pass ≡ all_parts)

-- the same pass of the same yard
abbrev pub IsSamePass : Pass → Pass → Type 0
IsSamePass old new = IsSamePlace old.turn new.turn × (new.worker ≡ old.worker)

-- the same pass of the same yard, with as many parts
abbrev pub KeepsPass : Pass → Pass → Type 0
KeepsPass old new = IsSamePass old new × (parts_of new ≡ parts_of old)

-- how many steps of the pass itself tried for the turn
abbrev pub tries_of : Pass → ℕ
tries_of pass = tries pass.turn

-- how often a step of the pass itself found the turn held
abbrev pub misses_of : Pass → ℕ
misses_of pass = misses pass.turn

-- The call took the turn once: each of its own steps that tried for the turn found it held, but one.
abbrev pub TakesTurnOnce : Pass → Pass → Type 0
TakesTurnOnce old new = tries_of new + misses_of old ≡ tries_of old + misses_of new + 1

-- no step of the call tried for the turn
abbrev pub TriesForNoTurn : Pass → Pass → Type 0
TriesForNoTurn old new = (tries_of new ≡ tries_of old) × (misses_of new ≡ misses_of old)
