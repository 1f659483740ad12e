-- The turns of a worker and its marks in them, as its events go on.
use Rattle.std.proofs.Common.{◌≡◌, ℕ, ◌==◌, Bool, true, false, cond, not, ◌&&◌, ◌||◌, List, [], ◌∷◌, ◌++◌, Option, Some, None, refl, ap, ◌∙◌, inl, inr}
use Rattle.std.proofs.lemmas.List.{append-nil}
use Rattle.std.proofs.lemmas.List.Elements.{filter-append}
use Rattle.pb_model.proofs.Callers.{equal_self}
use Rattle.pb_machine.specs.declared.event.End.{End}
use Rattle.pb_machine.specs.declared.event.Event.{Event}
use Rattle.pb_machine.specs.declared.event.Event.TheVariants.{Renew, Hot, Release}
use Rattle.pb_machine.specs.Tables.{one_if}
use Rattle.pb_machine.specs.History.{is_event_of, events_of}
use Rattle.pb_lease.specs.Events.{ending}
use Rattle.pb_lease.specs.Steps.{end_events}
use Rattle.pb_yard.specs.Marking.{Turn, no_turn, turn_with, turn_then, turn_after, turn_of}
use Rattle.pb_yard.proofs.Callers.{turn_on}
use Rattle.pb_workers.specs.Turns.{MayEnd}

-- ---- one event more

-- the worker is its own
pub own : (by worker : ℕ) → by ≡ worker → (by == worker) ≡ true
own by worker is = ap (λ k. k == worker) is ∙ equal_self worker

-- ends are nobody's
pub ending_none : (worker : ℕ) (memory : Bool) (end : Option End) → events_of worker (ending memory end) ≡ []
ending_none worker true None = refl
ending_none worker true (Some end) = refl
ending_none worker false end = refl

pub end_none : (worker : ℕ) (standing : Option End) (end : End) → events_of worker (end_events standing end) ≡ []
end_none worker None end = refl
end_none worker (Some other) end = refl

after_none : (turn : Option Turn) → turn_after turn [] ≡ turn
after_none None = refl
after_none (Some turn) = refl

module _ (events : List Event) (worker : ℕ) where
  -- the worker's own event, and then others that aren't its own
  pub one_more : (turn : Turn) → turn_of events ≡ Some turn → (event : Event) (rest : List Event) → is_event_of worker event ≡ true → events_of worker rest ≡ []
      → turn_of (events ++ events_of worker (event ∷ rest)) ≡ turn_then turn event
  one_more turn is event rest mine none =
      ap (λ r. turn_of (events ++ cond r (event ∷ events_of worker rest) (events_of worker rest))) mine
      ∙ ap (λ es. turn_of (events ++ event ∷ es)) none
      ∙ turn_on events (event ∷ []) (Some no_turn)
      ∙ ap (λ t. turn_after t (event ∷ [])) is
      ∙ after_none (turn_then turn event)

  -- two of its own events
  pub two_more : (turn : Turn) → turn_of events ≡ Some turn → (first second : Event) → is_event_of worker first ≡ true → is_event_of worker second ≡ true
      → turn_of (events ++ events_of worker (first ∷ second ∷ [])) ≡ turn_after (turn_then turn first) (second ∷ [])
  two_more turn is first second mine too =
      ap (λ r. turn_of (events ++ cond r (first ∷ events_of worker (second ∷ [])) (events_of worker (second ∷ [])))) mine
      ∙ ap (λ r. turn_of (events ++ first ∷ cond r (second ∷ []) [])) too
      ∙ turn_on events (first ∷ second ∷ []) (Some no_turn)
      ∙ ap (λ t. turn_after t (first ∷ second ∷ [])) is

  -- events that aren't its own
  pub none_more : (more : List Event) → events_of worker more ≡ [] → turn_of (events ++ events_of worker more) ≡ turn_of events
  none_more more none = ap (λ es. turn_of (events ++ es)) none ∙ ap turn_of (append-nil events)

-- the same in a journal
module _ (journal after : List Event) (worker : ℕ) where
  pub journal_more : (more : List Event) → after ≡ journal ++ more → turn_of (events_of worker after) ≡ turn_of (events_of worker journal ++ events_of worker more)
  journal_more more is = ap turn_of (ap (events_of worker) is ∙ filter-append (is_event_of worker) journal more)

-- ---- how a turn goes on

pub marked : (quota worker block : ℕ) → turn_then (turn_with quota) (Hot worker block) ≡ Some (record { quota = quota; marked = true })
marked quota worker block = refl

pub renewed : (turn : Turn) (worker used quota : ℕ) (broken : ℕ) → MayEnd turn used broken → turn_then turn (Renew worker used quota) ≡ Some (turn_with quota)
renewed turn worker used quota broken why = go turn.marked refl why
  where
    go : (m : Bool) → turn.marked ≡ m → MayEnd turn used broken → turn_then turn (Renew worker used quota) ≡ Some (turn_with quota)
    go m is (inl none) = ap (λ r. cond (not r || (used == turn.quota)) (Some (turn_with quota)) None) none
    go false is (inr spent) = ap (λ r. cond (not r || (used == turn.quota)) (Some (turn_with quota)) None) is
    go true is (inr spent) = ap (λ r. cond (not r || (used == turn.quota)) (Some (turn_with quota)) None) is ∙ ap (λ r. cond r (Some (turn_with quota)) None) (own used turn.quota spent.0)

-- no expansion was broken off without a report
silent : (memory : Bool) → one_if memory ≡ 0 → memory ≡ false
silent false e = refl
silent true e = absurd cc

pub returned : (turn : Turn) (worker used : ℕ) (memory : Bool) → MayEnd turn used (one_if memory) → turn_then turn (Release worker used memory) ≡ Some no_turn
returned turn worker used memory why = go turn.marked refl why
  where
    left : (m : Bool) → Option Turn
    left m = cond ((not m || (used == turn.quota)) && not (m && memory)) (Some no_turn) None

    go : (m : Bool) → turn.marked ≡ m → MayEnd turn used (one_if memory) → turn_then turn (Release worker used memory) ≡ Some no_turn
    go m is (inl none) = ap left none
    go false is (inr spent) = ap left is
    go true is (inr spent) = ap left is ∙ ap (λ r. cond (r && not memory) (Some no_turn) None) (own used turn.quota spent.0)
        ∙ ap (λ r. cond (not r) (Some no_turn) None) (silent memory spent.1)
