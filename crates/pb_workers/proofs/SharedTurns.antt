-- The turns of a worker that shares a yard, and its marks in them, after each of its calls.
use Rattle.std.proofs.Common.{◌≡◌, ℕ, ◌∷◌, ◌++◌, inl, inr, Bool, true, false, List, [], Option, Some, None, IsSome, OnSome, refl, sym, ap, ◌∙◌, subst, true≢false}
use Rattle.pb_machine.specs.declared.event.Event.{Event}
use Rattle.pb_machine.specs.declared.event.Event.TheVariants.{Lease, Renew, Hot, Release, Off}
use Rattle.pb_machine.specs.Tables.{one_if}
use Rattle.pb_machine.specs.History.{is_event_of, events_of}
use Rattle.pb_lease.specs.declared.answer.LeaseReply.TheVariants.{Leased}
use Rattle.pb_lease.specs.declared.answer.Renewed.TheVariants.{Kept, Given}
use Rattle.pb_lease.specs.declared.answer.SwitchReply.TheVariants.{Switched}
use Rattle.pb_lease.specs.Events.{ending}
use Rattle.pb_lease.specs.LeaseValue.{LeaseValue}
use Rattle.pb_lease.specs.GraphValue.{GraphValue}
use Rattle.pb_yard.specs.declared.view.View.{View}
use Rattle.pb_yard.specs.Marking.{Turn, no_turn, turn_with, turn_then, turn_after, turn_of}
use Rattle.pb_yard.specs.Replies.{LeasesAs, lease_events, ReleasesAs, release_events, RenewsAs, renewal_events, RivalsAs, MarksAs, mark_events, SignsOffAs, reported, off_events}
use Rattle.pb_yard.specs.Calls.{Holds, HasRead, ReadsAndHolds, Leases, Renews, Switches, Releases, AsksRival, Marks, SignsOff}
use Rattle.pb_workers.specs.Turns.{HasTurnIn, IsBetweenTurns, MayEnd}
use Rattle.pb_workers.proofs.Turns.{own, ending_none, one_more, two_more, none_more}
use Rattle.pb_workers.proofs.Turns.{renewed as turn_renewed, returned as turn_returned}

-- a pass that held the graph
module _ (step : GraphValue → GraphValue → Type 0) (list : GraphValue → List Event) (old : View) (lent : Option LeaseValue) (told : Option ℕ) (new : View) (h : Holds step list old lent told new) where
  -- the worker's turn after its own event, or without one
  turn_own : (turn : Turn) → HasTurnIn old turn → (event : Event) (rest : List Event) → list h.found ≡ event ∷ rest → is_event_of old.journal.own.worker event ≡ true → events_of old.journal.own.worker rest ≡ []
      → turn_of new.journal.own.events ≡ turn_then turn event
  turn_own turn was event rest is mine none = ap (λ (v : View). turn_of v.journal.own.events) h.view ∙ ap (λ es. turn_of (old.journal.own.events ++ events_of old.journal.own.worker es)) is
      ∙ one_more old.journal.own.events old.journal.own.worker turn was event rest mine none

  turn_stays : events_of old.journal.own.worker (list h.found) ≡ [] → turn_of new.journal.own.events ≡ turn_of old.journal.own.events
  turn_stays none = ap (λ (v : View). turn_of v.journal.own.events) h.view ∙ none_more old.journal.own.events old.journal.own.worker (list h.found) none

-- a reading is no event
read_turn : (old between : View) → HasRead old between → turn_of between.journal.own.events ≡ turn_of old.journal.own.events
read_turn old between r = ap (λ (v : View). turn_of v.journal.own.events) r.view

read_worker : (old between : View) → HasRead old between → between.journal.own.worker ≡ old.journal.own.worker
read_worker old between r = ap (λ (v : View). v.journal.own.worker) r.view

module _ (worker : ℕ) (old new : View) (is : worker ≡ old.journal.own.worker) (before : IsBetweenTurns old) where
  pub leased_turn : (lease : LeaseValue) → Leases worker old (Leased lease) new → HasTurnIn new (turn_with lease.quota)
  leased_turn lease (between, r, h) =
      turn_own (LeasesAs worker (Leased lease)) (lease_events worker (Leased lease)) between (Some lease) None new h no_turn (read_turn old between r ∙ before) (Lease worker lease.block lease.quota) [] refl
      (own worker between.journal.own.worker (is ∙ sym (read_worker old between r))) refl

  pub unleased_turn : (list : GraphValue → List Event) (step : GraphValue → GraphValue → Type 0) (lent : Option LeaseValue) (told : Option ℕ) → ReadsAndHolds step list old lent told new
      → ((g : GraphValue) → events_of old.journal.own.worker (list g) ≡ []) → IsBetweenTurns new
  unleased_turn list step lent told (between, r, h) none =
      turn_stays step list between lent told new h (subst (λ w. events_of w (list h.found) ≡ []) (sym (read_worker old between r)) (none h.found)) ∙ read_turn old between r ∙ before

-- a turn that ends
module _ (old new : View) (lease : LeaseValue) (is : lease.worker ≡ old.journal.own.worker) (turn : Turn) (was : HasTurnIn old turn) where
  pub kept_turn : (kept : LeaseValue) → MayEnd turn lease.used 0 → Renews lease old (Kept kept) new → HasTurnIn new (turn_with kept.quota)
  kept_turn kept may (between, r, h) =
      turn_own (RenewsAs lease (Kept kept)) (λ found. renewal_events lease (Kept kept)) between (Some kept) None new h turn (read_turn old between r ∙ was) (Renew lease.worker lease.used kept.quota) [] refl
      (own lease.worker between.journal.own.worker (is ∙ sym (read_worker old between r))) refl
      ∙ turn_renewed turn lease.worker lease.used kept.quota 0 may

  pub given_turn : MayEnd turn lease.used 0 → Renews lease old Given new → IsBetweenTurns new
  given_turn may (between, r, h) =
      turn_own (RenewsAs lease Given) (λ found. renewal_events lease Given) between None None new h turn (read_turn old between r ∙ was) (Release lease.worker lease.used false) [] refl
      (own lease.worker between.journal.own.worker (is ∙ sym (read_worker old between r))) refl
      ∙ turn_returned turn lease.worker lease.used false may

  -- a turn that ends, and another one that begins with another lease
  pub switched_turn : (next : LeaseValue) → MayEnd turn lease.used 0 → Switches lease old (Switched next) new → HasTurnIn new (turn_with next.quota)
  switched_turn next may (between, r, h) =
      let mine = own lease.worker between.journal.own.worker (is ∙ sym (read_worker old between r)) in
      ap (λ (v : View). turn_of v.journal.own.events) h.view
      ∙ two_more between.journal.own.events between.journal.own.worker turn (read_turn old between r ∙ was) (Release lease.worker lease.used false) (Lease lease.worker next.block next.quota) mine mine
      ∙ ap (λ t. turn_after t (Lease lease.worker next.block next.quota ∷ [])) (turn_returned turn lease.worker lease.used false may)

  pub released_turn : (memory : Bool) → MayEnd turn lease.used (one_if memory) → Releases lease memory old new → IsBetweenTurns new
  released_turn memory may (between, r, h) =
      turn_own (ReleasesAs lease memory) (release_events lease memory) between None None new h turn (read_turn old between r ∙ was) (Release lease.worker lease.used memory) (ending memory h.found.table.end) refl
      (own lease.worker between.journal.own.worker (is ∙ sym (read_worker old between r))) (ending_none between.journal.own.worker memory h.found.table.end)
      ∙ turn_returned turn lease.worker lease.used memory may

-- the turn with its quota used up, after a mark or without
pub marking_turn : (worker block : ℕ) (done : Bool) (old new : View) → worker ≡ old.journal.own.worker → Marks worker block old done new → (quota used : ℕ) → used ≡ quota → HasTurnIn old (turn_with quota)
    → (turn : Turn) × HasTurnIn new turn × MayEnd turn used 0
marking_turn worker block true old new is h quota used spent was = (
  record { quota = quota; marked = true },
  turn_own (MarksAs worker block true) (λ found. mark_events (Hot worker block) true) old old.lent old.told new h (turn_with quota) was (Hot worker block) [] refl (own worker old.journal.own.worker is) refl,
  inr (spent, refl),
)
marking_turn worker block false old new is h quota used spent was =
    (turn_with quota, turn_stays (MarksAs worker block false) (λ found. mark_events (Hot worker block) false) old old.lent old.told new h refl ∙ was, inl refl)

pub look_turn : (lease : LeaseValue) (rival : Option ℕ) (old new : View) → AsksRival lease old rival new → (turn : Turn) → HasTurnIn old turn → HasTurnIn new turn
look_turn lease rival old new h turn was = turn_stays (RivalsAs lease rival) (λ found. []) old old.lent old.told new h refl ∙ was

-- signing off is no part of a turn
pub off_turn : (worker : ℕ) (memory : Bool) (old new : View) → worker ≡ old.journal.own.worker → SignsOff worker memory old new → IsBetweenTurns old → IsBetweenTurns new
off_turn worker memory old new is h was =
    turn_own (SignsOffAs worker memory) (off_events worker memory) old old.lent old.told new h no_turn was (Off worker (reported memory h.found.table.end))
    (ending (reported memory h.found.table.end) h.found.table.end) refl (own worker old.journal.own.worker is) (ending_none old.journal.own.worker (reported memory h.found.table.end) h.found.table.end)

-- ---- a loop that may not end

pub some_so : {A : Type 0} (o : Option A) (P : Type 0) → IsSome o → OnSome o P → P
some_so None P is so = absurd (true≢false (sym is))
some_so (Some x) P is so = so
