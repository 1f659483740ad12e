-- Events of one worker, one after another, with its marks in turn.
use Rattle.std.proofs.Common.{◌≡◌, ℕ, ◌≤◌, ◌==◌, Bool, true, false, cond, not, ◌||◌, inl, inr, is_none, nat_lt, List, [], ◌∷◌, ◌++◌, Option, Some, None, refl, sym, ap, ◌∙◌, subst, arith, true≢false}
use Rattle.std.specs.List.{AllByRecursion}
use Rattle.pb_model.proofs.Callers.{by_cases, equal, below}
use Rattle.pb_machine.specs.declared.event.Event.{Event}
use Rattle.pb_machine.specs.declared.event.Event.TheVariants.{Lease, Renew, Hot, Cold, Release, Off, Ended}
use Rattle.pb_machine.specs.declared.settings.Settings.{Settings}
use Rattle.pb_machine.specs.Blocks.{Blocks}
use Rattle.pb_machine.specs.Counts.{Counts, counts_after}
use Rattle.pb_machine.specs.Legality.{is_stranger, refusal}
use Rattle.pb_machine.specs.History.{replay, is_event_of, events_of}
use Rattle.pb_machine.specs.Views.{Share, IsAmong, IsShareOf}
use Rattle.pb_machine.proofs.Callers.{passes}
use Rattle.pb_yard.specs.Marking.{Turn, turn_then, turn_after, MarksInTurn}

-- ---- one after another

pub turn_on : (events more : List Event) (turn : Option Turn) → turn_after turn (events ++ more) ≡ turn_after (turn_after turn events) more
turn_on events more None = refl
turn_on [] more (Some turn) = refl
turn_on (event ∷ events) more (Some turn) = turn_on events more (turn_then turn event)

-- ---- the events of each worker, from what a pass has of them

pub marked_share : (journal seen : List Event) (shares : List Share) (worker : ℕ) → AllByRecursion (IsShareOf journal seen) shares → AllByRecursion (λ share. MarksInTurn share.events) shares
    → IsAmong worker shares → MarksInTurn (events_of worker journal)
marked_share journal seen [] worker of marked among = absurd among
marked_share journal seen (share ∷ shares) worker of marked (inl is) =
    subst (λ w. MarksInTurn (events_of w journal)) is (subst MarksInTurn (sym of.0.told) marked.0)
marked_share journal seen (share ∷ shares) worker of marked (inr rest) = marked_share journal seen shares worker of.1 marked.1 rest

-- ---- who is no worker has no event

module _ (blocks : Blocks) (settings : Settings) (worker : ℕ) (out : settings.workers ≤ worker) where
  stranger : (counts : Counts) (by : ℕ) → is_stranger settings counts by ≡ false → (by == worker) ≡ false
  stranger counts by known = by_cases (by == worker)
      (λ same. absurd (go (nat_lt by settings.workers) refl known (equal by worker same)))
      (λ e. e)
    where
      go : (r : Bool) → nat_lt by settings.workers ≡ r → (not r || counts.signed_off by) ≡ false → by ≡ worker → ⊥
      go true is k same = let lt = below by settings.workers is in omega (arith, lt, same, out)
      go false is k same = true≢false k

  foreign : (counts : Counts) (event : Event) → refusal blocks settings counts event ≡ None → is_event_of worker event ≡ false
  foreign counts (Lease by block quota) may = stranger counts by (passes blocks settings counts (Lease by block quota) may).1.0
  foreign counts (Renew by used quota) may = stranger counts by (passes blocks settings counts (Renew by used quota) may).1.0
  foreign counts (Hot by block) may = stranger counts by (passes blocks settings counts (Hot by block) may).1.0
  foreign counts (Cold by block) may = stranger counts by (passes blocks settings counts (Cold by block) may).1.0
  foreign counts (Release by used memory) may = stranger counts by (passes blocks settings counts (Release by used memory) may).0
  foreign counts (Off by memory) may = stranger counts by (passes blocks settings counts (Off by memory) may).0
  foreign counts (Ended end) may = refl

  pub others_have_none : (counts : Counts) (journal : List Event) (last : Counts) → replay blocks settings counts journal ≡ Some last → events_of worker journal ≡ []
  others_have_none counts [] last replays = refl
  others_have_none counts (event ∷ events) last replays = by_cases (is_none (refusal blocks settings counts event))
      (λ e.
      let may = no_refusal (refusal blocks settings counts event) e in
      let rest = sym (ap (λ r. cond r (replay blocks settings (counts_after blocks settings counts event) events) None) e) ∙ replays in
      ap (λ r. cond r (event ∷ events_of worker events) (events_of worker events)) (foreign counts event may)
      ∙ others_have_none (counts_after blocks settings counts event) events last rest)
      (λ e. absurd (bad (sym (ap (λ r. cond r (replay blocks settings (counts_after blocks settings counts event) events) None) e) ∙ replays)))
    where
      no_refusal : {A : Type 0} (o : Option A) → is_none o ≡ true → o ≡ None
      no_refusal None e = refl
      no_refusal (Some a) e = absurd cc

      bad : ◌≡◌ {A = Option Counts} None (Some last) → ⊥
      bad e = cc
