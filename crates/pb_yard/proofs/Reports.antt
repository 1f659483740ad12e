-- An out-of-memory report ends a run in time.
use Rattle.std.proofs.Common.{◌≡◌, ℕ, Bool, true, false, ◌||◌, ◌&&◌, not, ◌⊎◌, inl, inr, is_some, is_none, List, [], ◌∷◌, Option, Some, None, refl, sym, ap, ◌∙◌, subst, true≢false}
use Rattle.std.specs.List.{list_any}
use Rattle.std.proofs.lemmas.Option.{same_Some}
use Rattle.pb_model.proofs.Callers.{by_cases}
use Rattle.pb_machine.specs.declared.event.End.{End}
use Rattle.pb_machine.specs.declared.event.End.TheVariants.{Quiet, Budget, Memory}
use Rattle.pb_machine.specs.declared.event.Event.{Event}
use Rattle.pb_machine.specs.declared.event.Event.TheVariants.{Lease, Renew, Hot, Cold, Release, Off, Ended}
use Rattle.pb_machine.specs.declared.event.Grant.{Grant}
use Rattle.pb_machine.specs.Counts.{Counts, is_any_out, AreLawful, counts_after}
use Rattle.pb_machine.specs.declared.event.EventRefusal.TheVariants.{Trouble}
use Rattle.pb_machine.specs.Legality.{is_memory_end, tests, refusal}
use Rattle.pb_machine.specs.History.{is_report}
use Rattle.pb_machine.specs.Room.{room_moved}
use Rattle.pb_machine.specs.Machine.{Setup, IsSetup, Machine, Happens, Move, event_move, tell_move, switch_move, Moves, journal_of}
use Rattle.pb_machine.specs.Lawful.{IsLawful}
use Rattle.pb_machine.proofs.Callers.{any_none, moves_keep_lawful, none_true, passes, runs_are_lawful}
use Rattle.pb_yard.specs.Order.{IsTimely, settled_after, RunsSettled, all_keep}
use Rattle.pb_yard.proofs.InTime.{in_time_is_run}
use Rattle.pb_yard.specs.Laws.{OtherEndsHaveNoReport}

-- if there was a report, it waits for its end, or the search has ended by it
abbrev Ends : Bool → Counts → Type 0
Ends was counts = was ≡ true → (counts.trouble ≡ true) ⊎ (counts.end ≡ Some Memory)

or_none : (r : Bool) → (r || false) ≡ r
or_none true = refl
or_none false = refl

or_assoc : (a b c : Bool) → ((a || b) || c) ≡ (a || (b || c))
or_assoc true b c = refl
or_assoc false b c = refl

keep : (r : Bool) → (r || false) ≡ true → r ≡ true
keep true e = refl
keep false e = e

module _ (p : Setup) (greatest_cost : ℕ) (is : IsSetup p greatest_cost) where
  -- nothing but its end comes after a report that waits
  none_waits : (counts : Counts) (event : Event) → is_memory_end event ≡ false → refusal p.blocks p.settings counts event ≡ None → counts.trouble ≡ false
  none_waits counts event other may = go counts.trouble (none_true ((counts.trouble && not (is_memory_end event), Trouble) ∷ tests p.blocks p.settings counts event) may).0
    where
      go : (r : Bool) → (r && not (is_memory_end event)) ≡ false → r ≡ false
      go false h = refl
      go true h = absurd (true≢false (sym (ap not other) ∙ h))

  ended : (was : Bool) (old : Machine) (event : Event) → is_memory_end event ≡ false → refusal p.blocks p.settings old.counts event ≡ None → Ends was old.counts → was ≡ true → old.counts.end ≡ Some Memory
  ended was old event other may ends there = go (ends there)
    where
      go : (old.counts.trouble ≡ true) ⊎ (old.counts.end ≡ Some Memory) → old.counts.end ≡ Some Memory
      go (inl waits) = absurd (true≢false (sym waits ∙ none_waits old.counts event other may))
      go (inr end) = end

  -- while a lease is out, only out of memory can have ended the search
  while_out : (counts : Counts) → AreLawful p.blocks p.settings counts → (worker : ℕ) (grant : Grant) → counts.leases worker ≡ Some grant → (end : Option End) → counts.end ≡ end → (true && is_none end ≡ true) ⊎ (counts.end ≡ Some Memory)
  while_out counts l worker grant leased None e = inl refl
  while_out counts l worker grant leased (Some Memory) e = inr e
  while_out counts l worker grant leased (Some Quiet) e = absurd (out counts l worker grant leased (l.quiet e))
    where
      out : (counts : Counts) → AreLawful p.blocks p.settings counts → (worker : ℕ) (grant : Grant) → counts.leases worker ≡ Some grant → is_any_out p.settings.workers counts.leases ≡ false → ⊥
      out counts l worker grant leased none = true≢false (sym (ap is_some leased) ∙ any_none p.settings.workers worker (λ w. is_some (counts.leases w)) none (l.known worker grant leased).0)
  while_out counts l worker grant leased (Some Budget) e = absurd (out counts l worker grant leased (l.budget e).0)
    where
      out : (counts : Counts) → AreLawful p.blocks p.settings counts → (worker : ℕ) (grant : Grant) → counts.leases worker ≡ Some grant → is_any_out p.settings.workers counts.leases ≡ false → ⊥
      out counts l worker grant leased none = true≢false (sym (ap is_some leased) ∙ any_none p.settings.workers worker (λ w. is_some (counts.leases w)) none (l.known worker grant leased).0)

  -- an event without a report
  silent : (was : Bool) (old : Machine) (event : Event) (new : Machine) → is_memory_end event ≡ false → is_report event ≡ false → (counts_after p.blocks p.settings old.counts event).end ≡ old.counts.end
      → Happens p old event new → Ends was old.counts → Ends (was || is_report event) new.counts
  silent false old event new other none same h ends = λ there. absurd (true≢false (sym there ∙ none))
  silent true old event new other none same h ends = λ there. inr (ap (λ (c : Counts). c.end) h.counts ∙ same ∙ ended true old event other h.may ends refl)

  moved : (was : Bool) (room : ℕ → ℕ) (move : Move) (old new : Machine) → IsLawful p old → Moves p old move new → IsTimely p room old move new → Ends was old.counts → Ends (was || list_any is_report (journal_of (move ∷ []))) new.counts
  moved was room (event_move event) old new l h timely ends = subst (λ r. Ends (was || r) new.counts) (sym (or_none (is_report event))) (go event h timely)
    where
      go : (event : Event) → Happens p old event new → IsTimely p room old (event_move event) new → Ends (was || is_report event) new.counts
      go (Lease worker block quota) h timely = silent was old (Lease worker block quota) new refl refl refl h ends
      go (Renew worker used quota) h timely = silent was old (Renew worker used quota) new refl refl refl h ends
      go (Hot worker block) h timely = silent was old (Hot worker block) new refl refl refl h ends
      go (Cold worker block) h timely = silent was old (Cold worker block) new refl refl refl h ends
      go (Release worker used false) h timely = silent was old (Release worker used false) new refl refl refl h ends
      go (Release worker used true) h timely = λ there. elim (while_out old.counts l.counts worker h.rows.0.grant h.rows.0.leased old.counts.end refl)
          [ inl waits ↦ inl (ap (λ (c : Counts). c.trouble) h.counts ∙ waits) | inr end ↦ inr (ap (λ (c : Counts). c.end) h.counts ∙ end) ]
      go (Off worker false) h timely = silent was old (Off worker false) new refl refl refl h ends
      go (Off worker true) h timely = λ there. inl (ap (λ (c : Counts). c.trouble) h.counts ∙ ap (λ (o : Option End). is_none o) timely)
      go (Ended Quiet) h timely = λ there. absurd (true≢false (sym (ap is_some (ended was old (Ended Quiet) refl h.may ends (keep was there))) ∙ (passes p.blocks p.settings old.counts (Ended Quiet) h.may).0))
      go (Ended Budget) h timely = λ there. absurd (true≢false (sym (ap is_some (ended was old (Ended Budget) refl h.may ends (keep was there))) ∙ (passes p.blocks p.settings old.counts (Ended Budget) h.may).0))
      go (Ended Memory) h timely = λ there. inr (ap (λ (c : Counts). c.end) h.counts)
  moved was room (tell_move worker cost) old new l h timely ends = λ there. subst (λ (c : Counts). (c.trouble ≡ true) ⊎ (c.end ≡ Some Memory)) (sym h.counts) (ends (keep was there))
  moved was room (switch_move worker used block quota) old new l h timely ends =
      let back = silent was old (Release worker used false) h.0 refl refl refl h.1 ends in
      let next = silent (was || false) h.0 (Lease worker block quota) new refl refl refl h.2 back in
      subst (λ r. Ends r new.counts) (or_none (was || false)) next

  one_and_more : (move : Move) (moves : List Move) → list_any is_report (journal_of (move ∷ moves)) ≡ (list_any is_report (journal_of (move ∷ [])) || list_any is_report (journal_of moves))
  one_and_more (event_move event) moves = ap (λ r. r || list_any is_report (journal_of moves)) (sym (or_none (is_report event)))
  one_and_more (tell_move worker cost) moves = refl
  one_and_more (switch_move worker used block quota) moves = refl

  runs : (was : Bool) (room : ℕ → ℕ) (moves : List Move) (old : Machine) (settled : Option ℕ) (new : Machine) (later : Option ℕ) → IsLawful p old → RunsSettled p all_keep room old settled moves new later → Ends was old.counts
      → Ends (was || list_any is_report (journal_of moves)) new.counts
  runs was room [] old settled new later l run ends = λ there. subst (λ (m : Machine). (m.counts.trouble ≡ true) ⊎ (m.counts.end ≡ Some Memory)) (sym run.0) (ends (keep was there))
  runs was room (move ∷ moves) old settled new later l run ends = λ there.
      runs (was || list_any is_report (journal_of (move ∷ []))) (room_moved room move) moves run.0 (settled_after move settled run.0) new later
      (moves_keep_lawful p greatest_cost move old run.0 is l run.1) run.5 (moved was room move old run.0 l run.1 run.4 ends)
      (or_assoc was (list_any is_report (journal_of (move ∷ []))) (list_any is_report (journal_of moves)) ∙ ap (λ r. was || r) (sym (one_and_more move moves)) ∙ there)

pub other_ends_have_no_report : OtherEndsHaveNoReport
other_ends_have_no_report setup greatest_cost room moves old new is lawful none run end ended other = by_cases (list_any is_report (journal_of moves))
    (λ there. absurd (never (runs setup greatest_cost is false room moves old old.store.incumbent new run.0 lawful run.1 (λ was. absurd (true≢false (sym was))) there)))
    (λ e. e)
  where
    after : IsLawful setup new
    after = runs_are_lawful setup greatest_cost moves old new is lawful (in_time_is_run setup room moves old new run)

    never : (new.counts.trouble ≡ true) ⊎ (new.counts.end ≡ Some Memory) → ⊥
    never (inl waits) = true≢false (sym (ap is_some ended) ∙ ap is_some (after.counts.trouble waits))
    never (inr memory) = other (same_Some end Memory (sym ended ∙ memory))
