-- How a worker goes on whose lease's keys are noted: with its lease, with another block, or not at all.
use Rattle.std.proofs.Common.{◌≡◌, ℕ, inl, inr, false, not, ◌&&◌, ◌==◌, nat_lt, cond, is_some, List, Option, Some, None, sym, ap, ◌∙◌, arith, subst, get_or, true≢false}
use Rattle.std.specs.Option.{option_or}
use Rattle.pb_model.specs.declared.key.Key.{Key}
use Rattle.pb_model.proofs.Callers.{by_cases, equal, equal_self, not_below, some_number}
use Rattle.pb_machine.specs.Choice.{counts_with_lease_home}
use Rattle.pb_lists.specs.Bundle.{Content}
use Rattle.pb_bundles.specs.Parts.{content_in}
use Rattle.pb_bundles.specs.Homes.{HomeTable, key_at}
use Rattle.pb_bundles.specs.Moves.{NotesKeys}
use Rattle.pb_bundles.specs.Choosing.{IsFirstBy, MayBeFirst}
use Rattle.pb_lease.specs.Tables.{blocks, rooms}
use Rattle.pb_lease.specs.Leasing.{can_be_leased}
use Rattle.pb_lease.specs.LeaseValue.{LeaseValue}
use Rattle.pb_lease.specs.GraphValue.{GraphValue, counts_in}
use Rattle.pb_lease.specs.Choices.{IsChoiceWithHome}
use Rattle.pb_lease.specs.Steps.{GoesOn, GoesOver, ComesBack, IsSwitched}
use Rattle.pb_lease.proofs.Rivals.{best_is_one}
use Rattle.pb_lease.proofs.Renewals.{noted_twice, notes_both}

module _ (old : GraphValue) (lease : LeaseValue) (new : GraphValue) where
  pub one_choice : (one other : Option ℕ) → IsChoiceWithHome old lease new one → IsChoiceWithHome old lease new other → one ≡ other
  one_choice one other first second = best_is_one
      (MayBeFirst (can_be_leased (blocks old.table) old.table.settings (counts_with_lease_home (counts_in old) lease.worker lease.used)) (key_at new.homes)) (key_at new.homes) one other first second

  none_differs : (block : ℕ) → IsChoiceWithHome old lease new None → IsChoiceWithHome old lease new (Some block) → ⊥
  none_differs block none some = true≢false (ap is_some (one_choice (Some block) None some none))

  -- the lease doesn't come back where it goes on
  pub on_stays : GoesOn old lease new → ComesBack old lease new → ⊥
  on_stays on (inl none) = none_differs lease.block none on.0
  on_stays on (inr (inl own)) = omega (arith, own.1, on.1)
  on_stays on (inr (inr other)) = other.2 (some_number other.0 lease.block (one_choice (Some other.0) (Some lease.block) other.1 on.0))

  -- nor where the worker goes on with another block
  pub over_stays : (block : ℕ) → GoesOver old lease new block → ComesBack old lease new → ⊥
  over_stays block over (inl none) = none_differs block none over.0
  over_stays block over (inr (inl own)) = over.1 (some_number block lease.block (one_choice (Some block) (Some lease.block) over.0 own.0))
  over_stays block over (inr (inr other)) = omega (arith, other.3, over.2)

-- it comes back where the room is too small
pub comes_back : (old : GraphValue) (lease : LeaseValue) (new : GraphValue) (block own room : ℕ) → own ≡ lease.block → room ≡ rooms old.table lease.worker → IsChoiceWithHome old lease new (Some block)
    → ((block == own) && nat_lt 0 room) ≡ false → (not (block == own) && nat_lt 1 room) ≡ false → ComesBack old lease new
comes_back old lease new block own room is_own is_room chosen first second = by_cases (block == own)
    (λ e. let le = not_below 0 room (sym (ap (λ r. r && nat_lt 0 room) e) ∙ first) in
    inr (inl (subst (λ b. IsChoiceWithHome old lease new (Some b)) (equal block own e ∙ is_own) chosen, omega (arith, le, is_room))))
    (λ e. let le = not_below 1 room (sym (ap (λ r. not r && nat_lt 1 room) e) ∙ second) in
    inr (inr (block, chosen, λ same. true≢false (sym (equal_self block) ∙ ap (λ n. block == n) (same ∙ sym is_own) ∙ e), omega (arith, le, is_room))))

-- ---- the keys are noted first

module _ (old : GraphValue) (lease : LeaseValue) (homes : HomeTable) (bundles : homes.bundles ≡ old.homes.bundles) (noted : NotesKeys lease.parts old.homes.keys homes.keys) (new : GraphValue) (again : NotesKeys lease.parts homes.keys new.homes.keys) where
  abbrev Noted : GraphValue
  Noted = record { task = old.task; choice = old.choice; table = old.table; homes = homes; incumbent = old.incumbent }

  keys_same : key_at homes ≡ key_at new.homes
  keys_same = λ i block. sym (noted_twice lease.parts old.homes.keys homes.keys new.homes.keys noted again block) i

  pub choice_then : (choice : Option ℕ) → IsChoiceWithHome Noted lease Noted choice → IsChoiceWithHome old lease new choice
  choice_then choice first = subst (λ (keys : ℕ → Option Key). IsFirstBy (can_be_leased (blocks old.table) old.table.settings (counts_with_lease_home (counts_in old) lease.worker lease.used)) keys choice) keys_same first

  pub over_then : (block : ℕ) → GoesOver Noted lease Noted block → GoesOver old lease new block
  over_then block over = (choice_then (Some block) over.0, over.1, over.2)

  pub back_then : ComesBack Noted lease Noted → ComesBack old lease new
  back_then (inl none) = inl (choice_then None none)
  back_then (inr (inl own)) = inr (inl (choice_then (Some lease.block) own.0, own.1))
  back_then (inr (inr other)) = inr (inr (other.0, choice_then (Some other.0) other.1, other.2, other.3))

  pub is_switched : (next : LeaseValue) → IsSwitched Noted lease next new → IsSwitched old lease next new
  is_switched next n =
      let same : (block : ℕ) → option_or (content_in lease.parts block) (get_or homes.bundles block None) ≡ option_or (content_in lease.parts block) (get_or old.homes.bundles block None) =
      λ block. ap (λ (bs : List (Option Content)). option_or (content_in lease.parts block) (get_or bs block None)) bundles in
      record {
        worker_is = n.worker_is;
        quota = n.quota;
        used = n.used;
        lent_incumbent = n.lent_incumbent;
        of_graph = n.of_graph;
        moved = λ block. n.moved block ∙ ap (λ (o : Option Content). cond ((blocks old.table).scope next.block block) o None) (same block);
        left = λ block. n.left block ∙ ap (λ (o : Option Content). cond ((blocks old.table).scope next.block block) None o) (same block);
        noted = notes_both lease.parts old.homes.keys homes.keys new.homes.keys noted again;
        events = n.events;
        room = n.room;
        task = n.task;
        choice = n.choice;
        incumbent = n.incumbent;
      }
