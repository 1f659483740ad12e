-- From one moment of a graph to the next: a lease that comes back, and one that goes on.
use Rattle.std.proofs.Common.{◌≡◌, ℕ, ◌+◌, ◌-◌, ◌≤◌, min, Bool, true, false, cond, ◌&&◌, is_some, is_none, List, [], ◌∷◌, Option, Some, None, refl, sym, ap, ◌∙◌, arith, subst, get_or, true≢false}
use Rattle.std.proofs.lemmas.List.{get_or_past}
use Rattle.std.specs.Option.{option_or}
use Rattle.pb_model.specs.Store.{Rows, Store, lesser}
use Rattle.pb_model.specs.Local.{merged_store}
use Rattle.pb_model.proofs.Callers.{equal_self, not_true, none_found, and_true}
use Rattle.pb_task.specs.Parts.{greatest_cost}
use Rattle.pb_machine.specs.declared.event.End.{End}
use Rattle.pb_machine.specs.declared.event.End.TheVariants.{Memory}
use Rattle.pb_machine.specs.declared.event.Event.TheVariants.{Renew, Release, Ended}
use Rattle.pb_machine.specs.declared.event.Grant.{Grant}
use Rattle.pb_machine.specs.declared.settings.Settings.{Settings}
use Rattle.pb_machine.specs.Tables.{with_entry, one_if}
use Rattle.pb_machine.specs.Blocks.{Blocks}
use Rattle.pb_machine.specs.Counts.{Counts, quota_of, with_quota, counts_after}
use Rattle.pb_machine.specs.Choice.{IsFirstChoice, counts_with_lease_home}
use Rattle.pb_machine.specs.Legality.{refusal}
use Rattle.pb_machine.specs.Machine.{Setup, Machine, with_incumbent, lent_store, RowPart, event_move, CameBack, Moves, Runs}
use Rattle.pb_machine.specs.Turns.{IsInOrder, RunsInOrder}
use Rattle.pb_machine.specs.Whole.{IsWhole}
use Rattle.pb_machine.proofs.Callers.{entry_here, none_end, ends_are_legal, runs_are_lawful, ordered_runs_are_runs, renewing_keeps_whole, releasing_keeps_whole, recorded_rows_are_lent, others_keep_whole}
use Rattle.pb_lists.specs.Bundle.{Content}
use Rattle.pb_bundles.specs.Parts.{content_in, rows_in, away_rows}
use Rattle.pb_bundles.specs.Homes.{content_at, key_at, home_rows}
use Rattle.pb_bundles.specs.Stores.{HasKeys}
use Rattle.pb_bundles.specs.Moves.{NotesKeys}
use Rattle.pb_bundles.proofs.Callers.{among_found, noted_keys_are_best, first_choices_are_by_key}
use Rattle.pb_lease.specs.Tables.{blocks}
use Rattle.pb_lease.specs.Leasing.{can_be_leased}
use Rattle.pb_lease.specs.Events.{counts_along, ending}
use Rattle.pb_lease.specs.LeaseValue.{LeaseValue, leased_store}
use Rattle.pb_lease.specs.Leased.{grant_of, IsOut, IsInTurns, IsOutInTurns}
use Rattle.pb_lease.specs.GraphValue.{GraphValue, setup_in, counts_in, IsLeaseGraph, IsOfGraph}
use Rattle.pb_lease.specs.Moments.{IsMomentAt, Follows, moves_of, ShowsTold, IsKnownThen}
use Rattle.pb_lease.specs.Choices.{IsChoiceWithHome}
use Rattle.pb_lease.specs.Steps.{ChoosesByRows, ChoosesAnyByRows, IsReleased, ReleasesNext, IsRenewed, RenewsNext, renewed_quota}
use Rattle.pb_lease.proofs.NextEvents.{release_may, renewal_may}
use Rattle.pb_lease.proofs.GraphBasics.{setup_is, lawful_in, passes_from, passes_to}
use Rattle.pb_lease.proofs.MomentSteps.{same_setup, moment_as, may_then}

pub or_some : (found other : Option Content) → is_some found ≡ true → option_or found other ≡ found
or_some None other e = absurd (true≢false (sym e))
or_some (Some content) other e = refl

pub or_none : (found other : Option Content) → is_some found ≡ false → option_or found other ≡ other
or_none None other e = refl
or_none (Some content) other e = absurd (true≢false e)

-- ---- the end that follows from want of memory, where one does

pub ending_leases : (of : Blocks) (settings : Settings) (counts : Counts) (memory : Bool) (end : Option End) → (counts_along of settings counts (ending memory end)).leases ≡ counts.leases
ending_leases of settings counts memory end = go (memory && is_none end)
  where
    go : (r : Bool) → (counts_along of settings counts (cond r (Ended Memory ∷ []) [])).leases ≡ counts.leases
    go true = refl
    go false = refl

pub then_ended : (setup : Setup) (memory : Bool) (counts : Counts) (machine : Machine) → machine.counts ≡ counts → counts.trouble ≡ (memory && is_none counts.end)
    → RunsInOrder setup machine (moves_of (ending memory counts.end)) (record machine { counts = counts_along setup.blocks setup.settings machine.counts (ending memory counts.end) })
then_ended setup memory counts machine is report = go (memory && is_none counts.end) refl report
  where
    go : (r : Bool) → (memory && is_none counts.end) ≡ r → counts.trouble ≡ r
        → RunsInOrder setup machine (moves_of (cond r (Ended Memory ∷ []) [])) (record machine { counts = counts_along setup.blocks setup.settings machine.counts (cond r (Ended Memory ∷ []) []) })
    go false e waits = refl
    go true e waits = (
      record machine { counts = counts_after setup.blocks setup.settings machine.counts (Ended Memory) },
      record {
        may = subst (λ (c : Counts). refusal setup.blocks setup.settings c (Ended Memory) ≡ None) (sym is) ((ends_are_legal setup.blocks setup.settings counts (none_end counts.end (and_true memory (is_none counts.end) e).1)).2 waits);
        counts = refl;
        rows = (refl, refl, refl, refl, refl);
      },
      tt,
      refl,
    )

module _ (old : GraphValue) (k : IsLeaseGraph old) (lease : LeaseValue) (of : IsOfGraph old lease) (few : lease.used ≤ lease.quota) where
  abbrev Scope : ℕ → Bool
  Scope = (blocks old.table).scope lease.block

  -- the whole store with the lease's rows
  abbrev Merged : Machine → Store
  Merged machine = merged_store Scope (leased_store lease) machine.store

  in_none : (block : ℕ) → Scope block ≡ false → content_in lease.parts block ≡ None
  in_none block out = none_found (content_in lease.parts block) (of.scope.blocks block ∙ out)

  module _ (recorded : (worker : ℕ) → Rows) (machine : Machine) (m : IsMomentAt old recorded machine) where
    abbrev came : (broken : ℕ) → IsOut (setup_in old) machine broken lease → ShowsTold old machine lease → CameBack (setup_in old) machine lease.worker lease.used broken (Merged machine)
    came broken out shows = record {
      grant = grant_of lease;
      worked = leased_store lease;
      leased = out.leased;
      work = out.work;
      back = refl;
      shown = shows;
    }

    merged_keys : (keys : List (Option _)) → NotesKeys lease.parts old.homes.keys keys → HasKeys (Merged machine) (λ block. get_or keys block None)
    merged_keys keys noted = noted_keys_are_best machine.store (leased_store lease) Scope lease.parts old.homes.keys keys m.keys noted
        (λ block. sym (among_found lease.parts block) ∙ of.scope.blocks block) (λ home state inside. refl)
        (λ block content is. of.scope.weights block content is ∙ of.weight ∙ sym m.lawful.weight)

    leased_then : machine.counts.leases lease.worker ≡ Some (grant_of lease)
    leased_then = ap (λ (c : Counts). c.leases lease.worker) m.counts ∙ of.leased

  -- the choice with the lease home, by the keys that are noted then
  pub chosen_any_by_rows : (new : GraphValue) → NotesKeys lease.parts old.homes.keys new.homes.keys → ChoosesAnyByRows old lease new
  chosen_any_by_rows new noted recorded machine m block =
      let pass = can_be_leased (blocks old.table) old.table.settings (counts_with_lease_home (counts_in old) lease.worker lease.used) in
      let both = (first_choices_are_by_key (blocks old.table) old.table.settings (counts_with_lease_home (counts_in old) lease.worker lease.used) (Merged machine) (key_at new.homes) pass
      (merged_keys recorded machine m new.homes.keys noted) (λ other le. get_or_past new.homes.keys other None (omega (arith, le, noted.count, k.key_places)))
      (λ other lt. (
        passes_from (blocks old.table) old.table.settings (counts_with_lease_home (counts_in old) lease.worker lease.used) other,
        λ p. passes_to (blocks old.table) old.table.settings (counts_with_lease_home (counts_in old) lease.worker lease.used) other p.0 p.1 p.2 p.3,
      ))).0 block in
      subst (λ (c : Counts). (IsChoiceWithHome old lease new (Some block) → IsFirstChoice (blocks old.table) old.table.settings (counts_with_lease_home c lease.worker lease.used) (Merged machine) block)
      × (IsFirstChoice (blocks old.table) old.table.settings (counts_with_lease_home c lease.worker lease.used) (Merged machine) block → IsChoiceWithHome old lease new (Some block)))
      (sym m.counts) both

  pub chosen_by_rows : (new : GraphValue) → NotesKeys lease.parts old.homes.keys new.homes.keys → ChoosesByRows old lease new
  chosen_by_rows new noted recorded machine m = chosen_any_by_rows new noted recorded machine m lease.block

  -- ---- a lease that comes back

  module _ (memory : Bool) where
    pub release_is_legal : refusal (blocks old.table) old.table.settings (counts_in old) (Release lease.worker lease.used memory) ≡ None
    release_is_legal = release_may (blocks old.table) old.table.settings (counts_in old) lease.worker lease.used memory (grant_of lease) (lawful_in old k) of.leased few refl

    module _ (new : GraphValue) (r : IsReleased old lease memory new) where
      setup : setup_in new ≡ setup_in old
      setup = same_setup old new r.task r.choice r.events.abstraction r.events.settings r.events.past

      module _ (recorded : (worker : ℕ) → Rows) (machine : Machine) (m : IsMomentAt old recorded machine) (out : IsOut (setup_in old) machine (one_if memory) lease) (shows : ShowsTold old machine lease) where
        abbrev Home : Bool → Machine
        Home t = record machine {
          counts = counts_after (blocks old.table) old.table.settings machine.counts (Release lease.worker lease.used t);
          store = Merged machine;
          told = with_entry machine.told lease.worker None;
          known = with_incumbent machine.known (Merged machine).incumbent;
          broken = cond t (with_entry machine.broken lease.worker true) machine.broken;
        }

        rows : (t : Bool) → IsOut (setup_in old) machine (one_if t) lease → RowPart (setup_in old) machine (Release lease.worker lease.used t) (Home t)
        rows false o = (came recorded machine m 0 o shows, refl, refl, refl, refl)
        rows true o = (came recorded machine m 1 o shows, refl, refl, refl, refl)

        order : (t : Bool) (o : IsOut (setup_in old) machine (one_if t) lease) → IsInTurns (setup_in old) machine (one_if t) lease o → IsInOrder (setup_in old) machine (event_move (Release lease.worker lease.used t)) (Home t)
        order false o turns = (came recorded machine m 0 o shows, turns)
        order true o turns = (came recorded machine m 1 o shows, turns)

        abbrev Last : Machine
        Last = record (Home memory) { counts = counts_along (blocks old.table) old.table.settings (Home memory).counts (ending memory old.table.end) }

        home_counts : (Home memory).counts ≡ counts_after (blocks old.table) old.table.settings (counts_in old) (Release lease.worker lease.used memory)
        home_counts = ap (λ (c : Counts). counts_after (blocks old.table) old.table.settings c (Release lease.worker lease.used memory)) m.counts

        ends : RunsInOrder (setup_in old) (Home memory) (moves_of (ending memory old.table.end)) Last
        ends = then_ended (setup_in old) memory (counts_after (blocks old.table) old.table.settings (counts_in old) (Release lease.worker lease.used memory)) (Home memory) home_counts refl

        comes : Moves (setup_in old) machine (event_move (Release lease.worker lease.used memory)) (Home memory)
        comes = record { may = may_then old new machine (Release lease.worker lease.used memory) m.counts release_is_legal; counts = refl; rows = rows memory out }

        runs : Runs (setup_in old) machine (moves_of (Release lease.worker lease.used memory ∷ ending memory old.table.end)) Last
        runs = (Home memory, comes, ordered_runs_are_runs (setup_in old) (moves_of (ending memory old.table.end)) (Home memory) Last ends)

        ordered : IsInTurns (setup_in old) machine (one_if memory) lease out → RunsInOrder (setup_in old) machine (moves_of (Release lease.worker lease.used memory ∷ ending memory old.table.end)) Last
        ordered turns = (Home memory, comes, order memory out turns, ends)

        whole : IsWhole (setup_in old) Last.counts (home_rows new.homes) recorded (Merged machine)
        whole = others_keep_whole (setup_in old) (Home memory).counts Last.counts (Merged machine) (Merged machine) (home_rows new.homes) recorded
            (ending_leases (blocks old.table) old.table.settings (Home memory).counts memory old.table.end) refl
            (releasing_keeps_whole (setup_in old) greatest_cost machine.counts machine.store (leased_store lease) (home_rows old.homes) (home_rows new.homes) recorded lease.worker lease.used memory (grant_of lease)
            (setup_is old k) m.lawful.counts m.whole (leased_then recorded machine m)
            (λ home state inside. ap (λ o. rows_in o state) (r.home home ∙ or_some (content_in lease.parts home) (content_at old.homes home) (of.scope.blocks home ∙ inside)))
            (λ home state out. ap (λ o. rows_in o state) (r.home home ∙ or_none (content_in lease.parts home) (content_at old.homes home) (of.scope.blocks home ∙ not_true _ out))))

      pub released_next : ReleasesNext old lease memory new
      released_next recorded machine m out shows known = (
        Last recorded machine m out shows,
        record {
          setup = setup;
          moves = runs recorded machine m out shows;
          moment = moment_as old new recorded (Last recorded machine m out shows) setup
              (runs_are_lawful (setup_in old) greatest_cost (moves_of (Release lease.worker lease.used memory ∷ ending memory old.table.end)) machine (Last recorded machine m out shows) (setup_is old k) m.lawful
              (runs recorded machine m out shows))
              (ap (λ (c : Counts). counts_along (blocks old.table) old.table.settings c (Release lease.worker lease.used memory ∷ ending memory old.table.end)) m.counts ∙ sym r.events.counts)
              (whole recorded machine m out shows) known (merged_keys recorded machine m new.homes.keys r.noted);
        },
        refl,
        refl,
        ordered recorded machine m out shows,
      )

      pub released_store : (recorded : (worker : ℕ) → Rows) (machine : Machine) (m : IsMomentAt old recorded machine) (out : IsOut (setup_in old) machine (one_if memory) lease) (shows : ShowsTold old machine lease)
          → (known : IsKnownThen machine lease new.incumbent) → (released_next recorded machine m out shows known).0.store ≡ merged_store ((blocks old.table).scope lease.block) (leased_store lease) machine.store
      unfolding released_next
      released_store recorded machine m out shows known = refl

  -- ---- a lease that goes on

  module _ (test : can_be_leased (blocks old.table) old.table.settings (counts_with_lease_home (counts_in old) lease.worker lease.used) lease.block ≡ true) where
    pub renewal_is_legal : refusal (blocks old.table) old.table.settings (counts_in old) (Renew lease.worker lease.used (renewed_quota old lease)) ≡ None
    renewal_is_legal = subst (λ (o : Option Grant). refusal (blocks old.table) old.table.settings (counts_in old) (Renew lease.worker lease.used (min old.table.settings.lot (old.table.left + (quota_of o - lease.used)))) ≡ None) of.leased
        (renewal_may (blocks old.table) old.table.settings (counts_in old) lease.worker lease.used (grant_of lease) (lawful_in old k) of.leased few refl k.legal.range.lot.0 test)

    abbrev Kept : LeaseValue
    Kept = record lease { quota = renewed_quota old lease; used = 0; incumbent = lesser old.incumbent lease.incumbent }

    module _ (new : GraphValue) (n : IsRenewed old lease Kept new) where
      setup_too : setup_in new ≡ setup_in old
      setup_too = same_setup old new n.task n.choice n.events.abstraction n.events.settings n.events.past

      module _ (recorded : (worker : ℕ) → Rows) (machine : Machine) (m : IsMomentAt old recorded machine) (out : IsOut (setup_in old) machine 0 lease) (shows : ShowsTold old machine lease) (known : IsKnownThen machine lease new.incumbent) where
        abbrev Next : Machine
        Next = record machine {
          counts = counts_after (blocks old.table) old.table.settings machine.counts (Renew lease.worker lease.used (renewed_quota old lease));
          store = Merged machine;
          given = with_entry machine.given lease.worker new.incumbent;
          told = with_entry machine.told lease.worker None;
          known = with_incumbent machine.known (Merged machine).incumbent;
        }

        moves : Moves (setup_in old) machine (event_move (Renew lease.worker lease.used (renewed_quota old lease))) Next
        moves = record {
          may = may_then old new machine (Renew lease.worker lease.used (renewed_quota old lease)) m.counts renewal_is_legal;
          counts = refl;
          rows = (came recorded machine m 0 out shows, (new.incumbent, known lease.worker, refl), refl, refl, refl);
        }

        goes : Runs (setup_in old) machine (moves_of (Renew lease.worker lease.used (renewed_quota old lease) ∷ [])) Next
        goes = (Next, moves, refl)

        goes_in_order : IsInTurns (setup_in old) machine 0 lease out → RunsInOrder (setup_in old) machine (moves_of (Renew lease.worker lease.used (renewed_quota old lease) ∷ [])) Next
        goes_in_order turns = (Next, moves, (came recorded machine m 0 out shows, turns), refl)

        whole_still : IsWhole (setup_in old) Next.counts (home_rows old.homes) (with_entry recorded lease.worker (away_rows lease.parts)) (Merged machine)
        whole_still = renewing_keeps_whole (setup_in old) greatest_cost machine.counts machine.store (leased_store lease) (home_rows old.homes) recorded lease.worker lease.used (renewed_quota old lease) (grant_of lease)
            (setup_is old k) m.lawful.counts m.whole (leased_then recorded machine m) (λ home state gone. ap (λ o. rows_in o state) (in_none home (not_true _ gone)))

        granted : Next.counts.leases lease.worker ≡ Some (grant_of Kept)
        granted = entry_here machine.counts.leases lease.worker lease.worker (with_quota (renewed_quota old lease) (machine.counts.leases lease.worker)) (equal_self lease.worker)
            ∙ ap (with_quota (renewed_quota old lease)) (leased_then recorded machine m)

        given : Next.given lease.worker ≡ Kept.incumbent
        given = entry_here machine.given lease.worker lease.worker new.incumbent (equal_self lease.worker) ∙ n.incumbent

        begins : leased_store Kept ≡ lent_store (setup_in old) lease.block (Merged machine) (Next.given lease.worker)
        begins = λ i. record {
          rows = λ home state. sym (recorded_rows_are_lent (setup_in old) Next.counts (Merged machine) (home_rows old.homes) (with_entry recorded lease.worker (away_rows lease.parts)) lease.worker (grant_of Kept) (Next.given lease.worker) whole_still granted home state
              ∙ (λ j. entry_here recorded lease.worker lease.worker (away_rows lease.parts) (equal_self lease.worker) j home state)) i;
          incumbent = sym given i;
          weight = (of.weight ∙ sym m.lawful.weight) i;
        }

        still_out : IsOutInTurns (setup_in old) Next 0 Kept
        still_out = (record { leased = granted; work = record { works = []; on = tt; comes = begins; used_is = refl; few_broken = omega arith; stops = tt } }, tt)

        goes_on : Follows old machine (Renew lease.worker lease.used (renewed_quota old lease) ∷ []) new (with_entry recorded lease.worker (away_rows lease.parts)) Next
        goes_on = record {
          setup = setup_too;
          moves = goes;
          moment = moment_as old new (with_entry recorded lease.worker (away_rows lease.parts)) Next setup_too
              (runs_are_lawful (setup_in old) greatest_cost (moves_of (Renew lease.worker lease.used (renewed_quota old lease) ∷ [])) machine Next (setup_is old k) m.lawful goes)
              (ap (λ (c : Counts). counts_after (blocks old.table) old.table.settings c (Renew lease.worker lease.used (renewed_quota old lease))) m.counts ∙ sym n.events.counts)
              (subst (λ (bs : List (Option Content)). IsWhole (setup_in old) Next.counts (λ home. rows_in (get_or bs home None)) (with_entry recorded lease.worker (away_rows lease.parts)) (Merged machine)) (sym n.bundles) whole_still)
              known (merged_keys recorded machine m new.homes.keys n.noted);
        }

      renewed_to : RenewsNext old lease Kept new
      renewed_to recorded machine m out shows known = (
        Next recorded machine m out shows known,
        goes_on recorded machine m out shows known,
        given recorded machine m out shows known,
        subst (λ (s : Setup). IsOutInTurns s (Next recorded machine m out shows known) 0 Kept) (sym setup_too) (still_out recorded machine m out shows known),
        refl,
        refl,
        goes_in_order recorded machine m out shows known,
        begins recorded machine m out shows known,
      )

    pub renewed_next : (kept : LeaseValue) (new : GraphValue) → IsRenewed old lease kept new → RenewsNext old lease kept new
    renewed_next kept new n = subst (λ (v : LeaseValue). RenewsNext old lease v new) (sym n.kept_is) (renewed_to new (subst (λ (v : LeaseValue). IsRenewed old lease v new) n.kept_is n))
