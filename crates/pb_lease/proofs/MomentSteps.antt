-- From one moment of a graph to the next: a lease, a renewal, a release.
use Rattle.std.proofs.Common.{◌≡◌, ◌==◌, ℕ, ◌<◌, min, Bool, true, false, cond, is_some, List, [], ◌∷◌, Option, Some, None, refl, sym, ap, ◌∙◌, arith, subst, get_or}
use Rattle.pb_model.specs.declared.key.Key.{Key}
use Rattle.pb_model.specs.Store.{Rows}
use Rattle.pb_model.proofs.Callers.{by_cases, equal_self, not_true}
use Rattle.pb_task.specs.Parts.{greatest_cost}
use Rattle.pb_machine.specs.declared.event.Event.{Event}
use Rattle.pb_machine.specs.declared.event.Event.TheVariants.{Lease}
use Rattle.pb_machine.specs.Settings.{weight_of}
use Rattle.pb_machine.specs.Tables.{with_entry}
use Rattle.pb_machine.specs.Counts.{Counts, counts_after}
use Rattle.pb_machine.specs.Legality.{refusal}
use Rattle.pb_machine.specs.Machine.{Setup, Machine, lent_store, Moves, event_move}
use Rattle.pb_machine.specs.Lawful.{IsLawful}
use Rattle.pb_machine.specs.Whole.{IsWhole}
use Rattle.pb_machine.proofs.Callers.{entry_here, entry_else, moves_keep_lawful, leasing_keeps_whole, recorded_rows_are_lent}
use Rattle.pb_bundles.specs.Parts.{content_in, rows_in, away_rows}
use Rattle.pb_bundles.specs.Homes.{content_at, key_at, home_rows}
use Rattle.pb_bundles.specs.Stores.{HasKeys}
use Rattle.pb_lease.specs.Tables.{blocks}
use Rattle.pb_lease.specs.Leasing.{can_be_leased}
use Rattle.pb_lease.specs.Events.{Adds}
use Rattle.pb_lease.specs.LeaseValue.{LeaseValue, leased_store}
use Rattle.pb_lease.specs.Leased.{setup_of, grant_of, IsOutInTurns}
use Rattle.pb_lease.specs.GraphValue.{GraphValue, setup_in, counts_in, IsLeaseGraph, IsOfGraph}
use Rattle.pb_lease.specs.Choices.{IsChoice}
use Rattle.pb_lease.specs.Moments.{IsMomentAt, Follows}
use Rattle.pb_lease.specs.Steps.{IsLeased, LeasesNext}
use Rattle.pb_lease.proofs.NextEvents.{lease_may}
use Rattle.pb_lease.proofs.GraphBasics.{setup_is, key_known, has_opened, choice_is}

module _ (old new : GraphValue) where
  pub same_setup : new.task ≡ old.task → new.choice ≡ old.choice → new.table.abstraction ≡ old.table.abstraction → new.table.settings ≡ old.table.settings → new.table.past ≡ old.table.past → setup_in new ≡ setup_in old
  same_setup task choice abstraction settings past = λ i. setup_of (task i) (abstraction i) (choice i) (settings i) (past i).reopenings

  pub moment_as : (recorded : (worker : ℕ) → Rows) (next : Machine) → setup_in new ≡ setup_in old → IsLawful (setup_in old) next → next.counts ≡ counts_in new
      → IsWhole (setup_in old) next.counts (home_rows new.homes) recorded next.store → ((worker : ℕ) → next.known worker new.incumbent ≡ true) → HasKeys next.store (key_at new.homes)
      → IsMomentAt new recorded next
  moment_as recorded next setup lawful counts whole incumbent keys = record {
    lawful = subst (λ (s : Setup). IsLawful s next) (sym setup) lawful;
    counts = counts;
    whole = subst (λ (s : Setup). IsWhole s next.counts (home_rows new.homes) recorded next.store) (sym setup) whole;
    incumbent = incumbent;
    keys = keys;
  }

  pub may_then : (machine : Machine) (event : Event) → machine.counts ≡ counts_in old → refusal (blocks old.table) old.table.settings (counts_in old) event ≡ None
      → refusal (setup_in old).blocks (setup_in old).settings machine.counts event ≡ None
  may_then machine event counts may = subst (λ (c : Counts). refusal (blocks old.table) old.table.settings c event ≡ None) (sym counts) may

-- nothing is told where a worker's told cost is taken away
pub none_told : (told : ℕ → Option ℕ) (worker : ℕ) → ((k : ℕ) → told k ≡ None) → (k : ℕ) → with_entry told worker None k ≡ None
none_told told worker none k = by_cases (k == worker) (λ e. entry_here told worker k None e) (λ e. entry_else told worker k None e ∙ none k)

-- ---- a lease

-- What a lease from a graph leaves, whether or not its block is the first choice there, and whatever room it has.
pub record IsLent (old : GraphValue) (lease : LeaseValue) (new : GraphValue) : Type 0 where
  pub may : can_be_leased (blocks old.table) old.table.settings (counts_in old) lease.block ≡ true
  pub opened : is_some (key_at old.homes lease.block) ≡ true
  pub quota : lease.quota ≡ min old.table.settings.lot old.table.left
  pub used : lease.used ≡ 0
  pub lent_incumbent : lease.incumbent ≡ old.incumbent
  pub of_graph : IsOfGraph new lease
  pub moved : (block : ℕ) → content_in lease.parts block ≡ cond ((blocks old.table).scope lease.block block) (content_at old.homes block) None
  pub left : (block : ℕ) → content_at new.homes block ≡ cond ((blocks old.table).scope lease.block block) None (content_at old.homes block)
  pub keys : new.homes.keys ≡ old.homes.keys
  pub events : Adds old.table new.table (Lease lease.worker lease.block lease.quota ∷ [])
  pub task : new.task ≡ old.task
  pub choice : new.choice ≡ old.choice
  pub incumbent : new.incumbent ≡ old.incumbent

module _ (old : GraphValue) (k : IsLeaseGraph old) (lease : LeaseValue) (new : GraphValue) (l : IsLent old lease new) (inside : lease.worker < old.table.settings.workers)
    (vacant : (counts_in old).leases lease.worker ≡ None) (stays : (counts_in old).signed_off lease.worker ≡ false) where
  abbrev Scope : ℕ → Bool
  Scope = (blocks old.table).scope lease.block

  pub lease_is_legal : refusal (blocks old.table) old.table.settings (counts_in old) (Lease lease.worker lease.block lease.quota) ≡ None
  lease_is_legal = subst (λ q. refusal (blocks old.table) old.table.settings (counts_in old) (Lease lease.worker lease.block q) ≡ None) (sym l.quota)
      (lease_may (blocks old.table) old.table.settings (counts_in old) lease.worker lease.block (key_known old k lease.block l.opened) inside stays vacant refl k.legal.range.lot.0 l.may)

  setup : setup_in new ≡ setup_in old
  setup = same_setup old new l.task l.choice l.events.abstraction l.events.settings l.events.past

  module _ (recorded : (worker : ℕ) → Rows) (machine : Machine) (m : IsMomentAt old recorded machine) where
    abbrev Next : Machine
    Next = record machine {
      counts = counts_after (blocks old.table) old.table.settings machine.counts (Lease lease.worker lease.block lease.quota);
      given = with_entry machine.given lease.worker old.incumbent;
      told = with_entry machine.told lease.worker None;
    }

    legal : refusal (setup_in old).blocks (setup_in old).settings machine.counts (Lease lease.worker lease.block lease.quota) ≡ None
    legal = may_then old new machine (Lease lease.worker lease.block lease.quota) m.counts lease_is_legal

    moved : Moves (setup_in old) machine (event_move (Lease lease.worker lease.block lease.quota)) Next
    moved = record {
      may = legal;
      counts = refl;
      rows = (has_opened old k recorded machine m lease.block l.opened, refl, (old.incumbent, m.incumbent lease.worker, refl), refl, refl, refl);
    }

    whole : IsWhole (setup_in old) Next.counts (home_rows new.homes) (with_entry recorded lease.worker (away_rows lease.parts)) machine.store
    whole = leasing_keeps_whole (setup_in old) greatest_cost machine.counts machine.store (home_rows old.homes) (home_rows new.homes) (away_rows lease.parts) recorded lease.worker lease.block lease.quota
        (setup_is old k) m.whole legal
        (λ home state there. ap (λ o. rows_in o state) (l.moved home ∙ ap (λ r. cond r (content_at old.homes home) None) there))
        (λ home state out. ap (λ o. rows_in o state) (l.moved home ∙ ap (λ r. cond r (content_at old.homes home) None) (not_true _ out)))
        (λ home state out. ap (λ o. rows_in o state) (l.left home ∙ ap (λ r. cond r None (content_at old.homes home)) (not_true _ out)))
        (λ home state there. ap (λ o. rows_in o state) (l.left home ∙ ap (λ r. cond r None (content_at old.homes home)) there))

    granted : Next.counts.leases lease.worker ≡ Some (grant_of lease)
    granted = entry_here machine.counts.leases lease.worker lease.worker (Some (grant_of lease)) (equal_self lease.worker)

    given : Next.given lease.worker ≡ lease.incumbent
    given = entry_here machine.given lease.worker lease.worker old.incumbent (equal_self lease.worker) ∙ sym l.lent_incumbent

    weight : lease.weight ≡ machine.store.weight
    weight = l.of_graph.weight ∙ ap weight_of l.events.settings ∙ sym m.lawful.weight

    rows : (home state : ℕ) → away_rows lease.parts home state ≡ (lent_store (setup_in old) lease.block machine.store (Next.given lease.worker)).rows home state
    rows home state =
        sym (recorded_rows_are_lent (setup_in old) Next.counts machine.store (home_rows new.homes) (with_entry recorded lease.worker (away_rows lease.parts)) lease.worker (grant_of lease) (Next.given lease.worker) whole granted home state
        ∙ (λ i. entry_here recorded lease.worker lease.worker (away_rows lease.parts) (equal_self lease.worker) i home state))

    begins : leased_store lease ≡ lent_store (setup_in old) lease.block machine.store (Next.given lease.worker)
    begins = λ i. record { rows = λ home state. rows home state i; incumbent = sym given i; weight = weight i }

    out : IsOutInTurns (setup_in old) Next 0 lease
    out = (
      record {
        leased = granted;
        work = record { works = []; on = tt; comes = begins; used_is = sym l.used; few_broken = omega arith; stops = tt };
      },
      tt,
    )

    counts : Next.counts ≡ counts_in new
    counts = ap (λ (c : Counts). counts_after (blocks old.table) old.table.settings c (Lease lease.worker lease.block lease.quota)) m.counts ∙ sym l.events.counts

    follows : Follows old machine (Lease lease.worker lease.block lease.quota ∷ []) new (with_entry recorded lease.worker (away_rows lease.parts)) Next
    follows = record {
      setup = setup;
      moves = (Next, moved, refl);
      moment = moment_as old new (with_entry recorded lease.worker (away_rows lease.parts)) Next setup
          (moves_keep_lawful (setup_in old) greatest_cost (event_move (Lease lease.worker lease.block lease.quota)) machine Next (setup_is old k) m.lawful moved)
          counts whole (λ worker. ap (machine.known worker) l.incumbent ∙ m.incumbent worker) (subst (λ (ks : List (Option Key)). HasKeys machine.store (λ block. get_or ks block None)) (sym l.keys) m.keys);
    }

  -- the machine with the lease, and what is true of it
  pub lent_next : (recorded : (worker : ℕ) → Rows) (machine : Machine) → IsMomentAt old recorded machine
      → (next : Machine) × Follows old machine (Lease lease.worker lease.block lease.quota ∷ []) new (with_entry recorded lease.worker (away_rows lease.parts)) next
      × (next.given lease.worker ≡ lease.incumbent) × IsOutInTurns (setup_in new) next 0 lease
      × (next.store ≡ machine.store) × (next.told ≡ with_entry machine.told lease.worker None)
      × Moves (setup_in old) machine (event_move (Lease lease.worker lease.block lease.quota)) next
      × (leased_store lease ≡ lent_store (setup_in old) lease.block next.store (next.given lease.worker))
  lent_next recorded machine m = (
    Next recorded machine m,
    follows recorded machine m,
    given recorded machine m,
    subst (λ (s : Setup). IsOutInTurns s (Next recorded machine m) 0 lease) (sym setup) (out recorded machine m),
    refl,
    refl,
    moved recorded machine m,
    begins recorded machine m,
  )

  pub leases_next : IsChoice old (Some lease.block) → LeasesNext old lease new
  leases_next first recorded machine m = (
    Next recorded machine m,
    follows recorded machine m,
    given recorded machine m,
    subst (λ (s : Setup). IsOutInTurns s (Next recorded machine m) 0 lease) (sym setup) (out recorded machine m),
    refl,
    refl,
    (Next recorded machine m, moved recorded machine m, choice_is old k recorded machine m lease.block first, refl),
    begins recorded machine m,
  )

pub leased_lent : (old : GraphValue) (lease : LeaseValue) (new : GraphValue) → IsLeased old lease.worker lease new → IsLent old lease new
leased_lent old lease new l = record {
  may = l.first.0.0;
  opened = l.first.0.1;
  quota = l.quota;
  used = l.used;
  lent_incumbent = l.lent_incumbent;
  of_graph = l.of_graph;
  moved = l.moved;
  left = l.left;
  keys = l.keys;
  events = l.events;
  task = l.task;
  choice = l.choice;
  incumbent = l.incumbent;
}
