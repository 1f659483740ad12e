-- A lease that is out stays so while events of other workers come.
use Rattle.std.proofs.Common.{◌≡◌, ◌==◌, ℕ, Bool, true, false, cond, List, [], ◌∷◌, Option, Some, None, refl, sym, ap, ◌∙◌, subst, arith}
use Rattle.pb_model.specs.Store.{Store}
use Rattle.pb_model.specs.Work.{Work}
use Rattle.pb_model.proofs.Callers.{by_cases, equal_swap}
use Rattle.pb_machine.specs.declared.event.End.TheVariants.{Quiet, Budget, Memory}
use Rattle.pb_machine.specs.declared.event.Event.{Event}
use Rattle.pb_machine.specs.declared.event.Event.TheVariants.{Lease, Renew, Hot, Cold, Release, Off, Ended}
use Rattle.pb_machine.specs.declared.event.Grant.{Grant}
use Rattle.pb_machine.specs.Tables.{with_entry}
use Rattle.pb_machine.specs.Counts.{Counts, with_quota}
use Rattle.pb_machine.specs.History.{is_event_of}
use Rattle.pb_machine.specs.Machine.{Setup, IsSetup, Machine, IsWorked, lent_store, with_incumbent, KeepsRows, CameBack, Happens, Move, event_move, tell_move, switch_move, Moves, is_move_of}
use Rattle.pb_machine.specs.Turns.{AreLeaseTurns}
use Rattle.pb_machine.specs.Lawful.{IsLawful}
use Rattle.pb_machine.proofs.Callers.{entry_else, known_more, lease_work_stays, scopes_are_apart, known_stays, moves_keep_lawful}
use Rattle.pb_lease.specs.LeaseValue.{LeaseValue, leased_store}
use Rattle.pb_lease.specs.Leased.{grant_of, IsOut, IsInTurns}
use Rattle.pb_lease.specs.Laws.{LeasesStayOut}

module _ (setup : Setup) (machine : Machine) (lease : LeaseValue) (most_broken : ℕ) (out : IsOut setup machine most_broken lease) (next : Machine) where
  abbrev Given : Machine → Store
  Given m = lent_store setup lease.block m.store (m.given lease.worker)

  abbrev pub Stays : Type 0
  Stays = (after : IsOut setup next most_broken lease) × (IsInTurns setup machine most_broken lease out → IsInTurns setup next most_broken lease after)

  -- where the grant stays, no less is known, and what was given is the same
  stays : next.counts.leases lease.worker ≡ machine.counts.leases lease.worker → ((incumbent : Option ℕ) → machine.known lease.worker incumbent ≡ true → next.known lease.worker incumbent ≡ true)
      → Given machine ≡ Given next → Stays
  stays leases grows given =
      let later = lease_work_stays setup.space setup.guide lease.block lease.used most_broken most_broken (machine.known lease.worker) (next.known lease.worker) (Given machine) (leased_store lease) out.work (omega arith) grows in
      let moved : (work : IsWorked setup.space setup.guide lease.block lease.used most_broken (next.known lease.worker) (Given next) (leased_store lease))
      × (IsInTurns setup machine most_broken lease out → AreLeaseTurns setup.space setup.guide work.works (Given next)) =
      subst (λ (g : Store). (work : IsWorked setup.space setup.guide lease.block lease.used most_broken (next.known lease.worker) g (leased_store lease))
      × (IsInTurns setup machine most_broken lease out → AreLeaseTurns setup.space setup.guide work.works g)) given
      (later.0, λ turns. subst (λ (works : List Work). AreLeaseTurns setup.space setup.guide works (Given machine)) (sym later.1) turns) in
      (record { leased = leases ∙ out.leased; work = moved.0 }, moved.1)

  -- where no row changes
  pub kept : next.counts.leases lease.worker ≡ machine.counts.leases lease.worker → KeepsRows machine next → Stays
  kept leases rows = stays leases (λ incumbent known. ap (λ (f : ℕ → Option ℕ → Bool). f lease.worker incumbent) rows.3 ∙ known)
      (λ i. lent_store setup lease.block (sym rows.0 i) (ap (λ (f : ℕ → Option ℕ). f lease.worker) (sym rows.1) i))

module _ (setup : Setup) (greatest_cost : ℕ) (is_setup : IsSetup setup greatest_cost) (machine : Machine) (lawful : IsLawful setup machine) (lease : LeaseValue) (most_broken : ℕ)
    (out : IsOut setup machine most_broken lease) (next : Machine) where
  -- where another worker's lease came back
  module _ (worker used broken : ℕ) (different : (lease.worker == worker) ≡ false) (came : CameBack setup machine worker used broken next.store) where
    same_row : (home state : ℕ) → cond (setup.blocks.scope lease.block home) (machine.store.rows home state) None
        ≡ cond (setup.blocks.scope lease.block home) (cond (setup.blocks.scope came.grant.block home) (came.worked.rows home state) (machine.store.rows home state)) None
    same_row home state = by_cases (setup.blocks.scope lease.block home)
        (λ e. ap (λ r. cond (setup.blocks.scope lease.block home) (cond r (came.worked.rows home state) (machine.store.rows home state)) None)
        (sym (scopes_are_apart setup greatest_cost machine is_setup lawful lease.worker worker (grant_of lease) came.grant out.leased came.leased different home e)))
        (λ e. ap (λ r. cond r (machine.store.rows home state) None) e
        ∙ sym (ap (λ r. cond r (cond (setup.blocks.scope came.grant.block home) (came.worked.rows home state) (machine.store.rows home state)) None) e))

    back : next.counts.leases lease.worker ≡ machine.counts.leases lease.worker → next.known ≡ with_incumbent machine.known next.store.incumbent → next.given lease.worker ≡ machine.given lease.worker
        → Stays setup machine lease most_broken out next
    back leases known given = stays setup machine lease most_broken out next leases
        (λ incumbent k. ap (λ (f : ℕ → Option ℕ → Bool). f lease.worker incumbent) known ∙ known_more (machine.known lease.worker) next.store.incumbent incumbent k)
        ((λ i. record { rows = λ home state. same_row home state i; incumbent = sym given i; weight = machine.store.weight })
        ∙ ap (λ (s : Store). lent_store setup lease.block s (next.given lease.worker)) (sym came.back))

module _ (setup : Setup) (greatest_cost : ℕ) (is_setup : IsSetup setup greatest_cost) (machine : Machine) (lawful : IsLawful setup machine) (lease : LeaseValue) (most_broken : ℕ)
    (out : IsOut setup machine most_broken lease) (next : Machine) where
  other : (by : ℕ) → (by == lease.worker) ≡ false → (lease.worker == by) ≡ false
  other by e = equal_swap lease.worker by ∙ e

  still : (by : ℕ) (grant : Option Grant) → (by == lease.worker) ≡ false → next.counts.leases ≡ with_entry machine.counts.leases by grant → next.counts.leases lease.worker ≡ machine.counts.leases lease.worker
  still by grant e is = ap (λ (f : ℕ → Option Grant). f lease.worker) is ∙ entry_else machine.counts.leases by lease.worker grant (other by e)

  go : (e : Event) → Happens setup machine e next → is_event_of lease.worker e ≡ false → Stays setup machine lease most_broken out next
  go (Lease by block quota) h e =
      let given : next.given lease.worker ≡ machine.given lease.worker = ap (λ (f : ℕ → Option ℕ). f lease.worker) h.rows.2.2 ∙ entry_else machine.given by lease.worker h.rows.2.0 (other by e) in
      stays setup machine lease most_broken out next (still by (Some (record { block = block; quota = quota })) e (ap (λ (c : Counts). c.leases) h.counts))
      (λ incumbent k. ap (λ (f : ℕ → Option ℕ → Bool). f lease.worker incumbent) h.rows.4 ∙ k)
      (λ i. lent_store setup lease.block (sym h.rows.1 i) (sym given i))
  go (Renew by used quota) h e =
      back setup greatest_cost is_setup machine lawful lease most_broken out next by used 0 (other by e) h.rows.0 (still by (with_quota quota (machine.counts.leases by)) e (ap (λ (c : Counts). c.leases) h.counts)) h.rows.3
      (ap (λ (f : ℕ → Option ℕ). f lease.worker) h.rows.1.2 ∙ entry_else machine.given by lease.worker h.rows.1.0 (other by e))
  go (Hot by block) h e = kept setup machine lease most_broken out next (ap (λ (c : Counts). c.leases lease.worker) h.counts) h.rows.1
  go (Cold by block) h e = kept setup machine lease most_broken out next (ap (λ (c : Counts). c.leases lease.worker) h.counts) h.rows
  go (Release by used false) h e =
      back setup greatest_cost is_setup machine lawful lease most_broken out next by used 0 (other by e) h.rows.0 (still by None e (ap (λ (c : Counts). c.leases) h.counts)) h.rows.3
      (ap (λ (f : ℕ → Option ℕ). f lease.worker) h.rows.1)
  go (Release by used true) h e =
      back setup greatest_cost is_setup machine lawful lease most_broken out next by used 1 (other by e) h.rows.0 (still by None e (ap (λ (c : Counts). c.leases) h.counts)) h.rows.3
      (ap (λ (f : ℕ → Option ℕ). f lease.worker) h.rows.1)
  go (Off by memory) h e = kept setup machine lease most_broken out next (ap (λ (c : Counts). c.leases lease.worker) h.counts) h.rows
  go (Ended Quiet) h e = kept setup machine lease most_broken out next (ap (λ (c : Counts). c.leases lease.worker) h.counts) h.rows.1
  go (Ended Budget) h e = kept setup machine lease most_broken out next (ap (λ (c : Counts). c.leases lease.worker) h.counts) h.rows.1
  go (Ended Memory) h e = kept setup machine lease most_broken out next (ap (λ (c : Counts). c.leases lease.worker) h.counts) h.rows

  -- another worker tells a cost
  tell : (by cost : ℕ) → Moves setup machine (tell_move by cost) next → Stays setup machine lease most_broken out next
  tell by cost told = stays setup machine lease most_broken out next (ap (λ (c : Counts). c.leases lease.worker) told.counts)
      (known_stays setup (tell_move by cost ∷ []) machine next (next, told, refl) lease.worker)
      (λ i. lent_store setup lease.block (sym told.store i) (ap (λ (f : ℕ → Option ℕ). f lease.worker) (sym told.given) i))

one : (setup : Setup) (greatest_cost : ℕ) (is_setup : IsSetup setup greatest_cost) (machine : Machine) (lawful : IsLawful setup machine) (lease : LeaseValue) (most_broken : ℕ)
    (out : IsOut setup machine most_broken lease) (next : Machine) (move : Move) → Moves setup machine move next → is_move_of lease.worker move ≡ false → Stays setup machine lease most_broken out next
one setup greatest_cost is_setup machine lawful lease most_broken out next (event_move event) moved else = go setup greatest_cost is_setup machine lawful lease most_broken out next event moved else
one setup greatest_cost is_setup machine lawful lease most_broken out next (tell_move by cost) moved else = tell setup greatest_cost is_setup machine lawful lease most_broken out next by cost moved
one setup greatest_cost is_setup machine lawful lease most_broken out next (switch_move by used block quota) moved else =
    let first = go setup greatest_cost is_setup machine lawful lease most_broken out moved.0 (Release by used false) moved.1 else in
    let between = moves_keep_lawful setup greatest_cost (event_move (Release by used false)) machine moved.0 is_setup lawful moved.1 in
    let second = go setup greatest_cost is_setup moved.0 between lease most_broken first.0 next (Lease by block quota) moved.2 else in
    (second.0, λ turns. second.1 (first.1 turns))

pub leases_stay_out : LeasesStayOut
leases_stay_out setup greatest_cost [] machine next is lawful runs lease most_broken others out =
    subst (λ (m : Machine). Stays setup machine lease most_broken out m) (sym runs) (out, λ turns. turns)
leases_stay_out setup greatest_cost (move ∷ moves) machine next is lawful runs lease most_broken others out =
    let first = one setup greatest_cost is machine lawful lease most_broken out runs.0 move runs.1 others.0 in
    let later = leases_stay_out setup greatest_cost moves runs.0 next is (moves_keep_lawful setup greatest_cost move machine runs.0 is lawful runs.1) runs.2 lease most_broken others.1 first.0 in
    (later.0, λ turns. later.1 (first.1 turns))
