-- A run in time has few leases: each that comes back closed a row, and only expansions bring new ones.
use Rattle.std.proofs.Common.{◌≡◌, ℕ, ◌+◌, ◌*◌, ◌<◌, ◌≤◌, length, Bool, true, false, cond, ◌==◌, is_some, List, [], ◌∷◌, Option, Some, None, refl, sym, ap, ◌∙◌, subst, arith, true≢false, ◌⊎◌, inl, inr}
use Rattle.std.proofs.lemmas.Bool.{or_left}
use Rattle.std.proofs.Math.Nat.{mul-add, mul-one, mul-zero}
use Rattle.pb_model.specs.declared.row.Row.{Row}
use Rattle.pb_model.specs.Store.{Store, is_place_of, HasOpened}
use Rattle.pb_model.specs.Work.{offered_row, Comes, expansions, broken_expansions}
use Rattle.pb_model.proofs.Callers.{by_cases, and_true, equal}
use Rattle.pb_machine.specs.declared.event.End.{End}
use Rattle.pb_machine.specs.declared.event.End.TheVariants.{Quiet, Budget, Memory}
use Rattle.pb_machine.specs.declared.event.Event.TheVariants.{Lease, Renew, Hot, Cold, Release, Off, Ended}
use Rattle.pb_machine.specs.declared.event.Grant.{Grant}
use Rattle.pb_machine.specs.Tables.{with_entry, one_if, count_below}
use Rattle.pb_machine.specs.Counts.{Counts, with_quota, counts_after}
use Rattle.pb_machine.specs.Room.{leases_in, no_room, room_moved}
use Rattle.pb_machine.specs.History.{AreFinished}
use Rattle.pb_machine.specs.Machine.{Setup, IsSetup, Machine, opening_machine, lent_store, CameBack, Happens, Move, event_move, tell_move, switch_move, Moves, journal_of}
use Rattle.pb_machine.specs.Lawful.{broken_leases, IsLawful}
use Rattle.pb_yard.specs.Order.{IsTimely, settled_after, RunsSettled, all_keep}
use Rattle.pb_machine.proofs.Callers.{entry_here, entry_else, sum_with_entry, none_counted, passes, none_leased, within, some_is, opening_is_lawful, moves_keep_lawful, runs_are_lawful, scopes_are_apart, journals_are_histories, journals_are_short, broken_more, works_there}
use Rattle.pb_yard.specs.Length.{leases_out, most_leases, LeasesAreFew, RunsAreShort}
use Rattle.pb_yard.proofs.InTime.{in_time_is_run}
use Rattle.pb_yard.proofs.Covered.{has, Covers, at_most_once, nonzero, closings, works_covered, rows_stay, expansions_close}

-- ---- a run in time

module _ (p : Setup) (greatest_cost : ℕ) (is : IsSetup p greatest_cost) where
  -- So many leases were given: each that came back closed a row, or its worker ran out of memory. Each leased block has an Opened row
  -- in the whole store.
  record IsPaid (m : Machine) (given : ℕ) : Type 0 where
    pub states : List ℕ
    pub covers : Covers p.guide states m.store
    pub few : given + length states ≤ most_leases p.space.actions m.counts.spent (broken_leases p m) (leases_out p.settings.workers m.counts)
    pub opened : (worker : ℕ) (grant : Grant) → m.counts.leases worker ≡ Some grant → HasOpened (m.store.rows grant.block)

  -- by what a machine has, part by part
  paid : (m : Machine) (given : ℕ) (states : List ℕ) (spent broken out : ℕ) → Covers p.guide states m.store → m.counts.spent ≡ spent → broken_leases p m ≡ broken → leases_out p.settings.workers m.counts ≡ out
      → given + length states ≤ most_leases p.space.actions spent broken out → ((worker : ℕ) (grant : Grant) → m.counts.leases worker ≡ Some grant → HasOpened (m.store.rows grant.block)) → IsPaid m given
  paid m given states spent broken out covers spent_is broken_is out_is few opened = record {
    states = states;
    covers = covers;
    few = subst (λ k. given + length states ≤ most_leases p.space.actions k (broken_leases p m) (leases_out p.settings.workers m.counts)) (sym spent_is)
        (subst (λ k. given + length states ≤ most_leases p.space.actions spent k (leases_out p.settings.workers m.counts)) (sym broken_is)
        (subst (λ k. given + length states ≤ most_leases p.space.actions spent broken k) (sym out_is) few));
    opened = opened;
  }

  -- where no row, no lease and no number of these changes
  stays : (old new : Machine) (given : ℕ) → ((home state : ℕ) → new.store.rows home state ≡ old.store.rows home state) → new.counts.spent ≡ old.counts.spent → new.broken ≡ old.broken → new.counts.leases ≡ old.counts.leases
      → IsPaid old given → IsPaid new given
  stays old new given rows spent broken leases was = paid new given was.states old.counts.spent (broken_leases p old) (leases_out p.settings.workers old.counts)
      (λ home state row found opened. was.covers home state row (sym (rows home state) ∙ found) opened)
      spent (ap (λ (b : ℕ → Bool). count_below p.settings.workers b) broken) (ap (λ (l : ℕ → Option Grant). count_below p.settings.workers (λ worker. is_some (l worker))) leases) was.few
      (λ worker grant leased. moved (was.opened worker grant (sym (ap (λ (l : ℕ → Option Grant). l worker) leases) ∙ leased)))
    where
      moved : {block : ℕ} → HasOpened (old.store.rows block) → HasOpened (new.store.rows block)
      moved {block} found = (found.0, found.1, rows block found.0 ∙ found.2, found.3)

  -- ---- a lease

  leases : (worker block quota : ℕ) (old new : Machine) (given : ℕ) → IsLawful p old → Happens p old (Lease worker block quota) new → IsPaid old given → IsPaid new (given + 1)
  leases worker block quota old new given l h was =
      let grant : Grant = record { block = block; quota = quota } in
      let t = passes p.blocks p.settings old.counts (Lease worker block quota) h.may in
      let inside = within p.blocks p.settings old.counts worker t.1.0 in
      let none : old.counts.leases worker ≡ None = none_leased (old.counts.leases worker) t.1.1.0 in
      let sums = sum_with_entry (λ (o : Option Grant). one_if (is_some o)) p.settings.workers worker old.counts.leases (Some grant) inside in
      let free : one_if (is_some (old.counts.leases worker)) ≡ 0 = ap (λ (o : Option Grant). one_if (is_some o)) none in
      let out : leases_out p.settings.workers new.counts ≡ leases_out p.settings.workers old.counts + 1 =
      ap (λ (c : Counts). leases_out p.settings.workers c) h.counts ∙ omega (arith, sums, free) in
      paid new (given + 1) was.states old.counts.spent (broken_leases p old) (leases_out p.settings.workers old.counts + 1)
      (subst (λ (s : Store). Covers p.guide was.states s) (sym h.rows.1) was.covers)
      (ap (λ (c : Counts). c.spent) h.counts) (ap (λ (b : ℕ → Bool). count_below p.settings.workers b) h.rows.5) out (omega (arith, was.few))
      (λ other second leased. subst (λ (s : Store). HasOpened (s.rows second.block)) (sym h.rows.1) (opened other second (sym (ap (λ (c : Counts). c.leases other) h.counts) ∙ leased)))
    where
      opened : (other : ℕ) (second : Grant) → with_entry old.counts.leases worker (Some (record { block = block; quota = quota })) other ≡ Some second → HasOpened (old.store.rows second.block)
      opened other second leased = by_cases (other == worker)
          (λ e.
          let same : block ≡ second.block = ap (λ (g : Grant). g.block) (some_is (record { block = block; quota = quota }) second (sym (entry_here old.counts.leases worker other (Some (record { block = block; quota = quota })) e) ∙ leased)) in
          subst (λ b. HasOpened (old.store.rows b)) same h.rows.0)
          (λ e. was.opened other second (sym (entry_else old.counts.leases worker other (Some (record { block = block; quota = quota })) e) ∙ leased))

  -- ---- a lease that comes back, or goes on

  module _ (worker used few : ℕ) (old new : Machine) (given : ℕ) (l : IsLawful p old) (back : CameBack p old worker used few new.store) (was : IsPaid old given) where
    abbrev Own : Grant
    Own = back.grant

    there : Comes p.space p.guide back.work.works old.store new.store
    there = subst (λ (s : Store). Comes p.space p.guide back.work.works old.store s) (sym back.back) (works_there p greatest_cost is old worker Own used few back.worked l back.leased back.work)

    left : (states : List ℕ) × Covers p.guide states new.store × (length states + closings back.work.works ≤ length was.states + p.space.actions * (expansions back.work.works + broken_expansions back.work.works))
    left = works_covered p.space p.guide Own.block (old.known worker) back.work.works old.store new.store was.states back.work.on there was.covers

    inside : worker < p.settings.workers
    inside = (l.counts.known worker Own back.leased).0

    -- other leases keep their Opened rows
    others : (other : ℕ) (second : Grant) → (other == worker) ≡ false → old.counts.leases other ≡ Some second → HasOpened (new.store.rows second.block)
    others other second apart leased =
        let found = was.opened other second leased in
        let out : p.blocks.scope Own.block second.block ≡ false =
        scopes_are_apart p greatest_cost old is l other worker second Own leased back.leased apart second.block (is.blocks.own second.block (l.counts.known other second leased).1) in
        (found.0, found.1, ap (λ (s : Store). s.rows second.block found.0) back.back ∙ ap (λ r. cond r (back.worked.rows second.block found.0) (old.store.rows second.block found.0)) out ∙ found.2, found.3)

    -- work that closes no row leaves one of the block Opened
    still_opened : closings back.work.works ≡ 0 → broken_expansions back.work.works ≡ 0 → HasOpened (new.store.rows Own.block)
    still_opened none whole =
        let found = was.opened worker Own back.leased in
        let own : p.blocks.scope Own.block Own.block ≡ true = is.blocks.own Own.block (l.counts.known worker Own back.leased).1 in (
          found.0,
          found.1,
          ap (λ (s : Store). s.rows Own.block found.0) back.back ∙ ap (λ r. cond r (back.worked.rows Own.block found.0) (old.store.rows Own.block found.0)) own
              ∙ rows_stay p.space p.guide Own.block (old.known worker) back.work.works (lent_store p Own.block old.store (old.given worker)) back.worked back.work.on back.work.comes none whole Own.block found.0
              ∙ ap (λ r. cond r (old.store.rows Own.block found.0) None) own ∙ found.2,
          found.3,
        )

    -- of the rows that are covered now
    fewer : length left.0 + closings back.work.works ≤ length was.states + (p.space.actions * used + p.space.actions * broken_expansions back.work.works)
    fewer =
        let sum = mul-add p.space.actions (expansions back.work.works) (broken_expansions back.work.works) in
        let same = ap (λ n. p.space.actions * n) back.work.used_is in
        omega (arith, left.2, sum, same)

    -- ---- it goes on

    renews : (quota : ℕ) → few ≡ 0 → new.counts ≡ counts_after p.blocks p.settings old.counts (Renew worker used quota) → new.broken ≡ old.broken
        → HasOpened (new.store.rows Own.block) → IsPaid new given
    renews quota none counts broken first =
        let sums = sum_with_entry (λ (o : Option Grant). one_if (is_some o)) p.settings.workers worker old.counts.leases (with_quota quota (old.counts.leases worker)) inside in
        let same : one_if (is_some (with_quota quota (old.counts.leases worker))) ≡ one_if (is_some (old.counts.leases worker)) = ap (λ (o : Option Grant). one_if (is_some (with_quota quota o))) back.leased ∙ sym (ap (λ (o : Option Grant). one_if (is_some o)) back.leased) in
        let out : leases_out p.settings.workers new.counts ≡ leases_out p.settings.workers old.counts =
        ap (λ (c : Counts). leases_out p.settings.workers c) counts ∙ omega (arith, sums, same) in
        let sum = mul-add p.space.actions old.counts.spent used in
        let whole : broken_expansions back.work.works ≡ 0 = omega (arith, back.work.few_broken, none) in
        let once = ap (λ n. p.space.actions * n) whole in
        let zero_more = at_most_once p.space.actions 0 (omega arith) in
        paid new given left.0 (old.counts.spent + used) (broken_leases p old) (leases_out p.settings.workers old.counts) left.1 (ap (λ (c : Counts). c.spent) counts)
        (ap (λ (b : ℕ → Bool). count_below p.settings.workers b) broken) out (omega (arith, was.few, fewer, sum, once, mul-zero p.space.actions))
        (λ other second leased. opened other second (sym (ap (λ (c : Counts). c.leases other) counts) ∙ leased))
      where
        opened : (other : ℕ) (second : Grant) → with_entry old.counts.leases worker (with_quota quota (old.counts.leases worker)) other ≡ Some second → HasOpened (new.store.rows second.block)
        opened other second leased = by_cases (other == worker)
            (λ e.
            let here = sym (ap (with_quota quota) back.leased) ∙ (sym (entry_here old.counts.leases worker other (with_quota quota (old.counts.leases worker)) e) ∙ leased) in
            let same : Own.block ≡ second.block = ap (λ (g : Grant). g.block) (some_is (record Own { quota = quota }) second here) in
            subst (λ b. HasOpened (new.store.rows b)) same first)
            (λ e. others other second e (sym (entry_else old.counts.leases worker other (with_quota quota (old.counts.leases worker)) e) ∙ leased))

    -- ---- it comes back

    home_opened : (other : ℕ) (second : Grant) → with_entry old.counts.leases worker None other ≡ Some second → HasOpened (new.store.rows second.block)
    home_opened other second leased = by_cases (other == worker)
        (λ e. let none : ◌≡◌ {A = Option Grant} None (Some second) = sym (entry_here old.counts.leases worker other None e) ∙ leased in cc)
        (λ e. others other second e (sym (entry_else old.counts.leases worker other None e) ∙ leased))

    home_out : (memory : Bool) → new.counts ≡ counts_after p.blocks p.settings old.counts (Release worker used memory) → leases_out p.settings.workers new.counts + 1 ≡ leases_out p.settings.workers old.counts
    home_out memory counts =
        let sums = sum_with_entry (λ (o : Option Grant). one_if (is_some o)) p.settings.workers worker old.counts.leases None inside in
        let had : one_if (is_some (old.counts.leases worker)) ≡ 1 = ap (λ (o : Option Grant). one_if (is_some o)) back.leased in
        let same = ap (λ (c : Counts). leases_out p.settings.workers c) counts in
        omega (arith, sums, had, same)

    releases : few ≡ 0 → new.counts ≡ counts_after p.blocks p.settings old.counts (Release worker used false) → new.broken ≡ old.broken
        → ((grant : Grant) × (old.counts.leases worker ≡ Some grant) × ((HasOpened (new.store.rows grant.block) → ⊥) ⊎ (used ≡ grant.quota))) → IsPaid new given
    releases none counts broken timely =
        let out = home_out false counts in
        let sum = mul-add p.space.actions old.counts.spent used in
        let once = ap (λ n. p.space.actions * n) whole in
        paid new given left.0 (old.counts.spent + used) (broken_leases p old) (leases_out p.settings.workers new.counts) left.1 (ap (λ (c : Counts). c.spent) counts)
        (ap (λ (b : ℕ → Bool). count_below p.settings.workers b) broken) refl (omega (arith, was.few, fewer, sum, once, mul-zero p.space.actions, out, closes timely.2))
        (λ other second leased. home_opened other second (sym (ap (λ (c : Counts). c.leases other) counts) ∙ leased))
      where
        whole : broken_expansions back.work.works ≡ 0
        whole = omega (arith, back.work.few_broken, none)

        same : timely.0 ≡ Own
        same = some_is timely.0 Own (sym timely.1 ∙ back.leased)

        closes : (HasOpened (new.store.rows timely.0.block) → ⊥) ⊎ (used ≡ timely.0.quota) → 1 ≤ closings back.work.works
        closes (inr all) =
            let some = (l.counts.quota worker Own back.leased).0 in
            let quota = ap (λ (g : Grant). g.quota) same in
            let each = expansions_close back.work.works in
            omega (arith, some, all, quota, each, back.work.used_is)
        closes (inl none_left) = nonzero (closings back.work.works) (λ e. none_left (subst (λ (g : Grant). HasOpened (new.store.rows g.block)) (sym same) (still_opened e whole)))

    -- ---- it comes back out of memory

    breaks : few ≡ 1 → new.counts ≡ counts_after p.blocks p.settings old.counts (Release worker used true) → new.broken ≡ with_entry old.broken worker true → IsPaid new given
    breaks one counts broken =
        let out = home_out true counts in
        let sum = mul-add p.space.actions old.counts.spent used in
        let at_most = at_most_once p.space.actions (broken_expansions back.work.works) (omega (arith, back.work.few_broken, one)) in
        let more = broken_more p old worker Own l back.leased in
        let product = mul-add (1 + p.space.actions) (broken_leases p old) 1 in
        let single = mul-one (1 + p.space.actions) in
        paid new given left.0 (old.counts.spent + used) (broken_leases p old + 1) (leases_out p.settings.workers new.counts) left.1 (ap (λ (c : Counts). c.spent) counts)
        (ap (λ (b : ℕ → Bool). count_below p.settings.workers b) broken ∙ more) refl (omega (arith, was.few, fewer, sum, at_most, product, single, out))
        (λ other second leased. home_opened other second (sym (ap (λ (c : Counts). c.leases other) counts) ∙ leased))

  -- ---- each move

  moved : (room : ℕ → ℕ) (move : Move) (old new : Machine) (given : ℕ) → IsLawful p old → Moves p old move new → IsTimely p room old move new → IsPaid old given → IsPaid new (given + leases_in (journal_of (move ∷ [])))
  moved room (event_move (Lease worker block quota)) old new given l h timely was = subst (IsPaid new) (omega arith) (leases worker block quota old new given l h was)
  moved room (event_move (Renew worker used quota)) old new given l h timely was =
      let back = h.rows.0 in
      let same : timely.0 ≡ back.grant = some_is timely.0 back.grant (sym timely.1 ∙ back.leased) in
      subst (IsPaid new) (omega arith) (renews worker used 0 old new given l back was quota refl h.counts h.rows.4
      (subst (λ (g : Grant). HasOpened (new.store.rows g.block)) same timely.3.may.opened))
  moved room (event_move (Hot worker block)) old new given l h timely was =
      subst (IsPaid new) (omega arith) (stays old new given (λ home state. ap (λ (s : Store). s.rows home state) h.rows.1.0) (ap (λ (c : Counts). c.spent) h.counts) h.rows.1.4 (ap (λ (c : Counts). c.leases) h.counts) was)
  moved room (event_move (Cold worker block)) old new given l h timely was =
      subst (IsPaid new) (omega arith) (stays old new given (λ home state. ap (λ (s : Store). s.rows home state) h.rows.0) (ap (λ (c : Counts). c.spent) h.counts) h.rows.4 (ap (λ (c : Counts). c.leases) h.counts) was)
  moved room (event_move (Release worker used false)) old new given l h timely was =
      subst (IsPaid new) (omega arith) (releases worker used 0 old new given l h.rows.0 was refl h.counts h.rows.4 (timely.0, timely.1, spent timely.2))
    where
      spent : {A B C : Type 0} → A ⊎ (B × C) → A ⊎ B
      spent (inl a) = inl a
      spent (inr both) = inr both.0
  moved room (event_move (Release worker used true)) old new given l h timely was =
      subst (IsPaid new) (omega arith) (breaks worker used 1 old new given l h.rows.0 was refl h.counts h.rows.4)
  moved room (event_move (Off worker memory)) old new given l h timely was =
      subst (IsPaid new) (omega arith) (stays old new given (λ home state. ap (λ (s : Store). s.rows home state) h.rows.0) (ap (λ (c : Counts). c.spent) h.counts) h.rows.4 (ap (λ (c : Counts). c.leases) h.counts) was)
  moved room (event_move (Ended Quiet)) old new given l h timely was =
      subst (IsPaid new) (omega arith) (stays old new given (λ home state. ap (λ (s : Store). s.rows home state) h.rows.1.0) (ap (λ (c : Counts). c.spent) h.counts) h.rows.1.4 (ap (λ (c : Counts). c.leases) h.counts) was)
  moved room (event_move (Ended Budget)) old new given l h timely was =
      subst (IsPaid new) (omega arith) (stays old new given (λ home state. ap (λ (s : Store). s.rows home state) h.rows.1.0) (ap (λ (c : Counts). c.spent) h.counts) h.rows.1.4 (ap (λ (c : Counts). c.leases) h.counts) was)
  moved room (event_move (Ended Memory)) old new given l h timely was =
      subst (IsPaid new) (omega arith) (stays old new given (λ home state. ap (λ (s : Store). s.rows home state) h.rows.0) (ap (λ (c : Counts). c.spent) h.counts) h.rows.4 (ap (λ (c : Counts). c.leases) h.counts) was)
  moved room (tell_move worker cost) old new given l h timely was =
      subst (IsPaid new) (omega arith) (stays old new given (λ home state. ap (λ (s : Store). s.rows home state) h.store) (ap (λ (c : Counts). c.spent) h.counts) h.broken (ap (λ (c : Counts). c.leases) h.counts) was)
  moved room (switch_move worker used block quota) old new given l h timely was =
      let back = releases worker used 0 old h.0 given l h.1.rows.0 was refl h.1.counts h.1.rows.4 (timely.0, timely.1, cause timely.2) in
      let lawful = moves_keep_lawful p greatest_cost (event_move (Release worker used false)) old h.0 is l h.1 in
      subst (IsPaid new) (omega arith) (leases worker block quota h.0 new given lawful h.2 back)
    where
      cause : {A : Type 0} → (HasOpened (new.store.rows timely.0.block) → ⊥) ⊎ ((used ≡ timely.0.quota) × A) → (HasOpened (h.0.store.rows timely.0.block) → ⊥) ⊎ (used ≡ timely.0.quota)
      cause (inl none) = inl (subst (λ (s : Store). HasOpened (s.rows timely.0.block) → ⊥) h.2.rows.1 none)
      cause (inr both) = inr both.0

  one_and_more : (move : Move) (moves : List Move) → leases_in (journal_of (move ∷ moves)) ≡ leases_in (journal_of (move ∷ [])) + leases_in (journal_of moves)
  one_and_more (event_move event) moves = omega arith
  one_and_more (tell_move worker cost) moves = omega arith
  one_and_more (switch_move worker used block quota) moves = omega arith

  runs : (room : ℕ → ℕ) (moves : List Move) (old : Machine) (settled : Option ℕ) (new : Machine) (later : Option ℕ) (given : ℕ) → IsLawful p old → RunsSettled p all_keep room old settled moves new later → IsPaid old given → IsPaid new (given + leases_in (journal_of moves))
  runs room [] old settled new later given l run was = subst (λ (m : Machine). IsPaid m (given + 0)) (sym run.0) (subst (IsPaid old) (omega arith) was)
  runs room (move ∷ moves) old settled new later given l run was =
      let first = moved room move old run.0 given l run.1 run.4 was in
      let rest = runs (room_moved room move) moves run.0 (settled_after move settled run.0) new later (given + leases_in (journal_of (move ∷ []))) (moves_keep_lawful p greatest_cost move old run.0 is l run.1) run.5 first in
      let both = one_and_more move moves in
      subst (IsPaid new) (omega (arith, both)) rest

  opening_paid : IsPaid (opening_machine p) 0
  opening_paid = record {
    states = p.space.start ∷ [];
    covers = λ home state row found opened. start home state row found;
    few = omega arith;
    opened = λ worker grant (leased : ◌≡◌ {A = Option Grant} None (Some grant)). cc;
  }
    where
      start : (home state : ℕ) (row : Row) → (opening_machine p).store.rows home state ≡ Some row → (home ≡ p.guide.home state) × (has (p.space.start ∷ []) state ≡ true)
      start home state row found = by_cases (is_place_of p.guide p.space.start home state)
          (λ e.
          let parts = and_true (home == p.guide.home p.space.start) (state == p.space.start) e in
          (equal home (p.guide.home p.space.start) parts.0 ∙ ap p.guide.home (sym (equal state p.space.start parts.1)), or_left (state == p.space.start) false parts.1))
          (λ e. let none : ◌≡◌ {A = Option Row} None (Some row) = sym (ap (λ r. cond r (Some (offered_row 0 (p.guide.estimate p.space.start) None 0 None)) None) e) ∙ found in cc)

-- no lease is out, and none came back out of memory, at another end where all have signed off
finished_numbers : (setup : Setup) (machine : Machine) → IsLawful setup machine → AreFinished setup.settings machine.counts → (machine.counts.end ≡ Some Memory → ⊥)
    → (leases_out setup.settings.workers machine.counts ≡ 0) × (broken_leases setup machine ≡ 0)
finished_numbers setup machine l finished other = (
  none_counted setup.settings.workers (λ worker. is_some (machine.counts.leases worker)) (λ worker lt. ap (λ (o : Option Grant). is_some o) (l.counts.off worker (finished.signed_off worker lt)).1),
  none_counted setup.settings.workers machine.broken (λ worker lt. by_cases (machine.broken worker) (λ e. never (l.reported.released worker e).2) (λ e. e)),
)
  where
    never : {A : Type 0} → (machine.counts.trouble ≡ true) ⊎ (machine.counts.end ≡ Some Memory) → A
    never (inl waits) = absurd (true≢false (sym finished.end ∙ ap (λ (o : Option End). is_some o) (l.counts.trouble waits)))
    never (inr memory) = absurd (other memory)

pub leases_are_few : LeasesAreFew
leases_are_few setup greatest_cost moves machine is first run = (
  omega (arith, paid_for.few),
  λ finished other.
      let numbers = finished_numbers setup machine lawful finished other in
      let product = ap (λ n. (1 + setup.space.actions) * n) numbers.1 in
      omega (arith, paid_for.few, numbers.0, product, mul-zero (1 + setup.space.actions)),
)
  where
    opens : IsLawful setup (opening_machine setup)
    opens = opening_is_lawful setup greatest_cost is first

    lawful : IsLawful setup machine
    lawful = runs_are_lawful setup greatest_cost moves (opening_machine setup) machine is opens (in_time_is_run setup no_room moves (opening_machine setup) machine run)

    paid_for : IsPaid setup greatest_cost is machine (0 + leases_in (journal_of moves))
    paid_for = runs setup greatest_cost is no_room moves (opening_machine setup) (opening_machine setup).store.incumbent machine run.0 0 opens run.1 (opening_paid setup greatest_cost is)

pub runs_are_short : RunsAreShort
runs_are_short setup greatest_cost moves machine is first range run within finished other =
    let few = (leases_are_few setup greatest_cost moves machine is first run).1 finished other in
    let history = journals_are_histories setup moves (opening_machine setup) machine 0 range (omega arith) refl (in_time_is_run setup no_room moves (opening_machine setup) machine run) in
    let short = journals_are_short setup.blocks setup.settings 0 (journal_of moves) machine.counts history within in
    omega (arith, few, short)
