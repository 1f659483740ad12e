-- Rivals and hot marks by the keys of a graph.
use Rattle.std.proofs.Common.{◌≡◌, ℕ, ◌<◌, Bool, true, false, Option, Some, None, is_some, is_none, not, refl, sym, ap, ◌∙◌, subst, get_or, length, true≢false, List, ◌⊎◌, inl, inr, arith}
use Rattle.std.proofs.lemmas.Bool.{and_from, lt-ltb}
use Rattle.pb_model.specs.declared.key.Key.{Key}
use Rattle.pb_model.specs.Store.{Rows}
use Rattle.pb_machine.specs.Blocks.{interferes}
use Rattle.pb_machine.specs.Choice.{IsRival}
use Rattle.pb_machine.proofs.Callers.{not_both_come, none_end}
use Rattle.pb_machine.specs.Machine.{Machine}
use Rattle.std.specs.Bool.{MatchBool}
use Rattle.std.specs.List.{HoldsAt, AllWithin}
use Rattle.pb_abstract.specs.Graph.{has}
use Rattle.pb_abstract.proofs.Callers.{interferes_known}
use Rattle.pb_bundles.specs.Homes.{key_at}
use Rattle.pb_bundles.specs.Moves.{is_among}
use Rattle.pb_bundles.specs.Choosing.{IsBestOf, IsBetterBy, IsRivalBy}
use Rattle.pb_bundles.proofs.Callers.{rivals_are_by_key}
use Rattle.pb_lease.specs.Tables.{blocks}
use Rattle.pb_machine.specs.declared.event.Event.TheVariants.{Hot, Cold}
use Rattle.pb_machine.specs.declared.event.Grant.{Grant}
use Rattle.pb_machine.specs.Legality.{refusal}
use Rattle.pb_model.proofs.Callers.{and_true, not_true, not_both, by_cases, below, some_found}
use Rattle.pb_lease.specs.Marking.{may_be_marked, may_be_cooled}
use Rattle.pb_lease.specs.GraphValue.{GraphValue, counts_in, IsLeaseGraph}
use Rattle.pb_lease.proofs.NextEvents.{mark_may, cold_may}
use Rattle.pb_lease.proofs.GraphBasics.{lawful_in}
use Rattle.pb_lease.specs.Choices.{IsOutranked, MayMark}
use Rattle.pb_lease.specs.Moments.{IsMomentAt}
use Rattle.pb_lease.proofs.Lists.{has_at, found_at as item_at}

pub rival_near : (g : GraphValue) (block : ℕ) (near : List ℕ) (result : Option ℕ) → ((c : ℕ) → has near c ≡ interferes (blocks g.table) block c) → IsRivalBy (is_among near) (key_at g.homes) block result
    → IsRivalBy (interferes (blocks g.table) block) (key_at g.homes) block result
rival_near g block near result each rival = subst (λ (n : ℕ → Bool). IsRivalBy n (key_at g.homes) block result) (λ i c. each c i) rival

pub rival_is : (g : GraphValue) (block : ℕ) (result : Option ℕ) → IsRivalBy (interferes (blocks g.table) block) (key_at g.homes) block result → (recorded : (worker : ℕ) → Rows) (machine : Machine) → IsMomentAt g recorded machine
    → IsRival (blocks g.table) machine.store block result
rival_is g block result rival recorded machine m = (rivals_are_by_key (blocks g.table) machine.store (key_at g.homes) (interferes (blocks g.table) block) block result m.keys (λ other. refl)
    (λ other near. interferes_known g.table.abstraction.scopes block other near)).0 rival

-- ---- there is one best block

pub best_is_one : (candidate : ℕ → Type 0) (keys : ℕ → Option Key) (one other : Option ℕ) → IsBestOf candidate keys one → IsBestOf candidate keys other → one ≡ other
best_is_one candidate keys None None a b = refl
best_is_one candidate keys None (Some d) a b = absurd (a d b.0)
best_is_one candidate keys (Some c) None a b = absurd (b c a.0)
best_is_one candidate keys (Some c) (Some d) a b = which (a.1 d b.0) (b.1 c a.0)
  where
    which : ((d ≡ c) ⊎ IsBetterBy keys c d) → ((c ≡ d) ⊎ IsBetterBy keys d c) → ◌≡◌ {A = Option ℕ} (Some c) (Some d)
    which (inl e) second = ap (λ n. Some n) (sym e)
    which (inr h) (inl e) = ap (λ n. Some n) e
    which (inr h) (inr l) = absurd (not_both_come (keys c) c (keys d) d h l)

-- ---- marks that may come

module _ (g : GraphValue) (k : IsLeaseGraph g) (worker block : ℕ) (leased : is_some ((counts_in g).leases worker) ≡ true) (known : block < (blocks g.table).count) where
  granted : (grant : Grant) × ((counts_in g).leases worker ≡ Some grant)
  granted = some_found ((counts_in g).leases worker) leased

  pub cold_is_legal : may_be_cooled g.table worker block ≡ true → refusal (blocks g.table) g.table.settings (counts_in g) (Cold worker block) ≡ None
  cold_is_legal test =
      let first = and_true _ _ test in
      let second = and_true _ _ first.0 in
      cold_may (blocks g.table) g.table.settings (counts_in g) worker block granted.0 (lawful_in g k) granted.1 refl (none_end g.table.end second.0) known second.1

  pub hot_is_legal : (outranked : Bool) → may_be_marked g.table worker block outranked ≡ true → (refusal (blocks g.table) g.table.settings (counts_in g) (Hot worker block) ≡ None) × (outranked ≡ false)
  hot_is_legal outranked test =
      let first = and_true _ _ test in
      let second = and_true _ _ first.0 in
      let third = and_true _ _ second.0 in
      let fourth = and_true _ _ third.0 in
      let fifth = and_true _ _ fourth.0 in
      (mark_may (blocks g.table) g.table.settings (counts_in g) worker block granted.0 (lawful_in g k) granted.1 refl (none_end g.table.end fifth.0) known (not_true _ fifth.1) (not_true _ fourth.1) third.1, not_true _ second.1)

-- a walk over the interference finds out whether a better block of it is hot
pub outranked_by : (g : GraphValue) (block : ℕ) (near : List ℕ) → ((c : ℕ) → has near c ≡ interferes (blocks g.table) block c) → (result : Bool)
    → MatchBool result ((i : ℕ) × (i < length near) × HoldsAt (λ other. ((counts_in g).hot other ≡ true) × IsBetterBy (key_at g.homes) other block) near i)
    (AllWithin (λ other. (((counts_in g).hot other ≡ true) × IsBetterBy (key_at g.homes) other block) → ⊥) near 0 (length near))
    → (result ≡ true → IsOutranked g block) × (IsOutranked g block → result ≡ true)
outranked_by g block near each true found = (
  λ e. (get_or near found.0 0, sym (each (get_or near found.0 0)) ∙ has_at near found.0 found.1, (found.2 0).0, (found.2 0).1),
  λ outranked. refl,
)
outranked_by g block near each false none = (
  λ e. absurd (true≢false (sym e)),
  λ outranked.
      let at = item_at near outranked.0 (each outranked.0 ∙ outranked.1) in
      absurd (none at.0 0 (omega arith) at.1 (subst (λ n. ((counts_in g).hot n ≡ true) × IsBetterBy (key_at g.homes) n block) (sym at.2) (outranked.2, outranked.3))),
)

-- ---- what the test of a mark says of the graph

pub marked_may : (g : GraphValue) (worker block : ℕ) (outranked : Bool) → (IsOutranked g block → outranked ≡ true) → may_be_marked g.table worker block outranked ≡ true → MayMark g worker block
marked_may g worker block outranked shown test =
    let first = and_true _ _ test in
    let second = and_true _ _ first.0 in
    let third = and_true _ _ second.0 in
    let fourth = and_true _ _ third.0 in
    let fifth = and_true _ _ fourth.0 in
    record {
      no_end = none_end g.table.end fifth.0;
      not_plain = not_true _ fifth.1;
      cold = not_true _ fourth.1;
      busy = third.1;
      none_better = λ better. not_both outranked (shown better) (not_true _ second.1);
      room = below 0 _ first.1;
    }

pub may_be_marked_is : (g : GraphValue) (worker block : ℕ) (outranked : Bool) → (outranked ≡ true → IsOutranked g block) → MayMark g worker block → may_be_marked g.table worker block outranked ≡ true
may_be_marked_is g worker block outranked shows may =
    let none : not outranked ≡ true = by_cases outranked (λ e. absurd (may.none_better (shows e))) (λ e. ap not e) in
    and_from _ _ (and_from _ _ (and_from _ _ (and_from _ _ (and_from _ _ (ap is_none may.no_end) (ap not may.not_plain)) (ap not may.cold)) may.busy) none) (lt-ltb 0 _ may.room)
