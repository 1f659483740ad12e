-- An exploration under way: which costs are final, and that these are those of hmax.
use Rattle.std.proofs.Common.{◌≡◌, ◌≢◌, ℕ, zero, suc, ◌+◌, ◌*◌, ◌^◌, ◌<◌, ◌≤◌, Bool, true, false, not, ◌&&◌, List, length, get_or, set, Contains, Option, None, Some, is_some, refl, sym, subst, ap, arith, ◌∙◌, ◌⊎◌, inl, inr}
use Rattle.std.proofs.Math.Bool.{and-false}
use Rattle.std.proofs.Math.ListN.{get_or-eq_default}
use Rattle.std.proofs.lemmas.Bool.{and_parts, not-true, cases_eq, cases_lt}
use Rattle.pb_task.specs.declared.parts.GroundAction.{GroundAction}
use Rattle.pb_task.specs.declared.parts.StripsParts.{StripsParts}
use Rattle.pb_task.specs.Strips.{has_atom}
use Rattle.pb_estimate.specs.declared.exploration.AtomCost.{AtomCost}
use Rattle.pb_estimate.specs.declared.exploration.AtomCost.TheVariants.{Unreached, Open, Final}
use Rattle.pb_estimate.specs.Hmax.{IsAtMost, cheapest_by, atom_cost, goal_cost}
use Rattle.pb_estimate.specs.Exploring.{count, known_cost, final_cost, known_in, cost_in, final_in, is_final_in, waiting, AreNoLess, HaveSameFinals, FinalsAreWithin, OpensAreFrom, IsLeastOpen}
use Rattle.pb_estimate.specs.declared.merging.MergedAction.{MergedAction}
use Rattle.pb_estimate.specs.declared.relaxed.RelaxedTask.{RelaxedTask}
use Rattle.pb_estimate.specs.Merged.{merged_at, IsMergedInto, StandFor}
use Rattle.pb_estimate.specs.Tables.{AreRelaxed}
use Rattle.pb_estimate.proofs.Costs.{at_most_more, lesser_right, lesser_cases, same_cost, dearest_at, dearest_from, CostsByOne, cheapest_is, cheapest_from}
use Rattle.pb_estimate.proofs.Rounds.{no_cheaper}
use Rattle.pb_estimate.proofs.Fixed.{holds_is}
use Rattle.pb_estimate.proofs.Counts.{count_same, none_counted, some_counted, count_drops}
use Rattle.pb_estimate.proofs.Lowered.{known_here, known_there}

-- ---- costs

-- an atom that costs something is in the row
pub inside : (costs : List AtomCost) (atom cost : ℕ) → IsAtMost (cost_in costs atom) cost → atom < length costs
inside costs atom cost h = go (cases_lt atom (length costs)) where
  go : (atom < length costs) ⊎ (length costs ≤ atom) → atom < length costs
  go (inl less) = less
  go (inr past) = absurd (subst (λ known. IsAtMost (known_cost known) cost) (get_or-eq_default costs Unreached past) h)

-- a final cost is the atom's
pub final_costs : (known : AtomCost) (cost : ℕ) → IsAtMost (final_cost known) cost → IsAtMost (known_cost known) cost
final_costs Unreached cost h = absurd h
final_costs (Open n) cost h = absurd h
final_costs (Final n) cost h = h

-- what costs something is open or final
open_or_final : (known : AtomCost) (cost : ℕ) → IsAtMost (known_cost known) cost → ((n : ℕ) × (known ≡ Open n) × (n ≤ cost)) ⊎ IsAtMost (final_cost known) cost
open_or_final Unreached cost h = absurd h
open_or_final (Open n) cost h = inl (n, refl, h)
open_or_final (Final n) cost h = inr h

-- a final cost, where there is one
pub has_final : (cost : Option ℕ) → is_some cost ≡ true → (n : ℕ) × (cost ≡ Some n)
has_final None e = cc
has_final (Some n) e = (n, refl)

pub is_at_most_itself : (cost : Option ℕ) (n : ℕ) → cost ≡ Some n → IsAtMost cost n
is_at_most_itself cost n e = subst (λ o. IsAtMost o n) (sym e) (let le : n ≤ n = omega arith in le)

is_final_where : (cost : Option ℕ) (n : ℕ) → IsAtMost cost n → is_some cost ≡ true
is_final_where None n h = absurd h
is_final_where (Some m) n h = refl

-- ---- an open cost becomes final

module _ (costs : List AtomCost) (atom cost : ℕ) (least : IsLeastOpen costs atom cost) where
  abbrev pub marked : List AtomCost
  marked = set costs atom (Final cost)

  pub is_here : known_in (set costs atom (Final cost)) atom ≡ Final cost
  is_here = known_here costs atom (Final cost) least.inside

  pub final_there : (other : ℕ) → other ≢ atom → final_in (set costs atom (Final cost)) other ≡ final_in costs other
  final_there other apart = ap final_cost (known_there costs atom other (Final cost) apart)

  pub no_cost_changes : (other : ℕ) → cost_in (set costs atom (Final cost)) other ≡ cost_in costs other
  no_cost_changes other = go (cases_eq other atom) where
    go : (other ≡ atom) ⊎ (other ≢ atom) → cost_in (set costs atom (Final cost)) other ≡ cost_in costs other
    go (inl e) = ap (cost_in (set costs atom (Final cost))) e ∙ ap known_cost is_here ∙ sym (ap known_cost least.is) ∙ ap (cost_in costs) (sym e)
    go (inr apart) = ap known_cost (known_there costs atom other (Final cost) apart)

  pub not_yet_final : is_final_in costs atom ≡ false
  not_yet_final = ap (λ known. is_some (final_cost known)) least.is

  pub costs_this : IsAtMost (cost_in costs atom) cost
  costs_this = subst (λ known. IsAtMost (known_cost known) cost) (sym least.is) (let le : cost ≤ cost = omega arith in le)

  -- what costs less is final
  pub cheaper_is_final : (other c : ℕ) → IsAtMost (cost_in costs other) c → c < cost → IsAtMost (final_in costs other) c
  cheaper_is_final other c h less = go (open_or_final (known_in costs other) c h) where
    go : ((n : ℕ) × (known_in costs other ≡ Open n) × (n ≤ c)) ⊎ IsAtMost (final_in costs other) c → IsAtMost (final_in costs other) c
    go (inl (n, is, le)) = let more : cost ≤ n = least.least other n is in absurd (omega (arith, more, le, less))
    go (inr final) = final

  pub still_final : (other c : ℕ) → IsAtMost (final_in costs other) c → IsAtMost (final_in (set costs atom (Final cost)) other) c
  still_final other c h = go (cases_eq other atom) where
    go : (other ≡ atom) ⊎ (other ≢ atom) → IsAtMost (final_in (set costs atom (Final cost)) other) c
    go (inl e) =
        absurd
        (let wrong : false ≡ true = sym not_yet_final ∙ ap (is_final_in costs) (sym e) ∙ is_final_where (final_in costs other) c h in
        let no : ⊥ = cc in no)
    go (inr apart) = subst (λ o. IsAtMost o c) (sym (final_there other apart)) h

  pub waiting_drops : (wanted : ℕ → Bool) (below : ℕ) → atom < below → wanted atom ≡ true → waiting wanted costs below ≡ suc (waiting wanted (set costs atom (Final cost)) below)
  waiting_drops wanted below less is =
      count_drops (λ a. wanted a && not (is_final_in costs a)) (λ a. wanted a && not (is_final_in (set costs atom (Final cost)) a)) below atom less
      (ap (λ test. test && not (is_final_in costs atom)) is ∙ ap (λ test. true && not test) not_yet_final)
      (ap (λ known. wanted atom && not (is_some (final_cost known))) is_here ∙ and-false (wanted atom))
      (λ other apart. ap (λ o. wanted other && not (is_some o)) (final_there other apart))

  pub waiting_stays : (wanted : ℕ → Bool) (below : ℕ) → wanted atom ≡ false → waiting wanted (set costs atom (Final cost)) below ≡ waiting wanted costs below
  waiting_stays wanted below isn't =
      count_same (λ a. wanted a && not (is_final_in (set costs atom (Final cost)) a)) (λ a. wanted a && not (is_final_in costs a)) below (λ other less. go other (cases_eq other atom))
    where
      go : (other : ℕ) → (other ≡ atom) ⊎ (other ≢ atom) → (wanted other && not (is_final_in (set costs atom (Final cost)) other)) ≡ (wanted other && not (is_final_in costs other))
      go other (inl e) =
          ap (λ test. test && not (is_final_in (set costs atom (Final cost)) other)) (ap wanted e ∙ isn't) ∙ sym (ap (λ test. test && not (is_final_in costs other)) (ap wanted e ∙ isn't))
      go other (inr apart) = ap (λ o. wanted other && not (is_some o)) (final_there other apart)

  pub finals_within : (level : ℕ) → level ≤ cost → FinalsAreWithin level costs → FinalsAreWithin cost (set costs atom (Final cost))
  finals_within level le within other c e = go (cases_eq other atom) where
    go : (other ≡ atom) ⊎ (other ≢ atom) → c ≤ cost
    go (inl same) =
        let both : ◌≡◌ {A = Option ℕ} (Some cost) (Some c) = sym (ap final_cost is_here) ∙ sym (ap (final_in (set costs atom (Final cost))) same) ∙ e in
        let is : cost ≡ c = cc in omega arith
    go (inr apart) = let lower : c ≤ level = within other c (sym (final_there other apart) ∙ e) in omega arith

-- where nothing that passes is waited for, it is final
pub all_final : (wanted : ℕ → Bool) (costs : List AtomCost) (below : ℕ) → waiting wanted costs below ≡ 0 → (atom : ℕ) → atom < below → wanted atom ≡ true → is_final_in costs atom ≡ true
all_final wanted costs below none atom less is = go (wanted atom) (is_final_in costs atom) is (none_counted (λ a. wanted a && not (is_final_in costs a)) below atom none less) where
  go : (test final : Bool) → test ≡ true → (test && not final) ≡ false → final ≡ true
  go true true e h = refl
  go true false e h = cc
  go false final e h = cc

-- what is waited for passes, and isn't final
pub is_waited_for : (test final : Bool) → (test && not final) ≡ true → (test ≡ true) × (final ≡ false)
is_waited_for test final h = let parts = and_parts test (not final) h in (parts.0, not-true final parts.1)

pub none_waiting : (wanted : ℕ → Bool) (costs : List AtomCost) (below : ℕ) → ((atom : ℕ) → atom < below → wanted atom ≡ true → is_final_in costs atom ≡ true) → waiting wanted costs below ≡ 0
none_waiting wanted costs below each = go (waiting wanted costs below) refl where
  go : (n : ℕ) → waiting wanted costs below ≡ n → waiting wanted costs below ≡ 0
  go zero e = e
  go (suc n) e =
      let some : 1 ≤ waiting wanted costs below = omega (arith, e) in
      let found = some_counted (λ a. wanted a && not (is_final_in costs a)) below some in
      let parts = is_waited_for (wanted found.0) (is_final_in costs found.0) found.2 in
      let wrong : false ≡ true = sym parts.1 ∙ each found.0 found.1 parts.0 in
      absurd (let no : ⊥ = cc in no)

pub same_waiting : (wanted : ℕ → Bool) (before after : List AtomCost) (below : ℕ) → HaveSameFinals before after → waiting wanted after below ≡ waiting wanted before below
same_waiting wanted before after below same =
    count_same (λ a. wanted a && not (is_final_in after a)) (λ a. wanted a && not (is_final_in before a)) below (λ atom less. ap (λ o. wanted atom && not (is_some o)) (same atom))

-- ---- under way

-- The costs of an exploration that has come to a level: no cost is below that of hmax; what an action adds, of whose needs all costs are final, costs
-- no more than by it; and what costs less than the level is final.
pub record IsUnderway (strips : StripsParts) (merged : List MergedAction) (state level : ℕ) (costs : List AtomCost) : Type 0 where
  pub long : length costs ≡ strips.atoms
  pub holds : (atom : ℕ) → atom < strips.atoms → has_atom state atom ≡ true → IsAtMost (cost_in costs atom) 0
  pub sound : AreNoLess (cost_in costs) (atom_cost strips state strips.atoms)
  pub reaches : (user : ℕ) → user < length merged → (cost : ℕ)
      → ((atom : ℕ) → atom < strips.atoms → has_atom (merged_at merged user).needs atom ≡ true → IsAtMost (final_in costs atom) cost)
      → (atom : ℕ) → atom < strips.atoms → has_atom (merged_at merged user).adds atom ≡ true
      → IsAtMost (cost_in costs atom) ((merged_at merged user).cost + cost)
  pub below : (atom cost : ℕ) → IsAtMost (cost_in costs atom) cost → cost < level → IsAtMost (final_in costs atom) cost
  pub finals : FinalsAreWithin level costs
  pub within : (atom cost : ℕ) → IsAtMost (cost_in costs atom) cost → IsAtMost (cost_in costs atom) (level + 2 ^ 20)
  pub room : level + 2 ^ 20 * waiting (λ _. true) costs strips.atoms ≤ 2 ^ 30

-- the counters are those of the atoms that each action needs whose costs aren't final
pub record AreCounted (strips : StripsParts) (merged : List MergedAction) (counts : List ℕ) (costs : List AtomCost) : Type 0 where
  pub many : length counts ≡ length merged
  pub counted : (user : ℕ) → user < length merged
      → get_or counts user 0 ≡ waiting (has_atom (merged_at merged user).needs) costs strips.atoms

-- An exploration of a relaxed task that is under way.
pub record IsOnItsWay (strips : StripsParts) (state : ℕ) (task : RelaxedTask) (level : ℕ) (counts : List ℕ) (costs : List AtomCost) : Type 0 where
  pub merged : List MergedAction
  pub stand : StandFor strips.atoms strips.actions merged
  pub relaxed : AreRelaxed strips.atoms merged task.users task
  pub underway : IsUnderway strips merged state level costs
  pub counted : AreCounted strips merged counts costs

module _ (strips : StripsParts) (state : ℕ) where
  -- where the atoms that an action needs cost at most this by hmax, what it adds costs at most that and the action
  pub by_action : (action : GroundAction) → Contains strips.actions action → (cost : ℕ)
      → ((atom : ℕ) → atom < strips.atoms → has_atom action.needs atom ≡ true → IsAtMost (atom_cost strips state strips.atoms atom) cost)
      → (atom : ℕ) → atom < strips.atoms → has_atom action.adds atom ≡ true → IsAtMost (atom_cost strips state strips.atoms atom) (action.cost + cost)
  by_action action among cost needs atom less adds =
      no_cheaper strips state (suc strips.atoms) atom (action.cost + cost) less
      (lesser_right (atom_cost strips state strips.atoms atom) (cheapest_by strips.atoms (atom_cost strips state strips.atoms) atom strips.actions) (action.cost + cost)
      (cheapest_from strips.atoms (atom_cost strips state strips.atoms) atom strips.actions (action.cost + cost) action among (record {
        adds = adds;
        needed = cost;
        needs = needs;
        sum = omega arith;
      })))

  -- Where all that costs less than a bound is final, that is all that costs less by hmax.
  module _ (merged : List MergedAction) (stand : StandFor strips.atoms strips.actions merged) (level bound : ℕ) (costs : List AtomCost) (u : IsUnderway strips merged state level costs)
      (settled : (atom cost : ℕ) → IsAtMost (cost_in costs atom) cost → cost < bound → IsAtMost (final_in costs atom) cost) where
    pub is_settled : (round atom cost : ℕ) → atom < strips.atoms → cost < bound → IsAtMost (atom_cost strips state round atom) cost → IsAtMost (final_in costs atom) cost
    is_settled zero atom cost less lower h =
        settled atom cost (at_most_more (cost_in costs atom) 0 cost (omega arith) (u.holds atom less (holds_is (has_atom state atom) cost h))) lower
    is_settled (suc round) atom cost less lower h =
        go (is_settled round) (lesser_cases (atom_cost strips state round atom) (cheapest_by strips.atoms (atom_cost strips state round) atom strips.actions) cost h)
      where
        go : ((need c : ℕ) → need < strips.atoms → c < bound → IsAtMost (atom_cost strips state round need) c → IsAtMost (final_in costs need) c)
            → IsAtMost (atom_cost strips state round atom) cost ⊎ IsAtMost (cheapest_by strips.atoms (atom_cost strips state round) atom strips.actions) cost → IsAtMost (final_in costs atom) cost
        go rest (inl was) = rest atom cost less lower was
        go rest (inr by) = one (stand.all it.action it.among atom less it.by.adds) where
          it : CostsByOne strips.atoms (atom_cost strips state round) atom strips.actions cost
          it = cheapest_is strips.atoms (atom_cost strips state round) atom strips.actions cost by

          needed_less : it.by.needed < bound
          needed_less = let sum : it.action.cost + it.by.needed ≤ cost = it.by.sum in omega arith

          needs : (need : ℕ) → need < strips.atoms → has_atom it.action.needs need ≡ true → IsAtMost (final_in costs need) it.by.needed
          needs need need_less has = rest need it.by.needed need_less needed_less (it.by.needs need need_less has)

          one : (has_atom it.action.needs atom ≡ true) ⊎ IsMergedInto merged it.action atom → IsAtMost (final_in costs atom) cost
          one (inr into) =
              let cheap : IsAtMost (cost_in costs atom) ((merged_at merged into.place).cost + it.by.needed) =
              u.reaches into.place into.inside it.by.needed (λ need need_less has. needs need need_less (subst (λ (set : ℕ). has_atom set need ≡ true) into.needs has)) atom less into.adds in
              let sum : it.action.cost + it.by.needed ≤ cost = it.by.sum in
              settled atom cost (at_most_more (cost_in costs atom) ((merged_at merged into.place).cost + it.by.needed) cost (omega (arith, into.cost, sum)) cheap) lower
          one (inl need) = at_most_more (final_in costs atom) it.by.needed cost (let sum : it.action.cost + it.by.needed ≤ cost = it.by.sum in omega arith) (needs atom less need)

  -- ---- the goal

  -- the goal costs as much as the last of its atoms whose cost becomes final
  pub goal_is : (merged : List MergedAction) → StandFor strips.atoms strips.actions merged → (level atom cost : ℕ) (costs : List AtomCost) → IsUnderway strips merged state level costs → IsLeastOpen costs atom cost → atom < strips.atoms → level ≤ cost
      → has_atom strips.goal atom ≡ true → waiting (has_atom strips.goal) (set costs atom (Final cost)) strips.atoms ≡ 0 → Some cost ≡ goal_cost strips state
  goal_is merged stand level atom cost costs u least less le has none = same_cost (Some cost) (goal_cost strips state) to from where
    to : (c : ℕ) → IsAtMost (Some cost) c → IsAtMost (goal_cost strips state) c
    to c h = dearest_from (atom_cost strips state strips.atoms) strips.goal strips.atoms c (λ a a_less wanted.
        let final = has_final (final_in (set costs atom (Final cost)) a) (all_final (has_atom strips.goal) (set costs atom (Final cost)) strips.atoms none a a_less wanted) in
        let lower : final.0 ≤ cost = finals_within costs atom cost least level le u.finals a final.0 final.1 in
        at_most_more (atom_cost strips state strips.atoms a) final.0 c (omega (arith, lower, h))
        (u.sound a final.0 (subst (λ o. IsAtMost o final.0) (no_cost_changes costs atom cost least a)
        (final_costs (known_in (set costs atom (Final cost)) a) final.0 (is_at_most_itself (final_in (set costs atom (Final cost)) a) final.0 final.1)))))

    from : (c : ℕ) → IsAtMost (goal_cost strips state) c → cost ≤ c
    from c h = go (cases_lt c cost) where
      go : (c < cost) ⊎ (cost ≤ c) → cost ≤ c
      go (inr le) = le
      go (inl lower) =
          let final : IsAtMost (final_in costs atom) c =
          is_settled merged stand level cost costs u (cheaper_is_final costs atom cost least) strips.atoms atom c less lower
          (dearest_at (atom_cost strips state strips.atoms) strips.goal strips.atoms c h atom less has) in
          absurd (subst (λ known. IsAtMost (final_cost known) c) least.is final)

  -- where no cost is open, and an atom of the goal has no final cost, none is enough for the goal
  pub goal_is_dead : (merged : List MergedAction) → StandFor strips.atoms strips.actions merged → (level : ℕ) (costs : List AtomCost) → IsUnderway strips merged state level costs → ((atom cost : ℕ) → known_in costs atom ≡ Open cost → ⊥)
      → 1 ≤ waiting (has_atom strips.goal) costs strips.atoms → None ≡ goal_cost strips state
  goal_is_dead merged stand level costs u closed some = same_cost None (goal_cost strips state) (λ c h. absurd h) (λ c h. from c h) where
    found : (k : ℕ) × (k < strips.atoms) × ((has_atom strips.goal k && not (is_final_in costs k)) ≡ true)
    found = some_counted (λ a. has_atom strips.goal a && not (is_final_in costs a)) strips.atoms some

    settled : (c : ℕ) → (a n : ℕ) → IsAtMost (cost_in costs a) n → n < suc c → IsAtMost (final_in costs a) n
    settled c a n h less = go (open_or_final (known_in costs a) n h) where
      go : ((m : ℕ) × (known_in costs a ≡ Open m) × (m ≤ n)) ⊎ IsAtMost (final_in costs a) n → IsAtMost (final_in costs a) n
      go (inl (m, is, le)) = absurd (closed a m is)
      go (inr final) = final

    from : (c : ℕ) → IsAtMost (goal_cost strips state) c → ⊥
    from c h =
        let parts = is_waited_for (has_atom strips.goal found.0) (is_final_in costs found.0) found.2 in
        let final : IsAtMost (final_in costs found.0) c =
        is_settled merged stand level (suc c) costs u (settled c) strips.atoms found.0 c found.1 (omega arith)
        (dearest_at (atom_cost strips state strips.atoms) strips.goal strips.atoms c h found.0 found.1 parts.0) in
        let wrong : false ≡ true = sym parts.1 ∙ is_final_where (final_in costs found.0) c final in cc

  -- no open cost is below the level
  pub opens_from : (merged : List MergedAction) (level : ℕ) (costs : List AtomCost) → IsUnderway strips merged state level costs → OpensAreFrom level costs
  opens_from merged level costs u atom c is = go (cases_lt c level) where
    go : (c < level) ⊎ (level ≤ c) → level ≤ c
    go (inr le) = le
    go (inl lower) =
        absurd
        (subst (λ known. IsAtMost (final_cost known) c) is
        (u.below atom c (subst (λ known. IsAtMost (known_cost known) c) (sym is) (let le : c ≤ c = omega arith in le)) lower))

  -- a goal without atoms costs nothing
  pub free_goal : count (has_atom strips.goal) strips.atoms ≡ 0 → Some 0 ≡ goal_cost strips state
  free_goal none = same_cost (Some 0) (goal_cost strips state)
      (λ c h. dearest_from (atom_cost strips state strips.atoms) strips.goal strips.atoms c (λ atom less has.
      let wrong : false ≡ true = sym (none_counted (has_atom strips.goal) strips.atoms atom none less) ∙ has in
      absurd (let no : ⊥ = cc in no)))
      (λ c h. omega arith)
