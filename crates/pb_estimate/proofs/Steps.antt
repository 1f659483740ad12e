-- An exploration begins at a state, and goes on by an atom whose cost becomes final.
use Rattle.std.proofs.Common.{◌≡◌, ◌≢◌, ℕ, suc, ◌+◌, ◌*◌, ◌^◌, ◌<◌, ◌≤◌, Bool, true, false, not, ◌&&◌, List, length, map, get_or, set, All, Contains, Option, None, Some, is_some, refl, sym, subst, ap, arith, ◌∙◌, ◌⊎◌, inl, inr}
use Rattle.std.proofs.lemmas.Bool.{cases_eq, cases_lt}
use Rattle.std.proofs.lemmas.List.{get_or-map, length-map, length-set}
use Rattle.std.proofs.lemmas.List.Elements.{All-contains}
use Rattle.pb_packed.specs.Sizes.{most_atoms}
use Rattle.pb_task.specs.declared.parts.StripsParts.{StripsParts}
use Rattle.pb_task.specs.Strips.{has_atom, IsStrips}
use Rattle.pb_estimate.specs.declared.exploration.AtomCost.{AtomCost}
use Rattle.pb_estimate.specs.declared.exploration.AtomCost.TheVariants.{Final}
use Rattle.pb_estimate.specs.declared.merging.MergedAction.{MergedAction}
use Rattle.pb_estimate.specs.Merged.{merged_at, StandFor}
use Rattle.pb_estimate.specs.Relaxed.{RelaxedAction, relaxed_at}
use Rattle.pb_estimate.specs.Hmax.{IsAtMost, atom_cost}
use Rattle.pb_estimate.specs.Exploring.{known_cost, final_cost, known_in, cost_in, final_in, is_final_in, waiting, AreNoLess, HaveSameFinals, IsLeastOpen}
use Rattle.pb_estimate.specs.Tables.{atoms_in, relaxed_action, AddsAt, IsAddedBy, IsRelaxed, AreUsers, AreFree}
use Rattle.pb_estimate.proofs.Costs.{at_most_more}
use Rattle.pb_estimate.proofs.Rounds.{count_is_small, in_later_rounds}
use Rattle.pb_estimate.proofs.Fixed.{holds_from}
use Rattle.pb_estimate.proofs.Counts.{count_same}
use Rattle.pb_estimate.proofs.Sets.{all_in, contains_in, is_in, many_in, relaxed_is}
use Rattle.pb_estimate.proofs.Underway.{inside, final_costs, has_final, is_at_most_itself, final_there, is_here, no_cost_changes, costs_this, cheaper_is_final, still_final, waiting_drops, waiting_stays, finals_within, all_final, none_waiting, same_waiting, IsUnderway, AreCounted, by_action}

module _ (strips : StripsParts) (state : ℕ) (is : IsStrips strips) (merged : List MergedAction) (stand : StandFor strips.atoms strips.actions merged) (actions : List RelaxedAction)
    (same : actions ≡ map (relaxed_action strips.atoms) merged) where
  pub many_actions : length actions ≡ length merged
  many_actions = ap length same ∙ length-map merged (relaxed_action strips.atoms)

  pub user_is : (user : ℕ) → user < length merged
      → relaxed_at actions user ≡ relaxed_action strips.atoms (merged_at merged user)
  user_is user less = ap (λ xs. relaxed_at xs user) same ∙ relaxed_is strips.atoms merged user less

  pub price : (user : ℕ) → user < length merged → (merged_at merged user).cost ≤ 2 ^ 20
  price user less = stand.cheap user less

  pub actions_are_relaxed : All (IsRelaxed strips.atoms) actions
  actions_are_relaxed k d less =
      let k_less : k < length merged = (let e : length actions ≡ length merged = many_actions in omega arith) in
      subst (IsRelaxed strips.atoms)
      (sym (ap (λ xs. get_or xs k d) same ∙ get_or-map (relaxed_action strips.atoms) merged k (record { needs = 0; adds = 0; cost = 1 }) d k_less))
      (record {
        adds = all_in (λ atom. atom < strips.atoms) (merged_at merged k).adds strips.atoms (λ atom a_less has. a_less);
        cost = price k k_less;
      })

  -- what an action adds costs no more by hmax than what it needs, with the action
  pub added : (user atom level cost : ℕ) → user < length merged → AddsAt (relaxed_at actions user) level atom cost
      → ((need : ℕ) → need < strips.atoms → has_atom (merged_at merged user).needs need ≡ true → IsAtMost (atom_cost strips state strips.atoms need) level)
      → IsAtMost (atom_cost strips state strips.atoms atom) cost
  added user atom level cost less (among, le) needs =
      let adds = is_in (merged_at merged user).adds strips.atoms atom (subst (λ (a : RelaxedAction). Contains a.adds atom) (user_is user less) among) in
      let sum : level + (merged_at merged user).cost ≤ cost = subst (λ (a : RelaxedAction). level + a.cost ≤ cost) (user_is user less) le in
      let from = stand.sound user less atom adds.0 adds.1 in
      at_most_more (atom_cost strips state strips.atoms atom) (from.action.cost + level) cost (omega (arith, from.cost, sum))
      (by_action strips state from.action from.among level (λ need n_less has. needs need n_less (subst (λ (set : ℕ). has_atom set need ≡ true) from.needs has)) atom adds.0 from.adds)

  -- what is said of all that an action adds
  cheap_at : (costs : List AtomCost) (user atom bound : ℕ) → user < length merged
      → All (λ a. IsAtMost (cost_in costs a) (bound + (relaxed_at actions user).cost)) (relaxed_at actions user).adds
      → atom < strips.atoms → has_atom (merged_at merged user).adds atom ≡ true
      → IsAtMost (cost_in costs atom) (bound + (merged_at merged user).cost)
  cheap_at costs user atom bound less all a_less adds =
      let cheap : All (λ a. IsAtMost (cost_in costs a) (bound + (merged_at merged user).cost)) (atoms_in (merged_at merged user).adds strips.atoms) =
      subst (λ (x : RelaxedAction). All (λ a. IsAtMost (cost_in costs a) (bound + x.cost)) x.adds) (user_is user less) all in
      All-contains (λ a. IsAtMost (cost_in costs a) (bound + (merged_at merged user).cost))
      (atoms_in (merged_at merged user).adds strips.atoms) atom cheap
      (contains_in (merged_at merged user).adds strips.atoms atom a_less adds)

  -- ---- the beginning

  module _ (free : List ℕ) (are : AreFree strips.atoms merged free) (first last : List AtomCost)
      (long : length last ≡ strips.atoms)
      (holds : (atom : ℕ) → atom < strips.atoms → has_atom state atom ≡ true → IsAtMost (cost_in first atom) 0)
      (only : (atom cost : ℕ) → IsAtMost (cost_in first atom) cost → has_atom state atom ≡ true)
      (none : (atom : ℕ) → final_in first atom ≡ None)
      (finals : HaveSameFinals first last) (falls : AreNoLess (cost_in first) (cost_in last))
      (reaches : All (λ user. All (λ atom. IsAtMost (cost_in last atom) (relaxed_at actions user).cost) (relaxed_at actions user).adds) free)
      (only_free : (atom cost : ℕ) → IsAtMost (cost_in last atom) cost
      → IsAtMost (cost_in first atom) cost ⊎ ((user : ℕ) × Contains free user × AddsAt (relaxed_at actions user) 0 atom cost)) where
    pub none_final : (atom : ℕ) → final_in last atom ≡ None
    none_final atom = finals atom ∙ none atom

    at_free : (user : ℕ) → Contains free user → user < length merged
    at_free user among = All-contains (λ u. u < length merged) free user are.inside among

    no_needs : (user : ℕ) → Contains free user → (need : ℕ) → need < strips.atoms → has_atom (merged_at merged user).needs need ≡ true → ⊥
    no_needs user among need less has =
        let wrong : false ≡ true =
        sym (All-contains (λ u. (atom : ℕ) → atom < strips.atoms → has_atom (merged_at merged u).needs atom ≡ false) free user are.need among need less) ∙ has in
        cc

    free_reaches : (user : ℕ) → Contains free user → All (λ a. IsAtMost (cost_in last a) (0 + (relaxed_at actions user).cost)) (relaxed_at actions user).adds
    free_reaches user among =
        let all : All (λ a. IsAtMost (cost_in last a) (relaxed_at actions user).cost) (relaxed_at actions user).adds =
        All-contains (λ u. All (λ atom. IsAtMost (cost_in last atom) (relaxed_at actions u).cost) (relaxed_at actions u).adds) free user reaches among in
        subst (λ n. All (λ a. IsAtMost (cost_in last a) n) (relaxed_at actions user).adds) (let e : (relaxed_at actions user).cost ≡ 0 + (relaxed_at actions user).cost = omega arith in e) all

    pub begun : IsUnderway strips merged state 0 last
    begun = record {
      long = long;
      holds = λ atom less has. falls atom 0 (holds atom less has);
      sound = λ atom cost h. sound atom cost (only_free atom cost h);
      reaches = λ user less cost needs atom a_less adds. reach user less cost needs atom a_less adds;
      below = λ atom cost h less. absurd (omega (arith, less));
      finals = λ atom c e. let wrong : None ≡ Some c = sym (none_final atom) ∙ e in cc;
      within = λ atom cost h. small atom cost h (only_free atom cost h);
      room = let few : waiting (λ _. true) last strips.atoms ≤ strips.atoms = count_is_small (λ a. true && not (is_final_in last a)) strips.atoms in
          let most : strips.atoms ≤ most_atoms = is.atoms in
          omega arith;
    }
      where
        sound : (atom cost : ℕ) → IsAtMost (cost_in first atom) cost ⊎ ((user : ℕ) × Contains free user × AddsAt (relaxed_at actions user) 0 atom cost)
            → IsAtMost (atom_cost strips state strips.atoms atom) cost
        sound atom cost (inl was) = in_later_rounds strips state atom cost 0 strips.atoms (omega arith) (holds_from (has_atom state atom) cost (only atom cost was))
        sound atom cost (inr (user, among, adds)) = added user atom 0 cost (at_free user among) adds (λ need less has. absurd (no_needs user among need less has))

        reach : (user : ℕ) → user < length merged → (cost : ℕ)
            → ((atom : ℕ) → atom < strips.atoms → has_atom (merged_at merged user).needs atom ≡ true → IsAtMost (final_in last atom) cost)
            → (atom : ℕ) → atom < strips.atoms → has_atom (merged_at merged user).adds atom ≡ true
            → IsAtMost (cost_in last atom) ((merged_at merged user).cost + cost)
        reach user less cost needs atom a_less adds =
            at_most_more (cost_in last atom) (0 + (merged_at merged user).cost) ((merged_at merged user).cost + cost) (omega arith)
            (cheap_at last user atom 0 less (free_reaches user among) a_less adds)
          where
            off : (need : ℕ) → need < strips.atoms → (test : Bool) → has_atom (merged_at merged user).needs need ≡ test
                → has_atom (merged_at merged user).needs need ≡ false
            off need n_less true e = absurd (subst (λ o. IsAtMost o cost) (none_final need) (needs need n_less e))
            off need n_less false e = e

            among : Contains free user
            among = are.all user less (λ need n_less. off need n_less (has_atom (merged_at merged user).needs need) refl)

        small : (atom cost : ℕ) → IsAtMost (cost_in last atom) cost → IsAtMost (cost_in first atom) cost ⊎ ((user : ℕ) × Contains free user × AddsAt (relaxed_at actions user) 0 atom cost)
            → IsAtMost (cost_in last atom) (0 + 2 ^ 20)
        small atom cost h (inl was) =
            at_most_more (cost_in last atom) 0 (0 + 2 ^ 20) (omega arith)
            (falls atom 0 (holds atom (let less : atom < length last = inside last atom cost h in omega (arith, long, less)) (only atom cost was)))
        small atom cost h (inr (user, among, (adds, le))) =
            let u_less : user < length merged = at_free user among in
            let most : (merged_at merged user).cost ≤ 2 ^ 20 = price user u_less in
            let part = is_in (merged_at merged user).adds strips.atoms atom (subst (λ (a : RelaxedAction). Contains a.adds atom) (user_is user u_less) adds) in
            at_most_more (cost_in last atom) (0 + (merged_at merged user).cost) (0 + 2 ^ 20) (omega arith)
            (cheap_at last user atom 0 u_less (free_reaches user among) part.0 part.1)

    -- what is waited for at the beginning
    pub waiting_at_first : (set : ℕ) → length (atoms_in set strips.atoms) ≡ waiting (has_atom set) last strips.atoms
    waiting_at_first set =
        many_in set strips.atoms
        ∙ count_same (has_atom set) (λ a. has_atom set a && not (is_final_in last a)) strips.atoms (λ a less.
        and_true (has_atom set a) ∙ ap (λ o. has_atom set a && not (is_some o)) (sym (none_final a)))
      where
        and_true : (test : Bool) → test ≡ (test && not false)
        and_true true = refl
        and_true false = refl

    pub begun_counts : (counts : List ℕ) → counts ≡ map (λ (action : MergedAction). length (atoms_in action.needs strips.atoms)) merged
        → AreCounted strips merged counts last
    begun_counts counts e = record {
      many = ap length e ∙ length-map merged (λ (action : MergedAction). length (atoms_in action.needs strips.atoms));
      counted = λ user less.
          ap (λ xs. get_or xs user 0) e
          ∙ get_or-map (λ (action : MergedAction). length (atoms_in action.needs strips.atoms)) merged user
          (record { needs = 0; adds = 0; cost = 1 }) 0 less
          ∙ waiting_at_first (merged_at merged user).needs;
    }

  -- ---- one atom more

  module _ (level atom cost : ℕ) (costs : List AtomCost) (u : IsUnderway strips merged state level costs) (least : IsLeastOpen costs atom cost) (counts : List ℕ) (c : AreCounted strips merged counts costs)
      (users : List ℕ) (are : AreUsers merged atom users) where
    pub atom_less : atom < strips.atoms
    atom_less = let less : atom < length costs = least.inside in omega (arith, u.long, less)

    pub not_below : level ≤ cost
    not_below = go (cases_lt cost level) where
      go : (cost < level) ⊎ (level ≤ cost) → level ≤ cost
      go (inr le) = le
      go (inl lower) = absurd (subst (λ known. IsAtMost (final_cost known) cost) least.is (u.below atom cost (costs_this costs atom cost least) lower))

    pub not_far : cost ≤ level + 2 ^ 20
    not_far = subst (λ known. IsAtMost (known_cost known) (level + 2 ^ 20)) least.is (u.within atom cost (costs_this costs atom cost least))

    pub rest_waits : waiting (λ _. true) costs strips.atoms ≡ suc (waiting (λ _. true) (set costs atom (Final cost)) strips.atoms)
    rest_waits = waiting_drops costs atom cost least (λ _. true) strips.atoms atom_less refl

    pub level_is_small : cost ≤ 2 ^ 30
    level_is_small = let room : level + 2 ^ 20 * waiting (λ _. true) costs strips.atoms ≤ 2 ^ 30 = u.room in
        let far : cost ≤ level + 2 ^ 20 = not_far in
        let more : waiting (λ _. true) costs strips.atoms ≡ suc (waiting (λ _. true) (set costs atom (Final cost)) strips.atoms) = rest_waits in
        omega arith

    need_at : (user : ℕ) → Contains users user → (user < length merged) × (has_atom (merged_at merged user).needs atom ≡ true)
    need_at user among =
        All-contains (λ n. (n < length merged) × (has_atom (merged_at merged n).needs atom ≡ true)) users user are.need among

    pub users_wait : All (λ user. (user < length actions) × (1 ≤ get_or counts user 0)) users
    users_wait k d less =
        let need = are.need k d less in
        let user_less : get_or users k d < length merged = need.0 in
        let drop : waiting (has_atom (merged_at merged (get_or users k d)).needs) costs strips.atoms
        ≡ suc (waiting (has_atom (merged_at merged (get_or users k d)).needs) (set costs atom (Final cost)) strips.atoms) =
        waiting_drops costs atom cost least (has_atom (merged_at merged (get_or users k d)).needs) strips.atoms atom_less need.1 in
        let is_counted : get_or counts (get_or users k d) 0 ≡ waiting (has_atom (merged_at merged (get_or users k d)).needs) costs strips.atoms =
        c.counted (get_or users k d) user_less in
        (let e : length actions ≡ length merged = many_actions in omega arith, omega arith)

    module _ (after : List ℕ) (last : List AtomCost) (long : length last ≡ length (set costs atom (Final cost))) (after_long : length after ≡ length counts)
        (counted : All (λ user. get_or after user 0 + 1 ≡ get_or counts user 0) users)
        (others : (user : ℕ) → (Contains users user → ⊥) → get_or after user 0 ≡ get_or counts user 0)
        (finals : HaveSameFinals (set costs atom (Final cost)) last) (falls : AreNoLess (cost_in (set costs atom (Final cost))) (cost_in last))
        (reaches : All (λ user. get_or after user 0 ≡ 0 → All (λ a. IsAtMost (cost_in last a) (cost + (relaxed_at actions user).cost)) (relaxed_at actions user).adds) users)
        (only : (a n : ℕ) → IsAtMost (cost_in last a) n → IsAtMost (cost_in (set costs atom (Final cost)) a) n ⊎ ((user : ℕ) × Contains users user × IsAddedBy actions cost after user a n)) where
      -- the counters are right again
      pub count_now : (user : ℕ) → user < length merged
          → get_or after user 0 ≡ waiting (has_atom (merged_at merged user).needs) (set costs atom (Final cost)) strips.atoms
      count_now user less = go (has_atom (merged_at merged user).needs atom) refl where
        go : (test : Bool) → has_atom (merged_at merged user).needs atom ≡ test
            → get_or after user 0 ≡ waiting (has_atom (merged_at merged user).needs) (set costs atom (Final cost)) strips.atoms
        go true has =
            let drop : waiting (has_atom (merged_at merged user).needs) costs strips.atoms
            ≡ suc (waiting (has_atom (merged_at merged user).needs) (set costs atom (Final cost)) strips.atoms) =
            waiting_drops costs atom cost least (has_atom (merged_at merged user).needs) strips.atoms atom_less has in
            let one : get_or after user 0 + 1 ≡ get_or counts user 0 =
            All-contains (λ n. get_or after n 0 + 1 ≡ get_or counts n 0) users user counted (are.all user less has) in
            let before : get_or counts user 0 ≡ waiting (has_atom (merged_at merged user).needs) costs strips.atoms = c.counted user less in
            omega arith
        go false hasn't =
            others user (λ among. let wrong : false ≡ true = sym hasn't ∙ (need_at user among).1 in cc)
            ∙ c.counted user less ∙ sym (waiting_stays costs atom cost least (has_atom (merged_at merged user).needs) strips.atoms hasn't)

      pub counted_on : AreCounted strips merged after last
      counted_on = record {
        many = after_long ∙ c.many;
        counted = λ user less.
            count_now user less
            ∙ sym (same_waiting (has_atom (merged_at merged user).needs) (set costs atom (Final cost)) last strips.atoms finals);
      }

      -- the needs of an action of whose counter nothing is left cost at most this
      needs_are_final : (user : ℕ) → user < length merged → get_or after user 0 ≡ 0 → (need : ℕ) → need < strips.atoms
          → has_atom (merged_at merged user).needs need ≡ true → IsAtMost (atom_cost strips state strips.atoms need) cost
      needs_are_final user less nothing need n_less has =
          let final = has_final (final_in (set costs atom (Final cost)) need)
          (all_final (has_atom (merged_at merged user).needs) (set costs atom (Final cost)) strips.atoms (sym (count_now user less) ∙ nothing) need n_less has) in
          let lower : final.0 ≤ cost = finals_within costs atom cost least level not_below u.finals need final.0 final.1 in
          at_most_more (atom_cost strips state strips.atoms need) final.0 cost lower
          (u.sound need final.0 (subst (λ o. IsAtMost o final.0) (no_cost_changes costs atom cost least need)
          (final_costs (known_in (set costs atom (Final cost)) need) final.0 (is_at_most_itself (final_in (set costs atom (Final cost)) need) final.0 final.1))))

      before_it : (a n : ℕ) → IsAtMost (cost_in (set costs atom (Final cost)) a) n → IsAtMost (cost_in costs a) n
      before_it a n h = subst (λ o. IsAtMost o n) (no_cost_changes costs atom cost least a) h

      after_it : (a n : ℕ) → IsAtMost (cost_in costs a) n → IsAtMost (cost_in last a) n
      after_it a n h = falls a n (subst (λ o. IsAtMost o n) (sym (no_cost_changes costs atom cost least a)) h)

      final_on : (a n : ℕ) → IsAtMost (final_in costs a) n → IsAtMost (final_in last a) n
      final_on a n h = subst (λ o. IsAtMost o n) (sym (finals a)) (still_final costs atom cost least a n h)

      pub goes_on : IsUnderway strips merged state cost last
      goes_on = record {
        long = long ∙ length-set costs atom (Final cost) ∙ u.long;
        holds = λ a less has. after_it a 0 (u.holds a less has);
        sound = λ a n h. sound a n (only a n h);
        reaches = λ user less n needs a a_less adds. reach user less n needs a a_less adds (has_atom (merged_at merged user).needs atom) refl;
        below = λ a n h lower. below a n lower (only a n h);
        finals = λ a n e. finals_within costs atom cost least level not_below u.finals a n (sym (finals a) ∙ e);
        within = λ a n h. within a n (only a n h);
        room = let room : level + 2 ^ 20 * waiting (λ _. true) costs strips.atoms ≤ 2 ^ 30 = u.room in
            let far : cost ≤ level + 2 ^ 20 = not_far in
            let more : waiting (λ _. true) costs strips.atoms ≡ suc (waiting (λ _. true) (set costs atom (Final cost)) strips.atoms) = rest_waits in
            let still : waiting (λ _. true) last strips.atoms ≡ waiting (λ _. true) (set costs atom (Final cost)) strips.atoms =
            same_waiting (λ _. true) (set costs atom (Final cost)) last strips.atoms finals in
            omega arith;
      }
        where
          sound : (a n : ℕ) → IsAtMost (cost_in (set costs atom (Final cost)) a) n ⊎ ((user : ℕ) × Contains users user × IsAddedBy actions cost after user a n)
              → IsAtMost (atom_cost strips state strips.atoms a) n
          sound a n (inl was) = u.sound a n (before_it a n was)
          sound a n (inr (user, among, (nothing, adds))) =
              added user a cost n (need_at user among).0 adds (λ need n_less has. needs_are_final user (need_at user among).0 nothing need n_less has)

          below : (a n : ℕ) → n < cost → IsAtMost (cost_in (set costs atom (Final cost)) a) n ⊎ ((user : ℕ) × Contains users user × IsAddedBy actions cost after user a n) → IsAtMost (final_in last a) n
          below a n lower (inl was) = final_on a n (cheaper_is_final costs atom cost least a n (before_it a n was) lower)
          below a n lower (inr (user, among, (nothing, (adds, le)))) = absurd (omega (arith, lower, le))

          within : (a n : ℕ) → IsAtMost (cost_in (set costs atom (Final cost)) a) n ⊎ ((user : ℕ) × Contains users user × IsAddedBy actions cost after user a n)
              → IsAtMost (cost_in last a) (cost + 2 ^ 20)
          within a n (inl was) =
              after_it a (cost + 2 ^ 20) (at_most_more (cost_in costs a) (level + 2 ^ 20) (cost + 2 ^ 20) (let le : level ≤ cost = not_below in omega arith) (u.within a n (before_it a n was)))
          within a n (inr (user, among, (nothing, (adds, le)))) =
              let less : user < length merged = (need_at user among).0 in
              let most : (merged_at merged user).cost ≤ 2 ^ 20 = price user less in
              let part = is_in (merged_at merged user).adds strips.atoms a (subst (λ (x : RelaxedAction). Contains x.adds a) (user_is user less) adds) in
              at_most_more (cost_in last a) (cost + (merged_at merged user).cost) (cost + 2 ^ 20) (omega arith)
              (cheap_at last user a cost less
              (All-contains (λ x. get_or after x 0 ≡ 0 → All (λ b. IsAtMost (cost_in last b) (cost + (relaxed_at actions x).cost)) (relaxed_at actions x).adds) users user reaches among nothing) part.0 part.1)

          -- the needs of an action that doesn't need the atom were final before
          others_final : (user n : ℕ) → has_atom (merged_at merged user).needs atom ≡ false
              → ((need : ℕ) → need < strips.atoms → has_atom (merged_at merged user).needs need ≡ true → IsAtMost (final_in last need) n)
              → (need : ℕ) → need < strips.atoms → has_atom (merged_at merged user).needs need ≡ true → IsAtMost (final_in costs need) n
          others_final user n hasn't needs need n_less has = go (cases_eq need atom) where
            go : (need ≡ atom) ⊎ (need ≢ atom) → IsAtMost (final_in costs need) n
            go (inl e) =
                absurd
                (let wrong : false ≡ true = sym hasn't ∙ ap (has_atom (merged_at merged user).needs) (sym e) ∙ has in
                let no : ⊥ = cc in no)
            go (inr apart) = subst (λ o. IsAtMost o n) (finals need ∙ final_there costs atom cost least need apart) (needs need n_less has)

          reach : (user : ℕ) → user < length merged → (n : ℕ)
              → ((need : ℕ) → need < strips.atoms → has_atom (merged_at merged user).needs need ≡ true → IsAtMost (final_in last need) n)
              → (a : ℕ) → a < strips.atoms → has_atom (merged_at merged user).adds a ≡ true
              → (test : Bool) → has_atom (merged_at merged user).needs atom ≡ test
              → IsAtMost (cost_in last a) ((merged_at merged user).cost + n)
          reach user less n needs a a_less adds true has =
              let nothing : get_or after user 0 ≡ 0 =
              count_now user less ∙ sym (same_waiting (has_atom (merged_at merged user).needs) (set costs atom (Final cost)) last strips.atoms finals)
              ∙ none_waiting (has_atom (merged_at merged user).needs) last strips.atoms (λ need n_less need_has. final_is need (needs need n_less need_has)) in
              let here : IsAtMost (final_in last atom) n = needs atom atom_less has in
              let le : cost ≤ n = subst (λ o. IsAtMost o n) (finals atom ∙ ap final_cost (is_here costs atom cost least)) here in
              at_most_more (cost_in last a) (cost + (merged_at merged user).cost) ((merged_at merged user).cost + n) (omega arith)
              (cheap_at last user a cost less
              (All-contains (λ x. get_or after x 0 ≡ 0 → All (λ b. IsAtMost (cost_in last b) (cost + (relaxed_at actions x).cost)) (relaxed_at actions x).adds) users user reaches
              (are.all user less has) nothing) a_less adds)
            where
              final_is : (need : ℕ) → IsAtMost (final_in last need) n → is_final_in last need ≡ true
              final_is need h = some_at (final_in last need) h where
                some_at : (o : Option ℕ) → IsAtMost o n → is_some o ≡ true
                some_at None h = absurd h
                some_at (Some m) h = refl
          reach user less n needs a a_less adds false hasn't =
              after_it a ((merged_at merged user).cost + n) (u.reaches user less n (others_final user n hasn't needs) a a_less adds)
