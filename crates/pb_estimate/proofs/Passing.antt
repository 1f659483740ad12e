-- The layers of atoms if each action costs 1: the atoms before a layer cost less than its number, and an exploration passes the atoms of a layer one by one.
use Rattle.std.proofs.Common.{◌≡◌, ◌≢◌, ℕ, zero, suc, ◌+◌, ◌-◌, ◌<◌, ◌≤◌, Bool, true, false, not, ◌&&◌, List, [], length, map, get_or, All, Contains, None, Some, refl, sym, subst, ap, arith, ◌∙◌, ◌⊎◌, inl, inr}
use Rattle.std.proofs.Math.Bool.{and-false, and-true}
use Rattle.std.proofs.lemmas.Bool.{cases_eq, cases_lt}
use Rattle.std.proofs.lemmas.List.{get_or-map, length-map}
use Rattle.std.proofs.lemmas.List.Elements.{All-contains}
use Rattle.pb_packed.specs.Sizes.{most_atoms}
use Rattle.pb_task.specs.declared.parts.StripsParts.{StripsParts}
use Rattle.pb_task.specs.Strips.{has_atom, IsGroundAction, IsStrips}
use Rattle.pb_estimate.specs.declared.merging.MergedAction.{MergedAction}
use Rattle.pb_estimate.specs.declared.layers.Layers.{Layers}
use Rattle.pb_estimate.specs.declared.relaxed.RelaxedTask.{RelaxedTask}
use Rattle.pb_estimate.specs.Merged.{merged_at, IsMergedInto, StandFor}
use Rattle.pb_estimate.specs.Relaxed.{RelaxedAction, relaxed_at}
use Rattle.pb_estimate.specs.Hmax.{IsAtMost, atom_cost, cheapest_by, goal_cost}
use Rattle.pb_estimate.specs.Exploring.{count}
use Rattle.pb_estimate.specs.Layers.{is_among, is_in, is_reached, AreLayers, AreReached, KeepPlaces}
use Rattle.pb_estimate.specs.Tables.{atoms_in, relaxed_action, AreRelaxed, AreUsers, AreFree}
use Rattle.pb_estimate.proofs.Costs.{at_most_more, same_cost, dearest_at, dearest_from, CostsByOne, cheapest_is}
use Rattle.pb_estimate.proofs.Fixed.{cause, at_first}
use Rattle.pb_estimate.proofs.Rounds.{count_is_small}
use Rattle.pb_estimate.proofs.Counts.{count_same, count_none, none_counted, some_counted, counted_at, count_drops}
use Rattle.pb_estimate.proofs.Sets.{contains_in, many_in}
use Rattle.pb_estimate.proofs.Steps.{user_is, added}
use Rattle.pb_estimate.proofs.Underway.{is_waited_for}
use Rattle.pb_estimate.proofs.Layering.{among_here, among_other, among_more, among_same}

-- the counters are those of the atoms that each action needs and that weren't passed
pub record AreLeft (atoms : ℕ) (merged : List MergedAction) (counts queue : List ℕ) (first : ℕ) : Type 0 where
  pub many : length counts ≡ length merged
  pub left : (user : ℕ) → user < length merged
      → get_or counts user 0 ≡ count (λ a. has_atom (merged_at merged user).needs a && not (is_among queue first a)) atoms

-- The atoms before `end` are those that cost less than `level`. What was reached costs at most the level, and has all that holds and all that actions add whose needs were passed.
pub record IsPassing (strips : StripsParts) (merged : List MergedAction) (state first end level : ℕ) (counts : List ℕ) (marks : List Bool) (queue : List ℕ) (reached : ℕ) : Type 0 where
  pub sound : (a : ℕ) → a < strips.atoms → is_in marks a ≡ true → IsAtMost (atom_cost strips state strips.atoms a) level
  pub holds : (a : ℕ) → a < strips.atoms → has_atom state a ≡ true → is_in marks a ≡ true
  pub early : (a c : ℕ) → a < strips.atoms → c < level → IsAtMost (atom_cost strips state strips.atoms a) c → is_among queue end a ≡ true
  pub late : (a : ℕ) → a < strips.atoms → is_among queue end a ≡ true → (c : ℕ) × (c < level) × IsAtMost (atom_cost strips state strips.atoms a) c
  pub closed : (user : ℕ) → user < length merged
      → ((need : ℕ) → need < strips.atoms → has_atom (merged_at merged user).needs need ≡ true → is_among queue first need ≡ true)
      → (a : ℕ) → a < strips.atoms → has_atom (merged_at merged user).adds a ≡ true → is_in marks a ≡ true
  pub counted : AreLeft strips.atoms merged counts queue first
  pub unmet : (c : ℕ) → c < level → IsAtMost (goal_cost strips state) c → ⊥
  pub order : first ≤ end
  pub inside : end ≤ reached
  pub low : level ≤ end

-- Layers of a relaxed task that are being passed.
pub record ArePassed (strips : StripsParts) (state : ℕ) (task : RelaxedTask) (first end level : ℕ) (counts : List ℕ) (layers : Layers) : Type 0 where
  pub merged : List MergedAction
  pub stand : StandFor strips.atoms strips.actions merged
  pub relaxed : AreRelaxed strips.atoms merged task.users task
  pub passing : IsPassing strips merged state first end level counts layers.marks.items layers.queue.items layers.reached

module _ (strips : StripsParts) (state : ℕ) (is : IsStrips strips) (merged : List MergedAction) (stand : StandFor strips.atoms strips.actions merged)
    (actions : List RelaxedAction) (same : actions ≡ map (relaxed_action strips.atoms) merged) (one : All (λ (action : RelaxedAction). action.cost ≡ 1) actions) where
  -- each merged action costs 1
  price_is_one : (user : ℕ) → user < length merged → (merged_at merged user).cost ≡ 1
  price_is_one user less =
      let e : relaxed_at actions user ≡ relaxed_action strips.atoms (merged_at merged user) = user_is strips state is merged stand actions same user less in
      let many : length actions ≡ length merged = ap length same ∙ length-map merged (relaxed_action strips.atoms) in
      sym (ap (λ (a : RelaxedAction). a.cost) e) ∙ one user (record { adds = []; cost = 1 }) (omega (arith, less, many))

  module _ (goal : List Bool) (flags : (atom : ℕ) → atom < strips.atoms → is_in goal atom ≡ has_atom strips.goal atom) (long : length goal ≡ strips.atoms)
      (first end level : ℕ) (counts : List ℕ) (marks : List Bool) (queue : List ℕ) (reached wanted : ℕ)
      (p : IsPassing strips merged state first end level counts marks queue reached) (r : AreReached goal marks queue reached wanted) where
    marked : (a : ℕ) → a < strips.atoms → is_in marks a ≡ is_among queue reached a
    marked a less = r.marked a (omega (arith, less, long))

    -- what costs this much was reached, if all that costs less was passed
    reached_at : (a c : ℕ) → a < strips.atoms → IsAtMost (atom_cost strips state strips.atoms a) c
        → ((need n : ℕ) → need < strips.atoms → n < c → IsAtMost (atom_cost strips state strips.atoms need) n → is_among queue first need ≡ true)
        → is_in marks a ≡ true
    reached_at a c less h passed = go (cause strips state strips.atoms a c h) where
      go : (has_atom state a ≡ true) ⊎ IsAtMost (cheapest_by strips.atoms (atom_cost strips state strips.atoms) a strips.actions) c → is_in marks a ≡ true
      go (inl has) = p.holds a less has
      go (inr by) = by_one (stand.all it.action it.among a less it.by.adds) where
        it : CostsByOne strips.atoms (atom_cost strips state strips.atoms) a strips.actions c
        it = cheapest_is strips.atoms (atom_cost strips state strips.atoms) a strips.actions c by

        cheaper : it.by.needed < c
        cheaper =
            let positive : 1 ≤ it.action.cost = (All-contains (IsGroundAction strips.atoms) strips.actions it.action is.actions it.among).cost.0 in
            let sum : it.action.cost + it.by.needed ≤ c = it.by.sum in
            omega arith

        needs : (need : ℕ) → need < strips.atoms → has_atom it.action.needs need ≡ true → is_among queue first need ≡ true
        needs need n_less has = passed need it.by.needed n_less cheaper (it.by.needs need n_less has)

        by_one : (has_atom it.action.needs a ≡ true) ⊎ IsMergedInto merged it.action a → is_in marks a ≡ true
        by_one (inl has) =
            marked a less ∙ among_more queue first reached a (let before : first ≤ end = p.order in let within : end ≤ reached = p.inside in omega arith) (needs a less has)
        by_one (inr into) =
            p.closed into.place into.inside (λ need n_less has. needs need n_less (subst (λ (set : ℕ). has_atom set need ≡ true) into.needs has)) a less into.adds

    -- ---- a new layer

    pub next_layer : first ≡ end → (reached ≡ first → ⊥) → (wanted ≡ 0 → ⊥) → IsPassing strips merged state first reached (level + 1) counts marks queue reached
    next_layer over more some = record {
      sound = λ a less is_so. at_most_more (atom_cost strips state strips.atoms a) level (level + 1) (omega arith) (p.sound a less is_so);
      holds = p.holds;
      early = λ a c less lower h. sym (marked a less) ∙ all_reached a c less lower h;
      late = λ a less among. (level, omega arith, p.sound a less (marked a less ∙ among));
      closed = p.closed;
      counted = p.counted;
      unmet = λ c lower h. unmet c lower h;
      order = let before : first ≤ end = p.order in let within : end ≤ reached = p.inside in omega arith;
      inside = omega arith;
      low = let low : level ≤ end = p.low in let within : end ≤ reached = p.inside in let apart : reached ≢ first = more in omega (arith, over, low, within, apart);
    }
      where
        all_reached : (a c : ℕ) → a < strips.atoms → c < level + 1 → IsAtMost (atom_cost strips state strips.atoms a) c → is_in marks a ≡ true
        all_reached a c less lower h =
            reached_at a c less h (λ need n n_less below cheap. subst (λ k. is_among queue k need ≡ true) (sym over) (p.early need n n_less (omega (arith, lower, below)) cheap))

        unmet : (c : ℕ) → c < level + 1 → IsAtMost (goal_cost strips state) c → ⊥
        unmet c lower h =
            let positive : 1 ≤ count (λ a. is_in goal a && not (is_in marks a)) (length goal) = at_least_one (wanted) some r.missing in
            let found = some_counted (λ a. is_in goal a && not (is_in marks a)) (length goal) positive in
            let parts = is_waited_for (is_in goal found.0) (is_in marks found.0) found.2 in
            let found_less : found.0 < length goal = found.1 in
            let inside : found.0 < strips.atoms = omega (arith, found_less, long) in
            let cheap : IsAtMost (atom_cost strips state strips.atoms found.0) c =
            dearest_at (atom_cost strips state strips.atoms) strips.goal strips.atoms c h found.0 inside (sym (flags found.0 inside) ∙ parts.0) in
            let wrong : false ≡ true = sym parts.1 ∙ all_reached found.0 c inside lower cheap in
            cc
          where
            at_least_one : (n : ℕ) → (n ≡ 0 → ⊥) → n ≡ count (λ a. is_in goal a && not (is_in marks a)) (length goal) → 1 ≤ count (λ a. is_in goal a && not (is_in marks a)) (length goal)
            at_least_one zero off e = absurd (off refl)
            at_least_one (suc n) off e = omega (arith, e)

    -- ---- the end

    -- what costs anything was reached, if all that was reached was passed
    all_there : reached ≡ first → (bound a c : ℕ) → c < bound → a < strips.atoms → IsAtMost (atom_cost strips state strips.atoms a) c → is_in marks a ≡ true
    all_there over zero a c below less h = absurd (omega (arith, below))
    all_there over (suc bound) a c below less h =
        reached_at a c less h (λ need n n_less lower cheap.
        subst (λ k. is_among queue k need ≡ true) over (sym (marked need n_less) ∙ all_there over bound need n (omega (arith, below, lower)) n_less cheap))

    pub dead : reached ≡ first → (wanted ≡ 0 → ⊥) → None ≡ goal_cost strips state
    dead over some = same_cost None (goal_cost strips state) (λ c h. absurd h) (λ c h. never c h) where
      never : (c : ℕ) → IsAtMost (goal_cost strips state) c → ⊥
      never c h = some (r.missing ∙ count_none (λ a. is_in goal a && not (is_in marks a)) (length goal) (λ a less. off a less (is_in goal a) refl)) where
        off : (a : ℕ) → a < length goal → (test : Bool) → is_in goal a ≡ test → (is_in goal a && not (is_in marks a)) ≡ false
        off a less true e =
            let inside : a < strips.atoms = omega (arith, less, long) in
            ap (λ test. is_in goal a && not test)
            (all_there over (suc c) a c (omega arith) inside
            (dearest_at (atom_cost strips state strips.atoms) strips.goal strips.atoms c h a inside (sym (flags a inside) ∙ e)))
            ∙ ap (λ test. test && false) e
        off a less false e = ap (λ test. test && not (is_in marks a)) e

    pub met : wanted ≡ 0 → Some level ≡ goal_cost strips state
    met none = same_cost (Some level) (goal_cost strips state) to from where
      in_marks : (a : ℕ) → a < length goal → is_in goal a ≡ true → is_in marks a ≡ true
      in_marks a less in_goal =
          go (is_in marks a) refl (none_counted (λ b. is_in goal b && not (is_in marks b)) (length goal) a (sym r.missing ∙ none) less)
        where
          go : (mark : Bool) → is_in marks a ≡ mark → (is_in goal a && not (is_in marks a)) ≡ false → is_in marks a ≡ true
          go true is_so h = is_so
          go false isn't h = let wrong : true ≡ false = sym (ap (λ test. is_in goal a && not test) isn't ∙ ap (λ test. test && true) in_goal) ∙ h in cc

      to : (c : ℕ) → IsAtMost (Some level) c → IsAtMost (goal_cost strips state) c
      to c h = dearest_from (atom_cost strips state strips.atoms) strips.goal strips.atoms c (λ a less has.
          at_most_more (atom_cost strips state strips.atoms a) level c h
          (p.sound a less (in_marks a (omega (arith, less, long)) (flags a less ∙ has))))

      from : (c : ℕ) → IsAtMost (goal_cost strips state) c → level ≤ c
      from c h = go (cases_lt c level) where
        go : (c < level) ⊎ (level ≤ c) → level ≤ c
        go (inl lower) = absurd (p.unmet c lower h)
        go (inr le) = le

    -- ---- one atom more is passed

    module _ (before : first < end) (users : List ℕ) (are : AreUsers merged (get_or queue first 0) users) where
      atom_less : get_or queue first 0 < strips.atoms
      atom_less =
          let within : end ≤ reached = p.inside in
          let less : get_or queue first 0 < length goal = r.inside first (omega (arith, before, within)) in
          omega (arith, less, long)

      fresh : is_among queue first (get_or queue first 0) ≡ false
      fresh = r.once first (let within : end ≤ reached = p.inside in omega (arith, before, within))

      need_at : (user : ℕ) → Contains users user → (user < length merged) × (has_atom (merged_at merged user).needs (get_or queue first 0) ≡ true)
      need_at user among = All-contains (λ n. (n < length merged) × (has_atom (merged_at merged n).needs (get_or queue first 0) ≡ true)) users user are.need among

      -- how many of an action's needs weren't passed
      abbrev left_by : (n user : ℕ) → ℕ
      left_by n user = count (λ a. has_atom (merged_at merged user).needs a && not (is_among queue n a)) strips.atoms

      pub users_wait : All (λ user. (user < length actions) × (1 ≤ get_or counts user 0)) users
      users_wait k d less =
          let need = are.need k d less in
          let user_less : get_or users k d < length merged = need.0 in
          let some : 1 ≤ count (λ a. has_atom (merged_at merged (get_or users k d)).needs a && not (is_among queue first a)) strips.atoms =
          counted_at (λ a. has_atom (merged_at merged (get_or users k d)).needs a && not (is_among queue first a)) strips.atoms (get_or queue first 0) atom_less
          (ap (λ test. test && not (is_among queue first (get_or queue first 0))) need.1 ∙ ap not fresh) in
          let is_left : get_or counts (get_or users k d) 0 ≡ count (λ a. has_atom (merged_at merged (get_or users k d)).needs a && not (is_among queue first a)) strips.atoms =
          p.counted.left (get_or users k d) user_less in
          let many : length actions ≡ length merged = ap length same ∙ length-map merged (relaxed_action strips.atoms) in
          (omega arith, omega arith)

      drops : (user : ℕ) → has_atom (merged_at merged user).needs (get_or queue first 0) ≡ true → left_by first user ≡ suc (left_by (suc first) user)
      drops user has =
          count_drops (λ a. has_atom (merged_at merged user).needs a && not (is_among queue first a)) (λ a. has_atom (merged_at merged user).needs a && not (is_among queue (suc first) a)) strips.atoms
          (get_or queue first 0) atom_less
          (ap (λ test. test && not (is_among queue first (get_or queue first 0))) has ∙ ap not fresh)
          (ap (λ test. has_atom (merged_at merged user).needs (get_or queue first 0) && not test) (among_here queue first (get_or queue first 0) refl)
          ∙ and-false (has_atom (merged_at merged user).needs (get_or queue first 0)))
          (λ a apart. ap (λ test. has_atom (merged_at merged user).needs a && not test) (among_other queue first a apart))

      stays : (user : ℕ) → has_atom (merged_at merged user).needs (get_or queue first 0) ≡ false → left_by first user ≡ left_by (suc first) user
      stays user hasn't =
          count_same (λ a. has_atom (merged_at merged user).needs a && not (is_among queue first a)) (λ a. has_atom (merged_at merged user).needs a && not (is_among queue (suc first) a)) strips.atoms
          (λ a less. go a (cases_eq a (get_or queue first 0)))
        where
          go : (a : ℕ) → (a ≡ get_or queue first 0) ⊎ (a ≢ get_or queue first 0)
              → (has_atom (merged_at merged user).needs a && not (is_among queue first a)) ≡ (has_atom (merged_at merged user).needs a && not (is_among queue (suc first) a))
          go a (inl e) =
              let off : has_atom (merged_at merged user).needs a ≡ false = ap (has_atom (merged_at merged user).needs) e ∙ hasn't in
              ap (λ test. test && not (is_among queue first a)) off ∙ sym (ap (λ test. test && not (is_among queue (suc first) a)) off)
          go a (inr apart) = ap (λ test. has_atom (merged_at merged user).needs a && not test) (sym (among_other queue first a apart))

      module _ (after : List ℕ) (marks' : List Bool) (queue' : List ℕ) (reached' : ℕ) (after_long : length after ≡ length counts)
          (counted : All (λ user. get_or after user 0 + 1 ≡ get_or counts user 0) users)
          (others : (user : ℕ) → (Contains users user → ⊥) → get_or after user 0 ≡ get_or counts user 0)
          (more : reached ≤ reached') (places : (k : ℕ) → k < reached → get_or queue' k 0 ≡ get_or queue k 0)
          (still : (a : ℕ) → is_in marks a ≡ true → is_in marks' a ≡ true)
          (reaches : All (λ user. get_or after user 0 ≡ 0 → All (λ a. is_in marks' a ≡ true) (relaxed_at actions user).adds) users)
          (only : (a : ℕ) → is_in marks' a ≡ true
          → (is_in marks a ≡ true) ⊎ ((user : ℕ) × Contains users user × (get_or after user 0 ≡ 0) × Contains (relaxed_at actions user).adds a)) where
        same_among : (n a : ℕ) → n ≤ reached → is_among queue' n a ≡ is_among queue n a
        same_among n a le = among_same queue queue' n a (λ k k_less. places k (omega (arith, k_less, le)))

        next_inside : suc first ≤ reached
        next_inside = let within : end ≤ reached = p.inside in omega (arith, before, within)

        left_now : (user : ℕ) → user < length merged → get_or after user 0 ≡ left_by (suc first) user
        left_now user less = go (has_atom (merged_at merged user).needs (get_or queue first 0)) refl where
          was : get_or counts user 0 ≡ left_by first user
          was = p.counted.left user less

          go : (test : Bool) → has_atom (merged_at merged user).needs (get_or queue first 0) ≡ test → get_or after user 0 ≡ left_by (suc first) user
          go true has =
              let drop : left_by first user ≡ suc (left_by (suc first) user) = drops user has in
              let fewer : get_or after user 0 + 1 ≡ get_or counts user 0 = All-contains (λ n. get_or after n 0 + 1 ≡ get_or counts n 0) users user counted (are.all user less has) in
              let e : get_or counts user 0 ≡ left_by first user = was in
              omega (arith, drop, fewer, e)
          go false hasn't = others user (λ among. let wrong : false ≡ true = sym hasn't ∙ (need_at user among).1 in cc) ∙ was ∙ stays user hasn't

        -- all needs of an action of whose counter nothing is left were passed
        all_passed : (user : ℕ) → user < length merged → get_or after user 0 ≡ 0 → (need : ℕ) → need < strips.atoms
            → has_atom (merged_at merged user).needs need ≡ true → is_among queue (suc first) need ≡ true
        all_passed user less nothing need n_less has =
            go (is_among queue (suc first) need)
            (none_counted (λ a. has_atom (merged_at merged user).needs a && not (is_among queue (suc first) a)) strips.atoms need (sym (left_now user less) ∙ nothing) n_less)
          where
            go : (test : Bool) → (has_atom (merged_at merged user).needs need && not test) ≡ false → test ≡ true
            go true h = refl
            go false h = let wrong : true ≡ false = sym (ap (λ t. t && true) has) ∙ h in cc

        adds_at : (user a : ℕ) → user < length merged → a < strips.atoms → has_atom (merged_at merged user).adds a ≡ true → Contains (relaxed_at actions user).adds a
        adds_at user a less a_less adds =
            subst (λ (x : RelaxedAction). Contains x.adds a) (sym (user_is strips state is merged stand actions same user less)) (contains_in (merged_at merged user).adds strips.atoms a a_less adds)

        pub goes_on : IsPassing strips merged state (first + 1) end level after marks' queue' reached'
        goes_on = subst (λ n. IsPassing strips merged state n end level after marks' queue' reached') (let e : suc first ≡ first + 1 = omega arith in e) (record {
          sound = λ a less is_so. sound a less (only a is_so);
          holds = λ a less has. still a (p.holds a less has);
          early = λ a c less lower h. same_among end a p.inside ∙ p.early a c less lower h;
          late = λ a less among. p.late a less (sym (same_among end a p.inside) ∙ among);
          closed = λ user less needs a a_less adds.
              closed user less (λ need n_less has. sym (same_among (suc first) need next_inside) ∙ needs need n_less has) a a_less adds
              (has_atom (merged_at merged user).needs (get_or queue first 0)) refl;
          counted = record { many = after_long ∙ p.counted.many; left = λ user less. left user less };
          unmet = p.unmet;
          order = omega (arith, before);
          inside = let within : end ≤ reached = p.inside in omega (arith, within, more);
          low = p.low;
        })
          where
            left : (user : ℕ) → user < length merged → get_or after user 0 ≡ count (λ a. has_atom (merged_at merged user).needs a && not (is_among queue' (suc first) a)) strips.atoms
            left user less =
                left_now user less
                ∙ count_same (λ a. has_atom (merged_at merged user).needs a && not (is_among queue (suc first) a)) (λ a. has_atom (merged_at merged user).needs a && not (is_among queue' (suc first) a)) strips.atoms
                (λ a a_less. ap (λ test. has_atom (merged_at merged user).needs a && not test) (sym (same_among (suc first) a next_inside)))

            sound : (a : ℕ) → a < strips.atoms → (is_in marks a ≡ true) ⊎ ((user : ℕ) × Contains users user × (get_or after user 0 ≡ 0) × Contains (relaxed_at actions user).adds a)
                → IsAtMost (atom_cost strips state strips.atoms a) level
            sound a less (inl was) = p.sound a less was
            sound a less (inr (user, among, nothing, adds)) =
                let here = p.late (get_or queue first 0) atom_less (among_more queue (suc first) end (get_or queue first 0) before (among_here queue first (get_or queue first 0) refl)) in
                let low : here.0 < level = here.1 in
                let u_less : user < length merged = (need_at user among).0 in
                let price : (relaxed_at actions user).cost ≡ 1 = ap (λ (x : RelaxedAction). x.cost) (user_is strips state is merged stand actions same user u_less) ∙ price_is_one user u_less in
                added strips state is merged stand actions same user a (level - 1) level u_less (adds, omega (arith, price, low)) (λ need n_less has.
                let cheap = p.late need n_less (among_more queue (suc first) end need before (all_passed user u_less nothing need n_less has)) in
                let lower : cheap.0 < level = cheap.1 in
                at_most_more (atom_cost strips state strips.atoms need) cheap.0 (level - 1) (omega (arith, lower)) cheap.2)

            closed : (user : ℕ) → user < length merged
                → ((need : ℕ) → need < strips.atoms → has_atom (merged_at merged user).needs need ≡ true → is_among queue (suc first) need ≡ true)
                → (a : ℕ) → a < strips.atoms → has_atom (merged_at merged user).adds a ≡ true
                → (test : Bool) → has_atom (merged_at merged user).needs (get_or queue first 0) ≡ test → is_in marks' a ≡ true
            closed user less needs a a_less adds true has =
                All-contains (λ b. is_in marks' b ≡ true) (relaxed_at actions user).adds a
                (All-contains (λ x. get_or after x 0 ≡ 0 → All (λ b. is_in marks' b ≡ true) (relaxed_at actions x).adds) users user reaches (are.all user less has)
                (left_now user less ∙ count_none (λ b. has_atom (merged_at merged user).needs b && not (is_among queue (suc first) b)) strips.atoms
                (λ b b_less. none b b_less (has_atom (merged_at merged user).needs b) refl)))
                (adds_at user a less a_less adds)
              where
                none : (b : ℕ) → b < strips.atoms → (test : Bool) → has_atom (merged_at merged user).needs b ≡ test
                    → (has_atom (merged_at merged user).needs b && not (is_among queue (suc first) b)) ≡ false
                none b b_less true e = ap (λ test. has_atom (merged_at merged user).needs b && not test) (needs b b_less e) ∙ ap (λ test. test && false) e
                none b b_less false e = ap (λ test. test && not (is_among queue (suc first) b)) e
            closed user less needs a a_less adds false hasn't =
                still a (p.closed user less (λ need n_less has.
                sym (among_other queue first need (λ e.
                let wrong : false ≡ true = sym hasn't ∙ ap (has_atom (merged_at merged user).needs) (sym e) ∙ has in
                let no : ⊥ = cc in no)) ∙ needs need n_less has) a a_less adds)

  -- ---- the beginning

  pub begun : AreFree strips.atoms merged [] → (counts : List ℕ) → counts ≡ map (λ (action : MergedAction). length (atoms_in action.needs strips.atoms)) merged
      → (marks : List Bool) (queue : List ℕ) (reached : ℕ) → ((a : ℕ) → a < strips.atoms → has_atom state a ≡ true → is_in marks a ≡ true)
      → ((a : ℕ) → is_in marks a ≡ true → has_atom state a ≡ true) → IsPassing strips merged state 0 0 0 counts marks queue reached
  begun free counts e marks queue reached holds only = record {
    sound = λ a less is_so. at_first strips state strips.atoms a 0 (only a is_so);
    holds = holds;
    early = λ a c less lower h. absurd (omega (arith, lower));
    late = λ a less among. let wrong : false ≡ true = among in absurd (let no : ⊥ = cc in no);
    closed = λ user less needs a a_less adds. absurd (none user less needs);
    counted = record {
      many = ap length e ∙ length-map merged (λ (action : MergedAction). length (atoms_in action.needs strips.atoms));
      left = λ user less.
          ap (λ xs. get_or xs user 0) e
          ∙ get_or-map (λ (action : MergedAction). length (atoms_in action.needs strips.atoms)) merged user (record { needs = 0; adds = 0; cost = 1 }) 0 less
          ∙ many_in (merged_at merged user).needs strips.atoms
          ∙ count_same (has_atom (merged_at merged user).needs) (λ a. has_atom (merged_at merged user).needs a && not (is_among queue 0 a)) strips.atoms
          (λ a a_less. sym (and-true (has_atom (merged_at merged user).needs a)));
    };
    unmet = λ c lower h. absurd (omega (arith, lower));
    order = omega arith;
    inside = omega arith;
    low = omega arith;
  }
    where
      none : (user : ℕ) → user < length merged → ((need : ℕ) → need < strips.atoms → has_atom (merged_at merged user).needs need ≡ true → is_among queue 0 need ≡ true) → ⊥
      none user less needs = nowhere (free.all user less (λ need n_less. off need n_less (has_atom (merged_at merged user).needs need) refl)) where
        off : (need : ℕ) → need < strips.atoms → (test : Bool) → has_atom (merged_at merged user).needs need ≡ test → has_atom (merged_at merged user).needs need ≡ false
        off need n_less true e = let wrong : false ≡ true = needs need n_less e in absurd (let no : ⊥ = cc in no)
        off need n_less false e = e

        nowhere : Contains [] user → ⊥
        nowhere (k, k_less, found) = absurd (omega (arith, k_less))

-- ---- what a pass needs, and what it leaves

module _ (strips : StripsParts) (state : ℕ) (is : IsStrips strips) (task : RelaxedTask) (one : All (λ (action : RelaxedAction). action.cost ≡ 1) task.actions)
    (goal : List Bool) (flags : (atom : ℕ) → atom < strips.atoms → is_in goal atom ≡ has_atom strips.goal atom) (long : length goal ≡ strips.atoms)
    (first end level : ℕ) (counts : List ℕ) (layers : Layers) (passed : ArePassed strips state task first end level counts layers) (r : AreLayers goal layers) where
  within : (first ≡ layers.reached → ⊥) → first < layers.reached
  within other = let before : first ≤ end = passed.passing.order in let inside : end ≤ layers.reached = passed.passing.inside in omega (arith, other, before, inside)

  few_reached : layers.reached ≤ length goal
  few_reached = subst (λ n. n ≤ length goal) (sym r.many) (count_is_small (is_in layers.marks.items) (length goal))

  pub place_inside : (first ≡ layers.reached → ⊥) → first < length layers.queue.items
  place_inside other = let less : first < layers.reached = within other in let few : layers.reached ≤ length goal = few_reached in omega (arith, less, few, r.places)

  pub is_atom : (first ≡ layers.reached → ⊥) → get_or layers.queue.items first 0 < strips.atoms
  is_atom other = let less : get_or layers.queue.items first 0 < length goal = r.inside first (within other) in omega (arith, less, long)

  pub level_is_small : level ≤ most_atoms
  level_is_small =
      let low : level ≤ end = passed.passing.low in
      let inside : end ≤ layers.reached = passed.passing.inside in
      let few : layers.reached ≤ length goal = few_reached in
      let most : length goal ≤ most_atoms = r.few in
      omega (arith, low, inside, few, most)

  pub is_dead : first ≡ layers.reached → (layers.wanted ≡ 0 → ⊥) → None ≡ goal_cost strips state
  is_dead over some =
      dead strips state is passed.merged passed.stand task.actions passed.relaxed.relaxed one goal flags long first end level counts layers.marks.items layers.queue.items layers.reached layers.wanted passed.passing r
      (sym over) some

  pub is_met : layers.wanted ≡ 0 → Some level ≡ goal_cost strips state
  is_met none =
      met strips state is passed.merged passed.stand task.actions passed.relaxed.relaxed one goal flags long first end level counts layers.marks.items layers.queue.items layers.reached layers.wanted passed.passing r
      none

  -- a new layer begins, if the last one was passed
  pub renewed : (end' level' : ℕ) → ((first ≡ end) × (end' ≡ layers.reached) × (level' ≡ level + 1)) ⊎ ((first ≡ end → ⊥) × (end' ≡ end) × (level' ≡ level))
      → (first ≡ layers.reached → ⊥) → (layers.wanted ≡ 0 → ⊥) → ArePassed strips state task first end' level' counts layers × (first < end')
  renewed end' level' (inl (over, e, f)) other some = (
    subst (λ n. ArePassed strips state task first n level' counts layers) (sym e)
        (subst (λ n. ArePassed strips state task first layers.reached n counts layers) (sym f) (record {
          merged = passed.merged;
          stand = passed.stand;
          relaxed = passed.relaxed;
          passing = next_layer strips state is passed.merged passed.stand task.actions passed.relaxed.relaxed one goal flags long first end level counts layers.marks.items layers.queue.items layers.reached
              layers.wanted passed.passing r over (λ same. other (sym same)) some;
        })),
    subst (λ n. first < n) (sym e) (within other),
  )
  renewed end' level' (inr (apart, e, f)) other some = (
    subst (λ n. ArePassed strips state task first n level' counts layers) (sym e) (subst (λ n. ArePassed strips state task first end n counts layers) (sym f) passed),
    subst (λ n. first < n) (sym e) (let before : first ≤ end = passed.passing.order in omega (arith, before, apart)),
  )

  module _ (before : first < end) (users : List ℕ) (are : AreUsers passed.merged (get_or layers.queue.items first 0) users) where
    pub all_wait : All (λ user. (user < length task.actions) × (1 ≤ get_or counts user 0)) users
    all_wait =
        users_wait strips state is passed.merged passed.stand task.actions passed.relaxed.relaxed one goal flags long first end level counts layers.marks.items layers.queue.items layers.reached layers.wanted
        passed.passing r before users are

    pub passed_on : (after : List ℕ) (layers' : Layers) → length after ≡ length counts
        → All (λ user. get_or after user 0 + 1 ≡ get_or counts user 0) users
        → ((user : ℕ) → (Contains users user → ⊥) → get_or after user 0 ≡ get_or counts user 0)
        → KeepPlaces layers layers'
        → ((a : ℕ) → is_reached layers a ≡ true → is_reached layers' a ≡ true)
        → All (λ user. get_or after user 0 ≡ 0 → All (λ a. is_reached layers' a ≡ true) (relaxed_at task.actions user).adds) users
        → ((a : ℕ) → is_reached layers' a ≡ true
        → (is_reached layers a ≡ true) ⊎ ((user : ℕ) × Contains users user × (get_or after user 0 ≡ 0) × Contains (relaxed_at task.actions user).adds a))
        → ArePassed strips state task (first + 1) end level after layers'
    passed_on after layers' after_long counted others kept still reaches only = record {
      merged = passed.merged;
      stand = passed.stand;
      relaxed = passed.relaxed;
      passing = goes_on strips state is passed.merged passed.stand task.actions passed.relaxed.relaxed one goal flags long first end level counts layers.marks.items layers.queue.items layers.reached layers.wanted
          passed.passing r before users are after layers'.marks.items layers'.queue.items layers'.reached after_long counted others kept.0 kept.1 still reaches only;
    }
