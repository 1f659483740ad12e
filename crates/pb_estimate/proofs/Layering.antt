-- The queue of the atoms that were reached, with one more.
use Rattle.std.proofs.Common.{◌≡◌, ◌≢◌, ℕ, zero, suc, ◌+◌, ◌<◌, ◌≤◌, Bool, true, false, not, ◌&&◌, ◌||◌, ◌==◌, List, [], ◌∷◌, ◌++◌, length, get_or, set, take, replicate, All, Contains, refl, sym, subst, ap, arith, ◌∙◌, ◌⊎◌, inl, inr}
use Rattle.std.proofs.Math.Bool.{and-false, and-true}
use Rattle.std.proofs.lemmas.Bool.{cases_eq, cases_lt, eq-eqb, ne_eqb}
use Rattle.std.proofs.lemmas.List.{take_more, get_or-set_same, get_or-set_other, length-set}
use Rattle.std.proofs.lemmas.List.Elements.{All-more, All-weaker, Contains-append_left, Contains-append_right, Contains-append_cases}
use Rattle.pb_packed.specs.Sizes.{most_atoms}
use Rattle.pb_task.specs.Strips.{has_atom}
use Rattle.pb_estimate.specs.declared.layers.Layers.{Layers}
use Rattle.pb_estimate.specs.Exploring.{count}
use Rattle.pb_estimate.specs.Layers.{is_among, is_in, is_reached, AreAdded, AreReached, KeepPlaces}
use Rattle.pb_estimate.specs.Relaxed.{RelaxedAction, relaxed_at}
use Rattle.pb_estimate.proofs.Rounds.{count_is_small}
use Rattle.pb_estimate.proofs.Counts.{count_same, count_none, count_drops}
use Rattle.pb_estimate.proofs.Lowered.{one_of}
use Rattle.pb_estimate.proofs.Released.{Ascend, all_still, apart_from_front, in_front, in_next}

-- ---- the first places of a queue

pub among_here : (queue : List ℕ) (k atom : ℕ) → get_or queue k 0 ≡ atom → is_among queue (suc k) atom ≡ true
among_here queue k atom e = ap (λ test. test || is_among queue k atom) (eq-eqb (get_or queue k 0) atom e)

pub among_other : (queue : List ℕ) (k atom : ℕ) → atom ≢ get_or queue k 0 → is_among queue (suc k) atom ≡ is_among queue k atom
among_other queue k atom apart = ap (λ test. test || is_among queue k atom) (ne_eqb (get_or queue k 0) atom (λ e. apart (sym e)))

pub among_next : (queue : List ℕ) (k atom : ℕ) → is_among queue k atom ≡ true → is_among queue (suc k) atom ≡ true
among_next queue k atom is = go (get_or queue k 0 == atom) where
  go : (test : Bool) → (test || is_among queue k atom) ≡ true
  go true = refl
  go false = is

pub among_more : (queue : List ℕ) (k n atom : ℕ) → k ≤ n → is_among queue k atom ≡ true → is_among queue n atom ≡ true
among_more queue k zero atom le is = subst (λ j. is_among queue j atom ≡ true) (let e : k ≡ 0 = omega (arith, le) in e) is
among_more queue k (suc n) atom le is = go (cases_eq k (suc n)) (λ lower. among_more queue k n atom lower is) where
  go : (k ≡ suc n) ⊎ (k ≢ suc n) → (k ≤ n → is_among queue n atom ≡ true) → is_among queue (suc n) atom ≡ true
  go (inl e) rest = subst (λ j. is_among queue j atom ≡ true) e is
  go (inr apart) rest = among_next queue n atom (rest (omega (arith, le, apart)))

pub among_same : (queue queue' : List ℕ) (n atom : ℕ) → ((k : ℕ) → k < n → get_or queue' k 0 ≡ get_or queue k 0) → is_among queue' n atom ≡ is_among queue n atom
among_same queue queue' zero atom same = refl
among_same queue queue' (suc n) atom same =
    ap (λ a. (a == atom) || is_among queue' n atom) (same n (omega arith))
    ∙ ap (λ test. (get_or queue n 0 == atom) || test) (among_same queue queue' n atom (λ k less. same k (omega (arith, less))))

-- ---- one atom more

module _ (goal marks : List Bool) (queue : List ℕ) (reached wanted atom : ℕ) (is : AreReached goal marks queue reached wanted) (less : atom < length goal) (fresh : is_in marks atom ≡ false) where
  here : is_in (set marks atom true) atom ≡ true
  here = get_or-set_same marks atom true false (let long : length marks ≡ length goal = is.flags in omega (arith, less, long))

  there : (other : ℕ) → other ≢ atom → is_in (set marks atom true) other ≡ is_in marks other
  there other apart = get_or-set_other marks atom other true false apart

  one_more : count (is_in (set marks atom true)) (length goal) ≡ suc (count (is_in marks) (length goal))
  one_more = count_drops (is_in (set marks atom true)) (is_in marks) (length goal) atom less here fresh (λ other apart. sym (there other apart))

  pub room : reached < length goal
  room =
      let small : count (is_in (set marks atom true)) (length goal) ≤ length goal = count_is_small (is_in (set marks atom true)) (length goal) in
      let more : count (is_in (set marks atom true)) (length goal) ≡ suc (count (is_in marks) (length goal)) = one_more in
      let many : reached ≡ count (is_in marks) (length goal) = is.many in
      omega arith

  at_end : get_or (set queue reached atom) reached 0 ≡ atom
  at_end = get_or-set_same queue reached atom 0 (let long : length queue ≡ length goal = is.places in let small : reached < length goal = room in omega arith)

  pub keeps : (k : ℕ) → k < reached → get_or (set queue reached atom) k 0 ≡ get_or queue k 0
  keeps k k_less = get_or-set_other queue reached k atom 0 (λ e. absurd (omega (arith, k_less, e)))

  before : (k other : ℕ) → k ≤ reached → is_among (set queue reached atom) k other ≡ is_among queue k other
  before k other le = among_same queue (set queue reached atom) k other (λ j j_less. keeps j (omega (arith, j_less, le)))

  not_before : is_among queue reached atom ≡ false
  not_before = sym (is.marked atom less) ∙ fresh

  module _ (wanted' : ℕ) (now : wanted' ≡ count (λ a. is_in goal a && not (is_in (set marks atom true) a)) (length goal)) where
    pub reached_more : AreReached goal (set marks atom true) (set queue reached atom) (reached + 1) wanted'
    reached_more = subst (λ n. AreReached goal (set marks atom true) (set queue reached atom) n wanted') (let e : suc reached ≡ reached + 1 = omega arith in e) (record {
      few = is.few;
      flags = length-set marks atom true ∙ is.flags;
      places = length-set queue reached atom ∙ is.places;
      marked = λ a a_less. marked a a_less (cases_eq a atom);
      many = ap suc is.many ∙ sym one_more;
      inside = λ k k_less. inside k k_less (cases_eq k reached);
      once = λ k k_less. once k k_less (cases_eq k reached);
      missing = now;
    })
      where
        marked : (a : ℕ) → a < length goal → (a ≡ atom) ⊎ (a ≢ atom) → is_in (set marks atom true) a ≡ is_among (set queue reached atom) (suc reached) a
        marked a a_less (inl e) =
            subst (λ b. is_in (set marks atom true) b ≡ is_among (set queue reached atom) (suc reached) b) (sym e)
            (here ∙ sym (among_here (set queue reached atom) reached atom at_end))
        marked a a_less (inr apart) =
            there a apart ∙ is.marked a a_less ∙ sym (before reached a (omega arith))
            ∙ sym (among_other (set queue reached atom) reached a (λ e. apart (e ∙ at_end)))

        inside : (k : ℕ) → k < suc reached → (k ≡ reached) ⊎ (k ≢ reached) → get_or (set queue reached atom) k 0 < length goal
        inside k k_less (inl e) = subst (λ n. n < length goal) (sym (ap (λ j. get_or (set queue reached atom) j 0) e ∙ at_end)) less
        inside k k_less (inr apart) =
            let lower : k < reached = omega (arith, k_less, apart) in
            subst (λ n. n < length goal) (sym (keeps k lower)) (is.inside k lower)

        once : (k : ℕ) → k < suc reached → (k ≡ reached) ⊎ (k ≢ reached) → is_among (set queue reached atom) k (get_or (set queue reached atom) k 0) ≡ false
        once k k_less (inl e) =
            subst (λ j. is_among (set queue reached atom) j (get_or (set queue reached atom) j 0) ≡ false) (sym e)
            (ap (is_among (set queue reached atom) reached) at_end ∙ before reached atom (omega arith) ∙ not_before)
        once k k_less (inr apart) =
            let lower : k < reached = omega (arith, k_less, apart) in
            ap (is_among (set queue reached atom) k) (keeps k lower) ∙ before k (get_or queue k 0) (omega (arith, lower)) ∙ is.once k lower

  -- an atom of the goal
  pub one_less : is_in goal atom ≡ true → wanted ≡ suc (count (λ a. is_in goal a && not (is_in (set marks atom true) a)) (length goal))
  one_less in_goal =
      is.missing
      ∙ count_drops (λ a. is_in goal a && not (is_in marks a)) (λ a. is_in goal a && not (is_in (set marks atom true) a)) (length goal) atom less
      (ap (λ test. test && not (is_in marks atom)) in_goal ∙ ap not fresh)
      (ap (λ test. is_in goal atom && not test) here ∙ and-false (is_in goal atom))
      (λ other apart. ap (λ test. is_in goal other && not test) (there other apart))

  -- another atom
  pub as_many : is_in goal atom ≡ false → wanted ≡ count (λ a. is_in goal a && not (is_in (set marks atom true) a)) (length goal)
  as_many off =
      is.missing
      ∙ count_same (λ a. is_in goal a && not (is_in marks a)) (λ a. is_in goal a && not (is_in (set marks atom true) a)) (length goal) (λ a a_less. same a (cases_eq a atom))
    where
      same : (a : ℕ) → (a ≡ atom) ⊎ (a ≢ atom) → (is_in goal a && not (is_in marks a)) ≡ (is_in goal a && not (is_in (set marks atom true) a))
      same a (inl e) =
          ap (λ test. test && not (is_in marks a)) (ap (is_in goal) e ∙ off) ∙ sym (ap (λ test. test && not (is_in (set marks atom true) a)) (ap (is_in goal) e ∙ off))
      same a (inr apart) = ap (λ test. is_in goal a && not test) (sym (there a apart))

-- ---- some atoms more

pub added_none : (layers : Layers) → AreAdded [] layers layers
added_none layers atom = (λ h. inl h, go) where
  go : (is_reached layers atom ≡ true) ⊎ Contains [] atom → is_reached layers atom ≡ true
  go (inl h) = h
  go (inr (k, less, e)) = absurd (omega (arith, less))

pub added_more : (atoms : List ℕ) (i : ℕ) (before between after : Layers) → i < length atoms → AreAdded (take i atoms) before between
    → AreAdded (get_or atoms i 0 ∷ []) between after → AreAdded (take (i + 1) atoms) before after
added_more atoms i before between after less first last =
    subst (λ xs. AreAdded xs before after) (sym (take_more atoms i 0 less)) (λ atom. (λ h. to atom ((last atom).0 h), from atom))
  where
    to : (atom : ℕ) → (is_reached between atom ≡ true) ⊎ Contains (get_or atoms i 0 ∷ []) atom → (is_reached before atom ≡ true) ⊎ Contains (take i atoms ++ get_or atoms i 0 ∷ []) atom
    to atom (inl was) = earlier ((first atom).0 was) where
      earlier : (is_reached before atom ≡ true) ⊎ Contains (take i atoms) atom → (is_reached before atom ≡ true) ⊎ Contains (take i atoms ++ get_or atoms i 0 ∷ []) atom
      earlier (inl was) = inl was
      earlier (inr among) = inr (Contains-append_left (take i atoms) (get_or atoms i 0 ∷ []) atom among)
    to atom (inr among) = inr (Contains-append_right (take i atoms) (get_or atoms i 0 ∷ []) atom among)

    from : (atom : ℕ) → (is_reached before atom ≡ true) ⊎ Contains (take i atoms ++ get_or atoms i 0 ∷ []) atom → is_reached after atom ≡ true
    from atom (inl was) = (last atom).1 (inl ((first atom).1 (inl was)))
    from atom (inr among) = go (Contains-append_cases (take i atoms) (get_or atoms i 0 ∷ []) atom among) where
      go : Contains (take i atoms) atom ⊎ Contains (get_or atoms i 0 ∷ []) atom → is_reached after atom ≡ true
      go (inl earlier) = (last atom).1 (inl ((first atom).1 (inr earlier)))
      go (inr now) = (last atom).1 (inr now)

pub kept_more : (before between after : Layers) → KeepPlaces before between → KeepPlaces between after → KeepPlaces before after
kept_more before between after (more, same) (more', same') = (omega (arith, more, more'), λ k less. same' k (omega (arith, less, more)) ∙ same k less)

-- ---- the atoms of a state

module _ (state atom next : ℕ) (before after : Layers) (added : AreAdded (atom ∷ []) before after) where
  pub holds_more : ((a : ℕ) → a < atom → has_atom state a ≡ true → is_reached before a ≡ true)
      → ((a : ℕ) → atom + 1 ≤ a → a < next → has_atom state a ≡ false) → (a : ℕ) → a < next → has_atom state a ≡ true → is_reached after a ≡ true
  holds_more holds none a less has = go (cases_lt a atom) (cases_eq a atom) where
    go : (a < atom) ⊎ (atom ≤ a) → (a ≡ atom) ⊎ (a ≢ atom) → is_reached after a ≡ true
    go (inl earlier) same = (added a).1 (inl (holds a earlier has))
    go (inr from) (inl e) = (added a).1 (inr (0, omega arith, sym e))
    go (inr from) (inr apart) = absurd (let wrong : false ≡ true = sym (none a (omega (arith, from, apart)) less) ∙ has in let no : ⊥ = cc in no)

  pub only_more : has_atom state atom ≡ true → ((a : ℕ) → is_reached before a ≡ true → has_atom state a ≡ true) → (a : ℕ) → is_reached after a ≡ true → has_atom state a ≡ true
  only_more here only a h = go ((added a).0 h) where
    go : (is_reached before a ≡ true) ⊎ Contains (atom ∷ []) a → has_atom state a ≡ true
    go (inl was) = only a was
    go (inr among) = ap (has_atom state) (one_of atom a among) ∙ here

-- ---- an action more is counted down

module _ (users : List ℕ) (i : ℕ) (less : i < length users) (ascend : Ascend users) (counts after : List ℕ)
    (there : (user : ℕ) → user ≢ get_or users i 0 → get_or after user 0 ≡ get_or counts user 0)
    (actions : List RelaxedAction) (first between last : Layers) (still : (a : ℕ) → is_reached between a ≡ true → is_reached last a ≡ true) where
  abbrev pub HasReached : (counts : List ℕ) → (layers : Layers) → (user : ℕ) → Type 0
  HasReached counts layers user = get_or counts user 0 ≡ 0 → All (λ a. is_reached layers a ≡ true) (relaxed_at actions user).adds

  pub reaches_more : All (HasReached counts between) (take i users) → HasReached after last (get_or users i 0) → All (HasReached after last) (take (i + 1) users)
  reaches_more earlier now =
      All-more (HasReached after last) users i 0 less
      (all_still users i less ascend (HasReached counts between) (HasReached after last)
      (λ user apart reach nothing.
      All-weaker (λ a. is_reached between a ≡ true) (λ a. is_reached last a ≡ true) still (relaxed_at actions user).adds (reach (sym (there user apart) ∙ nothing))) earlier)
      now

  pub only_by_more : ((a : ℕ) → is_reached between a ≡ true
      → (is_reached first a ≡ true) ⊎ ((user : ℕ) × Contains (take i users) user × (get_or counts user 0 ≡ 0) × Contains (relaxed_at actions user).adds a))
      → ((a : ℕ) → is_reached last a ≡ true → (is_reached between a ≡ true) ⊎ ((get_or after (get_or users i 0) 0 ≡ 0) × Contains (relaxed_at actions (get_or users i 0)).adds a))
      → (a : ℕ) → is_reached last a ≡ true
      → (is_reached first a ≡ true) ⊎ ((user : ℕ) × Contains (take (i + 1) users) user × (get_or after user 0 ≡ 0) × Contains (relaxed_at actions user).adds a)
  only_by_more earlier now a h = go (now a h) where
    before_it : (is_reached first a ≡ true) ⊎ ((user : ℕ) × Contains (take i users) user × (get_or counts user 0 ≡ 0) × Contains (relaxed_at actions user).adds a)
        → (is_reached first a ≡ true) ⊎ ((user : ℕ) × Contains (take (i + 1) users) user × (get_or after user 0 ≡ 0) × Contains (relaxed_at actions user).adds a)
    before_it (inl was) = inl was
    before_it (inr (user, among, nothing, adds)) = inr (user, in_front users i less user among, there user (apart_from_front users i less ascend user among) ∙ nothing, adds)

    go : (is_reached between a ≡ true) ⊎ ((get_or after (get_or users i 0) 0 ≡ 0) × Contains (relaxed_at actions (get_or users i 0)).adds a)
        → (is_reached first a ≡ true) ⊎ ((user : ℕ) × Contains (take (i + 1) users) user × (get_or after user 0 ≡ 0) × Contains (relaxed_at actions user).adds a)
    go (inl was) = before_it (earlier a was)
    go (inr (nothing, adds)) = inr (get_or users i 0, in_next users i less, nothing, adds)

-- ---- no atom

pub none_reached : (goal marks : List Bool) (queue : List ℕ) (wanted : ℕ) → length goal ≤ most_atoms → length marks ≡ length goal → length queue ≡ length goal → wanted ≡ count (is_in goal) (length goal)
    → ((atom : ℕ) → is_in marks atom ≡ false) → AreReached goal marks queue 0 wanted
none_reached goal marks queue wanted few flags places all none = record {
  few = few;
  flags = flags;
  places = places;
  marked = λ atom less. none atom;
  many = sym (count_none (is_in marks) (length goal) (λ atom less. none atom));
  inside = λ k less. absurd (omega (arith, less));
  once = λ k less. absurd (omega (arith, less));
  missing = all ∙ count_same (is_in goal) (λ a. is_in goal a && not (is_in marks a)) (length goal) (λ a less. sym (and-true (is_in goal a)) ∙ ap (λ test. is_in goal a && not test) (sym (none a)));
}

pub all_unmarked : (marks : List Bool) (n : ℕ) → marks ≡ replicate n false → (atom : ℕ) → is_in marks atom ≡ false
all_unmarked marks n e atom = ap (λ xs. is_in xs atom) e ∙ none_in n atom where
  none_in : (n atom : ℕ) → is_in (replicate n false) atom ≡ false
  none_in zero atom = refl
  none_in (suc n) zero = refl
  none_in (suc n) (suc atom) = none_in n atom
