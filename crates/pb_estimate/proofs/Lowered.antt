-- Costs of atoms of which one is set: what they cost then, and the queue of those that were reached.
use Rattle.std.proofs.Common.{◌≡◌, ◌≢◌, ℕ, zero, suc, ◌+◌, ◌<◌, ◌≤◌, true, false, List, [], ◌∷◌, ◌++◌, length, get_or, set, take, replicate, Contains, Option, None, Some, is_some, refl, sym, subst, ap, arith, ◌∙◌, ◌⊎◌, inl, inr}
use Rattle.std.proofs.lemmas.Bool.{cases_eq, cases_lt}
use Rattle.std.proofs.lemmas.List.{take_more, get_or-set_same, get_or-set_other, length-set}
use Rattle.std.proofs.lemmas.List.Elements.{Contains-append_left, Contains-append_right, Contains-append_cases}
use Rattle.pb_task.specs.Strips.{has_atom}
use Rattle.pb_estimate.specs.declared.exploration.AtomCost.{AtomCost}
use Rattle.pb_estimate.specs.declared.exploration.AtomCost.TheVariants.{Unreached, Open}
use Rattle.pb_estimate.specs.Hmax.{IsAtMost}
use Rattle.pb_estimate.specs.Exploring.{count, known_cost, final_cost, known_in, cost_in, final_in, is_final_in, AreLowered, HaveSameFinals, FinalsAreWithin}
use Rattle.pb_estimate.proofs.Rounds.{count_is_small}
use Rattle.pb_estimate.proofs.Counts.{count_same, count_none, count_drops}

pub known_here : (costs : List AtomCost) (atom : ℕ) (known : AtomCost) → atom < length costs → known_in (set costs atom known) atom ≡ known
known_here costs atom known less = get_or-set_same costs atom known Unreached less

pub known_there : (costs : List AtomCost) (atom other : ℕ) (known : AtomCost) → other ≢ atom → known_in (set costs atom known) other ≡ known_in costs other
known_there costs atom other known apart = get_or-set_other costs atom other known Unreached apart

pub one_of : (atom other : ℕ) → Contains (atom ∷ []) other → other ≡ atom
one_of atom other (zero, less, e) = sym e
one_of atom other (suc k, less, e) = absurd (omega (arith, less))

-- ---- one atom

module _ (costs : List AtomCost) (atom cost : ℕ) (less : atom < length costs) where
  -- what is set costs less than before
  pub lowered_one : ((c : ℕ) → IsAtMost (cost_in costs atom) c → cost ≤ c) → AreLowered (atom ∷ []) cost costs (set costs atom (Open cost))
  lowered_one cheaper other c = (to (cases_eq other atom), from (cases_eq other atom)) where
    to : (other ≡ atom) ⊎ (other ≢ atom) → IsAtMost (cost_in (set costs atom (Open cost)) other) c → IsAtMost (cost_in costs other) c ⊎ (Contains (atom ∷ []) other × (cost ≤ c))
    to (inl e) h =
        inr (
          (0, omega arith, sym e),
          subst (λ known. IsAtMost (known_cost known) c) (known_here costs atom (Open cost) less) (subst (λ a. IsAtMost (cost_in (set costs atom (Open cost)) a) c) e h),
        )
    to (inr apart) h = inl (subst (λ known. IsAtMost (known_cost known) c) (known_there costs atom other (Open cost) apart) h)

    here : cost ≤ c → other ≡ atom → IsAtMost (cost_in (set costs atom (Open cost)) other) c
    here le e =
        subst (λ a. IsAtMost (cost_in (set costs atom (Open cost)) a) c) (sym e)
        (subst (λ known. IsAtMost (known_cost known) c) (sym (known_here costs atom (Open cost) less)) le)

    from : (other ≡ atom) ⊎ (other ≢ atom) → IsAtMost (cost_in costs other) c ⊎ (Contains (atom ∷ []) other × (cost ≤ c)) → IsAtMost (cost_in (set costs atom (Open cost)) other) c
    from (inl e) (inl was) = here (cheaper c (subst (λ a. IsAtMost (cost_in costs a) c) e was)) e
    from (inr apart) (inl was) = subst (λ known. IsAtMost (known_cost known) c) (sym (known_there costs atom other (Open cost) apart)) was
    from same (inr (among, le)) = here le (one_of atom other among)

  -- what costs no more stays
  pub lowered_none : IsAtMost (cost_in costs atom) cost → AreLowered (atom ∷ []) cost costs costs
  lowered_none cheap other c = (λ h. inl h, from) where
    more : (known : Option ℕ) → IsAtMost known cost → cost ≤ c → IsAtMost known c
    more None h le = absurd h
    more (Some n) h le = omega arith

    from : IsAtMost (cost_in costs other) c ⊎ (Contains (atom ∷ []) other × (cost ≤ c)) → IsAtMost (cost_in costs other) c
    from (inl was) = was
    from (inr (among, le)) = subst (λ a. IsAtMost (cost_in costs a) c) (sym (one_of atom other among)) (more (cost_in costs atom) cheap le)

  pub same_finals : final_in costs atom ≡ None → HaveSameFinals costs (set costs atom (Open cost))
  same_finals none other = go (cases_eq other atom) where
    go : (other ≡ atom) ⊎ (other ≢ atom) → final_in (set costs atom (Open cost)) other ≡ final_in costs other
    go (inl e) =
        ap (λ a. final_in (set costs atom (Open cost)) a) e ∙ ap final_cost (known_here costs atom (Open cost) less) ∙ sym none ∙ ap (λ a. final_in costs a) (sym e)
    go (inr apart) = ap final_cost (known_there costs atom other (Open cost) apart)

-- ---- some atoms

pub lowered_no_atom : (cost : ℕ) (costs : List AtomCost) → AreLowered [] cost costs costs
lowered_no_atom cost costs atom c = (λ h. inl h, go) where
  go : IsAtMost (cost_in costs atom) c ⊎ (Contains [] atom × (cost ≤ c)) → IsAtMost (cost_in costs atom) c
  go (inl h) = h
  go (inr ((k, less, e), le)) = absurd (omega (arith, less))

pub lowered_more : (atoms : List ℕ) (i cost : ℕ) (before between after : List AtomCost) → i < length atoms → AreLowered (take i atoms) cost before between
    → AreLowered (get_or atoms i 0 ∷ []) cost between after → AreLowered (take (i + 1) atoms) cost before after
lowered_more atoms i cost before between after less first last =
    subst (λ xs. AreLowered xs cost before after) (sym (take_more atoms i 0 less)) (λ atom c. (λ h. to atom c ((last atom c).0 h), from atom c))
  where
    to : (atom c : ℕ) → IsAtMost (cost_in between atom) c ⊎ (Contains (get_or atoms i 0 ∷ []) atom × (cost ≤ c))
        → IsAtMost (cost_in before atom) c ⊎ (Contains (take i atoms ++ get_or atoms i 0 ∷ []) atom × (cost ≤ c))
    to atom c (inl was) = earlier ((first atom c).0 was) where
      earlier : IsAtMost (cost_in before atom) c ⊎ (Contains (take i atoms) atom × (cost ≤ c))
          → IsAtMost (cost_in before atom) c ⊎ (Contains (take i atoms ++ get_or atoms i 0 ∷ []) atom × (cost ≤ c))
      earlier (inl was) = inl was
      earlier (inr (among, le)) = inr (Contains-append_left (take i atoms) (get_or atoms i 0 ∷ []) atom among, le)
    to atom c (inr (among, le)) = inr (Contains-append_right (take i atoms) (get_or atoms i 0 ∷ []) atom among, le)

    from : (atom c : ℕ) → IsAtMost (cost_in before atom) c ⊎ (Contains (take i atoms ++ get_or atoms i 0 ∷ []) atom × (cost ≤ c)) → IsAtMost (cost_in after atom) c
    from atom c (inl was) = (last atom c).1 (inl ((first atom c).1 (inl was)))
    from atom c (inr (among, le)) = go (Contains-append_cases (take i atoms) (get_or atoms i 0 ∷ []) atom among) where
      go : Contains (take i atoms) atom ⊎ Contains (get_or atoms i 0 ∷ []) atom → IsAtMost (cost_in after atom) c
      go (inl earlier) = (last atom c).1 (inl ((first atom c).1 (inr (earlier, le))))
      go (inr now) = (last atom c).1 (inr (now, le))

-- final costs that are the same are within the same bound
pub within_still : (cost : ℕ) (before after : List AtomCost) → HaveSameFinals before after → FinalsAreWithin cost before → FinalsAreWithin cost after
within_still cost before after same within atom c e = within atom c (sym (same atom) ∙ e)

-- ---- how many atoms were reached

module _ (costs : List AtomCost) (atom : ℕ) (known : AtomCost) (less : atom < length costs) where
  here : known_in (set costs atom known) atom ≡ known
  here = known_here costs atom known less

  elsewhere : (other : ℕ) → other ≢ atom → is_some (cost_in (set costs atom known) other) ≡ is_some (cost_in costs other)
  elsewhere other apart = ap (λ k. is_some (known_cost k)) (known_there costs atom other known apart)

  pub one_more_reached : known_in costs atom ≡ Unreached → is_some (known_cost known) ≡ true
      → count (λ a. is_some (cost_in (set costs atom known) a)) (length costs) ≡ suc (count (λ a. is_some (cost_in costs a)) (length costs))
  one_more_reached un true_then =
      count_drops (λ a. is_some (cost_in (set costs atom known) a)) (λ a. is_some (cost_in costs a)) (length costs) atom less (ap (λ k. is_some (known_cost k)) here ∙ true_then)
      (ap (λ k. is_some (known_cost k)) un) (λ other apart. sym (elsewhere other apart))

  pub room : (reached : ℕ) → known_in costs atom ≡ Unreached → is_some (known_cost known) ≡ true → reached ≡ count (λ a. is_some (cost_in costs a)) (length costs) → reached < length costs
  room reached un true_then is =
      let small : count (λ a. is_some (cost_in (set costs atom known) a)) (length costs) ≤ length costs = count_is_small (λ a. is_some (cost_in (set costs atom known) a)) (length costs) in
      let more : count (λ a. is_some (cost_in (set costs atom known) a)) (length costs) ≡ suc (count (λ a. is_some (cost_in costs a)) (length costs)) = one_more_reached un true_then in
      omega arith

  pub same_reached : (other : ℕ) → is_some (cost_in costs atom) ≡ true → is_some (known_cost known) ≡ true → is_some (cost_in (set costs atom known) other) ≡ is_some (cost_in costs other)
  same_reached other was true_then = go (cases_eq other atom) where
    go : (other ≡ atom) ⊎ (other ≢ atom) → is_some (cost_in (set costs atom known) other) ≡ is_some (cost_in costs other)
    go (inl e) =
        ap (λ a. is_some (cost_in (set costs atom known) a)) e ∙ ap (λ k. is_some (known_cost k)) here ∙ true_then ∙ sym was ∙ ap (λ a. is_some (cost_in costs a)) (sym e)
    go (inr apart) = elsewhere other apart

  -- what was reached is reached still
  pub still_reached : (other : ℕ) → is_some (known_cost known) ≡ true → is_some (cost_in costs other) ≡ true → is_some (cost_in (set costs atom known) other) ≡ true
  still_reached other true_then was = go (cases_eq other atom) where
    go : (other ≡ atom) ⊎ (other ≢ atom) → is_some (cost_in (set costs atom known) other) ≡ true
    go (inl e) = ap (λ a. is_some (cost_in (set costs atom known) a)) e ∙ ap (λ k. is_some (known_cost k)) here ∙ true_then
    go (inr apart) = elsewhere other apart ∙ was

  -- what is final is final still
  pub still_final : (other : ℕ) → is_some (final_in costs atom) ≡ is_some (final_cost known) ⊎ (is_some (final_cost known) ≡ true) → is_final_in costs other ≡ true → is_final_in (set costs atom known) other ≡ true
  still_final other made was = go (cases_eq other atom) made where
    go : (other ≡ atom) ⊎ (other ≢ atom) → is_some (final_in costs atom) ≡ is_some (final_cost known) ⊎ (is_some (final_cost known) ≡ true) → is_final_in (set costs atom known) other ≡ true
    go (inl e) (inl same) = ap (λ a. is_final_in (set costs atom known) a) e ∙ ap (λ k. is_some (final_cost k)) here ∙ sym same ∙ ap (λ a. is_final_in costs a) (sym e) ∙ was
    go (inl e) (inr true_then) = ap (λ a. is_final_in (set costs atom known) a) e ∙ ap (λ k. is_some (final_cost k)) here ∙ true_then
    go (inr apart) h = ap (λ k. is_some (final_cost k)) (known_there costs atom other known apart) ∙ was

-- ---- the queue

-- the exploration that has these costs, this queue and these places
abbrev pub IsQueue : (costs : List AtomCost) → (queue : List ℕ) → (first reached : ℕ) → Type 0
IsQueue costs queue first reached =
    (length queue ≡ length costs)
    × (reached ≡ count (λ atom. is_some (cost_in costs atom)) (length costs))
    × ((k : ℕ) → k < reached → get_or queue k 0 < length costs)
    × ((atom : ℕ) → is_some (cost_in costs atom) ≡ true → (k : ℕ) × (k < reached) × (get_or queue k 0 ≡ atom))
    × (first ≤ reached)
    × ((k : ℕ) → k < first → is_final_in costs (get_or queue k 0) ≡ true)

pub same_length : (costs : List AtomCost) (atom : ℕ) (known : AtomCost) → length (set costs atom known) ≡ length costs
same_length costs atom known = length-set costs atom known

module _ (costs : List AtomCost) (queue : List ℕ) (first reached atom cost : ℕ) (less : atom < length costs)
    (places : length queue ≡ length costs) (many : reached ≡ count (λ a. is_some (cost_in costs a)) (length costs))
    (inside : (k : ℕ) → k < reached → get_or queue k 0 < length costs)
    (all : (a : ℕ) → is_some (cost_in costs a) ≡ true → (k : ℕ) × (k < reached) × (get_or queue k 0 ≡ a))
    (front : first ≤ reached) (passed : (k : ℕ) → k < first → is_final_in costs (get_or queue k 0) ≡ true) where
  -- an atom is reached
  pub pushed : known_in costs atom ≡ Unreached → IsQueue (set costs atom (Open cost)) (set queue reached atom) first (reached + 1)
  pushed un = (
    length-set queue reached atom ∙ places ∙ sym (same_length costs atom (Open cost)),
    (let one : suc reached ≡ reached + 1 = omega arith in sym one) ∙ ap suc many ∙ sym (one_more_reached costs atom (Open cost) less un refl)
        ∙ ap (λ n. count (λ a. is_some (cost_in (set costs atom (Open cost)) a)) n) (sym (same_length costs atom (Open cost))),
    λ k k_less. subst (λ n. get_or (set queue reached atom) k 0 < n) (sym (same_length costs atom (Open cost))) (within k k_less (cases_eq k reached)),
    λ a true_then. found a true_then (cases_eq a atom),
    omega arith,
    λ k k_less. still k k_less,
  )
    where
      space : reached < length queue
      space = let small : reached < length costs = room costs atom (Open cost) less reached un refl many in omega (arith, places)

      at_end : get_or (set queue reached atom) reached 0 ≡ atom
      at_end = get_or-set_same queue reached atom 0 space

      before : (k : ℕ) → k ≢ reached → get_or (set queue reached atom) k 0 ≡ get_or queue k 0
      before k apart = get_or-set_other queue reached k atom 0 apart

      within : (k : ℕ) → k < reached + 1 → (k ≡ reached) ⊎ (k ≢ reached) → get_or (set queue reached atom) k 0 < length costs
      within k k_less (inl e) = subst (λ n. n < length costs) (sym (ap (λ j. get_or (set queue reached atom) j 0) e ∙ at_end)) less
      within k k_less (inr apart) = subst (λ n. n < length costs) (sym (before k apart)) (inside k (omega (arith, k_less, apart)))

      found : (a : ℕ) → is_some (cost_in (set costs atom (Open cost)) a) ≡ true → (a ≡ atom) ⊎ (a ≢ atom) → (k : ℕ) × (k < reached + 1) × (get_or (set queue reached atom) k 0 ≡ a)
      found a true_then (inl e) = (reached, omega arith, at_end ∙ sym e)
      found a true_then (inr apart) =
          let old = all a (sym (elsewhere costs atom (Open cost) less a apart) ∙ true_then) in
          let old_less : old.0 < reached = old.1 in
          (old.0, omega (arith, old_less), before old.0 (λ e. absurd (omega (arith, old_less, e))) ∙ old.2)

      still : (k : ℕ) → k < first → is_final_in (set costs atom (Open cost)) (get_or (set queue reached atom) k 0) ≡ true
      still k k_less =
          ap (λ a. is_final_in (set costs atom (Open cost)) a) (before k (λ e. absurd (omega (arith, k_less, front, e))))
          ∙ still_final costs atom (Open cost) less (get_or queue k 0) (inl (ap (λ known. is_some (final_cost known)) un)) (passed k k_less)

  -- the cost of an atom that was reached changes, and doesn't become open if it was final
  pub changed : (known : AtomCost) → is_some (cost_in costs atom) ≡ true → is_some (known_cost known) ≡ true
      → (is_some (final_in costs atom) ≡ is_some (final_cost known)) ⊎ (is_some (final_cost known) ≡ true)
      → IsQueue (set costs atom known) queue first reached
  changed known was true_then made = (
    places ∙ sym (same_length costs atom known),
    many ∙ count_same (λ a. is_some (cost_in costs a)) (λ a. is_some (cost_in (set costs atom known) a)) (length costs) (λ a a_less. sym (same_reached costs atom known less a was true_then))
        ∙ ap (λ n. count (λ a. is_some (cost_in (set costs atom known) a)) n) (sym (same_length costs atom known)),
    λ k k_less. subst (λ n. get_or queue k 0 < n) (sym (same_length costs atom known)) (inside k k_less),
    λ a reached. all a (sym (same_reached costs atom known less a was true_then) ∙ reached),
    front,
    λ k k_less. still_final costs atom known less (get_or queue k 0) made (passed k k_less),
  )

-- no atom is reached
pub none_reached : (costs : List AtomCost) → ((atom : ℕ) → known_in costs atom ≡ Unreached) → 0 ≡ count (λ a. is_some (cost_in costs a)) (length costs)
none_reached costs none = sym (count_none (λ a. is_some (cost_in costs a)) (length costs) (λ a less. ap (λ known. is_some (known_cost known)) (none a)))

pub not_reached : (costs : List AtomCost) (atom : ℕ) → known_in costs atom ≡ Unreached → is_some (cost_in costs atom) ≡ true → ⊥
not_reached costs atom none is_so = let wrong : false ≡ true = sym (ap (λ known. is_some (known_cost known)) none) ∙ is_so in cc

pub all_unreached : (costs : List AtomCost) (n : ℕ) → costs ≡ replicate n Unreached → (atom : ℕ) → known_in costs atom ≡ Unreached
all_unreached costs n e atom = ap (λ xs. known_in xs atom) e ∙ none_in n atom where
  none_in : (n atom : ℕ) → known_in (replicate n Unreached) atom ≡ Unreached
  none_in zero atom = refl
  none_in (suc n) zero = refl
  none_in (suc n) (suc atom) = none_in n atom

-- ---- the atoms of a state

module _ (state atom next : ℕ) (before after : List AtomCost) where
  pub holds_more : AreLowered (atom ∷ []) 0 before after → ((a : ℕ) → a < atom → has_atom state a ≡ true → IsAtMost (cost_in before a) 0)
      → ((a : ℕ) → atom + 1 ≤ a → a < next → has_atom state a ≡ false) → (a : ℕ) → a < next → has_atom state a ≡ true → IsAtMost (cost_in after a) 0
  holds_more low holds none a less has = go (cases_lt a atom) (cases_eq a atom) where
    go : (a < atom) ⊎ (atom ≤ a) → (a ≡ atom) ⊎ (a ≢ atom) → IsAtMost (cost_in after a) 0
    go (inl earlier) same = (low a 0).1 (inl (holds a earlier has))
    go (inr from) (inl e) = (low a 0).1 (inr ((0, omega arith, sym e), omega arith))
    go (inr from) (inr apart) = absurd (let wrong : false ≡ true = sym (none a (omega (arith, from, apart)) less) ∙ has in let no : ⊥ = cc in no)

  pub only_more : AreLowered (atom ∷ []) 0 before after → has_atom state atom ≡ true → ((a cost : ℕ) → IsAtMost (cost_in before a) cost → has_atom state a ≡ true)
      → (a cost : ℕ) → IsAtMost (cost_in after a) cost → has_atom state a ≡ true
  only_more low here only a cost h = go ((low a cost).0 h) where
    go : IsAtMost (cost_in before a) cost ⊎ (Contains (atom ∷ []) a × (0 ≤ cost)) → has_atom state a ≡ true
    go (inl was) = only a cost was
    go (inr (among, le)) = ap (has_atom state) (one_of atom a among) ∙ here
