-- The entries of the buckets: an atom whose cost is open has one in the bucket of its cost.
use Rattle.std.proofs.Common.{◌≡◌, ◌≢◌, ℕ, ◌+◌, ◌-◌, ◌*◌, ◌%◌, ◌<◌, ◌≤◌, Bool, false, List, length, get_or, set, sym, subst, ap, arith, ◌∙◌, ◌⊎◌, inl, inr}
use Rattle.std.proofs.lemmas.Bool.{cases_eq, cases_lt}
use Rattle.std.proofs.lemmas.List.{get_or-set_same, get_or-set_other, length-set}
use Rattle.std.proofs.lemmas.Nat.{mod_below}
use Rattle.pb_estimate.specs.declared.exploration.AtomCost.{AtomCost}
use Rattle.pb_estimate.specs.declared.exploration.AtomCost.TheVariants.{Open, Final}
use Rattle.pb_estimate.specs.Exploring.{known_in, entry, OpensAreFrom, ArePassed, AreEntries}
use Rattle.pb_estimate.proofs.Lowered.{same_length, known_here, known_there}

module _ (costs : List AtomCost) (places filled : List ℕ) (was : Bool) (e : AreEntries costs places filled was) where
  -- the cost of an atom becomes one that isn't open
  pub closed : (atom : ℕ) (known : AtomCost) → atom < length costs → ((c : ℕ) → known ≡ Open c → ⊥) → AreEntries (set costs atom known) places filled was
  closed atom known less not_open = record {
    rows = subst (λ n. length places ≡ 64 * n) (sym (same_length costs atom known)) e.rows;
    buckets = e.buckets;
    room = λ bucket b_less. subst (λ n. get_or filled bucket 0 ≤ n) (sym (same_length costs atom known)) (e.room bucket b_less);
    inside = λ bucket k b_less k_less. subst (λ n. entry places bucket k < n) (sym (same_length costs atom known)) (e.inside bucket k b_less k_less);
    entered = λ kept a c is. go kept a c is (cases_eq a atom);
  }
    where
      go : was ≡ false → (a c : ℕ) → known_in (set costs atom known) a ≡ Open c → (a ≡ atom) ⊎ (a ≢ atom) → (k : ℕ) × (k < get_or filled (c % 64) 0) × (entry places (c % 64) k ≡ a)
      go kept a c is (inl same) = absurd (not_open c (sym (known_here costs atom known less) ∙ ap (λ x. known_in (set costs atom known) x) (sym same) ∙ is))
      go kept a c is (inr apart) = e.entered kept a c (sym (known_there costs atom a known apart) ∙ is)

  -- what was passed at the end of a bucket goes out of it
  pub cut : (bucket left : ℕ) → bucket < 64 → left ≤ get_or filled bucket 0 → ArePassed costs places bucket left (get_or filled bucket 0) → AreEntries costs places (set filled bucket left) was
  cut bucket left less few passed = record {
    rows = e.rows;
    buckets = length-set filled bucket left ∙ e.buckets;
    room = λ b b_less. room b b_less (cases_eq b bucket);
    inside = λ b k b_less k_less. e.inside b k b_less (no_more b k k_less (cases_eq b bucket));
    entered = λ kept a c is. go c a is (e.entered kept a c is) (cases_eq (c % 64) bucket);
  }
    where
      here : get_or (set filled bucket left) bucket 0 ≡ left
      here = get_or-set_same filled bucket left 0 (subst (λ n. bucket < n) (sym e.buckets) less)

      there : (b : ℕ) → b ≢ bucket → get_or (set filled bucket left) b 0 ≡ get_or filled b 0
      there b apart = get_or-set_other filled bucket b left 0 apart

      room : (b : ℕ) → b < 64 → (b ≡ bucket) ⊎ (b ≢ bucket) → get_or (set filled bucket left) b 0 ≤ length costs
      room b b_less (inl same) = let old : get_or filled bucket 0 ≤ length costs = e.room bucket less in
          subst (λ x. get_or (set filled bucket left) x 0 ≤ length costs) (sym same) (subst (λ n. n ≤ length costs) (sym here) (omega (arith, old, few)))
      room b b_less (inr apart) = subst (λ n. n ≤ length costs) (sym (there b apart)) (e.room b b_less)

      no_more : (b k : ℕ) → k < get_or (set filled bucket left) b 0 → (b ≡ bucket) ⊎ (b ≢ bucket) → k < get_or filled b 0
      no_more b k k_less (inl same) = let k_left : k < left = subst (λ n. k < n) here (subst (λ x. k < get_or (set filled bucket left) x 0) same k_less) in
          subst (λ x. k < get_or filled x 0) (sym same) (omega (arith, k_left, few))
      no_more b k k_less (inr apart) = subst (λ n. k < n) (there b apart) k_less

      go : (c a : ℕ) → known_in costs a ≡ Open c → (k : ℕ) × (k < get_or filled (c % 64) 0) × (entry places (c % 64) k ≡ a) → (c % 64 ≡ bucket) ⊎ (c % 64 ≢ bucket)
          → (k : ℕ) × (k < get_or (set filled bucket left) (c % 64) 0) × (entry places (c % 64) k ≡ a)
      go c a is (k, k_less, at) (inr apart) = (k, subst (λ n. k < n) (sym (there (c % 64) apart)) k_less, at)
      go c a is (k, k_less, at) (inl same) = either (cases_lt k left) where
        either : (k < left) ⊎ (left ≤ k) → (j : ℕ) × (j < get_or (set filled bucket left) (c % 64) 0) × (entry places (c % 64) j ≡ a)
        either (inl early) = (k, subst (λ x. k < get_or (set filled bucket left) x 0) (sym same) (subst (λ n. k < n) (sym here) early), at)
        either (inr late) =
            absurd (passed k late (subst (λ x. k < get_or filled x 0) same k_less) c (ap (known_in costs) (ap (λ x. entry places x k) (sym same) ∙ at) ∙ is) same)

-- the last atom that wasn't passed becomes final, and goes out
pub taken : (costs : List AtomCost) (places filled : List ℕ) (was : Bool) → AreEntries costs places filled was → (bucket left atom cost : ℕ) → bucket < 64 → 1 ≤ left → left ≤ get_or filled bucket 0 → ArePassed costs places bucket left (get_or filled bucket 0)
    → entry places bucket (left - 1) ≡ atom → atom < length costs → AreEntries (set costs atom (Final cost)) places (set filled bucket (left - 1)) was
taken costs places filled was e bucket left atom cost less some few passed at a_less =
    cut' (closed costs places filled was e atom (Final cost) a_less (λ c wrong. cc)) (λ k from k_less c is same. still k from k_less c is same (cases_eq (entry places bucket k) atom))
  where
    still : (k : ℕ) → left - 1 ≤ k → k < get_or filled bucket 0 → (c : ℕ) → known_in (set costs atom (Final cost)) (entry places bucket k) ≡ Open c → c % 64 ≡ bucket
        → (entry places bucket k ≡ atom) ⊎ (entry places bucket k ≢ atom) → ⊥
    still k from k_less c is same (inl this) =
        let wrong : ◌≡◌ {A = AtomCost} (Final cost) (Open c) = sym (known_here costs atom (Final cost) a_less) ∙ ap (λ x. known_in (set costs atom (Final cost)) x) (sym this) ∙ is in cc
    still k from k_less c is same (inr apart) = go (cases_eq k (left - 1)) where
      go : (k ≡ left - 1) ⊎ (k ≢ left - 1) → ⊥
      go (inl last) = apart (ap (λ j. entry places bucket j) last ∙ at)
      go (inr other) = passed k (omega (arith, from, other, some)) k_less c (sym (known_there costs atom (entry places bucket k) (Final cost) apart) ∙ is) same

    cut' : AreEntries (set costs atom (Final cost)) places filled was → ArePassed (set costs atom (Final cost)) places bucket (left - 1) (get_or filled bucket 0)
        → AreEntries (set costs atom (Final cost)) places (set filled bucket (left - 1)) was
    cut' now passed_now = cut (set costs atom (Final cost)) places filled was now bucket (left - 1) less (omega (arith, few)) passed_now

-- ---- levels, one after another

module _ (costs : List AtomCost) (level : ℕ) (from : OpensAreFrom level costs) where
  abbrev pub HaveNone : (steps : ℕ) → Type 0
  HaveNone steps = (step : ℕ) → step < steps → (atom cost : ℕ) → known_in costs atom ≡ Open cost → cost % 64 ≡ (level + step) % 64 → ⊥

  -- no open cost is less than the levels that were looked at
  pub no_less : (steps : ℕ) → HaveNone steps → OpensAreFrom (level + steps) costs
  no_less steps none atom c is = go (cases_lt c (level + steps)) where
    le : level ≤ c
    le = from atom c is

    back : c ≡ level + (c - level)
    back = omega (arith, le)

    go : (c < level + steps) ⊎ (level + steps ≤ c) → level + steps ≤ c
    go (inl early) = absurd (none (c - level) (omega (arith, early, le)) atom c is (ap (λ n. n % 64) back))
    go (inr late) = late

  -- after 64 of them no cost is open
  pub no_open : HaveNone 64 → (atom c : ℕ) → known_in costs atom ≡ Open c → ⊥
  no_open none atom c is = none ((c - level) % 64) (mod_below (c - level) 64 (omega arith)) atom c is same where
    le : level ≤ c
    le = from atom c is

    same : c % 64 ≡ (level + (c - level) % 64) % 64
    same = omega (arith, le)
