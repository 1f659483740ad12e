-- The rounds of hmax: costs fall from round to round, and after as many rounds as there are atoms they fall no more.
use Rattle.std.proofs.Common.{◌≡◌, ℕ, zero, suc, ◌+◌, ◌<◌, ◌≤◌, Bool, true, false, nat_le, Option, None, Some, if◌then◌else◌, refl, subst, arith, ◌⊎◌, inl, inr}
use Rattle.std.proofs.Math.Nat.{eq-or-lt_of_le}
use Rattle.std.proofs.lemmas.Bool.{le-leb, leb-true, false_from_ne_true}
use Rattle.pb_task.specs.declared.parts.StripsParts.{StripsParts}
use Rattle.pb_estimate.specs.Hmax.{IsAtMost, cheapest_by, atom_cost}
use Rattle.pb_estimate.specs.Exploring.{count}
use Rattle.pb_estimate.proofs.Costs.{at_most_more, lesser_left, lesser_right, lesser_cases, same_cost, CostsBy, CostsByOne, cheapest_is, cheapest_from}

-- ---- how many of the first numbers pass a test

pub count_is_small : (accepts : ℕ → Bool) (below : ℕ) → count accepts below ≤ below
count_is_small accepts zero = omega arith
count_is_small accepts (suc n) = go (accepts n) (count_is_small accepts n) where
  go : (test : Bool) → count accepts n ≤ n → count accepts n + (if test then 1 else 0) ≤ suc n
  go true rest = omega arith
  go false rest = omega arith

pub count_grows : (accepts accepts' : ℕ → Bool) (below : ℕ) → ((k : ℕ) → k < below → accepts k ≡ true → accepts' k ≡ true) → count accepts below ≤ count accepts' below
count_grows accepts accepts' zero more = omega arith
count_grows accepts accepts' (suc n) more = go (accepts n) (accepts' n) (more n (omega arith)) (count_grows accepts accepts' n (λ k less. more k (omega (arith, less)))) where
  go : (test test' : Bool) → (test ≡ true → test' ≡ true) → count accepts n ≤ count accepts' n → count accepts n + (if test then 1 else 0) ≤ count accepts' n + (if test' then 1 else 0)
  go true true h rest = omega arith
  go true false h rest = let never : false ≡ true = h refl in cc
  go false true h rest = omega arith
  go false false h rest = omega arith

-- a test that accepts what another accepts, and one number more
pub count_rises : (accepts accepts' : ℕ → Bool) (below : ℕ) → ((k : ℕ) → k < below → accepts k ≡ true → accepts' k ≡ true) → (one : ℕ) → one < below → accepts one ≡ false → accepts' one ≡ true
    → suc (count accepts below) ≤ count accepts' below
count_rises accepts accepts' zero more one less not_in in_other = absurd (omega (arith, less))
count_rises accepts accepts' (suc n) more one less not_in in_other = go (count_rises accepts accepts' n (λ k k_less. more k (omega (arith, k_less))) one) (eq-or-lt_of_le (let le : one ≤ n = omega (arith, less) in le)) where
  here : (test test' : Bool) → test ≡ false → test' ≡ true → count accepts n ≤ count accepts' n → suc (count accepts n + (if test then 1 else 0)) ≤ count accepts' n + (if test' then 1 else 0)
  here true test' e e' rest = cc
  here false true e e' rest = omega arith
  here false false e e' rest = cc

  below : (test test' : Bool) → (test ≡ true → test' ≡ true) → suc (count accepts n) ≤ count accepts' n → suc (count accepts n + (if test then 1 else 0)) ≤ count accepts' n + (if test' then 1 else 0)
  below true true h rest = omega arith
  below true false h rest = let never : false ≡ true = h refl in cc
  below false true h rest = omega arith
  below false false h rest = omega arith

  go : (one < n → accepts one ≡ false → accepts' one ≡ true → suc (count accepts n) ≤ count accepts' n) → (one ≡ n) ⊎ (one < n) → suc (count accepts (suc n)) ≤ count accepts' (suc n)
  go rest (inl e) =
      here (accepts n) (accepts' n) (subst (λ k. accepts k ≡ false) e not_in) (subst (λ k. accepts' k ≡ true) e in_other) (count_grows accepts accepts' n (λ k k_less. more k (omega (arith, k_less))))
  go rest (inr lower) = below (accepts n) (accepts' n) (more n (omega arith)) (rest lower not_in in_other)

-- ---- the rounds

is_at_most : Option ℕ → (cost : ℕ) → Bool
is_at_most None cost = false
is_at_most (Some n) cost = nat_le n cost

at_most_is : (one : Option ℕ) (cost : ℕ) → is_at_most one cost ≡ true → IsAtMost one cost
unfolding is_at_most
at_most_is None cost e = cc
at_most_is (Some n) cost e = leb-true n cost e

is_at_most_from : (one : Option ℕ) (cost : ℕ) → IsAtMost one cost → is_at_most one cost ≡ true
unfolding is_at_most
is_at_most_from None cost h = absurd h
is_at_most_from (Some n) cost h = le-leb n cost h

pub in_later_rounds : (strips : StripsParts) (state atom cost round later : ℕ) → round ≤ later → IsAtMost (atom_cost strips state round atom) cost → IsAtMost (atom_cost strips state later atom) cost
in_later_rounds strips state atom cost round zero le h = subst (λ r. IsAtMost (atom_cost strips state r atom) cost) (let e : round ≡ 0 = omega (arith, le) in e) h
in_later_rounds strips state atom cost round (suc later) le h = go (λ before. in_later_rounds strips state atom cost round later before h) (eq-or-lt_of_le le) where
  go : (round ≤ later → IsAtMost (atom_cost strips state later atom) cost) → (round ≡ suc later) ⊎ (round < suc later) → IsAtMost (atom_cost strips state (suc later) atom) cost
  go rest (inl e) = subst (λ r. IsAtMost (atom_cost strips state r atom) cost) e h
  go rest (inr before) = lesser_left (atom_cost strips state later atom) (cheapest_by strips.atoms (atom_cost strips state later) atom strips.actions) cost (rest (omega (arith, before)))

-- how many atoms cost at most this much after a round
cheap_atoms : StripsParts → (state round cost : ℕ) → ℕ
cheap_atoms strips state round cost = count (λ atom. is_at_most (atom_cost strips state round atom) cost) strips.atoms

-- An atom that comes to cost at most this much in some round does so already after as many rounds as there are atoms that cost at most this much.
SoonCheap : StripsParts → (state round : ℕ) → Type 0
SoonCheap strips state round =
    (atom cost : ℕ) → atom < strips.atoms → IsAtMost (atom_cost strips state round atom) cost → IsAtMost (atom_cost strips state (cheap_atoms strips state round cost) atom) cost

module _ (strips : StripsParts) (state round : ℕ) (soon : SoonCheap strips state round) (atom cost : ℕ) (less : atom < strips.atoms) where
  -- it costs this much at most already the round before
  before : IsAtMost (atom_cost strips state round atom) cost → IsAtMost (atom_cost strips state (cheap_atoms strips state (suc round) cost) atom) cost
  unfolding SoonCheap cheap_atoms
  before was =
      in_later_rounds strips state atom cost (cheap_atoms strips state round cost) (cheap_atoms strips state (suc round) cost)
      (count_grows (λ a. is_at_most (atom_cost strips state round a) cost) (λ a. is_at_most (atom_cost strips state (suc round) a) cost) strips.atoms
      (λ a a_less is. is_at_most_from (atom_cost strips state (suc round) a) cost
      (lesser_left (atom_cost strips state round a) (cheapest_by strips.atoms (atom_cost strips state round) a strips.actions) cost (at_most_is (atom_cost strips state round a) cost is))))
      (soon atom cost less was)

  -- it does so by an action: it isn't among the atoms that cost at most what the action needs the round before
  now : is_at_most (atom_cost strips state round atom) cost ≡ false → IsAtMost (atom_cost strips state (suc round) atom) cost
      → CostsByOne strips.atoms (atom_cost strips state round) atom strips.actions cost → IsAtMost (atom_cost strips state (cheap_atoms strips state (suc round) cost) atom) cost
  unfolding SoonCheap cheap_atoms
  now not_yet h one =
      let needed : ℕ = one.by.needed in
      let within : one.by.needed ≤ cost = (let sum : one.action.cost + one.by.needed ≤ cost = one.by.sum in omega arith) in
      let rounds : ℕ = cheap_atoms strips state round one.by.needed in
      let by : CostsBy strips.atoms (atom_cost strips state (cheap_atoms strips state round one.by.needed)) atom one.action cost = record {
        adds = one.by.adds;
        needed = one.by.needed;
        needs = λ need need_less has. soon need one.by.needed need_less (one.by.needs need need_less has);
        sum = one.by.sum;
      } in
      let fewer : suc (cheap_atoms strips state round one.by.needed) ≤ cheap_atoms strips state (suc round) cost =
      count_rises (λ a. is_at_most (atom_cost strips state round a) one.by.needed) (λ a. is_at_most (atom_cost strips state (suc round) a) cost) strips.atoms
      (λ a a_less is. is_at_most_from (atom_cost strips state (suc round) a) cost
      (lesser_left (atom_cost strips state round a) (cheapest_by strips.atoms (atom_cost strips state round) a strips.actions) cost
      (at_most_more (atom_cost strips state round a) one.by.needed cost within (at_most_is (atom_cost strips state round a) one.by.needed is))))
      atom less
      (false_from_ne_true (is_at_most (atom_cost strips state round atom) one.by.needed) (λ is.
      let yes : is_at_most (atom_cost strips state round atom) cost ≡ true = is_at_most_from (atom_cost strips state round atom) cost
      (at_most_more (atom_cost strips state round atom) one.by.needed cost within (at_most_is (atom_cost strips state round atom) one.by.needed is)) in cc))
      (is_at_most_from (atom_cost strips state (suc round) atom) cost h) in
      in_later_rounds strips state atom cost (suc (cheap_atoms strips state round one.by.needed)) (cheap_atoms strips state (suc round) cost) fewer
      (lesser_right (atom_cost strips state (cheap_atoms strips state round one.by.needed) atom)
      (cheapest_by strips.atoms (atom_cost strips state (cheap_atoms strips state round one.by.needed)) atom strips.actions) cost
      (cheapest_from strips.atoms (atom_cost strips state (cheap_atoms strips state round one.by.needed)) atom strips.actions cost one.action one.among by))

  one_more_round : IsAtMost (atom_cost strips state (suc round) atom) cost → IsAtMost (atom_cost strips state (cheap_atoms strips state (suc round) cost) atom) cost
  one_more_round h =
      go (is_at_most (atom_cost strips state round atom) cost) refl
      (lesser_cases (atom_cost strips state round atom) (cheapest_by strips.atoms (atom_cost strips state round) atom strips.actions) cost h)
    where
      go : (test : Bool) → is_at_most (atom_cost strips state round atom) cost ≡ test
          → IsAtMost (atom_cost strips state round atom) cost ⊎ IsAtMost (cheapest_by strips.atoms (atom_cost strips state round) atom strips.actions) cost
          → IsAtMost (atom_cost strips state (cheap_atoms strips state (suc round) cost) atom) cost
      go test is (inl was) = before was
      go true is (inr by) = before (at_most_is (atom_cost strips state round atom) cost is)
      go false not_yet (inr by) = now not_yet h (cheapest_is strips.atoms (atom_cost strips state round) atom strips.actions cost by)

soon_cheap : (strips : StripsParts) (state round : ℕ) → SoonCheap strips state round
unfolding SoonCheap
soon_cheap strips state zero atom cost less h = in_later_rounds strips state atom cost 0 (cheap_atoms strips state 0 cost) (omega arith) h
soon_cheap strips state (suc round) atom cost less h = one_more_round strips state round (soon_cheap strips state round) atom cost less h

-- no round makes an atom cheaper than it is after as many rounds as there are atoms
pub no_cheaper : (strips : StripsParts) (state round atom cost : ℕ) → atom < strips.atoms → IsAtMost (atom_cost strips state round atom) cost
    → IsAtMost (atom_cost strips state strips.atoms atom) cost
unfolding cheap_atoms SoonCheap
no_cheaper strips state round atom cost less h =
    in_later_rounds strips state atom cost (cheap_atoms strips state round cost) strips.atoms (count_is_small (λ a. is_at_most (atom_cost strips state round a) cost) strips.atoms)
    (soon_cheap strips state round atom cost less h)

-- after as many rounds as there are atoms, later rounds change nothing
pub stays : (strips : StripsParts) (state round atom : ℕ) → atom < strips.atoms → strips.atoms ≤ round → atom_cost strips state round atom ≡ atom_cost strips state strips.atoms atom
stays strips state round atom less late =
    same_cost (atom_cost strips state round atom) (atom_cost strips state strips.atoms atom) (λ cost h. no_cheaper strips state round atom cost less h)
    (λ cost h. in_later_rounds strips state atom cost strips.atoms round late h)
