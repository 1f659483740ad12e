-- The tracked atoms: how they are found one after another, and that there is one list of them.
use Rattle.std.proofs.Common.{◌≡◌, ◌≢◌, ℕ, suc, ◌+◌, ◌*◌, ◌^◌, ◌<◌, ◌≤◌, Bool, true, false, not, ◌&&◌, ◌||◌, ◌==◌, IsTrue, List, [], ◌∷◌, ◌++◌, Option, None, Some, length, get_or, drop, All, nat_lt, if◌then◌else◌, refl, sym, ap, subst, ◌∙◌, arith, ◌⊎◌, inl, inr, true≢false}
use Rattle.std.proofs.Math.Nat.{eq-or-lt_of_le}
use Rattle.std.proofs.Math.Pow.{pow_mono}
use Rattle.std.proofs.lemmas.Bool.{and_from, or_left, or_right, cases_lt}
use Rattle.std.proofs.lemmas.Bool.Decides.{nat_tests}
use Rattle.std.proofs.lemmas.List.{get_or_past, at_drop_more}
use Rattle.std.proofs.lemmas.List.Elements.{All-push, All-cons, All-head, All-tail, All-nil}
use Rattle.pb_model.proofs.Callers.{and_true, or_true, not_true, by_cases, equal, equal_self, below, not_both}
use Rattle.pb_machine.specs.Tables.{one_if}
use Rattle.pb_task.specs.declared.parts.GroundAction.{GroundAction}
use Rattle.pb_task.specs.declared.parts.StripsParts.{StripsParts}
use Rattle.pb_task.specs.Strips.{action_at}
use Rattle.pb_abstract.specs.Tracked.{changes, changers, is_changed, comes_before, AreInOrder, AreTracked}
use Rattle.pb_abstract.specs.Ranking.{AreCounts, is_left, is_fewer, better, precedes, IsNext, IsNone, AreFirst}
use Rattle.pb_abstract.specs.Graph.{has}
use Rattle.pb_abstract.proofs.Has.{has_at}
use Rattle.pb_abstract.proofs.Members.{has_contains}

-- ---- counting

pub changers_small : (atom : ℕ) (actions : List GroundAction) → changers atom actions ≤ length actions
changers_small atom [] = omega arith
changers_small atom (action ∷ actions) = go (changes atom action) (changers_small atom actions) where
  go : (test : Bool) → changers atom actions ≤ length actions → one_if test + changers atom actions ≤ suc (length actions)
  go true h = omega arith
  go false h = omega arith

-- the actions from a place on are the one at the place and those after it
pub one_step : (atom : ℕ) (actions : List GroundAction) (at : ℕ) → at < length actions
    → changers atom (drop at actions) ≡ one_if (changes atom (action_at actions at)) + changers atom (drop (at + 1) actions)
one_step atom actions at less = at_drop_more (changers atom) actions at (record { name = []; needs = 0; adds = 0; deletes = 0; cost = 1 }) less

-- one more action is counted, or passed
pub counted_more : (atom count : ℕ) (actions : List GroundAction) (at : ℕ) (test : Bool) → at < length actions
    → count + changers atom (drop at actions) ≡ changers atom actions → changes atom (action_at actions at) ≡ test
    → count + one_if test + changers atom (drop (at + 1) actions) ≡ changers atom actions
counted_more atom count actions at test less so_far is =
    let step : changers atom (drop at actions) ≡ one_if (changes atom (action_at actions at)) + changers atom (drop (at + 1) actions) = one_step atom actions at less in
    let one : one_if (changes atom (action_at actions at)) ≡ one_if test = ap one_if is in
    omega (arith, step, one, so_far)

-- the actions that were counted, and one more, are no more than there are
pub counted : (atom count : ℕ) (actions : List GroundAction) (at : ℕ) → at < length actions
    → count + changers atom (drop at actions) ≡ changers atom actions → changes atom (action_at actions at) ≡ true → count + 1 ≤ length actions
counted atom count actions at less so_far changed =
    let step : changers atom (drop at actions) ≡ one_if (changes atom (action_at actions at)) + changers atom (drop (at + 1) actions) = one_step atom actions at less in
    let one : one_if (changes atom (action_at actions at)) ≡ 1 = ap one_if changed in
    let few : changers atom actions ≤ length actions = changers_small atom actions in
    omega arith

-- ---- the best atom so far

-- the best of the atoms below a number that are left, or none where none of these is
abbrev pub IsBest : (counts tracked : List ℕ) (count : ℕ) → Option ℕ → Type 0
IsBest counts tracked count None = (other : ℕ) → other < count → IsTrue (is_left counts tracked other) → ⊥
IsBest counts tracked count (Some atom) =
    (atom < count) × IsTrue (is_left counts tracked atom) × ((other : ℕ) → other < count → IsTrue (is_left counts tracked other) → atom ≢ other → IsTrue (precedes counts atom other))

fewer_precedes : (counts : List ℕ) (one other : ℕ) → get_or counts one 0 < get_or counts other 0 → precedes counts one other ≡ true
fewer_precedes counts one other less =
    or_left (nat_lt (get_or counts one 0) (get_or counts other 0)) (get_or counts one 0 == get_or counts other 0 && nat_lt one other) (grind (arith, nat_tests))

lesser_precedes : (counts : List ℕ) (one other : ℕ) → get_or counts one 0 ≤ get_or counts other 0 → one < other → precedes counts one other ≡ true
lesser_precedes counts one other le less = which (cases_lt (get_or counts one 0) (get_or counts other 0)) where
  which : (get_or counts one 0 < get_or counts other 0) ⊎ (get_or counts other 0 ≤ get_or counts one 0) → precedes counts one other ≡ true
  which (inl fewer) = fewer_precedes counts one other fewer
  which (inr more) =
      or_right (nat_lt (get_or counts one 0) (get_or counts other 0)) (get_or counts one 0 == get_or counts other 0 && nat_lt one other)
      (and_from (get_or counts one 0 == get_or counts other 0) (nat_lt one other) (grind (arith, nat_tests)) (grind (arith, nat_tests)))

precedes_not_more : (counts : List ℕ) (one other : ℕ) → precedes counts one other ≡ true → get_or counts one 0 ≤ get_or counts other 0
precedes_not_more counts one other e = which (or_true (nat_lt (get_or counts one 0) (get_or counts other 0)) (get_or counts one 0 == get_or counts other 0 && nat_lt one other) e) where
  which : (nat_lt (get_or counts one 0) (get_or counts other 0) ≡ true) ⊎ ((get_or counts one 0 == get_or counts other 0 && nat_lt one other) ≡ true) → get_or counts one 0 ≤ get_or counts other 0
  which (inl fewer) = grind (arith, nat_tests)
  which (inr same) = let e : (get_or counts one 0 == get_or counts other 0) ≡ true = (and_true (get_or counts one 0 == get_or counts other 0) (nat_lt one other) same).0 in grind (arith, nat_tests)

best_kept : (counts tracked : List ℕ) (count : ℕ) (best : Option ℕ) → IsBest counts tracked count best
    → (is_left counts tracked count && is_fewer counts count best) ≡ false → IsBest counts tracked (count + 1) best
best_kept counts tracked count None is e = λ other less left. which other left (eq-or-lt_of_le (let le : other ≤ count = omega (arith, less) in le)) where
  which : (other : ℕ) → IsTrue (is_left counts tracked other) → (other ≡ count) ⊎ (other < count) → ⊥
  which other left (inr less) = is other less left
  which other left (inl same) =
      let here : is_left counts tracked count ≡ true = subst (λ n. is_left counts tracked n ≡ true) same left in
      true≢false (sym here ∙ by_cases (is_left counts tracked count) (λ h. not_both (is_left counts tracked count && true) (ap (λ b. b && true) h) e) (λ h. h))
best_kept counts tracked count (Some atom) is e = (omega (arith, is.0), is.1, λ other less left apart. which other left apart (eq-or-lt_of_le (let le : other ≤ count = omega (arith, less) in le))) where
  last : IsTrue (is_left counts tracked count) → get_or counts atom 0 ≤ get_or counts count 0
  last left =
      let off : nat_lt (get_or counts count 0) (get_or counts atom 0) ≡ false = sym (ap (λ b. b && nat_lt (get_or counts count 0) (get_or counts atom 0)) left) ∙ e in
      grind (arith, nat_tests)

  which : (other : ℕ) → IsTrue (is_left counts tracked other) → atom ≢ other → (other ≡ count) ⊎ (other < count) → IsTrue (precedes counts atom other)
  which other left apart (inr less) = is.2 other less left apart
  which other left apart (inl same) =
      subst (λ n. IsTrue (precedes counts atom n)) (sym same) (lesser_precedes counts atom count (last (subst (λ n. IsTrue (is_left counts tracked n)) same left)) is.0)

best_taken : (counts tracked : List ℕ) (count : ℕ) (best : Option ℕ) → IsBest counts tracked count best
    → (is_left counts tracked count && is_fewer counts count best) ≡ true → IsBest counts tracked (count + 1) (Some count)
best_taken counts tracked count best is e = (omega arith, two.0, λ other less left apart. which other left apart (eq-or-lt_of_le (let le : other ≤ count = omega (arith, less) in le))) where
  two : (is_left counts tracked count ≡ true) × (is_fewer counts count best ≡ true)
  two = and_true (is_left counts tracked count) (is_fewer counts count best) e

  before : (best : Option ℕ) → IsBest counts tracked count best → is_fewer counts count best ≡ true → (other : ℕ) → IsTrue (is_left counts tracked other) → other < count
      → get_or counts count 0 < get_or counts other 0
  before None is fewer other left less = absurd (is other less left)
  before (Some atom) is fewer other left less = go (other == atom) refl where
    here : get_or counts count 0 < get_or counts atom 0
    here = grind (arith, nat_tests)

    go : (test : Bool) → (other == atom) ≡ test → get_or counts count 0 < get_or counts other 0
    go true same = subst (λ n. get_or counts count 0 < get_or counts n 0) (sym (equal other atom same)) here
    go false apart =
        let more : get_or counts atom 0 ≤ get_or counts other 0 = precedes_not_more counts atom other (is.2 other less left (λ s. not_both (other == atom) (ap (λ n. n == atom) (sym s) ∙ equal_self atom) apart)) in
        omega (arith, more, here)

  which : (other : ℕ) → IsTrue (is_left counts tracked other) → count ≢ other → (other ≡ count) ⊎ (other < count) → IsTrue (precedes counts count other)
  which other left apart (inr less) = fewer_precedes counts count other (before best is two.1 other left less)
  which other left apart (inl same) = absurd (apart (sym same))

-- one atom more
pub best_more : (counts tracked : List ℕ) (count : ℕ) (best : Option ℕ) → IsBest counts tracked count best → IsBest counts tracked (count + 1) (better counts tracked count best)
best_more counts tracked count best is = go (is_left counts tracked count && is_fewer counts count best) refl where
  go : (test : Bool) → (is_left counts tracked count && is_fewer counts count best) ≡ test → IsBest counts tracked (count + 1) (if test then Some count else best)
  go true e = best_taken counts tracked count best is e
  go false e = best_kept counts tracked count best is e

-- an atom that is left is one of those that are counted
pub left_known : (counts tracked : List ℕ) (atom : ℕ) → IsTrue (is_left counts tracked atom) → atom < length counts
left_known counts tracked atom left = which (cases_lt atom (length counts)) where
  some : 0 < get_or counts atom 0
  some = below 0 (get_or counts atom 0) (and_true (nat_lt 0 (get_or counts atom 0)) (not (has tracked atom)) left).0

  which : (atom < length counts) ⊎ (length counts ≤ atom) → atom < length counts
  which (inl less) = less
  which (inr past) = let none : get_or counts atom 0 ≡ 0 = get_or_past counts atom 0 past in absurd (omega (arith, none, some))

pub next_is : (counts tracked : List ℕ) (atom : ℕ) → IsBest counts tracked (length counts) (Some atom) → IsNext counts tracked atom
next_is counts tracked atom is = record { left = is.1; first = λ other left apart. is.2 other (left_known counts tracked other left) left apart }

pub none_is : (counts tracked : List ℕ) → IsBest counts tracked (length counts) None → IsNone counts tracked
none_is counts tracked is = λ atom left. is atom (left_known counts tracked atom left) left

-- ---- atoms that are left are changed atoms that aren't tracked

pub not_has : (tracked : List ℕ) (other : ℕ) → All (λ atom. atom ≢ other) tracked → has tracked other ≡ false
not_has tracked other apart = by_cases (has tracked other) (λ e. at (has_contains tracked other e)) (λ e. e) where
  at : ((k : ℕ) × (k < length tracked) × (get_or tracked k other ≡ other)) → has tracked other ≡ false
  at (k, less, is) = absurd (apart k other less is)

pub all_apart : (tracked : List ℕ) (other : ℕ) → has tracked other ≡ false → All (λ atom. atom ≢ other) tracked
all_apart tracked other none = λ k d less same. true≢false (sym (has_at tracked k d less) ∙ ap (has tracked) same ∙ none)

module _ (strips : StripsParts) (counts : List ℕ) (are : AreCounts strips counts) where
  changed_left : (tracked : List ℕ) (atom : ℕ) → IsTrue (is_changed strips atom) → All (λ a. a ≢ atom) tracked → IsTrue (is_left counts tracked atom)
  changed_left tracked atom changed apart =
      let two = and_true (nat_lt atom strips.atoms) (nat_lt 0 (changers atom strips.actions)) changed in
      ap (λ n. nat_lt 0 n && not (has tracked atom)) (are.each atom (below atom strips.atoms two.0)) ∙ ap (λ b. b && not (has tracked atom)) two.1 ∙ ap not (not_has tracked atom apart)

  left_apart : (tracked : List ℕ) (atom : ℕ) → IsTrue (is_left counts tracked atom) → All (λ a. a ≢ atom) tracked
  left_apart tracked atom left = all_apart tracked atom (not_true (has tracked atom) (and_true (nat_lt 0 (get_or counts atom 0)) (not (has tracked atom)) left).1)

  left_changed : (tracked : List ℕ) (atom : ℕ) → IsTrue (is_left counts tracked atom) → IsTrue (is_changed strips atom)
  left_changed tracked atom left =
      let known : atom < strips.atoms = subst (λ n. atom < n) are.len (left_known counts tracked atom left) in
      let within : nat_lt atom strips.atoms ≡ true = grind (arith, nat_tests) in
      ap (λ b. b && nat_lt 0 (changers atom strips.actions)) within
      ∙ ap (λ n. nat_lt 0 n) (sym (are.each atom known)) ∙ (and_true (nat_lt 0 (get_or counts atom 0)) (not (has tracked atom)) left).0

  precedes_before : (tracked : List ℕ) (one other : ℕ) → IsTrue (is_left counts tracked one) → IsTrue (is_left counts tracked other) → IsTrue (precedes counts one other) → IsTrue (comes_before strips one other)
  precedes_before tracked one other left left' e =
      ap (λ n. nat_lt n (changers other strips.actions) || (n == changers other strips.actions && nat_lt one other)) (sym (are.each one (subst (λ n. one < n) are.len (left_known counts tracked one left))))
      ∙ ap (λ n. nat_lt (get_or counts one 0) n || (get_or counts one 0 == n && nat_lt one other)) (sym (are.each other (subst (λ n. other < n) are.len (left_known counts tracked other left'))))
      ∙ e

  -- one atom more is tracked
  pub first_more : (tracked : List ℕ) (atom : ℕ) → AreFirst strips tracked → IsNext counts tracked atom → AreFirst strips (tracked ++ atom ∷ [])
  first_more tracked atom f next = record {
    changed = All-push (λ a. IsTrue (is_changed strips a)) tracked atom f.changed changed;
    order = order_push tracked f.order (f.first atom changed apart);
    first = λ other changed' apart'.
        let rest : All (λ a. a ≢ other) tracked = (front tracked other atom apart').0 in
        let left' : IsTrue (is_left counts tracked other) = changed_left tracked other changed' rest in
        All-push (λ a. IsTrue (comes_before strips a other)) tracked atom (f.first other changed' rest)
        (precedes_before tracked atom other next.left left' (next.first other left' (front tracked other atom apart').1));
  } where
    changed : IsTrue (is_changed strips atom)
    changed = left_changed tracked atom next.left

    apart : All (λ a. a ≢ atom) tracked
    apart = left_apart tracked atom next.left

    order_push : (atoms : List ℕ) → AreInOrder strips atoms → All (λ a. IsTrue (comes_before strips a atom)) atoms → AreInOrder strips (atoms ++ atom ∷ [])
    order_push [] o all = (All-nil (λ a. IsTrue (comes_before strips atom a)), tt)
    order_push (a ∷ atoms) o all = (
      All-push (λ b. IsTrue (comes_before strips a b)) atoms atom o.0 (All-head (λ b. IsTrue (comes_before strips b atom)) a atoms all),
      order_push atoms o.1 (All-tail (λ b. IsTrue (comes_before strips b atom)) a atoms all),
    )

    front : (atoms : List ℕ) (other last : ℕ) → All (λ a. a ≢ other) (atoms ++ last ∷ []) → All (λ a. a ≢ other) atoms × (last ≢ other)
    front [] other last all = (All-nil (λ a. a ≢ other), All-head (λ a. a ≢ other) last [] all)
    front (a ∷ atoms) other last all =
        let rest = front atoms other last (All-tail (λ b. b ≢ other) a (atoms ++ last ∷ []) all) in
        (All-cons (λ b. b ≢ other) a atoms (All-head (λ b. b ≢ other) a (atoms ++ last ∷ []) all) rest.0, rest.1)

  -- no atom is left, and all that are changed are tracked
  pub all_tracked : (tracked : List ℕ) → IsNone counts tracked → (other : ℕ) → IsTrue (is_changed strips other) → All (λ a. a ≢ other) tracked → ⊥
  all_tracked tracked none other changed apart = none other (changed_left tracked other changed apart)

-- fewer than 12 atoms are tracked where one more makes no more than 4,096 blocks
pub few_tracked : (blocks count wish : ℕ) → blocks ≡ 2 ^ count → 2 * blocks ≤ wish → wish ≤ 4096 → count < 12
few_tracked blocks count wish is more few = which (cases_lt count 12) where
  which : (count < 12) ⊎ (12 ≤ count) → count < 12
  which (inl less) = less
  which (inr many) = let up : 2 ^ 12 ≤ 2 ^ count = pow_mono {i = 12} {j = count} many in absurd (omega arith)

pub first_none : (strips : StripsParts) → AreFirst strips []
first_none strips = record {
  changed = All-nil (λ a. IsTrue (is_changed strips a));
  order = tt;
  first = λ other changed apart. All-nil (λ a. IsTrue (comes_before strips a other));
}

pub tracked_is : (strips : StripsParts) (wish : ℕ) (atoms : List ℕ) → AreFirst strips atoms → 2 ^ length atoms ≤ wish
    → ((wish < 2 ^ suc (length atoms)) ⊎ ((other : ℕ) → IsTrue (is_changed strips other) → All (λ a. a ≢ other) atoms → ⊥)) → AreTracked strips wish atoms
tracked_is strips wish atoms f few most = record { changed = f.changed; order = f.order; first = f.first; few = few; most = most }
