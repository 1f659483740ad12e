-- The order of the tracked atoms: there is one list of them at most, and its atoms are different atoms of the task.
use Rattle.std.proofs.Common.{◌≡◌, ◌≢◌, ℕ, suc, ◌+◌, ◌^◌, ◌<◌, ◌≤◌, true, false, ◌&&◌, ◌||◌, ◌==◌, IsTrue, List, [], ◌∷◌, length, get_or, All, nat_lt, refl, sym, ap, subst, ◌∙◌, arith, ◌⊎◌, inl, inr}
use Rattle.std.proofs.Math.Pow.{pow_mono}
use Rattle.std.proofs.lemmas.Bool.{or_from, cases_lt}
use Rattle.std.proofs.lemmas.List.Elements.{All-head, All-tail, All-weaker, All-contains}
use Rattle.pb_model.proofs.Callers.{and_true, or_true, or_false, by_cases, equal, equal_self, below, not_both}
use Rattle.pb_task.specs.declared.parts.StripsParts.{StripsParts}
use Rattle.pb_abstract.specs.Tracked.{changers, is_changed, comes_before, AreInOrder, AreTracked, AreDifferent, AreAtoms}
use Rattle.pb_abstract.specs.Graph.{has}
use Rattle.pb_abstract.proofs.Members.{has_contains}
use Rattle.pb_abstract.proofs.Ranking.{all_apart}

either : (m n i j : ℕ) → (nat_lt m n || (m == n && nat_lt i j)) ≡ true → (m < n) ⊎ ((m ≡ n) × (i < j))
either m n i j e = which (or_true (nat_lt m n) (m == n && nat_lt i j) e) where
  which : (nat_lt m n ≡ true) ⊎ ((m == n && nat_lt i j) ≡ true) → (m < n) ⊎ ((m ≡ n) × (i < j))
  which (inl less) = inl (below m n less)
  which (inr same) = let two = and_true (m == n) (nat_lt i j) same in inr (equal m n two.0, below i j two.1)

clash : (m n i j : ℕ) → (m < n) ⊎ ((m ≡ n) × (i < j)) → (n < m) ⊎ ((n ≡ m) × (j < i)) → ⊥
clash m n i j (inl p) (inl q) = omega arith
clash m n i j (inl p) (inr q) = omega (arith, q.0)
clash m n i j (inr p) (inl q) = omega (arith, p.0)
clash m n i j (inr p) (inr q) = omega (arith, p.1, q.1)

module _ (strips : StripsParts) where
  -- no two atoms come before one another
  not_both_ways : (one other : ℕ) → IsTrue (comes_before strips one other) → IsTrue (comes_before strips other one) → ⊥
  not_both_ways one other e f =
      clash (changers one strips.actions) (changers other strips.actions) one other (either (changers one strips.actions) (changers other strips.actions) one other e)
      (either (changers other strips.actions) (changers one strips.actions) other one f)

  not_itself : (one other : ℕ) → IsTrue (comes_before strips one other) → other ≢ one
  not_itself one other e same =
      let f : IsTrue (comes_before strips one one) = subst (λ n. IsTrue (comes_before strips one n)) same e in not_both_ways one one f f

  are_different : (atoms : List ℕ) → AreInOrder strips atoms → AreDifferent atoms
  are_different [] order = tt
  are_different (atom ∷ atoms) order = (All-weaker (λ a. IsTrue (comes_before strips atom a)) (λ a. a ≢ atom) (λ a. not_itself atom a) atoms order.0, are_different atoms order.1)

  few_atoms : (wish count : ℕ) → wish ≤ 4096 → 2 ^ count ≤ wish → count ≤ 12
  few_atoms wish count few is = which (cases_lt 12 count) where
    which : (12 < count) ⊎ (count ≤ 12) → count ≤ 12
    which (inl more) = let up : 2 ^ 13 ≤ 2 ^ count = pow_mono {i = 13} {j = count} (omega arith) in absurd (omega arith)
    which (inr le) = le

  pub are_atoms : (wish : ℕ) (atoms : List ℕ) → wish ≤ 4096 → AreTracked strips wish atoms → AreAtoms strips atoms
  are_atoms wish atoms few t = record {
    few = few_atoms wish (length atoms) few t.few;
    below = All-weaker (λ a. IsTrue (is_changed strips a)) (λ a. a < strips.atoms)
        (λ a changed. below a strips.atoms (and_true (nat_lt a strips.atoms) (nat_lt 0 (changers a strips.actions)) changed).0) atoms t.changed;
    different = are_different atoms t.order;
  }

  -- ---- what is left of a list of tracked atoms behind some that are seen

  record IsRest (wish : ℕ) (seen rest : List ℕ) : Type 0 where
    pub changed : All (λ a. IsTrue (is_changed strips a)) rest
    pub order : AreInOrder strips rest
    pub unseen : All (λ a. has seen a ≡ false) rest
    pub first : (other : ℕ) → IsTrue (is_changed strips other) → has seen other ≡ false → has rest other ≡ false → All (λ a. IsTrue (comes_before strips a other)) rest
    pub few : 2 ^ (length seen + length rest) ≤ wish
    pub most : (wish < 2 ^ suc (length seen + length rest)) ⊎ ((other : ℕ) → IsTrue (is_changed strips other) → has seen other ≡ false → has rest other ≡ false → ⊥)

  -- the first atom is seen as well
  one_seen : (wish atom : ℕ) (seen rest : List ℕ) → IsRest wish seen (atom ∷ rest) → IsRest wish (atom ∷ seen) rest
  one_seen wish atom seen rest r = record {
    changed = All-tail (λ a. IsTrue (is_changed strips a)) atom rest r.changed;
    order = r.order.1;
    unseen = λ k d less. apart (get_or rest k d) (All-tail (λ a. has seen a ≡ false) atom rest r.unseen k d less) (r.order.0 k d less);
    first = λ other changed unseen none.
        All-tail (λ a. IsTrue (comes_before strips a other)) atom rest (r.first other changed (or_false (atom == other) (has seen other) unseen).1 (or_from (atom == other) (has rest other) (or_false (atom == other) (has seen other) unseen).0 none));
    few = subst (λ n. 2 ^ n ≤ wish) many r.few;
    most = which r.most;
  } where
    many : length seen + suc (length rest) ≡ suc (length seen) + length rest
    many = omega arith

    apart : (a : ℕ) → has seen a ≡ false → IsTrue (comes_before strips atom a) → has (atom ∷ seen) a ≡ false
    apart a none e = or_from (atom == a) (has seen a) (by_cases (atom == a) (λ same. absurd (not_itself atom a e (sym (equal atom a same)))) (λ off. off)) none

    which : (wish < 2 ^ suc (length seen + suc (length rest))) ⊎ ((other : ℕ) → IsTrue (is_changed strips other) → has seen other ≡ false → has (atom ∷ rest) other ≡ false → ⊥)
        → (wish < 2 ^ suc (suc (length seen) + length rest)) ⊎ ((other : ℕ) → IsTrue (is_changed strips other) → has (atom ∷ seen) other ≡ false → has rest other ≡ false → ⊥)
    which (inl more) = inl (subst (λ n. wish < 2 ^ suc n) many more)
    which (inr all) = inr (λ other changed unseen none. all other changed (or_false (atom == other) (has seen other) unseen).1 (or_from (atom == other) (has rest other) (or_false (atom == other) (has seen other) unseen).0 none))

  -- one list can't go on where another ends
  no_longer : (wish atom : ℕ) (seen rest : List ℕ) → IsRest wish seen [] → IsRest wish seen (atom ∷ rest) → ⊥
  no_longer wish atom seen rest one two = which one.most where
    which : (wish < 2 ^ suc (length seen + 0)) ⊎ ((other : ℕ) → IsTrue (is_changed strips other) → has seen other ≡ false → has [] other ≡ false → ⊥) → ⊥
    which (inl more) =
        let few : 2 ^ (length seen + suc (length rest)) ≤ wish = two.few in
        let up : 2 ^ suc (length seen + 0) ≤ 2 ^ (length seen + suc (length rest)) = pow_mono {i = suc (length seen + 0)} {j = length seen + suc (length rest)} (omega arith) in
        omega (arith, more, few, up)
    which (inr all) = all atom (All-head (λ a. IsTrue (is_changed strips a)) atom rest two.changed) (All-head (λ a. has seen a ≡ false) atom rest two.unseen) refl

  -- the first atom of a list comes before any other atom that isn't seen
  comes_first : (wish atom other : ℕ) (seen rest : List ℕ) → IsRest wish seen (atom ∷ rest) → IsTrue (is_changed strips other) → has seen other ≡ false → (atom == other) ≡ false
      → IsTrue (comes_before strips atom other)
  comes_first wish atom other seen rest r changed unseen apart =
      by_cases (has rest other)
      (λ e. All-contains (λ a. IsTrue (comes_before strips atom a)) rest other r.order.0 (has_contains rest other e))
      (λ e. All-head (λ a. IsTrue (comes_before strips a other)) atom rest (r.first other changed unseen (or_from (atom == other) (has rest other) apart e)))

  same_rest : (wish : ℕ) (seen one two : List ℕ) → IsRest wish seen one → IsRest wish seen two → one ≡ two
  same_rest wish seen [] [] a b = refl
  same_rest wish seen [] (y ∷ ys) a b = absurd (no_longer wish y seen ys a b)
  same_rest wish seen (x ∷ xs) [] a b = absurd (no_longer wish x seen xs b a)
  same_rest wish seen (x ∷ xs) (y ∷ ys) a b = join x xs y ys same (same_rest wish (x ∷ seen) xs ys (one_seen wish x seen xs a) (one_seen wish x seen ys (subst (λ n. IsRest wish seen (n ∷ ys)) (sym same) b)))
    where
      join : (x : ℕ) (xs : List ℕ) (y : ℕ) (ys : List ℕ) → x ≡ y → xs ≡ ys → x ∷ xs ≡ y ∷ ys
      join x xs y ys e f = cc

      same : x ≡ y
      same = by_cases (x == y) (λ e. equal x y e) (λ off. absurd (not_both_ways x y
          (comes_first wish x y seen xs a (All-head (λ n. IsTrue (is_changed strips n)) y ys b.changed) (All-head (λ n. has seen n ≡ false) y ys b.unseen) off)
          (comes_first wish y x seen ys b (All-head (λ n. IsTrue (is_changed strips n)) x xs a.changed) (All-head (λ n. has seen n ≡ false) x xs a.unseen)
          (by_cases (y == x) (λ e. not_both (x == y) (ap (λ n. n == y) (sym (equal y x e)) ∙ equal_self y) off) (λ e. e)))))

  whole : (wish : ℕ) (atoms : List ℕ) → AreTracked strips wish atoms → IsRest wish [] atoms
  whole wish atoms t = record {
    changed = t.changed;
    order = t.order;
    unseen = λ k d less. refl;
    first = λ other changed unseen none. t.first other changed (all_apart atoms other none);
    few = subst (λ n. 2 ^ n ≤ wish) all t.few;
    most = which t.most;
  } where
    all : length atoms ≡ 0 + length atoms
    all = omega arith

    which : (wish < 2 ^ suc (length atoms)) ⊎ ((other : ℕ) → IsTrue (is_changed strips other) → All (λ a. a ≢ other) atoms → ⊥)
        → (wish < 2 ^ suc (0 + length atoms)) ⊎ ((other : ℕ) → IsTrue (is_changed strips other) → has [] other ≡ false → has atoms other ≡ false → ⊥)
    which (inl more) = inl (subst (λ n. wish < 2 ^ suc n) all more)
    which (inr none) = inr (λ other changed unseen apart. none other changed (all_apart atoms other apart))

  pub tracked_are_unique : (wish : ℕ) (one two : List ℕ) → AreTracked strips wish one → AreTracked strips wish two → one ≡ two
  tracked_are_unique wish one two a b = same_rest wish [] one two (whole wish one a) (whole wish two b)
