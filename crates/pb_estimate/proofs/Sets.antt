-- The atoms of a set, and merged actions as relaxed ones.
use Rattle.std.proofs.Common.{◌≡◌, ℕ, zero, suc, ◌+◌, ◌<◌, ◌≤◌, Bool, true, false, List, [], ◌∷◌, ◌++◌, length, map, All, Contains, if◌then◌else◌, refl, sym, subst, ap, arith, ◌∙◌, ◌⊎◌, inl, inr}
use Rattle.std.proofs.Math.Nat.{eq-or-lt_of_le}
use Rattle.std.proofs.lemmas.List.{get_or-map, length-append}
use Rattle.std.proofs.lemmas.List.Elements.{All-append, All-cons, All-nil, All-contains, Contains-append_left, Contains-push}
use Rattle.pb_task.specs.Strips.{has_atom}
use Rattle.pb_estimate.specs.Exploring.{count}
use Rattle.pb_estimate.specs.declared.merging.MergedAction.{MergedAction}
use Rattle.pb_estimate.specs.Merged.{merged_at}
use Rattle.pb_estimate.specs.Relaxed.{relaxed_at}
use Rattle.pb_estimate.specs.Tables.{atoms_in, relaxed_action}

-- ---- the atoms of a set

pub all_in : (P : ℕ → Type 0) (set count : ℕ) → ((atom : ℕ) → atom < count → has_atom set atom ≡ true → P atom) → All P (atoms_in set count)
all_in P set zero each = All-nil P
all_in P set (suc last) each =
    All-append P (atoms_in set last) (if has_atom set last then last ∷ [] else []) (all_in P set last (λ atom less has. each atom (omega (arith, less)) has))
    (here (has_atom set last) (λ has. each last (omega arith) has))
  where
    here : (test : Bool) → (test ≡ true → P last) → All P (if test then last ∷ [] else [])
    here true h = All-cons P last [] (h refl) (All-nil P)
    here false h = All-nil P

pub contains_in : (set count atom : ℕ) → atom < count → has_atom set atom ≡ true → Contains (atoms_in set count) atom
contains_in set zero atom less has = absurd (omega (arith, less))
contains_in set (suc last) atom less has = go (eq-or-lt_of_le (let le : atom ≤ last = omega (arith, less) in le)) (λ lower. contains_in set last atom lower has) where
  here : (test : Bool) → test ≡ true → Contains (atoms_in set last ++ (if test then last ∷ [] else [])) last
  here true e = Contains-push (atoms_in set last) last
  here false e = cc

  go : (atom ≡ last) ⊎ (atom < last) → (atom < last → Contains (atoms_in set last) atom) → Contains (atoms_in set (suc last)) atom
  go (inl e) rest = subst (λ a. Contains (atoms_in set (suc last)) a) (sym e) (here (has_atom set last) (subst (λ a. has_atom set a ≡ true) e has))
  go (inr lower) rest = Contains-append_left (atoms_in set last) (if has_atom set last then last ∷ [] else []) atom (rest lower)

pub is_in : (set count atom : ℕ) → Contains (atoms_in set count) atom → (atom < count) × (has_atom set atom ≡ true)
is_in set count atom among =
    All-contains (λ a. (a < count) × (has_atom set a ≡ true)) (atoms_in set count) atom (all_in (λ a. (a < count) × (has_atom set a ≡ true)) set count (λ a less has. (less, has))) among

pub many_in : (set below : ℕ) → length (atoms_in set below) ≡ count (has_atom set) below
many_in set zero = refl
many_in set (suc last) =
    length-append (atoms_in set last) (if has_atom set last then last ∷ [] else []) ∙ ap (λ n. n + length (if has_atom set last then last ∷ [] else [])) (many_in set last)
    ∙ ap (λ n. count (has_atom set) last + n) (one (has_atom set last))
  where
    one : (test : Bool) → length (if test then last ∷ [] else []) ≡ (if test then 1 else 0)
    one true = refl
    one false = refl

-- ---- merged actions

pub relaxed_is : (count : ℕ) (merged : List MergedAction) (user : ℕ) → user < length merged → relaxed_at (map (relaxed_action count) merged) user ≡ relaxed_action count (merged_at merged user)
relaxed_is count merged user less = get_or-map (relaxed_action count) merged user (record { needs = 0; adds = 0; cost = 1 }) (record { adds = []; cost = 1 }) less
