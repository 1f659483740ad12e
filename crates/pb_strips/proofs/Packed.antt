-- Sets of numbered atoms, by their atoms.
use Rattle.std.proofs.Common.{◌≡◌, ◌<◌, ℕ, Bool, true, false, not, ◌&&◌, ◌||◌, nat_eq, List, [], ◌∷◌, refl, sym, ap, ◌∙◌}
use Rattle.std.specs.List.{list_any, list_all}
use Rattle.std.proofs.lemmas.Bool.{and_parts, and_from, eq-eqb, eqb-true, or_right}
use Rattle.std.proofs.lemmas.List.Elements.{All-head, All-tail}
use Rattle.pb_pddl.specs.declared.tree.Domain.{Domain}
use Rattle.pb_pddl.specs.declared.tree.Problem.{Problem}
use Rattle.pb_ground.specs.declared.actions.ActionInstance as instance
use Rattle.pb_ground.specs.Steps.{bits_after}
use Rattle.pb_task.specs.Strips.{has_atom, holds_after}
use Rattle.pb_task.proofs.Callers.{Within, sets_are_of_atoms}
use Rattle.pb_strips.specs.Grounding.{numbered_set, packed_action}
use Rattle.pb_strips.specs.Packing.{AreAtoms}

pub has_number : (count : ℕ) (numbers : List ℕ) (n : ℕ) → n < count → has_atom (numbered_set count numbers) n ≡ list_any (nat_eq n) numbers
has_number count numbers n less = (sets_are_of_atoms.0 count (λ atom. list_any (nat_eq atom) numbers)).1 n less

-- ---- a set within a state

all_of : (count : ℕ) (holds : ℕ → Bool) (numbers : List ℕ) → AreAtoms count numbers → ((n : ℕ) → n < count → list_any (nat_eq n) numbers ≡ true → holds n ≡ true)
    → list_all holds numbers ≡ true
all_of count holds [] below each = refl
all_of count holds (n ∷ numbers) below each =
    and_from (holds n) (list_all holds numbers)
    (each n (All-head (λ k. k < count) n numbers below) (ap (λ b. b || list_any (nat_eq n) numbers) (eq-eqb n n refl)))
    (all_of count holds numbers (All-tail (λ k. k < count) n numbers below) (λ k less among. each k less (or_right (nat_eq k n) (list_any (nat_eq k) numbers) among)))

each_of : (holds : ℕ → Bool) (numbers : List ℕ) (n : ℕ) → list_all holds numbers ≡ true → list_any (nat_eq n) numbers ≡ true → holds n ≡ true
each_of holds [] n all among = cc
each_of holds (k ∷ numbers) n all among = at (λ later found. each_of holds numbers n later found) (nat_eq n k) refl among
  where
    both : (holds k ≡ true) × (list_all holds numbers ≡ true)
    both = and_parts (holds k) (list_all holds numbers) all

    at : (list_all holds numbers ≡ true → list_any (nat_eq n) numbers ≡ true → holds n ≡ true) → (b : Bool) → nat_eq n k ≡ b → (b || list_any (nat_eq n) numbers) ≡ true → holds n ≡ true
    at later true e found = ap holds (eqb-true n k e) ∙ both.0
    at later false e found = later both.1 found

pub all_within : (count : ℕ) (numbers : List ℕ) (state : ℕ) → AreAtoms count numbers → Within count (numbered_set count numbers) state → list_all (has_atom state) numbers ≡ true
all_within count numbers state below within = all_of count (has_atom state) numbers below (λ n less among. within n less (has_number count numbers n less ∙ among))

pub within_all : (count : ℕ) (numbers : List ℕ) (state : ℕ) → list_all (has_atom state) numbers ≡ true → Within count (numbered_set count numbers) state
within_all count numbers state all n less is = each_of (has_atom state) numbers n all (sym (has_number count numbers n less) ∙ is)

-- ---- the state after an action

pub packed_after : (domain : Domain) (problem : Problem) (count : ℕ) (action : instance.ActionInstance) (state n : ℕ) → n < count
    → holds_after (packed_action domain problem count action) state n ≡ bits_after (has_atom state) action n
packed_after domain problem count action state n less =
    ap (λ b. b || (has_atom state n && not (has_atom (numbered_set count action.deletes) n))) (has_number count action.adds n less)
    ∙ ap (λ b. list_any (nat_eq n) action.adds || (has_atom state n && not b)) (has_number count action.deletes n less)
