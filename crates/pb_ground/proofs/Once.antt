-- Numbers that stand once: what some, and what all of them are is what some and all of the atoms' numbers are.
use Rattle.std.proofs.Common.{◌≡◌, ℕ, Bool, true, false, cond, ◌&&◌, ◌||◌, nat_eq, List, [], ◌∷◌, ◌++◌, Option, Some, None, refl, sym, ap, ◌∙◌}
use Rattle.std.proofs.Math.Bool.{or-false, and-true, or_assoc, and_assoc}
use Rattle.std.proofs.lemmas.Bool.{eqb-true}
use Rattle.std.proofs.lemmas.List.Folds.{list_any-append, list_all-append}
use Rattle.std.specs.List.{list_any, list_all, flat_map}
use Rattle.pb_lifted.specs.declared.lifted.LiftedAtom.{LiftedAtom}
use Rattle.pb_ground.specs.declared.atoms.GroundAtom.{GroundAtom}
use Rattle.pb_ground.specs.Actions.{with_number_in, numbers_with, numbers_of}
use Rattle.pb_ground.specs.Atoms.{grounded, number_in}

abbrev pub number_list : Option ℕ → List ℕ
number_list None = []
number_list (Some n) = n ∷ []

-- the numbers with repetitions, where several atoms become one
abbrev pub repeated : List GroundAtom → List ℕ → List LiftedAtom → List ℕ
repeated atoms given list = flat_map (λ a. number_list (number_in (grounded given a) atoms)) list

-- a number that is there adds nothing
any_among : (p : ℕ → Bool) (n : ℕ) (numbers : List ℕ) → list_any (nat_eq n) numbers ≡ true → list_any p numbers ≡ (list_any p numbers || p n)
any_among p n [] e = cc
any_among p n (x ∷ numbers) e = at (any_among p n numbers) (nat_eq n x) refl e
  where
    once_more : (a b : Bool) → (a || b) ≡ ((a || b) || a)
    once_more true b = refl
    once_more false true = refl
    once_more false false = refl

    at : (list_any (nat_eq n) numbers ≡ true → list_any p numbers ≡ (list_any p numbers || p n)) → (same : Bool) → nat_eq n x ≡ same → (same || list_any (nat_eq n) numbers) ≡ true → (p x || list_any p numbers) ≡ ((p x || list_any p numbers) || p n)
    at later true q h = once_more (p x) (list_any p numbers) ∙ ap (λ k. (p x || list_any p numbers) || p k) (sym (eqb-true n x q))
    at later false q h = ap (λ b. p x || b) (later h) ∙ sym (or_assoc (p x) (list_any p numbers) (p n))

all_among : (p : ℕ → Bool) (n : ℕ) (numbers : List ℕ) → list_any (nat_eq n) numbers ≡ true → list_all p numbers ≡ (list_all p numbers && p n)
all_among p n [] e = cc
all_among p n (x ∷ numbers) e = at (all_among p n numbers) (nat_eq n x) refl e
  where
    once_more : (a b : Bool) → (a && b) ≡ ((a && b) && a)
    once_more true true = refl
    once_more true false = refl
    once_more false b = refl

    at : (list_any (nat_eq n) numbers ≡ true → list_all p numbers ≡ (list_all p numbers && p n)) → (same : Bool) → nat_eq n x ≡ same → (same || list_any (nat_eq n) numbers) ≡ true → (p x && list_all p numbers) ≡ ((p x && list_all p numbers) && p n)
    at later true q h = once_more (p x) (list_all p numbers) ∙ ap (λ k. (p x && list_all p numbers) && p k) (sym (eqb-true n x q))
    at later false q h = ap (λ b. p x && b) (later h) ∙ sym (and_assoc (p x) (list_all p numbers) (p n))

any_with : (p : ℕ → Bool) (numbers : List ℕ) (number : Option ℕ) → list_any p (with_number_in numbers number) ≡ (list_any p numbers || list_any p (number_list number))
any_with p numbers None = sym (or-false (list_any p numbers))
any_with p numbers (Some n) = at (list_any (nat_eq n) numbers) refl
  where
    at : (there : Bool) → list_any (nat_eq n) numbers ≡ there → list_any p (cond there numbers (numbers ++ n ∷ [])) ≡ (list_any p numbers || (p n || false))
    at true e = any_among p n numbers e ∙ ap (λ b. list_any p numbers || b) (sym (or-false (p n)))
    at false e = list_any-append p numbers (n ∷ [])

all_with : (p : ℕ → Bool) (numbers : List ℕ) (number : Option ℕ) → list_all p (with_number_in numbers number) ≡ (list_all p numbers && list_all p (number_list number))
all_with p numbers None = sym (and-true (list_all p numbers))
all_with p numbers (Some n) = at (list_any (nat_eq n) numbers) refl
  where
    at : (there : Bool) → list_any (nat_eq n) numbers ≡ there → list_all p (cond there numbers (numbers ++ n ∷ [])) ≡ (list_all p numbers && (p n && true))
    at true e = all_among p n numbers e ∙ ap (λ b. list_all p numbers && b) (sym (and-true (p n)))
    at false e = list_all-append p numbers (n ∷ [])

any_numbers : (p : ℕ → Bool) (atoms : List GroundAtom) (given numbers : List ℕ) (list : List LiftedAtom)
    → list_any p (numbers_with atoms given numbers list) ≡ (list_any p numbers || list_any p (repeated atoms given list))
any_numbers p atoms given numbers [] = sym (or-false (list_any p numbers))
any_numbers p atoms given numbers (a ∷ list) =
    let number = number_in (grounded given a) atoms in
    any_numbers p atoms given (with_number_in numbers number) list
    ∙ (ap (λ b. b || list_any p (repeated atoms given list)) (any_with p numbers number)
    ∙ (or_assoc (list_any p numbers) (list_any p (number_list number)) (list_any p (repeated atoms given list))
    ∙ ap (λ b. list_any p numbers || b) (sym (list_any-append p (number_list number) (repeated atoms given list)))))

all_numbers : (p : ℕ → Bool) (atoms : List GroundAtom) (given numbers : List ℕ) (list : List LiftedAtom)
    → list_all p (numbers_with atoms given numbers list) ≡ (list_all p numbers && list_all p (repeated atoms given list))
all_numbers p atoms given numbers [] = sym (and-true (list_all p numbers))
all_numbers p atoms given numbers (a ∷ list) =
    let number = number_in (grounded given a) atoms in
    all_numbers p atoms given (with_number_in numbers number) list
    ∙ (ap (λ b. b && list_all p (repeated atoms given list)) (all_with p numbers number)
    ∙ (and_assoc (list_all p numbers) (list_all p (number_list number)) (list_all p (repeated atoms given list))
    ∙ ap (λ b. list_all p numbers && b) (sym (list_all-append p (number_list number) (repeated atoms given list)))))

pub any_once : (p : ℕ → Bool) (atoms : List GroundAtom) (given : List ℕ) (list : List LiftedAtom) → list_any p (numbers_of atoms given list) ≡ list_any p (repeated atoms given list)
any_once p atoms given list = any_numbers p atoms given [] list

pub all_once : (p : ℕ → Bool) (atoms : List GroundAtom) (given : List ℕ) (list : List LiftedAtom) → list_all p (numbers_of atoms given list) ≡ list_all p (repeated atoms given list)
all_once p atoms given list = all_numbers p atoms given [] list
