-- Which instances and which ground atoms there are.
use Rattle.std.proofs.Common.{◌≡◌, ◌+◌, ◌<◌, ℕ, zero, suc, Bool, true, false, cond, ◌&&◌, ◌||◌, nat_eq, nat_lt, List, [], ◌∷◌, map, length, get_or, slice_get, refl, sym, ap, ◌∙◌, arith}
use Rattle.std.proofs.Math.Bool.{or-false, and-false, and-or_distrib_left, and-or_distrib_right}
use Rattle.std.proofs.lemmas.Bool.{eq-eqb, le-ltb, lt-ltb, ne_eqb}
use Rattle.std.proofs.lemmas.Bool.Decides.{nat_tests}
use Rattle.std.proofs.lemmas.List.Folds.{list_any-append}
use Rattle.std.specs.List.{list_any, flat_map}
use Rattle.std.specs.Str.{bytes_eq}
use Rattle.pb_lifted.specs.Tree.{comes_to}
use Rattle.pb_lifted.specs.declared.lifted.Lifted.{Lifted}
use Rattle.pb_ground.specs.declared.atoms.GroundAtom.{GroundAtom}
use Rattle.pb_ground.specs.Atoms.{is_fluent, atom_of, atoms_of, atoms_from, same_atom, ground_atoms}
use Rattle.pb_ground.specs.Instances.{fitting_from, fitting, instances}
use Rattle.pb_ground.specs.Members.{is_fitting, is_instance, is_instance_of}
use Rattle.pb_ground.specs.Steps.{is_in}

-- ---- the objects that fit

-- no number below the first is among them
pub none_before : (types : List ℕ) (wanted n i : ℕ) (kinds : List ℕ) → n < i → list_any (nat_eq n) (fitting_from types wanted i kinds) ≡ false
none_before types wanted n i [] h = refl
none_before types wanted n i (kind ∷ kinds) h = at (comes_to types (length types) kind wanted) (none_before types wanted n (suc i) kinds (omega arith))
  where
    at : (fits : Bool) → list_any (nat_eq n) (fitting_from types wanted (suc i) kinds) ≡ false
        → list_any (nat_eq n) (cond fits (i ∷ fitting_from types wanted (suc i) kinds) (fitting_from types wanted (suc i) kinds)) ≡ false
    at true later = ap (λ b. b || list_any (nat_eq n) (fitting_from types wanted (suc i) kinds)) (ne_eqb n i (λ same. omega (arith, same, h))) ∙ later
    at false later = later

-- the object that is k behind the first
fits_at : (types : List ℕ) (wanted n i k : ℕ) (kinds : List ℕ) → n ≡ i + k
    → list_any (nat_eq n) (fitting_from types wanted i kinds) ≡ (nat_lt k (length kinds) && comes_to types (length types) (get_or kinds k 0) wanted)
fits_at types wanted n i k [] e = ap (λ b. b && comes_to types (length types) (get_or [] k 0) wanted) (sym (le-ltb k 0 (omega arith)))
fits_at types wanted n i zero (kind ∷ kinds) e =
    at (comes_to types (length types) kind wanted) (eq-eqb n i (omega arith)) (none_before types wanted n (suc i) kinds (omega arith))
    ∙ ap (λ b. b && comes_to types (length types) kind wanted) (sym (lt-ltb 0 (suc (length kinds)) (omega arith)))
  where
    at : (fits : Bool) → nat_eq n i ≡ true → list_any (nat_eq n) (fitting_from types wanted (suc i) kinds) ≡ false
        → list_any (nat_eq n) (cond fits (i ∷ fitting_from types wanted (suc i) kinds) (fitting_from types wanted (suc i) kinds)) ≡ fits
    at true here later = ap (λ b. b || list_any (nat_eq n) (fitting_from types wanted (suc i) kinds)) here
    at false here later = later
fits_at types wanted n i (suc k) (kind ∷ kinds) e =
    at (comes_to types (length types) kind wanted) (not_first (omega arith)) (fits_at types wanted n (suc i) k kinds (omega arith))
    ∙ ap (λ b. b && comes_to types (length types) (get_or kinds k 0) wanted) (grind (arith, nat_tests))
  where
    not_first : i < n → nat_eq n i ≡ false
    not_first h = grind (arith, nat_tests)

    at : {all : Bool} (fits : Bool) → nat_eq n i ≡ false → list_any (nat_eq n) (fitting_from types wanted (suc i) kinds) ≡ all
        → list_any (nat_eq n) (cond fits (i ∷ fitting_from types wanted (suc i) kinds) (fitting_from types wanted (suc i) kinds)) ≡ all
    at true here later = ap (λ b. b || list_any (nat_eq n) (fitting_from types wanted (suc i) kinds)) here ∙ later
    at false here later = later

pub fitting_is : (lifted : Lifted) (wanted object : ℕ) → list_any (nat_eq object) (fitting lifted wanted) ≡ is_fitting lifted wanted object
fitting_is lifted wanted object = fits_at lifted.types wanted object 0 object lifted.objects (omega arith)

-- ---- the choices

-- rows that begin with a number aren't the empty one
pub no_empty : (x : ℕ) (rows : List (List ℕ)) → list_any (bytes_eq []) (map (λ xs. x ∷ xs) rows) ≡ false
no_empty x [] = refl
no_empty x (row ∷ rows) = no_empty x rows

pub no_choice_is_empty : (rest : List (List ℕ)) (first : List ℕ) → list_any (bytes_eq []) (flat_map (λ x. map (λ xs. x ∷ xs) rest) first) ≡ false
no_choice_is_empty rest [] = refl
no_choice_is_empty rest (x ∷ first) =
    list_any-append (bytes_eq []) (map (λ xs. x ∷ xs) rest) (flat_map (λ y. map (λ xs. y ∷ xs) rest) first)
    ∙ (ap (λ b. b || list_any (bytes_eq []) (flat_map (λ y. map (λ xs. y ∷ xs) rest) first)) (no_empty x rest) ∙ no_choice_is_empty rest first)

pub with_first : (y x : ℕ) (ys : List ℕ) (rest : List (List ℕ)) → list_any (bytes_eq (y ∷ ys)) (map (λ xs. x ∷ xs) rest) ≡ (nat_eq y x && list_any (bytes_eq ys) rest)
with_first y x ys [] = sym (and-false (nat_eq y x))
with_first y x ys (list ∷ rest) = ap (λ b. (nat_eq y x && bytes_eq ys list) || b) (with_first y x ys rest) ∙ sym (and-or_distrib_left (nat_eq y x) (bytes_eq ys list) (list_any (bytes_eq ys) rest))

pub some_first : (y : ℕ) (ys : List ℕ) (rest : List (List ℕ)) (first : List ℕ)
    → list_any (bytes_eq (y ∷ ys)) (flat_map (λ x. map (λ xs. x ∷ xs) rest) first) ≡ (list_any (nat_eq y) first && list_any (bytes_eq ys) rest)
some_first y ys rest [] = refl
some_first y ys rest (x ∷ first) =
    list_any-append (bytes_eq (y ∷ ys)) (map (λ xs. x ∷ xs) rest) (flat_map (λ z. map (λ xs. z ∷ xs) rest) first)
    ∙ (ap (λ b. b || list_any (bytes_eq (y ∷ ys)) (flat_map (λ z. map (λ xs. z ∷ xs) rest) first)) (with_first y x ys rest)
    ∙ (ap (λ b. (nat_eq y x && list_any (bytes_eq ys) rest) || b) (some_first y ys rest first) ∙ sym (and-or_distrib_right (nat_eq y x) (list_any (nat_eq y) first) (list_any (bytes_eq ys) rest))))

pub instances_are : (lifted : Lifted) (kinds objects : List ℕ) → list_any (bytes_eq objects) (instances lifted kinds) ≡ is_instance lifted kinds objects
instances_are lifted [] [] = refl
instances_are lifted [] (object ∷ objects) = refl
instances_are lifted (kind ∷ kinds) [] = no_choice_is_empty (instances lifted kinds) (fitting lifted kind)
instances_are lifted (kind ∷ kinds) (object ∷ objects) =
    some_first object objects (instances lifted kinds) (fitting lifted kind)
    ∙ (ap (λ b. b && list_any (bytes_eq objects) (instances lifted kinds)) (fitting_is lifted kind object)
    ∙ ap (λ b. is_fitting lifted kind object && b) (instances_are lifted kinds objects))

-- ---- the atoms

of_predicate : (atom : GroundAtom) (predicate : ℕ) (lists : List (List ℕ)) → is_in atom (map (λ objects. atom_of predicate objects) lists)
    ≡ (nat_eq atom.predicate predicate && list_any (bytes_eq atom.objects) lists)
of_predicate atom predicate [] = sym (and-false (nat_eq atom.predicate predicate))
of_predicate atom predicate (list ∷ lists) =
    ap (λ b. (nat_eq atom.predicate predicate && bytes_eq atom.objects list) || b) (of_predicate atom predicate lists)
    ∙ sym (and-or_distrib_left (nat_eq atom.predicate predicate) (bytes_eq atom.objects list) (list_any (bytes_eq atom.objects) lists))

-- those of one predicate
of_one : (lifted : Lifted) (atom : GroundAtom) (predicate : ℕ) (kinds : List ℕ)
    → is_in atom (atoms_of lifted predicate kinds) ≡ (is_fluent lifted predicate && (nat_eq atom.predicate predicate && is_instance lifted kinds atom.objects))
of_one lifted atom predicate kinds = at (is_fluent lifted predicate)
  where
    at : (fluent : Bool) → is_in atom (cond fluent (map (λ objects. atom_of predicate objects) (instances lifted kinds)) [])
        ≡ (fluent && (nat_eq atom.predicate predicate && is_instance lifted kinds atom.objects))
    at true = of_predicate atom predicate (instances lifted kinds) ∙ ap (λ b. nat_eq atom.predicate predicate && b) (instances_are lifted kinds atom.objects)
    at false = refl

no_fluent : (a b : Bool) → (a && (false && b)) ≡ false
no_fluent true b = refl
no_fluent false b = refl

-- no atom of an earlier predicate is among them
none_earlier : (lifted : Lifted) (atom : GroundAtom) (predicate : ℕ) (later : List (List ℕ)) → atom.predicate < predicate → is_in atom (atoms_from lifted predicate later) ≡ false
none_earlier lifted atom predicate [] h = refl
none_earlier lifted atom predicate (kinds ∷ later) h =
    list_any-append (same_atom atom) (atoms_of lifted predicate kinds) (atoms_from lifted (suc predicate) later)
    ∙ (ap (λ b. b || is_in atom (atoms_from lifted (suc predicate) later))
    (of_one lifted atom predicate kinds
    ∙ (ap (λ b. is_fluent lifted predicate && (b && is_instance lifted kinds atom.objects)) (ne_eqb atom.predicate predicate (λ same. omega (arith, same, h)))
    ∙ no_fluent (is_fluent lifted predicate) (is_instance lifted kinds atom.objects)))
    ∙ none_earlier lifted atom (suc predicate) later (omega arith))

-- the atom's predicate is k behind the first
atoms_at : (lifted : Lifted) (atom : GroundAtom) (predicate k : ℕ) (later : List (List ℕ)) → atom.predicate ≡ predicate + k
    → is_in atom (atoms_from lifted predicate later) ≡ (is_fluent lifted atom.predicate && is_instance_of lifted (slice_get later k) atom.objects)
atoms_at lifted atom predicate k [] e = sym (and-false (is_fluent lifted atom.predicate))
atoms_at lifted atom predicate zero (kinds ∷ later) e =
    let same : atom.predicate ≡ predicate = omega arith in
    list_any-append (same_atom atom) (atoms_of lifted predicate kinds) (atoms_from lifted (suc predicate) later)
    ∙ (ap (λ b. is_in atom (atoms_of lifted predicate kinds) || b) (none_earlier lifted atom (suc predicate) later (omega arith))
    ∙ (or-false (is_in atom (atoms_of lifted predicate kinds)) ∙ (of_one lifted atom predicate kinds
    ∙ (ap (λ b. is_fluent lifted predicate && (b && is_instance lifted kinds atom.objects)) (eq-eqb atom.predicate predicate same)
    ∙ ap (λ p. is_fluent lifted p && is_instance lifted kinds atom.objects) (sym same)))))
atoms_at lifted atom predicate (suc k) (kinds ∷ later) e =
    let other : nat_eq atom.predicate predicate ≡ false = not_first (omega arith) in
    list_any-append (same_atom atom) (atoms_of lifted predicate kinds) (atoms_from lifted (suc predicate) later)
    ∙ (ap (λ b. b || is_in atom (atoms_from lifted (suc predicate) later))
    (of_one lifted atom predicate kinds
    ∙ (ap (λ b. is_fluent lifted predicate && (b && is_instance lifted kinds atom.objects)) other ∙ no_fluent (is_fluent lifted predicate) (is_instance lifted kinds atom.objects)))
    ∙ atoms_at lifted atom (suc predicate) k later (omega arith))
  where
    not_first : predicate < atom.predicate → nat_eq atom.predicate predicate ≡ false
    not_first h = grind (arith, nat_tests)

pub atoms_are : (lifted : Lifted) (atom : GroundAtom)
    → is_in atom (ground_atoms lifted) ≡ (is_fluent lifted atom.predicate && is_instance_of lifted (slice_get lifted.predicates atom.predicate) atom.objects)
atoms_are lifted atom = atoms_at lifted atom 0 atom.predicate lifted.predicates (omega arith)
