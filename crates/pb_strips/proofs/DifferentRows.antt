-- No two ground actions are of the same schema with the same objects.
use Rattle.std.proofs.Common.{◌≡◌, ◌<◌, ℕ, suc, Bool, true, false, cond, ◌||◌, ◌&&◌, nat_eq, List, [], ◌∷◌, ◌++◌, length, map, refl, sym, ap, ◌∙◌, subst, arith}
use Rattle.std.proofs.lemmas.Bool.{both_ways, eqb-true, ne_eqb, or_parts, and_right, and_parts}
use Rattle.std.proofs.lemmas.List.{map-append}
use Rattle.std.proofs.lemmas.List.Folds.{list_any-append}
use Rattle.std.specs.List.{list_any, flat_map}
use Rattle.std.specs.Str.{bytes_eq}
use Rattle.pb_lifted.specs.Tree.{comes_to}
use Rattle.pb_lifted.specs.declared.lifted.Lifted.{Lifted}
use Rattle.pb_lifted.specs.declared.lifted.Schema.{Schema}
use Rattle.pb_ground.specs.declared.actions.ActionInstance.{ActionInstance}
use Rattle.pb_ground.specs.declared.atoms.GroundAtom.{GroundAtom}
use Rattle.pb_ground.specs.Actions.{action_of, kept_rows, kept_actions_of, kept_actions_from, kept_actions}
use Rattle.pb_ground.specs.Instances.{fitting_from, fitting, instances}
use Rattle.pb_ground.specs.Steps.{Facts}
use Rattle.pb_ground.proofs.Callers.{none_before, no_empty, with_first}
use Rattle.pb_strips.proofs.Apart.{AreApart, joined, kept_apart}
use Rattle.pb_strips.proofs.Instances.{is_ready}

-- ---- numbers

abbrev pub NumbersApart : List ℕ → Type 0
NumbersApart [] = Unit {0}
NumbersApart (x ∷ xs) = (list_any (nat_eq x) xs ≡ false) × NumbersApart xs

fitting_apart : (types : List ℕ) (wanted i : ℕ) (kinds : List ℕ) → NumbersApart (fitting_from types wanted i kinds)
fitting_apart types wanted i [] = tt
fitting_apart types wanted i (kind ∷ kinds) = at (comes_to types (length types) kind wanted) (fitting_apart types wanted (suc i) kinds)
  where
    at : (fits : Bool) → NumbersApart (fitting_from types wanted (suc i) kinds) → NumbersApart (cond fits (i ∷ fitting_from types wanted (suc i) kinds) (fitting_from types wanted (suc i) kinds))
    at true rest = (none_before types wanted i (suc i) kinds (omega arith), rest)
    at false rest = rest

-- ---- rows that begin with a number

pub first_apart : (x : ℕ) (rows : List (List ℕ)) → AreApart rows → AreApart (map (λ xs. x ∷ xs) rows)
first_apart x [] h = tt
first_apart x (row ∷ rows) h = (with_first x x row rows ∙ and_right (nat_eq x x) (list_any (bytes_eq row) rows) h.0, first_apart x rows h.1)

-- a row that is among those that begin with x begins with x, and so isn't among those that begin with others
none_other : (x : ℕ) (rows others : List (List ℕ)) → ((y : ℕ) (ys : List ℕ) → nat_eq y x ≡ true → list_any (bytes_eq (y ∷ ys)) others ≡ false) → (row : List ℕ)
    → list_any (bytes_eq row) (map (λ xs. x ∷ xs) rows) ≡ true → list_any (bytes_eq row) others ≡ false
none_other x rows others none [] e = absurd (both_ways (list_any (bytes_eq []) (map (λ xs. x ∷ xs) rows)) (no_empty x rows) e)
none_other x rows others none (y ∷ ys) e = none y ys (and_parts (nat_eq y x) (list_any (bytes_eq ys) rows) (sym (with_first y x ys rows) ∙ e)).0

-- ---- instances

none_spread : (y : ℕ) (ys : List ℕ) (rows : List (List ℕ)) (numbers : List ℕ) → list_any (nat_eq y) numbers ≡ false
    → list_any (bytes_eq (y ∷ ys)) (flat_map (λ x. map (λ xs. x ∷ xs) rows) numbers) ≡ false
none_spread y ys rows [] h = refl
none_spread y ys rows (x ∷ numbers) h =
    let both = or_parts (nat_eq y x) (list_any (nat_eq y) numbers) h in
    list_any-append (bytes_eq (y ∷ ys)) (map (λ xs. x ∷ xs) rows) (flat_map (λ z. map (λ xs. z ∷ xs) rows) numbers)
    ∙ (ap (λ b. b || list_any (bytes_eq (y ∷ ys)) (flat_map (λ z. map (λ xs. z ∷ xs) rows) numbers)) (with_first y x ys rows ∙ ap (λ b. b && list_any (bytes_eq ys) rows) both.0)
    ∙ none_spread y ys rows numbers both.1)

spread_apart : (rows : List (List ℕ)) (numbers : List ℕ) → AreApart rows → NumbersApart numbers → AreApart (flat_map (λ x. map (λ xs. x ∷ xs) rows) numbers)
spread_apart rows [] h k = tt
spread_apart rows (x ∷ numbers) h k =
    joined (map (λ xs. x ∷ xs) rows) (flat_map (λ z. map (λ xs. z ∷ xs) rows) numbers) (first_apart x rows h) (spread_apart rows numbers h k.1)
    (none_other x rows (flat_map (λ z. map (λ xs. z ∷ xs) rows) numbers)
    (λ y ys e. none_spread y ys rows numbers (ap (λ n. list_any (nat_eq n) numbers) (eqb-true y x e) ∙ k.0)))

instances_apart : (lifted : Lifted) (kinds : List ℕ) → AreApart (instances lifted kinds)
instances_apart lifted [] = (refl, tt)
instances_apart lifted (kind ∷ kinds) = spread_apart (instances lifted kinds) (fitting lifted kind) (instances_apart lifted kinds) (fitting_apart lifted.types kind 0 lifted.objects)

-- ---- ground actions

-- the schema's number before those of the objects
abbrev pub row_of : ActionInstance → List ℕ
row_of action = action.schema ∷ action.objects

rows_are : (atoms : List GroundAtom) (i : ℕ) (schema : Schema) (rows : List (List ℕ)) → map row_of (map (λ given. action_of atoms i schema given) rows) ≡ map (λ xs. i ∷ xs) rows
rows_are atoms i schema [] = refl
rows_are atoms i schema (row ∷ rows) = ap (λ list. (i ∷ row) ∷ list) (rows_are atoms i schema rows)

of_schema : (lifted : Lifted) (kept : Facts) (atoms : List GroundAtom) (i : ℕ) (schema : Schema) → map row_of (kept_actions_of lifted kept atoms i schema) ≡ map (λ xs. i ∷ xs) (kept_rows lifted kept schema)
of_schema lifted kept atoms i schema = rows_are atoms i schema (kept_rows lifted kept schema)

none_earlier : (lifted : Lifted) (kept : Facts) (atoms : List GroundAtom) (n i : ℕ) (ys : List ℕ) (schemas : List Schema) → n < i → list_any (bytes_eq (n ∷ ys)) (map row_of (kept_actions_from lifted kept atoms i schemas)) ≡ false
none_earlier lifted kept atoms n i ys [] h = refl
none_earlier lifted kept atoms n i ys (schema ∷ later) h =
    ap (λ rows. list_any (bytes_eq (n ∷ ys)) rows) (map-append row_of (kept_actions_of lifted kept atoms i schema) (kept_actions_from lifted kept atoms (suc i) later))
    ∙ (list_any-append (bytes_eq (n ∷ ys)) (map row_of (kept_actions_of lifted kept atoms i schema)) (map row_of (kept_actions_from lifted kept atoms (suc i) later))
    ∙ (ap (λ b. b || list_any (bytes_eq (n ∷ ys)) (map row_of (kept_actions_from lifted kept atoms (suc i) later)))
    (ap (λ rows. list_any (bytes_eq (n ∷ ys)) rows) (of_schema lifted kept atoms i schema)
    ∙ (with_first n i ys (kept_rows lifted kept schema) ∙ ap (λ b. b && list_any (bytes_eq ys) (kept_rows lifted kept schema)) (ne_eqb n i (λ same. omega (arith, same, h)))))
    ∙ none_earlier lifted kept atoms n (suc i) ys later (omega arith)))

abbrev pub same_rows : {rows others : List (List ℕ)} → rows ≡ others → AreApart others → AreApart rows
same_rows e h = subst AreApart (sym e) h

actions_apart_from : (lifted : Lifted) (kept : Facts) (atoms : List GroundAtom) (i : ℕ) (schemas : List Schema) → AreApart (map row_of (kept_actions_from lifted kept atoms i schemas))
actions_apart_from lifted kept atoms i [] = tt
actions_apart_from lifted kept atoms i (schema ∷ later) =
    let here = map row_of (kept_actions_of lifted kept atoms i schema) in
    let rest = map row_of (kept_actions_from lifted kept atoms (suc i) later) in
    same_rows (map-append row_of (kept_actions_of lifted kept atoms i schema) (kept_actions_from lifted kept atoms (suc i) later) ∙ ap (λ rows. rows ++ rest) (of_schema lifted kept atoms i schema))
    (joined (map (λ xs. i ∷ xs) (kept_rows lifted kept schema)) rest
    (first_apart i (kept_rows lifted kept schema) (kept_apart (is_ready kept schema) (instances lifted schema.params) (instances_apart lifted schema.params)))
    (actions_apart_from lifted kept atoms (suc i) later) (none_other i (kept_rows lifted kept schema) rest (λ y ys e. none_earlier lifted kept atoms y (suc i) ys later (below y i e))))
  where
    below : (y n : ℕ) → nat_eq y n ≡ true → y < suc n
    below y n e = let same = eqb-true y n e in omega (arith, same)

pub actions_apart : (lifted : Lifted) (kept : Facts) (atoms : List GroundAtom) → AreApart (map row_of (kept_actions lifted kept atoms))
actions_apart lifted kept atoms = actions_apart_from lifted kept atoms 0 lifted.actions
