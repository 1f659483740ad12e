-- The kept actions are the instances of the schemas whose preconditions are kept: each is one, and each such instance is there.
use Rattle.std.proofs.Common.{◌≡◌, ◌+◌, ℕ, zero, suc, Bool, true, false, cond, ◌||◌, List, [], ◌∷◌, ◌++◌, map, get_or, All, Some, slice_get, refl, sym, ap, ◌∙◌, subst, arith}
use Rattle.std.specs.List.{filter, list_all, list_any}
use Rattle.std.specs.Str.{bytes_eq}
use Rattle.std.proofs.lemmas.List.Elements.{All-nil, All-cons, All-append, All-filter, filter_passes}
use Rattle.std.proofs.lemmas.List.Folds.{list_any_at}
use Rattle.std.proofs.lemmas.Slice.Eq.{bytes_eq-Decides}
use Rattle.pb_lifted.specs.declared.lifted.Lifted.{Lifted}
use Rattle.pb_lifted.specs.declared.lifted.Schema.{Schema}
use Rattle.pb_lifted.proofs.Callers.{at_mapped, holds_at}
use Rattle.pb_ground.specs.declared.actions.ActionInstance.{ActionInstance}
use Rattle.pb_ground.specs.declared.atoms.GroundAtom.{GroundAtom}
use Rattle.pb_ground.specs.Actions.{action_of, kept_rows, kept_actions_of, kept_actions_from, kept_actions}
use Rattle.pb_ground.specs.Instances.{instances}
use Rattle.pb_ground.specs.Members.{is_instance}
use Rattle.pb_ground.specs.Steps.{Facts, all_grounded}
use Rattle.pb_ground.proofs.Callers.{instances_are}

-- ---- places in lists

pub in_front : {A : Type 0} (xs ys : List A) (k : ℕ) (x : A) → slice_get xs k ≡ Some x → slice_get (xs ++ ys) k ≡ Some x
in_front [] ys k x e = cc
in_front (y ∷ xs) ys zero x e = e
in_front (y ∷ xs) ys (suc k) x e = in_front xs ys k x e

pub behind : {A : Type 0} (xs ys : List A) (k : ℕ) (x : A) → slice_get ys k ≡ Some x → (j : ℕ) × (slice_get (xs ++ ys) j ≡ Some x)
behind [] ys k x e = (k, e)
behind (y ∷ xs) ys k x e = let later = behind xs ys k x e in (suc later.0, later.1)

pub kept_at : {A : Type 0} (test : A → Bool) (xs : List A) (k : ℕ) (x : A) → slice_get xs k ≡ Some x → test x ≡ true → (j : ℕ) × (slice_get (filter test xs) j ≡ Some x)
kept_at test [] k x e passes = cc
kept_at {A} test (y ∷ xs) zero x e passes =
    let same : y ≡ x = cc in
    (0, ap (λ b. slice_get (cond b (y ∷ filter test xs) (filter test xs)) 0) (ap test same ∙ passes) ∙ e)
kept_at {A} test (y ∷ xs) (suc k) x e passes = at (test y) (kept_at test xs k x e passes)
  where
    at : (b : Bool) → ((j : ℕ) × (slice_get (filter test xs) j ≡ Some x)) → (j : ℕ) × (slice_get (cond b (y ∷ filter test xs) (filter test xs)) j ≡ Some x)
    at true later = (suc later.0, later.1)
    at false later = later

pub found_at : (x : List ℕ) (lists : List (List ℕ)) → list_any (bytes_eq x) lists ≡ true → (k : ℕ) × (slice_get lists k ≡ Some x)
found_at x [] e = cc
found_at x (first ∷ lists) e = at (λ found. found_at x lists found) (bytes_eq x first) refl e
  where
    at : (list_any (bytes_eq x) lists ≡ true → (k : ℕ) × (slice_get lists k ≡ Some x)) → (b : Bool) → bytes_eq x first ≡ b → (b || list_any (bytes_eq x) lists) ≡ true → (k : ℕ) × (slice_get (first ∷ lists) k ≡ Some x)
    at rest true same found = (0, ap (λ y. Some y) (sym ((bytes_eq-Decides x first).0 same)))
    at rest false other found = let later = rest found in (suc later.0, later.1)

-- ---- each ground action is an instance

-- all preconditions of this instance are kept
abbrev pub is_ready : (kept : Facts) → Schema → List ℕ → Bool
is_ready kept schema given = list_all kept (all_grounded given schema.pre)

pub record IsInstance (lifted : Lifted) (kept : Facts) (atoms : List GroundAtom) (action : ActionInstance) : Type 0 where
  pub i : ℕ
  pub schema : Schema
  pub given : List ℕ
  pub declared : slice_get lifted.actions i ≡ Some schema
  pub fits : is_instance lifted schema.params given ≡ true
  pub ready : is_ready kept schema given ≡ true
  pub is : action ≡ action_of atoms i schema given

all_fit : (lifted : Lifted) (kinds : List ℕ) → All (λ given. is_instance lifted kinds given ≡ true) (instances lifted kinds)
all_fit lifted kinds = λ k d less.
    let given : List ℕ = get_or (instances lifted kinds) k d in
    sym (instances_are lifted kinds given) ∙ list_any_at (bytes_eq given) (instances lifted kinds) k d less ((bytes_eq-Decides given given).1 refl)

rows_fit : (lifted : Lifted) (kept : Facts) (schema : Schema) → All (λ given. is_instance lifted schema.params given ≡ true) (kept_rows lifted kept schema)
rows_fit lifted kept schema =
    All-filter (is_ready kept schema) (λ given. is_instance lifted schema.params given ≡ true) (instances lifted schema.params) (all_fit lifted schema.params)

of_schema : (lifted : Lifted) (kept : Facts) (atoms : List GroundAtom) (i : ℕ) (schema : Schema) (rows : List (List ℕ)) → slice_get lifted.actions i ≡ Some schema
    → All (λ given. is_instance lifted schema.params given ≡ true) rows → All (λ given. is_ready kept schema given ≡ true) rows
    → All (IsInstance lifted kept atoms) (map (λ given. action_of atoms i schema given) rows)
of_schema lifted kept atoms i schema [] declared fit hold = All-nil (IsInstance lifted kept atoms)
of_schema lifted kept atoms i schema (given ∷ rows) declared fit hold =
    All-cons (IsInstance lifted kept atoms) (action_of atoms i schema given) (map (λ given. action_of atoms i schema given) rows) (record {
      i = i;
      schema = schema;
      given = given;
      declared = declared;
      fits = fit 0 given (omega arith);
      ready = hold 0 given (omega arith);
      is = refl;
    }) (of_schema lifted kept atoms i schema rows declared (λ k d less. fit (suc k) d (omega arith)) (λ k d less. hold (suc k) d (omega arith)))

are_instances_from : (lifted : Lifted) (kept : Facts) (atoms : List GroundAtom) (i : ℕ) (schemas : List Schema) → ((k : ℕ) (schema : Schema) → slice_get schemas k ≡ Some schema → slice_get lifted.actions (i + k) ≡ Some schema)
    → All (IsInstance lifted kept atoms) (kept_actions_from lifted kept atoms i schemas)
are_instances_from lifted kept atoms i [] declared = All-nil (IsInstance lifted kept atoms)
are_instances_from lifted kept atoms i (schema ∷ later) declared =
    let here : i + 0 ≡ i = omega arith in
    All-append (IsInstance lifted kept atoms) (kept_actions_of lifted kept atoms i schema) (kept_actions_from lifted kept atoms (suc i) later)
    (of_schema lifted kept atoms i schema (kept_rows lifted kept schema) (subst (λ k. slice_get lifted.actions k ≡ Some schema) here (declared 0 schema refl)) (rows_fit lifted kept schema)
    (filter_passes (is_ready kept schema) (instances lifted schema.params)))
    (are_instances_from lifted kept atoms (suc i) later (λ k other e. next k other (declared (suc k) other e)))
  where
    next : (k : ℕ) (other : Schema) → slice_get lifted.actions (i + suc k) ≡ Some other → slice_get lifted.actions (suc i + k) ≡ Some other
    next k other e = let place : i + suc k ≡ suc i + k = omega arith in subst (λ j. slice_get lifted.actions j ≡ Some other) place e

pub are_instances : (lifted : Lifted) (kept : Facts) (atoms : List GroundAtom) → All (IsInstance lifted kept atoms) (kept_actions lifted kept atoms)
are_instances lifted kept atoms = are_instances_from lifted kept atoms 0 lifted.actions (λ j schema there. same j schema there)
  where
    same : (j : ℕ) (schema : Schema) → slice_get lifted.actions j ≡ Some schema → slice_get lifted.actions (0 + j) ≡ Some schema
    same j schema there = let place : j ≡ 0 + j = omega arith in subst (λ n. slice_get lifted.actions n ≡ Some schema) place there

pub is_instance_at : (lifted : Lifted) (kept : Facts) (atoms : List GroundAtom) (k : ℕ) (action : ActionInstance) → slice_get (kept_actions lifted kept atoms) k ≡ Some action → IsInstance lifted kept atoms action
is_instance_at lifted kept atoms k action e = holds_at (IsInstance lifted kept atoms) (kept_actions lifted kept atoms) k action (are_instances lifted kept atoms) e

-- ---- each such instance is a ground action

row_at : (lifted : Lifted) (kept : Facts) (schema : Schema) (given : List ℕ) → is_instance lifted schema.params given ≡ true → is_ready kept schema given ≡ true
    → (k : ℕ) × (slice_get (kept_rows lifted kept schema) k ≡ Some given)
row_at lifted kept schema given fits hold =
    let found = found_at given (instances lifted schema.params) (instances_are lifted schema.params given ∙ fits) in
    kept_at (is_ready kept schema) (instances lifted schema.params) found.0 given found.1 hold

-- where a ground action stands
abbrev pub StandsIn : List ActionInstance → ActionInstance → Type 0
StandsIn actions action = (k : ℕ) × (slice_get actions k ≡ Some action)

stands_from : (lifted : Lifted) (kept : Facts) (atoms : List GroundAtom) (i j : ℕ) (schemas : List Schema) (schema : Schema) (given : List ℕ) → slice_get schemas j ≡ Some schema
    → is_instance lifted schema.params given ≡ true → is_ready kept schema given ≡ true → StandsIn (kept_actions_from lifted kept atoms i schemas) (action_of atoms (i + j) schema given)
stands_from lifted kept atoms i j [] schema given e fits hold = cc
stands_from lifted kept atoms i zero (first ∷ later) schema given e fits hold =
    let same : first ≡ schema = cc in
    let row = row_at lifted kept schema given fits hold in
    let here : i ≡ i + 0 = omega arith in
    subst (λ n. StandsIn (kept_actions_from lifted kept atoms i (first ∷ later)) (action_of atoms n schema given)) here
    (subst (λ s. StandsIn (kept_actions_of lifted kept atoms i s ++ kept_actions_from lifted kept atoms (suc i) later) (action_of atoms i schema given)) (sym same) (
      row.0,
      in_front (kept_actions_of lifted kept atoms i schema) (kept_actions_from lifted kept atoms (suc i) later) row.0 (action_of atoms i schema given)
          (at_mapped (λ xs. action_of atoms i schema xs) (kept_rows lifted kept schema) row.0 given row.1),
    ))
stands_from lifted kept atoms i (suc j) (first ∷ later) schema given e fits hold =
    let rest = stands_from lifted kept atoms (suc i) j later schema given e fits hold in
    let place : suc i + j ≡ i + suc j = omega arith in
    subst (λ n. StandsIn (kept_actions_from lifted kept atoms i (first ∷ later)) (action_of atoms n schema given)) place
    (behind (kept_actions_of lifted kept atoms i first) (kept_actions_from lifted kept atoms (suc i) later) rest.0 (action_of atoms (suc i + j) schema given) rest.1)

pub stands : (lifted : Lifted) (kept : Facts) (atoms : List GroundAtom) (i : ℕ) (schema : Schema) (given : List ℕ) → slice_get lifted.actions i ≡ Some schema
    → is_instance lifted schema.params given ≡ true → is_ready kept schema given ≡ true → StandsIn (kept_actions lifted kept atoms) (action_of atoms i schema given)
stands lifted kept atoms i schema given declared fits hold =
    let place : 0 + i ≡ i = omega arith in
    subst (λ n. StandsIn (kept_actions lifted kept atoms) (action_of atoms n schema given)) place (stands_from lifted kept atoms 0 i lifted.actions schema given declared fits hold)
