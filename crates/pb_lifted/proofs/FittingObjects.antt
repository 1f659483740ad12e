-- An object fits a parameter by names exactly where it fits by numbers.
use Rattle.std.proofs.Common.{◌≡◌, ◌<◌, ℕ, zero, suc, true, Some, List, [], ◌∷◌, length, map, get_or, All, refl, sym, ap, ◌∙◌, subst, arith}
use Rattle.std.specs.List.{slice_get}
use Rattle.std.proofs.lemmas.List.{length-map}
use Rattle.std.proofs.lemmas.Option.{slice_get-get_or}
use Rattle.pb_pddl.specs.declared.tree.Typed.{Typed}
use Rattle.pb_pddl.specs.declared.tree.Domain.{Domain}
use Rattle.pb_pddl.specs.declared.tree.Problem.{Problem}
use Rattle.pb_lifted.specs.declared.lifted.Lifted.{Lifted}
use Rattle.pb_lifted.specs.Names.{number_of}
use Rattle.pb_lifted.specs.Types.{name_text, kind_text, type_names, height, is_below}
use Rattle.pb_lifted.specs.Objects.{objects_of, entry_of}
use Rattle.pb_lifted.specs.Tree.{parent_numbers, comes_to}
use Rattle.pb_lifted.specs.Lifted.{number, kind_numbers, lifted_of}
use Rattle.pb_lifted.specs.Space.{FitsParameter, AreGiven}
use Rattle.pb_lifted.specs.Facts.{name_at}
use Rattle.pb_lifted.specs.Typing.{object_names, named, KindIsKnown, AreDistinct, IsWellTyped}
use Rattle.pb_lifted.specs.Steps.{FitsKind, AreFitting}
use Rattle.pb_lifted.proofs.Found.{at_number, first_found}
use Rattle.pb_lifted.proofs.TypeTree.{known_number, within_is}
use Rattle.pb_lifted.proofs.SameFacts.{named_again}
use Rattle.pb_lifted.proofs.KnownNames.{fitting_among}
use Rattle.pb_lifted.proofs.TwinAtoms.{number_below}

-- ---- elements of lists

pub holds_at : {A : Type 0} (P : A → Type 0) (xs : List A) (i : ℕ) (x : A) → All P xs → slice_get xs i ≡ Some x → P x
holds_at P [] i x all h = cc
holds_at P (y ∷ xs) zero x all h = let same : y ≡ x = cc in subst P same (all 0 y (omega arith))
holds_at P (y ∷ xs) (suc i) x all h = holds_at P xs i x (λ k d less. all (suc k) d (omega arith)) h

pub at_mapped : {A B : Type 0} (f : A → B) (xs : List A) (i : ℕ) (x : A) → slice_get xs i ≡ Some x → slice_get (map f xs) i ≡ Some (f x)
at_mapped f [] i x h = cc
at_mapped f (y ∷ xs) zero x h = let same : y ≡ x = cc in ap (λ z. Some (f z)) same
at_mapped f (y ∷ xs) (suc i) x h = at_mapped f xs i x h

pub mapped_at : {A B : Type 0} (f : A → B) (xs : List A) (i : ℕ) (y : B) → slice_get (map f xs) i ≡ Some y → (x : A) × (slice_get xs i ≡ Some x) × (f x ≡ y)
mapped_at f [] i y h = cc
mapped_at f (x ∷ xs) zero y h = (x, refl, cc)
mapped_at f (x ∷ xs) (suc i) y h = mapped_at f xs i y h

index_mapped : {A : Type 0} (f : A → ℕ) (xs : List A) (i : ℕ) (x : A) → slice_get xs i ≡ Some x → get_or (map f xs) i 0 ≡ f x
index_mapped f [] i x h = cc
index_mapped f (y ∷ xs) zero x h = let same : y ≡ x = cc in ap f same
index_mapped f (y ∷ xs) (suc i) x h = index_mapped f xs i x h

-- ---- one object

-- the object of a number, and whether it is of a parameter's type or below
abbrev pub Placed : Domain → Problem → Typed → ℕ → Type 0
Placed domain problem param i =
    (entry : Typed) × (entry_of (objects_of domain problem) (name_at (object_names domain problem) i) ≡ Some entry)
    × (is_below domain.types (kind_text entry) (kind_text param)
    ≡ comes_to (lifted_of domain problem).types (length (lifted_of domain problem).types) (get_or (lifted_of domain problem).objects i 0)
    (number (kind_text param) (type_names domain.types)))

placed : (domain : Domain) (problem : Problem) → AreDistinct (object_names domain problem) → All (KindIsKnown domain.types) (objects_of domain problem) → (param : Typed)
    → KindIsKnown domain.types param → (i : ℕ) → i < length (object_names domain problem) → Placed domain problem param i
placed domain problem distinct kinds param known i less =
    at (get_or (objects_of domain problem) i param, slice_get-get_or (objects_of domain problem) i param (let n : length (object_names domain problem) ≡ length (objects_of domain problem) = length-map (objects_of domain problem) name_text in omega arith))
  where
    types : List (List ℕ)
    types = type_names domain.types

    parents : List ℕ
    parents = parent_numbers types domain.types

    tall : length parents ≡ height domain.types
    tall = ap suc (length-map domain.types (λ t. number (kind_text t) types))

    at : ((entry : Typed) × (slice_get (objects_of domain problem) i ≡ Some entry)) → Placed domain problem param i
    at (entry, e) = (
      entry,
      first_found name_text (objects_of domain problem) (name_at (object_names domain problem) i) ∙ ap (at_number (objects_of domain problem)) (distinct i less) ∙ e,
      within_is domain.types (height domain.types) (kind_text entry) (kind_text param) (number (kind_text entry) types) (number (kind_text param) types)
          (known_number (kind_text entry) types (holds_at (KindIsKnown domain.types) (objects_of domain problem) i entry kinds e)) (known_number (kind_text param) types known)
          ∙ ap (λ n. comes_to parents n (number (kind_text entry) types) (number (kind_text param) types)) (sym tall)
          ∙ ap (λ k. comes_to parents (length parents) k (number (kind_text param) types))
          (sym (index_mapped (λ t. number (kind_text t) types) (objects_of domain problem) i entry e)),
    )

pub count_is : (domain : Domain) (problem : Problem) → length (lifted_of domain problem).objects ≡ length (object_names domain problem)
count_is domain problem =
    length-map (objects_of domain problem) (λ t. number (kind_text t) (type_names domain.types)) ∙ sym (length-map (objects_of domain problem) name_text)

pub objects_there : (domain : Domain) (problem : Problem) (i : ℕ) → i < length (lifted_of domain problem).objects → i < length (object_names domain problem)
objects_there domain problem i less = let count : length (lifted_of domain problem).objects ≡ length (object_names domain problem) = count_is domain problem in omega arith

pub fits_by_name : (domain : Domain) (problem : Problem) → IsWellTyped domain problem → (param : Typed) → KindIsKnown domain.types param → (i : ℕ)
    → FitsKind (lifted_of domain problem) (number (kind_text param) (type_names domain.types)) i
    → FitsParameter domain.types (entry_of (objects_of domain problem) (name_at (object_names domain problem) i)) param
fits_by_name domain problem typed param known i fit =
    let count : length (lifted_of domain problem).objects ≡ length (object_names domain problem) = count_is domain problem in
    let less : i < length (lifted_of domain problem).objects = fit.0 in
    let its : Placed domain problem param i = placed domain problem typed.distinct typed.objects param known i (omega arith) in
    subst (λ e. FitsParameter domain.types e param) (sym its.1) (its.2 ∙ fit.1)

pub fits_by_number : (domain : Domain) (problem : Problem) → IsWellTyped domain problem → (param : Typed) → KindIsKnown domain.types param → (o : List ℕ)
    → FitsParameter domain.types (entry_of (objects_of domain problem) o) param
    → FitsKind (lifted_of domain problem) (number (kind_text param) (type_names domain.types)) (number o (object_names domain problem)) × (o ≡ name_at (object_names domain problem) (number o (object_names domain problem)))
fits_by_number domain problem typed param known o fit =
    let names : List (List ℕ) = object_names domain problem in
    let i : ℕ = number o names in
    let there : number_of o names ≡ Some i = known_number o names (fitting_among domain.types (objects_of domain problem) o param fit) in
    let less : i < length names = number_below o names i there in
    let again : name_at names i ≡ o = named_again o names i there in
    let its : Placed domain problem param i = placed domain problem typed.distinct typed.objects param known i less in
    let count : length (lifted_of domain problem).objects ≡ length names = count_is domain problem in
    let below : is_below domain.types (kind_text its.0) (kind_text param) ≡ true =
    subst (λ e. FitsParameter domain.types e param) (ap (entry_of (objects_of domain problem)) (sym again) ∙ its.1) fit in
    ((omega arith, sym its.2 ∙ below), sym again)

-- ---- to each parameter an object

pub given_names : (domain : Domain) (problem : Problem) → IsWellTyped domain problem → (params : List Typed) → All (KindIsKnown domain.types) params → (given : List ℕ)
    → AreFitting (lifted_of domain problem) (kind_numbers (type_names domain.types) params) given → AreGiven domain problem params (named domain problem given)
given_names domain problem typed [] known [] fit = tt
given_names domain problem typed [] known (i ∷ given) fit = absurd fit
given_names domain problem typed (p ∷ params) known [] fit = absurd fit
given_names domain problem typed (p ∷ params) known (i ∷ given) fit = (
  fits_by_name domain problem typed p (known 0 p (omega arith)) i fit.0,
  given_names domain problem typed params (λ k d less. known (suc k) d (omega arith)) given fit.1,
)

pub given_numbers : (domain : Domain) (problem : Problem) → IsWellTyped domain problem → (params : List Typed) → All (KindIsKnown domain.types) params → (objects : List (List ℕ))
    → AreGiven domain problem params objects
    → AreFitting (lifted_of domain problem) (kind_numbers (type_names domain.types) params) (map (λ o. number o (object_names domain problem)) objects)
    × (objects ≡ named domain problem (map (λ o. number o (object_names domain problem)) objects))
given_numbers domain problem typed [] known [] fit = (tt, refl)
given_numbers domain problem typed [] known (o ∷ objects) fit = absurd fit
given_numbers domain problem typed (p ∷ params) known [] fit = absurd fit
given_numbers domain problem typed (p ∷ params) known (o ∷ objects) fit =
    let one = fits_by_number domain problem typed p (known 0 p (omega arith)) o fit.0 in
    let rest = given_numbers domain problem typed params (λ k d less. known (suc k) d (omega arith)) objects fit.1 in
    let k : ℕ = number o (object_names domain problem) in
    ((one.0, rest.0), ap (λ t. t ∷ objects) one.1 ∙ ap (λ ts. name_at (object_names domain problem) k ∷ ts) rest.1)

-- objects that fit are there, as many as parameters
pub fitting_below : (lifted : Lifted) (kinds given : List ℕ) → AreFitting lifted kinds given → (k : ℕ) → k < length given → get_or given k 0 < length lifted.objects
fitting_below lifted kinds [] fit k less = absurd (omega arith)
fitting_below lifted [] (i ∷ given) fit k less = absurd fit
fitting_below lifted (kind ∷ kinds) (i ∷ given) fit zero less = fit.0.0
fitting_below lifted (kind ∷ kinds) (i ∷ given) fit (suc k) less = fitting_below lifted kinds given fit.1 k (omega arith)

pub fitting_count : (lifted : Lifted) (kinds given : List ℕ) → AreFitting lifted kinds given → length given ≡ length kinds
fitting_count lifted [] [] fit = refl
fitting_count lifted [] (i ∷ given) fit = absurd fit
fitting_count lifted (kind ∷ kinds) [] fit = absurd fit
fitting_count lifted (kind ∷ kinds) (i ∷ given) fit = ap suc (fitting_count lifted kinds given fit.1)

pub objects_below : (domain : Domain) (problem : Problem) (kinds given : List ℕ) → AreFitting (lifted_of domain problem) kinds given
    → (k : ℕ) → k < length given → get_or given k 0 < length (object_names domain problem)
objects_below domain problem kinds given fit k less =
    let count : length (lifted_of domain problem).objects ≡ length (object_names domain problem) = count_is domain problem in
    let below : get_or given k 0 < length (lifted_of domain problem).objects = fitting_below (lifted_of domain problem) kinds given fit k less in
    omega arith
