-- Names of which none is declared twice are distinct.
use Rattle.std.proofs.Common.{◌≡◌, ◌<◌, ◌+◌, ℕ, zero, suc, Bool, true, false, not, cond, nat_lt, Some, None, List, [], ◌∷◌, ◌++◌, length, map, refl, sym, ap, ◌∙◌, subst, arith, ◌||◌, option_map, Option}
use Rattle.std.specs.Str.{bytes_eq}
use Rattle.std.proofs.lemmas.Bool.Decides.{nat_tests}
use Rattle.std.proofs.lemmas.List.{append-nil, append_assoc, map-append, length_push}
use Rattle.std.proofs.lemmas.Slice.Eq.{bytes_eq-Decides}
use Rattle.pb_pddl.specs.declared.tree.Name.{Name}
use Rattle.pb_pddl.specs.declared.tree.Typed.{Typed}
use Rattle.pb_lifted.specs.Names.{number_of, is_among, repeated, fault_if}
use Rattle.pb_lifted.specs.Types.{name_text}
use Rattle.pb_lifted.specs.Refusals.{typed_name}
use Rattle.pb_lifted.specs.Facts.{name_at}
use Rattle.pb_lifted.specs.Typing.{AreDistinct}
use Rattle.pb_lifted.proofs.Numbering.{or_else, number_added, absent_is}
use Rattle.pb_lifted.proofs.Faultless.{nil_left, nil_right, both_nil, no_fault}

front_name : (names more : List (List ℕ)) (i : ℕ) → i < length names → name_at (names ++ more) i ≡ name_at names i
front_name [] more i less = absurd (omega arith)
front_name (x ∷ names) more zero less = refl
front_name (x ∷ names) more (suc i) less = front_name names more i (omega arith)

last_name : (names : List (List ℕ)) (name : List ℕ) → name_at (names ++ name ∷ []) (length names) ≡ name
last_name [] name = refl
last_name (x ∷ names) name = last_name names name

one_more : (names : List (List ℕ)) (name : List ℕ) → AreDistinct names → is_among name names ≡ false → AreDistinct (names ++ name ∷ [])
one_more names name each new i less = at (nat_lt i (length names)) refl
  where
    old : i < length names → number_of (name_at (names ++ name ∷ []) i) (names ++ name ∷ []) ≡ Some i
    old l =
        ap (λ t. number_of t (names ++ name ∷ [])) (front_name names (name ∷ []) i l) ∙ number_added (name_at names i) name names
        ∙ ap (λ n. or_else n (cond (bytes_eq (name_at names i) name) (Some (length names)) None)) (each i l)

    last : number_of (name_at (names ++ name ∷ []) (length names)) (names ++ name ∷ []) ≡ Some (length names)
    last =
        ap (λ t. number_of t (names ++ name ∷ [])) (last_name names name) ∙ number_added name name names
        ∙ ap (λ n. or_else n (cond (bytes_eq name name) (Some (length names)) None)) (absent_is name names (ap not new))
        ∙ ap (λ b. cond b (Some (length names)) None) ((bytes_eq-Decides name name).1 refl)

    at : (b : Bool) → nat_lt i (length names) ≡ b → number_of (name_at (names ++ name ∷ []) i) (names ++ name ∷ []) ≡ Some i
    at true e = let l : i < length names = grind (arith, nat_tests) in old l
    at false e =
        let count : length (names ++ name ∷ []) ≡ length names + 1 = length_push names name in
        let n_is : length names ≡ i = grind (arith, nat_tests) in
        subst (λ n. number_of (name_at (names ++ name ∷ []) n) (names ++ name ∷ []) ≡ Some n) n_is last

abbrev pub text_of : Name → List ℕ
text_of n = n.text

pub distinct_on : (before : List (List ℕ)) (names : List Name) → repeated before names ≡ [] → AreDistinct before → AreDistinct (before ++ map text_of names)
distinct_on before [] h each = subst AreDistinct (sym (append-nil before)) each
distinct_on before (name ∷ names) h each =
    subst AreDistinct (append_assoc before (name.text ∷ []) (map text_of names))
    (distinct_on (before ++ name.text ∷ []) names (nil_right _ (repeated (before ++ name.text ∷ []) names) h)
    (one_more before name.text each (no_fault (is_among name.text before) name.at (nil_left _ (repeated (before ++ name.text ∷ []) names) h))))

-- the texts of the names of a list
pub texts : {A : Type 0} (name_of : A → Name) (list : List A) → map text_of (map name_of list) ≡ map (λ a. (name_of a).text) list
texts name_of [] = refl
texts name_of (x ∷ list) = ap (λ names. (name_of x).text ∷ names) (texts name_of list)

none_distinct : AreDistinct []
none_distinct i less = absurd (omega arith)

pub objects_distinct : (constants objects : List Typed) → repeated [] (map typed_name constants) ≡ [] → repeated (map name_text constants) (map typed_name objects) ≡ []
    → AreDistinct (map name_text (constants ++ objects))
objects_distinct constants objects once again =
    subst AreDistinct (ap (λ names. map name_text constants ++ names) (texts typed_name objects) ∙ sym (map-append name_text constants objects))
    (distinct_on (map name_text constants) (map typed_name objects) again (subst AreDistinct (texts typed_name constants) (distinct_on [] (map typed_name constants) once none_distinct)))

-- what is declared in one list
pub declared_once : {A : Type 0} (name_of : A → Name) (list : List A) → repeated [] (map name_of list) ≡ [] → AreDistinct (map (λ a. (name_of a).text) list)
declared_once name_of list once = subst AreDistinct (texts name_of list) (distinct_on [] (map name_of list) once none_distinct)

-- ---- and distinct names are not declared twice

name_here : (before more : List (List ℕ)) (name : List ℕ) → name_at (before ++ name ∷ more) (length before) ≡ name
name_here [] more name = refl
name_here (x ∷ before) more name = name_here before more name

fewer_before : (before more : List (List ℕ)) (name : List ℕ) → length before < length (before ++ name ∷ more)
fewer_before [] more name = omega arith
fewer_before (x ∷ before) more name = let less : length before < length (before ++ name ∷ more) = fewer_before before more name in omega arith

suc_same : (m n : ℕ) → Some (suc m) ≡ Some (suc n) → m ≡ n
suc_same m n e = cc

-- a name whose number comes behind a list is not in it
not_before : (before more : List (List ℕ)) (name : List ℕ) → number_of name (before ++ more) ≡ Some (length before) → is_among name before ≡ false
not_before [] more name h = refl
not_before (x ∷ before) more name h = at (bytes_eq name x) (number_of name (before ++ more)) h (not_before before more name)
  where
    at : (here : Bool) (n : Option ℕ) → cond here (Some 0) (option_map suc n) ≡ Some (suc (length before)) → (n ≡ Some (length before) → is_among name before ≡ false)
        → (here || is_among name before) ≡ false
    at true n e rest = cc
    at false None e rest = cc
    at false (Some m) e rest = rest (ap Some (suc_same m (length before) e))

pub none_repeated : (before : List (List ℕ)) (names : List Name) (more : List (List ℕ)) → AreDistinct (before ++ (map text_of names ++ more)) → repeated before names ≡ []
none_repeated before [] more each = refl
none_repeated before (name ∷ names) more each =
    let later : List (List ℕ) = map text_of names ++ more in
    let number : number_of name.text (before ++ name.text ∷ later) ≡ Some (length before) =
    ap (λ t. number_of t (before ++ name.text ∷ later)) (sym (name_here before later name.text)) ∙ each (length before) (fewer_before before later name.text) in
    both_nil (fault_if (is_among name.text before) name.at) (repeated (before ++ name.text ∷ []) names)
    (ap (λ b. fault_if b name.at) (not_before before (name.text ∷ later) name.text number))
    (none_repeated (before ++ name.text ∷ []) names more (subst AreDistinct (sym (append_assoc before (name.text ∷ []) later)) each))

-- what is declared in one list
pub none_twice : {A : Type 0} (name_of : A → Name) (list : List A) → AreDistinct (map (λ a. (name_of a).text) list) → repeated [] (map name_of list) ≡ []
none_twice name_of list each = none_repeated [] (map name_of list) [] (subst AreDistinct (sym (append-nil (map text_of (map name_of list)) ∙ texts name_of list)) each)

pub no_constant_twice : (constants objects : List Typed) → AreDistinct (map name_text (constants ++ objects)) → repeated [] (map typed_name constants) ≡ []
no_constant_twice constants objects each =
    none_repeated [] (map typed_name constants) (map name_text objects)
    (subst AreDistinct (map-append name_text constants objects ∙ ap (λ names. names ++ map name_text objects) (sym (texts typed_name constants))) each)

pub no_object_twice : (constants objects : List Typed) → AreDistinct (map name_text (constants ++ objects)) → repeated (map name_text constants) (map typed_name objects) ≡ []
no_object_twice constants objects each =
    none_repeated (map name_text constants) (map typed_name objects) []
    (subst AreDistinct
    (map-append name_text constants objects ∙ ap (λ names. map name_text constants ++ names) (sym (append-nil (map text_of (map typed_name objects)) ∙ texts typed_name objects))) each)
