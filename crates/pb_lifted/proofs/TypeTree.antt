-- The tree of types by names, and by numbers.
use Rattle.std.proofs.Common.{◌≡◌, ◌<◌, ℕ, zero, suc, Bool, true, false, cond, not, ◌||◌, nat_eq, Option, Some, None, is_some, option_map, unwrap_or, List, [], ◌∷◌, ◌++◌, length, map, refl, sym, ap, ◌∙◌, arith, get_or}
use Rattle.std.proofs.Math.Bool.{or_self}
use Rattle.std.specs.Str.{bytes_eq}
use Rattle.std.proofs.lemmas.Bool.{false_from_ne_true}
use Rattle.std.proofs.lemmas.Bool.Decides.{nat_tests, same_from_decides, Decides-like}
use Rattle.std.proofs.lemmas.Slice.Eq.{bytes_eq-Decides}
use Rattle.pb_pddl.specs.declared.tree.Name.{Name}
use Rattle.pb_pddl.specs.declared.tree.Typed.{Typed}
use Rattle.pb_lifted.specs.Names.{number_of, is_among}
use Rattle.pb_lifted.specs.Types.{object, name_text, kind_or, kind_text, kind_names, kinds_of, type_names, is_object, above_in, above, ancestor, height, is_within, is_below, is_cyclic}
use Rattle.pb_lifted.specs.Tree.{parent_numbers, climb, comes_to, does_not_lead}
use Rattle.pb_lifted.proofs.Numbering.{among_number}

pub swap_text : (a b : List ℕ) → bytes_eq a b ≡ bytes_eq b a
swap_text a b =
    same_from_decides (bytes_eq a b) (bytes_eq b a) (bytes_eq-Decides a b)
    (Decides-like (bytes_eq b a) (λ (same : b ≡ a). sym same) (λ (same : a ≡ b). sym same) (bytes_eq-Decides b a))

-- ---- numbers of names

abbrev pub is_then : Bool → Option ℕ → Option ℕ
is_then here rest = cond here (Some 0) (option_map suc rest)

-- names are one where their numbers are
pub same_number : (names : List (List ℕ)) (a b : List ℕ) (i j : ℕ) → number_of a names ≡ Some i → number_of b names ≡ Some j → bytes_eq a b ≡ nat_eq i j
same_number [] a b i j p q = cc
same_number (x ∷ names) a b i j p q = at (bytes_eq a x) (bytes_eq b x) refl refl (number_of a names) (number_of b names) refl refl (λ k l f g. same_number names a b k l f g) p q
  where
    at : (here there : Bool) → bytes_eq a x ≡ here → bytes_eq b x ≡ there → (m n : Option ℕ) → number_of a names ≡ m → number_of b names ≡ n
        → ((k l : ℕ) → number_of a names ≡ Some k → number_of b names ≡ Some l → bytes_eq a b ≡ nat_eq k l)
        → is_then here m ≡ Some i → is_then there n ≡ Some j → bytes_eq a b ≡ nat_eq i j
    at true true e f m n g h rest p q =
        let i_is : i ≡ 0 = cc in let j_is : j ≡ 0 = cc in
        let ab : a ≡ b = (bytes_eq-Decides a x).0 e ∙ sym ((bytes_eq-Decides b x).0 f) in
        (bytes_eq-Decides a b).1 ab ∙ rw (i_is, j_is) refl
    at true false e f m None g h rest p q = cc
    at true false e f m (Some l) g h rest p q =
        let i_is : i ≡ 0 = cc in let j_is : j ≡ suc l = cc in
        false_from_ne_true (bytes_eq a b) (λ alike. let same : a ≡ b = (bytes_eq-Decides a b).0 alike in let t : bytes_eq b x ≡ true = (bytes_eq-Decides b x).1 (sym same ∙ (bytes_eq-Decides a x).0 e) in cc) ∙ rw (i_is, j_is) (grind (arith, nat_tests))
    at false true e f None n g h rest p q = cc
    at false true e f (Some k) n g h rest p q =
        let i_is : i ≡ suc k = cc in let j_is : j ≡ 0 = cc in
        false_from_ne_true (bytes_eq a b) (λ alike. let same : a ≡ b = (bytes_eq-Decides a b).0 alike in let t : bytes_eq a x ≡ true = (bytes_eq-Decides a x).1 (same ∙ (bytes_eq-Decides b x).0 f) in cc) ∙ rw (i_is, j_is) (grind (arith, nat_tests))
    at false false e f None n g h rest p q = cc
    at false false e f (Some k) None g h rest p q = cc
    at false false e f (Some k) (Some l) g h rest p q =
        let i_is : i ≡ suc k = cc in let j_is : j ≡ suc l = cc in
        rest k l g h ∙ rw (i_is, j_is) (grind (arith, nat_tests))

pub among_append : (text : List ℕ) (xs ys : List (List ℕ)) → is_among text xs ≡ true → is_among text (xs ++ ys) ≡ true
among_append text [] ys h = cc
among_append text (x ∷ xs) ys h = at (bytes_eq text x) (among_append text xs ys) h
  where
    at : (here : Bool) → (is_among text xs ≡ true → is_among text (xs ++ ys) ≡ true) → (here || is_among text xs) ≡ true → (here || is_among text (xs ++ ys)) ≡ true
    at true rest h = refl
    at false rest h = rest h

pub among_behind : (text : List ℕ) (xs ys : List (List ℕ)) → is_among text ys ≡ true → is_among text (xs ++ ys) ≡ true
among_behind text [] ys h = h
among_behind text (x ∷ xs) ys h = at (bytes_eq text x) (among_behind text xs ys h)
  where
    at : (here : Bool) → is_among text (xs ++ ys) ≡ true → (here || is_among text (xs ++ ys)) ≡ true
    at true rest = refl
    at false rest = rest

-- a name that is there has a number
pub known_number : (text : List ℕ) (names : List (List ℕ)) → is_among text names ≡ true → number_of text names ≡ Some (unwrap_or (number_of text names) 0)
known_number text names h = at (number_of text names) (sym (among_number text names) ∙ h)
  where
    at : (n : Option ℕ) → is_some n ≡ true → n ≡ Some (unwrap_or n 0)
    at None e = cc
    at (Some n) e = refl

-- ---- the types above

abbrev pub KindsKnown : List (List ℕ) → List Typed → Type 0
KindsKnown names [] = Unit {0}
KindsKnown names (t ∷ types) = (is_among (kind_text t) names ≡ true) × KindsKnown names types

kinds_known_in : (names : List (List ℕ)) (types : List Typed) → ((q : List ℕ) → is_among q (kinds_of types) ≡ true → is_among q names ≡ true) → is_among object names ≡ true → KindsKnown names types
kinds_known_in names [] all root = tt
kinds_known_in names (t ∷ types) all root =
    (at t.kind all, kinds_known_in names types (λ q h. all q (among_behind q (kind_names t.kind) (kinds_of types) h)) root)
  where
    at : (kind : Option Name) → ((q : List ℕ) → is_among q (kind_names kind ++ kinds_of types) ≡ true → is_among q names ≡ true) → is_among (kind_or kind) names ≡ true
    at None all = root
    at (Some kind) all = all kind.text (among_append kind.text (kind.text ∷ []) (kinds_of types) (ap (λ b. b || false) ((bytes_eq-Decides kind.text kind.text).1 refl)))

pub kinds_known : (types : List Typed) → KindsKnown (type_names types) types
kinds_known types = kinds_known_in (type_names types) types (λ q h. among_behind q (object ∷ map name_text types) (kinds_of types) h) refl

above_step : (names ks : List (List ℕ)) (types : List Typed) (q : List ℕ) (j : ℕ) → KindsKnown names types → number_of object names ≡ Some 0 → number_of q (map name_text types ++ ks) ≡ Some j
    → number_of (above_in types q) names ≡ Some (get_or (map (λ t. unwrap_or (number_of (kind_text t) names) 0) types) j 0)
above_step names ks [] q j known root h = root
above_step names ks (t ∷ types) q j known root h = at (bytes_eq q (name_text t)) (number_of q (map name_text types ++ ks)) refl (λ k e. above_step names ks types q k known.1 root e) h
  where
    at : (here : Bool) (n : Option ℕ) → number_of q (map name_text types ++ ks) ≡ n
        → ((k : ℕ) → number_of q (map name_text types ++ ks) ≡ Some k → number_of (above_in types q) names ≡ Some (get_or (map (λ u. unwrap_or (number_of (kind_text u) names) 0) types) k 0))
        → is_then here n ≡ Some j
        → number_of (cond here (kind_text t) (above_in types q)) names ≡ Some (get_or (map (λ u. unwrap_or (number_of (kind_text u) names) 0) (t ∷ types)) j 0)
    at true n e rest h = let j_is : j ≡ 0 = cc in rw j_is (known_number (kind_text t) names known.0)
    at false None e rest h = cc
    at false (Some k) e rest h = let j_is : j ≡ suc k = cc in rw j_is (rest k e)

-- a step up by names is one by numbers
pub up_step : (types : List Typed) (q : List ℕ) (i : ℕ) → number_of q (type_names types) ≡ Some i
    → number_of (above types q) (type_names types) ≡ Some (get_or (parent_numbers (type_names types) types) i 0)
up_step types q i h = at (is_object q) (number_of q (map name_text types ++ kinds_of types)) refl h
  where
    at : (here : Bool) (n : Option ℕ) → number_of q (map name_text types ++ kinds_of types) ≡ n → is_then here n ≡ Some i
        → number_of (cond here object (above_in types q)) (type_names types) ≡ Some (get_or (parent_numbers (type_names types) types) i 0)
    at true n e h = let i_is : i ≡ 0 = cc in rw i_is refl
    at false None e h = cc
    at false (Some k) e h = let i_is : i ≡ suc k = cc in rw i_is (above_step (type_names types) (kinds_of types) types q k (kinds_known types) refl e)

pub ancestor_is : (types : List Typed) (n : ℕ) (q : List ℕ) (i : ℕ) → number_of q (type_names types) ≡ Some i
    → number_of (ancestor types n q) (type_names types) ≡ Some (climb (parent_numbers (type_names types) types) n i)
ancestor_is types zero q i h = h
ancestor_is types (suc n) q i h = ancestor_is types n (above types q) (get_or (parent_numbers (type_names types) types) i 0) (up_step types q i h)

pub within_is : (types : List Typed) (n : ℕ) (q high : List ℕ) (i h : ℕ) → number_of q (type_names types) ≡ Some i → number_of high (type_names types) ≡ Some h
    → is_within types n q high ≡ comes_to (parent_numbers (type_names types) types) n i h
within_is types zero q high i h a b = same_number (type_names types) q high i h a b
within_is types (suc n) q high i h a b =
    ap (λ c. c || is_within types n (above types q) high) (same_number (type_names types) q high i h a b)
    ∙ ap (λ c. nat_eq i h || c) (within_is types n (above types q) high (get_or (parent_numbers (type_names types) types) i 0) h (up_step types q i a) b)

-- no way leads to what is no type
pub within_unknown : (types : List Typed) (n : ℕ) (q high : List ℕ) (i : ℕ) → number_of q (type_names types) ≡ Some i → number_of high (type_names types) ≡ None → is_within types n q high ≡ false
within_unknown types n q high i a b = by n q i a
  where
    apart : (q : List ℕ) (i : ℕ) → number_of q (type_names types) ≡ Some i → bytes_eq q high ≡ false
    apart q i a = false_from_ne_true (bytes_eq q high) (λ same. let n : number_of q (type_names types) ≡ None = ap (λ t. number_of t (type_names types)) ((bytes_eq-Decides q high).0 same) ∙ b in cc)

    by : (n : ℕ) (q : List ℕ) (i : ℕ) → number_of q (type_names types) ≡ Some i → is_within types n q high ≡ false
    by zero q i a = apart q i a
    by (suc n) q i a = ap (λ c. c || is_within types n (above types q) high) (apart q i a) ∙ by n (above types q) (get_or (parent_numbers (type_names types) types) i 0) (up_step types q i a)

-- above object there is object alone
pub within_object : (types : List Typed) (n : ℕ) (high : List ℕ) → is_within types n object high ≡ is_object high
within_object types n high = by n ∙ swap_text object high
  where
    by : (n : ℕ) → is_within types n object high ≡ bytes_eq object high
    by zero = refl
    by (suc n) = ap (λ c. bytes_eq object high || c) (by n) ∙ or_self (bytes_eq object high)

above_unknown_in : (types : List Typed) (ks : List (List ℕ)) (q : List ℕ) → number_of q (map name_text types ++ ks) ≡ None → above_in types q ≡ object
above_unknown_in [] ks q h = refl
above_unknown_in (t ∷ types) ks q h = at (bytes_eq q (name_text t)) (number_of q (map name_text types ++ ks)) refl (above_unknown_in types ks q) h
  where
    at : (here : Bool) (n : Option ℕ) → number_of q (map name_text types ++ ks) ≡ n → (number_of q (map name_text types ++ ks) ≡ None → above_in types q ≡ object)
        → is_then here n ≡ None → cond here (kind_text t) (above_in types q) ≡ object
    at true n e rest h = cc
    at false None e rest h = rest e
    at false (Some k) e rest h = cc

-- above a name that is no type there is object
pub above_unknown : (types : List Typed) (low : List ℕ) → number_of low (type_names types) ≡ None → above types low ≡ object
above_unknown types low unknown = at (is_object low) (number_of low (map name_text types ++ kinds_of types)) refl unknown
  where
    at : (here : Bool) (n : Option ℕ) → number_of low (map name_text types ++ kinds_of types) ≡ n → is_then here n ≡ None → cond here object (above_in types low) ≡ object
    at true n e h = refl
    at false None e h = above_unknown_in types (kinds_of types) low e
    at false (Some k) e h = cc

-- a name that is no type is below object alone, and itself
pub below_unknown : (types : List Typed) (low high : List ℕ) → number_of low (type_names types) ≡ None → bytes_eq low high ≡ false → is_below types low high ≡ is_object high
below_unknown types low high unknown apart =
    ap (λ c. c || is_within types (length types) (above types low) high) apart
    ∙ (ap (λ q. is_within types (length types) q high) (above_unknown types low unknown) ∙ within_object types (length types) high)

-- ---- the way up from a declared type

declared_number : (ks : List (List ℕ)) (types : List Typed) (t : Typed) (i : ℕ) → i < length types → t ≡ get_or types i t
    → (j : ℕ) × (j < length types) × (number_of (name_text t) (map name_text types ++ ks) ≡ Some j)
declared_number ks [] t i less is = absurd (omega arith)
declared_number ks (first ∷ types) t zero less is =
    (0, omega arith, ap (λ b. is_then b (number_of (name_text t) (map name_text types ++ ks))) (ap (λ u. bytes_eq (name_text t) (name_text u)) (sym is) ∙ (bytes_eq-Decides (name_text t) (name_text t)).1 refl))
declared_number ks (first ∷ types) t (suc i) less is = at (declared_number ks types t i (omega arith) is) (bytes_eq (name_text t) (name_text first)) refl
  where
    at : ((j : ℕ) × (j < length types) × (number_of (name_text t) (map name_text types ++ ks) ≡ Some j)) → (here : Bool) → bytes_eq (name_text t) (name_text first) ≡ here
        → (j : ℕ) × (j < suc (length types)) × (is_then here (number_of (name_text t) (map name_text types ++ ks)) ≡ Some j)
    at found true e = (0, omega arith, refl)
    at (j, less, is) false e = (suc j, omega arith, ap (λ n. is_then false n) is)

-- by numbers it is told whether the way up from a declared type comes to object
pub cyclic_is : (types : List Typed) (far : List ℕ) (t : Typed) (i : ℕ) → i < length types → t ≡ get_or types i t
    → ((k : ℕ) → k < height types → get_or far k 0 ≡ climb (parent_numbers (type_names types) types) (height types) k)
    → does_not_lead (type_names types) far t ≡ is_cyclic types t
cyclic_is types far t i less is each = at (is_object (name_text t)) refl
  where
    place : (j : ℕ) × (j < length types) × (number_of (name_text t) (map name_text types ++ kinds_of types) ≡ Some j)
    place = declared_number (kinds_of types) types t i less is

    number : is_object (name_text t) ≡ false → number_of (name_text t) (type_names types) ≡ Some (suc place.0)
    number e = ap (λ b. is_then b (number_of (name_text t) (map name_text types ++ kinds_of types))) e ∙ ap (λ n. is_then false n) place.2

    end : is_object (name_text t) ≡ false → get_or far (unwrap_or (number_of (name_text t) (type_names types)) 0) 0 ≡ climb (parent_numbers (type_names types) types) (height types) (suc place.0)
    end e = ap (λ n. get_or far (unwrap_or n 0) 0) (number e) ∙ each (suc place.0) (let l : place.0 < length types = place.1 in omega arith)

    at : (here : Bool) → is_object (name_text t) ≡ here
        → cond here (not (is_object (kind_text t))) (not (nat_eq (get_or far (unwrap_or (number_of (name_text t) (type_names types)) 0) 0) 0))
        ≡ cond here (not (is_object (kind_text t))) (not (is_object (ancestor types (height types) (name_text t))))
    at true e = refl
    at false e =
        ap (λ n. not (nat_eq n 0)) (end e)
        ∙ sym (ap not (same_number (type_names types) (ancestor types (height types) (name_text t)) object (climb (parent_numbers (type_names types) types) (height types) (suc place.0)) 0
        (ancestor_is types (height types) (name_text t) (suc place.0) (number e)) refl))
