-- A name that is added keeps the numbers of those before it.
use Rattle.std.proofs.Common.{◌≡◌, ℕ, suc, Bool, true, false, cond, not, ◌||◌, Option, Some, None, is_some, option_map, List, [], ◌∷◌, ◌++◌, length, refl, sym, ap, ◌∙◌}
use Rattle.std.specs.declared.cmp.Ordering.{Ordering}
use Rattle.std.specs.Ordering.{nat_cmp, is_eq, match_ordering}
use Rattle.std.specs.declared.cmp.Ordering.TheVariants.{Less, Equal, Greater}
use Rattle.std.specs.Cmp.Lexicographic.{slice_cmp}
use Rattle.std.specs.Global.{Vec}
use Rattle.std.specs.Str.{bytes_eq}
use Rattle.std.specs.Map.{lookup}
use Rattle.std.specs.BTreeMap.{BTreeMap, insert_entry}
use Rattle.std.proofs.lemmas.Map.Text.{is_eq-slice_cmp}
use Rattle.std.proofs.lemmas.Slice.Eq.{bytes_eq-Decides}
use Rattle.std.proofs.lemmas.Map.Lookups.{exact_bytes}
use Rattle.pb_lifted.specs.Names.{number_of, is_among}
use Rattle.pb_lifted.specs.Numbers.{AreNumbers}

abbrev pub or_else : Option ℕ → Option ℕ → Option ℕ
or_else None later = later
or_else (Some n) later = Some n

pub number_added : (text name : List ℕ) (names : List (List ℕ)) → number_of text (names ++ name ∷ []) ≡ or_else (number_of text names) (cond (bytes_eq text name) (Some (length names)) None)
number_added text name [] = refl
number_added text name (first ∷ names) = at (bytes_eq text first) (number_of text names) (bytes_eq text name) (number_added text name names)
  where
    at : (here : Bool) (n : Option ℕ) (last : Bool) → number_of text (names ++ name ∷ []) ≡ or_else n (cond last (Some (length names)) None)
        → cond here (Some 0) (option_map suc (number_of text (names ++ name ∷ []))) ≡ or_else (cond here (Some 0) (option_map suc n)) (cond last (Some (length (first ∷ names))) None)
    at true n last e = refl
    at false (Some m) last e = rw e refl
    at false None true e = rw e refl
    at false None false e = rw e refl

pub among_number : (text : List ℕ) (names : List (List ℕ)) → is_among text names ≡ is_some (number_of text names)
among_number text [] = refl
among_number text (first ∷ names) = at (bytes_eq text first) (number_of text names) (among_number text names)
  where
    at : (here : Bool) (n : Option ℕ) → is_among text names ≡ is_some n → (here || is_among text names) ≡ is_some (cond here (Some 0) (option_map suc n))
    at true n e = refl
    at false (Some m) e = e
    at false None e = e

-- a key that compares with a text
abbrev pub is_key : List ℕ → Vec ℕ → Bool
is_key text key = is_eq (slice_cmp nat_cmp text key.items)

abbrev pub key_cmp : Vec ℕ → Vec ℕ → Ordering
key_cmp a b = slice_cmp nat_cmp a.items b.items

pub key_put : (text : List ℕ) (entries : List (Vec ℕ × ℕ)) (key : Vec ℕ) (n : ℕ) → lookup (is_key text) (insert_entry key_cmp entries key n) ≡ cond (bytes_eq text key.items) (Some n) (lookup (is_key text) entries)
key_put text [] key n = ap (λ b. cond b (Some n) None) (is_eq-slice_cmp text key.items)
key_put text (e ∷ entries) key n = at (key_put text entries key n) (key_cmp key e.0) refl
  where
    here : is_key text key ≡ bytes_eq text key.items
    here = is_eq-slice_cmp text key.items

    swap : (a b : Bool) → (a ≡ true → b ≡ true → key_cmp key e.0 ≡ Greater → ⊥) → key_cmp key e.0 ≡ Greater → cond a (Some e.1) (cond b (Some n) (lookup (is_key text) entries)) ≡ cond b (Some n) (cond a (Some e.1) (lookup (is_key text) entries))
    swap true true f g = absurd (f refl refl g)
    swap true false f g = refl
    swap false b f g = refl

    both : is_key text e.0 ≡ true → bytes_eq text key.items ≡ true → key_cmp key e.0 ≡ Greater → ⊥
    both p q g =
        let a : text ≡ e.0.items = (bytes_eq-Decides text e.0.items).0 (sym (is_eq-slice_cmp text e.0.items) ∙ p) in
        let b : text ≡ key.items = (bytes_eq-Decides text key.items).0 q in
        let same : bytes_eq key.items e.0.items ≡ true = (bytes_eq-Decides key.items e.0.items).1 (sym b ∙ a) in
        let equal : is_eq (key_cmp key e.0) ≡ true = is_eq-slice_cmp key.items e.0.items ∙ same in
        let bad : is_eq Greater ≡ true = ap is_eq (sym g) ∙ equal in cc

    equal_at : key_cmp key e.0 ≡ Equal → is_key text e.0 ≡ bytes_eq text key.items
    equal_at q = is_eq-slice_cmp text e.0.items ∙ ap (bytes_eq text) (sym (exact_bytes key.items e.0.items q))

    hide : (b : Bool) (x y : Option ℕ) → cond b (Some n) x ≡ cond b (Some n) (cond b y x)
    hide true x y = refl
    hide false x y = refl

    at : lookup (is_key text) (insert_entry key_cmp entries key n) ≡ cond (bytes_eq text key.items) (Some n) (lookup (is_key text) entries) → (o : Ordering) → key_cmp key e.0 ≡ o
        → lookup (is_key text) (match_ordering o ((key, n) ∷ e ∷ entries) ((e.0, n) ∷ entries) (e ∷ insert_entry key_cmp entries key n)) ≡ cond (bytes_eq text key.items) (Some n) (cond (is_key text e.0) (Some e.1) (lookup (is_key text) entries))
    at rest Less q = ap (λ b. cond b (Some n) (cond (is_key text e.0) (Some e.1) (lookup (is_key text) entries))) here
    at rest Equal q = rw (equal_at q) (hide (bytes_eq text key.items) (lookup (is_key text) entries) (Some e.1))
    at rest Greater q = ap (λ r. cond (is_key text e.0) (Some e.1) r) rest ∙ swap (is_key text e.0) (bytes_eq text key.items) both q

pub absent_is : (text : List ℕ) (names : List (List ℕ)) → not (is_among text names) ≡ true → number_of text names ≡ None
absent_is text names e = at (number_of text names) (ap not (sym (among_number text names)) ∙ e)
  where
    at : (n : Option ℕ) → not (is_some n) ≡ true → n ≡ None
    at None e = refl
    at (Some n) e = cc

pub there_is : (text : List ℕ) (names : List (List ℕ)) → not (is_among text names) ≡ false → is_some (number_of text names) ≡ true
there_is text names e = at (number_of text names) (ap not (sym (among_number text names)) ∙ e)
  where
    at : (n : Option ℕ) → not (is_some n) ≡ false → is_some n ≡ true
    at None e = cc
    at (Some n) e = refl

-- a new name gets the next number
pub new_number : (name : List ℕ) (names : List (List ℕ)) → number_of name names ≡ None
    → (text : List ℕ) → cond (bytes_eq text name) (Some (length names)) (number_of text names) ≡ number_of text (names ++ name ∷ [])
new_number name names absent text = at (bytes_eq text name) refl ∙ sym (number_added text name names)
  where
    at : (b : Bool) → bytes_eq text name ≡ b → cond b (Some (length names)) (number_of text names) ≡ or_else (number_of text names) (cond b (Some (length names)) None)
    at true e = let same : text ≡ name = (bytes_eq-Decides text name).0 e in
        let none : number_of text names ≡ None = ap (λ t. number_of t names) same ∙ absent in rw none refl
    at false e = elim (number_of text names) as (λ n. n ≡ or_else n None) [ Some m ↦ refl | None ↦ refl ]

-- a name that is there keeps its number
pub old_number : (name : List ℕ) (names : List (List ℕ)) → is_some (number_of name names) ≡ true
    → (text : List ℕ) → number_of text names ≡ number_of text (names ++ name ∷ [])
old_number name names there text = at (bytes_eq text name) refl ∙ sym (number_added text name names)
  where
    keeps : (n later : Option ℕ) → is_some n ≡ true → n ≡ or_else n later
    keeps (Some m) later e = refl
    keeps None later e = cc

    at : (b : Bool) → bytes_eq text name ≡ b → number_of text names ≡ or_else (number_of text names) (cond b (Some (length names)) None)
    at true e = let same : text ≡ name = (bytes_eq-Decides text name).0 e in
        keeps (number_of text names) (Some (length names)) (ap (λ t. is_some (number_of t names)) same ∙ there)
    at false e = elim (number_of text names) as (λ n. n ≡ or_else n None) [ Some m ↦ refl | None ↦ refl ]

-- the map after a new name, and after one that is there
pub after_new : (numbers new : BTreeMap (Vec ℕ) ℕ) (names after : List (List ℕ)) (key : Vec ℕ) (n : ℕ) (name : List ℕ) → AreNumbers numbers names
    → new.entries ≡ insert_entry key_cmp numbers.entries key n → key.items ≡ name → n ≡ length names → not (is_among name names) ≡ true → after ≡ names ++ name ∷ [] → AreNumbers new after
after_new numbers new names after key n name were entries key_is n_is fresh after_is text =
    ap (λ es. lookup (is_key text) es) entries ∙ key_put text numbers.entries key n
    ∙ ap (λ b. cond b (Some n) (lookup (is_key text) numbers.entries)) (ap (bytes_eq text) key_is)
    ∙ ap (λ m. cond (bytes_eq text name) (Some m) (lookup (is_key text) numbers.entries)) n_is
    ∙ ap (λ f. cond (bytes_eq text name) (Some (length names)) f) (were text)
    ∙ new_number name names (absent_is name names fresh) text ∙ sym (ap (number_of text) after_is)

pub after_old : (numbers new : BTreeMap (Vec ℕ) ℕ) (names after : List (List ℕ)) (name : List ℕ) → AreNumbers numbers names
    → new ≡ numbers → not (is_among name names) ≡ false → after ≡ names ++ name ∷ [] → AreNumbers new after
after_old numbers new names after name were same there after_is text =
    ap (λ (m : BTreeMap (Vec ℕ) ℕ). lookup (is_key text) m.entries) same ∙ were text ∙ old_number name names (there_is name names there) text ∙ sym (ap (number_of text) after_is)
