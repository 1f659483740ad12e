-- The way up by names is counted far enough.
use Rattle.std.proofs.Common.{◌≡◌, ◌+◌, ℕ, zero, suc, Bool, true, false, cond, ◌||◌, Option, Some, None, List, length, refl, sym, ap, ◌∙◌, subst, arith}
use Rattle.std.proofs.lemmas.Bool.{or_right, or_left}
use Rattle.std.specs.Str.{bytes_eq}
use Rattle.std.proofs.lemmas.List.{length-map}
use Rattle.std.proofs.lemmas.Slice.Eq.{bytes_eq-Decides}
use Rattle.pb_pddl.specs.declared.tree.Typed.{Typed}
use Rattle.pb_lifted.specs.Names.{number_of}
use Rattle.pb_lifted.specs.Types.{object, kind_text, type_names, is_object, above_in, above, ancestor, height, is_within, is_below}
use Rattle.pb_lifted.specs.Tree.{parent_numbers, comes_to}
use Rattle.pb_lifted.specs.Lifted.{number}
use Rattle.pb_lifted.specs.WaysUp.{MoreStepsChangeNothing, ObjectIsReached, BelowIsTransitive}
use Rattle.pb_lifted.proofs.TypeTree.{within_is, within_unknown, within_object, above_unknown}
use Rattle.pb_lifted.proofs.FarEnough.{more_steps_of_numbers_change_nothing}

pub more_steps_change_nothing : MoreStepsChangeNothing
more_steps_change_nothing types n text high = at (number_of text (type_names types)) refl (number_of high (type_names types)) refl
  where
    parents : List ℕ
    parents = parent_numbers (type_names types) types

    tall : length parents ≡ height types
    tall = ap suc (length-map types (λ t. number (kind_text t) (type_names types)))

    numbers : (i h : ℕ) → comes_to parents (height types + n) i h ≡ comes_to parents (height types) i h
    numbers i h = subst (λ m. comes_to parents (m + n) i h ≡ comes_to parents m i h) tall (more_steps_of_numbers_change_nothing parents n i h (omega arith) refl)

    unknown : (m : ℕ) → number_of text (type_names types) ≡ None → is_within types (suc m) text high ≡ (bytes_eq text high || is_object high)
    unknown m none = ap (λ b. bytes_eq text high || b) (ap (λ q. is_within types m q high) (above_unknown types text none) ∙ within_object types m high)

    at : (i : Option ℕ) → number_of text (type_names types) ≡ i → (h : Option ℕ) → number_of high (type_names types) ≡ h
        → is_within types (height types + n) text high ≡ is_within types (height types) text high
    at None a h b =
        let more : height types + n ≡ suc (length types + n) = omega arith in
        ap (λ m. is_within types m text high) more ∙ unknown (length types + n) a ∙ sym (unknown (length types) a)
    at (Some i) a None b = within_unknown types (height types + n) text high i a b ∙ sym (within_unknown types (height types) text high i a b)
    at (Some i) a (Some h) b =
        within_is types (height types + n) text high i h a b ∙ numbers i h ∙ sym (within_is types (height types) text high i h a b)

-- ---- more steps keep what was reached

within_one : (types : List Typed) (n : ℕ) (text high : List ℕ) → is_within types n text high ≡ true → is_within types (suc n) text high ≡ true
within_one types zero text high h = or_left (bytes_eq text high) (bytes_eq (above types text) high) h
within_one types (suc n) text high h = at (within_one types n (above types text) high) (bytes_eq text high) h
  where
    at : (is_within types n (above types text) high ≡ true → is_within types (suc n) (above types text) high ≡ true) → (b : Bool)
        → (b || is_within types n (above types text) high) ≡ true → (b || is_within types (suc n) (above types text) high) ≡ true
    at rest true h = refl
    at rest false h = rest h

within_more : (types : List Typed) (k n : ℕ) (text high : List ℕ) → is_within types n text high ≡ true → is_within types (k + n) text high ≡ true
within_more types zero n text high h = let none : 0 + n ≡ n = omega arith in ap (λ m. is_within types m text high) none ∙ h
within_more types (suc k) n text high h =
    let more : suc k + n ≡ suc (k + n) = omega arith in
    ap (λ m. is_within types m text high) more ∙ within_one types (k + n) text high (within_more types k n text high h)

reaches : (types : List Typed) (n : ℕ) (text high : List ℕ) → is_within types n text high ≡ true → is_below types text high ≡ true
reaches types n text high h =
    let swap : height types + n ≡ n + height types = omega arith in
    sym (more_steps_change_nothing types n text high) ∙ within_more types (height types) n text high h

-- ---- object

ancestor_within : (types : List Typed) (n : ℕ) (text : List ℕ) → is_object (ancestor types n text) ≡ is_within types n text object
ancestor_within types zero text = refl
ancestor_within types (suc n) text = at (is_object text) refl (ancestor_within types n (above types text))
  where
    at : (b : Bool) → is_object text ≡ b → is_object (ancestor types n (above types text)) ≡ is_within types n (above types text) object
        → is_object (ancestor types n (above types text)) ≡ (b || is_within types n (above types text) object)
    at true e rest =
        let up : above types text ≡ object = ap (λ c. cond c object (above_in types text)) e in
        rest ∙ ap (λ q. is_within types n q object) up ∙ within_object types n object
    at false e rest = rest

pub object_is_reached : ObjectIsReached
object_is_reached types n text h = ancestor_within types (height types) text ∙ reaches types n text object (sym (ancestor_within types n text) ∙ h)

-- ---- one way up, and then another

chain : (types : List Typed) (m n : ℕ) (low middle high : List ℕ) → is_within types m low middle ≡ true → is_within types n middle high ≡ true → is_within types (m + n) low high ≡ true
chain types zero n low middle high p q = within_more types zero n low high (ap (λ t. is_within types n t high) ((bytes_eq-Decides low middle).0 p) ∙ q)
chain types (suc m) n low middle high p q = at (chain types m n (above types low) middle high) (bytes_eq low middle) refl p
  where
    more : suc m + n ≡ suc (m + n)
    more = omega arith

    at : (is_within types m (above types low) middle ≡ true → is_within types n middle high ≡ true → is_within types (m + n) (above types low) high ≡ true) → (b : Bool) → bytes_eq low middle ≡ b
        → (b || is_within types m (above types low) middle) ≡ true → is_within types (suc m + n) low high ≡ true
    at rest true e p = within_more types (suc m) n low high (ap (λ t. is_within types n t high) ((bytes_eq-Decides low middle).0 e) ∙ q)
    at rest false e p = ap (λ k. is_within types k low high) more ∙ or_right (bytes_eq low high) (is_within types (m + n) (above types low) high) (rest p q)

pub below_is_transitive : BelowIsTransitive
below_is_transitive types low middle high p q = reaches types (height types + height types) low high (chain types (height types) (height types) low middle high p q)
