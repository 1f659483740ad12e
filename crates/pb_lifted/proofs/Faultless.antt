-- Nothing is refused exactly where no cause has a place.
use Rattle.std.proofs.Common.{◌≡◌, ◌<◌, ℕ, zero, suc, Bool, true, false, Option, Some, None, List, [], ◌∷◌, ◌++◌, length, flat_map, get_or, refl, ap, ◌∙◌, arith}
use Rattle.pb_pddl.specs.declared.tree.Domain.{Domain}
use Rattle.pb_pddl.specs.declared.tree.Problem.{Problem}
use Rattle.pb_lifted.specs.declared.refusal.Cause.{Cause}
use Rattle.pb_lifted.specs.declared.refusal.Place.{Place}
use Rattle.pb_lifted.specs.Names.{fault_if, earlier, earliest}
use Rattle.pb_lifted.specs.Objects.{objects_of}
use Rattle.pb_lifted.specs.Refusals.{in_domain, in_problem, place_in, first_place, or_refusal, too_many, first_among}

earliest_some : (n : ℕ) (xs : List ℕ) → earliest (Some n) xs ≡ None → ⊥
earliest_some n [] h = cc
earliest_some n (x ∷ xs) h = earliest_some (earlier (Some n) x) xs h

nothing_earliest : (xs : List ℕ) → earliest None xs ≡ None → xs ≡ []
nothing_earliest [] h = refl
nothing_earliest (x ∷ xs) h = absurd (earliest_some x xs h)

pub nil_left : {A : Type 0} (xs ys : List A) → xs ++ ys ≡ [] → xs ≡ []
nil_left [] ys h = refl
nil_left (x ∷ xs) ys h = cc

pub nil_right : {A : Type 0} (xs ys : List A) → xs ++ ys ≡ [] → ys ≡ []
nil_right [] ys h = h
nil_right (x ∷ xs) ys h = cc

pub each_nil : {A B : Type 0} (f : A → List B) (xs : List A) → flat_map f xs ≡ [] → (k : ℕ) (d : A) → k < length xs → f (get_or xs k d) ≡ []
each_nil f [] h k d less = absurd (omega arith)
each_nil f (x ∷ xs) h zero d less = nil_left (f x) (flat_map f xs) h
each_nil f (x ∷ xs) h (suc k) d less = each_nil f xs (nil_right (f x) (flat_map f xs) h) k d (omega arith)

pub both_nil : {A : Type 0} (xs ys : List A) → xs ≡ [] → ys ≡ [] → xs ++ ys ≡ []
both_nil xs ys a b = ap (λ zs. zs ++ ys) a ∙ b

pub all_nil : {A B : Type 0} (f : A → List B) (xs : List A) → ((k : ℕ) (d : A) → k < length xs → f (get_or xs k d) ≡ []) → flat_map f xs ≡ []
all_nil f [] h = refl
all_nil f (x ∷ xs) h = both_nil (f x) (flat_map f xs) (h 0 x (omega arith)) (all_nil f xs (λ k d less. h (suc k) d (omega arith)))

pub no_fault : (b : Bool) (at : ℕ) → fault_if b at ≡ [] → b ≡ false
no_fault true at h = cc
no_fault false at h = refl

abbrev pub AllFaultless : List Cause → Domain → Problem → Type 0
AllFaultless [] domain problem = too_many (length (objects_of domain problem)) ≡ None
AllFaultless (cause ∷ later) domain problem = ((in_domain cause domain problem ≡ []) × (in_problem cause domain problem ≡ [])) × AllFaultless later domain problem

no_place : (a b : Option ℕ) → place_in a b ≡ None → (a ≡ None) × (b ≡ None)
no_place (Some at) b h = cc
no_place None (Some at) h = cc
no_place None None h = (refl, refl)

pub faultless : (order : List Cause) (domain : Domain) (problem : Problem) → first_among order domain problem ≡ None → AllFaultless order domain problem
faultless [] domain problem h = h
faultless (cause ∷ later) domain problem h = at (first_place cause domain problem) refl (faultless later domain problem) h
  where
    none : first_place cause domain problem ≡ None → (in_domain cause domain problem ≡ []) × (in_problem cause domain problem ≡ [])
    none e =
        let both : (earliest None (in_domain cause domain problem) ≡ None) × (earliest None (in_problem cause domain problem) ≡ None) =
        no_place (earliest None (in_domain cause domain problem)) (earliest None (in_problem cause domain problem)) e in
        (nothing_earliest (in_domain cause domain problem) both.0, nothing_earliest (in_problem cause domain problem) both.1)

    at : (p : Option Place) → first_place cause domain problem ≡ p → (first_among later domain problem ≡ None → AllFaultless later domain problem)
        → or_refusal cause p (first_among later domain problem) ≡ None → AllFaultless (cause ∷ later) domain problem
    at (Some place) e rest h = cc
    at None e rest h = (none e, rest h)

pub not_refused : (order : List Cause) (domain : Domain) (problem : Problem) → AllFaultless order domain problem → first_among order domain problem ≡ None
not_refused [] domain problem free = free
not_refused (cause ∷ later) domain problem free =
    let nowhere : first_place cause domain problem ≡ None =
    ap (λ xs. place_in (earliest None xs) (earliest None (in_problem cause domain problem))) free.0.0 ∙ ap (λ xs. place_in None (earliest None xs)) free.0.1 in
    ap (λ p. or_refusal cause p (first_among later domain problem)) nowhere ∙ not_refused later domain problem free.1
