-- Facts by names and by numbers, and the states that they hold in.
use Rattle.std.proofs.Common.{◌≡◌, ℕ, Bool, true, false, not, ◌&&◌, ◌||◌, nat_eq, List, [], ◌∷◌, map, refl, sym, ap, ◌∙◌}
use Rattle.std.proofs.lemmas.Bool.{and_from, and_parts}
use Rattle.std.specs.List.{list_all}
use Rattle.std.specs.Str.{bytes_eq}
use Rattle.std.specs.Cmp.Lexicographic.{pointwise}
use Rattle.std.proofs.lemmas.Slice.Eq.{bytes_eq-Decides}
use Rattle.pb_pddl.specs.declared.tree.Domain.{Domain}
use Rattle.pb_pddl.specs.declared.tree.Problem.{Problem}
use Rattle.pb_lifted.specs.Names.{is_among}
use Rattle.pb_lifted.specs.Lifted.{number}
use Rattle.pb_lifted.specs.Space.{Fact, State, same_fact, is_fact_in, AllHold, after}
use Rattle.pb_lifted.specs.Typing.{object_names, predicate_names}
use Rattle.pb_lifted.specs.Steps.{GroundFact, GroundState, same_ground, is_ground_in, AllGroundHold, ground_after, is_of_task, by_number, IsSameState}
use Rattle.pb_lifted.proofs.TypeTree.{same_number, known_number}

abbrev pub are_among : List (List ℕ) → List (List ℕ) → Bool
are_among names texts = list_all (λ o. is_among o names) texts

-- ---- one fact

same_objects : (names xs ys : List (List ℕ)) → are_among names xs ≡ true → are_among names ys ≡ true
    → pointwise bytes_eq xs ys ≡ pointwise nat_eq (map (λ o. number o names) xs) (map (λ o. number o names) ys)
same_objects names [] [] a b = refl
same_objects names [] (y ∷ ys) a b = refl
same_objects names (x ∷ xs) [] a b = refl
same_objects names (x ∷ xs) (y ∷ ys) a b =
    ap (λ c. c && pointwise bytes_eq xs ys)
    (same_number names x y (number x names) (number y names) (known_number x names (and_parts (is_among x names) (are_among names xs) a).0)
    (known_number y names (and_parts (is_among y names) (are_among names ys) b).0))
    ∙ ap (λ c. nat_eq (number x names) (number y names) && c)
    (same_objects names xs ys (and_parts (is_among x names) (are_among names xs) a).1 (and_parts (is_among y names) (are_among names ys) b).1)

-- facts of the task are one where their numbers are
same_is : (domain : Domain) (problem : Problem) (f g : Fact) → is_of_task domain problem f ≡ true → is_of_task domain problem g ≡ true
    → same_fact f g ≡ same_ground (by_number domain problem f) (by_number domain problem g)
same_is domain problem f g a b =
    ap (λ c. c && pointwise bytes_eq f.objects g.objects)
    (same_number (predicate_names domain) f.predicate g.predicate (number f.predicate (predicate_names domain)) (number g.predicate (predicate_names domain))
    (known_number f.predicate (predicate_names domain) ((and_parts _ (are_among (object_names domain problem) f.objects) a).0))
    (known_number g.predicate (predicate_names domain) ((and_parts _ (are_among (object_names domain problem) g.objects) b).0)))
    ∙ ap (λ c. nat_eq (number f.predicate (predicate_names domain)) (number g.predicate (predicate_names domain)) && c)
    (same_objects (object_names domain problem) f.objects g.objects ((and_parts (is_among f.predicate (predicate_names domain)) _ a).1)
    ((and_parts (is_among g.predicate (predicate_names domain)) _ b).1))

same_texts : (xs ys : List (List ℕ)) → pointwise bytes_eq xs ys ≡ true → xs ≡ ys
same_texts [] [] h = refl
same_texts [] (y ∷ ys) h = cc
same_texts (x ∷ xs) [] h = cc
same_texts (x ∷ xs) (y ∷ ys) h =
    ap (λ z. z ∷ xs) ((bytes_eq-Decides x y).0 (and_parts (bytes_eq x y) (pointwise bytes_eq xs ys) h).0)
    ∙ ap (λ zs. y ∷ zs) (same_texts xs ys (and_parts (bytes_eq x y) (pointwise bytes_eq xs ys) h).1)

-- another fact is none of the task's
other_is : (domain : Domain) (problem : Problem) (f g : Fact) → is_of_task domain problem f ≡ false → is_of_task domain problem g ≡ true → same_fact f g ≡ false
other_is domain problem f g a b = at (same_fact f g) refl
  where
    at : (c : Bool) → same_fact f g ≡ c → c ≡ false
    at false e = refl
    at true e =
        let predicates : f.predicate ≡ g.predicate = (bytes_eq-Decides f.predicate g.predicate).0 (and_parts (bytes_eq f.predicate g.predicate) (pointwise bytes_eq f.objects g.objects) e).0 in
        let objects : f.objects ≡ g.objects = same_texts f.objects g.objects (and_parts (bytes_eq f.predicate g.predicate) (pointwise bytes_eq f.objects g.objects) e).1 in
        let one : is_of_task domain problem f ≡ is_of_task domain problem g =
        ap (λ p. is_among p (predicate_names domain) && are_among (object_names domain problem) f.objects) predicates
        ∙ ap (λ os. is_among g.predicate (predicate_names domain) && are_among (object_names domain problem) os) objects in
        sym b ∙ sym one ∙ a

-- ---- lists of facts

abbrev pub Twin : Domain → Problem → Fact → GroundFact → Type 0
Twin domain problem f g = (is_of_task domain problem f ≡ true) × (by_number domain problem f ≡ g)

abbrev pub Twins : Domain → Problem → List Fact → List GroundFact → Type 0
Twins domain problem [] [] = Unit {0}
Twins domain problem [] (g ∷ grounds) = ⊥
Twins domain problem (f ∷ facts) [] = ⊥
Twins domain problem (f ∷ facts) (g ∷ grounds) = Twin domain problem f g × Twins domain problem facts grounds

pub in_twins : (domain : Domain) (problem : Problem) (f : Fact) (facts : List Fact) (grounds : List GroundFact) → is_of_task domain problem f ≡ true → Twins domain problem facts grounds
    → is_fact_in f facts ≡ is_ground_in (by_number domain problem f) grounds
in_twins domain problem f [] [] of twins = refl
in_twins domain problem f [] (g ∷ grounds) of twins = absurd twins
in_twins domain problem f (x ∷ facts) [] of twins = absurd twins
in_twins domain problem f (x ∷ facts) (g ∷ grounds) of twins =
    ap (λ c. c || is_fact_in f facts) (same_is domain problem f x of twins.0.0 ∙ ap (same_ground (by_number domain problem f)) twins.0.1)
    ∙ ap (λ c. same_ground (by_number domain problem f) g || c) (in_twins domain problem f facts grounds of twins.1)

out_twins : (domain : Domain) (problem : Problem) (f : Fact) (facts : List Fact) (grounds : List GroundFact) → is_of_task domain problem f ≡ false → Twins domain problem facts grounds
    → is_fact_in f facts ≡ false
out_twins domain problem f [] [] of twins = refl
out_twins domain problem f [] (g ∷ grounds) of twins = absurd twins
out_twins domain problem f (x ∷ facts) [] of twins = absurd twins
out_twins domain problem f (x ∷ facts) (g ∷ grounds) of twins =
    ap (λ c. c || is_fact_in f facts) (other_is domain problem f x of twins.0.0) ∙ out_twins domain problem f facts grounds of twins.1

-- ---- states

pub hold_by_numbers : (domain : Domain) (problem : Problem) (now : GroundState) (state : State) (facts : List Fact) (grounds : List GroundFact) → IsSameState domain problem now state
    → Twins domain problem facts grounds → AllHold state facts → AllGroundHold now grounds
hold_by_numbers domain problem now state [] [] same twins hold = tt
hold_by_numbers domain problem now state [] (g ∷ grounds) same twins hold = absurd twins
hold_by_numbers domain problem now state (f ∷ facts) [] same twins hold = absurd twins
hold_by_numbers domain problem now state (f ∷ facts) (g ∷ grounds) same twins hold = (
  ap now (sym twins.0.1) ∙ (and_parts (is_of_task domain problem f) (now (by_number domain problem f)) (sym (same f) ∙ hold.0)).1,
  hold_by_numbers domain problem now state facts grounds same twins.1 hold.1,
)

pub hold_by_names : (domain : Domain) (problem : Problem) (now : GroundState) (state : State) (facts : List Fact) (grounds : List GroundFact) → IsSameState domain problem now state
    → Twins domain problem facts grounds → AllGroundHold now grounds → AllHold state facts
hold_by_names domain problem now state [] [] same twins hold = tt
hold_by_names domain problem now state [] (g ∷ grounds) same twins hold = absurd twins
hold_by_names domain problem now state (f ∷ facts) [] same twins hold = absurd twins
hold_by_names domain problem now state (f ∷ facts) (g ∷ grounds) same twins hold = (
  same f ∙ and_from (is_of_task domain problem f) (now (by_number domain problem f)) twins.0.0 (ap now twins.0.1 ∙ hold.0),
  hold_by_names domain problem now state facts grounds same twins.1 hold.1,
)

pub same_start : (domain : Domain) (problem : Problem) (facts : List Fact) (grounds : List GroundFact) → Twins domain problem facts grounds
    → IsSameState domain problem (λ g. is_ground_in g grounds) (λ f. is_fact_in f facts)
same_start domain problem facts grounds twins f = at (is_of_task domain problem f) refl
  where
    at : (of : Bool) → is_of_task domain problem f ≡ of → is_fact_in f facts ≡ (of && is_ground_in (by_number domain problem f) grounds)
    at true e = in_twins domain problem f facts grounds e twins
    at false e = out_twins domain problem f facts grounds e twins

pub same_after : (domain : Domain) (problem : Problem) (now : GroundState) (state : State) (gone come : List Fact) (deletes adds : List GroundFact) → IsSameState domain problem now state
    → Twins domain problem gone deletes → Twins domain problem come adds → IsSameState domain problem (ground_after now deletes adds) (after state gone come)
same_after domain problem now state gone come deletes adds same less more f = at (is_of_task domain problem f) refl
  where
    n : GroundFact
    n = by_number domain problem f

    at : (of : Bool) → is_of_task domain problem f ≡ of → after state gone come f ≡ (of && ground_after now deletes adds n)
    at true e =
        ap (λ c. c || state f && not (is_fact_in f gone)) (in_twins domain problem f come adds e more)
        ∙ ap (λ c. is_ground_in n adds || state f && not c) (in_twins domain problem f gone deletes e less)
        ∙ ap (λ c. is_ground_in n adds || c && not (is_ground_in n deletes)) (same f ∙ ap (λ b. b && now n) e)
    at false e =
        ap (λ c. c || state f && not (is_fact_in f gone)) (out_twins domain problem f come adds e more)
        ∙ ap (λ c. c && not (is_fact_in f gone)) (same f ∙ ap (λ b. b && now n) e)
