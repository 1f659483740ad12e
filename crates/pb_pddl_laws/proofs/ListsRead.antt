-- Lists of names with types: what is read is what the grammar has, and the other way round.
use Rattle.std.proofs.Common.{◌≡◌, ◌≢◌, ℕ, zero, suc, ◌<◌, ◌≤◌, true, false, ◌||◌, ◌==◌, List, [], ◌∷◌, ◌++◌, length, drop, Ok, refl, sym, ap, subst, ◌∙◌, arith, ◌⊎◌, inl, inr}
use Rattle.std.proofs.lemmas.Bool.{or_left, or_right}
use Rattle.std.specs.Prelude.{Some, None}
use Rattle.pb_pddl.specs.declared.token.TokenKind.{TokenKind}
use Rattle.pb_pddl.specs.declared.token.TokenKind.TheVariants as kinds
use Rattle.pb_pddl.specs.declared.token.Token.{Token}
use Rattle.pb_pddl.specs.declared.tree.Name.{Name}
use Rattle.pb_pddl.specs.declared.tree.Typed.{Typed}
use Rattle.pb_pddl.specs.declared.parts.Group.{Group}
use Rattle.pb_pddl.specs.declared.error.Want.{Want}
use Rattle.pb_pddl.specs.Reading.{front, begins, kind_number, same_kind, need, name_of, typed, type_at, close_group, group_step, begins_group, list_at, all_of}
use Rattle.pb_pddl.specs.Grammar.{Takes, Names, Dashes, Steps, Many, AddsName, IsGroup, IsList}
use Rattle.pb_pddl_laws.proofs.Singles.{ok_pair, bind_ok, bind_again, guard_ok, begins_takes, takes_begins, takes_less, need_takes, takes_need, IsToken, dash_token, close_token, word_token, takes_other}
use Rattle.pb_pddl_laws.proofs.ManyRead.{IsSound, IsComplete, all_sound, all_complete, steps_less}
use Rattle.pb_pddl_laws.proofs.AtomsRead.{or_cases}
use Rattle.pb_pddl_laws.proofs.CondsRead.{if_cases, if_true, if_false}

-- ---- pieces one after another

pub one_more : {S : Type 0} (X : S → List Token → S → List Token → Type 0) (n : ℕ) (s : S) (ts : List Token) (mid : S) (us : List Token) (now : S) (rest : List Token)
    → Steps X n s ts mid us → X mid us now rest → Steps X (suc n) s ts now rest
one_more X zero s ts mid us now rest (is, at) one = (now, rest, subst (λ x. X x ts now rest) is (subst (λ r. X mid r now rest) at one), (refl, refl))
one_more X (suc n) s ts mid us now rest (a, b, first, others) one = (a, b, first, one_more X n a b mid us now rest others one)

pub then_more : {S : Type 0} (X : S → List Token → S → List Token → Type 0) (n m : ℕ) (s : S) (ts : List Token) (mid : S) (us : List Token) (now : S) (rest : List Token)
    → Steps X n s ts mid us → Steps X m mid us now rest → Many X s ts now rest
then_more X zero m s ts mid us now rest (is, at) others = (m, subst (λ x. Steps X m x ts now rest) is (subst (λ r. Steps X m mid r now rest) at others))
then_more X (suc n) m s ts mid us now rest (a, b, first, more) others = let t = then_more X n m a b mid us now rest more others in (suc t.0, (a, b, first, t.1))

-- ---- the steps of the reading: a name waits, or a type closes the group

abbrev pub Waits : TokenKind → Group → List Token → Group → List Token → Type 0
Waits kind g ts now rest = (name : Name) × Names kind ts rest name × (now ≡ record { done = g.done; waiting = g.waiting ++ name ∷ [] })

abbrev pub Gives : TokenKind → Group → List Token → Group → List Token → Type 0
Gives kind g ts now rest =
    (word : List Token) × (type : Name) × (length g.waiting ≢ 0) × Dashes ts word × Names kinds.Word word rest type × (now ≡ record { done = g.done ++ typed (Some type) g.waiting; waiting = [] })

abbrev pub Step : TokenKind → Group → List Token → Group → List Token → Type 0
Step kind g ts now rest = Waits kind g ts now rest ⊎ Gives kind g ts now rest

type_sound : (ts rest : List Token) (name : Name) → type_at ts ≡ Ok (name, rest) → Names kinds.Word ts rest name
unfolding type_at
type_sound ts rest name e =
    let g = guard_ok (begins kinds.Word ts) (name_of (front ts), drop 1 ts) (name, rest) _ e in
    (front ts, subst (Takes kinds.Word ts (front ts)) (ap (λ (x : Name × List Token). x.1) g.1) (begins_takes kinds.Word ts word_token g.0), sym (ap (λ (x : Name × List Token). x.0) g.1))

type_complete : (ts rest : List Token) (name : Name) → Names kinds.Word ts rest name → type_at ts ≡ Ok (name, rest)
unfolding type_at
type_complete ts rest name (t, h, is) =
    let b = takes_begins kinds.Word ts t rest h in
    if_true (begins kinds.Word ts) _ _ b.0 ∙ ap (λ (n : Name). Ok (n, drop 1 ts)) (ap name_of b.1 ∙ sym is) ∙ ap (λ (r : List Token). Ok (name, r)) b.2

not_zero : {A : Type 0} (xs : List A) → length xs == 0 ≡ false → length xs ≢ 0
not_zero [] e = absurd cc
not_zero (x ∷ xs) e = omega arith

zero_not : {A : Type 0} (xs : List A) → length xs ≢ 0 → length xs == 0 ≡ false
zero_not [] ne = absurd (ne refl)
zero_not (x ∷ xs) ne = grind arith

pub step_sound : (kind : TokenKind) → IsToken kind → IsSound (begins_group kind) (group_step kind) (Step kind)
unfolding begins_group group_step close_group
step_sound kind some g ts now rest m e =
    elim (if_cases (begins kind ts) _ _ (Ok (now, rest)) e) [
      | inl w ↦
          let p = ok_pair (record { done = g.done; waiting = g.waiting ++ name_of (front ts) ∷ [] }) now (drop 1 ts) rest w.1 in
          inl (name_of (front ts), (front ts, subst (Takes kind ts (front ts)) p.1 (begins_takes kind ts some w.0), refl), sym p.0)
      | inr w ↦ elim (if_cases (length g.waiting == 0) _ _ (Ok (now, rest)) w.1) [
        | inl z ↦ absurd cc
        | inr z ↦
            let t = bind_ok (type_at (drop 1 ts)) _ (now, rest) z.1 in
            let p = ok_pair (record { done = g.done ++ typed (Some t.0.0) g.waiting; waiting = [] }) now t.0.1 rest t.2 in
            let dash : begins kinds.Dash ts ≡ true = elim (or_cases (begins kind ts) (begins kinds.Dash ts) m) [ inl a ↦ absurd cc | inr a ↦ a.1 ] in
            inr (
              drop 1 ts,
              t.0.0,
              not_zero g.waiting z.0,
              (front ts, begins_takes kinds.Dash ts dash_token dash),
              subst (λ r. Names kinds.Word (drop 1 ts) r t.0.0) p.1 (type_sound (drop 1 ts) t.0.1 t.0.0 t.1),
              sym p.0,
            )
      ]
    ]

pub step_complete : (kind : TokenKind) → same_kind kinds.Dash kind ≡ false → IsComplete (begins_group kind) (group_step kind) (Step kind)
unfolding begins_group group_step close_group
step_complete kind apart g ts now rest cases =
    elim cases [
      | inl (name, (t, h, is), now_is) ↦
          let b = takes_begins kind ts t rest h in
          let name_is : name_of (front ts) ≡ name = ap name_of b.1 ∙ sym is in (
            or_left (begins kind ts) (begins kinds.Dash ts) b.0,
            if_true (begins kind ts) _ _ b.0 ∙ ap (λ (n : Name). Ok (record { done = g.done; waiting = g.waiting ++ n ∷ [] }, drop 1 ts)) name_is ∙ ap (λ (x : Group). Ok (x, drop 1 ts)) (sym now_is)
                ∙ ap (λ (r : List Token). Ok (now, r)) b.2,
            takes_less kind ts t rest h,
          )
      | inr (word, type, some, (d, dash), named, now_is) ↦
          let b = takes_begins kinds.Dash ts d word dash in
          let one : length word < length ts = takes_less kinds.Dash ts d word dash in
          let two : length rest < length word = takes_less kinds.Word word named.0 rest named.1 in (
            or_right (begins kind ts) (begins kinds.Dash ts) b.0,
            if_false (begins kind ts) _ _ (takes_other kinds.Dash kind ts d word apart dash) ∙ if_false (length g.waiting == 0) _ _ (zero_not g.waiting some)
                ∙ bind_again (type_at (drop 1 ts)) _ (type, rest) _ (ap type_at b.2 ∙ type_complete word rest type named) (ap (λ (x : Group). Ok (x, rest)) (sym now_is)),
            omega arith,
          )
    ]

-- ---- from steps to groups

names_then_groups : (kind : TokenKind) (k : ℕ) (g : Group) (ts : List Token) (now : Group) (rest first : List Token) → Steps (Step kind) k g ts now rest → Many (AddsName kind) [] first g.waiting ts
    → (mid : List Token) × Many (IsGroup kind) g.done first now.done mid × Many (AddsName kind) [] mid now.waiting rest
names_then_groups kind zero g ts now rest first (is, at) names =
    (first, (0, (ap (λ (x : Group). x.done) is, refl)), subst (λ (x : List Name). Many (AddsName kind) [] first x rest) (ap (λ (x : Group). x.waiting) (sym is)) (subst (λ r. Many (AddsName kind) [] first g.waiting r) (sym at) names))
names_then_groups kind (suc k) g ts now rest first (mid, us, one, others) names =
    elim one [
      | inl (name, named, mid_is) ↦
          let more : Many (AddsName kind) [] first (g.waiting ++ name ∷ []) us = (suc names.0, one_more (AddsName kind) names.0 [] first g.waiting ts (g.waiting ++ name ∷ []) us names.1 (name, named, refl)) in
          let r = names_then_groups kind k mid us now rest first others (subst (λ (x : Group). Many (AddsName kind) [] first x.waiting us) (sym mid_is) more) in
          (r.0, subst (λ (x : Group). Many (IsGroup kind) x.done first now.done r.0) mid_is r.1, r.2)
      | inr (word, type, some, dash, named, mid_is) ↦
          let none : Many (AddsName kind) [] us mid.waiting us = (0, (ap (λ (x : Group). x.waiting) mid_is, refl)) in
          let r = names_then_groups kind k mid us now rest us others none in
          let group : IsGroup kind g.done first mid.done us = (g.waiting, ts, word, type, names, some, dash, named, ap (λ (x : Group). x.done) mid_is) in
          (r.0, (suc r.1.0, (mid.done, us, group, r.1.1)), r.2)
    ]

-- ---- from groups to steps

abbrev group : List Typed → List Name → Group
group done waiting = record { done = done; waiting = waiting }

names_steps : (kind : TokenKind) (k : ℕ) (done : List Typed) (said : List Name) (ts : List Token) (now : List Name) (rest : List Token) → Steps (AddsName kind) k said ts now rest → Steps (Step kind) k (group done said) ts (group done now) rest
names_steps kind zero done said ts now rest (is, at) = (ap (group done) is, at)
names_steps kind (suc k) done said ts now rest (mid, us, (name, named, is), others) =
    (group done mid, us, inl (name, named, ap (group done) is), names_steps kind k done mid us now rest others)

groups_steps : (kind : TokenKind) (k : ℕ) (said : List Typed) (ts : List Token) (now : List Typed) (rest : List Token) → Steps (IsGroup kind) k said ts now rest → Many (Step kind) (group said []) ts (group now []) rest
groups_steps kind zero said ts now rest (is, at) = (0, (ap (λ (x : List Typed). group x []) is, at))
groups_steps kind (suc k) said ts now rest (mid, us, (names, dash, word, type, many, some, dashes, named, is), others) =
    let read = names_steps kind many.0 said [] ts names dash many.1 in
    let closes : Step kind (group said names) dash (group mid []) us = inr (word, type, some, dashes, named, ap (λ (x : List Typed). group x []) is) in
    let one = one_more (Step kind) many.0 (group said []) ts (group said names) dash (group mid []) us read closes in
    let rest_of = groups_steps kind k mid us now rest others in
    then_more (Step kind) (suc many.0) rest_of.0 (group said []) ts (group mid []) us (group now []) rest one rest_of.1

-- ---- lists

abbrev pub IsListed : TokenKind → Type 0
IsListed kind = IsToken kind × (same_kind kinds.Dash kind ≡ false) × (same_kind kinds.Close kind ≡ false) × (same_kind kinds.Close kinds.Dash ≡ false)

close_no_group : (kind : TokenKind) (ts : List Token) (t : Token) (rest : List Token) → IsListed kind → Takes kinds.Close ts t rest → begins_group kind ts ≡ false
unfolding begins_group
close_no_group kind ts t rest k h = ap (λ a. a || begins kinds.Dash ts) (takes_other kinds.Close kind ts t rest k.2 h) ∙ takes_other kinds.Close kinds.Dash ts t rest k.3 h

pub list_sound : (kind : TokenKind) (want : Want) (ts rest : List Token) (list : List Typed) → IsListed kind → list_at kind want ts ≡ Ok (list, rest) → IsList kind ts rest list
unfolding list_at
list_sound kind want ts rest list k e =
    let a = bind_ok (all_of (begins_group kind) (group_step kind) (group [] []) ts) _ (list, rest) e in
    let c = bind_ok (need kinds.Close want a.0.1) _ (list, rest) a.2 in
    let p = ok_pair (a.0.0.done ++ typed None a.0.0.waiting) list c.0 rest c.2 in
    let steps = all_sound (begins_group kind) (group_step kind) (Step kind) (group [] []) ts a.0.0 a.0.1 (step_sound kind k.0) a.1 in
    let none : Many (AddsName kind) [] ts [] ts = (0, (refl, refl)) in
    let r = names_then_groups kind steps.0 (group [] []) ts a.0.0 a.0.1 ts steps.1 none in
    let taken = need_takes kinds.Close want a.0.1 c.0 close_token c.1 in
    record {
      done = a.0.0.done;
      names = a.0.0.waiting;
      last_names = r.0;
      last = a.0.1;
      groups = r.1;
      others = r.2;
      close = (taken.0, subst (Takes kinds.Close a.0.1 taken.0) p.1 taken.1);
      is = sym p.0;
    }

pub list_steps : (kind : TokenKind) (ts rest : List Token) (list : List Typed) → (l : IsList kind ts rest list) → Many (Step kind) (group [] []) ts (group l.done l.names) l.last
list_steps kind ts rest list l =
    let a = groups_steps kind l.groups.0 [] ts l.done l.last_names l.groups.1 in
    then_more (Step kind) a.0 l.others.0 (group [] []) ts (group l.done []) l.last_names (group l.done l.names) l.last a.1 (names_steps kind l.others.0 l.done [] l.last_names l.names l.last l.others.1)

pub list_complete : (kind : TokenKind) (want : Want) (ts rest : List Token) (list : List Typed) → IsListed kind → IsList kind ts rest list → list_at kind want ts ≡ Ok (list, rest)
unfolding list_at
list_complete kind want ts rest list k l =
    bind_again (all_of (begins_group kind) (group_step kind) (group [] []) ts) _ (group l.done l.names, l.last) _
    (all_complete (begins_group kind) (group_step kind) (Step kind) (group [] []) ts (group l.done l.names) l.last (step_complete kind k.1) (close_no_group kind l.last l.close.0 rest k l.close.1) (list_steps kind ts rest list l))
    (bind_again (need kinds.Close want l.last) _ rest _ (takes_need kinds.Close want l.last l.close.0 rest l.close.1) (ap (λ (x : List Typed). Ok (x, rest)) (sym l.is)))

pub list_less : (kind : TokenKind) (ts rest : List Token) (list : List Typed) → IsListed kind → IsList kind ts rest list → length rest < length ts
list_less kind ts rest list k l =
    let s = list_steps kind ts rest list l in
    let one : length l.last ≤ length ts = steps_less (begins_group kind) (group_step kind) (Step kind) s.0 (group [] []) ts (group l.done l.names) l.last (step_complete kind k.1) s.1 in
    let two : length rest < length l.last = takes_less kinds.Close l.last l.close.0 rest l.close.1 in
    omega arith

pub words_listed : IsListed kinds.Word
unfolding same_kind kind_number
words_listed = (refl, refl, refl, refl)

pub variables_listed : IsListed kinds.Variable
unfolding same_kind kind_number
variables_listed = (refl, refl, refl, refl)
