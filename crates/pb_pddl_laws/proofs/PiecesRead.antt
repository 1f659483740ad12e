-- Predicates, facts, keywords and parts of actions: what is read is what the grammar has, and the other way round.
use Rattle.std.proofs.Common.{◌≡◌, ◌<◌, ◌≤◌, Bool, false, inl, inr, List, [], ◌∷◌, ◌++◌, length, drop, Ok, refl, sym, ap, subst, ◌∙◌, arith}
use Rattle.pb_pddl.specs.declared.token.TokenKind.TheVariants as kinds
use Rattle.pb_pddl.specs.declared.token.Token.{Token}
use Rattle.pb_pddl.specs.declared.tree.Name.{Name}
use Rattle.pb_pddl.specs.declared.tree.Atom.{Atom}
use Rattle.std.specs.Prelude.{codes}
use Rattle.pb_pddl.specs.declared.tree.Cost.{Cost}
use Rattle.pb_pddl.specs.declared.tree.Predicate.{Predicate}
use Rattle.pb_pddl.specs.declared.parts.InitParts.{InitParts}
use Rattle.pb_pddl.specs.declared.error.Want.{Want}
use Rattle.pb_pddl.specs.declared.error.Want.TheVariants as wants
use Rattle.pb_pddl.specs.Reading.{◌>>=◌, Read, kind_number, same_kind, front, need, name_at, name_of, atom_at, all_of, begins_open, add_predicate, predicates_at, begins_key, add_key, keys_at, spells, cost_at, add_held, add_equal, add_fact, no_init, facts_at, list_at}
use Rattle.pb_pddl.specs.Grammar.{Takes, Many, Closed, AddsName, IsAtom, IsCost, IsList, IsPredicate, IsFact}
use Rattle.pb_pddl_laws.proofs.Singles.{ok_pair, bind_ok, bind_again, begins_takes, takes_begins, takes_less, need_takes, takes_need, name_takes, takes_name, open_token, close_token, word_token, key_token, equals_token, says_spells, spells_not, takes_other, close_no_open, word_no_equals}
use Rattle.pb_pddl_laws.proofs.ManyRead.{IsSound, IsComplete, all_sound, all_complete, steps_less}
use Rattle.pb_pddl_laws.proofs.AtomsRead.{atom_sound, atom_complete, atom_less}
use Rattle.pb_pddl_laws.proofs.CondsRead.{if_cases, if_true, if_false}
use Rattle.pb_pddl_laws.proofs.CostsRead.{at_says, cost_sound, cost_complete, cost_less}
use Rattle.pb_pddl_laws.proofs.ListsRead.{list_sound, list_complete, list_less, variables_listed}

-- ---- many pieces and the ) behind them

abbrev pub closing : {S : Type 0} → Want → S × List Token → Read S
closing want all = need kinds.Close want all.1 >>= λ r. Ok (all.0, r)

module _ {S : Type 0} (more : List Token → Bool) (step : S → List Token → Read S) (X : S → List Token → S → List Token → Type 0) where
  pub closed_sound : (want : Want) (s : S) (ts : List Token) (now : S) (rest : List Token) → IsSound more step X
      → (all_of more step s ts >>= closing want) ≡ Ok (now, rest) → Closed X s ts rest now
  closed_sound want s ts now rest sound e =
      let a = bind_ok (all_of more step s ts) _ (now, rest) e in
      let c = bind_ok (need kinds.Close want a.0.1) _ (now, rest) a.2 in
      let p = ok_pair a.0.0 now c.0 rest c.2 in
      let taken = need_takes kinds.Close want a.0.1 c.0 close_token c.1 in
      (a.0.1, subst (λ x. Many X s ts x a.0.1) p.0 (all_sound more step X s ts a.0.0 a.0.1 sound a.1), (taken.0, subst (Takes kinds.Close a.0.1 taken.0) p.1 taken.1))

  pub closed_complete : (want : Want) (s : S) (ts : List Token) (now : S) (rest : List Token) → IsComplete more step X
      → ((us vs : List Token) (t : Token) → Takes kinds.Close us t vs → more us ≡ false) → Closed X s ts rest now
      → (all_of more step s ts >>= closing want) ≡ Ok (now, rest)
  closed_complete want s ts now rest complete stop (last, many, (c, closes)) =
      bind_again (all_of more step s ts) _ (now, last) _ (all_complete more step X s ts now last complete (stop last rest c closes) many)
      (bind_again (need kinds.Close want last) _ rest _ (takes_need kinds.Close want last c rest closes) refl)

  pub closed_less : (s : S) (ts : List Token) (now : S) (rest : List Token) → IsComplete more step X → Closed X s ts rest now → length rest < length ts
  closed_less s ts now rest complete (last, many, (c, closes)) =
      let one : length last ≤ length ts = steps_less more step X many.0 s ts now last complete many.1 in
      let two : length rest < length last = takes_less kinds.Close last c rest closes in
      omega arith

pub open_stops : (us vs : List Token) (t : Token) → Takes kinds.Close us t vs → begins_open us ≡ false
open_stops us vs t h = takes_other kinds.Close kinds.Open us t vs close_no_open h

close_no_key : same_kind kinds.Close kinds.Key ≡ false
unfolding same_kind kind_number
close_no_key = refl

pub key_stops : (us vs : List Token) (t : Token) → Takes kinds.Close us t vs → begins_key us ≡ false
unfolding begins_key
key_stops us vs t h = takes_other kinds.Close kinds.Key us t vs close_no_key h

-- ---- predicates

pub predicate_sound : IsSound begins_open add_predicate IsPredicate
unfolding add_predicate
predicate_sound s ts now rest m e =
    let o = bind_ok (need kinds.Open wants.Paren ts) _ (now, rest) e in
    let n = bind_ok (name_at kinds.Word wants.Name o.0) _ (now, rest) o.2 in
    let l = bind_ok (list_at kinds.Variable wants.Variable n.0.1) _ (now, rest) n.2 in
    let p = ok_pair (s ++ record { name = n.0.0; params = l.0.0 } ∷ []) now l.0.1 rest l.2 in (
      o.0,
      n.0.1,
      n.0.0,
      l.0.0,
      need_takes kinds.Open wants.Paren ts o.0 open_token o.1,
      name_takes kinds.Word wants.Name o.0 n.0.1 n.0.0 word_token n.1,
      subst (λ r. IsList kinds.Variable n.0.1 r l.0.0) p.1 (list_sound kinds.Variable wants.Variable n.0.1 l.0.1 l.0.0 variables_listed l.1),
      sym p.0,
    )

pub predicate_complete : IsComplete begins_open add_predicate IsPredicate
unfolding add_predicate
predicate_complete s ts now rest (inside, vars, name, params, (o, opens), named, list, is) =
    let one : length inside < length ts = takes_less kinds.Open ts o inside opens in
    let two : length vars < length inside = takes_less kinds.Word inside named.0 vars named.1 in
    let three : length rest < length vars = list_less kinds.Variable vars rest params variables_listed list in (
      (takes_begins kinds.Open ts o inside opens).0,
      bind_again (need kinds.Open wants.Paren ts) _ inside _ (takes_need kinds.Open wants.Paren ts o inside opens)
          (bind_again (name_at kinds.Word wants.Name inside) _ (name, vars) _ (takes_name kinds.Word wants.Name inside vars name named)
          (bind_again (list_at kinds.Variable wants.Variable vars) _ (params, rest) _ (list_complete kinds.Variable wants.Variable vars rest params variables_listed list) (ap (λ (x : List Predicate). Ok (x, rest)) (sym is)))),
      omega arith,
    )

pub predicates_sound : (ts rest : List Token) (list : List Predicate) → predicates_at ts ≡ Ok (list, rest) → Closed IsPredicate [] ts rest list
unfolding predicates_at
predicates_sound ts rest list e = closed_sound begins_open add_predicate IsPredicate wants.Paren [] ts list rest predicate_sound e

pub predicates_complete : (ts rest : List Token) (list : List Predicate) → Closed IsPredicate [] ts rest list → predicates_at ts ≡ Ok (list, rest)
unfolding predicates_at
predicates_complete ts rest list c = closed_complete begins_open add_predicate IsPredicate wants.Paren [] ts list rest predicate_complete open_stops c

pub predicates_less : (ts rest : List Token) (list : List Predicate) → Closed IsPredicate [] ts rest list → length rest < length ts
predicates_less ts rest list c = closed_less begins_open add_predicate IsPredicate [] ts list rest predicate_complete c

-- ---- facts

abbrev with_held : InitParts → Atom → InitParts
with_held said atom = record { atoms = said.atoms ++ atom ∷ []; costs = said.costs }

abbrev with_equal : InitParts → Cost → InitParts
with_equal said cost = record { atoms = said.atoms; costs = said.costs ++ cost ∷ [] }

pub fact_sound : IsSound begins_open add_fact IsFact
unfolding add_fact add_held add_equal
fact_sound s ts now rest m e =
    let o = bind_ok (need kinds.Open wants.Paren ts) _ (now, rest) e in (
      o.0,
      need_takes kinds.Open wants.Paren ts o.0 open_token o.1,
      elim (if_cases (spells kinds.Equals (codes "=") o.0) _ _ (Ok (now, rest)) o.2) [
        | inl w ↦
            let c = bind_ok (cost_at o.0) _ (now, rest) w.1 in
            let p = ok_pair (with_equal s c.0.0) now c.0.1 rest c.2 in
            inl (c.0.0, subst (λ r. IsCost kinds.Equals (codes "=") o.0 r c.0.0) p.1 (cost_sound kinds.Equals (codes "=") o.0 c.0.1 c.0.0 equals_token w.0 c.1), sym p.0)
        | inr w ↦
            let a = bind_ok (atom_at false o.0) _ (now, rest) w.1 in
            let p = ok_pair (with_held s a.0.0) now a.0.1 rest a.2 in
            inr (a.0.0, subst (λ r. IsAtom false o.0 r a.0.0) p.1 (atom_sound false o.0 a.0.1 a.0.0 a.1), sym p.0)
      ],
    )

pub fact_complete : IsComplete begins_open add_fact IsFact
unfolding add_fact add_held add_equal
fact_complete s ts now rest (inside, (o, opens), cases) =
    let first = (takes_begins kinds.Open ts o inside opens).0 in
    let opened = takes_need kinds.Open wants.Paren ts o inside opens in
    let one : length inside < length ts = takes_less kinds.Open ts o inside opens in
    elim cases [
      | inl (cost, is, now_is) ↦
          let w = says_spells kinds.Equals (codes "=") inside is.first (at_says kinds.Equals (codes "=") inside is.first cost.at is.sign) in
          let two : length rest < length inside = cost_less kinds.Equals (codes "=") inside rest cost is in (
            first,
            bind_again (need kinds.Open wants.Paren ts) _ inside _ opened
                (if_true (spells kinds.Equals (codes "=") inside) _ _ w.0
                ∙ bind_again (cost_at inside) _ (cost, rest) _ (cost_complete kinds.Equals (codes "=") inside rest cost is) (ap (λ (x : InitParts). Ok (x, rest)) (sym now_is))),
            omega arith,
          )
      | inr (atom, is, now_is) ↦
          let head = is.head.0 in
          let no_equals = spells_not kinds.Equals (codes "=") inside (takes_other kinds.Word kinds.Equals inside head.0 is.inside word_no_equals head.1) in
          let two : length rest < length inside = atom_less false inside rest atom is in (
            first,
            bind_again (need kinds.Open wants.Paren ts) _ inside _ opened
                (if_false (spells kinds.Equals (codes "=") inside) _ _ no_equals
                ∙ bind_again (atom_at false inside) _ (atom, rest) _ (atom_complete false inside rest atom is) (ap (λ (x : InitParts). Ok (x, rest)) (sym now_is))),
            omega arith,
          )
    ]

pub facts_sound : (ts rest : List Token) (all : InitParts) → facts_at ts ≡ Ok (all, rest) → Closed IsFact no_init ts rest all
unfolding facts_at
facts_sound ts rest all e = closed_sound begins_open add_fact IsFact wants.Paren no_init ts all rest fact_sound e

pub facts_complete : (ts rest : List Token) (all : InitParts) → Closed IsFact no_init ts rest all → facts_at ts ≡ Ok (all, rest)
unfolding facts_at
facts_complete ts rest all c = closed_complete begins_open add_fact IsFact wants.Paren no_init ts all rest fact_complete open_stops c

pub facts_less : (ts rest : List Token) (all : InitParts) → Closed IsFact no_init ts rest all → length rest < length ts
facts_less ts rest all c = closed_less begins_open add_fact IsFact no_init ts all rest fact_complete c

-- ---- words of requirements

pub key_sound : IsSound begins_key add_key (AddsName kinds.Key)
unfolding begins_key add_key
key_sound s ts now rest m e =
    let p = ok_pair (s ++ name_of (front ts) ∷ []) now (drop 1 ts) rest e in
    (name_of (front ts), (front ts, subst (Takes kinds.Key ts (front ts)) p.1 (begins_takes kinds.Key ts key_token m), refl), sym p.0)

pub key_complete : IsComplete begins_key add_key (AddsName kinds.Key)
unfolding begins_key add_key
key_complete s ts now rest (name, (t, h, is), now_is) =
    let b = takes_begins kinds.Key ts t rest h in (
      b.0,
      ap (λ (n : Name). Ok (s ++ n ∷ [], drop 1 ts)) (ap name_of b.1 ∙ sym is) ∙ ap (λ (x : List Name). Ok (x, drop 1 ts)) (sym now_is) ∙ ap (λ (r : List Token). Ok (now, r)) b.2,
      takes_less kinds.Key ts t rest h,
    )

pub keys_sound : (ts rest : List Token) → keys_at ts ≡ Ok rest → (keys : List Name) × Closed (AddsName kinds.Key) [] ts rest keys
unfolding keys_at
keys_sound ts rest e =
    let a = bind_ok (all_of begins_key add_key [] ts) _ rest e in
    (a.0.0, (a.0.1, all_sound begins_key add_key (AddsName kinds.Key) [] ts a.0.0 a.0.1 key_sound a.1, need_takes kinds.Close wants.Close a.0.1 rest close_token a.2))

pub keys_complete : (ts rest : List Token) (keys : List Name) → Closed (AddsName kinds.Key) [] ts rest keys → keys_at ts ≡ Ok rest
unfolding keys_at
keys_complete ts rest keys (last, many, (c, closes)) =
    bind_again (all_of begins_key add_key [] ts) _ (keys, last) _ (all_complete begins_key add_key (AddsName kinds.Key) [] ts keys last key_complete (key_stops last rest c closes) many)
    (takes_need kinds.Close wants.Close last c rest closes)

pub keys_less : (ts rest : List Token) (keys : List Name) → Closed (AddsName kinds.Key) [] ts rest keys → length rest < length ts
keys_less ts rest keys c = closed_less begins_key add_key (AddsName kinds.Key) [] ts keys rest key_complete c
