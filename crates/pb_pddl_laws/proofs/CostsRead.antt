-- Costs and :functions: what is read is what the grammar has, and the other way round.
use Rattle.std.proofs.Common.{◌≡◌, ℕ, ◌<◌, Bool, true, false, ◌&&◌, List, length, drop, Ok, refl, sym, ap, subst, ◌∙◌, arith, inl, inr}
use Rattle.std.proofs.lemmas.Bool.{and_parts}
use Rattle.std.specs.Prelude.{codes}
use Rattle.pb_pddl.specs.declared.token.TokenKind.{TokenKind}
use Rattle.pb_pddl.specs.declared.token.TokenKind.TheVariants as kinds
use Rattle.pb_pddl.specs.declared.token.Token.{Token}
use Rattle.pb_pddl.specs.declared.tree.Cost.{Cost}
use Rattle.pb_pddl.specs.declared.error.Want.TheVariants as wants
use Rattle.pb_pddl.specs.declared.error.LeftOut.{LeftOut}
use Rattle.pb_pddl.specs.declared.error.LeftOut.TheVariants as left
use Rattle.pb_pddl.specs.Numbers.{is_number, number_of}
use Rattle.pb_pddl.specs.Reading.{front, begins, spells, need, only_word, total_cost_at, begins_number, number_at, cost_at, number_type, function_type, one_function, functions_at}
use Rattle.pb_pddl.specs.Grammar.{Takes, Says, SaysAt, IsTotalCost, IsNumber, IsCost, IsFunctions}
use Rattle.pb_pddl_laws.proofs.Singles.{ok_pair, bind_ok, bind_again, guard_ok, begins_takes, takes_begins, takes_less, need_takes, takes_need, IsToken, open_token, close_token, dash_token, word_token, spells_says, says_spells, takes_other, close_no_dash, open_no_close}
use Rattle.pb_pddl_laws.proofs.CondsRead.{if_cases, if_true, if_false}

-- ---- a word, and its place

pub says_at : (kind : TokenKind) (text : List ℕ) (ts : List Token) → IsToken kind → spells kind text ts ≡ true → SaysAt kind text ts (drop 1 ts) (front ts).at
says_at kind text ts some e =
    let s = spells_says kind text ts some e in
    (s.0, s.1, s.2, ap (λ (x : Token). x.at) (takes_begins kind ts s.0 (drop 1 ts) s.1).1)

pub at_says : (kind : TokenKind) (text : List ℕ) (ts rest : List Token) (at : ℕ) → SaysAt kind text ts rest at → Says kind text ts rest
at_says kind text ts rest at (t, h, is, place) = (t, h, is)

pub front_at : (kind : TokenKind) (text : List ℕ) (ts rest : List Token) (at : ℕ) → SaysAt kind text ts rest at → (front ts).at ≡ at
front_at kind text ts rest at (t, h, is, place) = ap (λ (x : Token). x.at) (takes_begins kind ts t rest h).1 ∙ sym place

only_at : (text : List ℕ) (what : LeftOut) (ts rest : List Token) → only_word text what ts ≡ Ok rest → SaysAt kinds.Word text ts rest (front ts).at
unfolding only_word
only_at text what ts rest e =
    let g = guard_ok (spells kinds.Word text ts) (drop 1 ts) rest _ e in
    subst (λ r. SaysAt kinds.Word text ts r (front ts).at) g.1 (says_at kinds.Word text ts word_token g.0)

pub only_sound : (text : List ℕ) (what : LeftOut) (ts rest : List Token) → only_word text what ts ≡ Ok rest → Says kinds.Word text ts rest
only_sound text what ts rest e = at_says kinds.Word text ts rest (front ts).at (only_at text what ts rest e)

pub only_complete : (text : List ℕ) (what : LeftOut) (ts rest : List Token) → Says kinds.Word text ts rest → only_word text what ts ≡ Ok rest
unfolding only_word
only_complete text what ts rest says =
    let w = says_spells kinds.Word text ts rest says in
    if_true (spells kinds.Word text ts) _ _ w.0 ∙ ap (λ (r : List Token). Ok r) w.1

-- ---- ( total-cost )

pub total_sound : (ts rest : List Token) (at : ℕ) → total_cost_at ts ≡ Ok (at, rest) → IsTotalCost ts rest at
unfolding total_cost_at
total_sound ts rest at e =
    let o = bind_ok (need kinds.Open wants.Paren ts) _ (at, rest) e in
    let w = bind_ok (only_word (codes "total-cost") left.Function o.0) _ (at, rest) o.2 in
    let c = bind_ok (need kinds.Close wants.Close w.0) _ (at, rest) w.2 in
    let p = ok_pair (front o.0).at at c.0 rest c.2 in
    let taken = need_takes kinds.Close wants.Close w.0 c.0 close_token c.1 in (
      o.0,
      w.0,
      need_takes kinds.Open wants.Paren ts o.0 open_token o.1,
      subst (λ (a : ℕ). SaysAt kinds.Word (codes "total-cost") o.0 w.0 a) p.0 (only_at (codes "total-cost") left.Function o.0 w.0 w.1),
      (taken.0, subst (Takes kinds.Close w.0 taken.0) p.1 taken.1),
    )

pub total_complete : (ts rest : List Token) (at : ℕ) → IsTotalCost ts rest at → total_cost_at ts ≡ Ok (at, rest)
unfolding total_cost_at
total_complete ts rest at (inside, last, (o, opens), says, (c, closes)) =
    bind_again (need kinds.Open wants.Paren ts) _ inside _ (takes_need kinds.Open wants.Paren ts o inside opens)
    (bind_again (only_word (codes "total-cost") left.Function inside) _ last _ (only_complete (codes "total-cost") left.Function inside last (at_says kinds.Word (codes "total-cost") inside last at says))
    (bind_again (need kinds.Close wants.Close last) _ rest _ (takes_need kinds.Close wants.Close last c rest closes) (ap (λ (a : ℕ). Ok (a, rest)) (front_at kinds.Word (codes "total-cost") inside last at says))))

pub total_less : (ts rest : List Token) (at : ℕ) → IsTotalCost ts rest at → length rest < length ts
total_less ts rest at (inside, last, (o, opens), (t, word, is, place), (c, closes)) =
    let one : length inside < length ts = takes_less kinds.Open ts o inside opens in
    let two : length last < length inside = takes_less kinds.Word inside t last word in
    let three : length rest < length last = takes_less kinds.Close last c rest closes in
    omega arith

-- ---- NUM

number_sound : (ts rest : List Token) (n : ℕ) → number_at ts ≡ Ok (n, rest) → IsNumber ts rest n (front ts).at
unfolding number_at begins_number
number_sound ts rest n e =
    let g = guard_ok (begins kinds.Word ts && is_number (front ts).text) (number_of (front ts).text, drop 1 ts) (n, rest) _ e in
    let b = and_parts (begins kinds.Word ts) (is_number (front ts).text) g.0 in
    (front ts, subst (Takes kinds.Word ts (front ts)) (ap (λ (x : ℕ × List Token). x.1) g.1) (begins_takes kinds.Word ts word_token b.0), b.1, sym (ap (λ (x : ℕ × List Token). x.0) g.1), refl)

number_complete : (ts rest : List Token) (n at : ℕ) → IsNumber ts rest n at → (number_at ts ≡ Ok (n, rest)) × ((front ts).at ≡ at)
unfolding number_at begins_number
number_complete ts rest n at (t, h, is, value, place) =
    let b = takes_begins kinds.Word ts t rest h in
    let both : begins kinds.Word ts && is_number (front ts).text ≡ true = ap (λ a. a && is_number (front ts).text) b.0 ∙ ap (λ (x : Token). is_number x.text) b.1 ∙ is in (
      if_true (begins kinds.Word ts && is_number (front ts).text) _ _ both
          ∙ ap (λ (m : ℕ). Ok (m, drop 1 ts)) (ap (λ (x : Token). number_of x.text) b.1 ∙ sym value) ∙ ap (λ (r : List Token). Ok (n, r)) b.2,
      ap (λ (x : Token). x.at) b.1 ∙ sym place,
    )

-- ---- costs

pub cost_sound : (kind : TokenKind) (text : List ℕ) (ts rest : List Token) (cost : Cost) → IsToken kind → spells kind text ts ≡ true → cost_at ts ≡ Ok (cost, rest) → IsCost kind text ts rest cost
unfolding cost_at
cost_sound kind text ts rest cost some spelled e =
    let f = bind_ok (total_cost_at (drop 1 ts)) _ (cost, rest) e in
    let n = bind_ok (number_at f.0.1) _ (cost, rest) f.2 in
    let c = bind_ok (need kinds.Close wants.Close n.0.1) _ (cost, rest) n.2 in
    let p = ok_pair (record { at = (front ts).at; function = f.0.0; number = n.0.0; number_at = (front f.0.1).at }) cost c.0 rest c.2 in
    let taken = need_takes kinds.Close wants.Close n.0.1 c.0 close_token c.1 in
    subst (λ (x : Cost). IsCost kind text ts rest x) p.0 (record {
      first = drop 1 ts;
      second = f.0.1;
      last = n.0.1;
      sign = says_at kind text ts some spelled;
      function = total_sound (drop 1 ts) f.0.1 f.0.0 f.1;
      number = number_sound f.0.1 n.0.1 n.0.0 n.1;
      close = (taken.0, subst (Takes kinds.Close n.0.1 taken.0) p.1 taken.1);
    })

pub cost_complete : (kind : TokenKind) (text : List ℕ) (ts rest : List Token) (cost : Cost) → IsCost kind text ts rest cost → cost_at ts ≡ Ok (cost, rest)
unfolding cost_at
cost_complete kind text ts rest cost is =
    let w = takes_begins kind ts is.sign.0 is.first is.sign.1 in
    let n = number_complete is.second is.last cost.number cost.number_at is.number in
    bind_again (total_cost_at (drop 1 ts)) _ (cost.function, is.second) _ (ap total_cost_at w.2 ∙ total_complete is.first is.second cost.function is.function)
    (bind_again (number_at is.second) _ (cost.number, is.last) _ n.0
    (bind_again (need kinds.Close wants.Close is.last) _ rest _ (takes_need kinds.Close wants.Close is.last is.close.0 rest is.close.1)
    (ap (λ (a : ℕ). let x : Cost = record { at = a; function = cost.function; number = cost.number; number_at = (front is.second).at } in Ok (x, rest)) (front_at kind text ts is.first cost.at is.sign)
    ∙ ap (λ (a : ℕ). let x : Cost = record { at = cost.at; function = cost.function; number = cost.number; number_at = a } in Ok (x, rest)) n.1)))

pub cost_less : (kind : TokenKind) (text : List ℕ) (ts rest : List Token) (cost : Cost) → IsCost kind text ts rest cost → length rest < length ts
cost_less kind text ts rest cost is =
    let one : length is.first < length ts = takes_less kind ts is.sign.0 is.first is.sign.1 in
    let two : length is.second < length is.first = total_less is.first is.second cost.function is.function in
    let three : length is.last < length is.second = takes_less kinds.Word is.second is.number.0 is.last is.number.1 in
    let four : length rest < length is.last = takes_less kinds.Close is.last is.close.0 rest is.close.1 in
    omega arith

-- ---- :functions

type_sound : (ts rest : List Token) → number_type ts ≡ Ok rest → Says kinds.Word (codes "number") ts rest
unfolding number_type
type_sound ts rest e =
    let g = guard_ok (spells kinds.Word (codes "number") ts) (drop 1 ts) rest _ e in
    subst (λ r. Says kinds.Word (codes "number") ts r) g.1 (spells_says kinds.Word (codes "number") ts word_token g.0)

type_complete : (ts rest : List Token) → Says kinds.Word (codes "number") ts rest → number_type ts ≡ Ok rest
unfolding number_type
type_complete ts rest says =
    let w = says_spells kinds.Word (codes "number") ts rest says in
    if_true (spells kinds.Word (codes "number") ts) _ _ w.0 ∙ ap (λ (r : List Token). Ok r) w.1

one_sound : (ts rest : List Token) (has_cost : Bool) → one_function ts ≡ Ok (has_cost, rest) → IsFunctions ts rest has_cost
unfolding one_function function_type
one_sound ts rest has_cost e =
    let f = bind_ok (total_cost_at ts) _ (has_cost, rest) e in
    let total = total_sound ts f.0.1 f.0.0 f.1 in
    let t = bind_ok (function_type f.0.1) _ (has_cost, rest) f.2 in
    let p = ok_pair true has_cost t.0 rest t.2 in
    elim (if_cases (begins kinds.Dash f.0.1) _ _ (Ok t.0) t.1) [
      | inl d ↦
          let n = bind_ok (number_type (drop 1 f.0.1)) _ t.0 d.1 in
          let taken = need_takes kinds.Close wants.Close n.0 t.0 close_token n.2 in
          inr (inr (
            f.0.0,
            f.0.1,
            drop 1 f.0.1,
            n.0,
            total,
            (front f.0.1, begins_takes kinds.Dash f.0.1 dash_token d.0),
            type_sound (drop 1 f.0.1) n.0 n.1,
            (taken.0, subst (Takes kinds.Close n.0 taken.0) p.1 taken.1),
            sym p.0,
          ))
      | inr d ↦
          let taken = need_takes kinds.Close wants.Close f.0.1 t.0 close_token d.1 in
          inr (inl (f.0.0, f.0.1, total, (taken.0, subst (Takes kinds.Close f.0.1 taken.0) p.1 taken.1), sym p.0))
    ]

pub functions_sound : (ts rest : List Token) (has_cost : Bool) → functions_at ts ≡ Ok (has_cost, rest) → IsFunctions ts rest has_cost
unfolding functions_at
functions_sound ts rest has_cost e = elim (if_cases (begins kinds.Close ts) _ _ (Ok (has_cost, rest)) e) [
  | inl c ↦
      let p = ok_pair false has_cost (drop 1 ts) rest c.1 in
      inl ((front ts, subst (Takes kinds.Close ts (front ts)) p.1 (begins_takes kinds.Close ts close_token c.0)), sym p.0)
  | inr c ↦ one_sound ts rest has_cost c.1
]

-- with its type, or without one
typed_again : (ts behind rest : List Token) (at : ℕ) → IsTotalCost ts behind at → function_type behind ≡ Ok rest → functions_at ts ≡ Ok (true, rest)
unfolding functions_at one_function
typed_again ts behind rest at total type =
    if_false (begins kinds.Close ts) _ _ (takes_other kinds.Open kinds.Close ts total.2.0 total.0 open_no_close total.2.1)
    ∙ bind_again (total_cost_at ts) _ (at, behind) _ (total_complete ts behind at total) (bind_again (function_type behind) _ rest _ type refl)

pub functions_complete : (ts rest : List Token) (has_cost : Bool) → IsFunctions ts rest has_cost → functions_at ts ≡ Ok (has_cost, rest)
unfolding functions_at function_type
functions_complete ts rest has_cost is = elim is [
  | inl ((c, closes), none) ↦
      let b = takes_begins kinds.Close ts c rest closes in
      if_true (begins kinds.Close ts) _ _ b.0 ∙ ap (λ (r : List Token). Ok (false, r)) b.2 ∙ ap (λ (x : Bool). Ok (x, rest)) (sym none)
  | inr (inl (at, behind, total, (c, closes), some)) ↦
      typed_again ts behind rest at total (if_false (begins kinds.Dash behind) _ _ (takes_other kinds.Close kinds.Dash behind c rest close_no_dash closes) ∙ takes_need kinds.Close wants.Close behind c rest closes)
      ∙ ap (λ (x : Bool). Ok (x, rest)) (sym some)
  | inr (inr (at, behind, word, last, total, (d, dash), says, (c, closes), some)) ↦
      let b = takes_begins kinds.Dash behind d word dash in
      typed_again ts behind rest at total
      (if_true (begins kinds.Dash behind) _ _ b.0 ∙ bind_again (number_type (drop 1 behind)) _ last _ (ap number_type b.2 ∙ type_complete word last says) (takes_need kinds.Close wants.Close last c rest closes))
      ∙ ap (λ (x : Bool). Ok (x, rest)) (sym some)
]

pub functions_less : (ts rest : List Token) (has_cost : Bool) → IsFunctions ts rest has_cost → length rest < length ts
functions_less ts rest has_cost is = elim is [
  | inl ((c, closes), none) ↦ takes_less kinds.Close ts c rest closes
  | inr (inl (at, behind, total, (c, closes), some)) ↦
      let one : length behind < length ts = total_less ts behind at total in
      let two : length rest < length behind = takes_less kinds.Close behind c rest closes in
      omega arith
  | inr (inr (at, behind, word, last, total, (d, dash), (t, says, text), (c, closes), some)) ↦
      let one : length behind < length ts = total_less ts behind at total in
      let two : length word < length behind = takes_less kinds.Dash behind d word dash in
      let three : length last < length word = takes_less kinds.Word word t last says in
      let four : length rest < length last = takes_less kinds.Close last c rest closes in
      omega arith
]
