-- Predicates, the words of requirements and what stands in :init: where their reading stops, and beside the table.
use Rattle.std.proofs.Common.{◌≡◌, Bool, true, false, List, [], ◌∷◌, ◌++◌, Result, Ok, Err, refl, sym, ap, ◌∙◌, cond, append-nil}
use Rattle.std.proofs.lemmas.Bool.{or_parts}
use Rattle.pb_pddl.specs.declared.token.TokenKind.TheVariants as kinds
use Rattle.pb_pddl.specs.declared.token.Token.{Token}
use Rattle.pb_pddl.specs.declared.tree.Name.{Name}
use Rattle.pb_pddl.specs.declared.tree.Atom.{Atom}
use Rattle.std.specs.Prelude.{codes}
use Rattle.pb_pddl.specs.declared.tree.Predicate.{Predicate}
use Rattle.pb_pddl.specs.declared.parts.InitParts.{InitParts}
use Rattle.pb_pddl.specs.declared.error.SyntaxError.{SyntaxError}
use Rattle.pb_pddl.specs.declared.error.Want.TheVariants as wants
use Rattle.pb_pddl.specs.Reading.{◌>>=◌, Read, kind_number, same_kind, front, begins, begins_open, begins_key, refusal, need, all_of, name_of, name_at, spells, is_reserved, begins_term, add_term, atom_at, list_at, add_predicate, predicates_at, add_key, keys_at, add_held, add_equal, add_fact, no_init, facts_at}
use Rattle.pb_pddl.specs.Grammar.{AddsName, IsPredicate, IsFact}
use Rattle.pb_pddl.specs.Places
use Rattle.pb_pddl.specs.Places.{fits, is_kind, is_equals, is_head, sample, takes_section, takes_part, first_fit, left_out, wanted, refused_token, refused}
use Rattle.pb_pddl_laws.proofs.PiecesRead.{predicate_sound, predicate_complete, fact_sound, fact_complete, key_sound, key_complete}
use Rattle.pb_pddl_laws.proofs.Loops.{Takes}
use Rattle.pb_pddl_laws.specs.Table
use Rattle.pb_pddl_laws.specs.Table.{Symbol, after, cost_due}
use Rattle.pb_pddl_laws.proofs.Singles.{bind_bind}
use Rattle.pb_pddl_laws.proofs.Refusals.{plain, head_misfit, need_fit, agrees_name}
use Rattle.pb_pddl_laws.proofs.Closing.{or_last, takes_piece, agrees_tokens, agrees_each}
use Rattle.pb_pddl_laws.proofs.AtomPlaces.{agrees_atom_behind}
use Rattle.pb_pddl_laws.proofs.CostPlaces.{agrees_cost}
use Rattle.pb_pddl_laws.proofs.ListPlaces.{agrees_variables}
use Rattle.pb_pddl_laws.proofs.Following.{nothing}
use Rattle.pb_pddl_laws.proofs.Agreeing.{Agrees, TakesOne, agrees_one, agrees_same, agrees_as, agrees_make, agrees_choice}

abbrev same : {A : Type 0} → A → A
same x = x

-- ---- predicates

abbrev params_behind : List Predicate → Name → List Token → Read (List Predicate)
params_behind said name ts = list_at kinds.Variable wants.Variable ts >>= λ p. Ok (said ++ record { name = name; params = p.0 } ∷ [], p.1)

abbrev predicate_behind : List Predicate → List Token → Read (List Predicate)
predicate_behind said ts = name_at kinds.Word wants.Name ts >>= λ p. params_behind said p.0 p.1

abbrev params_due : List Symbol
params_due = Table.Names true false ∷ []

agrees_predicate : (said : List Predicate) → Agrees (List Predicate) (predicate_behind said) nothing (Table.AnyName ∷ params_due)
agrees_predicate said = agrees_name (params_behind said) (λ name. agrees_make (λ params. said ++ record { name = name; params = params } ∷ []) [] (λ x. refl) agrees_variables)

predicate_step : (said : List Predicate) (t : Token) (us : List Token) → same_kind t.kind kinds.Open ≡ true → add_predicate said (t ∷ us) ≡ predicate_behind said us
unfolding add_predicate
predicate_step said t us e = ap (λ (r : Result (List Token) SyntaxError). r >>= predicate_behind said) (need_fit kinds.Open wants.Paren t us e)

takes_predicate : Takes begins_open add_predicate
takes_predicate = takes_piece begins_open add_predicate IsPredicate predicate_sound predicate_complete

pub agrees_predicates : Agrees (List Predicate) predicates_at nothing (Table.Predicates ∷ [])
unfolding predicates_at
agrees_predicates = agrees_each predicate_behind same takes_predicate predicate_step Table.Predicates (Table.AnyName ∷ params_due) (λ t. (refl, refl)) (λ t. refl) agrees_predicate []

-- ---- what stands in :init

module _ (said : InitParts) where
  abbrev with_held : Atom → InitParts
  with_held atom = record { atoms = said.atoms ++ atom ∷ []; costs = said.costs }

  held_misfit : (ts : List Token) → is_head (front ts) ≡ false → add_held said ts ≡ Err (refusal wants.Name (front ts))
  unfolding add_held atom_at
  held_misfit ts e =
      ap (λ (r : Read Name). (r >>= λ head. (all_of (begins_term false) add_term [] head.1 >>= λ all. need kinds.Close wants.Name all.1 >>= λ rest. Ok (record { predicate = head.0; terms = all.0 }, rest))) >>= λ (atom : Atom × List Token). Ok (with_held atom.0, atom.1))
      (head_misfit ts e)

  abbrev fact_inside : List Token → Read InitParts
  fact_inside ts = cond (spells kinds.Equals (codes "=") ts) (add_equal said ts) (add_held said ts)

  -- what follows the token behind the (
  abbrev fact_behind : Token → List Token → Read InitParts
  fact_behind t us = cond (is_equals t) (add_equal said (t ∷ us)) (add_held said (t ∷ us))

  fact_refused : (t : Token) → refused Places.InFact t ≡ refusal wants.Name t
  unfolding refused_token left_out wanted first_fit takes_section takes_part fits same_kind kind_number is_reserved
  fact_refused t = plain Places.InFact t wants.Name refl refl refl

  fact_misfit : (ts : List Token) → fits Places.InFact (front ts) ≡ false → fact_inside ts ≡ Err (refused Places.InFact (front ts))
  unfolding fits begins spells
  fact_misfit ts e =
      let a = or_parts (is_equals (front ts)) (is_head (front ts)) e in
      ap (λ x. cond x (add_equal said ts) (add_held said ts)) a.0 ∙ held_misfit ts a.1 ∙ ap (λ (x : SyntaxError). Err x) (sym (fact_refused (front ts)))

  fact_head : (t : Token) → fits Places.InFact t ≡ true → is_equals t ≡ false → is_head t ≡ true
  unfolding fits
  fact_head t fit no_equals = or_last (is_equals t) (is_head t) no_equals fit

  takes_inside : TakesOne (InitParts × List Token) fact_inside fact_behind Places.InFact
  unfolding fits same_kind kind_number is_reserved begins spells front
  takes_inside = record { no_end = refl; refuse = fact_misfit; take = λ t us fit. refl; some = sample kinds.Word; some_fits = refl }

  agrees_equal : (t : Token) → Agrees InitParts (λ us. add_equal said (t ∷ us)) nothing cost_due
  unfolding add_equal
  agrees_equal t = agrees_make (λ cost. record { atoms = said.atoms; costs = said.costs ++ cost ∷ [] }) [] (λ x. refl) (agrees_cost t)

  agrees_held : (t : Token) → is_head t ≡ true → Agrees InitParts (λ us. add_held said (t ∷ us)) nothing (Table.Terms false ∷ [])
  unfolding add_held
  agrees_held t e = agrees_make with_held [] (λ x. refl) (agrees_atom_behind false t e)

  agrees_fact : Agrees InitParts fact_inside nothing (Table.Fact ∷ [])
  agrees_fact =
      agrees_one Table.Fact (λ t. (refl, refl)) takes_inside
      (λ t fit. agrees_as (append-nil (after Table.Fact t)) (agrees_choice (is_equals t) (λ e. agrees_equal t) (λ e. agrees_held t (fact_head t fit e))))

fact_step : (said : InitParts) (t : Token) (us : List Token) → same_kind t.kind kinds.Open ≡ true → add_fact said (t ∷ us) ≡ fact_inside said us
unfolding add_fact
fact_step said t us e = ap (λ (r : Result (List Token) SyntaxError). r >>= fact_inside said) (need_fit kinds.Open wants.Paren t us e)

takes_fact : Takes begins_open add_fact
takes_fact = takes_piece begins_open add_fact IsFact fact_sound fact_complete

pub agrees_facts : Agrees InitParts facts_at nothing (Table.Facts ∷ [])
unfolding facts_at
agrees_facts = agrees_each fact_inside same takes_fact fact_step Table.Facts (Table.Fact ∷ []) (λ t. (refl, refl)) (λ t. refl) agrees_fact no_init

-- ---- the words of requirements, and the value that they make known

key_refused : (t : Token) → refused Places.MoreKeys t ≡ refusal wants.Close t
unfolding refused_token left_out wanted first_fit takes_section takes_part fits same_kind kind_number
key_refused t = plain Places.MoreKeys t wants.Close refl refl refl

takes_key : Takes begins_key add_key
takes_key = takes_piece begins_key add_key (AddsName kinds.Key) key_sound key_complete

abbrev known : List Name → Bool
known names = true

abbrev keys_known : List Token → Read Bool
keys_known ts = all_of begins_key add_key [] ts >>= λ all. need kinds.Close wants.Close all.1 >>= λ rest. Ok (true, rest)

agrees_keys_known : Agrees Bool keys_known nothing (Table.Keys ∷ [])
unfolding begins_key begins add_key front fits same_kind kind_number
agrees_keys_known =
    agrees_tokens begins_key add_key wants.Close (is_kind kinds.Key) Places.MoreKeys Table.Keys (λ s t. s ++ name_of t ∷ []) (λ ts. refl) refl takes_key (λ t. refl) key_refused refl (λ s t us. refl) (λ t. (refl, refl)) (λ t. refl) known []

abbrev valued : {A : Type 0} → A → List Token → Read A
valued x us = Ok (x, us)

bound : {Y : Type 0} (value : Y) (r : Result (List Token) SyntaxError) → (r >>= valued value) ≡ ((r >>= valued true) >>= λ p. valued value p.1)
bound value (Ok us) = refl
bound value (Err e) = refl

pub agrees_keys : {Y : Type 0} {rest : Y → List Symbol} (value : Y) → Agrees Y (λ ts. keys_at ts >>= λ us. Ok (value, us)) rest (Table.Keys ∷ rest value)
unfolding keys_at
agrees_keys {Y} {rest} value =
    agrees_same (λ ts. bound value (keys_at ts))
    (agrees_make (λ (x : Bool). value) (rest value) (λ x. refl) (agrees_same (λ ts. bind_bind (all_of begins_key add_key [] ts) (λ all. need kinds.Close wants.Close all.1) (valued true)) agrees_keys_known))
