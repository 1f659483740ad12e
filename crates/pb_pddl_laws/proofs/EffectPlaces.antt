-- Effects: where their reading stops, and beside the table.
use Rattle.std.proofs.Common.{◌≡◌, Bool, true, false, cond, ◌||◌, List, [], ◌∷◌, ◌++◌, length, drop, Ok, Err, refl, sym, ap, ◌∙◌}
use Rattle.std.proofs.lemmas.Bool.{or_parts}
use Rattle.std.specs.Prelude.{codes}
use Rattle.pb_pddl.specs.declared.token.TokenKind.TheVariants as kinds
use Rattle.pb_pddl.specs.declared.token.Token.{Token}
use Rattle.pb_pddl.specs.declared.tree.Name.{Name}
use Rattle.pb_pddl.specs.declared.tree.Atom.{Atom}
use Rattle.pb_pddl.specs.declared.parts.EffectParts.{EffectParts}
use Rattle.pb_pddl.specs.declared.error.SyntaxError.{SyntaxError}
use Rattle.pb_pddl.specs.declared.error.Want.TheVariants as wants
use Rattle.pb_pddl.specs.Reading.{◌>>=◌, Read, kind_number, same_kind, is_reserved, front, begins, begins_open, spells, refusal, need, all_of, begins_term, add_term, atom_at, add_literal, add_increase, negative_at, effects_at}
use Rattle.pb_pddl.specs.Grammar.{with_literal}
use Rattle.pb_pddl.specs.Places
use Rattle.pb_pddl.specs.Places.{fits, is_kind, is_word, is_head, sample, takes_section, takes_part, first_fit, left_out, wanted, refused_token, refused}
use Rattle.pb_pddl_laws.proofs.Loops.{Takes}
use Rattle.pb_pddl_laws.proofs.Rooms.{effect_less, effect_inside, any_effect, any_effect_shut, any_effect_open}
use Rattle.pb_pddl_laws.specs.Table
use Rattle.pb_pddl_laws.specs.Table.{Symbol, after, cost_due}
use Rattle.pb_pddl_laws.proofs.Refusals.{plain, head_misfit, agrees_open, agrees_closed_value}
use Rattle.pb_pddl_laws.proofs.Closing.{or_last}
use Rattle.pb_pddl_laws.proofs.NestedForms.{inside_behind, agrees_any}
use Rattle.pb_pddl_laws.proofs.AtomPlaces.{agrees_atom, agrees_atom_behind}
use Rattle.pb_pddl_laws.proofs.CostPlaces.{agrees_cost}
use Rattle.pb_pddl_laws.proofs.Following.{nothing}
use Rattle.pb_pddl_laws.proofs.Agreeing.{Agrees, TakesOne, agrees_then, agrees_more, agrees_make, agrees_choice}

abbrev terms_due : List Symbol
terms_due = Table.Terms true ∷ []

-- ---- literals

module _ (negated : Bool) where
  abbrev added : EffectParts → Atom → EffectParts
  added said atom = with_literal said (record { atom = atom; negated = negated })

  agrees_add : (said : EffectParts) → Agrees EffectParts (add_literal negated said) nothing (Table.HeadName ∷ terms_due)
  unfolding add_literal
  agrees_add said = agrees_make (added said) [] (λ x. refl) (agrees_atom true)

  agrees_add_behind : (said : EffectParts) (t : Token) → is_head t ≡ true → Agrees EffectParts (λ us. add_literal negated said (t ∷ us)) nothing terms_due
  unfolding add_literal
  agrees_add_behind said t e = agrees_make (added said) [] (λ x. refl) (agrees_atom_behind true t e)

add_misfit : (said : EffectParts) (ts : List Token) → is_head (front ts) ≡ false → add_literal false said ts ≡ Err (refusal wants.Name (front ts))
unfolding add_literal atom_at
add_misfit said ts e = ap (λ (r : Read Name). (r >>= λ head. (all_of (begins_term true) add_term [] head.1 >>= λ all. need kinds.Close wants.Name all.1 >>= λ rest. Ok (record { predicate = head.0; terms = all.0 }, rest))) >>= λ (atom : Atom × List Token). Ok (added false said atom.0, atom.1)) (head_misfit ts e)

-- ---- behind ( not

abbrev negative_due : List Symbol
negative_due = Table.Opening ∷ Table.HeadName ∷ Table.Terms true ∷ Table.Closing ∷ []

agrees_not : (said : EffectParts) → Agrees EffectParts (negative_at said) nothing negative_due
unfolding negative_at
agrees_not said = agrees_open (agrees_then (λ all ts. need kinds.Close wants.Close ts >>= λ rest. Ok (all, rest)) (agrees_more (Table.Closing ∷ []) (agrees_add true said)) agrees_closed_value)

-- ---- at an increase

agrees_increase : (said : EffectParts) (t : Token) → Agrees EffectParts (λ us. add_increase said (t ∷ us)) nothing cost_due
unfolding add_increase
agrees_increase said t = agrees_make (λ cost. record { literals = said.literals; costs = said.costs ++ cost ∷ [] }) [] (λ x. refl) (agrees_cost t)

-- ---- behind the (

abbrev effects : EffectParts → List Token → Read EffectParts
effects = effects_at any_effect

abbrev inside : EffectParts → List Token → Read EffectParts
inside = effect_inside any_effect

inside_refused : (t : Token) → refused Places.InEffect t ≡ refusal wants.Name t
unfolding refused_token left_out wanted first_fit takes_section takes_part fits same_kind kind_number is_reserved
inside_refused t = plain Places.InEffect t wants.Name refl refl refl

inside_misfit : (said : EffectParts) (ts : List Token) → fits Places.InEffect (front ts) ≡ false → inside said ts ≡ Err (refused Places.InEffect (front ts))
unfolding fits begins spells
inside_misfit said ts e =
    let a = or_parts (is_kind kinds.Close (front ts) || is_word (codes "and") (front ts) || is_word (codes "not") (front ts) || is_word (codes "increase") (front ts)) (is_head (front ts)) e in
    let d = or_parts (is_kind kinds.Close (front ts) || is_word (codes "and") (front ts) || is_word (codes "not") (front ts)) (is_word (codes "increase") (front ts)) a.0 in
    let b = or_parts (is_kind kinds.Close (front ts) || is_word (codes "and") (front ts)) (is_word (codes "not") (front ts)) d.0 in
    let c = or_parts (is_kind kinds.Close (front ts)) (is_word (codes "and") (front ts)) b.0 in
    ap (λ x. cond x (Ok (said, drop 1 ts)) (cond (is_word (codes "and") (front ts)) (effects_at any_effect said (drop 1 ts)) (cond (is_word (codes "not") (front ts)) (negative_at said (drop 1 ts)) (cond (is_word (codes "increase") (front ts)) (add_increase said ts) (add_literal false said ts))))) c.0
    ∙ ap (λ x. cond x (effects_at any_effect said (drop 1 ts)) (cond (is_word (codes "not") (front ts)) (negative_at said (drop 1 ts)) (cond (is_word (codes "increase") (front ts)) (add_increase said ts) (add_literal false said ts)))) c.1
    ∙ ap (λ x. cond x (negative_at said (drop 1 ts)) (cond (is_word (codes "increase") (front ts)) (add_increase said ts) (add_literal false said ts))) b.1
    ∙ ap (λ x. cond x (add_increase said ts) (add_literal false said ts)) d.1
    ∙ add_misfit said ts a.1
    ∙ ap (λ (x : SyntaxError). Err x) (sym (inside_refused (front ts)))

abbrev increase_behind : EffectParts → Token → List Token → Read EffectParts
increase_behind said t us = cond (is_word (codes "increase") t) (add_increase said (t ∷ us)) (add_literal false said (t ∷ us))

-- neither ) nor and
abbrev other_behind : EffectParts → Token → List Token → Read EffectParts
other_behind said t us = cond (is_word (codes "not") t) (negative_at said us) (increase_behind said t us)

takes_inside : (said : EffectParts) → TakesOne (EffectParts × List Token) (inside said) (inside_behind effects other_behind said) Places.InEffect
unfolding fits same_kind kind_number begins spells front
takes_inside said = record { no_end = refl; refuse = inside_misfit said; take = λ t us fit. refl; some = sample kinds.Close; some_fits = refl }

takes_effect : Takes begins_open any_effect
takes_effect s ts now rest goes e = effect_less (length ts) s ts now rest e

fits_behind : (t : Token) → fits Places.InEffect t ≡ true → is_kind kinds.Close t ≡ false → is_word (codes "and") t ≡ false → is_word (codes "not") t ≡ false → is_word (codes "increase") t ≡ false → is_head t ≡ true
unfolding fits
fits_behind t fit close word minus more =
    or_last (is_kind kinds.Close t || is_word (codes "and") t || is_word (codes "not") t || is_word (codes "increase") t) (is_head t)
    (ap (λ b. b || is_word (codes "and") t || is_word (codes "not") t || is_word (codes "increase") t) close ∙ ap (λ b. b || is_word (codes "not") t || is_word (codes "increase") t) word
    ∙ ap (λ b. b || is_word (codes "increase") t) minus ∙ more) fit

abbrev other_due : Token → List Symbol
other_due t = cond (is_word (codes "not") t) negative_due (cond (is_word (codes "increase") t) cost_due terms_due)

agrees_other : (said : EffectParts) (t : Token) → fits Places.InEffect t ≡ true → is_kind kinds.Close t ≡ false → is_word (codes "and") t ≡ false → Agrees EffectParts (other_behind said t) nothing (other_due t)
agrees_other said t fit close word =
    agrees_choice (is_word (codes "not") t) (λ minus. agrees_not said) (λ minus.
    agrees_choice (is_word (codes "increase") t) (λ more. agrees_increase said t) (λ more. agrees_add_behind false said t (fits_behind t fit close word minus more)))

pub agrees_effect : (said : EffectParts) → Agrees EffectParts (any_effect said) nothing (Table.Opening ∷ Table.Effect ∷ [])
unfolding effects_at fits same_kind kind_number
agrees_effect =
    agrees_any any_effect inside effects other_behind takes_effect any_effect_open any_effect_shut (λ s us. refl) Places.InEffect takes_inside refl
    Table.Effect Table.Effects other_due (λ t. (refl, refl)) (λ t. (refl, refl)) (λ t. refl) (λ t. refl) agrees_other
