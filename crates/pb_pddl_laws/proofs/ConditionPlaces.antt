-- Conditions: where their reading stops, and beside the table.
use Rattle.std.proofs.Common.{◌≡◌, true, false, Bool, cond, ◌||◌, List, [], ◌∷◌, ◌++◌, length, drop, Ok, Err, refl, sym, ap, ◌∙◌}
use Rattle.std.proofs.lemmas.Bool.{or_parts}
use Rattle.std.specs.Prelude.{codes}
use Rattle.pb_pddl.specs.declared.token.TokenKind.TheVariants as kinds
use Rattle.pb_pddl.specs.declared.token.Token.{Token}
use Rattle.pb_pddl.specs.declared.tree.Name.{Name}
use Rattle.pb_pddl.specs.declared.tree.Atom.{Atom}
use Rattle.pb_pddl.specs.declared.error.SyntaxError.{SyntaxError}
use Rattle.pb_pddl.specs.declared.error.Want.TheVariants as wants
use Rattle.pb_pddl.specs.Reading.{◌>>=◌, Read, kind_number, same_kind, is_reserved, front, begins, begins_open, spells, refusal, need, all_of, begins_term, add_term, atom_at, add_atom, conds_at}
use Rattle.pb_pddl.specs.Places
use Rattle.pb_pddl.specs.Places.{fits, is_kind, is_word, is_head, sample, takes_section, takes_part, first_fit, left_out, wanted, refused_token, refused}
use Rattle.pb_pddl_laws.proofs.ActionsRead.{cond_is, cond_less}
use Rattle.pb_pddl_laws.proofs.Loops.{Takes}
use Rattle.pb_pddl_laws.proofs.Agreeing.{Agrees, TakesOne, agrees_make}
use Rattle.pb_pddl_laws.proofs.Refusals.{plain, head_misfit}
use Rattle.pb_pddl_laws.proofs.Closing.{or_last}
use Rattle.pb_pddl_laws.proofs.NestedForms.{inside_behind, agrees_any}
use Rattle.pb_pddl_laws.proofs.AtomPlaces.{agrees_atom_behind}
use Rattle.pb_pddl_laws.proofs.Rooms.{cond_inside, any_cond, any_cond_shut, any_cond_open}
use Rattle.pb_pddl_laws.specs.Table
use Rattle.pb_pddl_laws.specs.Table.{Symbol}
use Rattle.pb_pddl_laws.proofs.Following.{nothing}

module _ (variables : Bool) where
  -- an atom that is added to those before
  abbrev added : List Atom → Atom → List Atom
  added said atom = said ++ atom ∷ []

  add_misfit : (said : List Atom) (ts : List Token) → is_head (front ts) ≡ false → add_atom variables said ts ≡ Err (refusal wants.Name (front ts))
  unfolding add_atom atom_at
  add_misfit said ts e = ap (λ (r : Read Name). (r >>= λ head. (all_of (begins_term variables) add_term [] head.1 >>= λ all. need kinds.Close wants.Name all.1 >>= λ rest. Ok (record { predicate = head.0; terms = all.0 }, rest))) >>= λ (atom : Atom × List Token). Ok (added said atom.0, atom.1)) (head_misfit ts e)

  abbrev terms_due : List Symbol
  terms_due = Table.Terms variables ∷ []

  abbrev add_behind : List Atom → Token → List Token → Read (List Atom)
  add_behind said t us = add_atom variables said (t ∷ us)

  agrees_add : (said : List Atom) (t : Token) → is_head t ≡ true → Agrees (List Atom) (add_behind said t) nothing terms_due
  unfolding add_atom
  agrees_add said t e = agrees_make (added said) [] (λ x. refl) (agrees_atom_behind variables t e)

  abbrev conds : List Atom → List Token → Read (List Atom)
  conds = conds_at variables (any_cond variables)

  abbrev inside : List Atom → List Token → Read (List Atom)
  inside = cond_inside variables (any_cond variables)

  inside_refused : (t : Token) → refused Places.InCondition t ≡ refusal wants.Name t
  unfolding refused_token left_out wanted first_fit takes_section takes_part fits same_kind kind_number is_reserved
  inside_refused t = plain Places.InCondition t wants.Name refl refl refl

  inside_misfit : (said : List Atom) (ts : List Token) → fits Places.InCondition (front ts) ≡ false → inside said ts ≡ Err (refused Places.InCondition (front ts))
  unfolding fits begins spells
  inside_misfit said ts e =
      let a = or_parts (is_kind kinds.Close (front ts) || is_word (codes "and") (front ts)) (is_head (front ts)) e in
      let b = or_parts (is_kind kinds.Close (front ts)) (is_word (codes "and") (front ts)) a.0 in
      ap (λ x. cond x (Ok (said, drop 1 ts)) (cond (is_word (codes "and") (front ts)) (conds said (drop 1 ts)) (add_atom variables said ts))) b.0
      ∙ ap (λ x. cond x (conds said (drop 1 ts)) (add_atom variables said ts)) b.1
      ∙ add_misfit said ts a.1
      ∙ ap (λ (x : SyntaxError). Err x) (sym (inside_refused (front ts)))

  takes_inside : (said : List Atom) → TakesOne (List Atom × List Token) (inside said) (inside_behind conds add_behind said) Places.InCondition
  unfolding fits same_kind kind_number begins spells front
  takes_inside said = record { no_end = refl; refuse = inside_misfit said; take = λ t us fit. refl; some = sample kinds.Close; some_fits = refl }

  takes_cond : Takes begins_open (any_cond variables)
  takes_cond s ts now rest goes e = cond_less variables (length ts) s ts now rest (cond_is variables (length ts) s ts now rest e)

  fits_behind : (t : Token) → fits Places.InCondition t ≡ true → is_kind kinds.Close t ≡ false → is_word (codes "and") t ≡ false → is_head t ≡ true
  unfolding fits
  fits_behind t fit close word = or_last (is_kind kinds.Close t || is_word (codes "and") t) (is_head t) (ap (λ b. b || is_word (codes "and") t) close ∙ word) fit

  pub agrees_cond : (said : List Atom) → Agrees (List Atom) (any_cond variables said) nothing (Table.Opening ∷ Table.Condition variables ∷ [])
  unfolding conds_at fits same_kind kind_number
  agrees_cond =
      agrees_any (any_cond variables) inside conds add_behind takes_cond (any_cond_open variables) (any_cond_shut variables) (λ s us. refl) Places.InCondition takes_inside refl
      (Table.Condition variables) (Table.Conditions variables) (λ t. terms_due) (λ t. (refl, refl)) (λ t. (refl, refl)) (λ t. refl) (λ t. refl) (λ s t fit close word. agrees_add s t (fits_behind t fit close word))
