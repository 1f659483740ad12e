-- Atoms: where their reading stops.
use Rattle.std.proofs.Common.{◌≡◌, Bool, true, false, ◌&&◌, ◌||◌, List, [], ◌∷◌, ◌++◌, Ok, refl}
use Rattle.std.proofs.Math.Bool.{and-false}
use Rattle.pb_pddl.specs.declared.token.TokenKind.TheVariants as kinds
use Rattle.pb_pddl.specs.declared.token.Token.{Token}
use Rattle.pb_pddl.specs.declared.tree.Name.{Name}
use Rattle.pb_pddl.specs.declared.tree.Term.{Term}
use Rattle.pb_pddl.specs.declared.tree.Atom.{Atom}
use Rattle.pb_pddl.specs.declared.error.Want.TheVariants as wants
use Rattle.pb_pddl.specs.Reading.{◌>>=◌, Read, kind_number, same_kind, front, begins, refusal, need, all_of, name_of, begins_term, term_of, add_term, atom_at}
use Rattle.pb_pddl.specs.Grammar.{IsTerm}
use Rattle.pb_pddl.specs.Places
use Rattle.pb_pddl.specs.Places.{fits, is_head, sample, takes_section, takes_part, first_fit, left_out, wanted, refused_token, refused}
use Rattle.pb_pddl_laws.proofs.AtomsRead.{term_sound, term_complete}
use Rattle.pb_pddl_laws.proofs.Loops.{Takes}
use Rattle.pb_pddl_laws.proofs.Refusals.{plain, take_head, agrees_head}
use Rattle.pb_pddl_laws.proofs.Closing.{takes_piece, agrees_tokens}
use Rattle.pb_pddl_laws.specs.Table
use Rattle.pb_pddl_laws.specs.Table.{Symbol, after}
use Rattle.pb_pddl_laws.proofs.Following.{nothing}
use Rattle.pb_pddl_laws.proofs.Agreeing.{Agrees, agrees_same, takes_then}

module _ (variables : Bool) where
  abbrev is_term : Token → Bool
  is_term t = same_kind t.kind kinds.Word || variables && same_kind t.kind kinds.Variable

  no_term : false || variables && false ≡ false
  no_term = and-false variables

  term_refused : (t : Token) → refused (Places.MoreTerms variables) t ≡ refusal wants.Name t
  unfolding refused_token left_out wanted first_fit takes_section takes_part fits same_kind kind_number
  term_refused t = plain (Places.MoreTerms variables) t wants.Name refl refl (first_is_name variables) where
    first_is_name : (v : Bool) → first_fit (Places.MoreTerms v) ≡ wants.Name
    first_is_name true = refl
    first_is_name false = refl

  takes_term : Takes (begins_term variables) add_term
  takes_term = takes_piece (begins_term variables) add_term (IsTerm variables) (term_sound variables) (term_complete variables)

  abbrev terms_due : List Symbol
  terms_due = Table.Terms variables ∷ []

  abbrev atom_with : Name → List Term → Atom
  atom_with name terms = record { predicate = name; terms = terms }

  -- the terms behind an atom's name, and the )
  abbrev terms_behind : Name → List Token → Read Atom
  terms_behind name ts = all_of (begins_term variables) add_term [] ts >>= λ all. need kinds.Close wants.Name all.1 >>= λ rest. Ok (atom_with name all.0, rest)

  agrees_terms : (name : Name) → Agrees Atom (terms_behind name) nothing terms_due
  unfolding begins_term begins add_term front fits same_kind kind_number
  agrees_terms name =
      agrees_tokens (begins_term variables) add_term wants.Name is_term (Places.MoreTerms variables) (Table.Terms variables) (λ s t. s ++ term_of t ∷ []) (λ ts. refl) no_term takes_term (λ t. refl) term_refused no_term
      (λ s t us. refl) (λ t. (refl, refl)) (λ t. refl) (atom_with name) []

  pub agrees_atom : Agrees Atom (atom_at variables) nothing (Table.HeadName ∷ terms_due)
  unfolding atom_at
  agrees_atom = agrees_head terms_behind agrees_terms

  -- behind its name
  pub agrees_atom_behind : (t : Token) → is_head t ≡ true → Agrees Atom (λ us. atom_at variables (t ∷ us)) nothing terms_due
  unfolding atom_at fits
  agrees_atom_behind t e = agrees_same (λ us. (takes_then (λ t p. terms_behind p.0 p.1) take_head).take t us e) (agrees_terms (name_of t))
