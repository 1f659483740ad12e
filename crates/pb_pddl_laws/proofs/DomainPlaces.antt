-- Sections of a domain: where their reading stops, and beside the table.
use Rattle.std.proofs.Common.{◌≡◌, true, false, cond, ◌||◌, List, [], ◌∷◌, Result, Ok, refl, sym, ap, true≢false}
use Rattle.std.proofs.Math.Bool.{and-true}
use Rattle.std.specs.Prelude.{codes, Some, is_some, if◌then◌else◌}
use Rattle.pb_pddl.specs.declared.token.TokenKind.TheVariants as kinds
use Rattle.pb_pddl.specs.declared.token.Token.{Token}
use Rattle.pb_pddl.specs.declared.parts.DomainParts.{DomainParts}
use Rattle.pb_pddl.specs.declared.error.SyntaxError.{SyntaxError}
use Rattle.pb_pddl.specs.declared.error.Want.TheVariants as wants
use Rattle.pb_pddl.specs.declared.error.LeftOut.TheVariants as left
use Rattle.pb_pddl.specs.Reading.{◌>>=◌, Read, kind_number, same_kind, front, begins, begins_open, spells, refusal, need, all_of, once, unlimited, keys_at, list_at, predicates_at, functions_at, add_action, requirements_section, types_section, constants_section, predicates_section, functions_section, action_section, domain_key, domain_section}
use Rattle.pb_pddl.specs.Grammar.{IsDomainSection}
use Rattle.pb_pddl.specs.Places
use Rattle.pb_pddl.specs.Places.{Place, fits, is_kind, is_key, sample, reserved_head, other_key, is_domain_key, takes_section, first_fit, left_out, wanted, refused_token, refused}
use Rattle.pb_pddl_laws.specs.Table
use Rattle.pb_pddl_laws.specs.Table.{Symbol, after}
use Rattle.pb_pddl_laws.proofs.SectionsRead.{domain_sound, domain_complete}
use Rattle.pb_pddl_laws.proofs.CondsRead.{if_true, if_false}
use Rattle.pb_pddl_laws.proofs.Loops.{Takes}
use Rattle.pb_pddl_laws.proofs.Following.{nothing}
use Rattle.pb_pddl_laws.proofs.Agreeing.{Agrees, agrees_same, agrees_as, agrees_make}
use Rattle.pb_pddl_laws.proofs.Refusals.{plain, need_fit}
use Rattle.pb_pddl_laws.proofs.Closing.{takes_piece, form_pieces, agrees_closed}
use Rattle.pb_pddl_laws.proofs.CostPlaces.{agrees_functions}
use Rattle.pb_pddl_laws.proofs.ListPlaces.{agrees_words}
use Rattle.pb_pddl_laws.proofs.PiecePlaces.{agrees_predicates, agrees_keys}
use Rattle.pb_pddl_laws.proofs.KeyedSections.{Section, fits_any, agrees_section}
use Rattle.pb_pddl_laws.proofs.Noted.{noted_domain, same_domain}
use Rattle.pb_pddl_laws.proofs.ActionPlaces.{agrees_action}

abbrev place : DomainParts → Place
place s = Places.ADomainSection s

abbrev symbol : DomainParts → Symbol
symbol s = Table.DomainSection (noted_domain s)

abbrev pub domain_due : DomainParts → List Symbol
domain_due s = Table.DomainSections (noted_domain s) ∷ []

abbrev DomainSection : Type 0
DomainSection = Section (domain_key unlimited) place symbol domain_due

requirements : DomainSection
unfolding domain_key requirements_section spells begins front same_kind kind_number once refused refused_token left_out wanted
requirements = record {
  key = codes ":requirements";
  at = requirements_section;
  stood = λ s. s.requirements;
  body = λ s us. keys_at us >>= λ rest. Ok (record s { requirements = true }, rest);
  goes = λ s t us free. if_false (s.requirements) _ _ free;
  again = λ s t us there. if_true (s.requirements) _ _ there;
  agrees = λ s t. agrees_keys (record s { requirements = true });
}

types : DomainSection
unfolding domain_key types_section spells begins front same_kind kind_number once refused refused_token left_out wanted
types = record {
  key = codes ":types";
  at = types_section;
  stood = λ s. is_some s.types;
  body = λ s us. list_at kinds.Word wants.Name us >>= λ p. Ok (record s { types = Some p.0 }, p.1);
  goes = λ s t us free. if_false (is_some s.types) _ _ free;
  again = λ s t us there. if_true (is_some s.types) _ _ there;
  agrees = λ s t. agrees_make (λ x. record s { types = Some x }) (domain_due (record s { types = Some [] })) (λ x. refl) agrees_words;
}

constants : DomainSection
unfolding domain_key constants_section spells begins front same_kind kind_number once refused refused_token left_out wanted
constants = record {
  key = codes ":constants";
  at = constants_section;
  stood = λ s. is_some s.constants;
  body = λ s us. list_at kinds.Word wants.Name us >>= λ p. Ok (record s { constants = Some p.0 }, p.1);
  goes = λ s t us free. if_false (is_some s.constants) _ _ free;
  again = λ s t us there. if_true (is_some s.constants) _ _ there;
  agrees = λ s t. agrees_make (λ x. record s { constants = Some x }) (domain_due (record s { constants = Some [] })) (λ x. refl) agrees_words;
}

predicates : DomainSection
unfolding domain_key predicates_section spells begins front same_kind kind_number once refused refused_token left_out wanted
predicates = record {
  key = codes ":predicates";
  at = predicates_section;
  stood = λ s. is_some s.predicates;
  body = λ s us. predicates_at us >>= λ p. Ok (record s { predicates = Some p.0 }, p.1);
  goes = λ s t us free. if_false (is_some s.predicates) _ _ free;
  again = λ s t us there. if_true (is_some s.predicates) _ _ there;
  agrees = λ s t. agrees_make (λ x. record s { predicates = Some x }) (domain_due (record s { predicates = Some [] })) (λ x. refl) agrees_predicates;
}

functions : DomainSection
unfolding domain_key functions_section spells begins front same_kind kind_number once refused refused_token left_out wanted
functions = record {
  key = codes ":functions";
  at = functions_section;
  stood = λ s. s.functions;
  body = λ s us. functions_at us >>= λ p. Ok (record s { functions = true; has_cost = p.0 }, p.1);
  goes = λ s t us free. if_false (s.functions) _ _ free;
  again = λ s t us there. if_true (s.functions) _ _ there;
  agrees = λ s t. agrees_make (λ x. record s { functions = true; has_cost = x }) (domain_due (record s { functions = true })) (λ x. refl) agrees_functions;
}

-- an action may always follow
action : DomainSection
unfolding domain_key action_section unlimited spells begins front same_kind kind_number
action = record {
  key = codes ":action";
  at = action_section unlimited;
  stood = λ s. false;
  body = λ s us. add_action unlimited s.actions us >>= λ p. Ok (record s { actions = p.0 }, p.1);
  goes = λ s t us free. refl;
  again = λ s t us there. absurd (true≢false (sym there));
  agrees = λ s t. agrees_make (λ x. record s { actions = x }) (domain_due s) (λ x. refl) (agrees_action s.actions);
}

abbrev once_each : List DomainSection
once_each = requirements ∷ types ∷ constants ∷ predicates ∷ functions ∷ []

abbrev sections : List DomainSection
sections = requirements ∷ types ∷ constants ∷ predicates ∷ functions ∷ action ∷ []

section_fits : (s : DomainParts) (t : Token) → fits (place s) t ≡ fits_any (domain_key unlimited) place symbol domain_due false sections s t
unfolding fits requirements types constants predicates functions action
section_fits s t = ap (λ b. fits_any (domain_key unlimited) place symbol domain_due false once_each s t || b) (sym (and-true (is_key (codes ":action") t)))

section_plain : (s : DomainParts) (t : Token) → is_kind kinds.Key t ≡ false → refused (place s) t ≡ refusal wants.Section t
unfolding refused_token left_out wanted first_fit takes_section fits same_kind kind_number
section_plain s t e =
    plain (place s) t wants.Section refl (ap (λ b. if b then other_key (is_domain_key t.text) left.Section else reserved_head t) e) (ap (λ b. if b then wants.Once else first_fit (place s)) e)

action_fits : (s : DomainParts) → fits (place s) (record { kind = kinds.Key; text = codes ":action"; at = 0; head = false }) ≡ true
unfolding fits same_kind kind_number
action_fits s = refl

pub agrees_domain_section : (s : DomainParts) → Agrees DomainParts (domain_key unlimited s) domain_due (symbol s ∷ [])
unfolding domain_key refused_token left_out requirements types constants predicates functions action
agrees_domain_section s =
    agrees_section (domain_key unlimited) place symbol domain_due sections section_fits (λ x ts. refl) (λ x t. refl) (λ x t. refl) section_plain same_domain s
    (record { kind = kinds.Key; text = codes ":action"; at = 0; head = false }) (action_fits s)

pub section_step : (s : DomainParts) (t : Token) (us : List Token) → same_kind t.kind kinds.Open ≡ true → domain_section unlimited s (t ∷ us) ≡ domain_key unlimited s us
unfolding domain_section
section_step s t us e = ap (λ (r : Result (List Token) SyntaxError). r >>= λ inside. domain_key unlimited s inside) (need_fit kinds.Open wants.Paren t us e)

takes_section_of : Takes begins_open (domain_section unlimited)
takes_section_of = takes_piece begins_open (domain_section unlimited) IsDomainSection domain_sound domain_complete

-- the sections of a domain and the ), and what they make
module _ {Y : Type 0} (value : DomainParts → Y) where
  abbrev pub domain_sections : DomainParts → List Token → Read Y
  domain_sections s ts = all_of begins_open (domain_section unlimited) s ts >>= λ all. need kinds.Close wants.Paren all.1 >>= λ rest. Ok (value all.0, rest)

  pub agrees_domain_sections : (s : DomainParts) → Agrees Y (domain_sections s) nothing (domain_due s)
  agrees_domain_sections =
      agrees_closed (form_pieces takes_section_of) value (λ s. Table.DomainSections (noted_domain s)) (λ s t. (refl, refl))
      (λ s t goes fit. agrees_same (λ us. section_step s t us goes) (agrees_as (ap (λ b. cond b (symbol s ∷ []) []) goes) (agrees_domain_section s)))
      (λ s t stops. sym (ap (λ b. cond b (symbol s ∷ []) []) stops))
