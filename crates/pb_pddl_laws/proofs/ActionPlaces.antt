-- Parts of an action and actions: where their reading stops, and beside the table.
use Rattle.std.proofs.Common.{◌≡◌, true, false, cond, not, ◌&&◌, ◌||◌, List, [], ◌∷◌, ◌++◌, Ok, Err, refl, sym, ap, ◌∙◌}
use Rattle.std.proofs.Math.Bool.{or-false}
use Rattle.std.specs.Prelude.{codes, Some, is_some, if◌then◌else◌}
use Rattle.std.specs.Str.{bytes_eq}
use Rattle.pb_pddl.specs.declared.token.TokenKind.TheVariants as kinds
use Rattle.pb_pddl.specs.declared.token.Token.{Token}
use Rattle.pb_pddl.specs.declared.tree.Name.{Name}
use Rattle.pb_pddl.specs.declared.tree.Action.{Action}
use Rattle.pb_pddl.specs.declared.parts.ActionParts.{ActionParts}
use Rattle.pb_pddl.specs.declared.error.Want.TheVariants as wants
use Rattle.pb_pddl.specs.declared.error.LeftOut.TheVariants as left
use Rattle.pb_pddl.specs.Reading.{◌>>=◌, Read, kind_number, same_kind, front, begins, begins_key, spells, refusal, need, all_of, unlimited, list_at, or_empty, once, left_at, params_part, pre_part, effect_part, part_at, no_effects, no_parts, parts_want, add_action}
use Rattle.pb_pddl.specs.Grammar.{IsPart}
use Rattle.pb_pddl.specs.Places
use Rattle.pb_pddl.specs.Places.{Place, fits, is_kind, is_key, sample, reserved_head, other_key, is_part_key, left_out, wanted, refused_token, refused, first_fit}
use Rattle.pb_pddl_laws.specs.Table
use Rattle.pb_pddl_laws.specs.Table.{Symbol, after, after_part}
use Rattle.pb_pddl_laws.proofs.ActionsRead.{part_sound, part_complete}
use Rattle.pb_pddl_laws.proofs.Singles.{kinds_same}
use Rattle.pb_pddl_laws.proofs.CondsRead.{if_true, if_false}
use Rattle.pb_pddl_laws.proofs.Following.{nothing}
use Rattle.pb_pddl_laws.proofs.Agreeing.{Agrees, agrees_make}
use Rattle.pb_pddl_laws.proofs.Refusals.{plain, agrees_open, agrees_name}
use Rattle.pb_pddl_laws.proofs.Closing.{takes_piece, Pieces, agrees_closed}
use Rattle.pb_pddl_laws.proofs.ConditionPlaces.{agrees_cond}
use Rattle.pb_pddl_laws.proofs.EffectPlaces.{agrees_effect}
use Rattle.pb_pddl_laws.proofs.ListPlaces.{agrees_variables}
use Rattle.pb_pddl_laws.proofs.KeyedSections.{Section, fits_any, key_refused, agrees_key}
use Rattle.pb_pddl_laws.proofs.Rooms.{any_cond, any_effect}
use Rattle.pb_pddl_laws.proofs.Noted.{noted_parts, same_parts, parts_first}

abbrev place : ActionParts → Place
place s = Places.MoreParts s

abbrev symbol : ActionParts → Symbol
symbol s = Table.Parts (noted_parts s)

abbrev due : ActionParts → List Symbol
due s = symbol s ∷ []

abbrev Part : Type 0
Part = Section (part_at unlimited) place symbol due

parameters : Part
unfolding part_at params_part unlimited spells begins front same_kind kind_number once refused refused_token left_out wanted
parameters = record {
  key = codes ":parameters";
  at = params_part;
  stood = λ s. is_some s.params;
  body = λ s us. need kinds.Open wants.Paren us >>= λ inside. (list_at kinds.Variable wants.Variable inside >>= λ p. Ok (record s { params = Some p.0 }, p.1));
  goes = λ s t us free. if_false (is_some s.params) _ _ free;
  again = λ s t us there. if_true (is_some s.params) _ _ there;
  agrees = λ s t. agrees_open (agrees_make (λ x. record s { params = Some x }) (due (record s { params = Some [] })) (λ x. refl) agrees_variables);
}

precondition : Part
unfolding part_at pre_part unlimited spells begins front same_kind kind_number once refused refused_token left_out wanted
precondition = record {
  key = codes ":precondition";
  at = pre_part unlimited;
  stood = λ s. is_some s.pre;
  body = λ s us. any_cond true [] us >>= λ p. Ok (record s { pre = Some p.0 }, p.1);
  goes = λ s t us free. if_false (is_some s.pre) _ _ free;
  again = λ s t us there. if_true (is_some s.pre) _ _ there;
  agrees = λ s t. agrees_make (λ x. record s { pre = Some x }) (due (record s { pre = Some [] })) (λ x. refl) (agrees_cond true []);
}

effect : Part
unfolding part_at effect_part unlimited spells begins front same_kind kind_number once refused refused_token left_out wanted
effect = record {
  key = codes ":effect";
  at = effect_part unlimited;
  stood = λ s. is_some s.effect;
  body = λ s us. any_effect no_effects us >>= λ p. Ok (record s { effect = Some p.0.literals; costs = p.0.costs }, p.1);
  goes = λ s t us free. if_false (is_some s.effect) _ _ free;
  again = λ s t us there. if_true (is_some s.effect) _ _ there;
  agrees = λ s t. agrees_make (λ x. record s { effect = Some x.literals; costs = x.costs }) (due (record s { effect = Some []; costs = [] })) (λ x. refl) (agrees_effect no_effects);
}

abbrev parts : List Part
parts = parameters ∷ precondition ∷ effect ∷ []

part_fits : (s : ActionParts) (t : Token) → is_kind kinds.Key t ≡ true → fits (place s) t ≡ fits_any (part_at unlimited) place symbol due false parts s t
unfolding fits same_kind kind_number parameters precondition effect
part_fits s t key =
    ap (λ k. fits_any (part_at unlimited) place symbol due false parts s t || same_kind k kinds.Close) (kinds_same t.kind kinds.Key key) ∙ or-false (fits_any (part_at unlimited) place symbol due false parts s t)

pub part_refused : (s : ActionParts) (t : Token) (us : List Token) → is_kind kinds.Key t ≡ true → fits (place s) t ≡ false → part_at unlimited s (t ∷ us) ≡ Err (refused (place s) t)
unfolding part_at refused_token left_out left_at front parameters precondition effect
part_refused = key_refused (part_at unlimited) place symbol due parts (left_at left.Part) left.Part part_fits (λ s ts. refl) (λ t us key. refl) (λ s t. refl) (λ s t. refl)

pub agrees_part : (s : ActionParts) (t : Token) → is_kind kinds.Key t ≡ true → fits (place s) t ≡ true → Agrees ActionParts (λ us. part_at unlimited s (t ∷ us)) due (after (symbol s) t)
unfolding part_at refused_token left_out left_at front parameters precondition effect
agrees_part = agrees_key (part_at unlimited) place symbol due parts (left_at left.Part) left.Part part_fits (λ s ts. refl) (λ t us key. refl) (λ s t. refl) (λ s t. refl)

-- ---- the parts of an action, and the )

part_last : (s : ActionParts) (t : Token) → is_kind kinds.Key t ≡ false → fits (Places.MoreParts s) t ≡ same_kind t.kind kinds.Close
unfolding fits
part_last s t e = ap (λ b. b && bytes_eq t.text (codes ":parameters") && not (is_some s.params) || b && bytes_eq t.text (codes ":precondition") && not (is_some s.pre) || b && bytes_eq t.text (codes ":effect") && not (is_some s.effect) || is_kind kinds.Close t) e

part_end : (s : ActionParts) (t : Token) → is_kind kinds.Key t ≡ false → refused (Places.MoreParts s) t ≡ refusal (parts_want s) t
unfolding refused_token left_out wanted
part_end s t e =
    plain (Places.MoreParts s) t (parts_want s) refl (ap (λ b. if b then other_key (is_part_key t.text) left.Part else reserved_head t) e) (ap (λ b. if b then wants.Once else first_fit (Places.MoreParts s)) e ∙ parts_first s)

pieces : Pieces ActionParts begins_key (part_at unlimited) parts_want (is_kind kinds.Key) place
unfolding begins_key begins front fits same_kind kind_number
pieces = record {
  more_is = λ ts. refl;
  none = refl;
  takes = takes_piece begins_key (part_at unlimited) IsPart part_sound part_complete;
  no_end = λ s. refl;
  refuse_step = part_refused;
  close_last = part_last;
  end_refused = part_end;
  no_close = refl;
}

abbrev with_action : List Action → Name → ActionParts → List Action
with_action said name all = said ++ record { name = name; params = or_empty all.params; pre = or_empty all.pre; effect = or_empty all.effect; costs = all.costs } ∷ []

abbrev parts_behind : List Action → Name → List Token → Read (List Action)
parts_behind said name ts = all_of begins_key (part_at unlimited) no_parts ts >>= λ all. need kinds.Close (parts_want all.0) all.1 >>= λ rest. Ok (with_action said name all.0, rest)

pub agrees_action : (said : List Action) → Agrees (List Action) (add_action unlimited said) nothing (Table.AnyName ∷ Table.Parts no_parts ∷ [])
unfolding add_action
agrees_action said =
    agrees_name (parts_behind said) (λ name.
    agrees_closed pieces (with_action said name) symbol same_parts agrees_part (λ s t stops. sym (ap (λ b. cond b (after_part (noted_parts s) t) []) stops)) no_parts)
