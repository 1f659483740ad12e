-- The table and the end of a text: nothing that is due but the end itself is an end.
use Rattle.std.proofs.Common.{◌≡◌, ℕ, Bool, true, false, cond, List, [], ◌∷◌, ◌++◌, Option, Some, None, Result, Ok, Err, refl, sym, ap, ◌∙◌, true≢false}
use Rattle.pb_pddl.specs.declared.token.TokenKind.{TokenKind}
use Rattle.pb_pddl.specs.declared.token.TokenKind.TheVariants as kinds
use Rattle.pb_pddl.specs.declared.token.Token.{Token}
use Rattle.pb_pddl.specs.declared.error.SyntaxError.{SyntaxError}
use Rattle.pb_pddl.specs.declared.error.SyntaxError.TheVariants as errors
use Rattle.pb_pddl.specs.declared.error.Want.{Want}
use Rattle.pb_pddl.specs.declared.error.LeftOut.{LeftOut}
use Rattle.pb_pddl.specs.Reading.{kind_number, same_kind, front, no_token}
use Rattle.pb_pddl.specs.Places
use Rattle.pb_pddl.specs.Places.{Place, is_kind, fits, left_out, wanted, refused_token, refused}
use Rattle.pb_pddl_laws.specs.Table
use Rattle.pb_pddl_laws.specs.Table.{Symbol, place_of, after, Leads, IsWhole, place_due}
use Rattle.pb_pddl_laws.proofs.Singles.{kinds_same}
use Rattle.pb_pddl_laws.proofs.Refusals.{told}
use Rattle.pb_pddl_laws.proofs.Following.{misfit, misfit_stuck, misfit_goes, leads_misfit}

abbrev none : Option SyntaxError
none = None

some_none : (e : SyntaxError) → Some e ≡ none → ⊥
some_none e is = cc

some_same : (a b : SyntaxError) → Some a ≡ Some b → a ≡ b
some_same a b is = cc

-- the error that was read
abbrev pub outcome : {X : Type 0} → Result X SyntaxError → Option SyntaxError
outcome (Ok x) = None
outcome (Err e) = Some e

pub outcome_err : {X : Type 0} (r : Result X SyntaxError) (e : SyntaxError) → outcome r ≡ Some e → r ≡ Err e
outcome_err (Ok x) e is = absurd (some_none e (sym is))
outcome_err (Err d) e is = ap (λ (x : SyntaxError). Err x) (some_same d e is)

pub due_stuck : (due : List Symbol) (ts : List Token) → fits (place_due due) (front ts) ≡ false → misfit due ts ≡ Some (refused (place_due due) (front ts))
due_stuck [] ts e = ap (λ b. cond b None (Some (refused Places.TheEnd (front ts)))) e
due_stuck (s ∷ due) ts e = misfit_stuck s due ts e

pub due_fits : (due : List Symbol) (t : Token) (us : List Token) → misfit due (t ∷ us) ≡ None → fits (place_due due) t ≡ true
unfolding front
due_fits due t us is = at (fits (place_due due) t) refl
  where
    at : (v : Bool) → fits (place_due due) t ≡ v → v ≡ true
    at true e = refl
    at false e = absurd (some_none (refused (place_due due) t) (sym (due_stuck due (t ∷ us) e) ∙ is))

abbrev Led : List Symbol → List Token → Type 0
Led due before = (rest : List Symbol) × Leads due before rest

led_on : (s : Symbol) (due : List Symbol) (t : Token) (before us others : List Token) (e : SyntaxError)
    → (misfit (after s t ++ due) (before ++ us) ≡ None → misfit (after s t ++ due) (before ++ others) ≡ Some e → Led (after s t ++ due) before)
    → misfit (s ∷ due) (t ∷ (before ++ us)) ≡ None → misfit (s ∷ due) (t ∷ (before ++ others)) ≡ Some e → (v : Bool) → fits (place_of s) t ≡ v → Led (s ∷ due) (t ∷ before)
unfolding front
led_on s due t before us others e on right wrong true fit =
    let r = on (sym (misfit_goes s due t (before ++ us) fit) ∙ right) (sym (misfit_goes s due t (before ++ others) fit) ∙ wrong) in (r.0, (fit, r.1))
led_on s due t before us others e on right wrong false misfits = absurd (some_none (refused (place_of s) t) (sym (misfit_stuck s due (t ∷ (before ++ us)) misfits) ∙ right))

-- tokens before that are neither wrong nor the whole lead somewhere
pub leading : (due : List Symbol) (before us others : List Token) (e : SyntaxError) → misfit due (before ++ us) ≡ None → misfit due (before ++ others) ≡ Some e → Led due before
unfolding front
leading due [] us others e right wrong = (due, refl)
leading [] (t ∷ before) us others e right wrong = absurd (some_none e (sym wrong ∙ right))
leading (s ∷ due) (t ∷ before) us others e right wrong =
    led_on s due t before us others e (λ right_on wrong_on. leading (after s t ++ due) before us others e right_on wrong_on) right wrong (fits (place_of s) t) refl

whole_on : (s : Symbol) (due : List Symbol) (t : Token) (ts : List Token) → (misfit (after s t ++ due) ts ≡ None → IsWhole (after s t ++ due) ts) → misfit (s ∷ due) (t ∷ ts) ≡ None → (v : Bool) → fits (place_of s) t ≡ v → IsWhole (s ∷ due) (t ∷ ts)
unfolding front
whole_on s due t ts on right true fit =
    let w = on (sym (misfit_goes s due t ts fit) ∙ right) in (t ∷ w.0, w.1, ap (λ (us : List Token). t ∷ us) w.2, (fit, w.3), w.4)
whole_on s due t ts on right false misfits = absurd (some_none (refused (place_of s) t) (sym (misfit_stuck s due (t ∷ ts) misfits) ∙ right))

end_fits_here : (ts : List Token) → misfit [] ts ≡ None → (v : Bool) → fits Places.TheEnd (front ts) ≡ v → v ≡ true
end_fits_here ts is true e = refl
end_fits_here ts is false e = absurd (some_none (refused Places.TheEnd (front ts)) (sym (due_stuck [] ts e) ∙ is))

-- tokens of which none is wrong are the whole
pub whole_of : (due : List Symbol) (ts : List Token) → misfit due ts ≡ None → IsWhole due ts
whole_of [] ts is = ([], ts, refl, refl, end_fits_here ts is (fits Places.TheEnd (front ts)) refl)
whole_of (s ∷ due) [] is = absurd (some_none (refused (place_of s) no_token) is)
whole_of (s ∷ due) (t ∷ ts) is = whole_on s due t ts (λ right. whole_of (after s t ++ due) ts right) is (fits (place_of s) t) refl

pub whole_misfit : (due : List Symbol) (ts : List Token) → IsWhole due ts → misfit due ts ≡ None
whole_misfit due ts w =
    ap (λ (us : List Token). misfit due us) w.2 ∙ leads_misfit due w.0 [] w.1 w.3 ∙ ap (λ b. cond b None (Some (refused Places.TheEnd (front w.1)))) w.4

pub outcome_ok : {X : Type 0} (r : Result X SyntaxError) → outcome r ≡ None → (x : X) × (r ≡ Ok x)
outcome_ok (Ok x) is = (x, refl)
outcome_ok (Err e) is = absurd (some_none e is)

-- ---- the end fits nothing that is due

end_misfits : (s : Symbol) (text : List ℕ) (at : ℕ) (head : Bool) → fits (place_of s) (record { kind = kinds.End; text = text; at = at; head = head }) ≡ false
unfolding fits same_kind kind_number
end_misfits Table.Opening text at head = refl
end_misfits Table.Closing text at head = refl
end_misfits (Table.ThisWord word) text at head = refl
end_misfits (Table.OnlyWord word what) text at head = refl
end_misfits Table.AnyName text at head = refl
end_misfits Table.TypeName text at head = refl
end_misfits Table.HeadName text at head = refl
end_misfits Table.Number text at head = refl
end_misfits Table.NumberType text at head = refl
end_misfits (Table.Terms true) text at head = refl
end_misfits (Table.Terms false) text at head = refl
end_misfits (Table.Condition v) text at head = refl
end_misfits Table.Effect text at head = refl
end_misfits Table.Fact text at head = refl
end_misfits (Table.Conditions v) text at head = refl
end_misfits Table.Effects text at head = refl
end_misfits Table.Predicates text at head = refl
end_misfits Table.Facts text at head = refl
end_misfits Table.Functions text at head = refl
end_misfits Table.FunctionType text at head = refl
end_misfits (Table.Names true true) text at head = refl
end_misfits (Table.Names true false) text at head = refl
end_misfits (Table.Names false true) text at head = refl
end_misfits (Table.Names false false) text at head = refl
end_misfits Table.Keys text at head = refl
end_misfits (Table.Parts said) text at head = refl
end_misfits (Table.DomainSections said) text at head = refl
end_misfits (Table.ProblemSections said) text at head = refl
end_misfits (Table.DomainSection said) text at head = refl
end_misfits (Table.ProblemSection said) text at head = refl

no_end_fits : (s : Symbol) (t : Token) → is_kind kinds.End t ≡ true → fits (place_of s) t ≡ false
no_end_fits s t e =
    ap (λ (k : TokenKind). let x : Token = record { kind = k; text = t.text; at = t.at; head = t.head } in fits (place_of s) x) (kinds_same t.kind kinds.End e) ∙ end_misfits s t.text t.at t.head

told_never : (missing : Option LeftOut) (at : ℕ) (want : Want) (n : ℕ) → told missing at want ≡ errors.Unclosed n → ⊥
told_never (Some what) at want n is = cc
told_never None at want n is = cc

extra_never : (at n : ℕ) → errors.Extra at ≡ errors.Unclosed n → ⊥
extra_never at n is = cc

token_never : (place : Place) (t : Token) (n : ℕ) → refused_token place t ≡ errors.Unclosed n → ⊥
unfolding refused_token
token_never Places.AnOpen t n is = told_never (left_out Places.AnOpen t) t.at (wanted Places.AnOpen t) n is
token_never Places.AClose t n is = told_never (left_out Places.AClose t) t.at (wanted Places.AClose t) n is
token_never (Places.TheWord text) t n is = told_never (left_out (Places.TheWord text) t) t.at (wanted (Places.TheWord text) t) n is
token_never (Places.OnlyWord text what) t n is = told_never (left_out (Places.OnlyWord text what) t) t.at (wanted (Places.OnlyWord text what) t) n is
token_never Places.AName t n is = told_never (left_out Places.AName t) t.at (wanted Places.AName t) n is
token_never Places.AType t n is = told_never (left_out Places.AType t) t.at (wanted Places.AType t) n is
token_never Places.AHead t n is = told_never (left_out Places.AHead t) t.at (wanted Places.AHead t) n is
token_never Places.ANumber t n is = told_never (left_out Places.ANumber t) t.at (wanted Places.ANumber t) n is
token_never Places.InCondition t n is = told_never (left_out Places.InCondition t) t.at (wanted Places.InCondition t) n is
token_never Places.InEffect t n is = told_never (left_out Places.InEffect t) t.at (wanted Places.InEffect t) n is
token_never Places.InFact t n is = told_never (left_out Places.InFact t) t.at (wanted Places.InFact t) n is
token_never Places.MoreFunction t n is = told_never (left_out Places.MoreFunction t) t.at (wanted Places.MoreFunction t) n is
token_never Places.ANumberType t n is = told_never (left_out Places.ANumberType t) t.at (wanted Places.ANumberType t) n is
token_never (Places.MoreTerms v) t n is = told_never (left_out (Places.MoreTerms v) t) t.at (wanted (Places.MoreTerms v) t) n is
token_never (Places.MoreNames kind some) t n is = told_never (left_out (Places.MoreNames kind some) t) t.at (wanted (Places.MoreNames kind some) t) n is
token_never Places.MoreKeys t n is = told_never (left_out Places.MoreKeys t) t.at (wanted Places.MoreKeys t) n is
token_never Places.MoreForms t n is = told_never (left_out Places.MoreForms t) t.at (wanted Places.MoreForms t) n is
token_never (Places.MoreParts said) t n is = told_never (left_out (Places.MoreParts said) t) t.at (wanted (Places.MoreParts said) t) n is
token_never (Places.ADomainSection said) t n is = told_never (left_out (Places.ADomainSection said) t) t.at (wanted (Places.ADomainSection said) t) n is
token_never (Places.AProblemSection said) t n is = told_never (left_out (Places.AProblemSection said) t) t.at (wanted (Places.AProblemSection said) t) n is
token_never (Places.MoreSections said) t n is = told_never (left_out (Places.MoreSections said) t) t.at (wanted (Places.MoreSections said) t) n is
token_never Places.TheEnd t n is = extra_never t.at n is

byte_never : (at n : ℕ) → errors.Byte at ≡ errors.Unclosed n → ⊥
byte_never at n is = cc

deep_never : (at n : ℕ) → errors.Deep at ≡ errors.Unclosed n → ⊥
deep_never at n is = cc

-- a form is unclosed at the end alone
pub ends_not : (place : Place) (t : Token) (n : ℕ) → refused place t ≡ errors.Unclosed n → is_kind kinds.End t ≡ true
unfolding refused same_kind kind_number
ends_not place t n = elim t.kind as (λ k. elim k as (λ _. SyntaxError) [ kinds.Byte ↦ errors.Byte t.at | kinds.Deep ↦ errors.Deep t.at | kinds.End ↦ errors.Unclosed t.at | _ ↦ refused_token place t ] ≡ errors.Unclosed n → same_kind k kinds.End ≡ true) [
  | kinds.Open ↦ λ is. absurd (token_never place t n is)
  | kinds.Close ↦ λ is. absurd (token_never place t n is)
  | kinds.Equals ↦ λ is. absurd (token_never place t n is)
  | kinds.Dash ↦ λ is. absurd (token_never place t n is)
  | kinds.Word ↦ λ is. absurd (token_never place t n is)
  | kinds.Variable ↦ λ is. absurd (token_never place t n is)
  | kinds.Key ↦ λ is. absurd (token_never place t n is)
  | kinds.Deep ↦ λ is. absurd (deep_never t.at n is)
  | kinds.Byte ↦ λ is. absurd (byte_never t.at n is)
  | kinds.End ↦ λ is. refl
]

none_unclosed : (place : Place) → refused place no_token ≡ errors.Unclosed 0
unfolding refused
none_unclosed place = refl

end_is_end : fits Places.TheEnd (front []) ≡ true
unfolding fits front same_kind kind_number
end_is_end = refl

-- where the same error is told whatever follows, the token that it is told of does not fit
pub only_end : (due : List Symbol) (t : Token) (e : SyntaxError) → fits (place_due due) t ≡ true → ((us : List Token) → misfit due (t ∷ us) ≡ Some e) → ((n : ℕ) → e ≡ errors.Unclosed n → is_kind kinds.End t ≡ true) → ⊥
unfolding front
only_end [] t e fit always is_end = some_none e (sym (always []) ∙ ap (λ b. cond b None (Some (refused Places.TheEnd t))) fit)
only_end (s ∷ due) t e fit always is_end = at (after s t ++ due) (sym (misfit_goes s due t [] fit) ∙ always [])
  where
    at : (rest : List Symbol) → misfit rest [] ≡ Some e → ⊥
    at [] is = some_none e (sym is ∙ ap (λ b. cond b None (Some (refused Places.TheEnd (front [])))) end_is_end)
    at (next ∷ rest) is =
        let unclosed : e ≡ errors.Unclosed 0 = sym (some_same (refused (place_of next) no_token) e is) ∙ none_unclosed (place_of next) in true≢false (sym fit ∙ no_end_fits s t (is_end 0 unclosed))
