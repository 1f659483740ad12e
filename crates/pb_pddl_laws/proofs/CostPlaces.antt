-- Costs and :functions: where their reading stops, and beside the table.
use Rattle.std.proofs.Common.{◌≡◌, ℕ, Bool, true, false, cond, not, ◌&&◌, List, [], ◌∷◌, ◌++◌, Result, Ok, Err, refl, sym, ap, ◌∙◌, append-nil}
use Rattle.std.proofs.lemmas.Bool.{and_parts, or_parts}
use Rattle.std.specs.Prelude.{codes, Option, Some, if◌then◌else◌}
use Rattle.std.specs.Str.{bytes_eq}
use Rattle.pb_pddl.specs.declared.token.TokenKind.{TokenKind}
use Rattle.pb_pddl.specs.declared.token.TokenKind.TheVariants as kinds
use Rattle.pb_pddl.specs.declared.token.Token.{Token}
use Rattle.pb_pddl.specs.declared.tree.Cost.{Cost}
use Rattle.pb_pddl.specs.declared.error.SyntaxError.{SyntaxError}
use Rattle.pb_pddl.specs.declared.error.SyntaxError.TheVariants as errors
use Rattle.pb_pddl.specs.declared.error.Want.{Want}
use Rattle.pb_pddl.specs.declared.error.Want.TheVariants as wants
use Rattle.pb_pddl.specs.declared.error.LeftOut.{LeftOut}
use Rattle.pb_pddl.specs.declared.error.LeftOut.TheVariants as left
use Rattle.pb_pddl.specs.Numbers.{is_number, number_of}
use Rattle.pb_pddl.specs.Reading.{◌>>=◌, Read, kind_number, same_kind, front, begins, spells, is_reserved, refusal, fault_at, left_at, need, begins_reserved, only_word, total_cost_at, begins_number, number_at, cost_at, number_type, function_type, one_function, functions_at}
use Rattle.pb_pddl.specs.Places
use Rattle.pb_pddl.specs.Places.{Place, fits, is_kind, is_word, is_numeral, sample, takes_section, takes_part, first_fit, reserved_head, left_out, wanted, refused_token, refused}
use Rattle.pb_pddl_laws.proofs.Singles.{kinds_same, bind_bind, bind_failed, close_other}
use Rattle.pb_pddl_laws.proofs.CondsRead.{if_false}
use Rattle.pb_pddl_laws.proofs.Agreeing.{Agrees, TakesOne, takes_test, takes_then, agrees_one, agrees_done, agrees_as, agrees_then, agrees_more, agrees_either, agrees_choice}
use Rattle.pb_pddl_laws.proofs.Refusals.{plain, told, need_misfit, need_fit, agrees_open, agrees_closed_value}
use Rattle.pb_pddl_laws.proofs.Closing.{or_first, or_last}
use Rattle.pb_pddl_laws.specs.Table
use Rattle.pb_pddl_laws.specs.Table.{Symbol, after, total_cost_then, cost_due}
use Rattle.pb_pddl_laws.proofs.Following.{nothing}

-- ---- what is left out

-- the error of a token of this kind, where no token of it is refused as such
abbrev by_its : TokenKind → ℕ → SyntaxError → SyntaxError
by_its kind at other = elim kind [
  | kinds.Byte ↦ errors.Byte at
  | kinds.Deep ↦ errors.Deep at
  | kinds.End ↦ errors.Unclosed at
  | _ ↦ other
]

left_told : (kind : TokenKind) (place : Place) (t : Token) (what : LeftOut) → ((other : SyntaxError) → by_its kind t.at other ≡ other) → same_kind t.kind kind ≡ true
    → refused_token place t ≡ told (left_out place t) t.at (wanted place t) → left_out place t ≡ Some what → refused place t ≡ errors.LeftOut t.at what
unfolding refused
left_told kind place t what ordinary e is lefts =
    ap (λ (k : TokenKind). by_its k t.at (refused_token place t)) (kinds_same t.kind kind e) ∙ ordinary (refused_token place t) ∙ is ∙ ap (λ (x : Option LeftOut). told x t.at (wanted place t)) lefts

-- left out, or refused as another token is
chosen : (v : Bool) (t : Token) (place : Place) (what : LeftOut) (want : Want) → (v ≡ true → refused place t ≡ errors.LeftOut t.at what) → (v ≡ false → refused place t ≡ refusal want t)
    → (let e : SyntaxError = if v then errors.LeftOut t.at what else refusal want t in e) ≡ refused place t
chosen true t place what want yes_f no_g = sym (yes_f refl)
chosen false t place what want yes_f no_g = sym (no_g refl)

-- the error of a token where a ( is left out
abbrev pub opens_left : LeftOut → Want → Token → SyntaxError
opens_left what want t = cond (is_kind kinds.Open t) (errors.LeftOut t.at what) (refusal want t)

pub open_left : (place : Place) (what : LeftOut) (want : Want) → ((t : Token) → refused_token place t ≡ told (left_out place t) t.at (wanted place t))
    → ((t : Token) → left_out place t ≡ cond (is_kind kinds.Open t) (Some what) (reserved_head t)) → ((t : Token) → wanted place t ≡ want) → (t : Token) → refused place t ≡ opens_left what want t
open_left place what want is lefts wants_it t =
    sym (chosen (is_kind kinds.Open t) t place what want
    (λ e. left_told kinds.Open place t what (λ other. refl) e (is t) (lefts t ∙ ap (λ b. cond b (Some what) (reserved_head t)) e))
    (λ e. plain place t want (is t) (lefts t ∙ ap (λ b. cond b (Some what) (reserved_head t)) e) (wants_it t)))

-- ---- a word, where another is left out

abbrev is_other : Token → Bool
is_other t = is_kind kinds.Word t && not (t.head && is_reserved t.text)

word_left : (text : List ℕ) (what : LeftOut) (t : Token) → is_other t ≡ true → refused (Places.OnlyWord text what) t ≡ errors.LeftOut t.at what
unfolding refused_token left_out
word_left text what t e =
    left_told kinds.Word (Places.OnlyWord text what) t what (λ other. refl) (and_parts (is_kind kinds.Word t) (not (t.head && is_reserved t.text)) e).0 refl (ap (λ b. if b then Some what else reserved_head t) e)

word_plain : (text : List ℕ) (what : LeftOut) (t : Token) → is_other t ≡ false → refused (Places.OnlyWord text what) t ≡ refusal wants.Word t
unfolding refused_token left_out wanted
word_plain text what t e = plain (Places.OnlyWord text what) t wants.Word refl (ap (λ b. if b then Some what else reserved_head t) e) refl

module _ (text : List ℕ) (what : LeftOut) (same : bytes_eq text text ≡ true) where
  take_only : TakesOne (List Token) (only_word text what) (λ t us. Ok us) (Places.OnlyWord text what)
  unfolding only_word spells begins left_at fault_at begins_reserved fits same_kind kind_number
  take_only =
      takes_test (is_word text) (λ t. cond (is_other t) (errors.LeftOut t.at what) (refusal wants.Word t)) (λ t us. us) (λ t. refl)
      (λ t. sym (chosen (is_other t) t (Places.OnlyWord text what) what wants.Word (word_left text what t) (word_plain text what t))) refl (record { kind = kinds.Word; text = text; at = 0; head = false }) same

  -- the word, and what is read behind it
  pub agrees_only : {X : Type 0} (h : Token → List Token → Read X) {rest : X → List Symbol} {symbols : List Symbol} → ((t : Token) → Agrees X (h t) rest symbols)
      → Agrees X (λ ts. only_word text what ts >>= λ us. h (front ts) us) rest (Table.OnlyWord text what ∷ symbols)
  agrees_only h a = agrees_one (Table.OnlyWord text what) (λ t. (refl, refl)) (takes_then h take_only) (λ t fit. a t)

-- ---- ( total-cost )

abbrev inside_due : List Symbol
inside_due = total_cost_then []

-- behind its (
abbrev total_inside : List Token → Read ℕ
total_inside ts = only_word (codes "total-cost") left.Function ts >>= λ us. (need kinds.Close wants.Close us >>= λ rest. Ok ((front ts).at, rest))

agrees_inside : Agrees ℕ total_inside nothing inside_due
agrees_inside = agrees_only (codes "total-cost") left.Function refl (λ t us. need kinds.Close wants.Close us >>= λ rest. Ok (t.at, rest)) (λ t. agrees_closed_value t.at)

abbrev pub total_due : List Symbol
total_due = Table.Opening ∷ inside_due

pub agrees_total : Agrees ℕ total_cost_at nothing total_due
unfolding total_cost_at
agrees_total = agrees_open agrees_inside

-- ---- NUM

take_number : TakesOne (ℕ × List Token) number_at (λ t us. Ok (number_of t.text, us)) Places.ANumber
unfolding number_at begins_number begins left_at fault_at fits same_kind kind_number is_number left_out wanted refused_token
take_number =
    takes_test is_numeral (opens_left left.Function wants.Number) (λ t us. (number_of t.text, us)) (λ t. refl) (open_left Places.ANumber left.Function wants.Number (λ t. refl) (λ t. refl) (λ t. refl)) refl
    (record { kind = kinds.Word; text = codes "0"; at = 0; head = false }) refl

-- ---- costs, behind their increase or =

abbrev cost_of : Token → ℕ → Token → ℕ → Cost
cost_of sign function t number = record { at = sign.at; function = function; number = number; number_at = t.at }

abbrev cost_closed : Token → ℕ → Token → ℕ → List Token → Read Cost
cost_closed sign function t number us = need kinds.Close wants.Close us >>= λ rest. Ok (cost_of sign function t number, rest)

abbrev numbered : Token → ℕ → List Token → Read Cost
numbered sign function ts = number_at ts >>= λ p. cost_closed sign function (front ts) p.0 p.1

abbrev number_due : List Symbol
number_due = Table.Number ∷ Table.Closing ∷ []

agrees_numbered : (sign : Token) (function : ℕ) → Agrees Cost (numbered sign function) nothing number_due
agrees_numbered sign function =
    agrees_one Table.Number (λ t. (refl, refl)) (takes_then (λ t p. cost_closed sign function t p.0 p.1) take_number) (λ t fit. agrees_closed_value (cost_of sign function t (number_of t.text)))

pub agrees_cost : (sign : Token) → Agrees Cost (λ us. cost_at (sign ∷ us)) nothing cost_due
unfolding cost_at front
agrees_cost sign = agrees_then (numbered sign) (agrees_more number_due agrees_total) (agrees_numbered sign)

-- ---- behind ( :functions ( total-cost )

-- the word number, behind its -
take_type : TakesOne (List Token) number_type (λ t us. Ok us) Places.ANumberType
unfolding number_type spells begins left_at fault_at fits same_kind kind_number left_out wanted refused_token
take_type =
    takes_test (is_word (codes "number")) (opens_left left.Either wants.TypeName) (λ t us. us) (λ t. refl) (open_left Places.ANumberType left.Either wants.TypeName (λ t. refl) (λ t. refl) (λ t. refl)) refl
    (record { kind = kinds.Word; text = codes "number"; at = 0; head = false }) refl

abbrev closed_true : List Token → Read Bool
closed_true ts = need kinds.Close wants.Close ts >>= λ rest. Ok (true, rest)

abbrev typed_true : List Token → Read Bool
typed_true ts = number_type ts >>= closed_true

abbrev type_due : List Symbol
type_due = Table.NumberType ∷ Table.Closing ∷ []

agrees_typed : Agrees Bool typed_true nothing type_due
agrees_typed = agrees_one Table.NumberType (λ t. (refl, refl)) (takes_then (λ t. closed_true) take_type) (λ t fit. agrees_closed_value true)

abbrev declared : ℕ → List Token → Read Bool
declared at ts = function_type ts >>= λ rest. Ok (true, rest)

more_refused : (t : Token) → refused Places.MoreFunction t ≡ refusal wants.Close t
unfolding refused_token left_out wanted first_fit takes_section takes_part fits same_kind kind_number
more_refused t = plain Places.MoreFunction t wants.Close refl refl refl

more_misfit : (at : ℕ) (ts : List Token) → fits Places.MoreFunction (front ts) ≡ false → declared at ts ≡ Err (refused Places.MoreFunction (front ts))
unfolding fits function_type begins
more_misfit at ts e =
    let a = or_parts (is_kind kinds.Dash (front ts)) (is_kind kinds.Close (front ts)) e in
    bind_failed (function_type ts) (λ rest. Ok (true, rest)) (refused Places.MoreFunction (front ts))
    (if_false (is_kind kinds.Dash (front ts)) _ _ a.0 ∙ need_misfit kinds.Close wants.Close ts a.1 ∙ ap (λ (x : SyntaxError). Err x) (sym (more_refused (front ts))))

more_last : (t : Token) → fits Places.MoreFunction t ≡ true → is_kind kinds.Dash t ≡ false → is_kind kinds.Close t ≡ true
unfolding fits
more_last t fit no_dash = or_last (is_kind kinds.Dash t) (is_kind kinds.Close t) no_dash fit

abbrev more_behind : Token → List Token → Read Bool
more_behind t us = cond (is_kind kinds.Dash t) (typed_true us) (Ok (true, us))

more_take : (at : ℕ) (t : Token) (us : List Token) → fits Places.MoreFunction t ≡ true → declared at (t ∷ us) ≡ more_behind t us
unfolding function_type begins front
more_take at t us fit = at_dash (is_kind kinds.Dash t) refl where
  at_dash : (v : Bool) → is_kind kinds.Dash t ≡ v
      → ((let r : Result (List Token) SyntaxError = cond v (number_type us >>= λ last. need kinds.Close wants.Close last) (need kinds.Close wants.Close (t ∷ us)) in r) >>= λ rest. Ok (true, rest)) ≡ cond v (typed_true us) (Ok (true, us))
  at_dash true e = bind_bind (number_type us) (λ last. need kinds.Close wants.Close last) (λ rest. Ok (true, rest))
  at_dash false e = ap (λ (r : Result (List Token) SyntaxError). r >>= λ rest. Ok (true, rest)) (need_fit kinds.Close wants.Close t us (more_last t fit e))

takes_more : (at : ℕ) → TakesOne (Bool × List Token) (declared at) more_behind Places.MoreFunction
unfolding fits same_kind kind_number
takes_more at = record { no_end = refl; refuse = more_misfit at; take = more_take at; some = sample kinds.Close; some_fits = refl }

agrees_declared : (at : ℕ) → Agrees Bool (declared at) nothing (Table.FunctionType ∷ [])
agrees_declared at =
    agrees_one Table.FunctionType (λ t. (refl, refl)) (takes_more at)
    (λ t fit. agrees_as (append-nil (after Table.FunctionType t)) (agrees_choice (is_kind kinds.Dash t) (λ e. agrees_typed) (λ e. agrees_done true)))

-- ---- behind ( :functions

forms_refused : (t : Token) → refused Places.MoreForms t ≡ refusal wants.Paren t
unfolding refused_token left_out wanted first_fit takes_section takes_part fits same_kind kind_number
forms_refused t = plain Places.MoreForms t wants.Paren refl refl refl

abbrev function_inside : List Token → Read Bool
function_inside us = total_inside us >>= λ p. declared p.0 p.1

abbrev functions_behind : Token → List Token → Read Bool
functions_behind t us = cond (is_kind kinds.Close t) (Ok (false, us)) (function_inside us)

functions_misfit : (ts : List Token) → fits Places.MoreForms (front ts) ≡ false → functions_at ts ≡ Err (refused Places.MoreForms (front ts))
unfolding fits functions_at one_function total_cost_at begins
functions_misfit ts e =
    let a = or_parts (is_kind kinds.Open (front ts)) (is_kind kinds.Close (front ts)) e in
    if_false (is_kind kinds.Close (front ts)) _ _ a.1
    ∙ ap (λ (r : Result (List Token) SyntaxError). (r >>= total_inside) >>= λ p. declared p.0 p.1) (need_misfit kinds.Open wants.Paren ts a.0)
    ∙ ap (λ (x : SyntaxError). Err x) (sym (forms_refused (front ts)))

open_last : (t : Token) → fits Places.MoreForms t ≡ true → is_kind kinds.Close t ≡ false → is_kind kinds.Open t ≡ true
unfolding fits
open_last t fit no_close = or_first (is_kind kinds.Open t) (is_kind kinds.Close t) no_close fit

functions_take : (t : Token) (us : List Token) → fits Places.MoreForms t ≡ true → functions_at (t ∷ us) ≡ functions_behind t us
unfolding functions_at one_function total_cost_at begins front
functions_take t us fit = at_close (is_kind kinds.Close t) refl where
  at_close : (v : Bool) → is_kind kinds.Close t ≡ v
      → (let r : Read Bool = cond v (Ok (false, us)) ((need kinds.Open wants.Paren (t ∷ us) >>= total_inside) >>= λ p. declared p.0 p.1) in r) ≡ cond v (Ok (false, us)) (function_inside us)
  at_close true e = refl
  at_close false e = ap (λ (r : Result (List Token) SyntaxError). (r >>= total_inside) >>= λ p. declared p.0 p.1) (need_fit kinds.Open wants.Paren t us (open_last t fit e))

takes_functions : TakesOne (Bool × List Token) functions_at functions_behind Places.MoreForms
unfolding fits same_kind kind_number
takes_functions = record { no_end = refl; refuse = functions_misfit; take = functions_take; some = sample kinds.Close; some_fits = refl }

abbrev function_due : List Symbol
function_due = total_cost_then (Table.FunctionType ∷ [])

functions_due : (t : Token) (v : Bool) → is_kind kinds.Open t ≡ v → after Table.Functions t ++ [] ≡ cond v function_due [] ++ []
functions_due t v e = ap (λ b. cond b function_due [] ++ []) e

pub agrees_functions : Agrees Bool functions_at nothing (Table.Functions ∷ [])
agrees_functions = agrees_one Table.Functions (λ t. (refl, refl)) takes_functions (λ t fit.
    agrees_either (is_kind kinds.Close t)
    (λ e. agrees_as (functions_due t false (close_other t e)) (agrees_done false))
    (λ e. agrees_as (functions_due t true (open_last t fit e)) (agrees_then declared (agrees_more (Table.FunctionType ∷ []) agrees_inside) agrees_declared)))
