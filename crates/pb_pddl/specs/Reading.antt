-- Reading from left to right, with the first token that can't go on.
use Rattle.std.specs.Prelude.{◌≡◌, ◌≢◌, ℕ, zero, suc, Bool, true, false, cond, not, ◌&&◌, ◌||◌, ◌==◌, if◌then◌else◌, List, [], ◌∷◌, ◌++◌, length, drop, map, codes, Option, Some, None, is_some, Result, Ok, Err}
use Rattle.std.specs.Str.{bytes_eq}
use Rattle.pb_pddl.specs.declared.token.TokenKind.{TokenKind}
use Rattle.pb_pddl.specs.declared.token.TokenKind.TheVariants as kinds
use Rattle.pb_pddl.specs.declared.token.Token.{Token}
use Rattle.pb_pddl.specs.declared.error.SyntaxError.{SyntaxError}
use Rattle.pb_pddl.specs.declared.error.SyntaxError.TheVariants as errors
use Rattle.pb_pddl.specs.declared.error.Want.{Want}
use Rattle.pb_pddl.specs.declared.error.Want.TheVariants as wants
use Rattle.pb_pddl.specs.declared.error.LeftOut.{LeftOut}
use Rattle.pb_pddl.specs.declared.error.LeftOut.TheVariants as left
use Rattle.pb_pddl.specs.declared.tree.Name.{Name}
use Rattle.pb_pddl.specs.declared.tree.Term.{Term}
use Rattle.pb_pddl.specs.declared.tree.Term.TheVariants as terms
use Rattle.pb_pddl.specs.declared.tree.Atom.{Atom}
use Rattle.pb_pddl.specs.declared.tree.Typed.{Typed}
use Rattle.pb_pddl.specs.declared.tree.Cost.{Cost}
use Rattle.pb_pddl.specs.declared.tree.Predicate.{Predicate}
use Rattle.pb_pddl.specs.declared.parts.Group.{Group}
use Rattle.pb_pddl.specs.declared.tree.Action.{Action}
use Rattle.pb_pddl.specs.declared.tree.Domain.{Domain}
use Rattle.pb_pddl.specs.declared.tree.Problem.{Problem}
use Rattle.pb_pddl.specs.declared.parts.EffectParts.{EffectParts}
use Rattle.pb_pddl.specs.declared.parts.InitParts.{InitParts}
use Rattle.pb_pddl.specs.declared.parts.ActionParts.{ActionParts}
use Rattle.pb_pddl.specs.declared.parts.DomainParts.{DomainParts}
use Rattle.pb_pddl.specs.declared.parts.ProblemParts.{ProblemParts}
use Rattle.pb_pddl.specs.Numbers.{is_number, number_of}

-- what is read, and the tokens after it; or the error of the first token that can't go on
abbrev pub Read : Type 0 → Type 0
Read X = Result (X × List Token) SyntaxError

infixl 10 ◌>>=◌
abbrev pub ◌>>=◌ : {A B : Type 0} → Result A SyntaxError → (A → Result B SyntaxError)
    → Result B SyntaxError
(Ok x) >>= f = f x
(Err e) >>= f = Err e

-- What a function returned, seen by view, is what reading gives, unless memory ran out.
abbrev pub Gives : {X Y : Type 0} → (X → Y) → Result X SyntaxError → Result Y SyntaxError → Type 0
Gives view (Ok x) read = read ≡ Ok (view x)
Gives view (Err e) read = e ≢ errors.Memory → read ≡ Err e

-- ---- single tokens

unfoldable pub kind_number : TokenKind → ℕ
kind_number kinds.Open = 0
kind_number kinds.Close = 1
kind_number kinds.Equals = 2
kind_number kinds.Dash = 3
kind_number kinds.Word = 4
kind_number kinds.Variable = 5
kind_number kinds.Key = 6
kind_number kinds.Deep = 7
kind_number kinds.Byte = 8
kind_number kinds.End = 9

unfoldable pub same_kind : TokenKind → TokenKind → Bool
same_kind a b = kind_number a == kind_number b

abbrev pub no_token : Token
no_token = record { kind = kinds.End; text = []; at = 0; head = false }

unfoldable pub front : List Token → Token
front [] = no_token
front (t ∷ ts) = t

-- the first token is of this kind
unfoldable pub begins : TokenKind → List Token → Bool
begins kind ts = same_kind (front ts).kind kind

-- the first token is of this kind and text
unfoldable pub spells : TokenKind → List ℕ → List Token → Bool
spells kind text ts = begins kind ts && bytes_eq (front ts).text text

-- no atom has one of these heads
unfoldable pub is_reserved : List ℕ → Bool
is_reserved text =
    bytes_eq text (codes "and") || bytes_eq text (codes "or") || bytes_eq text (codes "not")
    || bytes_eq text (codes "imply")
    || bytes_eq text (codes "exists") || bytes_eq text (codes "forall")
    || bytes_eq text (codes "when") || bytes_eq text (codes "=")
    || bytes_eq text (codes "increase") || bytes_eq text (codes "decrease")
    || bytes_eq text (codes "assign")
    || bytes_eq text (codes "scale-up") || bytes_eq text (codes "scale-down")

-- why this token can't go on, if this is wanted
unfoldable pub refusal : Want → Token → SyntaxError
refusal want t =
    elim t.kind [
      | kinds.Byte ↦ errors.Byte t.at
      | kinds.Deep ↦ errors.Deep t.at
      | kinds.End ↦ errors.Unclosed t.at
      | _ ↦ if t.head && is_reserved t.text then errors.LeftOut t.at left.Head
          else errors.Expected t.at want
    ]

unfoldable pub fault_at : Want → List Token → SyntaxError
fault_at want ts = refusal want (front ts)

unfoldable pub left_at : LeftOut → List Token → SyntaxError
left_at what ts = errors.LeftOut (front ts).at what

unfoldable pub need : TokenKind → Want → List Token → Result (List Token) SyntaxError
need kind want ts = if begins kind ts then Ok (drop 1 ts) else Err (fault_at want ts)

unfoldable pub need_word : List ℕ → List Token → Result (List Token) SyntaxError
need_word text ts =
    if spells kinds.Word text ts then Ok (drop 1 ts) else Err (fault_at wants.Word ts)

abbrev pub name_of : Token → Name
name_of t = record { text = t.text; at = t.at }

unfoldable pub name_at : TokenKind → Want → List Token → Read Name
name_at kind want ts =
    if begins kind ts then Ok (name_of (front ts), drop 1 ts) else Err (fault_at want ts)

-- ---- many pieces, one after another: at most n

unfoldable pub folds : {S : Type 0} → (List Token → Bool) → (S → List Token → Read S) → ℕ → S
    → List Token → Read S
folds more step zero s ts = Ok (s, ts)
folds more step (suc n) s ts =
    cond (more ts) (step s ts >>= λ next. folds more step n next.0 next.1) (Ok (s, ts))

-- as long as a piece begins
unfoldable pub all_of : {S : Type 0} → (List Token → Bool) → (S → List Token → Read S) → S
    → List Token → Read S
all_of more step s ts = folds more step (length ts) s ts

-- ---- atoms

unfoldable pub begins_term : Bool → List Token → Bool
begins_term variables ts = begins kinds.Word ts || variables && begins kinds.Variable ts

unfoldable pub term_of : Token → Term
term_of t =
    if same_kind t.kind kinds.Variable then terms.Variable (name_of t) else terms.Object (name_of t)

unfoldable pub add_term : List Term → List Token → Read (List Term)
add_term out ts = Ok (out ++ term_of (front ts) ∷ [], drop 1 ts)

-- a word that may be an atom's head
unfoldable pub begins_head : List Token → Bool
begins_head ts = begins kinds.Word ts && not (is_reserved (front ts).text)

unfoldable pub head_at : List Token → Read Name
head_at ts =
    if begins_head ts then Ok (name_of (front ts), drop 1 ts) else Err (fault_at wants.Name ts)

-- an atom, after its (
unfoldable pub atom_at : Bool → List Token → Read Atom
atom_at variables ts = do
  head ← head_at ts
  all ← all_of (begins_term variables) add_term [] head.1
  rest ← need kinds.Close wants.Name all.1
  Ok (record { predicate = head.0; terms = all.0 }, rest)

-- ---- conditions

abbrev pub begins_open : List Token → Bool
begins_open ts = begins kinds.Open ts

unfoldable pub add_atom : Bool → List Atom → List Token → Read (List Atom)
add_atom variables out ts = do
  atom ← atom_at variables ts
  Ok (out ++ atom.0 ∷ [], atom.1)

-- after ( and
unfoldable pub conds_at : Bool → (List Atom → List Token → Read (List Atom)) → List Atom
    → List Token → Read (List Atom)
conds_at variables one out ts = do
  all ← all_of begins_open one out ts
  rest ← need kinds.Close wants.Paren all.1
  Ok (all.0, rest)

-- within so many parentheses
unfoldable pub cond_at : Bool → ℕ → List Atom → List Token → Read (List Atom)
cond_at variables zero out ts = Err (fault_at wants.Paren ts)
cond_at variables (suc room) out ts = do
  inside ← need kinds.Open wants.Paren ts
  if begins kinds.Close inside then Ok (out, drop 1 inside)
      else if spells kinds.Word (codes "and") inside
      then conds_at variables (cond_at variables room) out (drop 1 inside)
      else add_atom variables out inside

-- ---- ( total-cost ) and numbers

-- the first token is a reserved head directly after a (
unfoldable pub begins_reserved : List Token → Bool
begins_reserved ts = (front ts).head && is_reserved (front ts).text

-- this word, whose alternatives are left out
unfoldable pub only_word : List ℕ → LeftOut → List Token → Result (List Token) SyntaxError
only_word text what ts =
    if spells kinds.Word text ts then Ok (drop 1 ts)
    else Err (if begins kinds.Word ts && not (begins_reserved ts) then left_at what ts
    else fault_at wants.Word ts)

-- ( total-cost ): the place of the word
unfoldable pub total_cost_at : List Token → Read ℕ
total_cost_at ts = do
  inside ← need kinds.Open wants.Paren ts
  last ← only_word (codes "total-cost") left.Function inside
  rest ← need kinds.Close wants.Close last
  Ok ((front inside).at, rest)

unfoldable pub begins_number : List Token → Bool
begins_number ts = begins kinds.Word ts && is_number (front ts).text

unfoldable pub number_at : List Token → Read ℕ
number_at ts =
    if begins_number ts then Ok (number_of (front ts).text, drop 1 ts)
    else Err (if begins kinds.Open ts then left_at left.Function ts else fault_at wants.Number ts)

-- a cost, at its increase or =
unfoldable pub cost_at : List Token → Read Cost
cost_at ts = do
  function ← total_cost_at (drop 1 ts)
  number ← number_at function.1
  rest ← need kinds.Close wants.Close number.1
  Ok (
    record {
      at = (front ts).at;
      function = function.0;
      number = number.0;
      number_at = (front function.1).at;
    },
    rest,
  )

-- ---- effects

unfoldable pub add_literal : Bool → EffectParts → List Token → Read EffectParts
add_literal negated out ts = do
  atom ← atom_at true ts
  Ok (
    record out { literals = out.literals ++ record { atom = atom.0; negated = negated } ∷ [] },
    atom.1,
  )

-- a cost, at its increase
unfoldable pub add_increase : EffectParts → List Token → Read EffectParts
add_increase out ts = do
  cost ← cost_at ts
  Ok (record out { costs = out.costs ++ cost.0 ∷ [] }, cost.1)

-- after ( not
unfoldable pub negative_at : EffectParts → List Token → Read EffectParts
negative_at out ts = do
  inside ← need kinds.Open wants.Paren ts
  literal ← add_literal true out inside
  rest ← need kinds.Close wants.Close literal.1
  Ok (literal.0, rest)

-- after ( and
unfoldable pub effects_at : (EffectParts → List Token → Read EffectParts) → EffectParts → List Token
    → Read EffectParts
effects_at one out ts = do
  all ← all_of begins_open one out ts
  rest ← need kinds.Close wants.Paren all.1
  Ok (all.0, rest)

unfoldable pub effect_at : ℕ → EffectParts → List Token → Read EffectParts
effect_at zero out ts = Err (fault_at wants.Paren ts)
effect_at (suc room) out ts = do
  inside ← need kinds.Open wants.Paren ts
  if begins kinds.Close inside then Ok (out, drop 1 inside)
      else if spells kinds.Word (codes "and") inside
      then effects_at (effect_at room) out (drop 1 inside)
      else if spells kinds.Word (codes "not") inside then negative_at out (drop 1 inside)
      else if spells kinds.Word (codes "increase") inside then add_increase out inside
      else add_literal false out inside

abbrev pub no_effects : EffectParts
no_effects = record { literals = []; costs = [] }

-- ---- lists of names with types

unfoldable pub begins_group : TokenKind → List Token → Bool
begins_group kind ts = begins kind ts || begins kinds.Dash ts

abbrev pub typed : Option Name → List Name → List Typed
typed kind names = map (λ n. record { name = n; kind = kind }) names

-- a type's name, after a -
unfoldable pub type_at : List Token → Read Name
type_at ts =
    if begins kinds.Word ts then Ok (name_of (front ts), drop 1 ts)
    else Err (if begins kinds.Open ts then left_at left.Either ts else fault_at wants.TypeName ts)

-- the word number, after the - of :functions
unfoldable pub number_type : List Token → Result (List Token) SyntaxError
number_type ts =
    if spells kinds.Word (codes "number") ts then Ok (drop 1 ts)
    else Err (if begins kinds.Open ts then left_at left.Either ts else fault_at wants.TypeName ts)

-- a - and what follows it: all that wait get this type
unfoldable pub close_group : Group → List Token → Read Group
close_group g ts = do
  kind ← type_at (drop 1 ts)
  Ok (record { done = g.done ++ typed (Some kind.0) g.waiting; waiting = [] }, kind.1)

unfoldable pub group_step : TokenKind → Group → List Token → Read Group
group_step kind g ts =
    if begins kind ts
    then Ok (record g { waiting = g.waiting ++ name_of (front ts) ∷ [] }, drop 1 ts)
    else if length g.waiting == 0 then Err (fault_at wants.Group ts)
    else close_group g ts

-- LIST(X) and the ) after it
unfoldable pub list_at : TokenKind → Want → List Token → Read (List Typed)
list_at kind want ts = do
  all ← all_of (begins_group kind) (group_step kind) (record { done = []; waiting = [] }) ts
  rest ← need kinds.Close want all.1
  Ok (all.0.done ++ typed None all.0.waiting, rest)

-- ---- predicates, words of requirements, the content of :init

unfoldable pub add_predicate : List Predicate → List Token → Read (List Predicate)
add_predicate out ts = do
  inside ← need kinds.Open wants.Paren ts
  name ← name_at kinds.Word wants.Name inside
  params ← list_at kinds.Variable wants.Variable name.1
  Ok (out ++ record { name = name.0; params = params.0 } ∷ [], params.1)

unfoldable pub predicates_at : List Token → Read (List Predicate)
predicates_at ts = do
  all ← all_of begins_open add_predicate [] ts
  rest ← need kinds.Close wants.Paren all.1
  Ok (all.0, rest)

unfoldable pub begins_key : List Token → Bool
begins_key ts = begins kinds.Key ts

unfoldable pub add_key : List Name → List Token → Read (List Name)
add_key out ts = Ok (out ++ name_of (front ts) ∷ [], drop 1 ts)

unfoldable pub keys_at : List Token → Result (List Token) SyntaxError
keys_at ts = do
  all ← all_of begins_key add_key [] ts
  need kinds.Close wants.Close all.1

-- an atom of a state, after its (
unfoldable pub add_held : InitParts → List Token → Read InitParts
add_held out ts = do
  atom ← atom_at false ts
  Ok (record out { atoms = out.atoms ++ atom.0 ∷ [] }, atom.1)

-- a cost, at its =
unfoldable pub add_equal : InitParts → List Token → Read InitParts
add_equal out ts = do
  cost ← cost_at ts
  Ok (record out { costs = out.costs ++ cost.0 ∷ [] }, cost.1)

unfoldable pub add_fact : InitParts → List Token → Read InitParts
add_fact out ts = do
  inside ← need kinds.Open wants.Paren ts
  if spells kinds.Equals (codes "=") inside then add_equal out inside else add_held out inside

abbrev pub no_init : InitParts
no_init = record { atoms = []; costs = [] }

unfoldable pub facts_at : List Token → Read InitParts
facts_at ts = do
  all ← all_of begins_open add_fact no_init ts
  rest ← need kinds.Close wants.Paren all.1
  Ok (all.0, rest)

-- ---- how many parentheses a condition or an effect may go down

-- as many as it has tokens, which is no limit, since each takes one
unfoldable pub unlimited : List Token → ℕ
unlimited ts = length ts

-- as many as a text may have inside one another
unfoldable pub limited : List Token → ℕ
limited ts = 32

-- ---- actions

-- the keyword came before
unfoldable pub once : List Token → SyntaxError
once ts = errors.Expected (front ts).at wants.Once

unfoldable pub params_part : ActionParts → List Token → Read ActionParts
params_part a ts = if is_some a.params then Err (once ts) else (do
  inside ← need kinds.Open wants.Paren (drop 1 ts)
  list ← list_at kinds.Variable wants.Variable inside
  Ok (record a { params = Some list.0 }, list.1))

unfoldable pub pre_part : (List Token → ℕ) → ActionParts → List Token → Read ActionParts
pre_part room a ts = if is_some a.pre then Err (once ts) else (do
  all ← cond_at true (room (drop 1 ts)) [] (drop 1 ts)
  Ok (record a { pre = Some all.0 }, all.1))

unfoldable pub effect_part : (List Token → ℕ) → ActionParts → List Token → Read ActionParts
effect_part room a ts = if is_some a.effect then Err (once ts) else (do
  all ← effect_at (room (drop 1 ts)) no_effects (drop 1 ts)
  Ok (record a { effect = Some all.0.literals; costs = all.0.costs }, all.1))

-- a part of an action, at its keyword
unfoldable pub part_at : (List Token → ℕ) → ActionParts → List Token → Read ActionParts
part_at room a ts =
    if spells kinds.Key (codes ":parameters") ts then params_part a ts
    else if spells kinds.Key (codes ":precondition") ts then pre_part room a ts
    else if spells kinds.Key (codes ":effect") ts then effect_part room a ts
    else Err (left_at left.Part ts)

abbrev pub or_empty : {A : Type 0} → Option (List A) → List A
or_empty None = []
or_empty (Some xs) = xs

abbrev pub no_parts : ActionParts
no_parts = record { params = None; pre = None; effect = None; costs = [] }

-- what is wanted after these parts: the keyword of a part that did not come yet, else the )
unfoldable pub parts_want : ActionParts → Want
parts_want a =
    if is_some a.params && is_some a.pre && is_some a.effect then wants.Close else wants.Part

-- an action, after its keyword
unfoldable pub add_action : (List Token → ℕ) → List Action → List Token → Read (List Action)
add_action room out ts = do
  name ← name_at kinds.Word wants.Name ts
  all ← all_of begins_key (part_at room) no_parts name.1
  rest ← need kinds.Close (parts_want all.0) all.1
  Ok (
    out ++ record {
      name = name.0;
      params = or_empty all.0.params;
      pre = or_empty all.0.pre;
      effect = or_empty all.0.effect;
      costs = all.0.costs;
    } ∷ [],
    rest,
  )

-- ---- sections of a domain, at their keyword

unfoldable pub requirements_section : DomainParts → List Token → Read DomainParts
requirements_section d ts = if d.requirements then Err (once ts) else (do
  rest ← keys_at (drop 1 ts)
  Ok (record d { requirements = true }, rest))

unfoldable pub types_section : DomainParts → List Token → Read DomainParts
types_section d ts = if is_some d.types then Err (once ts) else (do
  list ← list_at kinds.Word wants.Name (drop 1 ts)
  Ok (record d { types = Some list.0 }, list.1))

unfoldable pub constants_section : DomainParts → List Token → Read DomainParts
constants_section d ts = if is_some d.constants then Err (once ts) else (do
  list ← list_at kinds.Word wants.Name (drop 1 ts)
  Ok (record d { constants = Some list.0 }, list.1))

unfoldable pub predicates_section : DomainParts → List Token → Read DomainParts
predicates_section d ts = if is_some d.predicates then Err (once ts) else (do
  list ← predicates_at (drop 1 ts)
  Ok (record d { predicates = Some list.0 }, list.1))

-- after ( :functions ( total-cost )
unfoldable pub function_type : List Token → Result (List Token) SyntaxError
function_type ts =
    if begins kinds.Dash ts then (number_type (drop 1 ts) >>= λ last. need kinds.Close wants.Close
    last) else need kinds.Close wants.Close ts

-- the declared function, and the ) after it
unfoldable pub one_function : List Token → Read Bool
one_function ts = do
  function ← total_cost_at ts
  rest ← function_type function.1
  Ok (true, rest)

-- after ( :functions: whether total-cost is declared
unfoldable pub functions_at : List Token → Read Bool
functions_at ts = if begins kinds.Close ts then Ok (false, drop 1 ts) else one_function ts

unfoldable pub functions_section : DomainParts → List Token → Read DomainParts
functions_section d ts = if d.functions then Err (once ts) else (do
  has_cost ← functions_at (drop 1 ts)
  Ok (record d { functions = true; has_cost = has_cost.0 }, has_cost.1))

unfoldable pub action_section : (List Token → ℕ) → DomainParts → List Token → Read DomainParts
action_section room d ts = do
  all ← add_action room d.actions (drop 1 ts)
  Ok (record d { actions = all.0 }, all.1)

-- no keyword of a section that there is
unfoldable pub no_section : List Token → SyntaxError
no_section ts = if begins kinds.Key ts then left_at left.Section ts else fault_at wants.Section ts

unfoldable pub domain_key : (List Token → ℕ) → DomainParts → List Token → Read DomainParts
domain_key room d ts =
    if spells kinds.Key (codes ":requirements") ts then requirements_section d ts
    else if spells kinds.Key (codes ":types") ts then types_section d ts
    else if spells kinds.Key (codes ":constants") ts then constants_section d ts
    else if spells kinds.Key (codes ":predicates") ts then predicates_section d ts
    else if spells kinds.Key (codes ":functions") ts then functions_section d ts
    else if spells kinds.Key (codes ":action") ts then action_section room d ts
    else Err (no_section ts)

unfoldable pub domain_section : (List Token → ℕ) → DomainParts → List Token → Read DomainParts
domain_section room d ts = need kinds.Open wants.Paren ts >>= λ inside. domain_key room d inside

-- ---- whole forms

-- ( define ( WORD NAME )
unfoldable pub title_at : List ℕ → List Token → Read Name
title_at word ts = do
  a ← need kinds.Open wants.Paren ts
  b ← need_word (codes "define") a
  c ← need kinds.Open wants.Paren b
  d ← need_word word c
  name ← name_at kinds.Word wants.Name d
  rest ← need kinds.Close wants.Close name.1
  Ok (name.0, rest)

-- nothing comes after the whole form
unfoldable pub end_at : List Token → Result (List Token) SyntaxError
end_at ts =
    if begins kinds.End ts then Ok ts
    else if begins kinds.Byte ts then Err (errors.Byte (front ts).at)
    else if begins kinds.Deep ts then Err (errors.Deep (front ts).at)
    else Err (errors.Extra (front ts).at)

abbrev pub no_domain : DomainParts
no_domain =
    record {
      requirements = false;
      types = None;
      constants = None;
      predicates = None;
      functions = false;
      has_cost = false;
      actions = [];
    }

unfoldable pub domain_at : (List Token → ℕ) → List Token → Result Domain SyntaxError
domain_at room ts = do
  name ← title_at (codes "domain") ts
  all ← all_of begins_open (domain_section room) no_domain name.1
  rest ← need kinds.Close wants.Paren all.1
  end ← end_at rest
  Ok (record {
    name = name.0;
    types = or_empty all.0.types;
    constants = or_empty all.0.constants;
    predicates = or_empty all.0.predicates;
    actions = all.0.actions;
    has_cost = all.0.has_cost;
  })

-- ---- sections of a problem, at their keyword

unfoldable pub domain_name_section : ProblemParts → List Token → Read ProblemParts
domain_name_section p ts = if is_some p.domain then Err (once ts) else (do
  name ← name_at kinds.Word wants.Name (drop 1 ts)
  rest ← need kinds.Close wants.Close name.1
  Ok (record p { domain = Some name.0 }, rest))

unfoldable pub problem_requirements : ProblemParts → List Token → Read ProblemParts
problem_requirements p ts = if p.requirements then Err (once ts) else (do
  rest ← keys_at (drop 1 ts)
  Ok (record p { requirements = true }, rest))

unfoldable pub objects_section : ProblemParts → List Token → Read ProblemParts
objects_section p ts = if is_some p.objects then Err (once ts) else (do
  list ← list_at kinds.Word wants.Name (drop 1 ts)
  Ok (record p { objects = Some list.0 }, list.1))

unfoldable pub init_section : ProblemParts → List Token → Read ProblemParts
init_section p ts = if is_some p.init then Err (once ts) else (do
  list ← facts_at (drop 1 ts)
  Ok (record p { init = Some list.0.atoms; costs = list.0.costs }, list.1))

unfoldable pub goal_section : (List Token → ℕ) → ProblemParts → List Token → Read ProblemParts
goal_section room p ts = if is_some p.goal then Err (once ts) else (do
  all ← cond_at false (room (drop 1 ts)) [] (drop 1 ts)
  rest ← need kinds.Close wants.Close all.1
  Ok (record p { goal = Some all.0 }, rest))

unfoldable pub metric_section : ProblemParts → List Token → Read ProblemParts
metric_section p ts = if is_some p.metric then Err (once ts) else (do
  word ← only_word (codes "minimize") left.Metric (drop 1 ts)
  function ← total_cost_at word
  rest ← need kinds.Close wants.Close function.1
  Ok (record p { metric = Some function.0 }, rest))

unfoldable pub problem_key : (List Token → ℕ) → ProblemParts → List Token → Read ProblemParts
problem_key room p ts =
    if spells kinds.Key (codes ":domain") ts then domain_name_section p ts
    else if spells kinds.Key (codes ":requirements") ts then problem_requirements p ts
    else if spells kinds.Key (codes ":objects") ts then objects_section p ts
    else if spells kinds.Key (codes ":init") ts then init_section p ts
    else if spells kinds.Key (codes ":goal") ts then goal_section room p ts
    else if spells kinds.Key (codes ":metric") ts then metric_section p ts
    else Err (no_section ts)

-- each section came: no more may come
unfoldable pub stood_all : ProblemParts → Bool
stood_all p =
    p.requirements && is_some p.domain && is_some p.objects && is_some p.init && is_some p.goal
    && is_some p.metric

unfoldable pub problem_section : (List Token → ℕ) → ProblemParts → List Token → Read ProblemParts
problem_section room p ts =
    if stood_all p then Err (fault_at wants.Close ts)
    else (need kinds.Open wants.Paren ts >>= λ inside. problem_key room p inside)

-- what is wanted after these sections: another, else the )
unfoldable pub sections_want : ProblemParts → Want
sections_want p = if stood_all p then wants.Close else wants.Paren

abbrev pub no_problem : ProblemParts
no_problem =
    record {
      requirements = false;
      domain = None;
      objects = None;
      init = None;
      goal = None;
      costs = [];
      metric = None;
    }

-- at the last ), if a section that must be there is missing
unfoldable pub missing : List Token → SyntaxError
missing ts = errors.Expected (front ts).at wants.Missing

-- a section that must be there, at the last )
unfoldable pub there : {A : Type 0} → Option A → List Token → Result A SyntaxError
there None ts = Err (missing ts)
there (Some x) ts = Ok x

unfoldable pub problem_at : (List Token → ℕ) → List Token → Result Problem SyntaxError
problem_at room ts = do
  name ← title_at (codes "problem") ts
  all ← all_of begins_open (problem_section room) no_problem name.1
  rest ← need kinds.Close (sections_want all.0) all.1
  domain ← there all.0.domain all.1
  goal ← there all.0.goal all.1
  end ← end_at rest
  Ok (record {
    name = name.0;
    domain = domain;
    objects = or_empty all.0.objects;
    init = or_empty all.0.init;
    goal = goal;
    costs = all.0.costs;
    metric = all.0.metric;
  })
