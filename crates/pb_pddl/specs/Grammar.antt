-- The grammar, by cases: X ts rest x says that the tokens ts are the tokens of an X followed by
-- rest, and that this X says x.
use Rattle.std.specs.Prelude.{◌≡◌, ◌≢◌, ◌⊎◌, ℕ, zero, suc, Bool, true, false, List, [], ◌∷◌, ◌++◌, length, codes, Some, None}
use Rattle.pb_pddl.specs.declared.token.TokenKind.{TokenKind}
use Rattle.pb_pddl.specs.declared.token.TokenKind.TheVariants as kinds
use Rattle.pb_pddl.specs.declared.token.Token.{Token}
use Rattle.pb_pddl.specs.declared.tree.Name.{Name}
use Rattle.pb_pddl.specs.declared.tree.Term.{Term}
use Rattle.pb_pddl.specs.declared.tree.Term.TheVariants as terms
use Rattle.pb_pddl.specs.declared.tree.Atom.{Atom}
use Rattle.pb_pddl.specs.declared.tree.Typed.{Typed}
use Rattle.pb_pddl.specs.declared.tree.Literal.{Literal}
use Rattle.pb_pddl.specs.declared.tree.Cost.{Cost}
use Rattle.pb_pddl.specs.declared.tree.Predicate.{Predicate}
use Rattle.pb_pddl.specs.declared.tree.Action.{Action}
use Rattle.pb_pddl.specs.declared.tree.Domain.{Domain}
use Rattle.pb_pddl.specs.declared.tree.Problem.{Problem}
use Rattle.pb_pddl.specs.declared.parts.EffectParts.{EffectParts}
use Rattle.pb_pddl.specs.declared.parts.InitParts.{InitParts}
use Rattle.pb_pddl.specs.declared.parts.ActionParts.{ActionParts}
use Rattle.pb_pddl.specs.declared.parts.DomainParts.{DomainParts}
use Rattle.pb_pddl.specs.declared.parts.ProblemParts.{ProblemParts}
use Rattle.pb_pddl.specs.Numbers.{is_number, number_of}
use Rattle.pb_pddl.specs.Reading.{front, is_reserved, name_of, typed, or_empty, no_effects, no_init, no_parts, no_domain, no_problem}

-- ---- single tokens

-- a token of this kind, and then rest
abbrev pub Takes : TokenKind → List Token → Token → List Token → Type 0
Takes kind ts t rest = (ts ≡ t ∷ rest) × (t.kind ≡ kind)

-- ( and ) and - and a word or keyword of this text
abbrev pub Opens : List Token → List Token → Type 0
Opens ts rest = (t : Token) × Takes kinds.Open ts t rest

abbrev pub Closes : List Token → List Token → Type 0
Closes ts rest = (t : Token) × Takes kinds.Close ts t rest

abbrev pub Dashes : List Token → List Token → Type 0
Dashes ts rest = (t : Token) × Takes kinds.Dash ts t rest

abbrev pub Says : TokenKind → List ℕ → List Token → List Token → Type 0
Says kind text ts rest = (t : Token) × Takes kind ts t rest × (t.text ≡ text)

-- NAME, VAR, KEY
abbrev pub Names : TokenKind → List Token → List Token → Name → Type 0
Names kind ts rest name = (t : Token) × Takes kind ts t rest × (name ≡ name_of t)

-- X*, n of them, for any n: each X changes what was said so far
abbrev pub Steps : {S : Type 0} → (S → List Token → S → List Token → Type 0) → ℕ → S → List Token
    → S → List Token → Type 0
Steps X zero said ts end rest = (end ≡ said) × (rest ≡ ts)
Steps {S} X (suc n) said ts end rest =
    (mid : S) × (us : List Token) × X said ts mid us × Steps X n mid us end rest

abbrev pub Many : {S : Type 0} → (S → List Token → S → List Token → Type 0) → S → List Token → S
    → List Token → Type 0
Many X said ts end rest = (n : ℕ) × Steps X n said ts end rest

-- ---- ATOM = ( NAME TERM* ), NAME no reserved head; TERM = NAME | VAR

abbrev pub IsTerm : Bool → List Term → List Token → List Term → List Token → Type 0
IsTerm variables said ts now rest =
    (name : Name) × ((Names kinds.Word ts rest name × (now ≡ said ++ terms.Object name ∷ []))
    ⊎ ((variables ≡ true) × Names kinds.Variable ts rest name
    × (now ≡ said ++ terms.Variable name ∷ [])))

abbrev pub IsHead : List Token → List Token → Name → Type 0
IsHead ts rest name = Names kinds.Word ts rest name × (is_reserved name.text ≡ false)

-- after the (
pub record IsAtom (variables : Bool) (ts rest : List Token) (atom : Atom) : Type 0 where
  pub inside : List Token
  pub last : List Token
  pub head : IsHead ts inside atom.predicate
  pub terms : Many (IsTerm variables) [] inside atom.terms last
  pub close : Closes last rest

-- ---- COND = ( ) | ( and COND* ) | ATOM, within room parentheses: it adds its atoms to those that
-- were said.
--
-- Its users take the number of tokens as the room. That is no limit, as each parenthesis is a
-- token.

abbrev pub IsCond : Bool → ℕ → List Atom → List Token → List Atom → List Token → Type 0
IsCond variables zero said ts now rest = ⊥
IsCond variables (suc room) said ts now rest =
    (inside : List Token) × Opens ts inside
    × ((Closes inside rest × (now ≡ said))
    ⊎ ((first : List Token) × (last : List Token) × Says kinds.Word (codes "and") inside first
    × Many (IsCond variables room) said first now last × Closes last rest)
    ⊎ ((atom : Atom) × IsAtom variables inside rest atom × (now ≡ said ++ atom ∷ [])))

-- ---- ( total-cost ) and NUM

-- a token of this kind and text, at this place
abbrev pub SaysAt : TokenKind → List ℕ → List Token → List Token → ℕ → Type 0
SaysAt kind text ts rest at = (t : Token) × Takes kind ts t rest × (t.text ≡ text) × (at ≡ t.at)

-- ( total-cost ), whose word has this place
abbrev pub IsTotalCost : List Token → List Token → ℕ → Type 0
IsTotalCost ts rest at =
    (inside : List Token) × (last : List Token) × Opens ts inside
    × SaysAt kinds.Word (codes "total-cost") inside last at × Closes last rest

-- NUM, with its number and its place
abbrev pub IsNumber : List Token → List Token → ℕ → ℕ → Type 0
IsNumber ts rest number at =
    (t : Token) × Takes kinds.Word ts t rest × (is_number t.text ≡ true)
    × (number ≡ number_of t.text) × (at ≡ t.at)

-- the word increase or the =, then ( total-cost ) NUM )
pub record IsCost (kind : TokenKind) (text : List ℕ) (ts rest : List Token) (cost : Cost) : Type 0
  where
    pub first : List Token
    pub second : List Token
    pub last : List Token
    pub sign : SaysAt kind text ts first cost.at
    pub function : IsTotalCost first second cost.function
    pub number : IsNumber second last cost.number cost.number_at
    pub close : Closes last rest

-- ---- EFF = ( ) | ( and EFF* ) | ATOM | ( not ATOM ) | ( increase ( total-cost ) NUM )

-- what was said and this literal
abbrev pub with_literal : EffectParts → Literal → EffectParts
with_literal said literal = record { literals = said.literals ++ literal ∷ []; costs = said.costs }

abbrev pub IsEffect : ℕ → EffectParts → List Token → EffectParts → List Token → Type 0
IsEffect zero said ts now rest = ⊥
IsEffect (suc room) said ts now rest =
    (inside : List Token) × Opens ts inside
    × ((Closes inside rest × (now ≡ said))
    ⊎ ((first : List Token) × (last : List Token) × Says kinds.Word (codes "and") inside first
    × Many (IsEffect room) said first now last × Closes last rest)
    ⊎ ((first : List Token) × (behind : List Token) × (last : List Token) × (atom : Atom)
    × Says kinds.Word (codes "not") inside first × Opens first behind
    × IsAtom true behind last atom
    × Closes last rest × (now ≡ with_literal said (record { atom = atom; negated = true })))
    ⊎ ((cost : Cost) × IsCost kinds.Word (codes "increase") inside rest cost
    × (now ≡ record { literals = said.literals; costs = said.costs ++ cost ∷ [] }))
    ⊎ ((atom : Atom) × IsAtom true inside rest atom
    × (now ≡ with_literal said (record { atom = atom; negated = false }))))

-- ---- LIST(X) = any number of groups X X* - NAME, then X*; with the ) after it

abbrev pub AddsName : TokenKind → List Name → List Token → List Name → List Token → Type 0
AddsName kind said ts now rest = (name : Name) × Names kind ts rest name × (now ≡ said ++ name ∷ [])

-- X X* - NAME
abbrev pub IsGroup : TokenKind → List Typed → List Token → List Typed → List Token → Type 0
IsGroup kind said ts now rest =
    (names : List Name) × (dash : List Token) × (word : List Token) × (type : Name)
    × Many (AddsName kind) [] ts names dash × (length names ≢ 0) × Dashes dash word
    × Names kinds.Word word rest type × (now ≡ said ++ typed (Some type) names)

pub record IsList (kind : TokenKind) (ts rest : List Token) (list : List Typed) : Type 0 where
  pub done : List Typed
  pub names : List Name
  pub last_names : List Token
  pub last : List Token
  pub groups : Many (IsGroup kind) [] ts done last_names
  pub others : Many (AddsName kind) [] last_names names last
  pub close : Closes last rest
  pub is : list ≡ done ++ typed None names

-- ---- PRED = ( NAME LIST(VAR) ), KEY*, the content of :init: ATOM | ( = ( total-cost ) NUM )

abbrev pub IsPredicate : List Predicate → List Token → List Predicate → List Token → Type 0
IsPredicate said ts now rest =
    (inside : List Token) × (vars : List Token) × (name : Name) × (params : List Typed)
    × Opens ts inside × Names kinds.Word inside vars name × IsList kinds.Variable vars rest params
    × (now ≡ said ++ record { name = name; params = params } ∷ [])

abbrev pub IsFact : InitParts → List Token → InitParts → List Token → Type 0
IsFact said ts now rest =
    (inside : List Token) × Opens ts inside
    × (((cost : Cost) × IsCost kinds.Equals (codes "=") inside rest cost
    × (now ≡ record { atoms = said.atoms; costs = said.costs ++ cost ∷ [] }))
    ⊎ ((atom : Atom) × IsAtom false inside rest atom
    × (now ≡ record { atoms = said.atoms ++ atom ∷ []; costs = said.costs })))

-- X* and the ) after it
abbrev pub Closed : {S : Type 0} → (S → List Token → S → List Token → Type 0) → S → List Token
    → List Token → S → Type 0
Closed X none ts rest all = (last : List Token) × Many X none ts all last × Closes last rest

-- ---- PART, each at most once: it says what wasn't said

abbrev pub IsPart : ActionParts → List Token → ActionParts → List Token → Type 0
IsPart said ts now rest =
    (first : List Token)
    × (((inside : List Token) × (params : List Typed)
    × Says kinds.Key (codes ":parameters") ts first × (said.params ≡ None) × Opens first inside
    × IsList kinds.Variable inside rest params
    × (now ≡ record {
      params = Some params;
      pre = said.pre;
      effect = said.effect;
      costs = said.costs;
    }))
    ⊎ ((pre : List Atom) × Says kinds.Key (codes ":precondition") ts first × (said.pre ≡ None)
    × IsCond true (length first) [] first pre rest
    × (now ≡ record {
      params = said.params;
      pre = Some pre;
      effect = said.effect;
      costs = said.costs;
    }))
    ⊎ ((all : EffectParts) × Says kinds.Key (codes ":effect") ts first × (said.effect ≡ None)
    × IsEffect (length first) no_effects first all rest
    × (now ≡ record {
      params = said.params;
      pre = said.pre;
      effect = Some all.literals;
      costs = all.costs;
    })))

-- NAME PART* )
pub record IsAction (ts rest : List Token) (action : Action) : Type 0 where
  pub first : List Token
  pub parts : ActionParts
  pub name : Names kinds.Word ts first action.name
  pub all : Closed IsPart no_parts first rest parts
  pub params : action.params ≡ or_empty parts.params
  pub pre : action.pre ≡ or_empty parts.pre
  pub effect : action.effect ≡ or_empty parts.effect
  pub costs : action.costs ≡ parts.costs

-- ---- DSECT, each but :action at most once

-- ( :KEY, and what follows it
abbrev pub Section : List ℕ → List Token → List Token → Type 0
Section key ts rest = (inside : List Token) × Opens ts inside × Says kinds.Key key inside rest

-- ) | ( total-cost ) ) | ( total-cost ) - number ), and whether total-cost is declared
abbrev pub IsFunctions : List Token → List Token → Bool → Type 0
IsFunctions ts rest has_cost =
    (Closes ts rest × (has_cost ≡ false))
    ⊎ ((at : ℕ) × (behind : List Token) × IsTotalCost ts behind at × Closes behind rest
    × (has_cost ≡ true))
    ⊎ ((at : ℕ) × (behind : List Token) × (word : List Token) × (last : List Token)
    × IsTotalCost ts behind at × Dashes behind word × Says kinds.Word (codes "number") word last
    × Closes last rest × (has_cost ≡ true))

abbrev pub IsDomainSection : DomainParts → List Token → DomainParts → List Token → Type 0
IsDomainSection said ts now rest =
    (first : List Token)
    × (((keys : List Name) × Section (codes ":requirements") ts first × (said.requirements ≡ false)
    × Closed (AddsName kinds.Key) [] first rest keys
    × (now ≡ record said { requirements = true }))
    ⊎ ((list : List Typed) × Section (codes ":types") ts first × (said.types ≡ None)
    × IsList kinds.Word first rest list × (now ≡ record said { types = Some list }))
    ⊎ ((list : List Typed) × Section (codes ":constants") ts first × (said.constants ≡ None)
    × IsList kinds.Word first rest list × (now ≡ record said { constants = Some list }))
    ⊎ ((list : List Predicate) × Section (codes ":predicates") ts first × (said.predicates ≡ None)
    × Closed IsPredicate [] first rest list × (now ≡ record said { predicates = Some list }))
    ⊎ ((has_cost : Bool) × Section (codes ":functions") ts first × (said.functions ≡ false)
    × IsFunctions first rest has_cost
    × (now ≡ record said { functions = true; has_cost = has_cost }))
    ⊎ ((action : Action) × Section (codes ":action") ts first × IsAction first rest action
    × (now ≡ record said { actions = said.actions ++ action ∷ [] })))

-- ---- whole forms

-- ( define ( WORD NAME )
pub record Titles (word : List ℕ) (ts rest : List Token) (name : Name) : Type 0 where
  pub one : List Token
  pub two : List Token
  pub three : List Token
  pub four : List Token
  pub five : List Token
  pub open_form : Opens ts one
  pub define : Says kinds.Word (codes "define") one two
  pub open_title : Opens two three
  pub word_is : Says kinds.Word word three four
  pub name_is : Names kinds.Word four five name
  pub close : Closes five rest

-- the text ends here
abbrev pub Ends : List Token → Type 0
Ends ts = (front ts).kind ≡ kinds.End

pub record IsDomain (ts : List Token) (domain : Domain) : Type 0 where
  pub first : List Token
  pub last : List Token
  pub parts : DomainParts
  pub title : Titles (codes "domain") ts first domain.name
  pub sections : Closed IsDomainSection no_domain first last parts
  pub ends : Ends last
  pub types : domain.types ≡ or_empty parts.types
  pub constants : domain.constants ≡ or_empty parts.constants
  pub predicates : domain.predicates ≡ or_empty parts.predicates
  pub actions : domain.actions ≡ parts.actions
  pub has_cost : domain.has_cost ≡ parts.has_cost

-- ---- PSECT, each at most once; :domain and :goal must be there

abbrev pub IsProblemSection : ProblemParts → List Token → ProblemParts → List Token → Type 0
IsProblemSection said ts now rest =
    (first : List Token)
    × (((name : Name) × (last : List Token) × Section (codes ":domain") ts first
    × (said.domain ≡ None) × Names kinds.Word first last name × Closes last rest
    × (now ≡ record said { domain = Some name }))
    ⊎ ((keys : List Name) × Section (codes ":requirements") ts first × (said.requirements ≡ false)
    × Closed (AddsName kinds.Key) [] first rest keys
    × (now ≡ record said { requirements = true }))
    ⊎ ((list : List Typed) × Section (codes ":objects") ts first × (said.objects ≡ None)
    × IsList kinds.Word first rest list × (now ≡ record said { objects = Some list }))
    ⊎ ((all : InitParts) × Section (codes ":init") ts first × (said.init ≡ None)
    × Closed IsFact no_init first rest all
    × (now ≡ record said { init = Some all.atoms; costs = all.costs }))
    ⊎ ((goal : List Atom) × (last : List Token) × Section (codes ":goal") ts first
    × (said.goal ≡ None) × IsCond false (length first) [] first goal last × Closes last rest
    × (now ≡ record said { goal = Some goal }))
    ⊎ ((at : ℕ) × (word : List Token) × (last : List Token) × Section (codes ":metric") ts first
    × (said.metric ≡ None) × Says kinds.Word (codes "minimize") first word
    × IsTotalCost word last at × Closes last rest × (now ≡ record said { metric = Some at })))

pub record IsProblem (ts : List Token) (problem : Problem) : Type 0 where
  pub first : List Token
  pub last : List Token
  pub parts : ProblemParts
  pub title : Titles (codes "problem") ts first problem.name
  pub sections : Closed IsProblemSection no_problem first last parts
  pub ends : Ends last
  pub domain : parts.domain ≡ Some problem.domain
  pub objects : problem.objects ≡ or_empty parts.objects
  pub init : problem.init ≡ or_empty parts.init
  pub goal : parts.goal ≡ Some problem.goal
  pub costs : problem.costs ≡ parts.costs
  pub metric : problem.metric ≡ parts.metric
