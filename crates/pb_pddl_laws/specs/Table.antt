-- The grammar as a table: the symbols that are due after each token, as in a predictive parser (P.
-- M. Lewis and R. E. Stearns, "Syntax-directed transduction", 1968). The tokens before a place thus
-- fix the place, and with it the error.
use Rattle.std.specs.Prelude.{◌≡◌, ℕ, Bool, true, false, ◌&&◌, ◌||◌, if◌then◌else◌, List, [], ◌∷◌, ◌++◌, codes, Some}
use Rattle.pb_pddl.specs.declared.token.TokenKind.{TokenKind}
use Rattle.pb_pddl.specs.declared.token.TokenKind.TheVariants as kinds
use Rattle.pb_pddl.specs.declared.token.Token.{Token}
use Rattle.pb_pddl.specs.declared.tree.Name.{Name}
use Rattle.pb_pddl.specs.declared.error.SyntaxError.{SyntaxError}
use Rattle.pb_pddl.specs.declared.error.LeftOut.{LeftOut}
use Rattle.pb_pddl.specs.declared.error.LeftOut.TheVariants as left
use Rattle.pb_pddl.specs.declared.parts.ActionParts.{ActionParts}
use Rattle.pb_pddl.specs.declared.parts.DomainParts.{DomainParts}
use Rattle.pb_pddl.specs.declared.parts.ProblemParts.{ProblemParts}
use Rattle.pb_pddl.specs.Tokens.{TextTokens}
use Rattle.pb_pddl.specs.Reading.{front, no_parts, no_domain, no_problem}
use Rattle.pb_pddl.specs.Places
use Rattle.pb_pddl.specs.Places.{Place, is_kind, is_word, is_key, is_equals, fits, refused, Begins}

-- what is due. Of a part or section that came before, only the fact that it came is noted
pub data Symbol : Type 0 where
  -- one token: ( or ), this word, the only word, a NAME, a type's or an ATOM's, a NUM, or `number`
  Opening : Symbol
  Closing : Symbol
  ThisWord : List ℕ → Symbol
  OnlyWord : List ℕ → LeftOut → Symbol
  AnyName : Symbol
  TypeName : Symbol
  HeadName : Symbol
  Number : Symbol
  NumberType : Symbol
  -- TERM* ), with variables allowed or not
  Terms : Bool → Symbol
  -- a COND, an EFF or an entry of :init, after its (
  Condition : Bool → Symbol
  Effect : Symbol
  Fact : Symbol
  -- COND* ) and EFF* ) and PRED* ) and the entries of :init, to its )
  Conditions : Bool → Symbol
  Effects : Symbol
  Predicates : Symbol
  Facts : Symbol
  -- after ( :functions, and after its ( total-cost )
  Functions : Symbol
  FunctionType : Symbol
  -- LIST ) of variables or of words, with a name waiting for its type or none
  Names : Bool → Bool → Symbol
  -- KEY* ) and PART* ) and DSECT* ) and PSECT* )
  Keys : Symbol
  Parts : ActionParts → Symbol
  DomainSections : DomainParts → Symbol
  ProblemSections : ProblemParts → Symbol
  -- a DSECT or a PSECT, after its (
  DomainSection : DomainParts → Symbol
  ProblemSection : ProblemParts → Symbol

-- the kind of a LIST's names
abbrev pub names_kind : Bool → TokenKind
names_kind true = kinds.Variable
names_kind false = kinds.Word

-- the place of its first token
abbrev pub place_of : Symbol → Place
place_of Opening = Places.AnOpen
place_of Closing = Places.AClose
place_of (ThisWord text) = Places.TheWord text
place_of (OnlyWord text what) = Places.OnlyWord text what
place_of AnyName = Places.AName
place_of TypeName = Places.AType
place_of HeadName = Places.AHead
place_of Number = Places.ANumber
place_of NumberType = Places.ANumberType
place_of (Terms variables) = Places.MoreTerms variables
place_of (Condition variables) = Places.InCondition
place_of Effect = Places.InEffect
place_of Fact = Places.InFact
place_of (Conditions variables) = Places.MoreForms
place_of Effects = Places.MoreForms
place_of Predicates = Places.MoreForms
place_of Facts = Places.MoreForms
place_of Functions = Places.MoreForms
place_of FunctionType = Places.MoreFunction
place_of (Names variables waits) = Places.MoreNames (names_kind variables) waits
place_of Keys = Places.MoreKeys
place_of (Parts said) = Places.MoreParts said
place_of (DomainSections said) = Places.MoreForms
place_of (ProblemSections said) = Places.MoreSections said
place_of (DomainSection said) = Places.ADomainSection said
place_of (ProblemSection said) = Places.AProblemSection said

abbrev pub no_name : Name
no_name = record { text = []; at = 0 }

-- total-cost ), and what follows it
abbrev pub total_cost_then : List Symbol → List Symbol
total_cost_then due = OnlyWord (codes "total-cost") left.Function ∷ Closing ∷ due

-- ( total-cost ) NUM )
abbrev pub cost_due : List Symbol
cost_due = Opening ∷ total_cost_then (Number ∷ Closing ∷ [])

-- after the keyword of a part
abbrev pub after_part : ActionParts → Token → List Symbol
after_part said t =
    if is_key (codes ":parameters") t then Opening ∷ Names true false
    ∷ Parts (record said { params = Some [] }) ∷ []
    else if is_key (codes ":precondition") t then Opening ∷ Condition true
    ∷ Parts (record said { pre = Some [] }) ∷ []
    else Opening ∷ Effect ∷ Parts (record said { effect = Some [] }) ∷ []

-- after the keyword of a section
abbrev pub after_domain_key : DomainParts → Token → List Symbol
after_domain_key said t =
    if is_key (codes ":requirements") t then Keys ∷ DomainSections
    (record said { requirements = true }) ∷ []
    else if is_key (codes ":types") t then Names false false
    ∷ DomainSections (record said { types = Some [] }) ∷ []
    else if is_key (codes ":constants") t then Names false false
    ∷ DomainSections (record said { constants = Some [] }) ∷ []
    else if is_key (codes ":predicates") t then Predicates
    ∷ DomainSections (record said { predicates = Some [] }) ∷ []
    else if is_key (codes ":functions") t then Functions ∷ DomainSections
    (record said { functions = true }) ∷ []
    else AnyName ∷ Parts no_parts ∷ DomainSections said ∷ []

abbrev pub after_problem_key : ProblemParts → Token → List Symbol
after_problem_key said t =
    if is_key (codes ":domain") t then AnyName ∷ Closing ∷ ProblemSections
    (record said { domain = Some no_name }) ∷ []
    else if is_key (codes ":requirements") t then Keys ∷ ProblemSections
    (record said { requirements = true }) ∷ []
    else if is_key (codes ":objects") t then Names false false
    ∷ ProblemSections (record said { objects = Some [] }) ∷ []
    else if is_key (codes ":init") t then Facts ∷ ProblemSections (record said { init = Some [] })
    ∷ []
    else if is_key (codes ":goal") t then Opening ∷ Condition false ∷ Closing
    ∷ ProblemSections (record said { goal = Some [] }) ∷ []
    else OnlyWord (codes "minimize") left.Metric ∷ Opening
    ∷ total_cost_then (Closing ∷ ProblemSections (record said { metric = Some 0 }) ∷ [])

-- what is due after a token that fits, up to the end of this symbol
abbrev pub after : Symbol → Token → List Symbol
after Opening t = []
after Closing t = []
after (ThisWord text) t = []
after (OnlyWord text what) t = []
after AnyName t = []
after TypeName t = []
after HeadName t = []
after Number t = []
after NumberType t = []
after (Terms variables) t =
    if is_kind kinds.Word t || variables && is_kind kinds.Variable t then Terms variables ∷ []
    else []
after (Condition variables) t =
    if is_kind kinds.Close t then []
    else if is_word (codes "and") t then Conditions variables ∷ []
    else Terms variables ∷ []
after Effect t =
    if is_kind kinds.Close t then []
    else if is_word (codes "and") t then Effects ∷ []
    else if is_word (codes "not") t then Opening ∷ HeadName ∷ Terms true ∷ Closing ∷ []
    else if is_word (codes "increase") t then cost_due
    else Terms true ∷ []
after Fact t = if is_equals t then cost_due else Terms false ∷ []
after (Conditions variables) t =
    if is_kind kinds.Open t then Condition variables ∷ Conditions variables ∷ [] else []
after Effects t = if is_kind kinds.Open t then Effect ∷ Effects ∷ [] else []
after Predicates t =
    if is_kind kinds.Open t then AnyName ∷ Names true false ∷ Predicates ∷ [] else []
after Facts t = if is_kind kinds.Open t then Fact ∷ Facts ∷ [] else []
after Functions t = if is_kind kinds.Open t then total_cost_then (FunctionType ∷ []) else []
after FunctionType t = if is_kind kinds.Dash t then NumberType ∷ Closing ∷ [] else []
after (Names variables waits) t =
    if is_kind (names_kind variables) t then Names variables true ∷ []
    else if is_kind kinds.Dash t then TypeName ∷ Names variables false ∷ []
    else []
after Keys t = if is_kind kinds.Key t then Keys ∷ [] else []
after (Parts said) t = if is_kind kinds.Key t then after_part said t else []
after (DomainSections said) t = if is_kind kinds.Open t then DomainSection said ∷ [] else []
after (ProblemSections said) t = if is_kind kinds.Open t then ProblemSection said ∷ [] else []
after (DomainSection said) t = after_domain_key said t
after (ProblemSection said) t = after_problem_key said t

-- the whole forms
abbrev pub form : List ℕ → Symbol → List Symbol
form word sections =
    Opening ∷ ThisWord (codes "define") ∷ Opening ∷ ThisWord word ∷ AnyName ∷ Closing ∷ sections
    ∷ []

abbrev pub domain_form : List Symbol
domain_form = form (codes "domain") (DomainSections no_domain)

abbrev pub problem_form : List Symbol
problem_form = form (codes "problem") (ProblemSections no_problem)

-- these symbols are due, these tokens fit, one after another, and they leave the rest due
abbrev pub Leads : List Symbol → List Token → List Symbol → Type 0
Leads due [] rest = rest ≡ due
Leads [] (t ∷ ts) rest = ⊥
Leads (s ∷ due) (t ∷ ts) rest = (fits (place_of s) t ≡ true) × Leads (after s t ++ due) ts rest

-- the place at which this is due: after the whole form it is the end
abbrev pub place_due : List Symbol → Place
place_due [] = Places.TheEnd
place_due (s ∷ due) = place_of s

-- these tokens fit, one after another, up to the end, and nothing is due there
abbrev pub IsWhole : List Symbol → List Token → Type 0
IsWhole whole ts =
    (before : List Token) × (after : List Token) × (ts ≡ before ++ after) × Leads whole before []
    × (fits Places.TheEnd (front after) ≡ true)

-- The tokens before lead to only one place. The place says which tokens may follow them so that
-- they begin a form, and which may not. The next token is none of these, and the error is the
-- place's.
pub record IsTold (X : Type 0) (Is : List Token → X → Type 0) (whole : List Symbol)
    (ts : List Token) (e : SyntaxError) : Type 0 where
  pub before : List Token
  pub after : List Token
  pub due : List Symbol
  pub split : ts ≡ before ++ after
  pub leads : Leads whole before due
  pub begins : Begins Is before
  pub follows : (t : Token) → fits (place_due due) t ≡ true → Begins Is (before ++ t ∷ [])
  pub ends : (t : Token) → fits (place_due due) t ≡ false → Begins Is (before ++ t ∷ []) → ⊥
  pub stuck : fits (place_due due) (front after) ≡ false
  pub error : e ≡ refused (place_due due) (front after)

-- this error is that of the first of the text's tokens that can't go on
abbrev pub ToldFault : (X : Type 0) → (List Token → X → Type 0) → List Symbol → List ℕ → SyntaxError
    → Type 0
ToldFault X Is whole text e = (ts : List Token) × TextTokens text ts × IsTold X Is whole ts e
