-- What may come at a place of a form, and why another token is refused there.
use Rattle.std.specs.Prelude.{◌≡◌, ℕ, Bool, true, false, not, ◌&&◌, ◌||◌, if◌then◌else◌, List, [], ◌∷◌, ◌++◌, codes, Option, Some, None, is_some}
use Rattle.std.specs.Str.{bytes_eq}
use Rattle.pb_pddl.specs.declared.token.TokenKind.{TokenKind}
use Rattle.pb_pddl.specs.declared.token.TokenKind.TheVariants as kinds
use Rattle.pb_pddl.specs.declared.token.Token.{Token}
use Rattle.pb_pddl.specs.declared.error.SyntaxError.{SyntaxError}
use Rattle.pb_pddl.specs.declared.error.SyntaxError.TheVariants as errors
use Rattle.pb_pddl.specs.declared.error.Want.{Want}
use Rattle.pb_pddl.specs.declared.error.Want.TheVariants as wants
use Rattle.pb_pddl.specs.declared.error.LeftOut.{LeftOut}
use Rattle.pb_pddl.specs.declared.error.LeftOut.TheVariants as left
use Rattle.pb_pddl.specs.declared.parts.ActionParts.{ActionParts}
use Rattle.pb_pddl.specs.declared.parts.DomainParts.{DomainParts}
use Rattle.pb_pddl.specs.declared.parts.ProblemParts.{ProblemParts}
use Rattle.pb_pddl.specs.Numbers.{is_number}
use Rattle.pb_pddl.specs.Reading.{same_kind, is_reserved, front, stood_all}

-- the places that the grammar has, each with what was said so far if that matters
pub data Place : Type 0 where
  -- a ( or a ) alone
  AnOpen : Place
  AClose : Place
  -- this word: define, domain or problem
  TheWord : List ℕ → Place
  -- this word, whose alternatives are left out: total-cost or minimize
  OnlyWord : List ℕ → LeftOut → Place
  -- NAME; the NAME after a -; the NAME of an ATOM
  AName : Place
  AType : Place
  AHead : Place
  -- NUM
  ANumber : Place
  -- after the ( of a COND, of an EFF, or of an entry of :init
  InCondition : Place
  InEffect : Place
  InFact : Place
  -- after the ( total-cost ) of :functions: a - or the ); and the word number after that -
  MoreFunction : Place
  ANumberType : Place
  -- in an ATOM, with variables allowed or not: another TERM or the )
  MoreTerms : Bool → Place
  -- in a LIST of words or variables, with names waiting for a type or none: another, a -, or the )
  MoreNames : TokenKind → Bool → Place
  -- another KEY, or the )
  MoreKeys : Place
  -- another form, or the )
  MoreForms : Place
  -- the keyword of a PART that did not come yet, or the )
  MoreParts : ActionParts → Place
  -- the keyword of a DSECT or PSECT, after its (
  ADomainSection : DomainParts → Place
  AProblemSection : ProblemParts → Place
  -- another PSECT, or the ) if :domain and :goal came before
  MoreSections : ProblemParts → Place
  -- the end of the text
  TheEnd : Place

abbrev pub is_kind : TokenKind → Token → Bool
is_kind kind t = same_kind t.kind kind

abbrev pub is_word : List ℕ → Token → Bool
is_word text t = same_kind t.kind kinds.Word && bytes_eq t.text text

abbrev pub is_key : List ℕ → Token → Bool
is_key text t = same_kind t.kind kinds.Key && bytes_eq t.text text

-- the = of :init
abbrev pub is_equals : Token → Bool
is_equals t = same_kind t.kind kinds.Equals && bytes_eq t.text (codes "=")

-- a word that is a NUM
abbrev pub is_numeral : Token → Bool
is_numeral t = same_kind t.kind kinds.Word && is_number t.text

-- a word that may be an ATOM's
abbrev pub is_head : Token → Bool
is_head t = same_kind t.kind kinds.Word && not (is_reserved t.text)

-- the keyword of a part that did not come yet
abbrev pub fits_part : ActionParts → Token → Bool
fits_part said t =
    is_key (codes ":parameters") t && not (is_some said.params)
    || is_key (codes ":precondition") t && not (is_some said.pre)
    || is_key (codes ":effect") t && not (is_some said.effect)

-- the keyword of a section that may come here
abbrev pub fits_domain : DomainParts → Token → Bool
fits_domain said t =
    is_key (codes ":requirements") t && not said.requirements
    || is_key (codes ":types") t && not (is_some said.types)
    || is_key (codes ":constants") t && not (is_some said.constants)
    || is_key (codes ":predicates") t && not (is_some said.predicates)
    || is_key (codes ":functions") t && not said.functions
    || is_key (codes ":action") t

abbrev pub fits_problem : ProblemParts → Token → Bool
fits_problem said t =
    is_key (codes ":domain") t && not (is_some said.domain)
    || is_key (codes ":requirements") t && not said.requirements
    || is_key (codes ":objects") t && not (is_some said.objects)
    || is_key (codes ":init") t && not (is_some said.init)
    || is_key (codes ":goal") t && not (is_some said.goal)
    || is_key (codes ":metric") t && not (is_some said.metric)

-- the grammar goes on with this token
unfoldable pub fits : Place → Token → Bool
fits AnOpen t = is_kind kinds.Open t
fits AClose t = is_kind kinds.Close t
fits (TheWord text) t = is_word text t
fits (OnlyWord text what) t = is_word text t
fits AName t = is_kind kinds.Word t
fits AType t = is_kind kinds.Word t
fits AHead t = is_head t
fits ANumber t = is_numeral t
fits InCondition t = is_kind kinds.Close t || is_word (codes "and") t || is_head t
fits InEffect t =
    is_kind kinds.Close t || is_word (codes "and") t || is_word (codes "not") t
    || is_word (codes "increase") t || is_head t
fits InFact t = is_equals t || is_head t
fits MoreFunction t = is_kind kinds.Dash t || is_kind kinds.Close t
fits ANumberType t = is_word (codes "number") t
fits (MoreTerms variables) t =
    is_kind kinds.Word t || variables && is_kind kinds.Variable t || is_kind kinds.Close t
fits (MoreNames kind some) t =
    is_kind kind t || some && is_kind kinds.Dash t || is_kind kinds.Close t
fits MoreKeys t = is_kind kinds.Key t || is_kind kinds.Close t
fits MoreForms t = is_kind kinds.Open t || is_kind kinds.Close t
fits (MoreParts said) t = fits_part said t || is_kind kinds.Close t
fits (ADomainSection said) t = fits_domain said t
fits (AProblemSection said) t = fits_problem said t
fits (MoreSections said) t =
    is_kind kinds.Open t && not (stood_all said) || is_kind kinds.Close t && is_some said.domain
    && is_some said.goal
fits TheEnd t = is_kind kinds.End t

-- ---- the first that fits

-- a token of this kind, by which it is seen whether one of this kind fits
abbrev pub sample : TokenKind → Token
sample kind = record { kind = kind; text = codes "a"; at = 0; head = false }

-- the keyword of a section must come here
unfoldable pub takes_section : Place → Bool
takes_section (ADomainSection said) = true
takes_section (AProblemSection said) = true
takes_section place = false

-- the keyword of a part may come here
unfoldable pub takes_part : Place → Bool
takes_part (MoreParts said) = not (is_some said.params && is_some said.pre && is_some said.effect)
takes_part place = false

-- of Paren, Section, Part, Name, Variable and Close, in this order, the first of which a token fits
unfoldable pub first_fit : Place → Want
first_fit place =
    if fits place (sample kinds.Open) then wants.Paren
    else if takes_section place then wants.Section
    else if takes_part place then wants.Part
    else if fits place (sample kinds.Word) then wants.Name
    else if fits place (sample kinds.Variable) then wants.Variable
    else wants.Close

-- ---- why a token is refused

-- a reserved head directly after a (
abbrev pub reserved_head : Token → Option LeftOut
reserved_head t = if t.head && is_reserved t.text then Some left.Head else None

abbrev pub is_part_key : List ℕ → Bool
is_part_key text =
    bytes_eq text (codes ":parameters") || bytes_eq text (codes ":precondition")
    || bytes_eq text (codes ":effect")

abbrev pub is_domain_key : List ℕ → Bool
is_domain_key text =
    bytes_eq text (codes ":requirements") || bytes_eq text (codes ":types")
    || bytes_eq text (codes ":constants") || bytes_eq text (codes ":predicates")
    || bytes_eq text (codes ":functions") || bytes_eq text (codes ":action")

abbrev pub is_problem_key : List ℕ → Bool
is_problem_key text =
    bytes_eq text (codes ":domain") || bytes_eq text (codes ":requirements")
    || bytes_eq text (codes ":objects") || bytes_eq text (codes ":init")
    || bytes_eq text (codes ":goal")
    || bytes_eq text (codes ":metric")

-- a keyword that is none of those that there are
abbrev pub other_key : Bool → LeftOut → Option LeftOut
other_key known what = if known then None else Some what

-- a word that is no reserved head
abbrev pub other_word : LeftOut → Token → Option LeftOut
other_word what t =
    if is_kind kinds.Word t && not (t.head && is_reserved t.text) then Some what
    else reserved_head t

-- what of the language is left out here
unfoldable pub left_out : Place → Token → Option LeftOut
left_out (OnlyWord text what) t = other_word what t
left_out AType t = if is_kind kinds.Open t then Some left.Either else reserved_head t
left_out ANumberType t = if is_kind kinds.Open t then Some left.Either else reserved_head t
left_out ANumber t = if is_kind kinds.Open t then Some left.Function else reserved_head t
left_out (MoreParts said) t =
    if is_kind kinds.Key t then other_key (is_part_key t.text) left.Part else reserved_head t
left_out (ADomainSection said) t =
    if is_kind kinds.Key t then other_key (is_domain_key t.text) left.Section else reserved_head t
left_out (AProblemSection said) t =
    if is_kind kinds.Key t then other_key (is_problem_key t.text) left.Section else reserved_head t
left_out (MoreSections said) t = if is_kind kinds.Close t then None else reserved_head t
left_out place t = reserved_head t

-- what must come here in place of this token
unfoldable pub wanted : Place → Token → Want
wanted (TheWord text) t = wants.Word
wanted (OnlyWord text what) t = wants.Word
wanted AType t = wants.TypeName
wanted ANumberType t = wants.TypeName
wanted ANumber t = wants.Number
wanted (MoreNames kind some) t =
    if is_kind kinds.Dash t then wants.Group else first_fit (MoreNames kind some)
wanted (MoreParts said) t = if is_kind kinds.Key t then wants.Once else first_fit (MoreParts said)
wanted (ADomainSection said) t =
    if is_kind kinds.Key t then wants.Once else first_fit (ADomainSection said)
wanted (AProblemSection said) t =
    if is_kind kinds.Key t then wants.Once else first_fit (AProblemSection said)
wanted (MoreSections said) t =
    if is_kind kinds.Close t then wants.Missing else first_fit (MoreSections said)
wanted place t = first_fit place

unfoldable pub refused_token : Place → Token → SyntaxError
refused_token TheEnd t = errors.Extra t.at
refused_token place t =
    elim (left_out place t) [
      | Some what ↦ errors.LeftOut t.at what
      | None ↦ errors.Expected t.at
          (wanted place t)
    ]

-- the error of a token that does not fit, the first of the list
unfoldable pub refused : Place → Token → SyntaxError
refused place t =
    elim t.kind [
      | kinds.Byte ↦ errors.Byte t.at
      | kinds.Deep ↦ errors.Deep t.at
      | kinds.End ↦ errors.Unclosed t.at
      | _ ↦ refused_token place t
    ]

-- ---- the first token that can't go on

-- these tokens are the beginning of a form
abbrev pub Begins : {X : Type 0} → (List Token → X → Type 0) → List Token → Type 0
Begins {X} Is ts = (more : List Token) × (x : X) × Is (ts ++ more) x

-- The tokens before are the beginning of a form. The place says which tokens may follow them, and
-- which may not. The next token is none of these, and the error is the place's.
pub record IsFault (X : Type 0) (Is : List Token → X → Type 0) (ts : List Token) (e : SyntaxError) :
    Type 0 where
  pub before : List Token
  pub after : List Token
  pub place : Place
  pub split : ts ≡ before ++ after
  pub begins : Begins Is before
  pub follows : (t : Token) → fits place t ≡ true → Begins Is (before ++ t ∷ [])
  pub ends : (t : Token) → fits place t ≡ false → Begins Is (before ++ t ∷ []) → ⊥
  pub stuck : fits place (front after) ≡ false
  pub error : e ≡ refused place (front after)
