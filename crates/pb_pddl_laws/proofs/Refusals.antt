-- A token that does not fit, and the error that a reader gives there.
use Rattle.std.proofs.Common.{◌≡◌, ℕ, Bool, true, false, cond, ◌&&◌, List, ◌∷◌, drop, Ok, Err, refl, sym, ap, ◌∙◌}
use Rattle.std.specs.Prelude.{Option, Some, None, if◌then◌else◌}
use Rattle.std.specs.Str.{bytes_eq}
use Rattle.pb_pddl.specs.declared.token.TokenKind.{TokenKind}
use Rattle.pb_pddl.specs.declared.token.TokenKind.TheVariants as kinds
use Rattle.pb_pddl.specs.declared.token.Token.{Token}
use Rattle.pb_pddl.specs.declared.tree.Name.{Name}
use Rattle.pb_pddl.specs.declared.error.SyntaxError.{SyntaxError}
use Rattle.pb_pddl.specs.declared.error.SyntaxError.TheVariants as errors
use Rattle.pb_pddl.specs.declared.error.Want.{Want}
use Rattle.pb_pddl.specs.declared.error.Want.TheVariants as wants
use Rattle.pb_pddl.specs.declared.error.LeftOut.{LeftOut}
use Rattle.pb_pddl.specs.declared.error.LeftOut.TheVariants as left
use Rattle.pb_pddl.specs.Reading.{◌>>=◌, Read, kind_number, same_kind, front, begins, spells, is_reserved, refusal, fault_at, need, need_word, name_of, name_at, begins_head, head_at}
use Rattle.pb_pddl.specs.Places
use Rattle.pb_pddl.specs.Places.{Place, fits, is_kind, is_word, is_head, sample, takes_section, takes_part, first_fit, reserved_head, left_out, wanted, refused_token, refused}
use Rattle.pb_pddl_laws.specs.Table
use Rattle.pb_pddl_laws.specs.Table.{Symbol}
use Rattle.pb_pddl_laws.proofs.Agreeing.{Agrees, TakesOne, takes_test, takes_then, agrees_one, agrees_done}

-- the error of what is left out, or of what must stand
abbrev pub told : Option LeftOut → ℕ → Want → SyntaxError
told missing at want = elim missing [ Some what ↦ errors.LeftOut at what | None ↦ errors.Expected at want ]

head_told : (b : Bool) (at : ℕ) (want : Want) → told (if b then Some left.Head else None) at want ≡ (if b then errors.LeftOut at left.Head else errors.Expected at want)
head_told true at want = refl
head_told false at want = refl

abbrev pub by_kind : Token → SyntaxError → SyntaxError
by_kind t other = elim t.kind [
  | kinds.Byte ↦ errors.Byte t.at
  | kinds.Deep ↦ errors.Deep t.at
  | kinds.End ↦ errors.Unclosed t.at
  | _ ↦ other
]

-- where only a reserved head is left out
pub plain : (place : Place) (t : Token) (want : Want) → refused_token place t ≡ told (left_out place t) t.at (wanted place t) → left_out place t ≡ reserved_head t → wanted place t ≡ want → refused place t ≡ refusal want t
unfolding refused refusal
plain place t want is head wants_it =
    ap (by_kind t) (is ∙ ap (λ (x : Option LeftOut). told x t.at (wanted place t)) head ∙ ap (told (reserved_head t) t.at) wants_it ∙ head_told (t.head && is_reserved t.text) t.at want)

-- two places that leave out the same and want the same
pub told_same : (a b : Place) (t : Token) → refused_token a t ≡ told (left_out a t) t.at (wanted a t) → refused_token b t ≡ told (left_out b t) t.at (wanted b t) → left_out a t ≡ left_out b t → wanted a t ≡ wanted b t → refused a t ≡ refused b t
unfolding refused
told_same a b t is_a is_b lefts wants_same =
    ap (by_kind t) (is_a ∙ ap (λ (x : Option LeftOut). told x t.at (wanted a t)) lefts ∙ ap (told (left_out b t) t.at) wants_same ∙ sym is_b)

-- ---- one token, and what is read of it

pub need_misfit : (kind : TokenKind) (want : Want) (ts : List Token) → same_kind (front ts).kind kind ≡ false → need kind want ts ≡ Err (refusal want (front ts))
unfolding need begins fault_at
need_misfit kind want ts e = ap (λ b. cond b (Ok (drop 1 ts)) (Err (refusal want (front ts)))) e

pub need_fit : (kind : TokenKind) (want : Want) (t : Token) (us : List Token) → same_kind t.kind kind ≡ true → need kind want (t ∷ us) ≡ Ok us
unfolding need begins front
need_fit kind want t us e = ap (λ b. cond b (Ok us) (Err (fault_at want (t ∷ us)))) e

pub head_misfit : (ts : List Token) → is_head (front ts) ≡ false → head_at ts ≡ Err (refusal wants.Name (front ts))
unfolding head_at begins_head begins fault_at
head_misfit ts e = ap (λ b. cond b (Ok (name_of (front ts), drop 1 ts)) (Err (refusal wants.Name (front ts)))) e

-- ---- the refusals of the places of one token

pub open_refused : (t : Token) → refused Places.AnOpen t ≡ refusal wants.Paren t
unfolding refused_token left_out wanted first_fit fits same_kind kind_number
open_refused t = plain Places.AnOpen t wants.Paren refl refl refl

pub close_refused : (t : Token) → refused Places.AClose t ≡ refusal wants.Close t
unfolding refused_token left_out wanted first_fit takes_section takes_part fits same_kind kind_number
close_refused t = plain Places.AClose t wants.Close refl refl refl

pub word_refused : (text : List ℕ) (t : Token) → refused (Places.TheWord text) t ≡ refusal wants.Word t
unfolding refused_token left_out wanted
word_refused text t = plain (Places.TheWord text) t wants.Word refl refl refl

pub name_refused : (t : Token) → refused Places.AName t ≡ refusal wants.Name t
unfolding refused_token left_out wanted first_fit takes_section takes_part fits same_kind kind_number
name_refused t = plain Places.AName t wants.Name refl refl refl

pub head_refused : (t : Token) → refused Places.AHead t ≡ refusal wants.Name t
unfolding refused_token left_out wanted first_fit takes_section takes_part fits same_kind kind_number is_reserved
head_refused t = plain Places.AHead t wants.Name refl refl refl

-- ---- the tokens that stand alone, and what is read behind them

pub take_open : TakesOne (List Token) (need kinds.Open wants.Paren) (λ t us. Ok us) Places.AnOpen
unfolding need begins fault_at fits same_kind kind_number
take_open = takes_test (is_kind kinds.Open) (refusal wants.Paren) (λ t us. us) (λ t. refl) open_refused refl (sample kinds.Open) refl

take_close : TakesOne (List Token) (need kinds.Close wants.Close) (λ t us. Ok us) Places.AClose
unfolding need begins fault_at fits same_kind kind_number
take_close = takes_test (is_kind kinds.Close) (refusal wants.Close) (λ t us. us) (λ t. refl) close_refused refl (sample kinds.Close) refl

take_word : (text : List ℕ) → bytes_eq text text ≡ true → TakesOne (List Token) (need_word text) (λ t us. Ok us) (Places.TheWord text)
unfolding need_word spells begins fault_at fits same_kind kind_number
take_word text same = takes_test (is_word text) (refusal wants.Word) (λ t us. us) (λ t. refl) (word_refused text) refl (record { kind = kinds.Word; text = text; at = 0; head = false }) same

take_name : TakesOne (Name × List Token) (name_at kinds.Word wants.Name) (λ t us. Ok (name_of t, us)) Places.AName
unfolding name_at begins fault_at fits same_kind kind_number
take_name = takes_test (is_kind kinds.Word) (refusal wants.Name) (λ t us. (name_of t, us)) (λ t. refl) name_refused refl (sample kinds.Word) refl

pub take_head : TakesOne (Name × List Token) head_at (λ t us. Ok (name_of t, us)) Places.AHead
unfolding head_at begins_head begins fault_at fits same_kind kind_number is_reserved
take_head = takes_test is_head (refusal wants.Name) (λ t us. (name_of t, us)) (λ t. refl) head_refused refl (sample kinds.Word) refl

module _ {X : Type 0} {rest : X → List Symbol} {symbols : List Symbol} where
  pub agrees_open : {h : List Token → Read X} → Agrees X h rest symbols → Agrees X (λ ts. need kinds.Open wants.Paren ts >>= h) rest (Table.Opening ∷ symbols)
  agrees_open {h} a = agrees_one Table.Opening (λ t. (refl, refl)) (takes_then (λ t. h) take_open) (λ t fit. a)

  pub agrees_close : {h : List Token → Read X} → Agrees X h rest symbols → Agrees X (λ ts. need kinds.Close wants.Close ts >>= h) rest (Table.Closing ∷ symbols)
  agrees_close {h} a = agrees_one Table.Closing (λ t. (refl, refl)) (takes_then (λ t. h) take_close) (λ t fit. a)

  -- a word of this text
  pub agrees_word : {h : List Token → Read X} (text : List ℕ) → bytes_eq text text ≡ true → Agrees X h rest symbols → Agrees X (λ ts. need_word text ts >>= h) rest (Table.ThisWord text ∷ symbols)
  agrees_word {h} text same a = agrees_one (Table.ThisWord text) (λ t. (refl, refl)) (takes_then (λ t. h) (take_word text same)) (λ t fit. a)

  pub agrees_name : (h : Name → List Token → Read X) → ((name : Name) → Agrees X (h name) rest symbols) → Agrees X (λ ts. name_at kinds.Word wants.Name ts >>= λ p. h p.0 p.1) rest (Table.AnyName ∷ symbols)
  agrees_name h a = agrees_one Table.AnyName (λ t. (refl, refl)) (takes_then (λ t p. h p.0 p.1) take_name) (λ t fit. a (name_of t))

  pub agrees_head : (h : Name → List Token → Read X) → ((name : Name) → Agrees X (h name) rest symbols) → Agrees X (λ ts. head_at ts >>= λ p. h p.0 p.1) rest (Table.HeadName ∷ symbols)
  agrees_head h a = agrees_one Table.HeadName (λ t. (refl, refl)) (takes_then (λ t p. h p.0 p.1) take_head) (λ t fit. a (name_of t))

-- a value, behind a )
pub agrees_closed_value : {X : Type 0} {rest : X → List Symbol} (x : X) → Agrees X (λ ts. need kinds.Close wants.Close ts >>= λ us. Ok (x, us)) rest (Table.Closing ∷ rest x)
agrees_closed_value x = agrees_close (agrees_done x)
