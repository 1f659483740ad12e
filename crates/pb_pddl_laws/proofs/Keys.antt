-- Keywords: which one a token is.
use Rattle.std.proofs.Common.{◌≡◌, ℕ, Bool, true, false, not, ◌&&◌, List, refl, sym, ap, ◌∙◌, true≢false}
use Rattle.std.proofs.lemmas.Bool.{and_parts}
use Rattle.std.specs.Str.{bytes_eq}
use Rattle.pb_pddl.specs.declared.token.TokenKind.{TokenKind}
use Rattle.pb_pddl.specs.declared.token.TokenKind.TheVariants as kinds
use Rattle.pb_pddl.specs.declared.token.Token.{Token}
use Rattle.pb_pddl.specs.declared.error.SyntaxError.{SyntaxError}
use Rattle.pb_pddl.specs.declared.error.SyntaxError.TheVariants as errors
use Rattle.pb_pddl.specs.Reading.{same_kind}
use Rattle.pb_pddl.specs.Places.{is_kind, is_key}
use Rattle.pb_pddl_laws.proofs.Singles.{kinds_same}
use Rattle.std.proofs.lemmas.Slice.Eq.{bytes_eq-Decides}

-- a token that is this keyword
abbrev pub key_token : List ℕ → Token → Token
key_token text t = record { kind = kinds.Key; text = text; at = t.at; head = t.head }

pub as_key : (text : List ℕ) (t : Token) → is_key text t ≡ true → t ≡ key_token text t
as_key text t e =
    let a = and_parts (same_kind t.kind kinds.Key) (bytes_eq t.text text) e in
    ap (λ (k : TokenKind). let x : Token = record { kind = k; text = t.text; at = t.at; head = t.head } in x) (kinds_same t.kind kinds.Key a.0)
    ∙ ap (λ (c : List ℕ). let x : Token = record { kind = kinds.Key; text = c; at = t.at; head = t.head } in x) ((bytes_eq-Decides t.text text).0 a.1)

pub no_text : (text : List ℕ) (t : Token) → is_kind kinds.Key t ≡ true → is_key text t ≡ false → bytes_eq t.text text ≡ false
no_text text t key e = ap (λ b. b && bytes_eq t.text text) (sym key) ∙ e

pub not_free : (a b : Bool) → a ≡ true → a && not b ≡ false → b ≡ true
not_free a true e f = refl
not_free a false e f = absurd (true≢false (sym (ap (λ c. c && true) e) ∙ f))

pub free : (a b : Bool) → a && not b ≡ true → (a ≡ true) × (b ≡ false)
free a true e = absurd (true≢false (sym (and_parts a false e).1))
free a false e = ((and_parts a true e).0, refl)

-- the error of a keyword is the place's
pub keyed : (t : Token) (other : SyntaxError) → is_kind kinds.Key t ≡ true
    → (elim t.kind [
      | kinds.Byte ↦ errors.Byte t.at
      | kinds.Deep ↦ errors.Deep t.at
      | kinds.End ↦ errors.Unclosed t.at
      | _ ↦ other
    ]) ≡ other
keyed t other e =
    ap (λ (k : TokenKind). elim k as (λ _. SyntaxError) [
      | kinds.Byte ↦ errors.Byte t.at
      | kinds.Deep ↦ errors.Deep t.at
      | kinds.End ↦ errors.Unclosed t.at
      | _ ↦ other
    ]) (kinds_same t.kind kinds.Key e)
