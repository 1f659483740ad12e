-- What a text is read as.
use Rattle.std.specs.Prelude.{◌≡◌, ◌≢◌, ℕ, List, Result, Ok, Err}
use Rattle.pb_pddl.specs.declared.token.Token.{Token}
use Rattle.pb_pddl.specs.declared.tree.Domain.{Domain}
use Rattle.pb_pddl.specs.declared.tree.Problem.{Problem}
use Rattle.pb_pddl.specs.declared.error.SyntaxError.{SyntaxError}
use Rattle.pb_pddl.specs.declared.error.SyntaxError.TheVariants as errors
use Rattle.pb_pddl.specs.Tokens.{TextTokens}
use Rattle.pb_pddl.specs.Grammar.{IsDomain, IsProblem}
use Rattle.pb_pddl.specs.Places.{IsFault}

-- the text's tokens are those of the grammar, and say this
abbrev pub SpellsDomain : List ℕ → Domain → Type 0
SpellsDomain text domain = (ts : List Token) × TextTokens text ts × IsDomain ts domain

abbrev pub SpellsProblem : List ℕ → Problem → Type 0
SpellsProblem text problem = (ts : List Token) × TextTokens text ts × IsProblem ts problem

-- What reading gives of the text's tokens, unless memory ran out.
abbrev pub IsRead : {X : Type 0} → (List Token → Result X SyntaxError) → List ℕ
    → Result X SyntaxError → Type 0
IsRead reading text (Ok x) = (ts : List Token) × TextTokens text ts × (reading ts ≡ Ok x)
IsRead reading text (Err e) =
    e ≢ errors.Memory → (ts : List Token) × TextTokens text ts × (reading ts ≡ Err e)

-- This error is that of the first of the text's tokens that can't go on.
abbrev pub FirstFault : (X : Type 0) → (List Token → X → Type 0) → List ℕ → SyntaxError → Type 0
FirstFault X Is text e = (ts : List Token) × TextTokens text ts × IsFault X Is ts e
