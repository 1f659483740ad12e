-- The places of tokens in their text.
use Rattle.std.specs.Prelude.{◌≡◌, ◌≤◌, ◌+◌, ◌⊎◌, ℕ, List, [], ◌∷◌, length, take, drop, map}
use Rattle.pb_pddl.specs.declared.token.TokenKind.TheVariants.{End}
use Rattle.pb_pddl.specs.declared.token.Token.{Token}
use Rattle.pb_pddl.specs.Tokens.{lower}

-- Each token except the end is the slice of the source at its place, in lower case, and comes after
-- the one before it.
abbrev pub Spans : ℕ → List ℕ → List Token → Type 0
Spans from source [] = Unit {0}
Spans from source (t ∷ ts) =
    ((t.kind ≡ End)
    ⊎ ((from ≤ t.at) × (t.text ≡ map lower (take (length t.text) (drop t.at source)))
    × Spans (t.at + length t.text) source ts))
