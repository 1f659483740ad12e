-- A text's tokens and what it is read as, each as a function of the text.
use Rattle.std.specs.Prelude.{ℕ, zero, suc, false, if◌then◌else◌, List, [], ◌∷◌, length, drop, Result}
use Rattle.pb_pddl.specs.declared.token.Token.{Token}
use Rattle.pb_pddl.specs.declared.token.Cursor.{Cursor}
use Rattle.pb_pddl.specs.declared.tree.Domain.{Domain}
use Rattle.pb_pddl.specs.declared.tree.Problem.{Problem}
use Rattle.pb_pddl.specs.declared.error.SyntaxError.{SyntaxError}
use Rattle.pb_pddl.specs.Tokens.{gap_len, token_at, is_last, moved, behind, start}
use Rattle.pb_pddl.specs.Reading.{unlimited, domain_at, problem_at}

-- the first token of these bytes, after white space and comments; the cursor is where the bytes
-- begin
abbrev pub first_token : Cursor → List ℕ → Token
first_token h bytes = token_at (moved (gap_len false bytes) h) (drop (gap_len false bytes) bytes)

-- where the next token may begin, and the bytes from there
abbrev pub next_cursor : Cursor → List ℕ → Cursor
next_cursor h bytes = behind (moved (gap_len false bytes) h) (first_token h bytes)

abbrev pub next_bytes : Cursor → List ℕ → List ℕ
next_bytes h bytes = drop (length (first_token h bytes).text) (drop (gap_len false bytes) bytes)

-- the tokens of these bytes up to the first that is Byte, Deep or End, at most this many
unfoldable pub tokens_from : ℕ → Cursor → List ℕ → List Token
tokens_from zero h bytes = []
tokens_from (suc room) h bytes =
    first_token h bytes ∷ (if is_last (first_token h bytes).kind then []
    else tokens_from room (next_cursor h bytes) (next_bytes h bytes))

-- the tokens of a text: one for each byte at most, and the end
unfoldable pub tokens_of : (text : List ℕ) → List Token
tokens_of text = tokens_from (suc (length text)) start text

-- the domain that a text is read as, or the error of its first token that can't go on
unfoldable pub domain_reading : (text : List ℕ) → Result Domain SyntaxError
domain_reading text = domain_at unlimited (tokens_of text)

-- the problem that a text is read as
unfoldable pub problem_reading : (text : List ℕ) → Result Problem SyntaxError
problem_reading text = problem_at unlimited (tokens_of text)
