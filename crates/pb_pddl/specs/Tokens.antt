-- The tokens of a text.
use Rattle.std.specs.Prelude.{◌≡◌, ℕ, suc, ◌+◌, ◌-◌, Bool, true, false, ◌&&◌, ◌||◌, ◌==◌, nat_le, if◌then◌else◌, List, [], ◌∷◌, ◌++◌, length, take, drop, map, slice_index, Option, Some, None}
use Rattle.pb_pddl.specs.declared.token.TokenKind.{TokenKind}
use Rattle.pb_pddl.specs.declared.token.TokenKind.TheVariants.{Open, Close, Equals, Dash, Word, Variable, Key, Deep, Byte, End}
use Rattle.pb_pddl.specs.declared.token.Token.{Token}
use Rattle.pb_pddl.specs.declared.token.Cursor.{Cursor}

-- space, tab, CR, LF, form feed
unfoldable pub is_white : ℕ → Bool
is_white b = b == 32 || b == 9 || b == 13 || b == 10 || b == 12

abbrev pub is_between : ℕ → ℕ → ℕ → Bool
is_between low high b = nat_le low b && nat_le b high

-- an ASCII letter or a digit
unfoldable pub begins_word : ℕ → Bool
begins_word b = is_between 97 122 b || is_between 65 90 b || is_between 48 57 b

unfoldable pub goes_on_word : ℕ → Bool
goes_on_word b = begins_word b || b == 45 || b == 95

unfoldable pub lower : ℕ → ℕ
lower b = if is_between 65 90 b then b + 32 else b

-- after a byte of white space or of a comment, whether a comment goes on; None for any other byte.
-- A comment ends with its line
unfoldable pub gap_next : Bool → ℕ → Option Bool
gap_next true b = Some (if b == 10 then false else true)
gap_next false b = if b == 59 then Some true else if is_white b then Some false else None

-- how many bytes of white space and comments come first; in a comment, or not
unfoldable pub gap_len : Bool → List ℕ → ℕ
gap_len comment [] = 0
gap_len comment (b ∷ bs) =
    elim (gap_next comment b) [ None ↦ 0 | Some next ↦ suc (gap_len next bs) ]

-- how many bytes that go on with a word come first
unfoldable pub run_len : List ℕ → ℕ
run_len [] = 0
run_len (b ∷ bs) = if goes_on_word b then suc (run_len bs) else 0

-- the kind of the token that begins with this byte, given whether a word begins after it
unfoldable pub kind_of : ℕ → Bool → TokenKind
kind_of b word =
    if b == 40 then Open
    else if b == 41 then Close
    else if b == 61 then Equals
    else if b == 45 then Dash
    else if begins_word b then Word
    else if b == 63 && word then Variable
    else if b == 58 && word then Key
    else Byte

-- a text begins with a word
unfoldable pub word_first : List ℕ → Bool
word_first [] = false
word_first (b ∷ bs) = begins_word b

-- a ( inside 32 others is Deep
unfoldable pub kind_inside : ℕ → TokenKind → TokenKind
kind_inside n Open = if nat_le 32 n then Deep else Open
kind_inside n k = k

-- the length of a token, by its kind and the bytes after its first
unfoldable pub len_of : TokenKind → List ℕ → ℕ
len_of Word bs = suc (run_len bs)
len_of Variable bs = suc (run_len bs)
len_of Key bs = suc (run_len bs)
len_of k bs = 1

-- nothing comes after a token of this kind
unfoldable pub is_last : TokenKind → Bool
is_last Deep = true
is_last Byte = true
is_last End = true
is_last k = false

-- the innermost ( that is open, or the text's length, which is the place of its end
unfoldable pub unclosed : Cursor → ℕ
unclosed h = if length h.nest == 0 then h.at else slice_index h.nest (length h.nest - 1)

-- the token that these bytes begin with, at this place, after all white space
unfoldable pub token_at : Cursor → List ℕ → Token
token_at h [] = record { kind = End; text = []; at = unclosed h; head = h.head }
token_at h (b ∷ bs) =
    let kind = kind_inside (length h.nest) (kind_of b (word_first bs)) in
    record {
      kind = kind;
      text = map lower (take (len_of kind bs) (b ∷ bs));
      at = h.at;
      head = h.head;
    }

-- the open parentheses after a token
unfoldable pub opened : Cursor → TokenKind → List ℕ
opened h Open = h.nest ++ h.at ∷ []
opened h Close = take (length h.nest - 1) h.nest
opened h k = h.nest

unfoldable pub is_open : TokenKind → Bool
is_open Open = true
is_open k = false

abbrev pub moved : ℕ → Cursor → Cursor
moved n h = record { at = h.at + n; nest = h.nest; head = h.head }

-- where the token after this one may begin
abbrev pub behind : Cursor → Token → Cursor
behind h t = record { at = h.at + length t.text; nest = opened h t.kind; head = is_open t.kind }

-- The tokens of these bytes, from this place on: each is the longest at its place, and the last is
-- the first that is Byte, Deep or End.
unfoldable pub AreTokens : Cursor → List ℕ → List Token → Type 0
AreTokens h bytes [] = ⊥
AreTokens h bytes (t ∷ ts) =
    let gap = gap_len false bytes in
    let here = moved gap h in
    let rest = drop gap bytes in
    (t ≡ token_at here rest)
    × (is_last t.kind ≡ true → ts ≡ [])
    × (is_last t.kind ≡ false → AreTokens (behind here t) (drop (length t.text) rest) ts)

abbrev pub start : Cursor
start = record { at = 0; nest = []; head = false }

-- the text has these tokens
abbrev pub TextTokens : List ℕ → List Token → Type 0
TextTokens text ts = AreTokens start text ts
