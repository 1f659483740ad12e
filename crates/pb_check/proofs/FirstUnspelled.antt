-- The line in which a text stops being a certificate's is the first with which none goes on.
use Rattle.std.proofs.Common.{◌≡◌, inl, ℕ, zero, suc, ◌+◌, ◌^◌, ◌<◌, ◌≤◌, Bool, true, false, not, cond, eqb, leb, ◌&&◌, Option, None, Some, List, [], ◌∷◌, ◌++◌, length, Result, Ok, Err, refl, sym, ap, ◌∙◌, subst, arith, append_assoc, length-append, lit<}
use Rattle.std.proofs.Math.Nat.{one-le-pow}
use Rattle.std.specs.Prelude.{codes}
use Rattle.std.specs.Fmt.{decimal}
use Rattle.std.proofs.lemmas.Bool.{and_parts}
use Rattle.std.proofs.lemmas.Bool.Decides.{nat_tests}
use Rattle.pb_packed.specs.Sizes.{version_1_digits, most_digits}
use Rattle.pb_model.specs.Weight.{Weight}
use Rattle.pb_model.specs.Plan.{Plan}
use Rattle.pb_model.specs.Certificate.{Line}
use Rattle.pb_model.specs.Texts as texts
use Rattle.pb_task.specs.declared.kind.Kind.{Kind}
use Rattle.pb_task.specs.declared.kind.Kind.TheVariants.{Grid, Tiles, Strips}
use Rattle.pb_task.specs.declared.grounding.Grounding.TheVariants.{All, Reachable}
use Rattle.pb_estimate.specs.Choices.{Plain, Pattern}
use Rattle.pb_estimate.specs.declared.spelling.Spelling.{Spelling}
use Rattle.pb_estimate.specs.declared.spelling.Version.{Version}
use Rattle.pb_estimate.specs.declared.spelling.Version.TheVariants.{One, Two, Three, Four}
use Rattle.pb_estimate.specs.Spelling.{IsVersionFor, version_line, kind_line, width_text, grounding_line, stated_text, head_lines}
use Rattle.pb_lines.specs.Words.{part, behind, is_text, number_of, has_none, line_feeds}
use Rattle.pb_lines.proofs.Callers.{part_is, part_none, no_feed, none_both, number_word, number_none, text_again}
use Rattle.pb_table_lines.proofs.Callers.{feeds_both, feeds_cons}
use Rattle.pb_check.specs.declared.fault.CertificateFault.{CertificateFault}
use Rattle.pb_check.specs.declared.fault.CertificateFault.TheVariants.{Syntax}
use Rattle.pb_check.specs.Faults.{◌>>=◌, wanted}
use Rattle.pb_check.specs.Words.{state_of}
use Rattle.pb_check.specs.Reading.{line_at, number_behind, version_in, kind_in, kind_for, width_in, grounding_in, weight_in, closed_in, row_in, fixed_at, number_at, version_at, kind_at, width_line_at, width_at, grounding_at, estimate_at, stated_at, head_at, weight_at, row_at, actions_at, rows_at, steps_at, plan_at, plan_lines, weight_line, Text, end_at, body_at, text_of}
use Rattle.pb_check.specs.Spelling.{IsSpelled}
use Rattle.pb_check.specs.Cases.{IsSyntaxFault}
use Rattle.pb_check.proofs.Cuts.{after_unnamed, lines_chosen, lines_stated, stated_lines, width_then, kind_then, lines_of, later_lines, text_with, one_more}
use Rattle.pb_check.proofs.Lines.{spelling_with, IsWeightLine}
use Rattle.pb_check.proofs.Readable.{behind_number_word_read, version_again, version_none, kind_said_again, kind_none, width_words, width_again, width_none, grounding_again, grounding_none, weight_again, weight_none, row_again, row_none}
use Rattle.pb_check.proofs.Written.{line_of_row, read_as_spelled, read_of}
use Rattle.pb_check.proofs.ChoiceReader.{at_number, estimate_reader, no_feeds}
use Rattle.pb_check.proofs.FirstLines.{named, IsReader, IsLastReader, IsAt, Stops, IsWhole, given, at_ok, at_wanted, at_next, at_either, same_reader, same_last, line_reader, pair_reader, then_reader, named_reader, then_last, named_last}

-- ---- what a line says is a fault of that line, or none

at_test : {A : Type 0} (line : ℕ) (b : Bool) (x : A) → IsAt line (cond b (Ok x) (Err (Syntax line)))
at_test line true x fault e = absurd cc
at_test {A} line false x fault e = same (Syntax line) fault e
  where
    same : (d f : CertificateFault) → ◌≡◌ {A = Result A CertificateFault} (Err d) (Err f) → f ≡ d
    same d f e = cc

at_version : (line : ℕ) (text : List ℕ) → IsAt line (version_in line text)
unfolding version_in
at_version line text =
    at_either line (is_text (version_line One) text) (Ok One)
    (cond (is_text (version_line Two) text) (Ok Two)
    (cond (is_text (version_line Three) text) (Ok Three)
    (cond (is_text (version_line Four) text) (Ok Four) (Err (Syntax line))))) (at_ok line One)
    (at_either line (is_text (version_line Two) text) (Ok Two)
    (cond (is_text (version_line Three) text) (Ok Three)
    (cond (is_text (version_line Four) text) (Ok Four) (Err (Syntax line)))) (at_ok line Two)
    (at_either line (is_text (version_line Three) text) (Ok Three)
    (cond (is_text (version_line Four) text) (Ok Four) (Err (Syntax line))) (at_ok line Three)
    (at_test line (is_text (version_line Four) text) Four)))

at_width : (line : ℕ) (text : List ℕ) → IsAt line (width_in line text)
unfolding width_in
at_width line text =
    at_next line (number_behind line (codes "width ") text) _ (at_number line (codes "width ") text)
    (λ width. at_test line (leb 1 width && leb width most_digits) width)

at_kind : (line : ℕ) (text : List ℕ) → IsAt line (kind_in line text)
unfolding kind_in
at_kind line text =
    at_either line (is_text (kind_line Grid) text) (Ok Grid)
    (cond (is_text (kind_line Tiles) text) (Ok Tiles)
    (cond (is_text (kind_line Strips) text) (Ok Strips) (Err (Syntax line)))) (at_ok line Grid)
    (at_either line (is_text (kind_line Tiles) text) (Ok Tiles)
    (cond (is_text (kind_line Strips) text) (Ok Strips) (Err (Syntax line))) (at_ok line Tiles)
    (at_test line (is_text (kind_line Strips) text) Strips))

at_fit : (version : Version) (line : ℕ) (kind : Kind) → IsAt line (kind_for version line kind)
at_fit One line kind = at_ok line kind
at_fit Two line kind = at_ok line kind
at_fit Three line kind = at_ok line kind
at_fit Four line Grid = at_test line false Grid
at_fit Four line Tiles = at_test line false Tiles
at_fit Four line Strips = at_ok line Strips

at_grounding : (line : ℕ) (text : List ℕ) → IsAt line (grounding_in line text)
unfolding grounding_in
at_grounding line text =
    at_either line (is_text (grounding_line All) text) (Ok All)
    (cond (is_text (grounding_line Reachable) text) (Ok Reachable) (Err (Syntax line)))
    (at_ok line All) (at_test line (is_text (grounding_line Reachable) text) Reachable)

at_closed : (line : ℕ) (text : List ℕ) → IsAt line (closed_in line text)
unfolding closed_in
at_closed line text =
    at_either line (is_text (codes "closed") text) (Ok true)
    (cond (is_text (codes "cut") text) (Ok false) (Err (Syntax line))) (at_ok line true)
    (at_test line (is_text (codes "cut") text) false)

at_weight : (line : ℕ) (text : List ℕ) → IsAt line (weight_in line text)
unfolding weight_in
at_weight line text =
    at_next line (wanted line (behind (codes "weight ") text)) _
    (at_wanted line (behind (codes "weight ") text)) (λ words.
    at_next line (wanted line (part 32 words)) _ (at_wanted line (part 32 words)) (λ parts.
    at_next line (wanted line (number_of parts.0)) _ (at_wanted line (number_of parts.0)) (λ num.
    at_next line (wanted line (number_of parts.1)) _ (at_wanted line (number_of parts.1)) (λ den.
    at_ok line (record { num = num; den = den })))))

at_row : (width line : ℕ) (text : List ℕ) → IsAt line (row_in width line text)
unfolding row_in
at_row width line text =
    at_next line (wanted line (part 32 text)) _ (at_wanted line (part 32 text)) (λ front.
    at_next line (wanted line (part 32 front.1)) _ (at_wanted line (part 32 front.1)) (λ back.
    at_next line (wanted line (state_of width front.0)) _ (at_wanted line (state_of width front.0)) (λ state.
    at_next line (wanted line (number_of back.0)) _ (at_wanted line (number_of back.0)) (λ g.
    at_next line (closed_in line back.1) _ (at_closed line back.1) (λ is_closed.
    at_ok line (record { state = state; g = g; is_closed = is_closed }))))))

-- ---- readers of lines

word_reader : {A : Type 0} (line : ℕ) (words : List ℕ → Result A CertificateFault)
    → ((word : List ℕ) → IsAt line (words word))
    → (sample : List ℕ) (said : A) → has_none 10 sample ≡ true → words sample ≡ Ok said
    → IsReader (λ x. 1) line
    (λ text. line_at line text >>= λ first. words first.0 >>= λ x. Ok (x, first.1))
word_reader line words only sample said none is =
    line_reader (λ x. 1) (λ x. 0) line words (λ x text. Ok (x, text)) (λ x. refl) only sample said
    none is (λ x. given (λ x. 0) (line + 1) x refl)

nought : (line : ℕ) (piece : List ℕ) → has_none 10 piece ≡ true
    → (has_none 10 (piece ++ decimal 0) ≡ true)
    × (number_behind line piece (piece ++ decimal 0) ≡ Ok 0)
nought line piece none = (
  none_both 10 piece (decimal 0) none (number_none 10 0 (omega arith) (omega arith)),
  behind_number_word_read line piece (decimal 0) 0 (number_word (decimal 0) 0 refl (omega arith)),
)

number_reader : (line : ℕ) (piece : List ℕ) → has_none 10 piece ≡ true
    → IsReader (λ n. 1) line (number_at line piece)
unfolding number_at
number_reader line piece none =
    let zero = nought line piece none in
    word_reader line (number_behind line piece) (at_number line piece) (piece ++ decimal 0) 0
    zero.0 zero.1

version_reader : (line : ℕ) → IsReader (λ version. 1) line (version_at line)
unfolding version_at
version_reader line =
    word_reader line (version_in line) (at_version line) (version_line One) One (version_none One)
    (version_again line One)

width_line_reader : (line : ℕ) → IsReader (λ width. 1) line (width_line_at line)
unfolding width_line_at
width_line_reader line =
    word_reader line (width_in line) (at_width line) (width_words 1) 1
    (width_none 1 (omega arith, omega arith)) (width_again line 1 (omega arith, omega arith))

width_reader : (version : Version) (line : ℕ)
    → IsReader (λ width. length (width_text version width)) line (width_at version line)
unfolding width_at
width_reader One line =
    given (λ width. length (width_text One width)) line version_1_digits refl
width_reader Two line = width_line_reader line
width_reader Three line = width_line_reader line
width_reader Four line = width_line_reader line

-- each version is for STRIPS
strips_fits : (version : Version) → IsVersionFor version Strips
strips_fits One = tt
strips_fits Two = tt
strips_fits Three = tt
strips_fits Four = refl

kind_reader : (version : Version) (line : ℕ) → IsReader (λ kind. 1) line (kind_at version line)
unfolding kind_at
kind_reader version line =
    word_reader line (λ text. kind_in line text >>= kind_for version line)
    (λ text. at_next line (kind_in line text) (kind_for version line) (at_kind line text)
    (at_fit version line)) (kind_line Strips) Strips (kind_none Strips)
    (kind_said_again version line Strips (strips_fits version))

grounding_reader : (line : ℕ) → IsReader (λ grounding. 1) line (grounding_at line)
unfolding grounding_at
grounding_reader line =
    word_reader line (grounding_in line) (at_grounding line) (grounding_line All) All
    (grounding_none All) (grounding_again line All)

stated_reader : (version : Version) (width line : ℕ)
    → IsReader (lines_stated version width) line (stated_at version width line)
unfolding stated_at
stated_reader One width line = given (lines_stated One width) line
    (record { grounding = All; choice = Plain }) refl
stated_reader Two width line = given (lines_stated Two width) line
    (record { grounding = All; choice = Plain }) refl
stated_reader Three width line =
    named_reader (λ n. 1) (lines_stated Three width)
    (λ n. record { grounding = All; choice = Pattern n }) (λ n. refl) line
    (number_at line (codes "pattern ")) (number_reader line (codes "pattern ") refl)
stated_reader Four width line =
    then_reader (λ grounding. 1) (lines_chosen width) (lines_stated Four width)
    (λ grounding choice. record { grounding = grounding; choice = choice })
    (λ grounding choice. omega arith) line (grounding_at line)
    (λ grounding text. estimate_at width (line + 1) text) (grounding_reader line)
    (λ grounding. estimate_reader width (line + 1))

weight_reader : (line : ℕ) → IsReader (λ weight. 1) line (weight_at line)
unfolding weight_at
weight_reader line =
    word_reader line (weight_in line) (at_weight line) text one (weight_none text one is)
    (weight_again line text one is)
  where
    one : Weight
    one = record { num = 1; den = 1 }

    text : List ℕ
    text = codes "weight " ++ (decimal 1 ++ 32 ∷ decimal 1)

    is : IsWeightLine text one
    is = record {
      num = decimal 1;
      den = decimal 1;
      line_is = refl;
      num_is = number_word (decimal 1) 1 refl (omega arith);
      den_is = number_word (decimal 1) 1 refl (omega arith);
    }

row_reader : (width line : ℕ) → IsReader (λ row. 1) line (row_at width line)
unfolding row_at
row_reader width line =
    let row : Line = record { state = 0; g = 0; is_closed = true } in
    let text : List ℕ = texts.line_text width row in
    let some : 1 ≤ 16 ^ width = one-le-pow width 16 (lit< tt) in
    let is = line_of_row width row (omega (arith, some), omega arith) in
    word_reader line (row_in width line) (at_row width line) text row (row_none width text row is)
    (row_again width line text row is)

-- a line that is given
abbrev fixed_line : (line : ℕ) → (piece : List ℕ) → List ℕ → Result (Bool × List ℕ) CertificateFault
fixed_line line piece text =
    line_at line text
    >>= λ first. cond (is_text piece first.0) (Ok true) (Err (Syntax line))
    >>= λ b. Ok (b, first.1)

fixed_reader : (line : ℕ) (piece : List ℕ) → has_none 10 piece ≡ true
    → IsReader (λ b. 1) line (fixed_line line piece)
fixed_reader line piece none =
    word_reader line (λ first. cond (is_text piece first) (Ok true) (Err (Syntax line)))
    (λ first. at_test line (is_text piece first) true) piece true none
    (ap (λ b. cond b (Ok true) (Err (Syntax line))) (text_again piece))

fixed_is : {A : Type 0} (line : ℕ) (piece text : List ℕ) (next : List ℕ → Result A CertificateFault)
    → (fixed_at line piece text >>= next) ≡ (fixed_line line piece text >>= λ x. next x.1)
unfolding fixed_at
fixed_is {A} line piece text next = go (line_at line text)
  where
    paired : List ℕ → Bool → Result (Bool × List ℕ) CertificateFault
    paired rest b = Ok (b, rest)

    said : List ℕ × List ℕ → Result (Bool × List ℕ) CertificateFault
    said first =
        cond (is_text piece first.0) (Ok true) (Err (Syntax line)) >>= paired first.1

    test : (b : Bool) (rest : List ℕ)
        → (cond b (Ok rest) (Err (Syntax line)) >>= next)
        ≡ ((cond {A = Result Bool CertificateFault} b (Ok true) (Err (Syntax line)) >>= paired rest) >>= λ x. next x.1)
    test true rest = refl
    test false rest = refl

    go : (r : Result (List ℕ × List ℕ) CertificateFault)
        → ((r >>= λ first. cond (is_text piece first.0) (Ok first.1) (Err (Syntax line))) >>= next)
        ≡ ((r >>= said) >>= λ x. next x.1)
    go (Ok first) = test (is_text piece first.0) first.1
    go (Err fault) = refl

-- ---- the head

-- one thing, and then all others together
tail_reader : {A C : Type 0} (n : A → ℕ) (m lines : C → ℕ)
    → ((x : A) (z : C) → lines z ≡ n x + m z)
    → (line : ℕ) (read : List ℕ → Result (A × List ℕ) CertificateFault)
    (next : A → List ℕ → Result (C × List ℕ) CertificateFault)
    → IsReader n line read → ((x : A) → IsReader m (line + n x) (next x))
    → IsReader lines line (λ text. read text >>= λ x. next x.0 x.1)
tail_reader {A} {C} n m lines count line read next one two =
    same_reader lines line (λ text. read text >>= λ x. next x.0 x.1)
    (λ text. read text >>= λ x. next x.0 x.1 >>= named (λ y. y))
    (λ text. after_unnamed (read text) next)
    (then_reader n m lines (λ x z. z) count line read next one two)

width_then_reader : (version : Version) (kind : Kind)
    → IsReader stated_lines 3 (width_then version kind)
width_then_reader version kind =
    pair_reader (λ width. length (width_text version width))
    (lines_stated version) stated_lines (spelling_with version kind)
    (λ width stated. length-append (width_text version width)
    (stated_text version width stated)) 3 (width_at version 3)
    (λ width text. stated_at version width (3 + length (width_text version width)) text)
    (width_reader version 3)
    (λ width. stated_reader version width (3 + length (width_text version width)))

kind_then_reader : (version : Version)
    → IsReader (λ (spelling : Spelling). 1 + stated_lines spelling) 2 (kind_then version)
kind_then_reader version =
    tail_reader (λ kind. 1) stated_lines (λ (spelling : Spelling). 1 + stated_lines spelling)
    (λ kind spelling. refl) 2 (kind_at version 2) (width_then version) (kind_reader version 2)
    (λ kind. width_then_reader version kind)

head_reader : IsReader head_lines 1 head_at
unfolding head_at
head_reader =
    tail_reader (λ version. 1) (λ (spelling : Spelling). 1 + stated_lines spelling) head_lines
    (λ version spelling. omega arith) 1 (version_at 1) kind_then (version_reader 1)
    kind_then_reader

-- ---- the plan and the rows

actions_reader : (count line : ℕ)
    → IsReader (λ actions. length actions) line (actions_at count line)
unfolding actions_at
actions_reader zero line = given (λ actions. length actions) line [] refl
actions_reader (suc count) line =
    then_reader (λ action. 1) (λ actions. length actions) (λ actions. length actions)
    (λ action actions. action ∷ actions) one_more
    line (number_at line []) (λ action text. actions_at count (line + 1) text)
    (number_reader line [] refl) (λ action. actions_reader count (line + 1))

rows_reader : (width count line : ℕ)
    → IsReader (λ rows. length rows) line (rows_at width count line)
unfolding rows_at
rows_reader width zero line = given (λ rows. length rows) line [] refl
rows_reader width (suc count) line =
    then_reader (λ row. 1) (λ rows. length rows) (λ rows. length rows)
    (λ row rows. row ∷ rows) one_more
    line (row_at width line) (λ row text. rows_at width count (line + 1) text)
    (row_reader width line) (λ row. rows_reader width count (line + 1))

steps_reader : (count line : ℕ) → IsReader lines_of line (steps_at count line)
unfolding steps_at
steps_reader count line =
    then_reader (λ actions. length actions) (λ cost. 1) lines_of
    (λ actions cost. record { actions = actions; cost = cost }) (λ actions cost. refl)
    line (actions_at count line) (λ actions text. number_at (line + length actions)
    (codes "cost ") text)
    (actions_reader count line)
    (λ actions. number_reader (line + length actions) (codes "cost ") refl)

-- a plan's first line says how many steps it has, if there is a plan
abbrev plan_words : (line : ℕ) → List ℕ → Result (Option ℕ) CertificateFault
plan_words line first =
    cond (is_text (codes "none") first) (Ok None)
    (number_behind line (codes "plan ") first >>= λ count. Ok (Some count))

abbrev plan_later : (line : ℕ) → Option ℕ → List ℕ → Result (Option Plan × List ℕ) CertificateFault
plan_later line None text = Ok (None, text)
plan_later line (Some count) text =
    steps_at count (line + 1) text >>= λ plan. Ok (Some plan.0, plan.1)

plan_reader : (line : ℕ) → IsReader plan_lines line (plan_at line)
unfolding plan_at
plan_reader line =
    same_reader plan_lines line (plan_at line)
    (λ text. line_at line text
    >>= λ first. plan_words line first.0 >>= λ count. plan_later line count first.1)
    (λ text. same (line_at line text))
    (line_reader plan_lines later_lines line (plan_words line) (plan_later line) count only
    (codes "none") None refl none later)
  where
    count : (plan : Option Plan) → plan_lines plan ≡ 1 + later_lines plan
    count None = refl
    count (Some plan) = omega arith

    only : (first : List ℕ) → IsAt line (plan_words line first)
    only first =
        at_either line (is_text (codes "none") first) (Ok None)
        (number_behind line (codes "plan ") first >>= λ count. Ok (Some count)) (at_ok line None)
        (at_next line (number_behind line (codes "plan ") first) (λ count. Ok (Some count))
        (at_number line (codes "plan ") first) (λ count. at_ok line (Some count)))

    none : plan_words line (codes "none") ≡ Ok None
    none = ap (λ b. cond b (Ok None)
        (number_behind line (codes "plan ") (codes "none") >>= λ count. Ok (Some count)))
        (text_again (codes "none"))

    stated : (count : ℕ) → IsReader later_lines (line + 1) (plan_later line (Some count))
    stated count = named_reader lines_of later_lines (λ plan. Some plan) (λ plan. refl) (line + 1)
        (steps_at count (line + 1)) (steps_reader count (line + 1))

    later : (count : Option ℕ) → IsReader later_lines (line + 1) (plan_later line count)
    later None = given later_lines (line + 1) None refl
    later (Some count) = stated count

    told : List ℕ × List ℕ → Result (Option Plan × List ℕ) CertificateFault
    told first = cond (is_text (codes "none") first.0) (Ok (None, first.1))
        (number_behind line (codes "plan ") first.0 >>= λ count. steps_at count (line + 1) first.1
        >>= λ plan. Ok (Some plan.0, plan.1))

    counted : (r : Result ℕ CertificateFault) (text : List ℕ)
        → (r >>= λ count. steps_at count (line + 1) text >>= λ plan. Ok (Some plan.0, plan.1))
        ≡ ((r >>= λ count. Ok (Some count)) >>= λ count. plan_later line count text)
    counted (Ok count) text = refl
    counted (Err fault) text = refl

    one : (b : Bool) (r : Result ℕ CertificateFault) (text : List ℕ)
        → cond b (Ok (None, text))
        (r >>= λ count. steps_at count (line + 1) text >>= λ plan. Ok (Some plan.0, plan.1))
        ≡ (cond b (Ok None) (r >>= λ count. Ok (Some count)) >>= λ count. plan_later line count text)
    one true r text = refl
    one false r text = counted r text

    same : (r : Result (List ℕ × List ℕ) CertificateFault)
        → (r >>= told) ≡ (r >>= λ first. plan_words line first.0 >>= λ count. plan_later line count first.1)
    same (Ok first) = one (is_text (codes "none") first.0)
        (number_behind line (codes "plan ") first.0) first.1
    same (Err fault) = refl

-- ---- the end

-- nothing comes after the end
nothing_last : (line : ℕ)
    → IsLastReader line (λ rest. cond (eqb (length rest) 0) (Ok true) (Err (Syntax line)))
nothing_last line text fault e = go (eqb (length text) 0) e
  where
    test : List ℕ → Result Bool CertificateFault
    test rest = cond (eqb (length rest) 0) (Ok true) (Err (Syntax line))

    more : (n : ℕ) → eqb (suc n) 0 ≡ false
    more n = grind (arith, nat_tests)

    some : (first after : List ℕ) → test (first ++ 10 ∷ after) ≡ Err (Syntax line)
    some [] after = ap (λ b. cond b (Ok true) (Err (Syntax line))) (more (length after))
    some (b ∷ first) after =
        ap (λ b. cond b (Ok true) (Err (Syntax line))) (more (length (first ++ 10 ∷ after)))

    same : (f : CertificateFault) → ◌≡◌ {A = Result Bool CertificateFault} (Err (Syntax line)) (Err f) → f ≡ Syntax line
    same f e = cc

    go : (b : Bool) → cond b (Ok true) (Err (Syntax line)) ≡ Err fault
        → Stops line test (IsWhole test) text fault
    go true e = absurd cc
    go false e = record {
      before = [];
      behind = text;
      text_is = refl;
      whole = inl refl;
      fault_is = same fault e ∙ (let none : line_feeds [] ≡ 0 = refl in
          ap (λ (k : ℕ). Syntax k) (omega (arith, none)));
      more = [];
      goes = (true, refl);
      stuck = λ first rest after back none. some first after
          ∙ ap (λ (f : CertificateFault). Err f) (sym (same fault e));
    }

end_last : (line : ℕ) → IsLastReader line (end_at line)
unfolding end_at
end_last line =
    same_last line (end_at line)
    (λ text. fixed_line line (codes "end") text
    >>= λ x. cond (eqb (length x.1) 0) (Ok true) (Err (Syntax (line + 1))))
    (λ text. fixed_is line (codes "end") text
    (λ rest. cond (eqb (length rest) 0) (Ok true) (Err (Syntax (line + 1)))))
    (then_last (λ (b : Bool). 1) line (fixed_line line (codes "end"))
    (λ b rest. cond (eqb (length rest) 0) (Ok true) (Err (Syntax (line + 1))))
    (fixed_reader line (codes "end") refl) (λ b. nothing_last (line + 1)))

body_last : (width line : ℕ) → IsLastReader line (body_at width line)
unfolding body_at
body_last width line =
    then_last (λ count. 1) line (number_at line (codes "rows "))
    (λ count text. rows_at width count (line + 1) text
    >>= λ rows. end_at (line + 1 + length rows.0) rows.1 >>= λ ended. Ok rows.0)
    (number_reader line (codes "rows ") refl)
    (λ count. then_last (λ rows. length rows) (line + 1) (rows_at width count (line + 1))
    (λ rows text. end_at (line + 1 + length rows) text >>= λ ended. Ok rows)
    (rows_reader width count (line + 1))
    (λ rows. named_last (line + 1 + length rows) (end_at (line + 1 + length rows)) (λ ended. rows)
    (end_last (line + 1 + length rows))))

text_last : IsLastReader 1 text_of
unfolding text_of
text_last =
    then_last head_lines 1 head_at
    (λ head rest. weight_at (weight_line head) rest
    >>= λ weight. plan_at (weight_line head + 1) weight.1
    >>= λ plan. body_at head.width (weight_line head + 1 + plan_lines plan.0) plan.1
    >>= λ rows. Ok (text_with head weight.0 plan.0 rows)) head_reader
    (λ head. then_last (λ weight. 1) (weight_line head) (weight_at (weight_line head))
    (λ weight rest. plan_at (weight_line head + 1) rest
    >>= λ plan. body_at head.width (weight_line head + 1 + plan_lines plan.0) plan.1
    >>= λ rows. Ok (text_with head weight plan.0 rows)) (weight_reader (weight_line head))
    (λ weight. then_last plan_lines (weight_line head + 1) (plan_at (weight_line head + 1))
    (λ plan rest. body_at head.width (weight_line head + 1 + plan_lines plan) rest
    >>= λ rows. Ok (text_with head weight plan rows)) (plan_reader (weight_line head + 1))
    (λ plan. named_last (weight_line head + 1 + plan_lines plan)
    (body_at head.width (weight_line head + 1 + plan_lines plan)) (text_with head weight plan)
    (body_last head.width (weight_line head + 1 + plan_lines plan)))))

-- ---- the fault that is reported is the case

feedless : (text : List ℕ) → has_none 10 text ≡ true → line_feeds text ≡ 0
feedless [] none = refl
feedless (b ∷ bs) none =
    let c = and_parts (not (eqb b 10)) (has_none 10 bs) none in
    feeds_cons b bs ∙ go (eqb b 10) c.0 (feedless bs c.1)
  where
    go : (t : Bool) → not t ≡ true → line_feeds bs ≡ 0 → cond t 1 0 + line_feeds bs ≡ 0
    go true is rest = absurd cc
    go false is rest = omega (arith, rest)

pub syntax_case : (bytes : List ℕ) (fault : CertificateFault) → text_of bytes ≡ Err fault
    → (line : ℕ) × (fault ≡ Syntax line) × IsSyntaxFault bytes line
syntax_case bytes fault e =
    let s = text_last bytes fault e in (
      1 + line_feeds s.before,
      s.fault_is,
      record {
        before = s.before;
        behind = s.behind;
        bytes_are = s.text_is;
        whole = s.whole;
        place = refl;
        begins = (
          s.goes.0.spelling,
          s.goes.0.certificate,
          s.more,
          ((read_as_spelled (s.before ++ s.more) s.goes.0).0 s.goes.1).0,
        );
        fault = λ first rest back none begins.
            not_both (text_of (s.before ++ (first ++ 10 ∷ begins.2)))
            (s.stuck first rest begins.2 back (no_feeds first none))
            (ap text_of (sym (ap (λ (t : List ℕ). s.before ++ t)
            (append_assoc first (10 ∷ []) begins.2))
            ∙ sym (append_assoc s.before (first ++ 10 ∷ []) begins.2))
            ∙ read_of ((s.before ++ (first ++ 10 ∷ [])) ++ begins.2) begins.0 begins.1 begins.3);
        unspelled = λ spelling certificate is.
            not_both (text_of bytes) e (read_of bytes spelling certificate is);
      },
    )
  where
    not_both : {text : Text} (r : Result Text CertificateFault) → r ≡ Err fault → r ≡ Ok text → ⊥
    not_both r is also = cc

-- ---- there is one such line

heads_are : (x y : ℕ) (xs ys : List ℕ) → x ∷ xs ≡ y ∷ ys → (x ≡ y) × (xs ≡ ys)
heads_are x y xs ys e = (cc, cc)

-- of two beginnings of a text, the one with more lines goes on
longer : (xs ys us vs : List ℕ) → xs ++ us ≡ ys ++ vs → line_feeds xs < line_feeds ys
    → (more : List ℕ) × (ys ≡ xs ++ more) × (us ≡ more ++ vs)
longer [] ys us vs e less = (ys, refl, e)
longer (x ∷ xs) [] us vs e less =
    let none : line_feeds [] ≡ 0 = refl in absurd (omega (arith, less, none))
longer (x ∷ xs) (y ∷ ys) us vs e less =
    let same = heads_are x y (xs ++ us) (ys ++ vs) e in
    let a = feeds_cons x xs in
    let b : line_feeds (y ∷ ys) ≡ cond (eqb x 10) 1 0 + line_feeds ys =
    feeds_cons y ys ∙ ap (λ k. cond (eqb k 10) 1 0 + line_feeds ys) (sym same.0) in
    let h = longer xs ys us vs same.1 (omega (arith, less, a, b)) in
    (h.0, ap (λ k. k ∷ ys) (sym same.0) ∙ ap (λ t. x ∷ t) h.1, h.2)

not_before : (bytes : List ℕ) (line other : ℕ) → IsSyntaxFault bytes line → IsSyntaxFault bytes other
    → line < other → ⊥
not_before bytes line other is also less = go (part 10 more.0) refl
  where
    fewer : line_feeds is.before < line_feeds also.before
    fewer = let a = is.place in let b = also.place in omega (arith, a, b, less)

    more : (more : List ℕ) × (also.before ≡ is.before ++ more) × (is.behind ≡ more ++ also.behind)
    more = longer is.before also.before is.behind also.behind (sym is.bytes_are ∙ also.bytes_are)
        fewer

    go : (o : Option (List ℕ × List ℕ)) → part 10 more.0 ≡ o → ⊥
    go None e =
        let none = no_feed more.0 e in
        let sum : line_feeds also.before ≡ line_feeds is.before + line_feeds more.0 =
        ap line_feeds more.1 ∙ feeds_both is.before more.0 in
        omega (arith, none, sum, fewer)
    go (Some x) e =
        let first : more.0 ≡ x.0 ++ 10 ∷ x.1 = part_is 10 more.0 x.0 x.1 e in
        let begun = also.begins in
        let rest = begun.2 in
        let whole : also.before ++ rest ≡ (is.before ++ (x.0 ++ 10 ∷ [])) ++ (x.1 ++ rest) =
        ap (λ (t : List ℕ). t ++ rest) (more.1 ∙ ap (λ (t : List ℕ). is.before ++ t)
        (first ∙ sym (append_assoc x.0 (10 ∷ []) x.1))
        ∙ sym (append_assoc is.before (x.0 ++ 10 ∷ []) x.1))
        ∙ append_assoc (is.before ++ (x.0 ++ 10 ∷ [])) x.1 rest in
        is.fault x.0 (x.1 ++ also.behind)
        (more.2 ∙ ap (λ (t : List ℕ). t ++ also.behind) first
        ∙ append_assoc x.0 (10 ∷ x.1) also.behind)
        (feedless x.0 (part_none 10 more.0 x.0 x.1 e))
        (begun.0, begun.1, x.1 ++ rest, subst (λ (t : List ℕ). IsSpelled t begun.0 begun.1) whole begun.3)

pub syntax_told : (bytes : List ℕ) (line : ℕ) → IsSyntaxFault bytes line
    → text_of bytes ≡ Err (Syntax line)
syntax_told bytes line is = go (text_of bytes) refl
  where
    same : (line other : ℕ) → (line < other → ⊥) → (other < line → ⊥) → other ≡ line
    same line other one two = grind (arith, one, two)

    go : (r : Result Text CertificateFault) → text_of bytes ≡ r → text_of bytes ≡ Err (Syntax line)
    go (Ok text) e = absurd (is.unspelled text.spelling text.certificate ((read_as_spelled bytes text).0 e).0)
    go (Err fault) e =
        let c = syntax_case bytes fault e in
        e ∙ ap (λ (f : CertificateFault). Err f) (c.1 ∙ ap (λ (k : ℕ). Syntax k)
        (same line c.0 (not_before bytes line c.0 is c.2) (not_before bytes c.0 line c.2 is)))
