-- What is spelled so is read.
use Rattle.std.proofs.Common.{◌≡◌, ℕ, ◌+◌, ◌*◌, ◌^◌, ◌<◌, ◌≤◌, Bool, true, false, not, cond, eqb, ltb, leb, ◌&&◌, Option, None, Some, List, [], ◌∷◌, ◌++◌, length, Result, Ok, Err, refl, sym, ap, ◌∙◌, arith}
use Rattle.std.proofs.lemmas.Bool.{and_parts, and_from, le-leb}
use Rattle.std.specs.Prelude.{codes, is_some}
use Rattle.std.specs.Fmt.{decimal}
use Rattle.std.specs.List.{list_all}
use Rattle.std.proofs.lemmas.Bool.Decides.{nat_tests}
use Rattle.pb_packed.specs.Sizes.{version_1_digits, most_digits}
use Rattle.pb_model.specs.Weight.{Weight}
use Rattle.pb_model.specs.Plan.{Plan}
use Rattle.pb_model.specs.Certificate.{Line}
use Rattle.pb_model.specs.Texts as texts
use Rattle.pb_task.specs.declared.kind.Kind.{Kind}
use Rattle.pb_task.specs.declared.kind.Kind.TheVariants.{Grid, Tiles, Strips}
use Rattle.pb_task.specs.declared.grounding.Grounding.{Grounding}
use Rattle.pb_task.specs.declared.grounding.Grounding.TheVariants.{All, Reachable}
use Rattle.pb_tables.specs.Tables.{TablesValue}
use Rattle.pb_table_lines.specs.Reading.{tables_at}
use Rattle.pb_table_lines.proofs.Callers.{tables_are_read_as_written}
use Rattle.pb_estimate.specs.Choices.{Choice, Plain, Pattern, Tables}
use Rattle.pb_estimate.specs.declared.spelling.Stated.{Stated}
use Rattle.pb_estimate.specs.declared.spelling.Spelling.{Spelling}
use Rattle.pb_estimate.specs.declared.spelling.Version.{Version}
use Rattle.pb_estimate.specs.declared.spelling.Version.TheVariants.{One, Two, Three, Four}
use Rattle.pb_estimate.specs.Spelling.{IsWidthOf, CanBeStated, StatesChoice, StatesGrounding, IsVersionFor, IsSpelling, version_line, kind_line, width_text, grounding_line, plain_line, pattern_line, estimate_text, stated_text, head_of}
use Rattle.pb_check.specs.declared.fault.CertificateFault.{CertificateFault}
use Rattle.pb_check.specs.declared.fault.CertificateFault.TheVariants.{Syntax}
use Rattle.pb_lines.specs.Words.{part, behind, is_text, number_of, has_none}
use Rattle.pb_lines.proofs.Callers.{IsNumberWord, number_word, number_word_read, number_has_none, none_both, part_again, behind_again, text_again}
use Rattle.pb_check.specs.Words.{hex_value, hex_after, state_of}
use Rattle.pb_check.specs.Faults.{◌>>=◌, wanted}
use Rattle.pb_check.specs.Reading.{line_at, number_behind, version_in, kind_in, kind_for, width_in, grounding_in, estimate_in, weight_in, closed_in, row_in, fixed_at, number_at, version_at, kind_at, width_line_at, width_at, grounding_at, tables_read, estimate_at, stated_at, head_at, weight_at, row_at, actions_at, rows_at, steps_at, plan_at, plan_lines, weight_line, first_line, Text, end_at, body_at, text_of}
use Rattle.pb_check.proofs.Lines.{hex_value_after, IsStateWord, BeginsWith, BeginsWithNumber, closed_text, spelling_with, IsWeightLine, IsRowLine, AreActionLines, AreRowLines, ArePlanLines, Spells}
use Rattle.pb_check.proofs.Spelled.{head_then, one_line, others_then, line_and_others}
use Rattle.pb_check.proofs.TableLines.{tables_first}

-- ---- states

hex_after_again : (n : ℕ) (word : List ℕ) → list_all (λ b. ltb (hex_value b) 16) word ≡ true → hex_after n word ≡ Some (hex_value_after n word)
unfolding hex_after
hex_after_again n [] digits = refl
hex_after_again n (b ∷ bs) digits =
    let c = and_parts (ltb (hex_value b) 16) (list_all (λ b. ltb (hex_value b) 16) bs) digits in
    ap (λ t. cond t (hex_after (n * 16 + hex_value b) bs) None) c.0 ∙ hex_after_again (n * 16 + hex_value b) bs c.1

pub state_again : (width : ℕ) (word : List ℕ) (state : ℕ) → IsStateWord width word state → state_of width word ≡ Some state
state_again width word state is =
    let e : eqb (length word) width ≡ true = (let s = is.count in grind (arith, nat_tests, s)) in
    ap (λ t. cond t (hex_after 0 word) None) e ∙ hex_after_again 0 word is.digits ∙ ap (λ (k : ℕ). Some k) (sym is.value)

-- ---- words have neither a space nor an end of a line

hex_is_none : (byte b : ℕ) → byte < 48 → ltb (hex_value b) 16 ≡ true → not (eqb b byte) ≡ true
hex_is_none byte b small e = grind (arith, nat_tests, small, e)

state_has_none : (byte : ℕ) (word : List ℕ) → byte < 48 → list_all (λ b. ltb (hex_value b) 16) word ≡ true → has_none byte word ≡ true
state_has_none byte [] small e = refl
state_has_none byte (b ∷ bs) small e = let c = and_parts (ltb (hex_value b) 16) (list_all (λ b. ltb (hex_value b) 16) bs) e in and_from (not (eqb b byte)) (has_none byte bs) (hex_is_none byte b small c.0) (state_has_none byte bs small c.1)

-- ---- lines

abbrev fine : {A : Type 0} → A → Result A CertificateFault
fine x = Ok x

line_again : (line : ℕ) (text first rest : List ℕ) → BeginsWith text first rest → has_none 10 first ≡ true → line_at line text ≡ Ok (first, rest)
line_again line text first rest is none = ap (λ t. wanted line (part 10 t)) is ∙ ap (wanted line) (part_again 10 first rest none)

fixed_again : (line : ℕ) (piece text rest : List ℕ) → BeginsWith text piece rest → has_none 10 piece ≡ true → fixed_at line piece text ≡ Ok rest
unfolding fixed_at
fixed_again line piece text rest is none =
    ap (λ r. r >>= λ first. cond (is_text piece first.0) (Ok first.1) (Err (Syntax line))) (line_again line text piece rest is none) ∙ ap (λ t. cond t (Ok rest) (Err (Syntax line))) (text_again piece)

pub behind_number_word_read : (line : ℕ) (piece word : List ℕ) (n : ℕ) → IsNumberWord word n → number_behind line piece (piece ++ word) ≡ Ok n
behind_number_word_read line piece word n is =
    ap (λ o. wanted line o >>= λ word. wanted line (number_of word)) (behind_again piece word) ∙ ap (wanted line) (number_word_read word n is)

number_line_again : (line : ℕ) (piece text : List ℕ) (n : ℕ) (rest : List ℕ) → has_none 10 piece ≡ true → BeginsWithNumber text piece n rest → number_at line piece text ≡ Ok (n, rest)
unfolding number_at
number_line_again line piece text n rest none is =
    ap (λ r. r >>= λ first. number_behind line piece first.0 >>= λ n. Ok (n, first.1)) (line_again line text (piece ++ is.0) rest is.2 (none_both 10 piece is.0 none (number_has_none 10 is.0 (omega arith) is.1.digits)))
    ∙ ap (λ r. r >>= λ n. fine (n, rest)) (behind_number_word_read line piece is.0 n is.1)

-- ---- what a line says

abbrev fine_weight : (num den : ℕ) → Result Weight CertificateFault
fine_weight num den = Ok (record { num = num; den = den })

abbrev fine_row : (state g : ℕ) → Bool → Result Line CertificateFault
fine_row state g is_closed = Ok (record { state = state; g = g; is_closed = is_closed })

pub kind_again : (line : ℕ) (k : Kind) → kind_in line (kind_line k) ≡ Ok k
unfolding kind_in behind
kind_again line Grid = refl
kind_again line Tiles = refl
kind_again line Strips = refl

kind_for_again : (version : Version) (line : ℕ) (kind : Kind) → IsVersionFor version kind → kind_for version line kind ≡ Ok kind
kind_for_again One line kind is = refl
kind_for_again Two line kind is = refl
kind_for_again Three line kind is = refl
kind_for_again Four line kind is = ap (kind_for Four line) is ∙ ap (λ (k : Kind). fine k) (sym is)

-- a kind that the version is for is read of its line
pub kind_said_again : (version : Version) (line : ℕ) (kind : Kind) → IsVersionFor version kind → (kind_in line (kind_line kind) >>= kind_for version line) ≡ Ok kind
kind_said_again version line kind is = ap (λ r. r >>= kind_for version line) (kind_again line kind) ∙ kind_for_again version line kind is

pub kind_none : (k : Kind) → has_none 10 (kind_line k) ≡ true
kind_none Grid = refl
kind_none Tiles = refl
kind_none Strips = refl

pub version_again : (line : ℕ) (version : Version) → version_in line (version_line version) ≡ Ok version
unfolding version_in behind
version_again line One = refl
version_again line Two = refl
version_again line Three = refl
version_again line Four = refl

pub version_none : (version : Version) → has_none 10 (version_line version) ≡ true
version_none One = refl
version_none Two = refl
version_none Three = refl
version_none Four = refl

pub grounding_again : (line : ℕ) (g : Grounding) → grounding_in line (grounding_line g) ≡ Ok g
unfolding grounding_in behind
grounding_again line All = refl
grounding_again line Reachable = refl

pub grounding_none : (g : Grounding) → has_none 10 (grounding_line g) ≡ true
grounding_none All = refl
grounding_none Reachable = refl

-- a text that begins otherwise is not this one
pattern_is_not_plain : (word : List ℕ) → is_text plain_line (codes "estimate pattern " ++ word) ≡ false
unfolding behind
pattern_is_not_plain word = refl

plain_is_no_table : is_some (behind (codes "estimate tables ") plain_line) ≡ false
unfolding behind
plain_is_no_table = refl

pattern_is_no_table : (word : List ℕ) → is_some (behind (codes "estimate tables ") (codes "estimate pattern " ++ word)) ≡ false
unfolding behind
pattern_is_no_table word = refl

plain_again : (line : ℕ) → estimate_in line plain_line ≡ Ok Plain
unfolding estimate_in
plain_again line = ap (λ b. cond b (fine Plain) (number_behind line (codes "estimate pattern ") plain_line >>= λ number. Ok (Pattern number))) (text_again plain_line)

pattern_again : (line number : ℕ) → number < 2 ^ 63 → estimate_in line (pattern_line number) ≡ Ok (Pattern number)
unfolding estimate_in
pattern_again line number small =
    ap (λ b. cond b (fine Plain) (number_behind line (codes "estimate pattern ") (codes "estimate pattern " ++ decimal number) >>= λ n. Ok (Pattern n))) (pattern_is_not_plain (decimal number))
    ∙ ap (λ r. r >>= λ n. fine (Pattern n)) (behind_number_word_read line (codes "estimate pattern ") (decimal number) number (number_word (decimal number) number refl small))

pub plain_none : has_none 10 plain_line ≡ true
plain_none = refl

pub pattern_none : (number : ℕ) → number < 2 ^ 63 → has_none 10 (pattern_line number) ≡ true
pattern_none number small = none_both 10 (codes "estimate pattern ") (decimal number) refl (number_has_none 10 (decimal number) (omega arith) (number_word (decimal number) number refl small).digits)

-- the words of a line that says the digits of a state, from version 2 on
abbrev pub width_words : (width : ℕ) → List ℕ
width_words width = codes "width " ++ decimal width

pub width_again : (line width : ℕ) → IsWidthOf Two width → width_in line (width_words width) ≡ Ok width
unfolding width_in
width_again line width known =
    let small : width ≤ 256 = known.1 in
    let number : IsNumberWord (decimal width) width = number_word (decimal width) width refl (omega (arith, small)) in
    ap (λ r. r >>= λ k. cond (leb 1 k && leb k most_digits) (fine k) (Err (Syntax line))) (behind_number_word_read line (codes "width ") (decimal width) width number)
    ∙ ap (λ b. cond b (fine width) (Err (Syntax line))) (and_from (leb 1 width) (leb width most_digits) (le-leb _ _ known.0) (le-leb _ _ known.1))

pub width_none : (width : ℕ) → IsWidthOf Two width → has_none 10 (width_words width) ≡ true
width_none width known =
    let small : width ≤ 256 = known.1 in
    none_both 10 (codes "width ") (decimal width) refl (number_has_none 10 (decimal width) (omega arith) (number_word (decimal width) width refl (omega (arith, small))).digits)

closed_again : (line : ℕ) (c : Bool) → closed_in line (closed_text c) ≡ Ok c
unfolding closed_in behind
closed_again line true = refl
closed_again line false = refl

closed_none : (c : Bool) → has_none 10 (closed_text c) ≡ true
closed_none true = refl
closed_none false = refl

pub weight_again : (line : ℕ) (text : List ℕ) (w : Weight) → IsWeightLine text w → weight_in line text ≡ Ok w
unfolding weight_in
weight_again line text w is =
    let den_of = λ (num : ℕ) (den : Option ℕ). wanted line den >>= λ den. fine_weight num den in
    let num_of = λ (num : Option ℕ). wanted line num >>= λ num. den_of num (number_of is.den) in
    let parts_of = λ (o : Option (List ℕ × List ℕ)). wanted line o >>= λ parts. wanted line (number_of parts.0) >>= λ num. den_of num (number_of parts.1) in
    ap (weight_in line) is.line_is
    ∙ ap (λ o. wanted line o >>= λ words. parts_of (part 32 words)) (behind_again (codes "weight ") (is.num ++ 32 ∷ is.den))
    ∙ ap parts_of (part_again 32 is.num is.den (number_has_none 32 is.num (omega arith) is.num_is.digits))
    ∙ ap num_of (number_word_read is.num w.num is.num_is)
    ∙ ap (den_of w.num) (number_word_read is.den w.den is.den_is)

pub weight_none : (text : List ℕ) (w : Weight) → IsWeightLine text w → has_none 10 text ≡ true
weight_none text w is = ap (has_none 10) is.line_is
    ∙ none_both 10 (codes "weight ") (is.num ++ 32 ∷ is.den) refl (none_both 10 is.num (32 ∷ is.den) (number_has_none 10 is.num (omega arith) is.num_is.digits) (number_has_none 10 is.den (omega arith) is.den_is.digits))

pub row_again : (width line : ℕ) (text : List ℕ) (row : Line) → IsRowLine width text row → row_in width line text ≡ Ok row
unfolding row_in
row_again width line text row is =
    let end_of = λ (state g : ℕ) (r : Result Bool CertificateFault). r >>= λ is_closed. fine_row state g is_closed in
    let g_of = λ (state : ℕ) (o : Option ℕ). wanted line o >>= λ g. end_of state g (closed_in line (closed_text row.is_closed)) in
    let state_of_word = λ (o : Option ℕ). wanted line o >>= λ state. g_of state (number_of is.g) in
    let back_of = λ (o : Option (List ℕ × List ℕ)). wanted line o >>= λ back. wanted line (state_of width is.state) >>= λ state. wanted line (number_of back.0) >>= λ g. end_of state g (closed_in line back.1) in
    let front_of = λ (o : Option (List ℕ × List ℕ)). wanted line o >>= λ front. wanted line (part 32 front.1) >>= λ back. wanted line (state_of width front.0) >>= λ state. wanted line (number_of back.0) >>= λ g. end_of state g (closed_in line back.1) in
    ap (row_in width line) is.line_is
    ∙ ap front_of (part_again 32 is.state (is.g ++ 32 ∷ closed_text row.is_closed) (state_has_none 32 is.state (omega arith) is.state_is.digits))
    ∙ ap back_of (part_again 32 is.g (closed_text row.is_closed) (number_has_none 32 is.g (omega arith) is.g_is.digits))
    ∙ ap state_of_word (state_again width is.state row.state is.state_is)
    ∙ ap (g_of row.state) (number_word_read is.g row.g is.g_is)
    ∙ ap (end_of row.state row.g) (closed_again line row.is_closed)

pub row_none : (width : ℕ) (text : List ℕ) (row : Line) → IsRowLine width text row → has_none 10 text ≡ true
row_none width text row is = ap (has_none 10) is.line_is
    ∙ none_both 10 is.state (32 ∷ (is.g ++ 32 ∷ closed_text row.is_closed)) (state_has_none 10 is.state (omega arith) is.state_is.digits)
    (none_both 10 is.g (32 ∷ closed_text row.is_closed) (number_has_none 10 is.g (omega arith) is.g_is.digits) (closed_none row.is_closed))

-- ---- lines in a row

actions_again : (line : ℕ) (text actions rest : List ℕ) → AreActionLines text actions rest → actions_at (length actions) line text ≡ Ok (actions, rest)
unfolding actions_at
actions_again line text [] rest is = ap (λ (t : List ℕ). fine ([], t)) is
actions_again line text (action ∷ actions) rest is =
    ap (λ r. r >>= λ first. actions_at (length actions) (line + 1) first.1 >>= λ others. fine (first.0 ∷ others.0, others.1)) (number_line_again line [] text action is.0 refl is.1)
    ∙ ap (λ r. r >>= λ others. fine (action ∷ others.0, others.1)) (actions_again (line + 1) is.0 actions rest is.2)

rows_again : (width line : ℕ) (text : List ℕ) (rows : List Line) (rest : List ℕ) → AreRowLines width text rows rest → rows_at width (length rows) line text ≡ Ok (rows, rest)
unfolding rows_at row_at
rows_again width line text [] rest is = ap (λ (t : List ℕ). fine ([], t)) is
rows_again width line text (row ∷ rows) rest is =
    let one : row_at width line text ≡ Ok (row, is.1) =
    ap (λ r. r >>= λ first. row_in width line first.0 >>= λ row. fine (row, first.1)) (line_again line text is.0 is.1 is.2 (row_none width is.0 row is.3))
    ∙ ap (λ r. r >>= λ row. fine (row, is.1)) (row_again width line is.0 row is.3) in
    ap (λ r. r >>= λ first. rows_at width (length rows) (line + 1) first.1 >>= λ others. fine (first.0 ∷ others.0, others.1)) one
    ∙ ap (λ r. r >>= λ others. fine (row ∷ others.0, others.1)) (rows_again width (line + 1) is.1 rows rest is.4)

-- a text that begins otherwise is not this one
plan_is_not_none : (word : List ℕ) → is_text (codes "none") (codes "plan " ++ word) ≡ false
unfolding behind
plan_is_not_none word = refl

plan_again : (line : ℕ) (text : List ℕ) (plan : Option Plan) (rest : List ℕ) → ArePlanLines text plan rest → plan_at line text ≡ Ok (plan, rest)
unfolding plan_at steps_at
plan_again line text None rest is =
    ap (λ r. r >>= λ first. cond (is_text (codes "none") first.0) (fine (None, first.1)) (number_behind line (codes "plan ") first.0 >>= λ count. steps_at count (line + 1) first.1 >>= λ plan. Ok (Some plan.0, plan.1))) (line_again line text (codes "none") rest is refl)
    ∙ ap (λ t. cond t (fine (None, rest)) (number_behind line (codes "plan ") (codes "none") >>= λ count. steps_at count (line + 1) rest >>= λ plan. Ok (Some plan.0, plan.1))) (text_again (codes "none"))
plan_again line text (Some plan) rest is =
    let word = is.2.0 in
    let first = codes "plan " ++ word in
    let after = λ (r : Result ℕ CertificateFault). r >>= λ count. steps_at count (line + 1) is.0 >>= λ plan. fine (Some plan.0, plan.1) in
    let steps : steps_at (length plan.actions) (line + 1) is.0 ≡ Ok (plan, rest) =
    ap (λ r. r >>= λ actions. number_at (line + 1 + length actions.0) (codes "cost ") actions.1 >>= λ cost. fine (record { actions = actions.0; cost = cost.0 }, cost.1)) (actions_again (line + 1) is.0 plan.actions is.1 is.3)
    ∙ ap (λ r. r >>= λ cost. fine (record { actions = plan.actions; cost = cost.0 }, cost.1)) (number_line_again (line + 1 + length plan.actions) (codes "cost ") is.1 plan.cost rest refl is.4) in
    ap (λ r. r >>= λ first. cond (is_text (codes "none") first.0) (fine (None, first.1)) (number_behind line (codes "plan ") first.0 >>= λ count. steps_at count (line + 1) first.1 >>= λ plan. Ok (Some plan.0, plan.1)))
    (line_again line text first is.0 is.2.2 (none_both 10 (codes "plan ") word refl (number_has_none 10 word (omega arith) is.2.1.digits)))
    ∙ ap (λ t. cond t (fine (None, is.0)) (after (number_behind line (codes "plan ") first))) (plan_is_not_none word)
    ∙ ap after (behind_number_word_read line (codes "plan ") word (length plan.actions) is.2.1)
    ∙ ap (λ r. r >>= λ plan. fine (Some plan.0, plan.1)) steps

body_again : (width line : ℕ) (text row_part end_line : List ℕ) (rows : List Line) → BeginsWithNumber text (codes "rows ") (length rows) row_part → AreRowLines width row_part rows end_line → BeginsWith end_line (codes "end") [] → body_at width line text ≡ Ok rows
unfolding body_at end_at
body_again width line text row_part end_line rows count are end =
    ap (λ r. r >>= λ count. rows_at width count.0 (line + 1) count.1 >>= λ rows. end_at (line + 1 + length rows.0) rows.1 >>= λ ended. fine rows.0) (number_line_again line (codes "rows ") text (length rows) row_part refl count)
    ∙ ap (λ r. r >>= λ rows. end_at (line + 1 + length rows.0) rows.1 >>= λ ended. fine rows.0) (rows_again width (line + 1) row_part rows end_line are)
    ∙ ap (λ r. (r >>= λ rest. cond (eqb (length rest) 0) (Ok true) (Err (Syntax (line + 1 + length rows + 1)))) >>= λ ended. fine rows) (fixed_again (line + 1 + length rows) (codes "end") end_line [] end refl)

-- ---- the head

abbrev stated_with : Grounding → Choice → Stated
stated_with grounding choice = record { grounding = grounding; choice = choice }

abbrev fine_stated : Grounding → Choice → (rest : List ℕ) → Result (Stated × List ℕ) CertificateFault
fine_stated grounding choice rest = Ok (stated_with grounding choice, rest)

grounding_line_again : (line : ℕ) (text : List ℕ) (g : Grounding) (rest : List ℕ) → BeginsWith text (grounding_line g) rest → grounding_at line text ≡ Ok (g, rest)
unfolding grounding_at
grounding_line_again line text g rest begins =
    ap (λ r. r >>= λ first. grounding_in line first.0 >>= λ g. fine (g, first.1)) (line_again line text (grounding_line g) rest begins (grounding_none g))
    ∙ ap (λ r. r >>= λ g. fine (g, rest)) (grounding_again line g)

-- a line that says a choice without tables
said_line_again : (width line : ℕ) (text said : List ℕ) (choice : Choice) (rest : List ℕ) → BeginsWith text said rest → has_none 10 said ≡ true → is_some (behind (codes "estimate tables ") said) ≡ false
    → estimate_in line said ≡ Ok choice → estimate_at width line text ≡ Ok (choice, rest)
unfolding estimate_at
said_line_again width line text said choice rest begins none other is =
    ap (λ r. r >>= λ first. cond (is_some (behind (codes "estimate tables ") first.0)) (tables_read (tables_at width line text)) (estimate_in line first.0 >>= λ choice. fine (choice, first.1))) (line_again line text said rest begins none)
    ∙ ap (λ b. cond b (tables_read (tables_at width line text)) (estimate_in line said >>= λ choice. fine (choice, rest))) other
    ∙ ap (λ r. r >>= λ choice. fine (choice, rest)) is

-- lines of which tables are read say the choice of these tables
pub tables_chosen : (width line : ℕ) (text : List ℕ) (tables : TablesValue) (rest : List ℕ) → tables_at width line text ≡ Ok (tables, rest) → estimate_at width line text ≡ Ok (Tables tables, rest)
unfolding estimate_at
tables_chosen width line text tables rest is =
    let f = tables_first width line text (tables, rest) is in
    ap (λ o. wanted line o >>= λ first. cond (is_some (behind (codes "estimate tables ") first.0)) (tables_read (tables_at width line text)) (estimate_in line first.0 >>= λ choice. fine (choice, first.1))) f.1
    ∙ ap (λ b. cond b (tables_read (tables_at width line text)) (estimate_in line f.0.0 >>= λ choice. fine (choice, f.0.1))) f.2
    ∙ ap tables_read is

pub estimate_lines_again : (width line : ℕ) (text : List ℕ) (choice : Choice) (rest : List ℕ) → CanBeStated width choice → text ≡ texts.lines (estimate_text width choice) ++ rest → estimate_at width line text ≡ Ok (choice, rest)
estimate_lines_again width line text Plain rest can is = said_line_again width line text plain_line Plain rest (is ∙ one_line plain_line rest) plain_none plain_is_no_table (plain_again line)
estimate_lines_again width line text (Pattern number) rest can is =
    said_line_again width line text (pattern_line number) (Pattern number) rest (is ∙ one_line (pattern_line number) rest) (pattern_none number can) (pattern_is_no_table (decimal number)) (pattern_again line number can)
estimate_lines_again width line text (Tables tables) rest can is =
    tables_chosen width line text tables rest (ap (tables_at width line) is ∙ tables_are_read_as_written.read width line tables rest can)

-- before version 4 all atoms and actions have numbers
before_again : (width line : ℕ) (text : List ℕ) (version : Version) (grounding : Grounding) (choice : Choice) (rest : List ℕ) → grounding ≡ All → stated_at version width line text ≡ fine_stated All choice rest
    → stated_at version width line text ≡ fine_stated grounding choice rest
before_again width line text version grounding choice rest all is = is ∙ ap (λ (g : Grounding). fine_stated g choice rest) (sym all)

-- what is stated is read again in the version that states it
said_again : (version : Version) (width line : ℕ) (text : List ℕ) (grounding : Grounding) (choice : Choice) (rest : List ℕ) → StatesChoice version width choice → StatesGrounding version grounding
    → text ≡ texts.lines (stated_text version width (stated_with grounding choice)) ++ rest → stated_at version width line text ≡ fine_stated grounding choice rest
unfolding stated_at
said_again One width line text grounding Plain rest states all is = before_again width line text One grounding Plain rest all (ap (fine_stated All Plain) is)
said_again Two width line text grounding Plain rest states all is = before_again width line text Two grounding Plain rest all (ap (fine_stated All Plain) is)
said_again Three width line text grounding (Pattern number) rest states all is =
    before_again width line text Three grounding (Pattern number) rest all (ap (λ r. r >>= λ n. fine_stated All (Pattern n.0) n.1)
    (number_line_again line (codes "pattern ") text number rest refl (decimal number, number_word (decimal number) number refl states, is ∙ one_line (codes "pattern " ++ decimal number) rest)))
said_again Four width line text grounding choice rest states any is =
    let behind_grounding : List ℕ = texts.lines (estimate_text width choice) ++ rest in
    let first : grounding_at line text ≡ Ok (grounding, behind_grounding) =
    grounding_line_again line text grounding behind_grounding (is ∙ line_and_others (grounding_line grounding) (texts.lines (estimate_text width choice)) rest) in
    ap (λ r. r >>= λ g. estimate_at width (line + 1) g.1 >>= λ c. fine_stated g.0 c.0 c.1) first
    ∙ ap (λ r. r >>= λ c. fine_stated grounding c.0 c.1) (estimate_lines_again width (line + 1) behind_grounding choice rest states refl)
said_again One width line text grounding (Pattern number) rest states all is = absurd states
said_again One width line text grounding (Tables tables) rest states all is = absurd states
said_again Two width line text grounding (Pattern number) rest states all is = absurd states
said_again Two width line text grounding (Tables tables) rest states all is = absurd states
said_again Three width line text grounding Plain rest states all is = absurd states
said_again Three width line text grounding (Tables tables) rest states all is = absurd states

stated_again : (version : Version) (width line : ℕ) (text : List ℕ) (stated : Stated) (rest : List ℕ) → StatesChoice version width stated.choice → StatesGrounding version stated.grounding
    → text ≡ texts.lines (stated_text version width stated) ++ rest → stated_at version width line text ≡ Ok (stated, rest)
stated_again version width line text stated rest states grounded is = said_again version width line text stated.grounding stated.choice rest states grounded is

said_width_again : (width line : ℕ) (text rest : List ℕ) → IsWidthOf Two width → text ≡ texts.lines (width_text Two width) ++ rest → width_line_at line text ≡ Ok (width, rest)
unfolding width_line_at
said_width_again width line text rest known is =
    ap (λ r. r >>= λ first. width_in line first.0 >>= λ w. fine (w, first.1)) (line_again line text (width_words width) rest (is ∙ one_line (width_words width) rest) (width_none width known))
    ∙ ap (λ r. r >>= λ w. fine (w, rest)) (width_again line width known)

width_line_again : (version : Version) (width line : ℕ) (text rest : List ℕ) → IsWidthOf version width → text ≡ texts.lines (width_text version width) ++ rest → width_at version line text ≡ Ok (width, rest)
unfolding width_at
width_line_again One width line text rest known is = ap (λ (t : List ℕ). fine (version_1_digits, t)) is ∙ ap (λ (w : ℕ). fine (w, rest)) (sym known)
width_line_again Two width line text rest known is = said_width_again width line text rest known is
width_line_again Three width line text rest known is = said_width_again width line text rest known is
width_line_again Four width line text rest known is = said_width_again width line text rest known is

pub head_again : (text : List ℕ) (spelling : Spelling) (rest : List ℕ) → IsSpelling spelling → text ≡ texts.lines (head_of spelling) ++ rest → head_at text ≡ Ok (spelling, rest)
unfolding head_at version_at kind_at
head_again text spelling rest known is =
    let version : Version = spelling.version in
    let kind : Kind = spelling.kind in
    let width = spelling.width in
    let stated : Stated = spelling.stated in
    let line = 3 + length (width_text version width) in
    let behind_width : List ℕ = texts.lines (stated_text version width stated) ++ rest in
    let behind_kind : List ℕ = texts.lines (width_text version width) ++ behind_width in
    let behind_version : List ℕ = kind_line kind ++ 10 ∷ behind_kind in
    let begins : BeginsWith text (version_line version) behind_version =
    is ∙ head_then (version_line version) (kind_line kind) (texts.lines (width_text version width ++ stated_text version width stated)) rest
    ∙ ap (λ (t : List ℕ). version_line version ++ 10 ∷ (kind_line kind ++ 10 ∷ t)) (others_then (width_text version width) (stated_text version width stated) rest) in
    let first : version_at 1 text ≡ Ok (version, behind_version) =
    ap (λ r. r >>= λ first. version_in 1 first.0 >>= λ version. fine (version, first.1)) (line_again 1 text (version_line version) behind_version begins (version_none version))
    ∙ ap (λ r. r >>= λ version. fine (version, behind_version)) (version_again 1 version) in
    let second : kind_at version 2 behind_version ≡ Ok (kind, behind_kind) =
    ap (λ r. r >>= λ first. (kind_in 2 first.0 >>= kind_for version 2) >>= λ kind. fine (kind, first.1)) (line_again 2 behind_version (kind_line kind) behind_kind refl (kind_none kind))
    ∙ ap (λ r. r >>= λ kind. fine (kind, behind_kind)) (kind_said_again version 2 kind known.kind) in
    let third : width_at version 3 behind_kind ≡ Ok (width, behind_width) = width_line_again version width 3 behind_kind behind_width known.width refl in
    ap (λ r. r >>= λ v. kind_at v.0 2 v.1 >>= λ k. width_at v.0 3 k.1 >>= λ w. stated_at v.0 w.0 (3 + length (width_text v.0 w.0)) w.1 >>= λ s. fine (spelling_with v.0 k.0 w.0 s.0, s.1)) first
    ∙ ap (λ r. r >>= λ k. width_at version 3 k.1 >>= λ w. stated_at version w.0 (3 + length (width_text version w.0)) w.1 >>= λ s. fine (spelling_with version k.0 w.0 s.0, s.1)) second
    ∙ ap (λ r. r >>= λ w. stated_at version w.0 (3 + length (width_text version w.0)) w.1 >>= λ s. fine (spelling_with version kind w.0 s.0, s.1)) third
    ∙ ap (λ r. r >>= λ s. fine (spelling_with version kind width s.0, s.1)) (stated_again version width line behind_width stated rest known.choice known.grounding refl)

pub readable : (bytes : List ℕ) (text : Text) → Spells bytes text → text_of bytes ≡ Ok text
unfolding text_of weight_at
readable bytes text is =
    let c = text.certificate in
    let n = plan_lines c.plan in
    let line = weight_line text.spelling in
    let head : head_at bytes ≡ Ok (text.spelling, is.weight_line) = head_again bytes text.spelling is.weight_line is.known is.head in
    let weight : weight_at line is.weight_line ≡ Ok (c.weight, is.plan_part) =
    ap (λ r. r >>= λ first. weight_in line first.0 >>= λ weight. fine (weight, first.1)) (line_again line is.weight_line is.weight_words is.plan_part is.weight.0 (weight_none is.weight_words c.weight is.weight.1))
    ∙ ap (λ r. r >>= λ weight. fine (weight, is.plan_part)) (weight_again line is.weight_words c.weight is.weight.1) in
    let plan : plan_at (line + 1) is.plan_part ≡ Ok (c.plan, is.count_line) = plan_again (line + 1) is.plan_part c.plan is.count_line is.plan in
    let body : body_at text.spelling.width (line + 1 + n) is.count_line ≡ Ok c.lines = body_again text.spelling.width (line + 1 + n) is.count_line is.row_part is.end_line c.lines is.count is.rows is.end in
    ap (λ r. r >>= λ head. weight_at (weight_line head.0) head.1 >>= λ weight. plan_at (weight_line head.0 + 1) weight.1 >>= λ plan. body_at head.0.width (weight_line head.0 + 1 + plan_lines plan.0) plan.1 >>= λ rows. fine (record { spelling = head.0; certificate = record { weight = weight.0; plan = plan.0; lines = rows }; first = first_line head.0 plan.0 })) head
    ∙ ap (λ r. r >>= λ weight. plan_at (line + 1) weight.1 >>= λ plan. body_at text.spelling.width (line + 1 + plan_lines plan.0) plan.1 >>= λ rows. fine (record { spelling = text.spelling; certificate = record { weight = weight.0; plan = plan.0; lines = rows }; first = first_line text.spelling plan.0 })) weight
    ∙ ap (λ r. r >>= λ plan. body_at text.spelling.width (line + 1 + plan_lines plan.0) plan.1 >>= λ rows. fine (record { spelling = text.spelling; certificate = record { weight = c.weight; plan = plan.0; lines = rows }; first = first_line text.spelling plan.0 })) plan
    ∙ ap (λ r. r >>= λ rows. fine (record { spelling = text.spelling; certificate = record { weight = c.weight; plan = c.plan; lines = rows }; first = first_line text.spelling c.plan })) body
    ∙ ap (λ (k : ℕ). fine (record { spelling = text.spelling; certificate = c; first = k })) (sym is.first)
