-- What is spelled line by line is the text of a certificate, and the other way round.
use Rattle.std.proofs.Common.{◌≡◌, ℕ, ◌^◌, ◌<◌, Bool, true, false, if◌then◌else◌, Option, None, Some, List, [], ◌∷◌, ◌++◌, length, map, All, Ok, refl, sym, ap, ◌∙◌, append_assoc}
use Rattle.std.specs.Prelude.{codes}
use Rattle.std.specs.Fmt.{decimal}
use Rattle.std.proofs.lemmas.List.Elements.{All-nil, All-cons, All-head, All-tail}
use Rattle.pb_packed.specs.Digits.{hex_digits}
use Rattle.pb_model.specs.Weight.{Weight}
use Rattle.pb_model.specs.Plan.{Plan}
use Rattle.pb_model.specs.Certificate.{Line, Certificate}
use Rattle.pb_model.specs.Texts as texts
use Rattle.pb_estimate.specs.declared.spelling.Spelling.{Spelling}
use Rattle.pb_estimate.specs.Spelling.{head_of}
use Rattle.pb_check.specs.Reading.{Text, first_line, text_of}
use Rattle.pb_check.specs.Spelling.{PlanFitsIfAny, IsSpelled, ReadAsSpelled, TextsHaveOneSpelling}
use Rattle.pb_check.proofs.Lines.{BeginsWithNumber, closed_text, IsWeightLine, IsRowLine, AreActionLines, AreRowLines, ArePlanLines, Spells}
use Rattle.pb_check.proofs.Spelled.{ok_is, spelled}
use Rattle.pb_check.proofs.Readable.{readable}
use Rattle.pb_lines.proofs.Callers.{number_word, number_word_is}
use Rattle.pb_check.proofs.States.{state_word, state_word_is}

-- ---- a line and what follows it

line_then : (first rest : List ℕ) → texts.line first ++ rest ≡ first ++ 10 ∷ rest
line_then first rest = append_assoc first (10 ∷ []) rest

number_line : (text piece : List ℕ) (n : ℕ) (rest : List ℕ) → BeginsWithNumber text piece n rest → (text ≡ texts.line (piece ++ decimal n) ++ rest) × (n < 2 ^ 63)
number_line text piece n rest (word, is, begins) =
    (begins ∙ ap (λ (w : List ℕ). (piece ++ w) ++ 10 ∷ rest) (number_word_is word n is) ∙ sym (line_then (piece ++ decimal n) rest), is.small)

line_of_number : (text piece : List ℕ) (n : ℕ) (rest : List ℕ) → text ≡ texts.line (piece ++ decimal n) ++ rest → n < 2 ^ 63 → BeginsWithNumber text piece n rest
line_of_number text piece n rest is small = (decimal n, number_word (decimal n) n refl small, is ∙ line_then (piece ++ decimal n) rest)

-- ---- actions

actions_are : (text actions rest : List ℕ) → AreActionLines text actions rest → (text ≡ texts.lines (map decimal actions) ++ rest) × All (λ action. action < 2 ^ 63) actions
actions_are text [] rest are = (are, All-nil (λ (action : ℕ). action < 2 ^ 63))
actions_are text (action ∷ actions) rest (after, begins, are) =
    let one = number_line text [] action after begins in
    let others = actions_are after actions rest are in (
      one.0 ∙ ap (λ (t : List ℕ). texts.line (decimal action) ++ t) others.0 ∙ sym (append_assoc (texts.line (decimal action)) (texts.lines (map decimal actions)) rest),
      All-cons (λ (action : ℕ). action < 2 ^ 63) action actions one.1 others.1,
    )

lines_of_actions : (text actions rest : List ℕ) → text ≡ texts.lines (map decimal actions) ++ rest → All (λ action. action < 2 ^ 63) actions → AreActionLines text actions rest
lines_of_actions text [] rest is small = is
lines_of_actions text (action ∷ actions) rest is small =
    let after : List ℕ = texts.lines (map decimal actions) ++ rest in (
      after,
      line_of_number text [] action after (is ∙ append_assoc (texts.line (decimal action)) (texts.lines (map decimal actions)) rest) (All-head (λ (action : ℕ). action < 2 ^ 63) action actions small),
      lines_of_actions after actions rest refl (All-tail (λ (action : ℕ). action < 2 ^ 63) action actions small),
    )

-- ---- rows

abbrev IsSmall : (width : ℕ) → Line → Type 0
IsSmall width row = (row.state < 16 ^ width) × (row.g < 2 ^ 63)

end_of_row : (is_closed : Bool) → closed_text is_closed ≡ (if is_closed then codes "closed" else codes "cut")
end_of_row true = refl
end_of_row false = refl

row_is : (width : ℕ) (line : List ℕ) (row : Line) → IsRowLine width line row → (line ≡ texts.line_text width row) × IsSmall width row
row_is width line row is =
    let state = state_word_is width is.state row.state is.state_is in
    let g = number_word_is is.g row.g is.g_is in (
      is.line_is ∙ ap (λ (w : List ℕ). w ++ 32 ∷ (is.g ++ 32 ∷ closed_text row.is_closed)) state.0
          ∙ ap (λ (w : List ℕ). hex_digits width row.state ++ 32 ∷ (w ++ 32 ∷ closed_text row.is_closed)) g
          ∙ ap (λ (w : List ℕ). hex_digits width row.state ++ 32 ∷ (decimal row.g ++ 32 ∷ w)) (end_of_row row.is_closed),
      (state.1, is.g_is.small),
    )

pub line_of_row : (width : ℕ) (row : Line) → IsSmall width row → IsRowLine width (texts.line_text width row) row
line_of_row width row small = record {
  state = hex_digits width row.state;
  g = decimal row.g;
  line_is = ap (λ (w : List ℕ). hex_digits width row.state ++ 32 ∷ (decimal row.g ++ 32 ∷ w)) (sym (end_of_row row.is_closed));
  state_is = state_word width (hex_digits width row.state) row.state refl small.0;
  g_is = number_word (decimal row.g) row.g refl small.1;
}

rows_are : (width : ℕ) (text : List ℕ) (rows : List Line) (rest : List ℕ) → AreRowLines width text rows rest → (text ≡ texts.lines (map (texts.line_text width) rows) ++ rest) × All (IsSmall width) rows
rows_are width text [] rest are = (are, All-nil (IsSmall width))
rows_are width text (row ∷ rows) rest (line, after, begins, is, are) =
    let one = row_is width line row is in
    let others = rows_are width after rows rest are in (
      begins ∙ ap (λ (t : List ℕ). t ++ 10 ∷ after) one.0 ∙ sym (line_then (texts.line_text width row) after)
          ∙ ap (λ (t : List ℕ). texts.line (texts.line_text width row) ++ t) others.0
          ∙ sym (append_assoc (texts.line (texts.line_text width row)) (texts.lines (map (texts.line_text width) rows)) rest),
      All-cons (IsSmall width) row rows one.1 others.1,
    )

lines_of_rows : (width : ℕ) (text : List ℕ) (rows : List Line) (rest : List ℕ) → text ≡ texts.lines (map (texts.line_text width) rows) ++ rest → All (IsSmall width) rows → AreRowLines width text rows rest
lines_of_rows width text [] rest is small = is
lines_of_rows width text (row ∷ rows) rest is small =
    let after : List ℕ = texts.lines (map (texts.line_text width) rows) ++ rest in (
      texts.line_text width row,
      after,
      is ∙ append_assoc (texts.line (texts.line_text width row)) (texts.lines (map (texts.line_text width) rows)) rest ∙ line_then (texts.line_text width row) after,
      line_of_row width row (All-head (IsSmall width) row rows small),
      lines_of_rows width after rows rest refl (All-tail (IsSmall width) row rows small),
    )

-- ---- the plan

plan_cat : (count actions cost rest : List ℕ) → ((count ++ actions) ++ cost) ++ rest ≡ count ++ (actions ++ (cost ++ rest))
plan_cat count actions cost rest = append_assoc (count ++ actions) cost rest ∙ append_assoc count actions (cost ++ rest)

plan_is : (text : List ℕ) (plan : Option Plan) (rest : List ℕ) → ArePlanLines text plan rest → (text ≡ texts.plan_text plan ++ rest) × PlanFitsIfAny plan
plan_is text None rest are = (are ∙ sym (line_then (codes "none") rest), tt)
plan_is text (Some plan) rest (actions, cost, count, are, price) =
    let first = number_line text (codes "plan ") (length plan.actions) actions count in
    let middle = actions_are actions plan.actions cost are in
    let last = number_line cost (codes "cost ") plan.cost rest price in
    let count_line : List ℕ = texts.line (codes "plan " ++ decimal (length plan.actions)) in
    let action_lines : List ℕ = texts.lines (map decimal plan.actions) in (
      first.0 ∙ ap (λ (t : List ℕ). count_line ++ t) (middle.0 ∙ ap (λ (t : List ℕ). action_lines ++ t) last.0)
          ∙ sym (plan_cat count_line action_lines (texts.line (codes "cost " ++ decimal plan.cost)) rest),
      record { count = first.1; actions = middle.1; cost = last.1 },
    )

lines_of_plan : (text : List ℕ) (plan : Option Plan) (rest : List ℕ) → text ≡ texts.plan_text plan ++ rest → PlanFitsIfAny plan → ArePlanLines text plan rest
lines_of_plan text None rest is fits = is ∙ line_then (codes "none") rest
lines_of_plan text (Some plan) rest is fits =
    let count_line : List ℕ = texts.line (codes "plan " ++ decimal (length plan.actions)) in
    let action_lines : List ℕ = texts.lines (map decimal plan.actions) in
    let cost_line : List ℕ = texts.line (codes "cost " ++ decimal plan.cost) in (
      action_lines ++ (cost_line ++ rest),
      cost_line ++ rest,
      line_of_number text (codes "plan ") (length plan.actions) (action_lines ++ (cost_line ++ rest)) (is ∙ plan_cat count_line action_lines cost_line rest) fits.count,
      lines_of_actions (action_lines ++ (cost_line ++ rest)) plan.actions (cost_line ++ rest) refl fits.actions,
      line_of_number (cost_line ++ rest) (codes "cost ") plan.cost rest refl fits.cost,
    )

-- ---- the weight

weight_is : (line : List ℕ) (weight : Weight) → IsWeightLine line weight → line ≡ codes "weight " ++ (decimal weight.num ++ 32 ∷ decimal weight.den)
weight_is line weight is =
    is.line_is ∙ ap (λ (w : List ℕ). codes "weight " ++ (w ++ 32 ∷ is.den)) (number_word_is is.num weight.num is.num_is)
    ∙ ap (λ (w : List ℕ). codes "weight " ++ (decimal weight.num ++ 32 ∷ w)) (number_word_is is.den weight.den is.den_is)

line_of_weight : (weight : Weight) → (weight.num < 2 ^ 63) × (weight.den < 2 ^ 63) → IsWeightLine (codes "weight " ++ (decimal weight.num ++ 32 ∷ decimal weight.den)) weight
line_of_weight weight small = record {
  num = decimal weight.num;
  den = decimal weight.den;
  line_is = refl;
  num_is = number_word (decimal weight.num) weight.num refl small.0;
  den_is = number_word (decimal weight.den) weight.den refl small.1;
}

-- ---- all together

-- the parts of a text, one after another and each with the rest behind it
cat : (head weight plan count rows end : List ℕ)
    → (((head ++ texts.line weight) ++ plan) ++ (texts.line count ++ rows)) ++ end
    ≡ head ++ (weight ++ 10 ∷ (plan ++ (texts.line count ++ (rows ++ end))))
cat head weight plan count rows end =
    append_assoc ((head ++ texts.line weight) ++ plan) (texts.line count ++ rows) end
    ∙ append_assoc (head ++ texts.line weight) plan ((texts.line count ++ rows) ++ end)
    ∙ append_assoc head (texts.line weight) (plan ++ ((texts.line count ++ rows) ++ end))
    ∙ ap (λ (t : List ℕ). head ++ (texts.line weight ++ (plan ++ t))) (append_assoc (texts.line count) rows end)
    ∙ ap (λ (t : List ℕ). head ++ t) (line_then weight (plan ++ (texts.line count ++ (rows ++ end))))

abbrev weight_words : Certificate → List ℕ
weight_words c = codes "weight " ++ (decimal c.weight.num ++ 32 ∷ decimal c.weight.den)

abbrev count_words : Certificate → List ℕ
count_words c = codes "rows " ++ decimal (length c.lines)

abbrev row_lines : (width : ℕ) → Certificate → List ℕ
row_lines width c = texts.lines (map (texts.line_text width) c.lines)

abbrev end_line : List ℕ
end_line = codes "end" ++ 10 ∷ []

abbrev from_rows : (width : ℕ) → Certificate → List ℕ
from_rows width c = row_lines width c ++ end_line

abbrev from_count : (width : ℕ) → Certificate → List ℕ
from_count width c = texts.line (count_words c) ++ from_rows width c

abbrev from_plan : (width : ℕ) → Certificate → List ℕ
from_plan width c = texts.plan_text c.plan ++ from_count width c

abbrev from_weight : (width : ℕ) → Certificate → List ℕ
from_weight width c = weight_words c ++ 10 ∷ from_plan width c

whole : (head : List (List ℕ)) (width : ℕ) (c : Certificate) → texts.certificate_text head width c ≡ texts.lines head ++ from_weight width c
whole head width c = cat (texts.lines head) (weight_words c) (texts.plan_text c.plan) (count_words c) (row_lines width c) end_line

pub is_spelled : (bytes : List ℕ) (text : Text) → Spells bytes text → IsSpelled bytes text.spelling text.certificate
is_spelled bytes text is =
    let c = text.certificate in
    let head = head_of text.spelling in
    let width = text.spelling.width in
    let weight = weight_is is.weight_words c.weight is.weight.1 in
    let plan = plan_is is.plan_part c.plan is.count_line is.plan in
    let count = number_line is.count_line (codes "rows ") (length c.lines) is.row_part is.count in
    let rows = rows_are width is.row_part c.lines is.end_line is.rows in
    let of_rows : is.row_part ≡ from_rows width c = rows.0 ∙ ap (λ (t : List ℕ). row_lines width c ++ t) is.end in
    let of_count : is.count_line ≡ from_count width c = count.0 ∙ ap (λ (t : List ℕ). texts.line (count_words c) ++ t) of_rows in
    let of_plan : is.plan_part ≡ from_plan width c = plan.0 ∙ ap (λ (t : List ℕ). texts.plan_text c.plan ++ t) of_count in
    let of_weight : is.weight_line ≡ from_weight width c = is.weight.0 ∙ ap (λ (t : List ℕ). t ++ 10 ∷ is.plan_part) weight ∙ ap (λ (t : List ℕ). weight_words c ++ 10 ∷ t) of_plan in
    record {
      known = is.known;
      text = is.head ∙ ap (λ (t : List ℕ). texts.lines head ++ t) of_weight ∙ sym (whole head width c);
      fits = record { weight = (is.weight.1.num_is.small, is.weight.1.den_is.small); plan = plan.1; count = count.1; lines = rows.1 };
    }

pub spells : (bytes : List ℕ) (text : Text) → IsSpelled bytes text.spelling text.certificate → text.first ≡ first_line text.spelling text.certificate.plan → Spells bytes text
spells bytes text is first =
    let c = text.certificate in
    let head = head_of text.spelling in
    let width = text.spelling.width in
    let fits = is.fits in
    record {
      weight_line = from_weight width c;
      plan_part = from_plan width c;
      count_line = from_count width c;
      row_part = from_rows width c;
      end_line = end_line;
      weight_words = weight_words c;
      known = is.known;
      head = is.text ∙ whole head width c;
      weight = (refl, line_of_weight c.weight fits.weight);
      plan = lines_of_plan (from_plan width c) c.plan (from_count width c) refl fits.plan;
      count = line_of_number (from_count width c) (codes "rows ") (length c.lines) (from_rows width c) refl fits.count;
      rows = lines_of_rows width (from_rows width c) c.lines end_line refl fits.lines;
      end = refl;
      first = first;
    }

pub read_as_spelled : ReadAsSpelled
read_as_spelled bytes text = (λ read. (is_spelled bytes text (spelled bytes text read), (spelled bytes text read).first), λ is first. readable bytes text (spells bytes text is first))

-- what is spelled so is read
pub read_of : (bytes : List ℕ) (spelling : Spelling) (c : Certificate) → IsSpelled bytes spelling c → text_of bytes ≡ Ok (record { spelling = spelling; certificate = c; first = first_line spelling c.plan })
read_of bytes spelling c is =
    let text : Text = record { spelling = spelling; certificate = c; first = first_line spelling c.plan } in
    readable bytes text (spells bytes text is refl)

pub texts_have_one_spelling : TextsHaveOneSpelling
texts_have_one_spelling bytes spelling other c d is are =
    let one : Text = record { spelling = spelling; certificate = c; first = first_line spelling c.plan } in
    let two : Text = record { spelling = other; certificate = d; first = first_line other d.plan } in
    let same : one ≡ two = ok_is one two (sym (read_of bytes spelling c is) ∙ read_of bytes other d are) in
    (ap (λ (t : Text). t.spelling) same, ap (λ (t : Text). t.certificate) same)
