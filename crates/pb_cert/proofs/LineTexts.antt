-- The lines of a certificate's text, by their numbers and one after another.
use Rattle.std.proofs.Common.{◌≡◌, ◌⊎◌, inl, inr, ℕ, zero, suc, ◌+◌, ◌-◌, ◌<◌, ◌≤◌, Option, None, Some, List, [], ◌∷◌, ◌++◌, map, length, slice_get, get_or, refl, sym, subst, ap, arith, ◌∙◌, append_assoc, append-nil, codes}
use Rattle.std.proofs.lemmas.List.{length-append, length-map}
use Rattle.std.proofs.lemmas.Option.{slice_get-get_or}
use Rattle.std.specs.Fmt.{decimal}
use Rattle.pb_packed.specs.Sizes.{most_digits}
use Rattle.pb_model.specs.Plan.{Plan}
use Rattle.pb_model.specs.Certificate.{Line, Certificate}
use Rattle.pb_model.specs.Texts.{line, lines, spaced, line_text, plan_text, weight_text, rows_text}
use Rattle.pb_print.specs.Saved.{longest_line, PutsLine}
use Rattle.pb_print.proofs.Callers.{lines-append, lines-last, puts_left, puts_right, short_enough}
use Rattle.pb_estimate.specs.declared.spelling.Spelling.{Spelling}
use Rattle.pb_estimate.specs.declared.spelling.Version.{Version}
use Rattle.pb_estimate.specs.declared.spelling.Version.TheVariants.{One, Two, Three, Four}
use Rattle.pb_estimate.specs.Choices.{Choice, Plain, Pattern, Tables}
use Rattle.pb_estimate.specs.declared.spelling.Stated.{Stated}
use Rattle.pb_estimate.specs.Spelling.{IsWidthOf, IsSpelling, version_line, kind_line, width_text, choice_text, grounding_line, plain_line, pattern_line, estimate_text, stated_text, head_of, head_lines}
use Rattle.pb_tables.specs.Tables.{TablesValue}
use Rattle.pb_table_lines.specs.Lines.{tables_lines}
use Rattle.pb_cert.specs.Stated.{SpelledCertificate, text_of, first_lines, plan_lines, rows_lines, weight_line, lines_of}

-- ---- a first line, a line for each element of a list, and a last line

module _ {X : Type 0} (f : X → List ℕ) (first last : List ℕ) where
  pub get_first : (xs : List X) (at : ℕ) → at ≡ 0 → slice_get (first ∷ (map f xs ++ last ∷ [])) at ≡ Some first
  get_first xs at e = subst (λ n. slice_get (first ∷ (map f xs ++ last ∷ [])) n ≡ Some first) (sym e) refl

  in_middle : (xs : List X) (at : ℕ) (x : X) → slice_get xs at ≡ Some x → slice_get (map f xs ++ last ∷ []) at ≡ Some (f x)
  in_middle [] at x is = absurd (none_some x is)
    where
      none_some : (x : X) → ◌≡◌ {A = Option X} None (Some x) → ⊥
      none_some x e = cc
  in_middle (y ∷ xs) zero x is = let same : y ≡ x = cc in ap (λ z. Some (f z)) same
  in_middle (y ∷ xs) (suc at) x is = in_middle xs at x is

  at_end : (xs : List X) (at : ℕ) → at ≡ length xs → slice_get (map f xs ++ last ∷ []) at ≡ Some last
  at_end [] at e = subst (λ n. slice_get (last ∷ []) n ≡ Some last) (sym e) refl
  at_end (x ∷ xs) zero e = absurd (omega (arith, e))
  at_end (x ∷ xs) (suc at) e = at_end xs at (omega (arith, e))

  pub get_middle : (xs : List X) (at : ℕ) (x : X) → 0 < at → slice_get xs (at - 1) ≡ Some x → slice_get (first ∷ (map f xs ++ last ∷ [])) at ≡ Some (f x)
  get_middle xs zero x positive is = absurd (omega (arith, positive))
  get_middle xs (suc at) x positive is = let same : suc at - 1 ≡ at = omega arith in in_middle xs at x (subst (λ n. slice_get xs n ≡ Some x) same is)

  pub get_last : (xs : List X) (at : ℕ) → length xs < at → at < length xs + 2 → slice_get (first ∷ (map f xs ++ last ∷ [])) at ≡ Some last
  get_last xs zero past within = absurd (omega (arith, past))
  get_last xs (suc at) past within = at_end xs at (omega (arith, past, within))

-- ---- all lines are the text

plan_is_text : (plan : Option Plan) → lines (plan_lines plan) ≡ plan_text plan
plan_is_text None = append-nil (line (codes "none"))
plan_is_text (Some plan) =
    ap (λ t. line (spaced (codes "plan") (decimal (length plan.actions))) ++ t) (lines-last (map decimal plan.actions) (spaced (codes "cost") (decimal plan.cost)))
    ∙ sym (append_assoc (line (spaced (codes "plan") (decimal (length plan.actions)))) (lines (map decimal plan.actions)) (line (spaced (codes "cost") (decimal plan.cost))))

rows_are_text : (digits : ℕ) (certificate : Certificate) → lines (rows_lines digits certificate) ≡ rows_text digits certificate.lines ++ line (codes "end")
rows_are_text digits certificate =
    ap (λ t. line (spaced (codes "rows") (decimal (length certificate.lines))) ++ t) (lines-last (map (line_text digits) certificate.lines) (codes "end"))
    ∙ sym (append_assoc (line (spaced (codes "rows") (decimal (length certificate.lines)))) (lines (map (line_text digits) certificate.lines)) (line (codes "end")))

joined : (head weight plan rows end : List ℕ) → (head ++ (weight ++ [])) ++ plan ++ (rows ++ end) ≡ head ++ weight ++ plan ++ rows ++ end
joined head weight plan rows end = simp (append_assoc, append-nil) refl

pub lines_are_text : (spelled : SpelledCertificate) → lines (lines_of spelled) ≡ text_of spelled
unfolding lines_of
lines_are_text spelled =
    let c : Certificate = spelled.certificate in
    let width : ℕ = spelled.spelling.width in
    let head : List (List ℕ) = head_of spelled.spelling in
    let first : List (List ℕ) = first_lines spelled in
    let plan : List (List ℕ) = plan_lines c.plan in
    let rows : List (List ℕ) = rows_lines width c in
    lines-append (first ++ plan) rows ∙ ap (λ t. t ++ lines rows) (lines-append first plan)
    ∙ ap (λ t. t ++ lines plan ++ lines rows) (lines-append head (weight_line c.weight ∷ []))
    ∙ ap (λ t. (lines head ++ (weight_text c.weight ++ [])) ++ t ++ lines rows) (plan_is_text c.plan)
    ∙ ap (λ t. (lines head ++ (weight_text c.weight ++ [])) ++ plan_text c.plan ++ t) (rows_are_text width c)
    ∙ joined (lines head) (weight_text c.weight) (plan_text c.plan) (rows_text width c.lines) (line (codes "end"))

-- ---- a line that was put

module _ (old new : List ℕ) (spelling : Spelling) (at : ℕ) where
  pub version_put : at ≡ 0 → new ≡ old ++ line (version_line spelling.version) → length new ≤ length old + longest_line → PutsLine old new (head_of spelling) at
  version_put zeroth e short =
      (version_line spelling.version, subst (λ n. slice_get (head_of spelling) n ≡ Some (version_line spelling.version)) (sym zeroth) refl, e, short)

  pub kind_put : at ≡ 1 → new ≡ old ++ line (kind_line spelling.kind) → length new ≤ length old + longest_line → PutsLine old new (head_of spelling) at
  kind_put first e short =
      (kind_line spelling.kind, subst (λ n. slice_get (head_of spelling) n ≡ Some (kind_line spelling.kind)) (sym first) refl, e, short)

  pub width_put : 2 ≤ at → PutsLine old new (width_text spelling.version spelling.width) (at - 2) → PutsLine old new (head_of spelling) at
  width_put past puts =
      let width = width_text spelling.version spelling.width in
      let stated = stated_text spelling.version spelling.width spelling.stated in
      puts_right old new (version_line spelling.version ∷ kind_line spelling.kind ∷ []) (width ++ stated) at (at - 2) past refl (puts_left old new width stated (at - 2) puts)

  pub stated_put : (widths : ℕ) → widths ≡ length (width_text spelling.version spelling.width) → 2 + widths ≤ at → PutsLine old new (stated_text spelling.version spelling.width spelling.stated) (at - 2 - widths) → PutsLine old new (head_of spelling) at
  stated_put widths counted past puts =
      let width = width_text spelling.version spelling.width in
      let stated = stated_text spelling.version spelling.width spelling.stated in
      puts_right old new (version_line spelling.version ∷ kind_line spelling.kind ∷ []) (width ++ stated) at (at - 2) (omega (arith, past)) refl
      (puts_right old new width stated (at - 2) (at - 2 - widths) (omega (arith, counted, past)) (omega (arith, counted)) puts)

-- how many lines come before the weight
pub head_counted : (spelling : Spelling) → head_lines spelling ≡ 2 + length (width_text spelling.version spelling.width) + length (stated_text spelling.version spelling.width spelling.stated)
head_counted spelling = let both = length-append (width_text spelling.version spelling.width) (stated_text spelling.version spelling.width spelling.stated) in omega (arith, both)

-- the line that says how many digits a state has, if there is one
pub no_width_put : (old new : List ℕ) (version : Version) (width at : ℕ) → version ≡ One → at < length (width_text version width) → PutsLine old new (width_text version width) at
no_width_put old new One width at is within = absurd (omega (arith, within))
no_width_put old new Two width at is within = absurd cc
no_width_put old new Three width at is within = absurd cc
no_width_put old new Four width at is within = absurd cc

-- the one line of a word and a number
pub one_number_put : (old new word : List ℕ) (n at number : ℕ) → number ≡ n → at < 1 → new ≡ old ++ line (spaced word (decimal number)) → length new ≤ length old + longest_line
    → PutsLine old new (spaced word (decimal n) ∷ []) at
one_number_put old new word n at number same within e short =
    let text : List ℕ = spaced word (decimal n) in
    let zeroth : at ≡ 0 = omega (arith, within) in
    (text, subst (λ n. slice_get (text ∷ []) n ≡ Some text) (sym zeroth) refl, e ∙ ap (λ n. old ++ line (spaced word (decimal n))) same, short)

pub one_width_put : (old new : List ℕ) (version : Version) (width at number : ℕ) → number ≡ width → at < length (width_text version width) → new ≡ old ++ line (spaced (codes "width") (decimal number)) → length new ≤ length old + longest_line
    → PutsLine old new (width_text version width) at
one_width_put old new One width at number same within e short = absurd (omega (arith, within))
one_width_put old new Two width at number same within e short = one_number_put old new (codes "width") width at number same within e short
one_width_put old new Three width at number same within e short = one_number_put old new (codes "width") width at number same within e short
one_width_put old new Four width at number same within e short = one_number_put old new (codes "width") width at number same within e short

-- the line that says the number of a pattern in version 3, if there is one
pub no_pattern_put : (old new : List ℕ) (choice other : Choice) (at : ℕ) → choice ≡ other → choice_text other ≡ [] → at < length (choice_text choice) → PutsLine old new (choice_text choice) at
no_pattern_put old new choice other at is none within =
    let long : length (choice_text choice) ≡ 0 = ap (λ c. length (choice_text c)) is ∙ ap length none in absurd (omega (arith, within, long))

pub pattern_put : (old new : List ℕ) (choice : Choice) (number at : ℕ) → choice ≡ Pattern number → at < length (choice_text choice) → new ≡ old ++ line (spaced (codes "pattern") (decimal number)) → length new ≤ length old + longest_line
    → PutsLine old new (choice_text choice) at
pattern_put old new choice number at is within e short =
    subst (λ c. PutsLine old new (choice_text c) at) (sym is)
    (one_number_put old new (codes "pattern") number at number refl (subst (λ c. at < length (choice_text c)) is within) e short)

-- a line that says the choice of an estimate in version 4
module _ (old new : List ℕ) (width : ℕ) (choice : Choice) (at : ℕ) where
  pub plain_put : choice ≡ Plain → at < length (estimate_text width choice) → new ≡ old ++ line plain_line → PutsLine old new (estimate_text width choice) at
  plain_put is within e =
      let one : at < 1 = subst (λ c. at < length (estimate_text width c)) is within in
      let zeroth : at ≡ 0 = omega (arith, one) in
      subst (λ c. PutsLine old new (estimate_text width c) at) (sym is)
      (plain_line, subst (λ n. slice_get (plain_line ∷ []) n ≡ Some plain_line) (sym zeroth) refl, e, short_enough old new (line plain_line) e (omega arith))

  pub number_put : (number : ℕ) → choice ≡ Pattern number → at < length (estimate_text width choice) → new ≡ old ++ line (pattern_line number) → length new ≤ length old + longest_line → PutsLine old new (estimate_text width choice) at
  number_put number is within e short =
      subst (λ c. PutsLine old new (estimate_text width c) at) (sym is)
      (one_number_put old new (codes "estimate pattern") number at number refl (subst (λ c. at < length (estimate_text width c)) is within) e short)

  pub tables_put : (tables : TablesValue) → choice ≡ Tables tables → PutsLine old new (tables_lines width tables) at → PutsLine old new (estimate_text width choice) at
  tables_put tables is puts = subst (λ c. PutsLine old new (estimate_text width c) at) (sym is) puts

-- the lines of what version 4 states besides
module _ (old new : List ℕ) (width : ℕ) (stated : Stated) (at : ℕ) where
  pub grounding_put : at ≡ 0 → new ≡ old ++ line (grounding_line stated.grounding) → length new ≤ length old + longest_line → PutsLine old new (stated_text Four width stated) at
  grounding_put zeroth e short =
      (grounding_line stated.grounding, subst (λ n. slice_get (stated_text Four width stated) n ≡ Some (grounding_line stated.grounding)) (sym zeroth) refl, e, short)

  pub estimate_put : (at ≡ 0 → ⊥) → PutsLine old new (estimate_text width stated.choice) (at - 1) → PutsLine old new (stated_text Four width stated) at
  estimate_put other puts = puts_right old new (grounding_line stated.grounding ∷ []) (estimate_text width stated.choice) at (at - 1) (grind (arith, other)) refl puts

-- what a version states besides, where it is known
module _ (old new : List ℕ) (version : Version) (width : ℕ) (stated : Stated) (at : ℕ) where
  pub one_put : (other : Version) → version ≡ other → PutsLine old new (stated_text other width stated) at → PutsLine old new (stated_text version width stated) at
  one_put other is puts = subst (λ v. PutsLine old new (stated_text v width stated) at) (sym is) puts

-- versions 1 and 2 state nothing besides
pub none_stated : (version : Version) (width : ℕ) (stated : Stated) (at : ℕ) → (version ≡ One) ⊎ (version ≡ Two) → at < length (stated_text version width stated) → ⊥
none_stated version width stated at (inl one) within =
    let none : at < 0 = subst (λ v. at < length (stated_text v width stated)) one within in omega (arith, none)
none_stated version width stated at (inr two) within =
    let none : at < 0 = subst (λ v. at < length (stated_text v width stated)) two within in omega (arith, none)

module _ (old new : List ℕ) (spelled : SpelledCertificate) (at : ℕ) where
  first_counted : length (first_lines spelled) ≡ head_lines spelled.spelling + 1
  first_counted = length-append (head_of spelled.spelling) (weight_line spelled.certificate.weight ∷ [])

  pub head_put : PutsLine old new (head_of spelled.spelling) at → PutsLine old new (first_lines spelled) at
  head_put puts = puts_left old new (head_of spelled.spelling) (weight_line spelled.certificate.weight ∷ []) at puts

  pub weight_put : head_lines spelled.spelling ≤ at → at < length (first_lines spelled) → new ≡ old ++ line (weight_line spelled.certificate.weight) → length new ≤ length old + longest_line
      → PutsLine old new (first_lines spelled) at
  weight_put past within e short =
      puts_right old new (head_of spelled.spelling) (weight_line spelled.certificate.weight ∷ []) at 0 past (omega (arith, past, within, first_counted)) (weight_line spelled.certificate.weight, refl, e, short)

pub first_is_counted : (spelled : SpelledCertificate) → length (first_lines spelled) ≡ head_lines spelled.spelling + 1
first_is_counted spelled = first_counted [] [] spelled 0

pub none_put : (old new : List ℕ) (plan : Option Plan) (at : ℕ) → plan ≡ None → at < length (plan_lines plan) → new ≡ old ++ line (codes "none") → PutsLine old new (plan_lines plan) at
none_put old new (Some plan) at none within e = absurd (some_none plan none)
  where
    some_none : (plan : Plan) → ◌≡◌ {A = Option Plan} (Some plan) None → ⊥
    some_none plan e = cc
none_put old new None at none within e =
    let zeroth : at ≡ 0 = omega (arith, within) in
    (codes "none", subst (λ n. slice_get (plan_lines None) n ≡ Some (codes "none")) (sym zeroth) refl, e, short_enough old new (line (codes "none")) e (omega arith))

module _ (old new : List ℕ) (plan : Plan) (at : ℕ) where
  pub steps_put : (actions : List ℕ) → actions ≡ plan.actions → at ≡ 0 → new ≡ old ++ line (spaced (codes "plan") (decimal (length actions))) → length new ≤ length old + longest_line → PutsLine old new (plan_lines (Some plan)) at
  steps_put actions same zeroth e short =
      let first : List ℕ = spaced (codes "plan") (decimal (length plan.actions)) in (
        first,
        get_first decimal first (spaced (codes "cost") (decimal plan.cost)) plan.actions at zeroth,
        subst (λ xs. new ≡ old ++ line (spaced (codes "plan") (decimal (length xs)))) same e,
        short,
      )

  pub action_put : (actions : List ℕ) → actions ≡ plan.actions → (at ≡ 0 → ⊥) → at ≤ length actions → new ≡ old ++ line (decimal (get_or actions (at - 1) 0)) → length new ≤ length old + longest_line
      → PutsLine old new (plan_lines (Some plan)) at
  action_put actions same positive within e short =
      let action : ℕ = get_or actions (at - 1) 0 in
      let found : slice_get actions (at - 1) ≡ Some action = slice_get-get_or actions (at - 1) 0 (grind (arith, positive, within)) in (
        decimal action,
        get_middle decimal (spaced (codes "plan") (decimal (length plan.actions))) (spaced (codes "cost") (decimal plan.cost)) plan.actions at action (grind (arith, positive))
            (subst (λ xs. slice_get xs (at - 1) ≡ Some action) same found),
        e,
        short,
      )

  pub cost_put : (actions : List ℕ) (cost : ℕ) → actions ≡ plan.actions → cost ≡ plan.cost → length actions < at → at < length plan.actions + 2 → new ≡ old ++ line (spaced (codes "cost") (decimal cost)) → length new ≤ length old + longest_line
      → PutsLine old new (plan_lines (Some plan)) at
  cost_put actions cost same is past within e short =
      let last : List ℕ = spaced (codes "cost") (decimal plan.cost) in (
        last,
        get_last decimal (spaced (codes "plan") (decimal (length plan.actions))) last plan.actions at (subst (λ xs. length xs < at) same past) within,
        subst (λ n. new ≡ old ++ line (spaced (codes "cost") (decimal n))) is e,
        short,
      )

module _ (old new : List ℕ) (digits : ℕ) (certificate : Certificate) (at : ℕ) where
  pub count_put : (rows : ℕ) → rows ≡ length certificate.lines → at ≡ 0 → new ≡ old ++ line (spaced (codes "rows") (decimal rows)) → length new ≤ length old + longest_line → PutsLine old new (rows_lines digits certificate) at
  count_put rows same zeroth e short =
      let first : List ℕ = spaced (codes "rows") (decimal (length certificate.lines)) in
      (first, get_first (line_text digits) first (codes "end") certificate.lines at zeroth, subst (λ n. new ≡ old ++ line (spaced (codes "rows") (decimal n))) same e, short)

  pub row_put : (row : Line) (width : ℕ) → width ≡ digits → (at ≡ 0 → ⊥) → slice_get certificate.lines (at - 1) ≡ Some row → new ≡ old ++ line (line_text width row) → length new ≤ length old + longest_line → PutsLine old new (rows_lines digits certificate) at
  row_put row width same positive found e short = (
    line_text digits row,
    get_middle (line_text digits) (spaced (codes "rows") (decimal (length certificate.lines))) (codes "end") certificate.lines at row (grind (arith, positive)) found,
    e ∙ ap (λ n. old ++ line (line_text n row)) same,
    short,
  )

  pub end_put : length certificate.lines < at → at < length (rows_lines digits certificate) → new ≡ old ++ line (codes "end") → PutsLine old new (rows_lines digits certificate) at
  end_put past within e =
      let all : length (rows_lines digits certificate) ≡ length certificate.lines + 2 = counted certificate.lines (spaced (codes "rows") (decimal (length certificate.lines))) in (
        codes "end",
        get_last (line_text digits) (spaced (codes "rows") (decimal (length certificate.lines))) (codes "end") certificate.lines at past (omega (arith, all, within)),
        e,
        short_enough old new (line (codes "end")) e (omega arith),
      )
    where
      counted : (rows : List Line) (first : List ℕ) → length (first ∷ (map (line_text digits) rows ++ codes "end" ∷ [])) ≡ length rows + 2
      counted rows first = simp (length-append, length-map) (omega arith)

-- a state has 1 to 256 digits
width_of_version : (version : Version) (width : ℕ) → IsWidthOf version width → (1 ≤ width) × (width ≤ most_digits)
width_of_version One width is = (omega (arith, is), omega (arith, is))
width_of_version Two width is = is
width_of_version Three width is = is
width_of_version Four width is = is

pub width_of_spelling : (spelling : Spelling) → IsSpelling spelling → (1 ≤ spelling.width) × (spelling.width ≤ most_digits)
width_of_spelling spelling is = width_of_version spelling.version spelling.width is.width

module _ (old new : List ℕ) (spelled : SpelledCertificate) (at first : ℕ) (counted : first ≡ length (first_lines spelled)) where
  pub first_line_put : PutsLine old new (first_lines spelled) at → PutsLine old new (lines_of spelled) at
  unfolding lines_of
  first_line_put puts =
      puts_left old new (first_lines spelled ++ plan_lines spelled.certificate.plan) (rows_lines spelled.spelling.width spelled.certificate) at
      (puts_left old new (first_lines spelled) (plan_lines spelled.certificate.plan) at puts)

  pub plan_line_put : first ≤ at → PutsLine old new (plan_lines spelled.certificate.plan) (at - first) → PutsLine old new (lines_of spelled) at
  unfolding lines_of
  plan_line_put le puts =
      puts_left old new (first_lines spelled ++ plan_lines spelled.certificate.plan) (rows_lines spelled.spelling.width spelled.certificate) at
      (puts_right old new (first_lines spelled) (plan_lines spelled.certificate.plan) at (at - first) (omega (arith, counted, le)) (omega (arith, counted)) puts)

  pub rows_line_put : (plan : ℕ) → plan ≡ length (plan_lines spelled.certificate.plan) → first + plan ≤ at → PutsLine old new (rows_lines spelled.spelling.width spelled.certificate) (at - first - plan) → PutsLine old new (lines_of spelled) at
  unfolding lines_of
  rows_line_put plan count le puts =
      let all : length (first_lines spelled ++ plan_lines spelled.certificate.plan) ≡ first + plan = length-append (first_lines spelled) (plan_lines spelled.certificate.plan) ∙ omega (arith, count, counted) in
      puts_right old new (first_lines spelled ++ plan_lines spelled.certificate.plan) (rows_lines spelled.spelling.width spelled.certificate) at (at - first - plan) (omega (arith, all, le)) (omega (arith, all)) puts

-- ---- how many lines there are

rows_counted : (digits : ℕ) (certificate : Certificate) → length (rows_lines digits certificate) ≡ length certificate.lines + 2
rows_counted digits certificate = simp (length-append, length-map) (omega arith)

pub lines_counted : (spelled : SpelledCertificate) (first plan : ℕ) → first ≡ length (first_lines spelled) → plan ≡ length (plan_lines spelled.certificate.plan) → length (lines_of spelled) ≡ first + plan + length spelled.certificate.lines + 2
unfolding lines_of
lines_counted spelled first plan counted e =
    length-append (first_lines spelled ++ plan_lines spelled.certificate.plan) (rows_lines spelled.spelling.width spelled.certificate)
    ∙ ap (λ n. n + length (rows_lines spelled.spelling.width spelled.certificate)) (length-append (first_lines spelled) (plan_lines spelled.certificate.plan))
    ∙ omega (arith, counted, e, rows_counted spelled.spelling.width spelled.certificate)

pub rest_within : (spelled : SpelledCertificate) (at first plan : ℕ) → first ≡ length (first_lines spelled) → plan ≡ length (plan_lines spelled.certificate.plan) → at < length (lines_of spelled) → first + plan ≤ at
    → at - first - plan < length (rows_lines spelled.spelling.width spelled.certificate)
rest_within spelled at first plan counted e within past = omega (arith, lines_counted spelled first plan counted e, rows_counted spelled.spelling.width spelled.certificate, within, past)
