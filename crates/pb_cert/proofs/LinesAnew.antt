-- A certificate that was read, line by line as it is saved anew.
use Rattle.std.proofs.Common.{◌≡◌, ◌≢◌, ◌⊎◌, inl, inr, ℕ, zero, suc, ◌+◌, ◌-◌, ◌^◌, ◌<◌, ◌≤◌, true, Option, None, Some, List, [], ◌∷◌, ◌++◌, length, drop, take, map, codes, slice_get, get_or, Result, Ok, Err, refl, sym, ap, ◌∙◌, subst, arith}
use Rattle.std.specs.Prelude.{option_map, All}
use Rattle.std.specs.List.{AllByRecursion}
use Rattle.std.specs.Fmt.{decimal}
use Rattle.std.proofs.lemmas.Bool.Decides.{nat_tests}
use Rattle.std.proofs.lemmas.List.{append_assoc, length-append, length-map, length-drop, drop_at, drop_more, take-append-drop, take_all}
use Rattle.std.proofs.lemmas.List.Elements.{recursion_from_All}
use Rattle.std.proofs.lemmas.Option.{slice_get-map, slice_get-get_or, same_Some}
use Rattle.pb_packed.specs.Sizes.{most_digits}
use Rattle.pb_model.specs.Certificate.{Certificate}
use Rattle.pb_model.specs.Texts.{line, lines, spaced}
use Rattle.pb_task.specs.declared.kind.Kind.{Kind}
use Rattle.pb_task.specs.declared.kind.Kind.TheVariants.{Grid, Tiles, Strips}
use Rattle.pb_task.specs.declared.grounding.Grounding.{Grounding}
use Rattle.pb_task.specs.declared.parts.TaskParts.{TaskParts}
use Rattle.pb_task.specs.Parts.{IsTask}
use Rattle.pb_task.specs.Widths.{width_of, StatesFitTheirWidth}
use Rattle.pb_estimate.specs.Choices.{Choice, Plain, Pattern, Tables}
use Rattle.pb_estimate.specs.declared.spelling.Spelling.{Spelling}
use Rattle.pb_estimate.specs.declared.spelling.Version.{Version}
use Rattle.pb_estimate.specs.declared.spelling.Version.TheVariants.{One, Two, Three, Four}
use Rattle.pb_estimate.specs.Spelling.{IsWidthOf, StatesChoice, StatesGrounding, IsVersionFor, IsSpelling}
use Rattle.pb_estimate.specs.Spelling.{version_line, kind_line, width_text, stated_text}
use Rattle.pb_lines.specs.Words.{part, behind, has_none, line_feeds}
use Rattle.pb_lines.proofs.Callers.{part_again, one_feed, behind_again}
use Rattle.pb_print.specs.Saved.{longest_line, PutsLine}
use Rattle.pb_check.specs.declared.fault.Verdict.{Verdict}
use Rattle.pb_check.specs.Reading.{Text}
use Rattle.pb_check.specs.Reading as reading
use Rattle.pb_check.specs.Spelling.{Fits, IsSpelled, ReadAsSpelled, HasWidthOf}
use Rattle.pb_check.specs.Shown.{IsAccepted}
use Rattle.pb_check.specs.declared.fault.CertificateFault.{CertificateFault}
use Rattle.pb_check.specs.declared.fault.CheckError.TheVariants as errors
use Rattle.pb_check.specs.Judging.{checked}
use Rattle.pb_check.proofs.Callers.{gives_accepted}
use Rattle.pb_cert.specs.Stated.{SpelledCertificate, lines_of, weight_line, plan_lines, rows_lines}
use Rattle.pb_cert.specs.Rewritten.{version_anew, saved_anew, text_anew, rewritten_text, respelled_line, lines_anew, lines_read, Rewritten, CanBeRewritten, lines_before, Begins}
use Rattle.pb_cert.proofs.LineTexts.{lines_are_text}
use Rattle.pb_cert.proofs.GoodLines.{IsGood, AreGood, good_at, some_line, lines_good}
use Rattle.pb_cert.proofs.Respelled.{RowFits, rest_lines, rest_respelled, kept}

-- ---- a line at a place of a text

pub line_found : (first : List ℕ) (rest : List (List ℕ)) → has_none 10 first ≡ true → part 10 (lines (first ∷ rest)) ≡ Some (first, lines rest)
line_found first rest none = ap (part 10) (append_assoc first (10 ∷ []) (lines rest)) ∙ part_again 10 first (lines rest) none

pub feeds_are : (texts : List (List ℕ)) → AreGood texts → line_feeds (lines texts) ≡ length texts
feeds_are [] are = refl
feeds_are (text ∷ texts) are = one_feed (lines (text ∷ texts)) text (lines texts) (line_found text texts are.0.0) ∙ ap suc (feeds_are texts are.1)

same_pair : (a b c d : List ℕ) → ◌≡◌ {A = Option (List ℕ × List ℕ)} (Some (a, b)) (Some (c, d)) → (a ≡ c) × (b ≡ d)
same_pair a b c d e =
    let p : ◌≡◌ {A = List ℕ × List ℕ} (a, b) (c, d) = same_Some (a, b) (c, d) e in
    (ap (λ (x : List ℕ × List ℕ). x.0) p, ap (λ (x : List ℕ × List ℕ). x.1) p)

-- the line that was cut off, and the text behind it
pub cut_line : (text front back : List ℕ) (first : List ℕ) (rest : List (List ℕ)) → part 10 text ≡ Some (front, back) → text ≡ lines (first ∷ rest) → has_none 10 first ≡ true
    → (front ≡ first) × (back ≡ lines rest)
cut_line text front back first rest cut is none = same_pair front back first (lines rest) (sym cut ∙ ap (part 10) is ∙ line_found first rest none)

pub not_uncut : (text first : List ℕ) (rest : List (List ℕ)) → part 10 text ≡ None → text ≡ lines (first ∷ rest) → has_none 10 first ≡ true → ⊥
not_uncut text first rest uncut is none = absurd (no_pair (first, lines rest) (sym uncut ∙ ap (part 10) is ∙ line_found first rest none))
  where
    no_pair : (x : List ℕ × List ℕ) → ◌≡◌ {A = Option (List ℕ × List ℕ)} None (Some x) → ⊥
    no_pair x e = cc

-- a slice from a byte on
pub whole_rest : (bytes : List ℕ) (begin : ℕ) → take (length bytes - begin) (drop begin bytes) ≡ drop begin bytes
whole_rest bytes begin = take_all (length bytes - begin) (drop begin bytes) (let long = length-drop begin bytes in omega (arith, long))

-- what is behind the line is behind a later byte
pub later_begin : (bytes back : List ℕ) (begin next : ℕ) (first : List ℕ) (rest : List (List ℕ)) → drop begin bytes ≡ lines (first ∷ rest) → back ≡ lines rest → next ≡ length bytes - length back
    → (next ≤ length bytes) × (drop next bytes ≡ lines rest)
later_begin bytes back begin next first rest is behind_it at =
    let front : List ℕ = take begin bytes ++ line first in
    let whole : bytes ≡ front ++ lines rest = sym (take-append-drop begin bytes) ∙ ap (λ t. take begin bytes ++ t) is ∙ sym (append_assoc (take begin bytes) (line first) (lines rest)) in
    let sum : length bytes ≡ length front + length (lines rest) = ap length whole ∙ length-append front (lines rest) in
    let same : length back ≡ length (lines rest) = ap length behind_it in (
      omega (arith, at),
      ap (drop next) whole ∙ drop_at front (lines rest) next (omega (arith, sum, same, at)),
    )

-- ---- the lines that are saved by those that were read

abbrev pub spelled_of : Text → SpelledCertificate
spelled_of text = record { spelling = text.spelling; certificate = text.certificate }

abbrev pub width_line : ℕ → List ℕ
width_line width = spaced (codes "width") (decimal width)

-- a text of version 1 in version 2
abbrev in_version_2 : (width : ℕ) → Text → SpelledCertificate
in_version_2 width text = record {
  spelling = record text.spelling { version = Two; width = width };
  certificate = text.certificate;
}

saved_in_2 : (width : ℕ) (text : Text) → text.spelling.version ≡ One → saved_anew width text ≡ in_version_2 width text
saved_in_2 width text version = λ i. record {
  spelling = record text.spelling { version = version_anew (version i); width = width };
  certificate = text.certificate;
}

first_in_2 : (width : ℕ) (text : Text) → slice_get (lines_of (in_version_2 width text)) 0 ≡ Some (version_line Two)
unfolding lines_of
first_in_2 width text = refl

third_in_2 : (width : ℕ) (text : Text) → slice_get (lines_of (in_version_2 width text)) 2 ≡ Some (width_line width)
unfolding lines_of
third_in_2 width text = refl

pub first_saved : (width : ℕ) (text : Text) → text.spelling.version ≡ One → slice_get (lines_of (saved_anew width text)) 0 ≡ Some (version_line Two)
first_saved width text version = ap (λ (c : SpelledCertificate). slice_get (lines_of c) 0) (saved_in_2 width text version) ∙ first_in_2 width text

pub third_saved : (width : ℕ) (text : Text) → text.spelling.version ≡ One → slice_get (lines_of (saved_anew width text)) 2 ≡ Some (width_line width)
third_saved width text version = ap (λ (c : SpelledCertificate). slice_get (lines_of c) 2) (saved_in_2 width text version) ∙ third_in_2 width text

at_least : (width : ℕ) (text : Text) → 1 ≤ length (lines_of (saved_anew width text))
unfolding lines_of
at_least width text = omega arith

two_read : (text : Text) → lines_of (spelled_of text) ≡ version_line text.spelling.version ∷ kind_line text.spelling.kind ∷ drop 2 (lines_of (spelled_of text))
unfolding lines_of
two_read text = refl

module _ (width : ℕ) (text : Text) (version : text.spelling.version ≡ One) (known : IsSpelling text.spelling) (fits : Fits text.spelling.width text.certificate)
    (states : All (λ row. row.state < 16 ^ width) text.certificate.lines) where
  digits : text.spelling.width ≡ 64
  digits = subst (λ v. IsWidthOf v text.spelling.width) version known.width

  fit : Fits 64 text.certificate
  fit = subst (λ w. Fits w text.certificate) digits fits

  rows_fit : AllByRecursion (RowFits width) text.certificate.lines
  rows_fit = recursion_from_All (RowFits width) text.certificate.lines (λ k d less. ((fit.lines k d less).0, states k d less, (fit.lines k d less).1))

  rest_read : drop 2 (lines_of (spelled_of text)) ≡ rest_lines 64 text.certificate
  unfolding lines_of
  rest_read = λ i. (((width_text (version i) (digits i) ++ stated_text (version i) (digits i) text.spelling.stated) ++ weight_line text.certificate.weight ∷ []) ++ plan_lines text.certificate.plan)
      ++ rows_lines (digits i) text.certificate

  rest_saved : lines_of (in_version_2 width text) ≡ version_line Two ∷ kind_line text.spelling.kind ∷ width_line width ∷ rest_lines width text.certificate
  unfolding lines_of
  rest_saved = refl

  pub respelled : lines_of (saved_anew width text) ≡ version_line Two ∷ kind_line text.spelling.kind ∷ width_line width ∷ map (respelled_line width) (drop 2 (lines_of (spelled_of text)))
  respelled = ap lines_of (saved_in_2 width text version) ∙ rest_saved ∙ ap (λ t. version_line Two ∷ kind_line text.spelling.kind ∷ width_line width ∷ t)
      (sym (rest_respelled width text.certificate fit rows_fit) ∙ ap (map (respelled_line width)) (sym rest_read))

  pub one_line_more : length (lines_of (saved_anew width text)) ≡ length (lines_of (spelled_of text)) + 1
  one_line_more =
      let more = ap length respelled in
      let same = length-map (drop 2 (lines_of (spelled_of text))) (respelled_line width) in
      let read = ap length (two_read text) in
      omega (arith, more, same, read)

  -- a later line is one that was read, with the digits of its state
  pub later_saved : (at : ℕ) (first : List ℕ) → 3 ≤ at → slice_get (lines_of (spelled_of text)) (at - 1) ≡ Some first → slice_get (lines_of (saved_anew width text)) at ≡ Some (respelled_line width first)
  later_saved zero first past found = absurd (omega (arith, past))
  later_saved (suc zero) first past found = absurd (omega (arith, past))
  later_saved (suc (suc zero)) first past found = absurd (omega (arith, past))
  later_saved (suc (suc (suc at))) first past found =
      let rest : List (List ℕ) = drop 2 (lines_of (spelled_of text)) in
      let place : suc (suc (suc at)) - 1 ≡ suc (suc at) = omega arith in
      let there : slice_get rest at ≡ Some first = sym (ap (λ t. slice_get t (suc (suc at))) (two_read text)) ∙ ap (slice_get (lines_of (spelled_of text))) (sym place) ∙ found in
      ap (λ t. slice_get t (suc (suc (suc at)))) respelled ∙ slice_get-map (respelled_line width) rest at ∙ ap (option_map (respelled_line width)) there

  -- the line of the kind is the one that was read
  pub second_saved : (first : List ℕ) → slice_get (lines_of (spelled_of text)) 1 ≡ Some first → slice_get (lines_of (saved_anew width text)) 1 ≡ Some (respelled_line width first)
  second_saved first found =
      let is : kind_line text.spelling.kind ≡ first = some_line (kind_line text.spelling.kind) first (sym (ap (λ t. slice_get t 1) (two_read text)) ∙ found) in
      let short : length first ≤ 64 = subst (λ t. length t ≤ 64) is (kind_short text.spelling.kind) in
      ap (λ t. slice_get t 1) respelled ∙ ap (λ t. Some t) (is ∙ sym (kept width first short))
    where
      kind_short : (kind : Kind) → length (kind_line kind) ≤ 64
      kind_short Grid = omega arith
      kind_short Tiles = omega arith
      kind_short Strips = omega arith

-- ---- the next line of what was read

abbrev pub line_at : List (List ℕ) → (at : ℕ) → List ℕ
line_at texts at = get_or texts at []

pub record IsNext (bytes : List ℕ) (texts : List (List ℕ)) (before begin : ℕ) : Type 0 where
  pub found : slice_get texts before ≡ Some (line_at texts before)
  pub good : IsGood (line_at texts before)
  pub here : drop begin bytes ≡ lines (line_at texts before ∷ drop (before + 1) texts)

is_next : (bytes : List ℕ) (texts : List (List ℕ)) (before begin : ℕ) → AreGood texts → before < length texts → drop begin bytes ≡ lines (drop before texts) → IsNext bytes texts before begin
is_next bytes texts before begin are within is =
    let found : slice_get texts before ≡ Some (line_at texts before) = slice_get-get_or texts before [] within in
    record { found = found; good = good_at texts before (line_at texts before) are found; here = is ∙ ap lines (drop_more texts before [] within) }

-- a version is 1, or stays
one_or_later : (v : Version) → (v ≡ One) ⊎ (v ≢ One)
one_or_later One = inl refl
one_or_later Two = inr (λ e. cc)
one_or_later Three = inr (λ e. cc)
one_or_later Four = inr (λ e. cc)

stays : (v : Version) → v ≢ One → version_anew v ≡ v
stays One later = absurd (later refl)
stays Two later = refl
stays Three later = refl
stays Four later = refl

-- and states what it stated, if the states keep their digits. Version 1 states nothing.
states_anew : (v : Version) (width anew : ℕ) (choice : Choice) → (v ≢ One → width ≡ anew) → StatesChoice v width choice → StatesChoice (version_anew v) anew choice
states_anew One width anew Plain same states = tt
states_anew One width anew (Pattern number) same states = absurd states
states_anew One width anew (Tables tables) same states = absurd states
states_anew Two width anew choice same states = subst (λ w. StatesChoice Two w choice) (same (λ e. cc)) states
states_anew Three width anew choice same states = subst (λ w. StatesChoice Three w choice) (same (λ e. cc)) states
states_anew Four width anew choice same states = subst (λ w. StatesChoice Four w choice) (same (λ e. cc)) states

grounding_anew : (v : Version) (grounding : Grounding) → StatesGrounding v grounding → StatesGrounding (version_anew v) grounding
grounding_anew One grounding states = states
grounding_anew Two grounding states = states
grounding_anew Three grounding states = states
grounding_anew Four grounding states = states

kind_anew : (v : Version) (kind : Kind) → IsVersionFor v kind → IsVersionFor (version_anew v) kind
kind_anew One kind suits = suits
kind_anew Two kind suits = suits
kind_anew Three kind suits = suits
kind_anew Four kind suits = suits

-- the lines before the next one
before_first : lines_before One 0 ≡ 0
before_first = refl

before_same : (v : Version) → v ≢ One → (at : ℕ) → lines_before v at ≡ at
before_same One later at = absurd (later refl)
before_same Two later at = refl
before_same Three later at = refl
before_same Four later at = refl

before_later : (at : ℕ) → 3 ≤ at → lines_before One at ≡ at - 1
before_later at past = grind (arith, nat_tests, past)

before_next : (at : ℕ) → (at ≡ 2 → ⊥) → lines_before One at + 1 ≡ lines_before One (at + 1)
before_next at other = grind (arith, nat_tests, other)

-- ---- what a certificate that is saved anew is known by

module _ (bytes : List ℕ) (from : Version) (width : ℕ) (can : CanBeRewritten bytes from width) where
  saved_are : lines_anew width (reading.text_of bytes) ≡ lines_of (saved_anew width can.text)
  saved_are = ap (lines_anew width) can.read

  read_are : lines_read (reading.text_of bytes) ≡ lines_of (spelled_of can.text)
  read_are = ap lines_read can.read

  few_digits : can.text.spelling.width ≤ most_digits
  few_digits = by can.text.spelling.version can.text.spelling.width can.spelled.known.width
    where
      by : (version : Version) (digits : ℕ) → IsWidthOf version digits → digits ≤ most_digits
      by One digits is = omega (arith, is)
      by Two digits is = is.1
      by Three digits is = is.1
      by Four digits is = is.1

  read_good : AreGood (lines_of (spelled_of can.text))
  read_good = lines_good (spelled_of can.text) few_digits can.spelled.known.choice can.spelled.fits

  saved_good : AreGood (lines_of (saved_anew width can.text))
  saved_good = lines_good (saved_anew width can.text) can.most (states_anew can.text.spelling.version can.text.spelling.width width can.text.spelling.stated.choice (λ later. can.same (λ one. later (can.version ∙ one))) can.spelled.known.choice) (record {
    weight = can.spelled.fits.weight;
    plan = can.spelled.fits.plan;
    count = can.spelled.fits.count;
    lines = λ k d less. (can.states k d less, (can.spelled.fits.lines k d less).1);
  })

  bytes_are : bytes ≡ lines (lines_of (spelled_of can.text))
  bytes_are = can.spelled.text ∙ sym (lines_are_text (spelled_of can.text))

  pub begins_first : Begins (record { bytes = bytes; from = from; width = width }) 0 0
  begins_first = (omega arith, by from refl)
    where
      by : (v : Version) → from ≡ v → bytes ≡ lines (drop (lines_before v 0) (lines_read (reading.text_of bytes)))
      by One is = bytes_are ∙ ap lines (sym read_are)
      by Two is = bytes_are ∙ ap lines (sym read_are)
      by Three is = bytes_are ∙ ap lines (sym read_are)
      by Four is = bytes_are ∙ ap lines (sym read_are)

  -- the lines are those of the text
  pub saved_text : lines (lines_anew width (reading.text_of bytes)) ≡ text_anew width (reading.text_of bytes)
  saved_text = ap lines saved_are ∙ lines_are_text (saved_anew width can.text) ∙ sym (ap (text_anew width) can.read)

  pub some_lines : 1 ≤ length (lines_anew width (reading.text_of bytes))
  some_lines = subst (λ n. 1 ≤ n) (sym (ap length saved_are)) (at_least width can.text)

  -- a line of this number was put
  puts : (old new : List ℕ) (at : ℕ) (text : List ℕ) → slice_get (lines_of (saved_anew width can.text)) at ≡ Some text → new ≡ old ++ line text → length new ≤ length old + longest_line
      → PutsLine old new (lines_anew width (reading.text_of bytes)) at
  puts old new at text found is short = (text, ap (λ t. slice_get t at) saved_are ∙ found, is, short)

-- ---- of version 1

module _ (bytes : List ℕ) (width : ℕ) (can : CanBeRewritten bytes One width) where
  abbrev read_lines : List (List ℕ)
  read_lines = lines_of (spelled_of can.text)

  more : length (lines_of (saved_anew width can.text)) ≡ length read_lines + 1
  more = one_line_more width can.text can.version can.spelled.known can.spelled.fits can.states

  pub counted_one : (feeds count : ℕ) → feeds ≡ line_feeds bytes → count ≡ feeds + 1 → count ≡ length (lines_anew width (reading.text_of bytes))
  counted_one feeds count is sum =
      let all = ap line_feeds (bytes_are bytes One width can) ∙ feeds_are read_lines (read_good bytes One width can) in
      let saved = ap length (saved_are bytes One width can) in
      omega (arith, all, saved, more, is, sum)

  module _ (at begin : ℕ) (other : at ≡ 2 → ⊥) (within : at < length (lines_anew width (reading.text_of bytes)))
      (begins : Begins (record { bytes = bytes; from = One; width = width }) at begin) where
    inside : lines_before One at < length read_lines
    inside =
        let saved = ap length (saved_are bytes One width can) in
        let read = ap length (two_read can.text) in
        grind (arith, nat_tests, within, saved, more, other, read)

    pub next_one : IsNext bytes read_lines (lines_before One at) begin
    next_one = is_next bytes read_lines (lines_before One at) begin (read_good bytes One width can) inside (begins.1 ∙ ap (λ t. lines (drop (lines_before One at) t)) (read_are bytes One width can))

    pub then_one : (next : ℕ) → (next ≤ length bytes) × (drop next bytes ≡ lines (drop (lines_before One at + 1) read_lines)) → Begins (record { bytes = bytes; from = One; width = width }) (at + 1) next
    then_one next is = (
      is.0,
      is.1 ∙ ap (λ n. lines (drop n read_lines)) (before_next at other) ∙ ap (λ t. lines (drop (lines_before One (at + 1)) t)) (sym (read_are bytes One width can)),
    )

    -- the line of this number is the one that was read, with the digits of its state
    line_is : (at ≡ 0 → ⊥) → slice_get (lines_of (saved_anew width can.text)) at ≡ Some (respelled_line width (line_at read_lines (lines_before One at)))
    line_is positive = there at refl
      where
        there : (n : ℕ) → n ≡ at → slice_get (lines_of (saved_anew width can.text)) at ≡ Some (respelled_line width (line_at read_lines (lines_before One at)))
        there zero e = absurd (positive (sym e))
        there (suc zero) e =
            subst (λ k. slice_get (lines_of (saved_anew width can.text)) k ≡ Some (respelled_line width (line_at read_lines (lines_before One k)))) e
            (second_saved width can.text can.version can.spelled.known can.spelled.fits can.states (line_at read_lines 1)
            (subst (λ k. slice_get read_lines (lines_before One k) ≡ Some (line_at read_lines (lines_before One k))) (sym e) next_one.found))
        there (suc (suc zero)) e = absurd (other (sym e))
        there (suc (suc (suc n))) e =
            later_saved width can.text can.version can.spelled.known can.spelled.fits can.states at (line_at read_lines (lines_before One at)) (omega (arith, e))
            (subst (λ k. slice_get read_lines k ≡ Some (line_at read_lines (lines_before One at))) (before_later at (omega (arith, e))) next_one.found)

    pub later_puts : (old new : List ℕ) → (at ≡ 0 → ⊥) → new ≡ old ++ line (respelled_line width (line_at read_lines (lines_before One at))) → length new ≤ length old + longest_line
        → PutsLine old new (lines_anew width (reading.text_of bytes)) at
    later_puts old new positive is short = puts bytes One width can old new at (respelled_line width (line_at read_lines (lines_before One at))) (line_is positive) is short

    -- a line that is put is short enough for a piece
    pub later_short : (at ≡ 0 → ⊥) → length (respelled_line width (line_at read_lines (lines_before One at))) + 1 ≤ longest_line
    later_short positive = (good_at (lines_of (saved_anew width can.text)) at (respelled_line width (line_at read_lines (lines_before One at))) (saved_good bytes One width can) (line_is positive)).1

  pub width_puts : (old new : List ℕ) (at : ℕ) → at ≡ 2 → new ≡ old ++ line (width_line width) → length new ≤ length old + longest_line → PutsLine old new (lines_anew width (reading.text_of bytes)) at
  width_puts old new at is put short = puts bytes One width can old new at (width_line width) (subst (λ k. slice_get (lines_of (saved_anew width can.text)) k ≡ Some (width_line width)) (sym is) (third_saved width can.text can.version)) put short

  pub first_puts : (old new : List ℕ) (at : ℕ) → at ≡ 0 → new ≡ old ++ line (version_line Two) → length new ≤ length old + longest_line → PutsLine old new (lines_anew width (reading.text_of bytes)) at
  first_puts old new at is put short = puts bytes One width can old new at (version_line Two) (subst (λ k. slice_get (lines_of (saved_anew width can.text)) k ≡ Some (version_line Two)) (sym is) (first_saved width can.text can.version)) put short

  -- the line of the width is in none that was read
  pub same_begin : (at begin : ℕ) → at ≡ 2 → Begins (record { bytes = bytes; from = One; width = width }) at begin → Begins (record { bytes = bytes; from = One; width = width }) (at + 1) begin
  same_begin at begin is begins = (begins.0, begins.1 ∙ ap (λ n. lines (drop n (lines_read (reading.text_of bytes)))) (same at is))
    where
      same : (at : ℕ) → at ≡ 2 → lines_before One at ≡ lines_before One (at + 1)
      same at is = grind (arith, nat_tests, is)

-- ---- of a later version

module _ (bytes : List ℕ) (from : Version) (width : ℕ) (can : CanBeRewritten bytes from width) (later : from ≢ One) where
  same_version : version_anew can.text.spelling.version ≡ can.text.spelling.version
  same_version = stays can.text.spelling.version (λ one. later (sym can.version ∙ one))

  -- the lines are those that were read
  same_lines : lines_of (saved_anew width can.text) ≡ lines_of (spelled_of can.text)
  same_lines = λ i. lines_of (record {
    spelling = record can.text.spelling { version = same_version i; width = sym (can.same later) i };
    certificate = can.text.certificate;
  })

  pub same_text : text_anew width (reading.text_of bytes) ≡ bytes
  same_text = sym (saved_text bytes from width can) ∙ ap lines (saved_are bytes from width can ∙ same_lines) ∙ sym (bytes_are bytes from width can)

  pub counted_same : (feeds : ℕ) → feeds ≡ line_feeds bytes → feeds ≡ length (lines_anew width (reading.text_of bytes))
  counted_same feeds is =
      is ∙ ap line_feeds (bytes_are bytes from width can) ∙ feeds_are (lines_of (spelled_of can.text)) (read_good bytes from width can)
      ∙ ap length (sym same_lines ∙ sym (saved_are bytes from width can))

  module _ (at begin : ℕ) (within : at < length (lines_anew width (reading.text_of bytes)))
      (begins : Begins (record { bytes = bytes; from = from; width = width }) at begin) where
    pub next_same : IsNext bytes (lines_of (spelled_of can.text)) at begin
    next_same =
        is_next bytes (lines_of (spelled_of can.text)) at begin (read_good bytes from width can) (subst (λ (t : List (List ℕ)). at < length t) (saved_are bytes from width can ∙ same_lines) within)
        (begins.1 ∙ ap (λ n. lines (drop n (lines_read (reading.text_of bytes)))) (before_same from later at) ∙ ap (λ t. lines (drop at t)) (read_are bytes from width can))

    pub then_same : (next : ℕ) → (next ≤ length bytes) × (drop next bytes ≡ lines (drop (at + 1) (lines_of (spelled_of can.text)))) → Begins (record { bytes = bytes; from = from; width = width }) (at + 1) next
    then_same next is = (
      is.0,
      is.1 ∙ ap (λ t. lines (drop (at + 1) t)) (sym (read_are bytes from width can)) ∙ ap (λ n. lines (drop n (lines_read (reading.text_of bytes)))) (sym (before_same from later (at + 1))),
    )

    pub puts_same : (old new : List ℕ) → new ≡ old ++ line (line_at (lines_of (spelled_of can.text)) at) → length new ≤ length old + longest_line
        → PutsLine old new (lines_anew width (reading.text_of bytes)) at
    puts_same old new is short = puts bytes from width can old new at (line_at (lines_of (spelled_of can.text)) at) (ap (λ t. slice_get t at) same_lines ∙ next_same.found) is short

-- how many lines there are
pub counted : (bytes : List ℕ) (from : Version) (width : ℕ) → CanBeRewritten bytes from width → (feeds more count : ℕ) → feeds ≡ line_feeds bytes → (from ≡ One → more ≡ 1) → (from ≢ One → more ≡ 0)
    → count ≡ feeds + more → count ≡ length (lines_anew width (reading.text_of bytes))
counted bytes from width can feeds more count is one none sum = go (one_or_later from)
  where
    go : (from ≡ One) ⊎ (from ≢ One) → count ≡ length (lines_anew width (reading.text_of bytes))
    go (inl first) =
        let same = one first in
        counted_one bytes width (subst (λ v. CanBeRewritten bytes v width) first can) feeds count is (omega (arith, sum, same))
    go (inr later) =
        let same = none later in
        let all : count ≡ feeds = omega (arith, sum, same) in
        counted_same bytes from width can later count (all ∙ is)

-- ---- a line that was read, and then put

module _ (bytes : List ℕ) (begin : ℕ) (result : List ℕ) (next : ℕ) where
  -- what is said of the line that begins here, and of where the next one does
  abbrev pub ReadsLine : Type 0
  ReadsLine = (first : List ℕ) (rest : List (List ℕ)) → drop begin bytes ≡ lines (first ∷ rest) → has_none 10 first ≡ true → result ≡ first

  abbrev pub FindsNext : Type 0
  FindsNext = (first : List ℕ) (rest : List (List ℕ)) → drop begin bytes ≡ lines (first ∷ rest) → has_none 10 first ≡ true → (next ≤ length bytes) × (drop next bytes ≡ lines rest)

module _ (bytes : List ℕ) (width : ℕ) (can : CanBeRewritten bytes One width) (at begin : ℕ) (other : at ≡ 2 → ⊥) (within : at < length (lines_anew width (reading.text_of bytes)))
    (begins : Begins (record { bytes = bytes; from = One; width = width }) at begin) (result : List ℕ) (next : ℕ) (reads : ReadsLine bytes begin result next) (finds : FindsNext bytes begin result next) where
  it : IsNext bytes (lines_of (spelled_of can.text)) (lines_before One at) begin
  it = next_one bytes width can at begin other within begins

  result_is : result ≡ line_at (lines_of (spelled_of can.text)) (lines_before One at)
  result_is = reads (line_at (lines_of (spelled_of can.text)) (lines_before One at)) (drop (lines_before One at + 1) (lines_of (spelled_of can.text))) it.here it.good.0

  pub stepped_one : Begins (record { bytes = bytes; from = One; width = width }) (at + 1) next
  stepped_one = then_one bytes width can at begin other within begins next
      (finds (line_at (lines_of (spelled_of can.text)) (lines_before One at)) (drop (lines_before One at + 1) (lines_of (spelled_of can.text))) it.here it.good.0)

  pub short_one : (at ≡ 0 → ⊥) → length (respelled_line width result) + 1 ≤ longest_line
  short_one positive = subst (λ t. length (respelled_line width t) + 1 ≤ longest_line) (sym result_is) (later_short bytes width can at begin other within begins positive)

  pub put_one : (old new : List ℕ) → (at ≡ 0 → ⊥) → new ≡ old ++ line (respelled_line width result) → length new ≤ length old + longest_line → PutsLine old new (lines_anew width (reading.text_of bytes)) at
  put_one old new positive is short = later_puts bytes width can at begin other within begins old new positive (is ∙ ap (λ t. old ++ line (respelled_line width t)) result_is) short

module _ (bytes : List ℕ) (from : Version) (width : ℕ) (can : CanBeRewritten bytes from width) (later : from ≢ One) (at begin : ℕ) (within : at < length (lines_anew width (reading.text_of bytes)))
    (begins : Begins (record { bytes = bytes; from = from; width = width }) at begin) (result : List ℕ) (next : ℕ) (reads : ReadsLine bytes begin result next) (finds : FindsNext bytes begin result next) where
  that : IsNext bytes (lines_of (spelled_of can.text)) at begin
  that = next_same bytes from width can later at begin within begins

  read_is : result ≡ line_at (lines_of (spelled_of can.text)) at
  read_is = reads (line_at (lines_of (spelled_of can.text)) at) (drop (at + 1) (lines_of (spelled_of can.text))) that.here that.good.0

  pub stepped_same : Begins (record { bytes = bytes; from = from; width = width }) (at + 1) next
  stepped_same = then_same bytes from width can later at begin within begins next (finds (line_at (lines_of (spelled_of can.text)) at) (drop (at + 1) (lines_of (spelled_of can.text))) that.here that.good.0)

  pub short_same : length result + 1 ≤ longest_line
  short_same = subst (λ t. length t + 1 ≤ longest_line) (sym read_is) that.good.1

  pub put_same : (old new : List ℕ) → new ≡ old ++ line result → length new ≤ length old + longest_line → PutsLine old new (lines_anew width (reading.text_of bytes)) at
  put_same old new is short = puts_same bytes from width can later at begin within begins old new (is ∙ ap (λ t. old ++ line t) read_is) short

-- the version, where it is known
module _ (it : Rewritten) (version : Version) (is : it.from ≡ version) where
  pub can_of : CanBeRewritten it.bytes it.from it.width → CanBeRewritten it.bytes version it.width
  can_of can = subst (λ v. CanBeRewritten it.bytes v it.width) is can

  pub begins_of : (at begin : ℕ) → Begins it at begin → Begins (record { bytes = it.bytes; from = version; width = it.width }) at begin
  begins_of at begin begins = (begins.0, begins.1 ∙ ap (λ v. lines (drop (lines_before v at) (lines_read (reading.text_of it.bytes)))) is)

  pub begins_as : (at begin : ℕ) → Begins (record { bytes = it.bytes; from = version; width = it.width }) at begin → Begins it at begin
  begins_as at begin begins = (begins.0, begins.1 ∙ ap (λ v. lines (drop (lines_before v at) (lines_read (reading.text_of it.bytes)))) (sym is))

-- ---- what is accepted can be rewritten

-- the first line of a text says its version
first_line_is : (bytes : List ℕ) (spelling : Spelling) (certificate : Certificate) → IsSpelled bytes spelling certificate
    → bytes ≡ line (version_line spelling.version) ++ lines (drop 1 (lines_of (record { spelling = spelling; certificate = certificate })))
unfolding lines_of
first_line_is bytes spelling certificate spelled = spelled.text ∙ sym (lines_are_text (record { spelling = spelling; certificate = certificate }))

-- a text of one version doesn't begin with the line of another
other_line : (v w : Version) (rest : List ℕ) → (v ≡ w → ⊥) → behind (line (version_line v)) (line (version_line w) ++ rest) ≡ None
unfolding behind
other_line One One rest other = absurd (other refl)
other_line One Two rest other = refl
other_line One Three rest other = refl
other_line One Four rest other = refl
other_line Two One rest other = refl
other_line Two Two rest other = absurd (other refl)
other_line Two Three rest other = refl
other_line Two Four rest other = refl
other_line Three One rest other = refl
other_line Three Two rest other = refl
other_line Three Three rest other = absurd (other refl)
other_line Three Four rest other = refl
other_line Four One rest other = refl
other_line Four Two rest other = refl
other_line Four Three rest other = refl
other_line Four Four rest other = absurd (other refl)

same_or_other : (v w : Version) → (v ≡ w) ⊎ (v ≡ w → ⊥)
same_or_other One One = inl refl
same_or_other Two Two = inl refl
same_or_other Three Three = inl refl
same_or_other Four Four = inl refl
same_or_other One Two = inr (λ e. cc)
same_or_other One Three = inr (λ e. cc)
same_or_other One Four = inr (λ e. cc)
same_or_other Two One = inr (λ e. cc)
same_or_other Two Three = inr (λ e. cc)
same_or_other Two Four = inr (λ e. cc)
same_or_other Three One = inr (λ e. cc)
same_or_other Three Two = inr (λ e. cc)
same_or_other Three Four = inr (λ e. cc)
same_or_other Four One = inr (λ e. cc)
same_or_other Four Two = inr (λ e. cc)
same_or_other Four Three = inr (λ e. cc)

not_both : (rest : List ℕ) (found : Option (List ℕ)) → found ≡ Some rest → found ≡ None → ⊥
not_both rest found x y = cc

-- a text that begins with the line of a version is of that version, and no other text is
pub said : (v : Version) (bytes rest : List ℕ) → behind (line (version_line v)) bytes ≡ Some rest → (spelling : Spelling) (certificate : Certificate) → IsSpelled bytes spelling certificate → spelling.version ≡ v
said v bytes rest found spelling certificate spelled = go (same_or_other v spelling.version)
  where
    go : (v ≡ spelling.version) ⊎ (v ≡ spelling.version → ⊥) → spelling.version ≡ v
    go (inl same) = sym same
    go (inr other) =
        absurd (not_both rest (behind (line (version_line v)) bytes) found
        (ap (behind (line (version_line v))) (first_line_is bytes spelling certificate spelled)
        ∙ other_line v spelling.version (lines (drop 1 (lines_of (record { spelling = spelling; certificate = certificate })))) other))

pub unsaid : (v : Version) (bytes : List ℕ) → behind (line (version_line v)) bytes ≡ None → (spelling : Spelling) (certificate : Certificate) → IsSpelled bytes spelling certificate → spelling.version ≢ v
unsaid v bytes none spelling certificate spelled is =
    let rest : List ℕ = lines (drop 1 (lines_of (record { spelling = spelling; certificate = certificate }))) in
    not_both rest (behind (line (version_line v)) bytes)
    (ap (behind (line (version_line v))) (first_line_is bytes spelling certificate spelled ∙ ap (λ w. line (version_line w) ++ rest) is) ∙ behind_again (line (version_line v)) rest) none

pub only_one : (v : Version) → v ≢ Two → v ≢ Three → v ≢ Four → v ≡ One
only_one One two three four = refl
only_one Two two three four = absurd (two refl)
only_one Three two three four = absurd (three refl)
only_one Four two three four = absurd (four refl)

module _ (reads : ReadAsSpelled) (fitting : StatesFitTheirWidth) (parts : TaskParts) (lawful : IsTask parts) (bytes : List ℕ) (verdict : Verdict) (accepted : IsAccepted parts bytes verdict) where
  abbrev accepted_text : Text
  accepted_text = record { spelling = accepted.spelling; certificate = accepted.certificate; first = reading.first_line accepted.spelling accepted.certificate.plan }

  is_read : reading.text_of bytes ≡ Ok accepted_text
  is_read = (reads bytes accepted_text).1 accepted.spelled refl

  -- the digits that are stated are those of the task's states
  width_stays : (v : Version) → v ≢ One → HasWidthOf parts v accepted.spelling.width → accepted.spelling.width ≡ width_of parts
  width_stays One later wide = absurd (later refl)
  width_stays Two later wide = wide
  width_stays Three later wide = wide
  width_stays Four later wide = wide

  pub can_be_rewritten : (from : Version) → accepted.spelling.version ≡ from → CanBeRewritten bytes from (width_of parts)
  can_be_rewritten from is = record {
    text = accepted_text;
    read = is_read;
    spelled = accepted.spelled;
    version = is;
    some = (fitting parts lawful).0;
    most = (fitting parts lawful).1;
    states = λ k d less. (fitting parts lawful).2 _ (accepted.valid.states k d less);
    same = λ later. width_stays accepted.spelling.version (λ one. later (sym is ∙ one)) accepted.width;
  }

  -- how the certificate that is saved is spelled
  abbrev anew : Spelling
  anew = record accepted.spelling { version = version_anew accepted.spelling.version; width = width_of parts }

  width_anew : (v : Version) → IsWidthOf (version_anew v) (width_of parts)
  width_anew One = ((fitting parts lawful).0, (fitting parts lawful).1)
  width_anew Two = ((fitting parts lawful).0, (fitting parts lawful).1)
  width_anew Three = ((fitting parts lawful).0, (fitting parts lawful).1)
  width_anew Four = ((fitting parts lawful).0, (fitting parts lawful).1)

  task_width : (v : Version) → HasWidthOf parts (version_anew v) (width_of parts)
  task_width One = refl
  task_width Two = refl
  task_width Three = refl
  task_width Four = refl

  pub spelled_anew : IsSpelled (rewritten_text parts bytes) anew accepted.certificate
  spelled_anew = record {
    known = record {
      width = width_anew accepted.spelling.version;
      choice = states_anew accepted.spelling.version accepted.spelling.width (width_of parts) accepted.spelling.stated.choice (λ later. width_stays accepted.spelling.version later accepted.width) accepted.spelled.known.choice;
      grounding = grounding_anew accepted.spelling.version accepted.spelling.stated.grounding accepted.spelled.known.grounding;
      kind = kind_anew accepted.spelling.version accepted.spelling.kind accepted.spelled.known.kind;
    };
    text = ap (text_anew (width_of parts)) is_read;
    fits = record {
      weight = accepted.spelled.fits.weight;
      plan = accepted.spelled.fits.plan;
      count = accepted.spelled.fits.count;
      lines = λ k d less. ((fitting parts lawful).2 _ (accepted.valid.states k d less), (accepted.spelled.fits.lines k d less).1);
    };
  }

  accepted_anew : IsAccepted parts (rewritten_text parts bytes) verdict
  accepted_anew = record {
    spelling = anew;
    certificate = accepted.certificate;
    spelled = spelled_anew;
    kind = accepted.kind;
    width = task_width accepted.spelling.version;
    grounding = accepted.grounding;
    stated = accepted.stated;
    valid = accepted.valid;
    verdict_is = accepted.verdict_is;
  }

  pub same_verdict : checked parts (rewritten_text parts bytes) ≡ Ok verdict
  same_verdict = go (checked parts (rewritten_text parts bytes)) refl
    where
      go : (r : Result Verdict CertificateFault) → checked parts (rewritten_text parts bytes) ≡ r → checked parts (rewritten_text parts bytes) ≡ Ok verdict
      go (Ok other) e = e ∙ sym (gives_accepted parts (rewritten_text parts bytes) (Ok other) e verdict accepted_anew)
      go (Err fault) e =
          let bad : ◌≡◌ {A = Result Verdict CertificateFault} (Ok verdict) (Err fault) = gives_accepted parts (rewritten_text parts bytes) (Err (errors.Fault fault)) e verdict accepted_anew in
          cc

  pub same_bytes : accepted.spelling.version ≢ One → rewritten_text parts bytes ≡ bytes
  same_bytes later = same_text bytes accepted.spelling.version (width_of parts) (can_be_rewritten accepted.spelling.version refl) later
