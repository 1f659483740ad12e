-- The lines that say a choice of an estimate are read up to the first line with which none goes on.
use Rattle.std.proofs.Common.{◌≡◌, inl, inr, ℕ, ◌+◌, Bool, true, false, not, cond, eqb, Option, None, Some, List, [], ◌∷◌, ◌++◌, Result, Ok, Err, refl, sym, ap, ◌∙◌, arith, append_assoc}
use Rattle.std.specs.Prelude.{codes, is_some}
use Rattle.std.proofs.lemmas.Bool.{and_from}
use Rattle.std.proofs.lemmas.Option.{same_Some}
use Rattle.pb_model.specs.Texts as texts
use Rattle.pb_lines.specs.Words.{part, behind, is_text, number_of, has_none, line_feeds}
use Rattle.pb_lines.proofs.Callers.{part_is, part_none, part_again, no_feed, none_both}
use Rattle.pb_tables.specs.Tables.{TablesValue}
use Rattle.pb_table_lines.specs.Reading.{tables_at}
use Rattle.pb_table_lines.specs.Refused.{IsRefused}
use Rattle.pb_table_lines.proofs.Callers.{feeds_cons, feeds_line, no_first, tables_are_read_as_written, refused_lines_are_first}
use Rattle.pb_estimate.specs.Choices.{Choice, Plain, Pattern, Tables}
use Rattle.pb_estimate.specs.Spelling.{CanBeStated, plain_line, pattern_line, estimate_text}
use Rattle.pb_check.specs.declared.fault.CertificateFault.{CertificateFault}
use Rattle.pb_check.specs.declared.fault.CertificateFault.TheVariants.{Syntax}
use Rattle.pb_check.specs.Faults.{◌>>=◌, wanted}
use Rattle.pb_check.specs.Reading.{number_behind, estimate_in, tables_read, estimate_at}
use Rattle.pb_check.specs.Cases.{AreWholeLines}
use Rattle.pb_check.proofs.Spelled.{one_line, estimate_lines_are}
use Rattle.pb_check.proofs.Readable.{plain_none, pattern_none, tables_chosen, estimate_lines_again}
use Rattle.pb_check.proofs.Cuts.{lines_chosen, chosen_then}
use Rattle.pb_check.proofs.FirstLines.{Takes, Stops, IsBeginning, IsReader, IsAt, at_ok, at_wanted, at_next, at_either, whole_both, err_is}

-- ---- line feeds

pub no_feeds : (text : List ℕ) → line_feeds text ≡ 0 → has_none 10 text ≡ true
no_feeds [] e = refl
no_feeds (b ∷ bs) e =
    go (λ none. no_feeds bs none) (eqb b 10) refl (sym (feeds_cons b bs) ∙ e)
  where
    go : (line_feeds bs ≡ 0 → has_none 10 bs ≡ true) → (t : Bool) → eqb b 10 ≡ t
        → cond t 1 0 + line_feeds bs ≡ 0 → has_none 10 (b ∷ bs) ≡ true
    go rest true is e = absurd (omega (arith, e))
    go rest false is e =
        and_from (not (eqb b 10)) (has_none 10 bs) (ap not is) (rest (omega (arith, e)))

-- the first line of a text stays the same, whatever comes behind one of the text's lines
same_line : (before first rest after : List ℕ) (x : List ℕ × List ℕ) → has_none 10 first ≡ true
    → part 10 (before ++ (first ++ 10 ∷ rest)) ≡ Some x
    → (left : List ℕ) × (part 10 (before ++ (first ++ 10 ∷ after)) ≡ Some (x.0, left))
same_line before first rest after x none is = go (part 10 before) refl
  where
    told : (y left : List ℕ) → part 10 (before ++ (first ++ 10 ∷ rest)) ≡ Some (y, left) → y ≡ x.0
    told y left at =
        ap (λ (p : List ℕ × List ℕ). p.0) (same_Some (y, left) x (sym at ∙ is))

    go : (o : Option (List ℕ × List ℕ)) → part 10 before ≡ o
        → (left : List ℕ) × (part 10 (before ++ (first ++ 10 ∷ after)) ≡ Some (x.0, left))
    go (Some y) at =
        let whole : (tail : List ℕ) → part 10 (before ++ tail) ≡ Some (y.0, y.1 ++ tail) =
        λ tail. ap (λ (t : List ℕ). part 10 (t ++ tail)) (part_is 10 before y.0 y.1 at)
        ∙ ap (part 10) (append_assoc y.0 (10 ∷ y.1) tail)
        ∙ part_again 10 y.0 (y.1 ++ tail) (part_none 10 before y.0 y.1 at) in
        let left : List ℕ = y.1 ++ (first ++ 10 ∷ after) in (
          left,
          whole (first ++ 10 ∷ after) ∙ ap (λ (t : List ℕ). Some (t, left))
              (told y.0 (y.1 ++ (first ++ 10 ∷ rest)) (whole (first ++ 10 ∷ rest))),
        )
    go None at =
        let fine : has_none 10 (before ++ first) ≡ true =
        none_both 10 before first (no_feeds before (no_feed before at)) none in
        let whole : (tail : List ℕ)
        → part 10 (before ++ (first ++ 10 ∷ tail)) ≡ Some (before ++ first, tail) =
        λ tail. ap (part 10) (sym (append_assoc before first (10 ∷ tail)))
        ∙ part_again 10 (before ++ first) tail fine in (
          after,
          whole after ∙ ap (λ (t : List ℕ). Some (t, after)) (told (before ++ first) rest (whole rest)),
        )

-- ---- what one line says

pub at_number : (line : ℕ) (piece text : List ℕ) → IsAt line (number_behind line piece text)
at_number line piece text =
    at_next line (wanted line (behind piece text)) (λ word. wanted line (number_of word))
    (at_wanted line (behind piece text)) (λ word. at_wanted line (number_of word))

at_estimate : (line : ℕ) (text : List ℕ) → IsAt line (estimate_in line text)
unfolding estimate_in
at_estimate line text =
    at_either line (is_text plain_line text) (Ok Plain)
    (number_behind line (codes "estimate pattern ") text >>= λ number. Ok (Pattern number))
    (at_ok line Plain)
    (at_next line (number_behind line (codes "estimate pattern ") text)
    (λ number. Ok (Pattern number)) (at_number line (codes "estimate pattern ") text)
    (λ number. at_ok line (Pattern number)))

-- ---- the first line says whether tables follow

abbrev says_tables : List ℕ → Bool
says_tables first = is_some (behind (codes "estimate tables ") first)

abbrev chosen_in : (line : ℕ) → List ℕ × List ℕ → Result (Choice × List ℕ) CertificateFault
chosen_in line first = estimate_in line first.0 >>= chosen_then first.1

abbrev chosen_at : (width line : ℕ) → (text : List ℕ) → List ℕ × List ℕ
    → Result (Choice × List ℕ) CertificateFault
chosen_at width line text first =
    cond (says_tables first.0) (tables_read (tables_at width line text)) (chosen_in line first)

by_first : (width line : ℕ) (text : List ℕ) → estimate_at width line text
    ≡ (wanted line (part 10 text) >>= chosen_at width line text)
unfolding estimate_at
by_first width line text = refl

by_tables : (width line : ℕ) (text : List ℕ) (first : List ℕ × List ℕ) → part 10 text ≡ Some first
    → says_tables first.0 ≡ true
    → estimate_at width line text ≡ tables_read (tables_at width line text)
by_tables width line text first is told =
    by_first width line text ∙ ap (λ o. wanted line o >>= chosen_at width line text) is
    ∙ ap (λ b. cond b (tables_read (tables_at width line text)) (chosen_in line first)) told

by_line : (width line : ℕ) (text : List ℕ) (first : List ℕ × List ℕ) → part 10 text ≡ Some first
    → says_tables first.0 ≡ false → estimate_at width line text ≡ chosen_in line first
by_line width line text first is told =
    by_first width line text ∙ ap (λ o. wanted line o >>= chosen_at width line text) is
    ∙ ap (λ b. cond b (tables_read (tables_at width line text)) (chosen_in line first)) told

-- ---- lines that are read

whole_lines : (ls : List (List ℕ)) → AreWholeLines (texts.lines ls)
whole_lines [] = inl refl
whole_lines (l ∷ ls) = whole_both (texts.line l) (texts.lines ls) (inr (l, refl)) (whole_lines ls)

one_counted : (first tail : List ℕ) → has_none 10 first ≡ true
    → line_feeds (texts.lines (first ∷ []) ++ tail) ≡ 1 + line_feeds tail
one_counted first tail none =
    let feeds = ap line_feeds (one_line first tail) ∙ feeds_line first tail none in
    omega (arith, feeds)

counted : (width : ℕ) (choice : Choice) (tail : List ℕ) → CanBeStated width choice
    → line_feeds (texts.lines (estimate_text width choice) ++ tail)
    ≡ lines_chosen width choice + line_feeds tail
counted width Plain tail can = one_counted plain_line tail plain_none
counted width (Pattern number) tail can =
    one_counted (pattern_line number) tail (pattern_none number can)
counted width (Tables tables) tail can = refused_lines_are_first.counted width tables tail can

module _ (width line : ℕ) where
  abbrev read : List ℕ → Result (Choice × List ℕ) CertificateFault
  read text = estimate_at width line text

  taken : (text : List ℕ) (choice : Choice) (left : List ℕ) → read text ≡ Ok (choice, left)
      → Takes (lines_chosen width) read text choice left
  taken text choice left e =
      let are = estimate_lines_are width line text (choice, left) e in
      record {
        used = texts.lines (estimate_text width choice);
        text_is = are.0;
        whole = whole_lines (estimate_text width choice);
        feeds = λ tail. counted width choice tail are.1;
        again = λ tail.
            estimate_lines_again width line (texts.lines (estimate_text width choice) ++ tail)
            choice tail are.1 refl;
      }

  abbrev IsStop : (text : List ℕ) → CertificateFault → Type 0
  IsStop text fault = Stops line read (IsBeginning read) text fault

  -- the first line is missing or wrong
  at_first : (text : List ℕ) (fault : CertificateFault) → fault ≡ Syntax line
      → ((first rest after : List ℕ) → text ≡ first ++ 10 ∷ rest → has_none 10 first ≡ true
      → read (first ++ 10 ∷ after) ≡ Err fault)
      → IsStop text fault
  at_first text fault is stuck =
      let none : line_feeds [] ≡ 0 = refl in
      record {
        before = [];
        behind = text;
        text_is = refl;
        whole = inl refl;
        fault_is = is ∙ ap (λ (k : ℕ). Syntax k) (omega (arith, none));
        more = texts.lines (plain_line ∷ []);
        goes = (
          Plain,
          λ tail. estimate_lines_again width line (texts.lines (plain_line ∷ []) ++ tail) Plain tail
              tt refl,
        );
        stuck = stuck;
      }

  stops_missing : (text : List ℕ) (fault : CertificateFault) → part 10 text ≡ None
      → read text ≡ Err fault → IsStop text fault
  stops_missing text fault is e =
      let here = sym (by_first width line text
      ∙ ap (λ o. wanted line o >>= chosen_at width line text) is) ∙ e in
      at_first text fault (sym (err_is {A = Choice × List ℕ} (Syntax line) fault here))
      (λ first rest after back none. absurd (no_first text first rest is back none))

  stops_wrong : (text : List ℕ) (fault : CertificateFault) (x : List ℕ × List ℕ)
      → part 10 text ≡ Some x → says_tables x.0 ≡ false → read text ≡ Err fault → IsStop text fault
  stops_wrong text fault x is told e =
      go (estimate_in line x.0) refl (sym (by_line width line text x is told) ∙ e)
    where
      go : (r : Result Choice CertificateFault) → estimate_in line x.0 ≡ r
          → (r >>= chosen_then x.1) ≡ Err fault → IsStop text fault
      go (Ok choice) said e = absurd cc
      go (Err d) said e =
          let wrong : estimate_in line x.0 ≡ Err fault =
          said ∙ ap (λ (f : CertificateFault). Err f) (err_is {A = Choice × List ℕ} d fault e) in
          at_first text fault (at_estimate line x.0 fault wrong) (λ first rest after back none.
          let same = same_line [] first rest after x none (ap (part 10) (sym back) ∙ is) in
          by_line width line (first ++ 10 ∷ after) (x.0, same.0) same.1 told
          ∙ ap (λ r. r >>= chosen_then same.0) wrong)

  stops_tables : (text : List ℕ) (fault : CertificateFault) (x : List ℕ × List ℕ)
      → part 10 text ≡ Some x → says_tables x.0 ≡ true → read text ≡ Err fault → IsStop text fault
  stops_tables text fault x is told e =
      go (tables_at width line text) refl (sym (by_tables width line text x is told) ∙ e)
    where
      made : (refused : ℕ) → fault ≡ Syntax refused → IsRefused width line text refused
          → IsStop text fault
      made refused fault_is r =
          let tables : TablesValue = r.begins.0 in
          let more : List ℕ = r.begins.1 in
          record {
            before = r.before;
            behind = r.behind;
            text_is = r.text_is;
            whole = r.whole;
            fault_is = fault_is ∙ ap (λ (k : ℕ). Syntax k) r.place;
            more = more;
            goes = (
              Tables tables,
              λ tail. tables_chosen width line ((r.before ++ more) ++ tail) tables tail
                  (ap (λ (t : List ℕ). tables_at width line (t ++ tail)) (sym r.begins.3)
                  ∙ tables_are_read_as_written.read width line tables tail r.begins.2),
            );
            stuck = λ first rest after back none.
                let whole : text ≡ r.before ++ (first ++ 10 ∷ rest) =
                r.text_is ∙ ap (λ (t : List ℕ). r.before ++ t) back in
                let same = same_line r.before first rest after x none
                (ap (part 10) (sym whole) ∙ is) in
                by_tables width line (r.before ++ (first ++ 10 ∷ after)) (x.0, same.0) same.1 told
                ∙ ap tables_read (r.stuck first rest after back none)
                ∙ ap (λ (f : CertificateFault). Err f) (sym fault_is);
          }

      go : (r : Result (TablesValue × List ℕ) ℕ) → tables_at width line text ≡ r
          → tables_read r ≡ Err fault → IsStop text fault
      go (Ok read) at e = absurd cc
      go (Err refused) at e =
          made refused (sym (err_is {A = Choice × List ℕ} (Syntax refused) fault e))
          (refused_lines_are_first.first width line text refused at)

  stopped : (text : List ℕ) (fault : CertificateFault) → read text ≡ Err fault → IsStop text fault
  stopped text fault e = go (part 10 text) refl
    where
      by_kind : (x : List ℕ × List ℕ) → part 10 text ≡ Some x → (b : Bool) → says_tables x.0 ≡ b
          → IsStop text fault
      by_kind x is true told = stops_tables text fault x is told e
      by_kind x is false told = stops_wrong text fault x is told e

      go : (o : Option (List ℕ × List ℕ)) → part 10 text ≡ o → IsStop text fault
      go None is = stops_missing text fault is e
      go (Some x) is = by_kind x is (says_tables x.0) refl

  -- a choice of an estimate
  pub estimate_reader : IsReader (lines_chosen width) line read
  estimate_reader = record { takes = taken; stops = stopped }
