-- A line that is refused is the first with which no tables are read.
use Rattle.std.proofs.Common.{◌≡◌, ◌⊎◌, inl, inr, ℕ, ◌+◌, cond, eqb, Option, None, Some, List, [], ◌∷◌, ◌++◌, length, Result, Ok, Err, refl, sym, ap, ◌∙◌, subst, arith, append_assoc, append-nil}
use Rattle.std.proofs.lemmas.List.Sums.{sum_by-cons}
use Rattle.pb_lines.specs.Words.{part, line_feeds}
use Rattle.pb_lines.proofs.Callers.{part_is, part_none, no_feed}
use Rattle.pb_tables.specs.Tables.{TablesValue}
use Rattle.pb_table_lines.specs.Lines.{tables_lines, tables_text}
use Rattle.pb_table_lines.specs.Reading.{tables_at}
use Rattle.pb_table_lines.specs.Spelling.{CanBeStated}
use Rattle.pb_table_lines.specs.Refused.{AreWholeLines, IsRefused, RefusedLinesAreFirst, CutTablesAreRefused}
use Rattle.pb_table_lines.proofs.ReadBack.{tables_are_read_as_written}
use Rattle.pb_table_lines.proofs.Readers.{Takes, Stops, IsBeginning, IsReader}
use Rattle.pb_table_lines.proofs.TableReaders.{tables_reader}

-- ---- a reader stops where a text is cut off

pub feeds_cons : (b : ℕ) (bs : List ℕ) → line_feeds (b ∷ bs) ≡ cond (eqb b 10) 1 0 + line_feeds bs
feeds_cons b bs = sum_by-cons (λ (c : ℕ). cond (eqb c 10) 1 0) b bs

pub feeds_both : (xs ys : List ℕ) → line_feeds (xs ++ ys) ≡ line_feeds xs + line_feeds ys
feeds_both [] ys = let none : line_feeds [] ≡ 0 = refl in omega (arith, none)
feeds_both (x ∷ xs) ys =
    let a = feeds_cons x (xs ++ ys) in
    let b = feeds_cons x xs in
    let c = feeds_both xs ys in
    omega (arith, a, b, c)

pair_is : {A : Type 0} (x y : A × List ℕ) → ◌≡◌ {A = Result (A × List ℕ) ℕ} (Ok x) (Ok y) → x ≡ y
pair_is x y e = cc

not_both : {A : Type 0} (r : Result A ℕ) (refused : ℕ) (x : A) → r ≡ Err refused → r ≡ Ok x → ⊥
not_both r refused x is also = cc

abbrev Cuts : {A : Type 0} → (n : A → ℕ) → (line : ℕ) → (read : List ℕ → Result (A × List ℕ) ℕ) → (start rest : List ℕ) → A → (after : List ℕ) → Type 0
Cuts n line read start rest x after =
    ((left : List ℕ) × (read start ≡ Ok (x, left)) × (after ≡ left ++ rest) × (line_feeds start ≡ n x + line_feeds left))
    ⊎ (read start ≡ Err (line + line_feeds start))

module _ {A : Type 0} (n : A → ℕ) (line : ℕ) (read : List ℕ → Result (A × List ℕ) ℕ) (is : IsReader n line read) (start rest : List ℕ) (x : A) (after : List ℕ) (e : read (start ++ rest) ≡ Ok (x, after)) where
  whole_start : (y : A × List ℕ) → read start ≡ Ok y → Cuts n line read start rest x after
  whole_start y is_read =
      let t = is.takes start y.0 y.1 is_read in
      let there : read (start ++ rest) ≡ Ok (y.0, y.1 ++ rest) =
      ap (λ (s : List ℕ). read (s ++ rest)) t.text_is ∙ ap read (append_assoc t.used y.1 rest) ∙ t.again (y.1 ++ rest) in
      let same : ◌≡◌ {A = A × List ℕ} (y.0, y.1 ++ rest) (x, after) = pair_is (y.0, y.1 ++ rest) (x, after) (sym there ∙ e) in
      let value : y.0 ≡ x = ap (λ (p : A × List ℕ). p.0) same in
      let feeds : line_feeds start ≡ n y.0 + line_feeds y.1 = ap line_feeds t.text_is ∙ t.feeds y.1 in
      inl (y.1, is_read ∙ ap (λ (z : A). Ok (z, y.1)) value, sym (ap (λ (p : A × List ℕ). p.1) same), feeds ∙ ap (λ (z : A). n z + line_feeds y.1) value)

  cut_start : (refused : ℕ) → read start ≡ Err refused → (s : Stops line read (IsBeginning read) start refused) → (o : Option (List ℕ × List ℕ)) → part 10 s.behind ≡ o → Cuts n line read start rest x after
  cut_start refused is_read s None none =
      let feeds : line_feeds start ≡ line_feeds s.before + line_feeds s.behind = ap line_feeds s.text_is ∙ feeds_both s.before s.behind in
      let ended = no_feed s.behind none in
      let place = s.place in
      let same : refused ≡ line + line_feeds start = omega (arith, feeds, ended, place) in
      inr (is_read ∙ ap (λ (k : ℕ). Err k) same)
  cut_start refused is_read s (Some parts) some =
      let first : s.behind ≡ parts.0 ++ 10 ∷ parts.1 = part_is 10 s.behind parts.0 parts.1 some in
      let text : start ++ rest ≡ s.before ++ (parts.0 ++ 10 ∷ (parts.1 ++ rest)) =
      ap (λ (t : List ℕ). t ++ rest) (s.text_is ∙ ap (λ (t : List ℕ). s.before ++ t) first)
      ∙ append_assoc s.before (parts.0 ++ 10 ∷ parts.1) rest ∙ ap (λ (t : List ℕ). s.before ++ t) (append_assoc parts.0 (10 ∷ parts.1) rest) in
      absurd (not_both (read (start ++ rest)) refused (x, after)
      (ap read text ∙ s.stuck parts.0 parts.1 (parts.1 ++ rest) first (part_none 10 s.behind parts.0 parts.1 some)) e)

  go : (r : Result (A × List ℕ) ℕ) → read start ≡ r → Cuts n line read start rest x after
  go (Ok y) is_read = whole_start y is_read
  go (Err refused) is_read = let s = is.stops start refused is_read in cut_start refused is_read s (part 10 s.behind) refl

  cuts : Cuts n line read start rest x after
  cuts = go (read start) refl

pub cut_tables_are_refused : CutTablesAreRefused
cut_tables_are_refused digits line start rest tables after e =
    cuts (λ tables. length (tables_lines digits tables)) line (tables_at digits line) (tables_reader digits line) start rest tables after e

-- ---- the line that is refused

refused_first : (digits line : ℕ) (text : List ℕ) (refused : ℕ) → tables_at digits line text ≡ Err refused → IsRefused digits line text refused
refused_first digits line text refused e =
    let s = (tables_reader digits line).stops text refused e in
    let start : List ℕ = s.before ++ s.more in
    let are = tables_are_read_as_written.written digits line (start ++ []) s.goes.0 [] (s.goes.1 []) in
    record {
      before = s.before;
      behind = s.behind;
      text_is = s.text_is;
      whole = s.whole;
      place = s.place;
      begins = (s.goes.0, s.more, are.1, sym (append-nil (tables_text digits s.goes.0)) ∙ sym are.0 ∙ append-nil start);
      stuck = s.stuck;
    }

-- what is read of the text of tables
tables_taken : (digits : ℕ) (tables : TablesValue) → CanBeStated digits tables → Takes (λ t. length (tables_lines digits t)) (tables_at digits 1) (tables_text digits tables ++ []) tables []
tables_taken digits tables can = (tables_reader digits 1).takes (tables_text digits tables ++ []) tables [] (tables_are_read_as_written.read digits 1 tables [] can)

tables_used : (digits : ℕ) (tables : TablesValue) (can : CanBeStated digits tables) → (tables_taken digits tables can).used ≡ tables_text digits tables
tables_used digits tables can =
    let t = tables_taken digits tables can in
    sym (append-nil t.used) ∙ sym t.text_is ∙ append-nil (tables_text digits tables)

pub refused_lines_are_first : RefusedLinesAreFirst
refused_lines_are_first = record {
  first = refused_first;
  whole = λ digits tables can. subst AreWholeLines (tables_used digits tables can) (tables_taken digits tables can).whole;
  counted = λ digits tables rest can.
      ap (λ (t : List ℕ). line_feeds (t ++ rest)) (sym (tables_used digits tables can)) ∙ (tables_taken digits tables can).feeds rest;
}
