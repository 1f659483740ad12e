-- What is read is spelled so.
use Rattle.std.proofs.Common.{◌≡◌, ℕ, zero, suc, ◌+◌, ◌*◌, Bool, true, false, cond, eqb, ltb, leb, ◌&&◌, Option, None, Some, List, [], ◌∷◌, ◌++◌, length, Result, Ok, Err, refl, sym, ap, ◌∙◌, subst, append_assoc}
use Rattle.std.proofs.lemmas.Option.{same_Some}
use Rattle.std.specs.Prelude.{codes, is_some}
use Rattle.std.specs.Fmt.{decimal}
use Rattle.std.specs.List.{list_all}
use Rattle.std.proofs.lemmas.List.{nil_from_length}
use Rattle.std.proofs.lemmas.Bool.{eqb-true, leb-true, and_from, and_parts}
use Rattle.pb_packed.specs.Sizes.{version_1_digits, most_digits}
use Rattle.pb_model.specs.Weight.{Weight}
use Rattle.pb_model.specs.Plan.{Plan}
use Rattle.pb_model.specs.Certificate.{Line}
use Rattle.pb_model.specs.Texts as texts
use Rattle.pb_task.specs.declared.kind.Kind.{Kind}
use Rattle.pb_task.specs.declared.kind.Kind.TheVariants.{Grid, Tiles, Strips}
use Rattle.pb_task.specs.declared.grounding.Grounding.{Grounding}
use Rattle.pb_task.specs.declared.grounding.Grounding.TheVariants.{All, Reachable}
use Rattle.pb_task.specs.declared.parts.TaskParts.{TaskParts}
use Rattle.pb_tables.specs.Tables.{TablesValue}
use Rattle.pb_table_lines.specs.Reading.{tables_at}
use Rattle.pb_table_lines.proofs.Callers.{tables_are_read_as_written}
use Rattle.pb_estimate.specs.Choices.{Choice, Plain, Pattern, Tables}
use Rattle.pb_estimate.specs.declared.spelling.Stated.{Stated}
use Rattle.pb_estimate.specs.declared.spelling.Spelling.{Spelling}
use Rattle.pb_estimate.specs.declared.spelling.Version.{Version}
use Rattle.pb_estimate.specs.declared.spelling.Version.TheVariants.{One, Two, Three, Four}
use Rattle.pb_estimate.specs.Spelling.{IsWidthOf, CanBeStated, StatesChoice, StatesGrounding, IsVersionFor, IsSpelling, version_line, kind_line, width_text, grounding_line, plain_line, pattern_line, estimate_text, stated_text, head_of}
use Rattle.pb_check.specs.declared.fault.CertificateFault.{CertificateFault}
use Rattle.pb_check.specs.declared.fault.CertificateFault.TheVariants.{Syntax}
use Rattle.pb_lines.specs.Words.{part, behind, is_text, number_of}
use Rattle.pb_lines.proofs.Callers.{IsNumberWord, number_word_of, number_word_is, if_some, part_is, behind_is, text_is}
use Rattle.pb_check.specs.Words.{hex_value, hex_after, state_of}
use Rattle.pb_check.specs.Faults.{◌>>=◌, wanted}
use Rattle.pb_check.specs.Reading.{line_at, number_behind, version_in, kind_in, kind_for, width_in, grounding_in, estimate_in, weight_in, closed_in, row_in, fixed_at, number_at, version_at, kind_at, width_line_at, width_at, grounding_at, tables_read, estimate_at, stated_at, head_at, weight_at, row_at, actions_at, rows_at, steps_at, plan_at, plan_lines, weight_line, first_line, Text, end_at, body_at, suiting, stated_choice, choice_in, text_of}
use Rattle.pb_check.proofs.Lines.{hex_value_after, IsStateWord, BeginsWith, BeginsWithNumber, closed_text, spelling_with, IsWeightLine, IsRowLine, AreActionLines, AreRowLines, ArePlanLines, Spells}

pub bind_ok : {A B : Type 0} (r : Result A CertificateFault) (f : A → Result B CertificateFault) (y : B) → (r >>= f) ≡ Ok y → (x : A) × (r ≡ Ok x) × (f x ≡ Ok y)
bind_ok (Ok x) f y e = (x, refl, e)
bind_ok (Err d) f y e = absurd cc

wanted_ok : {A : Type 0} (line : ℕ) (o : Option A) (x : A) → wanted line o ≡ Ok x → o ≡ Some x
wanted_ok line None x e = absurd cc
wanted_ok {A} line (Some y) x e = ap (λ (z : A). Some z) (go y x e)
  where
    go : (y x : A) → ◌≡◌ {A = Result A CertificateFault} (Ok y) (Ok x) → y ≡ x
    go y x e = cc

pub ok_is : {A : Type 0} (x y : A) → ◌≡◌ {A = Result A CertificateFault} (Ok x) (Ok y) → x ≡ y
ok_is x y e = cc

pub guard_ok : {A : Type 0} (b : Bool) (d : CertificateFault) (x y : A) → cond b (Ok x) (Err d) ≡ Ok y → (b ≡ true) × (x ≡ y)
guard_ok true d x y e = (refl, ok_is x y e)
guard_ok false d x y e = absurd cc

-- ---- words

hex_after_is : (n : ℕ) (word : List ℕ) (m : ℕ) → hex_after n word ≡ Some m → (list_all (λ b. ltb (hex_value b) 16) word ≡ true) × (m ≡ hex_value_after n word)
unfolding hex_after
hex_after_is n [] m e = (refl, sym (same_Some n m e))
hex_after_is n (b ∷ bs) m e =
    let h = if_some (ltb (hex_value b) 16) (hex_after (n * 16 + hex_value b) bs) m e in
    let r = hex_after_is (n * 16 + hex_value b) bs m h.1 in
    (and_from (ltb (hex_value b) 16) (list_all (λ b. ltb (hex_value b) 16) bs) h.0 r.0, r.1)

pub state_is : (width : ℕ) (word : List ℕ) (state : ℕ) → state_of width word ≡ Some state → IsStateWord width word state
state_is width word state e =
    let a = if_some (eqb (length word) width) (hex_after 0 word) state e in
    let r = hex_after_is 0 word state a.1 in
    record { count = eqb-true _ _ a.0; digits = r.0; value = r.1 }

-- ---- lines

line_is : (line : ℕ) (text : List ℕ) (x : List ℕ × List ℕ) → line_at line text ≡ Ok x → BeginsWith text x.0 x.1
line_is line text x e = part_is 10 text x.0 x.1 (wanted_ok line (part 10 text) x e)

behind_number : (line : ℕ) (piece text : List ℕ) (n : ℕ) → number_behind line piece text ≡ Ok n → (word : List ℕ) × IsNumberWord word n × (text ≡ piece ++ word)
behind_number line piece text n e =
    let b = bind_ok (wanted line (behind piece text)) (λ word. wanted line (number_of word)) n e in
    (b.0, number_word_of b.0 n (wanted_ok line (number_of b.0) n b.2), behind_is piece text b.0 (wanted_ok line (behind piece text) b.0 b.1))

fixed_is : (line : ℕ) (piece text rest : List ℕ) → fixed_at line piece text ≡ Ok rest → BeginsWith text piece rest
unfolding fixed_at
fixed_is line piece text rest e =
    let b = bind_ok (line_at line text) (λ first. cond (is_text piece first.0) (Ok first.1) (Err (Syntax line))) rest e in
    let g = guard_ok (is_text piece b.0.0) (Syntax line) b.0.1 rest b.2 in
    line_is line text b.0 b.1 ∙ ap (λ (t : List ℕ). t ++ 10 ∷ b.0.1) (text_is piece b.0.0 g.0) ∙ ap (λ (t : List ℕ). piece ++ 10 ∷ t) g.1

number_line_is : (line : ℕ) (piece text : List ℕ) (x : ℕ × List ℕ) → number_at line piece text ≡ Ok x → BeginsWithNumber text piece x.0 x.1
unfolding number_at
number_line_is line piece text x e =
    let b = bind_ok (line_at line text) (λ first. number_behind line piece first.0 >>= λ n. Ok (n, first.1)) x e in
    let c = bind_ok (number_behind line piece b.0.0) (λ n. Ok (n, b.0.1)) x b.2 in
    let w = behind_number line piece b.0.0 c.0 c.1 in
    subst (λ (y : ℕ × List ℕ). BeginsWithNumber text piece y.0 y.1) (ok_is (c.0, b.0.1) x c.2)
    (w.0, w.1, line_is line text b.0 b.1 ∙ ap (λ (t : List ℕ). t ++ 10 ∷ b.0.1) w.2)

closed_is : (line : ℕ) (text : List ℕ) (c : Bool) → closed_in line text ≡ Ok c → text ≡ closed_text c
unfolding closed_in
closed_is line text c e = go (is_text (codes "closed") text) (is_text (codes "cut") text) refl refl e
  where
    go : (a b : Bool) → is_text (codes "closed") text ≡ a → is_text (codes "cut") text ≡ b → cond a (Ok true) (cond b (Ok false) (Err (Syntax line))) ≡ Ok c → text ≡ closed_text c
    go true b x y e = text_is (codes "closed") text x ∙ ap closed_text (ok_is true c e)
    go false true x y e = text_is (codes "cut") text y ∙ ap closed_text (ok_is false c e)
    go false false x y e = absurd cc

kind_is : (line : ℕ) (text : List ℕ) (k : Kind) → kind_in line text ≡ Ok k → text ≡ kind_line k
unfolding kind_in
kind_is line text k e = go (is_text (kind_line Grid) text) (is_text (kind_line Tiles) text) (is_text (kind_line Strips) text) refl refl refl e
  where
    go : (a b c : Bool) → is_text (kind_line Grid) text ≡ a → is_text (kind_line Tiles) text ≡ b → is_text (kind_line Strips) text ≡ c → cond a (Ok Grid) (cond b (Ok Tiles) (cond c (Ok Strips) (Err (Syntax line)))) ≡ Ok k → text ≡ kind_line k
    go true b c x y z e = text_is (kind_line Grid) text x ∙ ap kind_line (ok_is Grid k e)
    go false true c x y z e = text_is (kind_line Tiles) text y ∙ ap kind_line (ok_is Tiles k e)
    go false false true x y z e = text_is (kind_line Strips) text z ∙ ap kind_line (ok_is Strips k e)
    go false false false x y z e = absurd cc

version_is : (line : ℕ) (text : List ℕ) (v : Version) → version_in line text ≡ Ok v → text ≡ version_line v
unfolding version_in
version_is line text v e = go (is_text (version_line One) text) (is_text (version_line Two) text) (is_text (version_line Three) text) (is_text (version_line Four) text) refl refl refl refl e
  where
    go : (a b c d : Bool) → is_text (version_line One) text ≡ a → is_text (version_line Two) text ≡ b → is_text (version_line Three) text ≡ c → is_text (version_line Four) text ≡ d
        → cond a (Ok One) (cond b (Ok Two) (cond c (Ok Three) (cond d (Ok Four) (Err (Syntax line))))) ≡ Ok v → text ≡ version_line v
    go true b c d x y z u e = text_is (version_line One) text x ∙ ap version_line (ok_is One v e)
    go false true c d x y z u e = text_is (version_line Two) text y ∙ ap version_line (ok_is Two v e)
    go false false true d x y z u e = text_is (version_line Three) text z ∙ ap version_line (ok_is Three v e)
    go false false false true x y z u e = text_is (version_line Four) text u ∙ ap version_line (ok_is Four v e)
    go false false false false x y z u e = absurd cc

-- a kind that a version is for is the one that a line says
kind_fits : (version : Version) (line : ℕ) (said kind : Kind) → kind_for version line said ≡ Ok kind → (said ≡ kind) × IsVersionFor version kind
kind_fits One line said kind e = (ok_is said kind e, tt)
kind_fits Two line said kind e = (ok_is said kind e, tt)
kind_fits Three line said kind e = (ok_is said kind e, tt)
kind_fits Four line Grid kind e = absurd cc
kind_fits Four line Tiles kind e = absurd cc
kind_fits Four line Strips kind e = let same = ok_is Strips kind e in (same, sym same)

grounding_is : (line : ℕ) (text : List ℕ) (g : Grounding) → grounding_in line text ≡ Ok g → text ≡ grounding_line g
unfolding grounding_in
grounding_is line text g e = go (is_text (grounding_line All) text) (is_text (grounding_line Reachable) text) refl refl e
  where
    go : (a b : Bool) → is_text (grounding_line All) text ≡ a → is_text (grounding_line Reachable) text ≡ b → cond a (Ok All) (cond b (Ok Reachable) (Err (Syntax line))) ≡ Ok g → text ≡ grounding_line g
    go true b x y e = text_is (grounding_line All) text x ∙ ap grounding_line (ok_is All g e)
    go false true x y e = text_is (grounding_line Reachable) text y ∙ ap grounding_line (ok_is Reachable g e)
    go false false x y e = absurd cc

-- a line alone says this choice of an estimate, which can be stated: so it has no tables
abbrev IsEstimateLine : (width : ℕ) → (text : List ℕ) → Choice → Type 0
IsEstimateLine width text choice = (estimate_text width choice ≡ text ∷ []) × CanBeStated width choice

pub estimate_is : (width line : ℕ) (text : List ℕ) (choice : Choice) → estimate_in line text ≡ Ok choice → IsEstimateLine width text choice
unfolding estimate_in
estimate_is width line text choice e = go (is_text plain_line text) refl e
  where
    go : (b : Bool) → is_text plain_line text ≡ b → cond b (Ok Plain) (number_behind line (codes "estimate pattern ") text >>= λ number. Ok (Pattern number)) ≡ Ok choice → IsEstimateLine width text choice
    go true is e = subst (IsEstimateLine width text) (ok_is Plain choice e) (ap (λ (t : List ℕ). t ∷ []) (sym (text_is plain_line text is)), tt)
    go false is e =
        let a = bind_ok (number_behind line (codes "estimate pattern ") text) _ choice e in
        let w = behind_number line (codes "estimate pattern ") text a.0 a.1 in
        let said : text ≡ pattern_line a.0 = w.2 ∙ ap (λ (t : List ℕ). codes "estimate pattern " ++ t) (number_word_is w.0 a.0 w.1) in
        subst (IsEstimateLine width text) (ok_is (Pattern a.0) choice a.2) (ap (λ (t : List ℕ). t ∷ []) (sym said), w.1.small)

width_is : (line : ℕ) (text : List ℕ) (n : ℕ) → width_in line text ≡ Ok n → (text ≡ codes "width " ++ decimal n) × IsWidthOf Two n
unfolding width_in
width_is line text n e =
    let a = bind_ok (number_behind line (codes "width ") text) (λ k. cond (leb 1 k && leb k most_digits) (Ok k) (Err (Syntax line))) n e in
    let g = guard_ok (leb 1 a.0 && leb a.0 most_digits) (Syntax line) a.0 n a.2 in
    let w = behind_number line (codes "width ") text a.0 a.1 in
    let both = and_parts (leb 1 a.0) (leb a.0 most_digits) g.0 in
    subst (λ (k : ℕ). (text ≡ codes "width " ++ decimal k) × IsWidthOf Two k) g.1
    (w.2 ∙ ap (λ (t : List ℕ). codes "width " ++ t) (number_word_is w.0 a.0 w.1), (leb-true _ _ both.0, leb-true _ _ both.1))

weight_is : (line : ℕ) (text : List ℕ) (w : Weight) → weight_in line text ≡ Ok w → IsWeightLine text w
unfolding weight_in
weight_is line text w e =
    let a = bind_ok (wanted line (behind (codes "weight ") text)) _ w e in
    let b = bind_ok (wanted line (part 32 a.0)) _ w a.2 in
    let c = bind_ok (wanted line (number_of b.0.0)) _ w b.2 in
    let d = bind_ok (wanted line (number_of b.0.1)) _ w c.2 in
    subst (IsWeightLine text) (ok_is (record { num = c.0; den = d.0 }) w d.2)
    (record {
      num = b.0.0;
      den = b.0.1;
      line_is = behind_is (codes "weight ") text a.0 (wanted_ok line (behind (codes "weight ") text) a.0 a.1) ∙ ap (λ (t : List ℕ). codes "weight " ++ t) (part_is 32 a.0 b.0.0 b.0.1 (wanted_ok line (part 32 a.0) b.0 b.1));
      num_is = number_word_of b.0.0 c.0 (wanted_ok line (number_of b.0.0) c.0 c.1);
      den_is = number_word_of b.0.1 d.0 (wanted_ok line (number_of b.0.1) d.0 d.1);
    })

row_is : (width line : ℕ) (text : List ℕ) (row : Line) → row_in width line text ≡ Ok row → IsRowLine width text row
unfolding row_in
row_is width line text row e =
    let a = bind_ok (wanted line (part 32 text)) _ row e in
    let b = bind_ok (wanted line (part 32 a.0.1)) _ row a.2 in
    let c = bind_ok (wanted line (state_of width a.0.0)) _ row b.2 in
    let d = bind_ok (wanted line (number_of b.0.0)) _ row c.2 in
    let f = bind_ok (closed_in line b.0.1) _ row d.2 in
    subst (IsRowLine width text) (ok_is (record { state = c.0; g = d.0; is_closed = f.0 }) row f.2)
    (record {
      state = a.0.0;
      g = b.0.0;
      line_is = part_is 32 text a.0.0 a.0.1 (wanted_ok line (part 32 text) a.0 a.1)
          ∙ ap (λ (t : List ℕ). a.0.0 ++ 32 ∷ t) (part_is 32 a.0.1 b.0.0 b.0.1 (wanted_ok line (part 32 a.0.1) b.0 b.1) ∙ ap (λ (t : List ℕ). b.0.0 ++ 32 ∷ t) (closed_is line b.0.1 f.0 f.1));
      state_is = state_is width a.0.0 c.0 (wanted_ok line (state_of width a.0.0) c.0 c.1);
      g_is = number_word_of b.0.0 d.0 (wanted_ok line (number_of b.0.0) d.0 d.1);
    })

version_line_is : (line : ℕ) (text : List ℕ) (x : Version × List ℕ) → version_at line text ≡ Ok x → BeginsWith text (version_line x.0) x.1
unfolding version_at
version_line_is line text x e =
    let b = bind_ok (line_at line text) _ x e in
    let c = bind_ok (version_in line b.0.0) _ x b.2 in
    subst (λ (y : Version × List ℕ). BeginsWith text (version_line y.0) y.1) (ok_is (c.0, b.0.1) x c.2) (line_is line text b.0 b.1 ∙ ap (λ (t : List ℕ). t ++ 10 ∷ b.0.1) (version_is line b.0.0 c.0 c.1))

kind_line_is : (version : Version) (line : ℕ) (text : List ℕ) (x : Kind × List ℕ) → kind_at version line text ≡ Ok x → BeginsWith text (kind_line x.0) x.1 × IsVersionFor version x.0
unfolding kind_at
kind_line_is version line text x e =
    let b = bind_ok (line_at line text) _ x e in
    let c = bind_ok (kind_in line b.0.0 >>= kind_for version line) _ x b.2 in
    let d = bind_ok (kind_in line b.0.0) (kind_for version line) c.0 c.1 in
    let fits = kind_fits version line d.0 c.0 d.2 in
    subst (λ (y : Kind × List ℕ). BeginsWith text (kind_line y.0) y.1 × IsVersionFor version y.0) (ok_is (c.0, b.0.1) x c.2)
    (line_is line text b.0 b.1 ∙ ap (λ (t : List ℕ). t ++ 10 ∷ b.0.1) (kind_is line b.0.0 d.0 d.1 ∙ ap kind_line fits.0), fits.1)

grounding_line_is : (line : ℕ) (text : List ℕ) (x : Grounding × List ℕ) → grounding_at line text ≡ Ok x → BeginsWith text (grounding_line x.0) x.1
unfolding grounding_at
grounding_line_is line text x e =
    let b = bind_ok (line_at line text) _ x e in
    let c = bind_ok (grounding_in line b.0.0) _ x b.2 in
    subst (λ (y : Grounding × List ℕ). BeginsWith text (grounding_line y.0) y.1) (ok_is (c.0, b.0.1) x c.2) (line_is line text b.0 b.1 ∙ ap (λ (t : List ℕ). t ++ 10 ∷ b.0.1) (grounding_is line b.0.0 c.0 c.1))

-- one line, and what follows
pub one_line : (first rest : List ℕ) → texts.lines (first ∷ []) ++ rest ≡ first ++ 10 ∷ rest
one_line first rest = append_assoc (texts.line first) [] rest ∙ append_assoc first (10 ∷ []) rest

lines_both : (xs ys : List (List ℕ)) → texts.lines (xs ++ ys) ≡ texts.lines xs ++ texts.lines ys
lines_both [] ys = refl
lines_both (x ∷ xs) ys = ap (λ (t : List ℕ). texts.line x ++ t) (lines_both xs ys) ∙ sym (append_assoc (texts.line x) (texts.lines xs) (texts.lines ys))

-- some lines, other lines, and what follows
pub others_then : (some others : List (List ℕ)) (rest : List ℕ) → texts.lines (some ++ others) ++ rest ≡ texts.lines some ++ (texts.lines others ++ rest)
others_then some others rest = ap (λ (t : List ℕ). t ++ rest) (lines_both some others) ∙ append_assoc (texts.lines some) (texts.lines others) rest

said_width_is : (line : ℕ) (text : List ℕ) (x : ℕ × List ℕ) → width_line_at line text ≡ Ok x → (text ≡ texts.lines (width_text Two x.0) ++ x.1) × IsWidthOf Two x.0
unfolding width_line_at
said_width_is line text x e =
    let b = bind_ok (line_at line text) _ x e in
    let c = bind_ok (width_in line b.0.0) _ x b.2 in
    let w = width_is line b.0.0 c.0 c.1 in
    subst (λ (y : ℕ × List ℕ). (text ≡ texts.lines (width_text Two y.0) ++ y.1) × IsWidthOf Two y.0) (ok_is (c.0, b.0.1) x c.2)
    (line_is line text b.0 b.1 ∙ ap (λ (t : List ℕ). t ++ 10 ∷ b.0.1) w.0 ∙ sym (one_line (codes "width " ++ decimal c.0) b.0.1), w.1)

width_line_is : (version : Version) (line : ℕ) (text : List ℕ) (x : ℕ × List ℕ) → width_at version line text ≡ Ok x → (text ≡ texts.lines (width_text version x.0) ++ x.1) × IsWidthOf version x.0
unfolding width_at
width_line_is One line text x e = subst (λ (y : ℕ × List ℕ). (text ≡ texts.lines (width_text One y.0) ++ y.1) × IsWidthOf One y.0) (ok_is (version_1_digits, text) x e) (refl, refl)
width_line_is Two line text x e = said_width_is line text x e
width_line_is Three line text x e = said_width_is line text x e
width_line_is Four line text x e = said_width_is line text x e

-- two lines, other lines, and what follows
pub head_then : (first second others rest : List ℕ) → (texts.line first ++ (texts.line second ++ others)) ++ rest ≡ first ++ 10 ∷ (second ++ 10 ∷ (others ++ rest))
head_then first second others rest =
    append_assoc (texts.line first) (texts.line second ++ others) rest
    ∙ ap (λ (t : List ℕ). texts.line first ++ t) (append_assoc (texts.line second) others rest ∙ append_assoc second (10 ∷ []) (others ++ rest))
    ∙ append_assoc first (10 ∷ []) (second ++ 10 ∷ (others ++ rest))

-- a line, other lines, and what follows
pub line_and_others : (first others rest : List ℕ) → (texts.line first ++ others) ++ rest ≡ first ++ 10 ∷ (others ++ rest)
line_and_others first others rest = append_assoc (texts.line first) others rest ∙ append_assoc first (10 ∷ []) (others ++ rest)

-- a choice of an estimate is read of its lines, and can be stated
abbrev AreEstimateLines : (width : ℕ) → (text : List ℕ) → Choice × List ℕ → Type 0
AreEstimateLines width text x = (text ≡ texts.lines (estimate_text width x.0) ++ x.1) × CanBeStated width x.0

tables_are : (width line : ℕ) (text : List ℕ) (x : Choice × List ℕ) → tables_read (tables_at width line text) ≡ Ok x → AreEstimateLines width text x
tables_are width line text x e = go (tables_at width line text) refl e
  where
    go : (r : Result (TablesValue × List ℕ) ℕ) → tables_at width line text ≡ r → tables_read r ≡ Ok x → AreEstimateLines width text x
    go (Ok read) is e = subst (AreEstimateLines width text) (ok_is (Tables read.0, read.1) x e) (tables_are_read_as_written.written width line text read.0 read.1 is)
    go (Err refused) is e = absurd cc

estimate_cases : (width line : ℕ) (text : List ℕ) (x : Choice × List ℕ) (first : List ℕ × List ℕ) → line_at line text ≡ Ok first → (b : Bool)
    → cond b (tables_read (tables_at width line text)) (estimate_in line first.0 >>= λ choice. Ok (choice, first.1)) ≡ Ok x → AreEstimateLines width text x
estimate_cases width line text x first at true e = tables_are width line text x e
estimate_cases width line text x first at false e =
    let c = bind_ok (estimate_in line first.0) _ x e in
    let is = estimate_is width line first.0 c.0 c.1 in
    subst (AreEstimateLines width text) (ok_is (c.0, first.1) x c.2)
    (line_is line text first at ∙ sym (one_line first.0 first.1) ∙ ap (λ (ls : List (List ℕ)). texts.lines ls ++ first.1) (sym is.0), is.1)

pub estimate_lines_are : (width line : ℕ) (text : List ℕ) (x : Choice × List ℕ) → estimate_at width line text ≡ Ok x → AreEstimateLines width text x
unfolding estimate_at
estimate_lines_are width line text x e =
    let b = bind_ok (line_at line text) _ x e in
    estimate_cases width line text x b.0 b.1 (is_some (behind (codes "estimate tables ") b.0.0)) b.2

-- what is stated is read of its lines, and is of the version
abbrev AreStatedLines : Version → (width : ℕ) → (text : List ℕ) → Stated × List ℕ → Type 0
AreStatedLines version width text x = (text ≡ texts.lines (stated_text version width x.0) ++ x.1) × StatesChoice version width x.0.choice × StatesGrounding version x.0.grounding

stated_is : (version : Version) (width line : ℕ) (text : List ℕ) (x : Stated × List ℕ) → stated_at version width line text ≡ Ok x → AreStatedLines version width text x
unfolding stated_at
stated_is One width line text x e = subst (AreStatedLines One width text) (ok_is (record { grounding = All; choice = Plain }, text) x e) (refl, tt, refl)
stated_is Two width line text x e = subst (AreStatedLines Two width text) (ok_is (record { grounding = All; choice = Plain }, text) x e) (refl, tt, refl)
stated_is Three width line text x e =
    let b = bind_ok (number_at line (codes "pattern ") text) _ x e in
    let w = number_line_is line (codes "pattern ") text b.0 b.1 in
    subst (AreStatedLines Three width text) (ok_is (record { grounding = All; choice = Pattern b.0.0 }, b.0.1) x b.2)
    (w.2 ∙ ap (λ (t : List ℕ). (codes "pattern " ++ t) ++ 10 ∷ b.0.1) (number_word_is w.0 b.0.0 w.1) ∙ sym (one_line (codes "pattern " ++ decimal b.0.0) b.0.1), w.1.small, refl)
stated_is Four width line text x e =
    let b = bind_ok (grounding_at line text) _ x e in
    let c = bind_ok (estimate_at width (line + 1) b.0.1) _ x b.2 in
    let said = estimate_lines_are width (line + 1) b.0.1 c.0 c.1 in
    subst (AreStatedLines Four width text) (ok_is (record { grounding = b.0.0; choice = c.0.0 }, c.0.1) x c.2)
    (grounding_line_is line text b.0 b.1 ∙ ap (λ (t : List ℕ). grounding_line b.0.0 ++ 10 ∷ t) said.0 ∙ sym (line_and_others (grounding_line b.0.0) (texts.lines (estimate_text width c.0.0)) c.0.1), said.1, tt)

pub head_is : (text : List ℕ) (x : Spelling × List ℕ) → head_at text ≡ Ok x → (text ≡ texts.lines (head_of x.0) ++ x.1) × IsSpelling x.0
unfolding head_at
head_is text x e =
    let a = bind_ok (version_at 1 text) _ x e in
    let b = bind_ok (kind_at a.0.0 2 a.0.1) _ x a.2 in
    let w = bind_ok (width_at a.0.0 3 b.0.1) _ x b.2 in
    let line = 3 + length (width_text a.0.0 w.0.0) in
    let c = bind_ok (stated_at a.0.0 w.0.0 line w.0.1) _ x w.2 in
    let made : Spelling = spelling_with a.0.0 b.0.0 w.0.0 c.0.0 in
    let width : List (List ℕ) = width_text a.0.0 w.0.0 in
    let stated : List (List ℕ) = stated_text a.0.0 w.0.0 c.0.0 in
    let kinds = kind_line_is a.0.0 2 a.0.1 b.0 b.1 in
    let wide = width_line_is a.0.0 3 b.0.1 w.0 w.1 in
    let said = stated_is a.0.0 w.0.0 line w.0.1 c.0 c.1 in
    let behind_kind : b.0.1 ≡ texts.lines (width ++ stated) ++ c.0.1 =
    wide.0 ∙ ap (λ (t : List ℕ). texts.lines width ++ t) said.0 ∙ sym (others_then width stated c.0.1) in
    let is : text ≡ texts.lines (head_of made) ++ c.0.1 =
    version_line_is 1 text a.0 a.1
    ∙ ap (λ (t : List ℕ). version_line a.0.0 ++ 10 ∷ t) (kinds.0 ∙ ap (λ (t : List ℕ). kind_line b.0.0 ++ 10 ∷ t) behind_kind)
    ∙ sym (head_then (version_line a.0.0) (kind_line b.0.0) (texts.lines (width ++ stated)) c.0.1) in
    subst (λ (y : Spelling × List ℕ). (text ≡ texts.lines (head_of y.0) ++ y.1) × IsSpelling y.0) (ok_is (made, c.0.1) x c.2) (is, record { width = wide.1; choice = said.1; grounding = said.2; kind = kinds.1 })

weight_line_is : (line : ℕ) (text : List ℕ) (x : Weight × List ℕ) → weight_at line text ≡ Ok x → (words : List ℕ) × BeginsWith text words x.1 × IsWeightLine words x.0
unfolding weight_at
weight_line_is line text x e =
    let b = bind_ok (line_at line text) _ x e in
    let c = bind_ok (weight_in line b.0.0) _ x b.2 in
    subst (λ (y : Weight × List ℕ). (words : List ℕ) × BeginsWith text words y.1 × IsWeightLine words y.0) (ok_is (c.0, b.0.1) x c.2) (b.0.0, line_is line text b.0 b.1, weight_is line b.0.0 c.0 c.1)

row_line_is : (width line : ℕ) (text : List ℕ) (x : Line × List ℕ) → row_at width line text ≡ Ok x → (words : List ℕ) × BeginsWith text words x.1 × IsRowLine width words x.0
unfolding row_at
row_line_is width line text x e =
    let b = bind_ok (line_at line text) _ x e in
    let c = bind_ok (row_in width line b.0.0) _ x b.2 in
    subst (λ (y : Line × List ℕ). (words : List ℕ) × BeginsWith text words y.1 × IsRowLine width words y.0) (ok_is (c.0, b.0.1) x c.2) (b.0.0, line_is line text b.0 b.1, row_is width line b.0.0 c.0 c.1)

-- ---- lines in a row

actions_are : (count line : ℕ) (text : List ℕ) (x : List ℕ × List ℕ) → actions_at count line text ≡ Ok x → AreActionLines text x.0 x.1 × (length x.0 ≡ count)
unfolding actions_at
actions_are zero line text x e = subst (λ (y : List ℕ × List ℕ). AreActionLines text y.0 y.1 × (length y.0 ≡ 0)) (ok_is ([], text) x e) (refl, refl)
actions_are (suc count) line text x e =
    let b = bind_ok (number_at line [] text) _ x e in
    let c = bind_ok (actions_at count (line + 1) b.0.1) _ x b.2 in
    let r = actions_are count (line + 1) b.0.1 c.0 c.1 in
    subst (λ (y : List ℕ × List ℕ). AreActionLines text y.0 y.1 × (length y.0 ≡ suc count)) (ok_is (b.0.0 ∷ c.0.0, c.0.1) x c.2) ((b.0.1, number_line_is line [] text b.0 b.1, r.0), ap suc r.1)

rows_are : (width count line : ℕ) (text : List ℕ) (x : List Line × List ℕ) → rows_at width count line text ≡ Ok x → AreRowLines width text x.0 x.1 × (length x.0 ≡ count)
unfolding rows_at
rows_are width zero line text x e = subst (λ (y : List Line × List ℕ). AreRowLines width text y.0 y.1 × (length y.0 ≡ 0)) (ok_is ([], text) x e) (refl, refl)
rows_are width (suc count) line text x e =
    let b = bind_ok (row_at width line text) _ x e in
    let c = bind_ok (rows_at width count (line + 1) b.0.1) _ x b.2 in
    let r = rows_are width count (line + 1) b.0.1 c.0 c.1 in
    let w = row_line_is width line text b.0 b.1 in
    subst (λ (y : List Line × List ℕ). AreRowLines width text y.0 y.1 × (length y.0 ≡ suc count)) (ok_is (b.0.0 ∷ c.0.0, c.0.1) x c.2) ((w.0, b.0.1, w.1, w.2, r.0), ap suc r.1)

plan_cases : (line : ℕ) (text : List ℕ) (x : Option Plan × List ℕ) (first : List ℕ × List ℕ) → line_at line text ≡ Ok first → (b : Bool) → is_text (codes "none") first.0 ≡ b
    → cond b (Ok (None, first.1)) (number_behind line (codes "plan ") first.0 >>= λ count. steps_at count (line + 1) first.1 >>= λ plan. Ok (Some plan.0, plan.1)) ≡ Ok x → ArePlanLines text x.0 x.1
unfolding steps_at
plan_cases line text x first at true is e =
    subst (λ (y : Option Plan × List ℕ). ArePlanLines text y.0 y.1) (ok_is (None, first.1) x e) (line_is line text first at ∙ ap (λ (t : List ℕ). t ++ 10 ∷ first.1) (text_is (codes "none") first.0 is))
plan_cases line text x first at false is e =
    let b = bind_ok (number_behind line (codes "plan ") first.0) _ x e in
    let c = bind_ok (steps_at b.0 (line + 1) first.1) _ x b.2 in
    let d = bind_ok (actions_at b.0 (line + 1) first.1) _ c.0 c.1 in
    let f = bind_ok (number_at (line + 1 + length d.0.0) (codes "cost ") d.0.1) _ c.0 d.2 in
    let w = behind_number line (codes "plan ") first.0 b.0 b.1 in
    let r = actions_are b.0 (line + 1) first.1 d.0 d.1 in
    let n : IsNumberWord w.0 (length d.0.0) = subst (IsNumberWord w.0) (sym r.1) w.1 in
    let made : Plan × List ℕ = (record { actions = d.0.0; cost = f.0.0 }, f.0.1) in
    let whole : ArePlanLines text (Some made.0) made.1 =
    (first.1, d.0.1, (w.0, n, line_is line text first at ∙ ap (λ (t : List ℕ). t ++ 10 ∷ first.1) w.2), r.0, number_line_is (line + 1 + length d.0.0) (codes "cost ") d.0.1 f.0 f.1) in
    let same : made ≡ c.0 = ok_is made c.0 f.2 in
    subst (λ (y : Option Plan × List ℕ). ArePlanLines text y.0 y.1) (ap (λ (m : Plan × List ℕ). (Some m.0, m.1)) same ∙ ok_is (Some c.0.0, c.0.1) x c.2) whole

plan_is : (line : ℕ) (text : List ℕ) (x : Option Plan × List ℕ) → plan_at line text ≡ Ok x → ArePlanLines text x.0 x.1
unfolding plan_at
plan_is line text x e =
    let a = bind_ok (line_at line text) _ x e in
    plan_cases line text x a.0 a.1 (is_text (codes "none") a.0.0) refl a.2

pub end_is : (line : ℕ) (text : List ℕ) (x : Bool) → end_at line text ≡ Ok x → BeginsWith text (codes "end") []
unfolding end_at
end_is line text x e =
    let a = bind_ok (fixed_at line (codes "end") text) _ x e in
    let g = guard_ok (eqb (length a.0) 0) (Syntax (line + 1)) true x a.2 in
    fixed_is line (codes "end") text a.0 a.1 ∙ ap (λ (r : List ℕ). codes "end" ++ 10 ∷ r) (nil_from_length a.0 (eqb-true _ _ g.0))

pub record IsBody (width : ℕ) (text : List ℕ) (rows : List Line) : Type 0 where
  pub row_part : List ℕ
  pub end_line : List ℕ
  pub count : BeginsWithNumber text (codes "rows ") (length rows) row_part
  pub rows_are : AreRowLines width row_part rows end_line
  pub end : BeginsWith end_line (codes "end") []

body_is : (width line : ℕ) (text : List ℕ) (rows : List Line) → body_at width line text ≡ Ok rows → IsBody width text rows
unfolding body_at
body_is width line text rows e =
    let a = bind_ok (number_at line (codes "rows ") text) _ rows e in
    let b = bind_ok (rows_at width a.0.0 (line + 1) a.0.1) _ rows a.2 in
    let c = bind_ok (end_at (line + 1 + length b.0.0) b.0.1) _ rows b.2 in
    let r = rows_are width a.0.0 (line + 1) a.0.1 b.0 b.1 in
    subst (IsBody width text) (ok_is b.0.0 rows c.2) (record {
      row_part = a.0.1;
      end_line = b.0.1;
      count = subst (λ n. BeginsWithNumber text (codes "rows ") n a.0.1) (sym r.1) (number_line_is line (codes "rows ") text a.0 a.1);
      rows_are = r.0;
      end = end_is (line + 1 + length b.0.0) b.0.1 c.0 c.1;
    })

pub spelled : (bytes : List ℕ) (text : Text) → text_of bytes ≡ Ok text → Spells bytes text
unfolding text_of
spelled bytes text e =
    let a = bind_ok (head_at bytes) _ text e in
    let line = weight_line a.0.0 in
    let b = bind_ok (weight_at line a.0.1) _ text a.2 in
    let c = bind_ok (plan_at (line + 1) b.0.1) _ text b.2 in
    let d = bind_ok (body_at a.0.0.width (line + 1 + plan_lines c.0.0) c.0.1) _ text c.2 in
    let h = head_is bytes a.0 a.1 in
    let w = weight_line_is line a.0.1 b.0 b.1 in
    let body : IsBody a.0.0.width c.0.1 d.0 = body_is a.0.0.width (line + 1 + plan_lines c.0.0) c.0.1 d.0 d.1 in
    subst (Spells bytes) (ok_is (record { spelling = a.0.0; certificate = record { weight = b.0.0; plan = c.0.0; lines = d.0 }; first = first_line a.0.0 c.0.0 }) text d.2) (record {
      weight_line = a.0.1;
      plan_part = b.0.1;
      count_line = c.0.1;
      row_part = body.row_part;
      end_line = body.end_line;
      weight_words = w.0;
      known = h.1;
      head = h.0;
      weight = (w.1, w.2);
      plan = plan_is (line + 1) b.0.1 c.0 c.1;
      count = body.count;
      rows = body.rows_are;
      end = body.end;
      first = refl;
    })

-- the choice of an estimate that is read of a text is the one that its first lines state
pub choice_is : (parts : TaskParts) (bytes : List ℕ) (text : Text) → text_of bytes ≡ Ok text → stated_choice parts bytes ≡ suiting parts text.spelling.stated.choice
unfolding text_of
choice_is parts bytes text e =
    let a = bind_ok (head_at bytes) _ text e in
    let line = weight_line a.0.0 in
    let b = bind_ok (weight_at line a.0.1) _ text a.2 in
    let c = bind_ok (plan_at (line + 1) b.0.1) _ text b.2 in
    let d = bind_ok (body_at a.0.0.width (line + 1 + plan_lines c.0.0) c.0.1) _ text c.2 in
    ap (choice_in parts) a.1
    ∙ ap (λ (t : Text). suiting parts t.spelling.stated.choice) (ok_is (record { spelling = a.0.0; certificate = record { weight = b.0.0; plan = c.0.0; lines = d.0 }; first = first_line a.0.0 c.0.0 }) text d.2)
