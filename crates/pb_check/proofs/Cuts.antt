-- A certificate that is cut off is refused in the line that it ends in.
use Rattle.std.proofs.Common.{◌≡◌, ◌≢◌, ◌⊎◌, inl, inr, ℕ, zero, suc, ◌+◌, Bool, true, false, cond, eqb, Option, None, Some, List, [], ◌∷◌, ◌++◌, length, Result, Ok, Err, refl, sym, ap, ◌∙◌, subst, arith, append_assoc, length-append}
use Rattle.std.specs.Prelude.{codes, is_some}
use Rattle.std.proofs.lemmas.Bool.{eqb-true}
use Rattle.std.proofs.lemmas.List.{nil_from_length}
use Rattle.pb_packed.specs.Sizes.{version_1_digits}
use Rattle.pb_model.specs.Weight.{Weight}
use Rattle.pb_model.specs.Plan.{Plan}
use Rattle.pb_model.specs.Certificate.{Line}
use Rattle.pb_task.specs.declared.kind.Kind.{Kind}
use Rattle.pb_task.specs.declared.parts.TaskParts.{TaskParts}
use Rattle.pb_task.specs.declared.grounding.Grounding.TheVariants.{All}
use Rattle.pb_tables.specs.Tables.{TablesValue}
use Rattle.pb_table_lines.specs.Reading.{tables_at}
use Rattle.pb_table_lines.specs.Lines.{tables_lines}
use Rattle.pb_table_lines.proofs.Callers.{cut_tables_are_refused}
use Rattle.pb_estimate.specs.Choices.{Choice, Plain, Pattern, Tables}
use Rattle.pb_estimate.specs.declared.spelling.Stated.{Stated}
use Rattle.pb_estimate.specs.declared.spelling.Spelling.{Spelling}
use Rattle.pb_estimate.specs.declared.spelling.Version.{Version}
use Rattle.pb_estimate.specs.declared.spelling.Version.TheVariants.{One, Two, Three, Four}
use Rattle.pb_estimate.specs.Spelling.{width_text, estimate_text, stated_text, head_lines}
use Rattle.pb_check.specs.declared.fault.CertificateFault.{CertificateFault}
use Rattle.pb_check.specs.declared.fault.CertificateFault.TheVariants.{Syntax}
use Rattle.pb_check.specs.declared.fault.CheckError.{CheckError}
use Rattle.pb_check.specs.declared.fault.Verdict.{Verdict}
use Rattle.pb_lines.specs.Words.{part, behind, is_text, has_none, line_feeds}
use Rattle.pb_check.specs.Faults.{◌>>=◌, wanted, Gives}
use Rattle.pb_check.specs.Reading.{line_at, number_behind, version_in, kind_in, kind_for, width_in, grounding_in, estimate_in, weight_in, row_in, fixed_at, number_at, version_at, kind_at, width_line_at, width_at, grounding_at, tables_read, estimate_at, stated_at, head_at, weight_at, row_at, actions_at, rows_at, steps_at, plan_at, plan_lines, weight_line, first_line, Text, end_at, body_at, text_of}
use Rattle.pb_check.specs.Judging.{judged, checked}
use Rattle.pb_check.specs.Shown.{IsCutOff, CutCertificatesAreRefused}
use Rattle.pb_lines.proofs.Callers.{part_is, part_none, part_again, one_feed, no_feed}
use Rattle.pb_check.proofs.Lines.{spelling_with}
use Rattle.pb_check.proofs.Spelled.{bind_ok, ok_is, guard_ok, estimate_is}
use Rattle.pb_check.proofs.Written.{read_as_spelled}

-- ---- the first line of a text that goes on

-- the fault of the line that a text ends in, from this line on
abbrev cut : {A : Type 0} → (line : ℕ) → (text : List ℕ) → Result A CertificateFault
cut line text = Err (Syntax (line + line_feeds text))

record HasFirst (line : ℕ) (start rest : List ℕ) : Type 0 where
  first : List ℕ
  left : List ℕ
  here : line_at line start ≡ Ok (first, left)
  there : line_at line (start ++ rest) ≡ Ok (first, left ++ rest)
  one : line_feeds start ≡ suc (line_feeds left)

first_cases : (line : ℕ) (start rest : List ℕ) → HasFirst line start rest
    ⊎ (line_at line start ≡ cut line start)
first_cases line start rest = go (part 10 start) refl
  where
    go : (o : Option (List ℕ × List ℕ)) → part 10 start ≡ o → HasFirst line start rest
        ⊎ (line_at line start ≡ cut line start)
    go (Some x) is =
        let none : has_none 10 x.0 ≡ true = part_none 10 start x.0 x.1 is in
        let here : start ≡ x.0 ++ 10 ∷ x.1 = part_is 10 start x.0 x.1 is in
        let whole : start ++ rest ≡ x.0 ++ 10 ∷ (x.1 ++ rest) =
        ap (λ (t : List ℕ). t ++ rest) here ∙ append_assoc x.0 (10 ∷ x.1) rest in
        inl (record {
          first = x.0;
          left = x.1;
          here = ap (wanted line) is;
          there = ap (line_at line) whole ∙ ap (wanted line) (part_again 10 x.0 (x.1 ++ rest) none);
          one = one_feed start x.0 x.1 is;
        })
    go None is =
        let none : line_feeds start ≡ 0 = no_feed start is in
        let same : line ≡ line + line_feeds start = omega (arith, none) in
        inr (ap (wanted line) is ∙ ap (λ (n : ℕ). Err (Syntax n)) same)

-- ---- reading some lines of a text that goes on: its beginning is read so too, or is cut off

abbrev Goes : {A : Type 0} → (n line : ℕ) → Result (A × List ℕ) CertificateFault
    → (start rest : List ℕ) → A → (after : List ℕ) → Type 0
Goes n line read start rest x after =
    ((left : List ℕ) × (read ≡ Ok (x, left)) × (after ≡ left ++ rest)
    × (line_feeds start ≡ n + line_feeds left)) ⊎ (read ≡ cut line start)

-- what was read tells how many lines it took
abbrev IsStep : {A : Type 0} → (lines : A → ℕ) → (line : ℕ)
    → (List ℕ → Result (A × List ℕ) CertificateFault) → Type 0
IsStep {A} lines line read =
    (start rest : List ℕ) (x : A) (after : List ℕ) → read (start ++ rest) ≡ Ok (x, after)
    → Goes (lines x) line (read start) start rest x after

-- reading all of a text
abbrev IsLast : {A : Type 0} → (line : ℕ) → (List ℕ → Result A CertificateFault) → Type 0
IsLast {A} line read = (start rest : List ℕ) (x : A) → read (start ++ rest) ≡ Ok x → rest ≢ []
    → read start ≡ cut line start

abbrev named : {A B : Type 0} → (A → B) → A × List ℕ → Result (B × List ℕ) CertificateFault
named f x = Ok (f x.0, x.1)

pair_is : {A : Type 0} (x y : A) (s t : List ℕ)
    → ◌≡◌ {A = Result (A × List ℕ) CertificateFault} (Ok (x, s)) (Ok (y, t)) → (x ≡ y) × (s ≡ t)
pair_is {A} x y s t e =
    let same = ok_is (x, s) (y, t) e in
    (ap (λ (z : A × List ℕ). z.0) same, ap (λ (z : A × List ℕ). z.1) same)

-- nothing more is read
given_step : {A : Type 0} (lines : A → ℕ) (line : ℕ) (x : A) → lines x ≡ 0
    → IsStep lines line (λ text. Ok (x, text))
given_step {A} lines line x none start rest y after e =
    let same = pair_is x y (start ++ rest) after e in
    let count : lines y ≡ 0 = ap lines (sym same.0) ∙ none in
    inl (start, ap (λ (z : A). Ok (z, start)) same.0, sym same.1, omega (arith, count))

-- what a line says doesn't depend on the text after it
after_words : {A B : Type 0} (lines : B → ℕ) (line : ℕ) (words : Result A CertificateFault)
    (next : A → List ℕ → Result (B × List ℕ) CertificateFault)
    → ((x : A) → IsStep lines line (next x))
    → IsStep lines line (λ text. words >>= λ x. next x text)
after_words lines line (Ok x) next steps start rest y after e = steps x start rest y after e
after_words lines line (Err fault) next steps start rest y after e = absurd cc

either_step : {A : Type 0} (lines : A → ℕ) (line : ℕ) (b : Bool)
    (one two : List ℕ → Result (A × List ℕ) CertificateFault)
    → IsStep lines line one → IsStep lines line two
    → IsStep lines line (λ text. cond b (one text) (two text))
either_step lines line true one two is are = is
either_step lines line false one two is are = are

-- a line, and what is read after it
line_step : {A : Type 0} (n m : A → ℕ) (line : ℕ)
    (read : List ℕ × List ℕ → Result (A × List ℕ) CertificateFault) → ((x : A) → n x ≡ 1 + m x)
    → ((first : List ℕ) → IsStep m (line + 1) (λ text. read (first, text)))
    → IsStep n line (λ text. line_at line text >>= read)
line_step {A} n m line read count steps start rest x after e = go (first_cases line start rest)
  where
    go : HasFirst line start rest ⊎ (line_at line start ≡ cut line start)
        → Goes (n x) line (line_at line start >>= read) start rest x after
    go (inr fails) = inr (ap (λ r. r >>= read) fails)
    go (inl h) = more (steps h.first h.left rest x after (sym (ap (λ r. r >>= read) h.there) ∙ e))
      where
        more : Goes (m x) (line + 1) (read (h.first, h.left)) h.left rest x after
            → Goes (n x) line (line_at line start >>= read) start rest x after
        more (inl k) = let c = count x in let one = h.one in let f = k.3 in
            inl (k.0, ap (λ r. r >>= read) h.here ∙ k.1, k.2, omega (arith, c, one, f))
        more (inr k) =
            let same : line + 1 + line_feeds h.left ≡ line + line_feeds start =
            (let one = h.one in omega (arith, one)) in
            inr (ap (λ r. r >>= read) h.here ∙ k ∙ ap (λ (l : ℕ). Err (Syntax l)) same)

-- one thing and then another, whose number of lines may depend on the first
pair_step : {A B C : Type 0} (n : A → ℕ) (m : A → B → ℕ) (lines : C → ℕ) (made : A → B → C)
    → ((x : A) (y : B) → lines (made x y) ≡ n x + m x y)
    → (line : ℕ) (read : List ℕ → Result (A × List ℕ) CertificateFault)
    (next : A → List ℕ → Result (B × List ℕ) CertificateFault)
    → IsStep n line read → ((x : A) → IsStep (m x) (line + n x) (next x))
    → IsStep lines line (λ text. read text >>= λ x. next x.0 x.1 >>= named (made x.0))
pair_step {A} {B} {C} n m lines made count line read next one two start rest z after e =
    let a = bind_ok (read (start ++ rest)) (λ x. next x.0 x.1 >>= named (made x.0)) (z, after) e in
    let b = bind_ok (next a.0.0 a.0.1) (named (made a.0.0)) (z, after) a.2 in
    let same = pair_is (made a.0.0 b.0.0) z b.0.1 after b.2 in
    go a.0 b.0 b.1 same.0 same.1 (one start rest a.0.0 a.0.1 a.1)
  where
    go : (x : A × List ℕ) (y : B × List ℕ) → next x.0 x.1 ≡ Ok y → made x.0 y.0 ≡ z → y.1 ≡ after
        → Goes (n x.0) line (read start) start rest x.0 x.1
        → Goes (lines z) line (read start >>= λ x. next x.0 x.1
        >>= named (made x.0)) start rest z after
    go x y is made_is after_is (inr fails) =
        inr (ap (λ r. r >>= λ x. next x.0 x.1 >>= named (made x.0)) fails)
    go x y is made_is after_is (inl h) =
        more (two x.0 h.0 rest y.0 y.1 (ap (next x.0) (sym h.2) ∙ is))
      where
        here : (read start >>= λ x. next x.0 x.1 >>= named (made x.0))
            ≡ (next x.0 h.0 >>= named (made x.0))
        here = ap (λ r. r >>= λ x. next x.0 x.1 >>= named (made x.0)) h.1

        more : Goes (m x.0 y.0) (line + n x.0) (next x.0 h.0) h.0 rest y.0 y.1
            → Goes (lines z) line (read start >>= λ x. next x.0 x.1
            >>= named (made x.0)) start rest z after
        more (inl k) =
            let c : lines z ≡ n x.0 + m x.0 y.0 = ap lines (sym made_is) ∙ count x.0 y.0 in
            let f = h.3 in let g = k.3 in
            inl (
              k.0,
              here ∙ ap (λ r. r >>= named (made x.0)) k.1 ∙ ap (λ (w : C). Ok (w, k.0)) made_is,
              sym after_is ∙ k.2,
              omega (arith, c, f, g),
            )
        more (inr k) =
            let same : line + n x.0 + line_feeds h.0 ≡ line + line_feeds start =
            (let f = h.3 in omega (arith, f)) in
            inr (here ∙ ap (λ r. r >>= named (made x.0)) k ∙ ap (λ (l : ℕ). Err (Syntax l)) same)

-- one thing and then another
then_step : {A B C : Type 0} (n : A → ℕ) (m : B → ℕ) (lines : C → ℕ) (made : A → B → C)
    → ((x : A) (y : B) → lines (made x y) ≡ n x + m y)
    → (line : ℕ) (read : List ℕ → Result (A × List ℕ) CertificateFault)
    (next : A → List ℕ → Result (B × List ℕ) CertificateFault)
    → IsStep n line read → ((x : A) → IsStep m (line + n x) (next x))
    → IsStep lines line (λ text. read text >>= λ x. next x.0 x.1 >>= named (made x.0))
then_step n m lines made count line read next one two =
    pair_step n (λ x. m) lines made count line read next one two

-- the same under another name
named_step : {A B : Type 0} (n : A → ℕ) (lines : B → ℕ) (f : A → B) → ((x : A) → lines (f x) ≡ n x)
    → (line : ℕ) (read : List ℕ → Result (A × List ℕ) CertificateFault)
    → IsStep n line read → IsStep lines line (λ text. read text >>= named f)
named_step {A} {B} n lines f count line read one start rest z after e =
    let a = bind_ok (read (start ++ rest)) (named f) (z, after) e in
    let same = pair_is (f a.0.0) z a.0.1 after a.2 in
    go a.0 same.0 same.1 (one start rest a.0.0 a.0.1 a.1)
  where
    go : (x : A × List ℕ) → f x.0 ≡ z → x.1 ≡ after
        → Goes (n x.0) line (read start) start rest x.0 x.1
        → Goes (lines z) line (read start >>= named f) start rest z after
    go x named_is after_is (inr fails) = inr (ap (λ r. r >>= named f) fails)
    go x named_is after_is (inl h) =
        let c : lines z ≡ n x.0 = ap lines (sym named_is) ∙ count x.0 in
        let g = h.3 in
        inl (
          h.0,
          ap (λ r. r >>= named f) h.1 ∙ ap (λ (w : B). Ok (w, h.0)) named_is,
          sym after_is
              ∙ h.2,
          omega (arith, c, g),
        )

-- the same in other words
same_step : {A : Type 0} (lines : A → ℕ) (line : ℕ)
    (read other : List ℕ → Result (A × List ℕ) CertificateFault)
    → ((text : List ℕ) → read text ≡ other text) → IsStep lines line other → IsStep lines line read
same_step {A} lines line read other same is start rest x after e =
    subst (λ (r : Result (A × List ℕ) CertificateFault). Goes (lines x) line r start rest x after)
    (sym (same start)) (is start rest x after (sym (same (start ++ rest)) ∙ e))

unnamed : {A : Type 0} (r : Result (A × List ℕ) CertificateFault) → r ≡ (r >>= named (λ x. x))
unnamed (Ok x) = refl
unnamed (Err fault) = refl

pub after_unnamed : {A B : Type 0} (r : Result (A × List ℕ) CertificateFault)
    (next : A → List ℕ → Result (B × List ℕ) CertificateFault)
    → (r >>= λ x. next x.0 x.1) ≡ (r >>= λ x. next x.0 x.1 >>= named (λ y. y))
after_unnamed (Ok x) next = unnamed (next x.0 x.1)
after_unnamed (Err fault) next = refl

-- one thing, and then all others together
tail_step : {A C : Type 0} (n : A → ℕ) (m lines : C → ℕ)
    → ((x : A) (z : C) → lines z ≡ n x + m z)
    → (line : ℕ) (read : List ℕ → Result (A × List ℕ) CertificateFault)
    (next : A → List ℕ → Result (C × List ℕ) CertificateFault)
    → IsStep n line read → ((x : A) → IsStep m (line + n x) (next x))
    → IsStep lines line (λ text. read text >>= λ x. next x.0 x.1)
tail_step {A} {C} n m lines count line read next one two =
    same_step lines line (λ text. read text >>= λ x. next x.0 x.1)
    (λ text. read text >>= λ x. next x.0 x.1 >>= named (λ y. y))
    (λ text. after_unnamed (read text) next)
    (then_step n m lines (λ x z. z) count line read next one two)

-- some lines, and then all that is left
then_last : {A B : Type 0} (n : A → ℕ) (line : ℕ)
    (read : List ℕ → Result (A × List ℕ) CertificateFault)
    (next : A → List ℕ → Result B CertificateFault)
    → IsStep n line read → ((x : A) → IsLast (line + n x) (next x))
    → IsLast line (λ text. read text >>= λ x. next x.0 x.1)
then_last {A} {B} n line read next one two start rest y e some =
    let a = bind_ok (read (start ++ rest)) (λ x. next x.0 x.1) y e in
    go a.0 a.2 (one start rest a.0.0 a.0.1 a.1)
  where
    go : (x : A × List ℕ) → next x.0 x.1 ≡ Ok y → Goes (n x.0) line (read start) start rest x.0 x.1
        → (read start >>= λ x. next x.0 x.1) ≡ cut line start
    go x is (inr fails) = ap (λ r. r >>= λ x. next x.0 x.1) fails
    go x is (inl h) =
        let same : line + n x.0 + line_feeds h.0 ≡ line + line_feeds start =
        (let f = h.3 in omega (arith, f)) in
        ap (λ r. r >>= λ x. next x.0 x.1) h.1
        ∙ two x.0 h.0 rest y (ap (next x.0) (sym h.2) ∙ is) some
        ∙ ap (λ (l : ℕ). Err (Syntax l)) same

named_last : {A B : Type 0} (line : ℕ) (read : List ℕ → Result A CertificateFault) (f : A → B)
    → IsLast line read → IsLast line (λ text. read text >>= λ x. Ok (f x))
named_last line read f last start rest y e some =
    let a = bind_ok (read (start ++ rest)) (λ x. Ok (f x)) y e in
    ap (λ r. r >>= λ x. Ok (f x)) (last start rest a.0 a.1 some)

abbrev after_fixed : {A : Type 0} → (line : ℕ) → (piece : List ℕ)
    → (next : List ℕ → Result A CertificateFault) → Result (List ℕ × List ℕ) CertificateFault
    → Result A CertificateFault
after_fixed line piece next r =
    (r >>= λ first. cond (is_text piece first.0) (Ok first.1) (Err (Syntax line))) >>= next

-- a line that is given, and then all that is left
fixed_last : {A : Type 0} (line : ℕ) (piece : List ℕ) (next : List ℕ → Result A CertificateFault)
    → IsLast (line + 1) next → IsLast line (λ text. fixed_at line piece text >>= next)
unfolding fixed_at
fixed_last {A} line piece next last start rest y e some = go (first_cases line start rest)
  where
    go : HasFirst line start rest ⊎ (line_at line start ≡ cut line start)
        → after_fixed line piece next (line_at line start) ≡ cut line start
    go (inr fails) = ap (after_fixed line piece next) fails
    go (inl h) =
        let a = bind_ok (cond (is_text piece h.first) (Ok (h.left ++ rest))
        (Err (Syntax line))) next y (sym (ap (after_fixed line piece next) h.there) ∙ e) in
        let g = guard_ok (is_text piece h.first) (Syntax line) (h.left ++ rest) a.0 a.1 in
        let same : line + 1 + line_feeds h.left ≡ line + line_feeds start =
        (let one = h.one in omega (arith, one)) in
        ap (after_fixed line piece next) h.here
        ∙ ap (λ t. cond t (Ok h.left) (Err (Syntax line)) >>= next) g.0
        ∙ last h.left rest y (ap next g.1 ∙ a.2) some ∙ ap (λ (l : ℕ). Err (Syntax l)) same

-- the end, with nothing behind it
end_last : (line : ℕ) → IsLast line (end_at line)
unfolding end_at
end_last line = fixed_last line (codes "end")
    (λ rest. cond (eqb (length rest) 0) (Ok true) (Err (Syntax (line + 1)))) nothing
  where
    nothing : IsLast (line + 1) (λ rest. cond (eqb (length rest) 0) (Ok true)
        (Err (Syntax (line + 1))))
    nothing start rest x e some =
        let g = guard_ok (eqb (length (start ++ rest)) 0) (Syntax (line + 1)) true x e in
        let none : length (start ++ rest) ≡ 0 = eqb-true _ _ g.0 in
        let left : length rest ≡ 0 = (let both = length-append start rest in
        omega (arith, none, both)) in
        absurd (some (nil_from_length rest left))

-- ---- the lines of a certificate

word_step : {A : Type 0} (line : ℕ) (words : Result A CertificateFault)
    → IsStep (λ x. 0) line (λ text. words >>= λ x. Ok (x, text))
word_step {A} line words = after_words (λ x. 0) line words (λ x text. Ok (x, text))
    (λ x. given_step (λ x. 0) line x refl)

number_step : (line : ℕ) (piece : List ℕ) → IsStep (λ n. 1) line (number_at line piece)
unfolding number_at
number_step line piece =
    line_step (λ n. 1) (λ n. 0) line
    (λ first. number_behind line piece first.0 >>= λ n. Ok (n, first.1)) (λ n. refl)
    (λ first. word_step (line + 1) (number_behind line piece first))

version_step : (line : ℕ) → IsStep (λ version. 1) line (version_at line)
unfolding version_at
version_step line = line_step (λ version. 1) (λ version. 0) line
    (λ first. version_in line first.0 >>= λ version. Ok (version, first.1)) (λ version. refl)
    (λ first. word_step (line + 1) (version_in line first))

kind_step : (version : Version) (line : ℕ) → IsStep (λ kind. 1) line (kind_at version line)
unfolding kind_at
kind_step version line = line_step (λ kind. 1) (λ kind. 0) line
    (λ first. (kind_in line first.0 >>= kind_for version line) >>= λ kind. Ok (kind, first.1))
    (λ kind. refl)
    (λ first. word_step (line + 1) (kind_in line first >>= kind_for version line))

width_line_step : (line : ℕ) → IsStep (λ width. 1) line (width_line_at line)
unfolding width_line_at
width_line_step line = line_step (λ width. 1) (λ width. 0) line
    (λ first. width_in line first.0 >>= λ width. Ok (width, first.1)) (λ width. refl)
    (λ first. word_step (line + 1) (width_in line first))

-- the digits of a state are read in as many lines as they are said in
width_step : (version : Version) (line : ℕ)
    → IsStep (λ width. length (width_text version width)) line (width_at version line)
unfolding width_at
width_step One line = given_step (λ width. length (width_text One width)) line version_1_digits refl
width_step Two line = width_line_step line
width_step Three line = width_line_step line
width_step Four line = width_line_step line

grounding_step : (line : ℕ) → IsStep (λ grounding. 1) line (grounding_at line)
unfolding grounding_at
grounding_step line = line_step (λ grounding. 1) (λ grounding. 0) line
    (λ first. grounding_in line first.0 >>= λ grounding. Ok (grounding, first.1))
    (λ grounding. refl) (λ first. word_step (line + 1) (grounding_in line first))

-- how many lines say a choice of an estimate
abbrev pub lines_chosen : (width : ℕ) → Choice → ℕ
lines_chosen width choice = length (estimate_text width choice)

-- tables are read in as many lines as they are said in
tables_step : (width line : ℕ) (start rest : List ℕ) (x : Choice) (after : List ℕ)
    → tables_read (tables_at width line (start ++ rest)) ≡ Ok (x, after)
    → Goes (lines_chosen width x) line (tables_read (tables_at width line start)) start rest x after
tables_step width line start rest x after e = go (tables_at width line (start ++ rest)) refl e
  where
    read_again : Result (Choice × List ℕ) CertificateFault
    read_again = tables_read (tables_at width line start)

    more : (tables : TablesValue) (next : List ℕ)
        → ((left : List ℕ) × (tables_at width line start ≡ Ok (tables, left))
        × (next ≡ left ++ rest)
        × (line_feeds start ≡ length (tables_lines width tables) + line_feeds left))
        ⊎ (tables_at width line start ≡ Err (line + line_feeds start))
        → Goes (lines_chosen width (Tables tables)) line read_again start rest (Tables tables) next
    more tables next (inl k) = inl (k.0, ap tables_read k.1, k.2, k.3)
    more tables next (inr fails) = inr (ap tables_read fails)

    go : (r : Result (TablesValue × List ℕ) ℕ) → tables_at width line (start ++ rest) ≡ r
        → tables_read r ≡ Ok (x, after)
        → Goes (lines_chosen width x) line read_again start rest x after
    go (Err refused) is e = absurd cc
    go (Ok read) is e =
        subst (λ (p : Choice × List ℕ).
        Goes (lines_chosen width p.0) line read_again start rest p.0 p.1)
        (ok_is (Tables read.0, read.1) (x, after) e)
        (more read.0 read.1 (cut_tables_are_refused width line start rest read.0 read.1 is))

-- a choice, and the text after it
abbrev pub chosen_then : (left : List ℕ) → Choice → Result (Choice × List ℕ) CertificateFault
chosen_then left choice = Ok (choice, left)

-- a choice of an estimate is read in as many lines as it is said in
estimate_step : (width line : ℕ) → IsStep (lines_chosen width) line (estimate_at width line)
unfolding estimate_at
estimate_step width line start rest x after e = go (first_cases line start rest)
  where
    said : (text : List ℕ) → List ℕ × List ℕ → Result (Choice × List ℕ) CertificateFault
    said text first =
        cond (is_some (behind (codes "estimate tables ") first.0))
        (tables_read (tables_at width line text))
        (estimate_in line first.0 >>= chosen_then first.1)

    one : (h : HasFirst line start rest)
        → (estimate_in line h.first >>= chosen_then (h.left ++ rest)) ≡ Ok (x, after)
        → Goes (lines_chosen width x) line
        (estimate_in line h.first >>= chosen_then h.left) start rest x after
    one h e =
        let a = bind_ok (estimate_in line h.first) (chosen_then (h.left ++ rest))
        (x, after) e in
        let same = pair_is a.0 x (h.left ++ rest) after a.2 in
        let is : estimate_in line h.first ≡ Ok x = a.1 ∙ ap (λ (c : Choice). Ok c) same.0 in
        let count : lines_chosen width x ≡ 1 = ap length (estimate_is width line h.first x is).0 in
        let feeds = h.one in
        inl (
          h.left,
          ap (λ r. r >>= chosen_then h.left) is,
          sym same.1,
          omega (arith, feeds, count),
        )

    by_kind : (h : HasFirst line start rest) (b : Bool)
        → cond b (tables_read (tables_at width line (start ++ rest)))
        (estimate_in line h.first >>= chosen_then (h.left ++ rest)) ≡ Ok (x, after)
        → Goes (lines_chosen width x) line
        (cond b (tables_read (tables_at width line start))
        (estimate_in line h.first >>= chosen_then h.left)) start rest x after
    by_kind h true e = tables_step width line start rest x after e
    by_kind h false e = one h e

    go : HasFirst line start rest ⊎ (line_at line start ≡ cut line start)
        → Goes (lines_chosen width x) line (line_at line start >>= said start) start rest x after
    go (inr fails) = inr (ap (λ r. r >>= said start) fails)
    go (inl h) =
        subst (λ (r : Result (Choice × List ℕ) CertificateFault).
        Goes (lines_chosen width x) line r start rest x after)
        (sym (ap (λ r. r >>= said start) h.here))
        (by_kind h (is_some (behind (codes "estimate tables ") h.first))
        (sym (ap (λ r. r >>= said (start ++ rest)) h.there) ∙ e))

-- how many lines of a text of this version say what is stated besides
abbrev pub lines_stated : Version → (width : ℕ) → Stated → ℕ
lines_stated version width stated = length (stated_text version width stated)

-- what is stated is read in as many lines as it is said in
stated_step : (version : Version) (width line : ℕ)
    → IsStep (lines_stated version width) line (stated_at version width line)
unfolding stated_at
stated_step One width line = given_step (lines_stated One width) line
    (record { grounding = All; choice = Plain }) refl
stated_step Two width line = given_step (lines_stated Two width) line
    (record { grounding = All; choice = Plain }) refl
stated_step Three width line =
    named_step (λ n. 1) (lines_stated Three width)
    (λ n. record { grounding = All; choice = Pattern n }) (λ n. refl) line
    (number_at line (codes "pattern ")) (number_step line (codes "pattern "))
stated_step Four width line =
    then_step (λ grounding. 1) (lines_chosen width) (lines_stated Four width)
    (λ grounding choice. record { grounding = grounding; choice = choice })
    (λ grounding choice. omega arith) line (grounding_at line)
    (λ grounding text. estimate_at width (line + 1) text) (grounding_step line)
    (λ grounding. estimate_step width (line + 1))

-- how many lines say the digits of a state and what is stated besides
abbrev pub stated_lines : Spelling → ℕ
stated_lines spelling =
    length (width_text spelling.version spelling.width
    ++ stated_text spelling.version spelling.width spelling.stated)

abbrev pub width_then : Version → Kind → List ℕ → Result (Spelling × List ℕ) CertificateFault
width_then version kind text =
    width_at version 3 text
    >>= λ width. stated_at version width.0 (3 + length (width_text version width.0)) width.1
    >>= λ stated. Ok (spelling_with version kind width.0 stated.0, stated.1)

abbrev pub kind_then : Version → List ℕ → Result (Spelling × List ℕ) CertificateFault
kind_then version text = kind_at version 2 text >>= λ kind. width_then version kind.0 kind.1

width_then_step : (version : Version) (kind : Kind)
    → IsStep stated_lines 3 (width_then version kind)
width_then_step version kind =
    pair_step (λ width. length (width_text version width))
    (lines_stated version) stated_lines (spelling_with version kind)
    (λ width stated. length-append (width_text version width)
    (stated_text version width stated)) 3 (width_at version 3)
    (λ width text. stated_at version width (3 + length (width_text version width)) text)
    (width_step version 3)
    (λ width. stated_step version width (3 + length (width_text version width)))

kind_then_step : (version : Version)
    → IsStep (λ (spelling : Spelling). 1 + stated_lines spelling) 2 (kind_then version)
kind_then_step version =
    tail_step (λ kind. 1) stated_lines (λ (spelling : Spelling). 1 + stated_lines spelling)
    (λ kind spelling. refl) 2 (kind_at version 2) (width_then version) (kind_step version 2)
    (λ kind. width_then_step version kind)

head_step : IsStep head_lines 1 head_at
unfolding head_at
head_step =
    tail_step (λ version. 1) (λ (spelling : Spelling). 1 + stated_lines spelling) head_lines
    (λ version spelling. omega arith) 1 (version_at 1) kind_then (version_step 1) kind_then_step

weight_step : (line : ℕ) → IsStep (λ weight. 1) line (weight_at line)
unfolding weight_at
weight_step line =
    line_step (λ weight. 1) (λ weight. 0) line
    (λ first. weight_in line first.0 >>= λ weight. Ok (weight, first.1)) (λ weight. refl)
    (λ first. word_step (line + 1) (weight_in line first))

row_step : (width line : ℕ) → IsStep (λ row. 1) line (row_at width line)
unfolding row_at
row_step width line = line_step (λ row. 1) (λ row. 0) line
    (λ first. row_in width line first.0 >>= λ row. Ok (row, first.1)) (λ row. refl)
    (λ first. word_step (line + 1) (row_in width line first))

pub one_more : {A : Type 0} (x : A) (xs : List A) → length (x ∷ xs) ≡ 1 + length xs
one_more x xs = omega arith

actions_step : (count line : ℕ) → IsStep (λ actions. length actions) line (actions_at count line)
unfolding actions_at
actions_step zero line = given_step (λ actions. length actions) line [] refl
actions_step (suc count) line =
    then_step (λ action. 1) (λ actions. length actions) (λ actions. length actions)
    (λ action actions. action ∷ actions) one_more
    line (number_at line []) (λ action text. actions_at count (line + 1) text) (number_step line [])
    (λ action. actions_step count (line + 1))

rows_step : (width count line : ℕ)
    → IsStep (λ rows. length rows) line (rows_at width count line)
unfolding rows_at
rows_step width zero line = given_step (λ rows. length rows) line [] refl
rows_step width (suc count) line =
    then_step (λ row. 1) (λ rows. length rows) (λ rows. length rows)
    (λ row rows. row ∷ rows) one_more
    line (row_at width line) (λ row text. rows_at width count (line + 1) text) (row_step width line)
    (λ row. rows_step width count (line + 1))

abbrev pub lines_of : Plan → ℕ
lines_of plan = length plan.actions + 1

steps_step : (count line : ℕ) → IsStep lines_of line (steps_at count line)
unfolding steps_at
steps_step count line =
    then_step (λ actions. length actions) (λ cost. 1) lines_of
    (λ actions cost. record { actions = actions; cost = cost }) (λ actions cost. refl)
    line (actions_at count line) (λ actions text. number_at (line + length actions)
    (codes "cost ") text)
    (actions_step count line) (λ actions. number_step (line + length actions) (codes "cost "))

-- how many lines come after a plan's first
abbrev pub later_lines : Option Plan → ℕ
later_lines None = 0
later_lines (Some plan) = lines_of plan

abbrev plan_after : (line : ℕ) → List ℕ × List ℕ → Result (Option Plan × List ℕ) CertificateFault
plan_after line first =
    cond (is_text (codes "none") first.0) (Ok (None, first.1))
    (number_behind line (codes "plan ") first.0 >>= λ count. steps_at count (line + 1) first.1
    >>= λ plan. Ok (Some plan.0, plan.1))

plan_step : (line : ℕ) → IsStep plan_lines line (plan_at line)
unfolding plan_at
plan_step line = line_step plan_lines later_lines line (plan_after line) count later
  where
    count : (plan : Option Plan) → plan_lines plan ≡ 1 + later_lines plan
    count None = refl
    count (Some plan) = omega arith

    stated : (count : ℕ) → IsStep later_lines (line + 1)
        (λ text. steps_at count (line + 1) text >>= λ plan. Ok (Some plan.0, plan.1))
    stated count = named_step lines_of later_lines (λ plan. Some plan) (λ plan. refl) (line + 1)
        (steps_at count (line + 1)) (steps_step count (line + 1))

    later : (first : List ℕ) → IsStep later_lines (line + 1) (λ text. plan_after line (first, text))
    later first =
        either_step later_lines (line + 1) (is_text (codes "none") first) (λ text. Ok (None, text))
        (λ text. number_behind line (codes "plan ") first
        >>= λ count. steps_at count (line + 1) text >>= λ plan. Ok (Some plan.0, plan.1))
        (given_step later_lines (line + 1) None refl)
        (after_words later_lines (line + 1) (number_behind line (codes "plan ") first)
        (λ count text. steps_at count (line + 1) text
        >>= λ plan. Ok (Some plan.0, plan.1)) stated)

body_last : (width line : ℕ) → IsLast line (body_at width line)
unfolding body_at
body_last width line =
    then_last (λ count. 1) line (number_at line (codes "rows "))
    (λ count text. rows_at width count (line + 1) text
    >>= λ rows. end_at (line + 1 + length rows.0) rows.1 >>= λ ended. Ok rows.0)
    (number_step line (codes "rows "))
    (λ count. then_last (λ rows. length rows) (line + 1) (rows_at width count (line + 1))
    (λ rows text. end_at (line + 1 + length rows) text >>= λ ended. Ok rows)
    (rows_step width count (line + 1))
    (λ rows. named_last (line + 1 + length rows) (end_at (line + 1 + length rows)) (λ ended. rows)
    (end_last (line + 1 + length rows))))

abbrev pub text_with : Spelling → Weight → Option Plan → List Line → Text
text_with spelling weight plan rows =
    record {
      spelling = spelling;
      certificate =
          record { weight = weight; plan = plan; lines = rows };
      first = first_line spelling plan;
    }

text_last : IsLast 1 text_of
unfolding text_of
text_last =
    then_last head_lines 1 head_at
    (λ head rest. weight_at (weight_line head) rest
    >>= λ weight. plan_at (weight_line head + 1) weight.1
    >>= λ plan. body_at head.width (weight_line head + 1 + plan_lines plan.0) plan.1
    >>= λ rows. Ok (text_with head weight.0 plan.0 rows)) head_step
    (λ head. then_last (λ weight. 1) (weight_line head) (weight_at (weight_line head))
    (λ weight rest. plan_at (weight_line head + 1) rest
    >>= λ plan. body_at head.width (weight_line head + 1 + plan_lines plan.0) plan.1
    >>= λ rows. Ok (text_with head weight plan.0 rows)) (weight_step (weight_line head))
    (λ weight. then_last plan_lines (weight_line head + 1) (plan_at (weight_line head + 1))
    (λ plan rest. body_at head.width (weight_line head + 1 + plan_lines plan) rest
    >>= λ rows. Ok (text_with head weight plan rows)) (plan_step (weight_line head + 1))
    (λ plan. named_last (weight_line head + 1 + plan_lines plan)
    (body_at head.width (weight_line head + 1 + plan_lines plan)) (text_with head weight plan)
    (body_last head.width (weight_line head + 1 + plan_lines plan)))))

pub cut_certificates_are_refused : CutCertificatesAreRefused
unfolding checked
cut_certificates_are_refused parts bytes is =
    let text : Text = record {
      spelling = is.0;
      certificate = is.1;
      first = first_line is.0 is.1.plan;
    } in
    ap (λ r. r >>= λ text. judged parts text)
    (text_last bytes is.2 text ((read_as_spelled (bytes ++ is.2) text).1 is.3 refl) is.4)

-- so the call refuses it
pub gives_cut : (parts : TaskParts) (bytes : List ℕ) (r : Result Verdict CheckError)
    → Gives (λ x. x) r (checked parts bytes) → IsCutOff bytes
    → Gives {Y = Verdict} (λ x. x) r (Err (Syntax (1 + line_feeds bytes)))
gives_cut parts bytes r exact is =
    subst (λ (given : Result Verdict CertificateFault). Gives (λ x. x) r given)
    (cut_certificates_are_refused parts bytes is) exact
