-- Reading that stops at a line: the lines before it begin a text that is read, and no text that
-- goes on with this line is read.
use Rattle.std.proofs.Common.{◌≡◌, inl, inr, ℕ, suc, ◌+◌, Bool, true, false, cond, Option, None, Some, List, [], ◌∷◌, ◌++◌, Result, Ok, Err, refl, sym, ap, ◌∙◌, subst, arith, append_assoc, append-nil}
use Rattle.std.proofs.lemmas.Option.{same_Some}
use Rattle.pb_check.specs.declared.fault.CertificateFault.{CertificateFault}
use Rattle.pb_check.specs.declared.fault.CertificateFault.TheVariants.{Syntax}
use Rattle.pb_lines.specs.Words.{part, has_none, line_feeds}
use Rattle.pb_lines.proofs.Callers.{part_is, part_none, part_again}
use Rattle.pb_table_lines.proofs.Callers.{feeds_line, no_first, same_first}
use Rattle.pb_check.specs.Faults.{◌>>=◌, wanted}
use Rattle.pb_check.specs.Reading.{line_at}
use Rattle.pb_check.specs.Cases.{AreWholeLines}

-- ---- whole lines

whole_line : (first rest : List ℕ) → AreWholeLines rest → AreWholeLines (first ++ 10 ∷ rest)
whole_line first rest (inl none) = inr (first, ap (λ (r : List ℕ). first ++ 10 ∷ r) none)
whole_line first rest (inr (front, is)) =
    inr (
      first ++ 10 ∷ front,
      ap (λ (r : List ℕ). first ++ 10 ∷ r) is
          ∙ sym (append_assoc first (10 ∷ front) (10 ∷ [])),
    )

pub whole_both : (one two : List ℕ) → AreWholeLines one → AreWholeLines two → AreWholeLines (one ++ two)
whole_both one two is (inl none) =
    subst AreWholeLines (sym (ap (λ (r : List ℕ). one ++ r) none ∙ append-nil one)) is
whole_both one two is (inr (front, last)) =
    inr (one ++ front, ap (λ (r : List ℕ). one ++ r) last ∙ sym (append_assoc one front (10 ∷ [])))

-- ---- readers

abbrev pub named : {A B : Type 0} → (A → B) → A × List ℕ → Result (B × List ℕ) CertificateFault
named f x = Ok (f x.0, x.1)

pub err_is : {A : Type 0} (x y : CertificateFault) → ◌≡◌ {A = Result A CertificateFault} (Err x) (Err y)
    → x ≡ y
err_is x y e = cc

pair_is : {A : Type 0} (x y : A × List ℕ) → ◌≡◌ {A = Result (A × List ℕ) CertificateFault} (Ok x) (Ok y)
    → x ≡ y
pair_is x y e = cc

-- some lines of a text are read, and whatever comes after them is left
pub record Takes {A : Type 0} (n : A → ℕ) (read : List ℕ → Result (A × List ℕ) CertificateFault)
    (text : List ℕ) (x : A) (left : List ℕ) : Type 0 where
  pub used : List ℕ
  pub text_is : text ≡ used ++ left
  pub whole : AreWholeLines used
  pub feeds : (tail : List ℕ) → line_feeds (used ++ tail) ≡ n x + line_feeds tail
  pub again : (tail : List ℕ) → read (used ++ tail) ≡ Ok (x, tail)

-- Reading stops: what comes before begins a text that is read. No further line helps.
pub record Stops {A : Type 0} (line : ℕ) (read : List ℕ → Result A CertificateFault)
    (IsRead : List ℕ → Type 0) (text : List ℕ) (fault : CertificateFault) : Type 0 where
  pub before : List ℕ
  pub behind : List ℕ
  pub text_is : text ≡ before ++ behind
  pub whole : AreWholeLines before
  pub fault_is : fault ≡ Syntax (line + line_feeds before)
  pub more : List ℕ
  pub goes : IsRead (before ++ more)
  pub stuck : (first rest after : List ℕ) → behind ≡ first ++ 10 ∷ rest → has_none 10 first ≡ true
      → read (before ++ (first ++ 10 ∷ after)) ≡ Err fault

-- a text is read whatever comes after it
abbrev pub IsBeginning : {A : Type 0} → (read : List ℕ → Result (A × List ℕ) CertificateFault)
    → (text : List ℕ) → Type 0
IsBeginning {A} read text = (x : A) × ((tail : List ℕ) → read (text ++ tail) ≡ Ok (x, tail))

-- a text is read as a whole
abbrev pub IsWhole : {A : Type 0} → (read : List ℕ → Result A CertificateFault) → (text : List ℕ)
    → Type 0
IsWhole {A} read text = (x : A) × (read text ≡ Ok x)

-- reading some lines, whose number what was read tells
pub record IsReader {A : Type 0} (n : A → ℕ) (line : ℕ)
    (read : List ℕ → Result (A × List ℕ) CertificateFault) : Type 0 where
  pub takes : (text : List ℕ) (x : A) (left : List ℕ) → read text ≡ Ok (x, left)
      → Takes n read text x left
  pub stops : (text : List ℕ) (fault : CertificateFault) → read text ≡ Err fault
      → Stops line read (IsBeginning read) text fault

-- reading all of a text
abbrev pub IsLastReader : {A : Type 0} → (line : ℕ) → (read : List ℕ → Result A CertificateFault)
    → Type 0
IsLastReader line read =
    (text : List ℕ) (fault : CertificateFault) → read text ≡ Err fault
    → Stops line read (IsWhole read) text fault

-- something can be read
can : {A : Type 0} (n : A → ℕ) (line : ℕ) (read : List ℕ → Result (A × List ℕ) CertificateFault)
    → IsReader n line read → (text : List ℕ) × IsBeginning read text
can {A} n line read is = go (read []) refl
  where
    go : (r : Result (A × List ℕ) CertificateFault) → read [] ≡ r
        → (text : List ℕ) × IsBeginning read text
    go (Ok x) e = let t = is.takes [] x.0 x.1 e in (t.used, (x.0, t.again))
    go (Err fault) e = let s = is.stops [] fault e in (s.before ++ s.more, s.goes)

can_last : {A : Type 0} (line : ℕ) (read : List ℕ → Result A CertificateFault)
    → IsLastReader line read → (text : List ℕ) × IsWhole read text
can_last {A} line read is = go (read []) refl
  where
    go : (r : Result A CertificateFault) → read [] ≡ r → (text : List ℕ) × IsWhole read text
    go (Ok x) e = ([], (x, e))
    go (Err fault) e = let s = is [] fault e in (s.before ++ s.more, s.goes)

-- the same in other words
pub same_reader : {A : Type 0} (n : A → ℕ) (line : ℕ)
    (read other : List ℕ → Result (A × List ℕ) CertificateFault)
    → ((text : List ℕ) → read text ≡ other text) → IsReader n line other → IsReader n line read
same_reader n line read other same is = record {
  takes = λ text x left e.
      let t = is.takes text x left (sym (same text) ∙ e) in
      record {
        used = t.used;
        text_is = t.text_is;
        whole = t.whole;
        feeds = t.feeds;
        again = λ tail. same (t.used ++ tail) ∙ t.again tail;
      };
  stops = λ text fault e.
      let s = is.stops text fault (sym (same text) ∙ e) in
      record {
        before = s.before;
        behind = s.behind;
        text_is = s.text_is;
        whole = s.whole;
        fault_is = s.fault_is;
        more = s.more;
        goes = (s.goes.0, λ tail. same ((s.before ++ s.more) ++ tail) ∙ s.goes.1 tail);
        stuck = λ first rest after back none.
            same (s.before ++ (first ++ 10 ∷ after)) ∙ s.stuck first rest after back none;
      };
}

pub same_last : {A : Type 0} (line : ℕ) (read other : List ℕ → Result A CertificateFault)
    → ((text : List ℕ) → read text ≡ other text) → IsLastReader line other → IsLastReader line read
same_last line read other same is text fault e =
    let s = is text fault (sym (same text) ∙ e) in
    record {
      before = s.before;
      behind = s.behind;
      text_is = s.text_is;
      whole = s.whole;
      fault_is = s.fault_is;
      more = s.more;
      goes = (s.goes.0, same (s.before ++ s.more) ∙ s.goes.1);
      stuck = λ first rest after back none.
          same (s.before ++ (first ++ 10 ∷ after)) ∙ s.stuck first rest after back none;
    }

-- nothing more is read
pub given : {A : Type 0} (n : A → ℕ) (line : ℕ) (x : A) → n x ≡ 0
    → IsReader n line (λ text. Ok (x, text))
given {A} n line x none = record {
  takes = λ text y left e. subst (λ (p : A × List ℕ). Takes n (λ text. Ok (x, text)) text p.0 p.1)
      (pair_is (x, text) (y, left) e) (record {
        used = [];
        text_is = refl;
        whole = inl refl;
        feeds = λ tail. omega (arith, none);
        again = λ tail. refl;
      });
  stops = λ text fault e. absurd cc;
}

-- ---- one line

-- what a line says is a fault of that line, or none
abbrev pub IsAt : {A : Type 0} → (line : ℕ) → Result A CertificateFault → Type 0
IsAt line r = (fault : CertificateFault) → r ≡ Err fault → fault ≡ Syntax line

pub at_ok : {A : Type 0} (line : ℕ) (x : A) → IsAt line (Ok x)
at_ok line x fault e = absurd cc

pub at_wanted : {A : Type 0} (line : ℕ) (o : Option A) → IsAt line (wanted line o)
at_wanted {A} line None fault e = sym (err_is {A = A} (Syntax line) fault e)
at_wanted line (Some x) fault e = absurd cc

pub at_next : {A B : Type 0} (line : ℕ) (r : Result A CertificateFault)
    (f : A → Result B CertificateFault)
    → IsAt line r → ((x : A) → IsAt line (f x)) → IsAt line (r >>= f)
at_next line (Ok x) f one two fault e = two x fault e
at_next {A} {B} line (Err d) f one two fault e = sym (err_is {A = B} d fault e) ∙ one d refl

pub at_either : {A : Type 0} (line : ℕ) (b : Bool) (x y : Result A CertificateFault) → IsAt line x
    → IsAt line y → IsAt line (cond b x y)
at_either line true x y one two = one
at_either line false x y one two = two

module _ {A B : Type 0} (n m : A → ℕ) (line : ℕ) (words : List ℕ → Result B CertificateFault)
    (next : B → List ℕ → Result (A × List ℕ) CertificateFault) (count : (x : A) → n x ≡ 1 + m x)
    (only : (word : List ℕ) → IsAt line (words word))
    (sample : List ℕ) (said : B) (fine : has_none 10 sample ≡ true) (is_said : words sample ≡ Ok said)
    (later : (b : B) → IsReader m (line + 1) (next b)) where
  abbrev after_line : List ℕ × List ℕ → Result (A × List ℕ) CertificateFault
  after_line first = words first.0 >>= λ b. next b first.1

  abbrev line_then : List ℕ → Result (A × List ℕ) CertificateFault
  line_then text = line_at line text >>= after_line

  reads : (first rest : List ℕ) (b : B) → has_none 10 first ≡ true → words first ≡ Ok b
      → line_then (first ++ 10 ∷ rest) ≡ next b rest
  reads first rest b none is =
      ap (λ o. wanted line o >>= after_line) (part_again 10 first rest none)
      ∙ ap (λ r. r >>= λ b. next b rest) is

  fails : (first rest : List ℕ) (fault : CertificateFault) → has_none 10 first ≡ true
      → words first ≡ Err fault → line_then (first ++ 10 ∷ rest) ≡ Err fault
  fails first rest fault none is =
      ap (λ o. wanted line o >>= after_line) (part_again 10 first rest none)
      ∙ ap (λ r. r >>= λ b. next b rest) is

  takes_line : (text : List ℕ) (x : A) (left : List ℕ) → line_then text ≡ Ok (x, left)
      → Takes n line_then text x left
  takes_line text x left e = go (part 10 text) refl e
    where
      made : (first : List ℕ × List ℕ) (b : B) → part 10 text ≡ Some first → words first.0 ≡ Ok b
          → Takes m (next b) first.1 x left → Takes n line_then text x left
      made first b is w t =
          let none : has_none 10 first.0 ≡ true = part_none 10 text first.0 first.1 is in
          record {
            used = first.0 ++ 10 ∷ t.used;
            text_is = part_is 10 text first.0 first.1 is
                ∙ ap (λ (r : List ℕ). first.0 ++ 10 ∷ r) t.text_is
                ∙ sym (append_assoc first.0 (10 ∷ t.used) left);
            whole = whole_line first.0 t.used t.whole;
            feeds = λ tail.
                let one : line_feeds ((first.0 ++ 10 ∷ t.used) ++ tail)
                ≡ suc (line_feeds (t.used ++ tail)) =
                ap line_feeds (append_assoc first.0 (10 ∷ t.used) tail)
                ∙ feeds_line first.0 (t.used ++ tail) none in
                let two = t.feeds tail in
                let c = count x in
                omega (arith, one, two, c);
            again = λ tail.
                ap line_then (append_assoc first.0 (10 ∷ t.used) tail)
                ∙ reads first.0 (t.used ++ tail) b none w ∙ t.again tail;
          }

      after : (first : List ℕ × List ℕ) → part 10 text ≡ Some first
          → (r : Result B CertificateFault) → words first.0 ≡ r
          → (r >>= λ b. next b first.1) ≡ Ok (x, left) → Takes n line_then text x left
      after first is (Err fault) w e = absurd cc
      after first is (Ok b) w e = made first b is w ((later b).takes first.1 x left e)

      go : (o : Option (List ℕ × List ℕ)) → part 10 text ≡ o
          → (wanted line o >>= after_line) ≡ Ok (x, left) → Takes n line_then text x left
      go None is e = absurd cc
      go (Some first) is e = after first is (words first.0) refl e

  -- a first line of the sample goes on
  goes_on : (text : List ℕ) × IsBeginning line_then text
  goes_on =
      let rest = can m (line + 1) (next said) (later said) in (
        sample ++ 10 ∷ rest.0,
        (
          rest.1.0,
          λ tail. ap line_then (append_assoc sample (10 ∷ rest.0) tail)
              ∙ reads sample (rest.0 ++ tail) said fine is_said ∙ rest.1.1 tail,
        ),
      )

  stops_line : (text : List ℕ) (fault : CertificateFault) → line_then text ≡ Err fault
      → Stops line line_then (IsBeginning line_then) text fault
  stops_line text fault e = go (part 10 text) refl e
    where
      here : Syntax line ≡ Syntax (line + line_feeds [])
      here = let none : line_feeds [] ≡ 0 = refl in
          ap (λ (k : ℕ). Syntax k) (omega (arith, none))

      none_there : part 10 text ≡ None → fault ≡ Syntax line
          → Stops line line_then (IsBeginning line_then) text fault
      none_there is fault_is = record {
        before = [];
        behind = text;
        text_is = refl;
        whole = inl refl;
        fault_is = fault_is ∙ here;
        more = goes_on.0;
        goes = goes_on.1;
        stuck = λ first rest after back none. absurd (no_first text first rest is back none);
      }

      bad : (first : List ℕ × List ℕ) → part 10 text ≡ Some first → words first.0 ≡ Err fault
          → Stops line line_then (IsBeginning line_then) text fault
      bad first is w = record {
        before = [];
        behind = text;
        text_is = refl;
        whole = inl refl;
        fault_is = only first.0 fault w ∙ here;
        more = goes_on.0;
        goes = goes_on.1;
        stuck = λ start rest after back none.
            fails start after fault none
            (ap words (sym (same_first text start rest first is back none)) ∙ w);
      }

      made : (first : List ℕ × List ℕ) (b : B) → part 10 text ≡ Some first → words first.0 ≡ Ok b
          → Stops (line + 1) (next b) (IsBeginning (next b)) first.1 fault
          → Stops line line_then (IsBeginning line_then) text fault
      made first b is w s =
          let none : has_none 10 first.0 ≡ true = part_none 10 text first.0 first.1 is in
          let feeds : line_feeds (first.0 ++ 10 ∷ s.before) ≡ suc (line_feeds s.before) =
          feeds_line first.0 s.before none in
          record {
            before = first.0 ++ 10 ∷ s.before;
            behind = s.behind;
            text_is = part_is 10 text first.0 first.1 is
                ∙ ap (λ (r : List ℕ). first.0 ++ 10 ∷ r) s.text_is
                ∙ sym (append_assoc first.0 (10 ∷ s.before) s.behind);
            whole = whole_line first.0 s.before s.whole;
            fault_is = s.fault_is ∙ ap (λ (k : ℕ). Syntax k) (omega (arith, feeds));
            more = s.more;
            goes = (
              s.goes.0,
              λ tail.
                  ap line_then (ap (λ (t : List ℕ). t ++ tail)
                  (append_assoc first.0 (10 ∷ s.before) s.more)
                  ∙ append_assoc first.0 (10 ∷ (s.before ++ s.more)) tail)
                  ∙ reads first.0 ((s.before ++ s.more) ++ tail) b none w ∙ s.goes.1 tail,
            );
            stuck = λ start rest after back fine.
                ap line_then (append_assoc first.0 (10 ∷ s.before) (start ++ 10 ∷ after))
                ∙ reads first.0 (s.before ++ (start ++ 10 ∷ after)) b none w
                ∙ s.stuck start rest after back fine;
          }

      after : (first : List ℕ × List ℕ) → part 10 text ≡ Some first
          → (r : Result B CertificateFault) → words first.0 ≡ r
          → (r >>= λ b. next b first.1) ≡ Err fault
          → Stops line line_then (IsBeginning line_then) text fault
      after first is (Err d) w e = bad first is
          (w ∙ ap (λ (f : CertificateFault). Err f) (err_is {A = A × List ℕ} d fault e))
      after first is (Ok b) w e = made first b is w ((later b).stops first.1 fault e)

      go : (o : Option (List ℕ × List ℕ)) → part 10 text ≡ o
          → (wanted line o >>= after_line) ≡ Err fault
          → Stops line line_then (IsBeginning line_then) text fault
      go None is e = none_there is (sym (err_is {A = A × List ℕ} (Syntax line) fault e))
      go (Some first) is e = after first is (words first.0) refl e

  -- a line, and what is read after it
  pub line_reader : IsReader n line line_then
  line_reader = record { takes = takes_line; stops = stops_line }

-- ---- one thing and then another, whose number of lines may depend on the first

module _ {A B C : Type 0} (n : A → ℕ) (m : A → B → ℕ) (lines : C → ℕ) (made : A → B → C)
    (count : (x : A) (y : B) → lines (made x y) ≡ n x + m x y) (line : ℕ)
    (read : List ℕ → Result (A × List ℕ) CertificateFault)
    (next : A → List ℕ → Result (B × List ℕ) CertificateFault) (one : IsReader n line read)
    (two : (x : A) → IsReader (m x) (line + n x) (next x)) where
  abbrev after_one : A × List ℕ → Result (C × List ℕ) CertificateFault
  after_one x = next x.0 x.1 >>= named (made x.0)

  abbrev both : List ℕ → Result (C × List ℕ) CertificateFault
  both text = read text >>= after_one

  takes_both : (text : List ℕ) (z : C) (left : List ℕ) → both text ≡ Ok (z, left)
      → Takes lines both text z left
  takes_both text z left e = go (read text) refl e
    where
      taken : (x : A × List ℕ) (y : B × List ℕ) → Takes n read text x.0 x.1
          → Takes (m x.0) (next x.0) x.1 y.0 y.1 → Takes lines both text (made x.0 y.0) y.1
      taken x y t u = record {
        used = t.used ++ u.used;
        text_is = t.text_is ∙ ap (λ (r : List ℕ). t.used ++ r) u.text_is
            ∙ sym (append_assoc t.used u.used y.1);
        whole = whole_both t.used u.used t.whole u.whole;
        feeds = λ tail.
            let f : line_feeds ((t.used ++ u.used) ++ tail) ≡ n x.0 + line_feeds (u.used ++ tail) =
            ap line_feeds (append_assoc t.used u.used tail) ∙ t.feeds (u.used ++ tail) in
            let g = u.feeds tail in
            let c = count x.0 y.0 in
            omega (arith, f, g, c);
        again = λ tail.
            ap both (append_assoc t.used u.used tail)
            ∙ ap (λ r. r >>= after_one) (t.again (u.used ++ tail))
            ∙ ap (λ r. r >>= named (made x.0)) (u.again tail);
      }

      after : (x : A × List ℕ) → read text ≡ Ok x → (r : Result (B × List ℕ) CertificateFault)
          → next x.0 x.1 ≡ r → (r >>= named (made x.0)) ≡ Ok (z, left)
          → Takes lines both text z left
      after x is (Err fault) also e = absurd cc
      after x is (Ok y) also e =
          subst (λ (p : C × List ℕ). Takes lines both text p.0 p.1)
          (pair_is (made x.0 y.0, y.1) (z, left) e)
          (taken x y (one.takes text x.0 x.1 is) ((two x.0).takes x.1 y.0 y.1 also))

      go : (r : Result (A × List ℕ) CertificateFault) → read text ≡ r
          → (r >>= after_one) ≡ Ok (z, left) → Takes lines both text z left
      go (Err fault) is e = absurd cc
      go (Ok x) is e = after x is (next x.0 x.1) refl e

  stops_both : (text : List ℕ) (fault : CertificateFault) → both text ≡ Err fault
      → Stops line both (IsBeginning both) text fault
  stops_both text fault e = go (read text) refl e
    where
      early : Stops line read (IsBeginning read) text fault
          → Stops line both (IsBeginning both) text fault
      early s =
          let x = s.goes.0 in
          let rest = can (m x) (line + n x) (next x) (two x) in
          record {
            before = s.before;
            behind = s.behind;
            text_is = s.text_is;
            whole = s.whole;
            fault_is = s.fault_is;
            more = s.more ++ rest.0;
            goes = (
              made x rest.1.0,
              λ tail.
                  ap both (ap (λ (t : List ℕ). t ++ tail) (sym (append_assoc s.before s.more rest.0))
                  ∙ append_assoc (s.before ++ s.more) rest.0 tail)
                  ∙ ap (λ r. r >>= after_one) (s.goes.1 (rest.0 ++ tail))
                  ∙ ap (λ r. r >>= named (made x)) (rest.1.1 tail),
            );
            stuck = λ first rest after back none.
                ap (λ r. r >>= after_one) (s.stuck first rest after back none);
          }

      late : (x : A × List ℕ) → Takes n read text x.0 x.1
          → Stops (line + n x.0) (next x.0) (IsBeginning (next x.0)) x.1 fault
          → Stops line both (IsBeginning both) text fault
      late x t s =
          let feeds = t.feeds s.before in
          record {
            before = t.used ++ s.before;
            behind = s.behind;
            text_is = t.text_is ∙ ap (λ (r : List ℕ). t.used ++ r) s.text_is
                ∙ sym (append_assoc t.used s.before s.behind);
            whole = whole_both t.used s.before t.whole s.whole;
            fault_is = s.fault_is ∙ ap (λ (k : ℕ). Syntax k) (omega (arith, feeds));
            more = s.more;
            goes = (
              made x.0 s.goes.0,
              λ tail.
                  ap both (ap (λ (r : List ℕ). r ++ tail) (append_assoc t.used s.before s.more)
                  ∙ append_assoc t.used (s.before ++ s.more) tail)
                  ∙ ap (λ r. r >>= after_one) (t.again ((s.before ++ s.more) ++ tail))
                  ∙ ap (λ r. r >>= named (made x.0)) (s.goes.1 tail),
            );
            stuck = λ first rest after back none.
                ap both (append_assoc t.used s.before (first ++ 10 ∷ after))
                ∙ ap (λ r. r >>= after_one) (t.again (s.before ++ (first ++ 10 ∷ after)))
                ∙ ap (λ r. r >>= named (made x.0)) (s.stuck first rest after back none);
          }

      after : (x : A × List ℕ) → read text ≡ Ok x → (r : Result (B × List ℕ) CertificateFault)
          → next x.0 x.1 ≡ r → (r >>= named (made x.0)) ≡ Err fault
          → Stops line both (IsBeginning both) text fault
      after x is (Ok y) also e = absurd cc
      after x is (Err d) also e =
          late x (one.takes text x.0 x.1 is) ((two x.0).stops x.1 fault
          (also ∙ ap (λ (f : CertificateFault). Err f) (err_is {A = C × List ℕ} d fault e)))

      go : (r : Result (A × List ℕ) CertificateFault) → read text ≡ r
          → (r >>= after_one) ≡ Err fault → Stops line both (IsBeginning both) text fault
      go (Err d) is e =
          early (one.stops text fault
          (is ∙ ap (λ (f : CertificateFault). Err f) (err_is {A = C × List ℕ} d fault e)))
      go (Ok x) is e = after x is (next x.0 x.1) refl e

  pub pair_reader : IsReader lines line both
  pair_reader = record { takes = takes_both; stops = stops_both }

-- one thing and then another
pub then_reader : {A B C : Type 0} (n : A → ℕ) (m : B → ℕ) (lines : C → ℕ) (made : A → B → C)
    → ((x : A) (y : B) → lines (made x y) ≡ n x + m y) → (line : ℕ)
    (read : List ℕ → Result (A × List ℕ) CertificateFault)
    (next : A → List ℕ → Result (B × List ℕ) CertificateFault)
    → IsReader n line read → ((x : A) → IsReader m (line + n x) (next x))
    → IsReader lines line (λ text. read text >>= λ x. next x.0 x.1 >>= named (made x.0))
then_reader n m lines made count line read next one two =
    pair_reader n (λ x. m) lines made count line read next one two

-- the same under another name
pub named_reader : {A B : Type 0} (n : A → ℕ) (lines : B → ℕ) (f : A → B)
    → ((x : A) → lines (f x) ≡ n x) → (line : ℕ)
    (read : List ℕ → Result (A × List ℕ) CertificateFault)
    → IsReader n line read → IsReader lines line (λ text. read text >>= named f)
named_reader {A} {B} n lines f count line read is =
    record { takes = takes_named; stops = stops_named }
  where
    all : List ℕ → Result (B × List ℕ) CertificateFault
    all text = read text >>= named f

    taken : (text : List ℕ) (x : A × List ℕ) → Takes n read text x.0 x.1
        → Takes lines all text (f x.0) x.1
    taken text x t = record {
      used = t.used;
      text_is = t.text_is;
      whole = t.whole;
      feeds = λ tail. t.feeds tail ∙ ap (λ (k : ℕ). k + line_feeds tail) (sym (count x.0));
      again = λ tail. ap (λ r. r >>= named f) (t.again tail);
    }

    takes_named : (text : List ℕ) (z : B) (left : List ℕ) → all text ≡ Ok (z, left)
        → Takes lines all text z left
    takes_named text z left e = go (read text) refl e
      where
        go : (r : Result (A × List ℕ) CertificateFault) → read text ≡ r
            → (r >>= named f) ≡ Ok (z, left) → Takes lines all text z left
        go (Err fault) is_read e = absurd cc
        go (Ok x) is_read e =
            subst (λ (p : B × List ℕ). Takes lines all text p.0 p.1)
            (pair_is (f x.0, x.1) (z, left) e)
            (taken text x (is.takes text x.0 x.1 is_read))

    stopped : (text : List ℕ) (fault : CertificateFault)
        → Stops line read (IsBeginning read) text fault
        → Stops line all (IsBeginning all) text fault
    stopped text fault s = record {
      before = s.before;
      behind = s.behind;
      text_is = s.text_is;
      whole = s.whole;
      fault_is = s.fault_is;
      more = s.more;
      goes = (f s.goes.0, λ tail. ap (λ r. r >>= named f) (s.goes.1 tail));
      stuck = λ first rest after back none.
          ap (λ r. r >>= named f) (s.stuck first rest after back none);
    }

    stops_named : (text : List ℕ) (fault : CertificateFault) → all text ≡ Err fault
        → Stops line all (IsBeginning all) text fault
    stops_named text fault e = go (read text) refl e
      where
        go : (r : Result (A × List ℕ) CertificateFault) → read text ≡ r
            → (r >>= named f) ≡ Err fault → Stops line all (IsBeginning all) text fault
        go (Ok x) is_read e = absurd cc
        go (Err d) is_read e =
            stopped text fault (is.stops text fault
            (is_read ∙ ap (λ (g : CertificateFault). Err g) (err_is {A = B × List ℕ} d fault e)))

-- some lines, and then all that is left
pub then_last : {A B : Type 0} (n : A → ℕ) (line : ℕ)
    (read : List ℕ → Result (A × List ℕ) CertificateFault)
    (next : A → List ℕ → Result B CertificateFault)
    → IsReader n line read → ((x : A) → IsLastReader (line + n x) (next x))
    → IsLastReader line (λ text. read text >>= λ x. next x.0 x.1)
then_last {A} {B} n line read next one two text fault e = go (read text) refl e
  where
    after_one : A × List ℕ → Result B CertificateFault
    after_one x = next x.0 x.1

    both : List ℕ → Result B CertificateFault
    both text = read text >>= after_one

    early : Stops line read (IsBeginning read) text fault
        → Stops line both (IsWhole both) text fault
    early s =
        let x = s.goes.0 in
        let rest = can_last (line + n x) (next x) (two x) in
        record {
          before = s.before;
          behind = s.behind;
          text_is = s.text_is;
          whole = s.whole;
          fault_is = s.fault_is;
          more = s.more ++ rest.0;
          goes = (
            rest.1.0,
            ap both (sym (append_assoc s.before s.more rest.0))
                ∙ ap (λ r. r >>= after_one) (s.goes.1 rest.0) ∙ rest.1.1,
          );
          stuck = λ first rest after back none.
              ap (λ r. r >>= after_one) (s.stuck first rest after back none);
        }

    late : (x : A × List ℕ) → Takes n read text x.0 x.1
        → Stops (line + n x.0) (next x.0) (IsWhole (next x.0)) x.1 fault
        → Stops line both (IsWhole both) text fault
    late x t s =
        let feeds = t.feeds s.before in
        record {
          before = t.used ++ s.before;
          behind = s.behind;
          text_is = t.text_is ∙ ap (λ (r : List ℕ). t.used ++ r) s.text_is
              ∙ sym (append_assoc t.used s.before s.behind);
          whole = whole_both t.used s.before t.whole s.whole;
          fault_is = s.fault_is ∙ ap (λ (k : ℕ). Syntax k) (omega (arith, feeds));
          more = s.more;
          goes = (
            s.goes.0,
            ap both (append_assoc t.used s.before s.more)
                ∙ ap (λ r. r >>= after_one) (t.again (s.before ++ s.more)) ∙ s.goes.1,
          );
          stuck = λ first rest after back none.
              ap both (append_assoc t.used s.before (first ++ 10 ∷ after))
              ∙ ap (λ r. r >>= after_one) (t.again (s.before ++ (first ++ 10 ∷ after)))
              ∙ s.stuck first rest after back none;
        }

    go : (r : Result (A × List ℕ) CertificateFault) → read text ≡ r
        → (r >>= after_one) ≡ Err fault → Stops line both (IsWhole both) text fault
    go (Err d) is e =
        early (one.stops text fault
        (is ∙ ap (λ (f : CertificateFault). Err f) (err_is {A = B} d fault e)))
    go (Ok x) is e = late x (one.takes text x.0 x.1 is) (two x.0 x.1 fault e)

-- the same under another name
pub named_last : {A B : Type 0} (line : ℕ) (read : List ℕ → Result A CertificateFault) (f : A → B)
    → IsLastReader line read → IsLastReader line (λ text. read text >>= λ x. Ok (f x))
named_last {A} {B} line read f last text fault e = go (read text) refl e
  where
    all : List ℕ → Result B CertificateFault
    all text = read text >>= λ x. Ok (f x)

    stop : Stops line read (IsWhole read) text fault → Stops line all (IsWhole all) text fault
    stop s = record {
      before = s.before;
      behind = s.behind;
      text_is = s.text_is;
      whole = s.whole;
      fault_is = s.fault_is;
      more = s.more;
      goes = (f s.goes.0, ap (λ r. r >>= λ x. Ok (f x)) s.goes.1);
      stuck = λ first rest after back none.
          ap (λ r. r >>= λ x. Ok (f x)) (s.stuck first rest after back none);
    }

    go : (r : Result A CertificateFault) → read text ≡ r → (r >>= λ x. Ok (f x)) ≡ Err fault
        → Stops line all (IsWhole all) text fault
    go (Ok x) is e = absurd cc
    go (Err d) is e =
        stop (last text fault
        (is ∙ ap (λ (g : CertificateFault). Err g) (err_is {A = B} d fault e)))
