-- A journal that is cut off is refused in the line that it ends in.
use Rattle.std.proofs.Common.{◌≡◌, ◌≢◌, ◌⊎◌, inl, inr, ℕ, suc, ◌+◌, ◌≤◌, ◌^◌, Bool, true, false, cond, ◌&&◌, ◌||◌, ◌==◌, leb, is_some, length, List, [], ◌∷◌, ◌++◌, Option, None, Some, Result, Ok, Err, refl, sym, ap, ◌∙◌, subst, arith, true≢false, append_assoc}
use Rattle.std.specs.Prelude.{codes}
use Rattle.std.proofs.lemmas.Bool.{eqb-true}
use Rattle.std.proofs.lemmas.List.{nil_from_length}
use Rattle.std.proofs.lemmas.List.Sums.{sum_by-cons}
use Rattle.std.proofs.lemmas.Bool.Decides.{nat_tests}
use Rattle.pb_model.specs.Texts.{lines}
use Rattle.pb_model.proofs.Callers.{or_false, not_both}
use Rattle.pb_machine.specs.Settings.{standard}
use Rattle.pb_machine.specs.declared.event.Event.{Event}
use Rattle.pb_machine.specs.declared.event.Event.TheVariants.{Lease, Renew, Hot, Cold, Release, Off, Ended}
use Rattle.pb_machine.specs.declared.event.End.TheVariants.{Quiet, Budget, Memory}
use Rattle.pb_machine.specs.declared.event.EventRefusal.{EventRefusal}
use Rattle.pb_machine.specs.declared.settings.Settings.{Settings}
use Rattle.pb_machine.specs.Blocks.{Blocks}
use Rattle.pb_machine.specs.Counts.{Counts, opening_counts, counts_after}
use Rattle.pb_machine.specs.Legality.{refusal}
use Rattle.pb_machine.specs.History.{AreFinished}
use Rattle.pb_machine.proofs.Callers.{passes, within}
use Rattle.pb_journal.specs.declared.error.Fault.{Fault}
use Rattle.pb_journal.specs.declared.error.JournalError.{JournalError}
use Rattle.pb_journal.specs.declared.error.Why.{Why}
use Rattle.pb_journal.specs.declared.error.Why.TheVariants.{Spelling, Short, Settings as OutOfRange}
use Rattle.pb_journal.specs.Faults.{◌>>=◌, fault_at, wanted, Gives}
use Rattle.pb_lines.specs.Words.{part, behind, is_text, number_of, line_feeds}
use Rattle.pb_journal.specs.Reading.{why_missing, first_line, line_at, with_first, lines_in, tail_in, fixed_at, number_at, plain_in, plain_at, event_in, header_of}
use Rattle.pb_journal.specs.Judging.{unless_refused, after_line, after_lines, are_finished, end_fault, events_of, judged}
use Rattle.pb_journal.specs.Shown.{IsCutOff, cut_fault, CutJournalsAreRefused}
use Rattle.pb_lines.proofs.Callers.{part_is, part_none, part_again}
use Rattle.pb_journal.proofs.Splits.{has_end, has_line, has_no_line}
use Rattle.pb_journal.proofs.Chains.{bind_ok, ok_is, guard_ok}
use Rattle.pb_journal.proofs.WholeTexts.{is_some_line, ends, text_is}
use Rattle.pb_journal.proofs.Finished.{finished_is, accepted_again}

-- ---- the first line of a text that goes on

-- a text has as many lines as line feeds
feeds_are : (text : List ℕ) → length (lines_in text) ≡ line_feeds text
unfolding lines_in
feeds_are [] = refl
feeds_are (b ∷ bs) =
    go (b == 10) (lines_in bs) (feeds_are bs)
    ∙ sym (sum_by-cons (λ (c : ℕ). cond (c == 10) 1 0) b bs)
  where
    go : (t : Bool) (texts : List (List ℕ)) → length texts ≡ line_feeds bs
        → length (cond t ([] ∷ texts) (with_first b texts)) ≡ cond t 1 0 + line_feeds bs
    go true texts e = omega (arith, e)
    go false [] e = omega (arith, e)
    go false (text ∷ texts) e = omega (arith, e)

-- the fault of the line that a text ends in, from this line on
record IsCut (fault : Fault) (line : ℕ) (text : List ℕ) : Type 0 where
  line_is : fault.line ≡ line + length (lines_in text)
  why_is : fault.why ≡ why_missing (tail_in text)

record HasFirst (line : ℕ) (start rest : List ℕ) : Type 0 where
  first : List ℕ
  left : List ℕ
  here : line_at line start ≡ Ok (first, left)
  there : line_at line (start ++ rest) ≡ Ok (first, left ++ rest)
  one : length (lines_in start) ≡ suc (length (lines_in left))
  tail : tail_in start ≡ tail_in left

record HasNone (line : ℕ) (start : List ℕ) : Type 0 where
  fault : Fault
  fails : line_at line start ≡ Err fault
  cut : IsCut fault line start

first_cases : (line : ℕ) (start rest : List ℕ) → HasFirst line start rest ⊎ HasNone line start
first_cases line start rest = go (part 10 start) refl
  where
    go : (o : Option (List ℕ × List ℕ)) → part 10 start ≡ o → HasFirst line start rest
        ⊎ HasNone line start
    go (Some x) is =
        let whole : start ++ rest ≡ x.0 ++ 10 ∷ (x.1 ++ rest) =
        ap (λ (t : List ℕ). t ++ rest) (part_is 10 start x.0 x.1 is)
        ∙ append_assoc x.0 (10 ∷ x.1) rest in
        inl (record {
          first = x.0;
          left = x.1;
          here = ap (first_line line start) is;
          there = ap (line_at line) whole
              ∙ ap (first_line line (x.0 ++ 10 ∷ (x.1 ++ rest)))
              (part_again 10 x.0 (x.1 ++ rest) (part_none 10 start x.0 x.1 is));
          one = ap length (has_line start x.0 x.1 is).0;
          tail = (has_line start x.0 x.1 is).1;
        })
    go None is =
        let none : length (lines_in start) ≡ 0 = ap length (has_no_line start is).0 in
        inr (record {
          fault = record { line = line; why = why_missing start };
          fails = ap (first_line line start) is;
          cut = record {
            line_is = omega (arith, none);
            why_is = ap why_missing (sym (has_no_line start is).1);
          };
        })

-- ---- reading some lines of a text that goes on: the same is read of its beginning, or that is cut
-- off

abbrev Goes : {A : Type 0} → (n line : ℕ) → Result (A × List ℕ) Fault → (start rest : List ℕ) → A
    → (after : List ℕ) → Type 0
Goes n line read start rest x after =
    ((left : List ℕ) × (read ≡ Ok (x, left)) × (after ≡ left ++ rest)
    × (length (lines_in start) ≡ n + length (lines_in left)) × (tail_in start ≡ tail_in left))
    ⊎ ((fault : Fault) × (read ≡ Err fault) × IsCut fault line start)

abbrev IsStep : {A : Type 0} → (n line : ℕ) → (List ℕ → Result (A × List ℕ) Fault) → Type 0
IsStep {A} n line read =
    (start rest : List ℕ) (x : A) (after : List ℕ) → read (start ++ rest) ≡ Ok (x, after)
    → Goes n line (read start) start rest x after

-- what is read of a line doesn't depend on the text after it
abbrev IsOfLine : {A : Type 0} → (List ℕ × List ℕ → Result (A × List ℕ) Fault) → Type 0
IsOfLine {A} read =
    (first after left : List ℕ) (x : A) (end : List ℕ) → read (first, after) ≡ Ok (x, end)
    → (end ≡ after) × (read (first, left) ≡ Ok (x, left))

line_step : {A : Type 0} (line : ℕ) (read : List ℕ × List ℕ → Result (A × List ℕ) Fault)
    → IsOfLine read → IsStep 1 line (λ text. line_at line text >>= read)
line_step {A} line read own start rest x after e = go (first_cases line start rest)
  where
    go : HasFirst line start rest ⊎ HasNone line start
        → Goes 1 line (line_at line start >>= read) start rest x after
    go (inl h) =
        let same =
        own h.first (h.left ++ rest) h.left x after (sym (ap (λ r. r >>= read) h.there) ∙ e) in
        inl (h.left, ap (λ r. r >>= read) h.here ∙ same.1, same.0, omega (arith, h.one), h.tail)
    go (inr h) = inr (h.fault, ap (λ r. r >>= read) h.fails, h.cut)

-- one step and then another
then_step : {A B : Type 0} (n m line : ℕ) (read : List ℕ → Result (A × List ℕ) Fault)
    (next : A → List ℕ → Result (B × List ℕ) Fault) → IsStep n line read
    → ((x : A) → IsStep m (line + n) (next x))
    → IsStep (n + m) line (λ text. read text >>= λ x. next x.0 x.1)
then_step {A} {B} n m line read next one two start rest y after e =
    let a = bind_ok (read (start ++ rest)) (λ x. next x.0 x.1) (y, after) e in
    go a.0 a.2 (one start rest a.0.0 a.0.1 a.1)
  where
    go : (x : A × List ℕ) → next x.0 x.1 ≡ Ok (y, after)
        → Goes n line (read start) start rest x.0 x.1
        → Goes (n + m) line (read start >>= λ x. next x.0 x.1) start rest y after
    go x is (inr h) = inr (h.0, ap (λ r. r >>= λ x. next x.0 x.1) h.1, h.2)
    go x is (inl h) = more (two x.0 h.0 rest y after (ap (next x.0) (sym h.2) ∙ is))
      where
        more : Goes m (line + n) (next x.0 h.0) h.0 rest y after
            → Goes (n + m) line (read start >>= λ x. next x.0 x.1) start rest y after
        more (inl k) =
            inl (
              k.0,
              ap (λ r. r >>= λ x. next x.0 x.1) h.1 ∙ k.1,
              k.2,
              omega (arith, h.3, k.3),
              h.4 ∙ k.4,
            )
        more (inr k) =
            inr (
              k.0,
              ap (λ r. r >>= λ x. next x.0 x.1) h.1 ∙ k.1,
              record {
                line_is = omega (arith, k.2.line_is, h.3);
                why_is = k.2.why_is ∙ ap why_missing (sym h.4);
              },
            )

-- ---- the header

fixed_step : {B : Type 0} (m line : ℕ) (piece : List ℕ) (next : List ℕ → Result (B × List ℕ) Fault)
    → IsStep m (line + 1) next → IsStep (1 + m) line (λ text. fixed_at line piece text >>= next)
unfolding fixed_at
fixed_step {B} m line piece next two start rest y after e = go (first_cases line start rest)
  where
    go : HasFirst line start rest ⊎ HasNone line start
        → Goes (1 + m) line
        ((line_at line start
        >>= λ first. cond (is_text piece first.0) (Ok first.1) (fault_at line Spelling)) >>= next)
        start rest y after
    go (inr h) =
        inr (
          h.fault,
          ap (λ r.
              (r >>= λ first. cond (is_text piece first.0) (Ok first.1) (fault_at line Spelling))
              >>= next) h.fails,
          h.cut,
        )
    go (inl h) =
        let a = bind_ok
        (cond (is_text piece h.first) (Ok (h.left ++ rest)) (fault_at line Spelling)) next
        (y, after)
        (sym (ap
        (λ r. (r
        >>= λ first. cond (is_text piece first.0) (Ok first.1) (fault_at line Spelling))
        >>= next) h.there) ∙ e) in
        let g = guard_ok (is_text piece h.first) _ (h.left ++ rest) a.0 a.1 in
        let here :
        ((line_at line start
        >>= λ first. cond (is_text piece first.0) (Ok first.1) (fault_at line Spelling))
        >>= next) ≡ next h.left =
        ap (λ r.
        (r >>= λ first. cond (is_text piece first.0) (Ok first.1) (fault_at line Spelling))
        >>= next) h.here ∙ ap (λ t. cond t (Ok h.left) (fault_at line Spelling) >>= next) g.0 in
        more here (two h.left rest y after (ap next g.1 ∙ a.2))
      where
        more : ((line_at line start
            >>= λ first. cond (is_text piece first.0) (Ok first.1) (fault_at line Spelling))
            >>= next) ≡ next h.left → Goes m (line + 1) (next h.left) h.left rest y after
            → Goes (1 + m) line
            ((line_at line start
            >>= λ first. cond (is_text piece first.0) (Ok first.1) (fault_at line Spelling))
            >>= next) start rest y after
        more here (inl k) = inl (k.0, here ∙ k.1, k.2, omega (arith, h.one, k.3), h.tail ∙ k.4)
        more here (inr k) =
            inr (
              k.0,
              here ∙ k.1,
              record {
                line_is = omega (arith, k.2.line_is, h.one);
                why_is = k.2.why_is ∙ ap why_missing (sym h.tail);
              },
            )

number_step : (line : ℕ) (piece : List ℕ) (least most : ℕ)
    → IsStep 1 line (number_at line piece least most)
unfolding number_at
number_step line piece least most = line_step line _ own
  where
    pair : (x y : ℕ × List ℕ) → x ≡ y → (x.0 ≡ y.0) × (x.1 ≡ y.1)
    pair x y e = (ap (λ (z : ℕ × List ℕ). z.0) e, ap (λ (z : ℕ × List ℕ). z.1) e)

    own : IsOfLine
        (λ first. wanted line (behind piece first.0) >>= λ word. wanted line (number_of word)
        >>= λ n. cond (leb least n && leb n most) (Ok (n, first.1)) (fault_at line OutOfRange))
    own first after left x end e =
        let b = bind_ok (wanted line (behind piece first)) _ (x, end) e in
        let c = bind_ok (wanted line (number_of b.0)) _ (x, end) b.2 in
        let g = guard_ok (leb least c.0 && leb c.0 most) _ (c.0, after) (x, end) c.2 in
        let same = pair (c.0, after) (x, end) g.1 in (
          sym same.1,
          ap (λ r. r >>= λ word. wanted line (number_of word)
              >>= λ n. cond (leb least n && leb n most) (Ok (n, left)) (fault_at line OutOfRange))
              b.1
              ∙ ap (λ r. r
              >>= λ n. cond (leb least n && leb n most) (Ok (n, left))
              (fault_at line OutOfRange)) c.1
              ∙ ap (λ t. cond t (Ok (c.0, left)) (fault_at line OutOfRange)) g.0
              ∙ ap (λ (n : ℕ). Ok (n, left)) same.0,
        )

abbrev with_rest : List ℕ → Bool → Result (Bool × List ℕ) Fault
with_rest rest plain = Ok (plain, rest)

abbrev named : {B : Type 0} → (Bool → B) → Bool × List ℕ → Result (B × List ℕ) Fault
named made plain = Ok (made plain.0, plain.1)

plain_step : {B : Type 0} (line : ℕ) (made : Bool → B)
    → IsStep 1 line (λ text. plain_at line text >>= named made)
unfolding plain_at
plain_step {B} line made start rest y after e = go (first_cases line start rest)
  where
    pair : (x z : B × List ℕ) → x ≡ z → (x.0 ≡ z.0) × (x.1 ≡ z.1)
    pair x z e = (ap (λ (w : B × List ℕ). w.0) e, ap (λ (w : B × List ℕ). w.1) e)

    own : (first rest : List ℕ) (r : Result Bool Fault) (left : List ℕ)
        → ((r >>= with_rest rest) >>= named made) ≡ Ok (y, after)
        → (after ≡ rest) × (((r >>= with_rest left) >>= named made) ≡ Ok (y, left))
    own first rest (Ok plain) left e = let same =
        pair (made plain, rest) (y, after) (ok_is (made plain, rest) (y, after) e) in
        (sym same.1, ap (λ (b : B). Ok (b, left)) same.0)
    own first rest (Err fault) left e = absurd cc

    go : HasFirst line start rest ⊎ HasNone line start
        → Goes 1 line
        ((line_at line start >>= λ first. plain_in line first.0
        >>= λ plain. Ok (plain, first.1)) >>= named made) start rest y after
    go (inr h) =
        inr (
          h.fault,
          ap (λ r. (r >>= λ first. plain_in line first.0 >>= λ plain. Ok (plain, first.1))
              >>= named made) h.fails,
          h.cut,
        )
    go (inl h) =
        let same = own h.first (h.left ++ rest) (plain_in line h.first) h.left
        (sym (ap
        (λ r. (r >>= λ first. plain_in line first.0 >>= λ plain. Ok (plain, first.1))
        >>= named made) h.there) ∙ e) in
        inl (
          h.left,
          ap (λ r. (r >>= λ first. plain_in line first.0 >>= λ plain. Ok (plain, first.1))
              >>= named made) h.here ∙ same.1,
          same.0,
          omega (arith, h.one),
          h.tail,
        )

abbrev settings_with : (workers budget lot wish : ℕ) → Bool → Settings
settings_with workers budget lot wish plain =
    record standard {
      workers = workers;
      budget = budget;
      lot = lot;
      wish = wish;
      plain = plain;
    }

header_step : IsStep 6 1 header_of
unfolding header_of
header_step =
    fixed_step 5 1 (codes "pbnf-journal 1") _
    (then_step 1 4 2 (number_at 2 (codes "blocks ") 16 4096)
    (λ wish rest. number_at 3 (codes "workers ") 1 64 rest
    >>= λ workers. number_at 4 (codes "budget ") 1 (2 ^ 40) workers.1
    >>= λ budget. number_at 5 (codes "lot ") 1 (2 ^ 20) budget.1 >>= λ lot. plain_at 6 lot.1
    >>= λ plain. Ok (settings_with workers.0 budget.0 lot.0 wish plain.0, plain.1))
    (number_step 2 (codes "blocks ") 16 4096)
    (λ wish. then_step 1 3 3 (number_at 3 (codes "workers ") 1 64)
    (λ workers rest. number_at 4 (codes "budget ") 1 (2 ^ 40) rest
    >>= λ budget. number_at 5 (codes "lot ") 1 (2 ^ 20) budget.1 >>= λ lot. plain_at 6 lot.1
    >>= λ plain. Ok (settings_with workers budget.0 lot.0 wish plain.0, plain.1))
    (number_step 3 (codes "workers ") 1 64)
    (λ workers. then_step 1 2 4 (number_at 4 (codes "budget ") 1 (2 ^ 40))
    (λ budget rest. number_at 5 (codes "lot ") 1 (2 ^ 20) rest >>= λ lot. plain_at 6 lot.1
    >>= λ plain. Ok (settings_with workers budget lot.0 wish plain.0, plain.1))
    (number_step 4 (codes "budget ") 1 (2 ^ 40))
    (λ budget. then_step 1 1 5 (number_at 5 (codes "lot ") 1 (2 ^ 20))
    (λ lot rest. plain_at 6 rest
    >>= λ plain. Ok (settings_with workers budget lot wish plain.0, plain.1))
    (number_step 5 (codes "lot ") 1 (2 ^ 20))
    (λ lot. plain_step 6 (settings_with workers budget lot wish))))))

-- ---- events

-- the lines of a text that goes on
lines_on : (start rest : List ℕ)
    → (lines_in (start ++ rest) ≡ lines_in start ++ lines_in (tail_in start ++ rest))
    × (tail_in (start ++ rest) ≡ tail_in (tail_in start ++ rest))
unfolding lines_in tail_in
lines_on [] rest = (refl, refl)
lines_on (b ∷ bs) rest = go (b == 10) refl (lines_in bs) refl (lines_on bs rest)
  where
    first : (t : Bool) → (b == 10) ≡ t → (xs : List ℕ) → lines_in (b ∷ xs)
        ≡ cond t ([] ∷ lines_in xs) (with_first b (lines_in xs))
    first t e xs = ap (λ r. cond r ([] ∷ lines_in xs) (with_first b (lines_in xs))) e

    last : (t : Bool) → (b == 10) ≡ t → (xs : List ℕ) → tail_in (b ∷ xs)
        ≡ cond (t || has_end xs) (tail_in xs) (b ∷ xs)
    last t e xs = ap (λ r. cond (r || has_end xs) (tail_in xs) (b ∷ xs)) e

    go : (t : Bool) → (b == 10) ≡ t → (texts : List (List ℕ)) → lines_in bs ≡ texts
        → (lines_in (bs ++ rest) ≡ lines_in bs ++ lines_in (tail_in bs ++ rest))
        × (tail_in (bs ++ rest) ≡ tail_in (tail_in bs ++ rest))
        → (lines_in (b ∷ (bs ++ rest)) ≡ lines_in (b ∷ bs) ++ lines_in (tail_in (b ∷ bs) ++ rest))
        × (tail_in (b ∷ (bs ++ rest)) ≡ tail_in (tail_in (b ∷ bs) ++ rest))
    go true e texts are on = (
      first true e (bs ++ rest) ∙ ap (λ (ls : List (List ℕ)). [] ∷ ls) on.0
          ∙ sym (ap (λ (ls : List (List ℕ)). ls ++ lines_in (tail_in (b ∷ bs) ++ rest))
          (first true e bs)
          ∙ ap (λ (t : List ℕ). ([] ∷ lines_in bs) ++ lines_in (t ++ rest)) (last true e bs)),
      last true e (bs ++ rest) ∙ on.1
          ∙ sym (ap (λ (t : List ℕ). tail_in (t ++ rest)) (last true e bs)),
    )
    go false e [] are on =
        let none : has_end bs ≡ false = ends bs ∙ ap is_some_line are in
        let tail : tail_in (b ∷ bs) ≡ b ∷ bs =
        last false e bs ∙ ap (λ r. cond r (tail_in bs) (b ∷ bs)) none in
        let lines_are : lines_in (b ∷ bs) ≡ [] = first false e bs ∙ ap (with_first b) are in (
          sym (ap (λ (ls : List (List ℕ)). ls ++ lines_in (tail_in (b ∷ bs) ++ rest)) lines_are
              ∙ ap (λ (t : List ℕ). lines_in (t ++ rest)) tail),
          sym (ap (λ (t : List ℕ). tail_in (t ++ rest)) tail),
        )
    go false e (l ∷ ls) are on =
        let some : has_end bs ≡ true = ends bs ∙ ap is_some_line are in
        let tail : tail_in (b ∷ bs) ≡ tail_in bs =
        last false e bs ∙ ap (λ r. cond r (tail_in bs) (b ∷ bs)) some in
        let more : lines_in (bs ++ rest) ≡ (l ∷ ls) ++ lines_in (tail_in bs ++ rest) =
        on.0 ∙ ap (λ (t : List (List ℕ)). t ++ lines_in (tail_in bs ++ rest)) are in
        let some_more : has_end (bs ++ rest) ≡ true = ends (bs ++ rest) ∙ ap is_some_line more in
        let lines_are : lines_in (b ∷ bs) ≡ (b ∷ l) ∷ ls =
        first false e bs ∙ ap (with_first b) are in (
          first false e (bs ++ rest) ∙ ap (with_first b) more
              ∙ sym (ap (λ (t : List (List ℕ)). t ++ lines_in (tail_in (b ∷ bs) ++ rest)) lines_are
              ∙ ap (λ (t : List ℕ). ((b ∷ l) ∷ ls) ++ lines_in (t ++ rest)) tail),
          last false e (bs ++ rest)
              ∙ ap (λ r. cond r (tail_in (bs ++ rest)) (b ∷ (bs ++ rest))) some_more ∙ on.1
              ∙ sym (ap (λ (t : List ℕ). tail_in (t ++ rest)) tail),
        )

module _ (blocks : Blocks) (settings : Settings) where
  -- nothing comes after a finished history
  none_follows : (counts : Counts) (event : Event) → AreFinished settings counts
      → refusal blocks settings counts event ≡ None → ⊥
  none_follows counts (Lease worker block quota) is may =
      not_both (is_some counts.end) is.end
      (passes blocks settings counts (Lease worker block quota) may).0
  none_follows counts (Renew worker used quota) is may =
      not_both (is_some counts.end) is.end
      (passes blocks settings counts (Renew worker used quota) may).0
  none_follows counts (Hot worker block) is may =
      not_both (is_some counts.end) is.end (passes blocks settings counts (Hot worker block) may).0
  none_follows counts (Cold worker block) is may =
      not_both (is_some counts.end) is.end (passes blocks settings counts (Cold worker block) may).0
  none_follows counts (Release worker used memory) is may =
      let h = (passes blocks settings counts (Release worker used memory) may).0 in
      not_both (counts.signed_off worker)
      (is.signed_off worker (within blocks settings counts worker h)) (or_false _ _ h).1
  none_follows counts (Off worker memory) is may =
      let h = (passes blocks settings counts (Off worker memory) may).0 in
      not_both (counts.signed_off worker)
      (is.signed_off worker (within blocks settings counts worker h)) (or_false _ _ h).1
  none_follows counts (Ended Quiet) is may =
      not_both (is_some counts.end) is.end (passes blocks settings counts (Ended Quiet) may).0
  none_follows counts (Ended Budget) is may =
      not_both (is_some counts.end) is.end (passes blocks settings counts (Ended Budget) may).0
  none_follows counts (Ended Memory) is may =
      not_both (is_some counts.end) is.end (passes blocks settings counts (Ended Memory) may).0

  after_on : (texts others : List (List ℕ)) (counts last : Counts) (line : ℕ)
      → after_lines blocks settings counts line (texts ++ others) ≡ Ok last
      → (between : Counts) × (after_lines blocks settings counts line texts ≡ Ok between)
      × (after_lines blocks settings between (line + length texts) others ≡ Ok last)
  unfolding after_lines
  after_on [] others counts last line e = let same : line ≡ line + 0 =
      omega arith in
      (counts, refl, subst (λ n. after_lines blocks settings counts n others ≡ Ok last) same e)
  after_on (text ∷ texts) others counts last line e =
      let a = bind_ok (after_line blocks settings counts line text) _ last e in
      let rest = after_on texts others a.0 last (line + 1) a.2 in
      let same : line + 1 + length texts ≡ line + suc (length texts) = omega arith in (
        rest.0,
        ap (λ r. r >>= λ after. after_lines blocks settings after (line + 1) texts) a.1 ∙ rest.1,
        subst (λ n. after_lines blocks settings rest.0 n others ≡ Ok last) same rest.2,
      )

  not_refused : (line : ℕ) (o : Option EventRefusal) (after next : Counts) → unless_refused line o after
      ≡ Ok next → o ≡ None
  not_refused line None after next e = refl
  not_refused line (Some why) after next e = absurd cc

  no_lines : (counts last : Counts) (line : ℕ) (texts : List (List ℕ))
      → AreFinished settings counts → after_lines blocks settings counts line texts ≡ Ok last
      → texts ≡ []
  unfolding after_lines after_line
  no_lines counts last line [] is e = refl
  no_lines counts last line (text ∷ texts) is e =
      let a = bind_ok (after_line blocks settings counts line text) _ last e in
      let b = bind_ok (event_in line text) _ a.0 a.1 in
      absurd (none_follows counts b.0 is
      (not_refused line (refusal blocks settings counts b.0)
      (counts_after blocks settings counts b.0) a.0 b.2))

  tail_ok : (counts : Counts) (line : ℕ) (tail : List ℕ) (x : Bool)
      → end_fault settings counts line tail ≡ Ok x → tail ≡ []
  tail_ok counts line [] x e = refl
  tail_ok counts line (b ∷ bs) x e = absurd (go (length (b ∷ bs) == 0) (some (length bs)) e)
    where
      some : (n : ℕ) → (suc n == 0) ≡ false
      some n = grind (arith, nat_tests)

      go : (none : Bool) → none ≡ false
          → cond none (cond (are_finished settings counts) (Ok true) (fault_at line Short))
          (fault_at line Spelling) ≡ Ok x → ⊥
      go true h e = true≢false h
      go false h e = cc

  -- where a text that goes on is cut off, it may not end
  cut_end : (between last : Counts) (line : ℕ) (tail rest : List ℕ)
      → after_lines blocks settings between line (lines_in (tail ++ rest)) ≡ Ok last
      → tail_in (tail ++ rest) ≡ [] → rest ≢ []
      → end_fault settings between line tail ≡ fault_at line (why_missing tail)
  cut_end between last line tail rest e none some =
      go (length tail == 0) refl (are_finished settings between) refl
    where
      nothing : (length tail == 0) ≡ true → are_finished settings between ≡ true → rest ≡ []
      nothing at is =
          let no_texts =
          no_lines between last line (lines_in (tail ++ rest))
          (finished_is settings between is) e in
          ap (λ (t : List ℕ). t ++ rest) (sym (nil_from_length tail (eqb-true _ _ at)))
          ∙ text_is (tail ++ rest)
          ∙ ap (λ (ls : List (List ℕ)). lines ls ++ tail_in (tail ++ rest)) no_texts ∙ none

      go : (empty : Bool) → (length tail == 0) ≡ empty → (done : Bool)
          → are_finished settings between ≡ done
          → end_fault settings between line tail ≡ fault_at line (why_missing tail)
      go false at done is =
          ap (λ t. cond t (cond (are_finished settings between) (Ok true) (fault_at line Short))
          (fault_at line Spelling)) at
          ∙ ap (λ (t : Bool). fault_at {A = Bool} line (cond t Short Spelling)) (sym at)
      go true at false is =
          ap (λ t. cond t (cond (are_finished settings between) (Ok true) (fault_at line Short))
          (fault_at line Spelling)) at ∙ ap (λ r. cond r (Ok true) (fault_at line Short)) is
          ∙ ap (λ (t : Bool). fault_at {A = Bool} line (cond t Short Spelling)) (sym at)
      go true at true is = absurd (some (nothing at is))

  events_cut : (counts : Counts) (start rest : List ℕ) (n : ℕ)
      → events_of blocks settings counts (start ++ rest) ≡ Ok n → rest ≢ []
      → (fault : Fault) × (events_of blocks settings counts start ≡ Err fault)
      × IsCut fault 7 start
  unfolding events_of
  events_cut counts start rest n e some =
      let a = bind_ok (after_lines blocks settings counts 7 (lines_in (start ++ rest))) _ n e in
      let b = bind_ok
      (end_fault settings a.0 (7 + length (lines_in (start ++ rest)))
      (tail_in (start ++ rest))) _ n a.2 in
      let on = lines_on start rest in
      let split =
      after_on (lines_in start) (lines_in (tail_in start ++ rest)) counts a.0 7
      (sym (ap (after_lines blocks settings counts 7) on.0) ∙ a.1) in
      let no_tail : tail_in (tail_in start ++ rest) ≡ [] =
      sym on.1
      ∙ tail_ok a.0 (7 + length (lines_in (start ++ rest))) (tail_in (start ++ rest)) b.0 b.1 in
      let cut =
      cut_end split.0 a.0 (7 + length (lines_in start))
      (tail_in start) rest split.2 no_tail some in (
        record { line = 7 + length (lines_in start); why = why_missing (tail_in start) },
        ap (λ r. r
            >>= λ after. end_fault settings after (7 + length (lines_in start)) (tail_in start)
            >>= λ ended. Ok (length (lines_in start))) split.1
            ∙ ap (λ r. r >>= λ ended. Ok (length (lines_in start))) cut,
        record { line_is = refl; why_is = refl },
      )

same_fault : (start : List ℕ) (fault : Fault) → fault.line ≡ 1 + line_feeds start
    → fault.why ≡ why_missing (tail_in start)
    → ◌≡◌ {A = Result ℕ Fault} (Err fault) (Err (cut_fault start))
same_fault start fault line_is why_is =
    ap (λ (line : ℕ). Err (record { line = line; why = fault.why })) line_is
    ∙ ap (λ (why : Why). Err (record { line = 1 + line_feeds start; why = why })) why_is

pub cut_journals_are_refused : CutJournalsAreRefused
unfolding judged
cut_journals_are_refused blocks start rest events e some =
    let a = bind_ok (header_of (start ++ rest)) _ events e in
    go a.0 a.2 (header_step start rest a.0.0 a.0.1 a.1)
  where
    go : (header : Settings × List ℕ)
        → events_of blocks header.0 (opening_counts header.0 0) header.1 ≡ Ok events
        → Goes 6 1 (header_of start) start rest header.0 header.1
        → (header_of start
        >>= λ header. events_of blocks header.0 (opening_counts header.0 0) header.1)
        ≡ Err (cut_fault start)
    go header is (inr h) =
        let feeds = feeds_are start in
        let line = h.2.line_is in
        ap (λ r. r >>= λ header. events_of blocks header.0 (opening_counts header.0 0) header.1) h.1
        ∙ same_fault start h.0 (omega (arith, line, feeds)) h.2.why_is
    go header is (inl h) =
        let cut =
        events_cut blocks header.0 (opening_counts header.0 0) h.0 rest events
        (ap (events_of blocks header.0 (opening_counts header.0 0)) (sym h.2) ∙ is) some in
        let feeds = feeds_are start in
        let line = cut.2.line_is in
        let count = h.3 in
        ap (λ r. r >>= λ header. events_of blocks header.0 (opening_counts header.0 0) header.1) h.1
        ∙ cut.1
        ∙ same_fault start cut.0 (omega (arith, line, count, feeds))
        (cut.2.why_is ∙ ap why_missing (sym h.4))

-- so the call refuses it
pub gives_cut : (blocks : Blocks) (bytes : List ℕ) → blocks.count ≤ 4096
    → (r : Result ℕ JournalError) → Gives (λ n. n) r (judged blocks bytes) → IsCutOff blocks bytes
    → Gives {Y = ℕ} (λ n. n) r (Err (cut_fault bytes))
gives_cut blocks bytes few r given is =
    subst (λ (given : Result ℕ Fault). Gives (λ n. n) r given)
    (cut_journals_are_refused blocks bytes is.0 is.1
    (accepted_again blocks (bytes ++ is.0) is.1 few is.2) is.3) given
