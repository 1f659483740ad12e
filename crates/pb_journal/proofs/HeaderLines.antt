-- The header of a journal: what is read of it, and that it is read again.
use Rattle.std.proofs.Common.{◌≡◌, ℕ, ◌^◌, ◌<◌, ◌≤◌, Bool, true, false, ◌&&◌, cond, leb, Option, None, Some, List, [], ◌∷◌, ◌++◌, Result, Ok, refl, sym, ap, ◌∙◌, subst, arith, append_assoc, append-nil}
use Rattle.std.specs.Prelude.{codes}
use Rattle.std.specs.Fmt.{decimal}
use Rattle.std.proofs.lemmas.Bool.{leb-true, le-leb}
use Rattle.pb_model.specs.Texts.{line}
use Rattle.pb_machine.specs.declared.settings.Settings.{Settings}
use Rattle.pb_machine.specs.Settings.{standard, AreInRange, weight_of, settings_with_weight}
use Rattle.pb_journal.specs.declared.error.Fault.{Fault}
use Rattle.pb_journal.specs.declared.error.Why.TheVariants.{Spelling, Settings as OutOfRange}
use Rattle.pb_journal.specs.Faults.{◌>>=◌, fault_at, wanted}
use Rattle.pb_lines.specs.Words.{part, behind, is_text, number_of, has_none}
use Rattle.pb_journal.specs.Texts.{plain_line, header_text}
use Rattle.pb_journal.specs.Shown.{one}
use Rattle.pb_journal.specs.Reading.{first_line, line_at, fixed_at, number_at, plain_in, plain_at, header_of}
use Rattle.pb_lines.proofs.Callers.{number_is, number_again, number_none, part_is, behind_is, text_is, text_again, part_again, behind_again, none_both, conjuncts, both}
use Rattle.pb_journal.proofs.Chains.{bind_ok, ok_is, wanted_ok, guard_ok}

-- ---- what is read is spelled so

line_is : (line : ℕ) (text : List ℕ) (x : List ℕ × List ℕ) → line_at line text ≡ Ok x → text ≡ x.0
    ++ 10 ∷ x.1
line_is line text x e = go (part 10 text) refl e
  where
    go : (o : Option (List ℕ × List ℕ)) → part 10 text ≡ o → first_line line text o ≡ Ok x → text
        ≡ x.0 ++ 10 ∷ x.1
    go (Some y) at e =
        subst (λ (z : List ℕ × List ℕ). text ≡ z.0 ++ 10 ∷ z.1) (ok_is y x e)
        (part_is 10 text y.0 y.1 at)
    go None at e = absurd cc

fixed_is : (line : ℕ) (piece text rest : List ℕ) → fixed_at line piece text ≡ Ok rest → text
    ≡ piece ++ 10 ∷ rest
unfolding fixed_at
fixed_is line piece text rest e =
    let b = bind_ok (line_at line text) _ rest e in
    let g = guard_ok (is_text piece b.0.0) _ b.0.1 rest b.2 in
    line_is line text b.0 b.1 ∙ ap (λ (t : List ℕ). t ++ 10 ∷ b.0.1) (text_is piece b.0.0 g.0)
    ∙ ap (λ (t : List ℕ). piece ++ 10 ∷ t) g.1

record IsNumberLine (piece : List ℕ) (least most : ℕ) (text : List ℕ)
    (x : ℕ × List ℕ) : Type 0 where
  text_is : text ≡ (piece ++ decimal x.0) ++ 10 ∷ x.1
  within : (least ≤ x.0) × (x.0 ≤ most)

number_line_is : (line : ℕ) (piece : List ℕ) (least most : ℕ) (text : List ℕ) (x : ℕ × List ℕ)
    → number_at line piece least most text ≡ Ok x → IsNumberLine piece least most text x
unfolding number_at
number_line_is line piece least most text x e =
    let a = bind_ok (line_at line text) _ x e in
    let b = bind_ok (wanted line (behind piece a.0.0)) _ x a.2 in
    let c = bind_ok (wanted line (number_of b.0)) _ x b.2 in
    let g = guard_ok (leb least c.0 && leb c.0 most) _ (c.0, a.0.1) x c.2 in
    let within = conjuncts (leb least c.0) (leb c.0 most) g.0 in
    let word = number_is b.0 c.0 (wanted_ok line (number_of b.0) c.0 c.1) in
    subst (IsNumberLine piece least most text) g.1 (record {
      text_is =
          line_is line text a.0 a.1
          ∙ ap (λ (t : List ℕ). t ++ 10 ∷ a.0.1)
          (behind_is piece a.0.0 b.0 (wanted_ok line (behind piece a.0.0) b.0 b.1)
          ∙ ap (λ (t : List ℕ). piece ++ t) word.0);
      within = (leb-true _ _ within.0, leb-true _ _ within.1);
    })

plain_is : (line : ℕ) (text : List ℕ) (plain : Bool) → plain_in line text ≡ Ok plain → text
    ≡ plain_line plain
unfolding plain_in
plain_is line text plain e =
    go (is_text (codes "plain 0") text) (is_text (codes "plain 1") text) refl refl e
  where
    go : (a b : Bool) → is_text (codes "plain 0") text ≡ a → is_text (codes "plain 1") text ≡ b
        → cond a (Ok false) (cond b (Ok true) (fault_at line Spelling)) ≡ Ok plain → text
        ≡ plain_line plain
    go true b x y e = text_is (codes "plain 0") text x ∙ ap plain_line (ok_is false plain e)
    go false true x y e = text_is (codes "plain 1") text y ∙ ap plain_line (ok_is true plain e)
    go false false x y e = absurd cc

plain_line_is : (line : ℕ) (text : List ℕ) (x : Bool × List ℕ) → plain_at line text ≡ Ok x → text
    ≡ plain_line x.0 ++ 10 ∷ x.1
unfolding plain_at
plain_line_is line text x e =
    let a = bind_ok (line_at line text) _ x e in
    let b = bind_ok (plain_in line a.0.0) _ x a.2 in
    subst (λ (y : Bool × List ℕ). text ≡ plain_line y.0 ++ 10 ∷ y.1) (ok_is (b.0, a.0.1) x b.2)
    (line_is line text a.0 a.1
    ∙ ap (λ (t : List ℕ). t ++ 10 ∷ a.0.1) (plain_is line a.0.0 b.0 b.1))

-- the lines of a header, one after another and then the rest
header_parts : (a b c d e f rest : List ℕ)
    → (line a ++ (line b ++ (line c ++ (line d ++ (line e ++ (line f ++ [])))))) ++ rest ≡ a
    ++ 10 ∷ (b ++ 10 ∷ (c ++ 10 ∷ (d ++ 10 ∷ (e ++ 10 ∷ (f ++ 10 ∷ rest)))))
header_parts a b c d e f rest = simp (append_assoc, append-nil) refl

pub record IsHeader (bytes : List ℕ) (header : Settings × List ℕ) : Type 0 where
  pub text : bytes ≡ header_text header.0 ++ header.1
  pub range : AreInRange header.0
  pub weight : weight_of header.0 ≡ one
  pub pattern : header.0.pattern ≡ 0

pub header_is : (bytes : List ℕ) (x : Settings × List ℕ) → header_of bytes ≡ Ok x → IsHeader bytes x
unfolding header_of
header_is bytes x is =
    let a = bind_ok (fixed_at 1 (codes "pbnf-journal 1") bytes) _ x is in
    let b = bind_ok (number_at 2 (codes "blocks ") 16 4096 a.0) _ x a.2 in
    let c = bind_ok (number_at 3 (codes "workers ") 1 64 b.0.1) _ x b.2 in
    let d = bind_ok (number_at 4 (codes "budget ") 1 (2 ^ 40) c.0.1) _ x c.2 in
    let e = bind_ok (number_at 5 (codes "lot ") 1 (2 ^ 20) d.0.1) _ x d.2 in
    let f = bind_ok (plain_at 6 e.0.1) _ x e.2 in
    let wish = number_line_is 2 (codes "blocks ") 16 4096 a.0 b.0 b.1 in
    let workers = number_line_is 3 (codes "workers ") 1 64 b.0.1 c.0 c.1 in
    let budget = number_line_is 4 (codes "budget ") 1 (2 ^ 40) c.0.1 d.0 d.1 in
    let lot = number_line_is 5 (codes "lot ") 1 (2 ^ 20) d.0.1 e.0 e.1 in
    let plain = plain_line_is 6 e.0.1 f.0 f.1 in
    let settings : Settings =
    record standard { workers = c.0.0; budget = d.0.0; lot = e.0.0; wish = b.0.0; plain = f.0.0 } in
    subst (IsHeader bytes) (ok_is (settings, f.0.1) x f.2) (record {
      text = fixed_is 1 (codes "pbnf-journal 1") bytes a.0 a.1
          ∙ ap (λ (t : List ℕ). codes "pbnf-journal 1" ++ 10 ∷ t) (wish.text_is
          ∙ ap (λ (t : List ℕ). (codes "blocks " ++ decimal b.0.0) ++ 10 ∷ t) (workers.text_is
          ∙ ap (λ (t : List ℕ). (codes "workers " ++ decimal c.0.0) ++ 10 ∷ t) (budget.text_is
          ∙ ap (λ (t : List ℕ). (codes "budget " ++ decimal d.0.0) ++ 10 ∷ t) (lot.text_is
          ∙ ap (λ (t : List ℕ). (codes "lot " ++ decimal e.0.0) ++ 10 ∷ t) plain))))
          ∙ sym (header_parts (codes "pbnf-journal 1") (codes "blocks " ++ decimal b.0.0)
          (codes "workers " ++ decimal c.0.0) (codes "budget " ++ decimal d.0.0)
          (codes "lot " ++ decimal e.0.0) (plain_line f.0.0) f.0.1);
      range = record {
        workers = workers.within;
        weight = record { positive = omega arith; at_least_one = omega arith; small = omega arith };
        budget = budget.within;
        lot = lot.within;
        wish = wish.within;
        pattern = omega arith;
      };
      weight = refl;
      pattern = refl;
    })

-- ---- what is spelled so is read

abbrev read_settings : (workers budget lot wish : ℕ) → (plain : Bool × List ℕ)
    → Result (Settings × List ℕ) Fault
read_settings workers budget lot wish plain =
    Ok (
      record standard {
        workers = workers;
        budget = budget;
        lot = lot;
        wish = wish;
        plain = plain.0;
      },
      plain.1,
    )

line_again : (line : ℕ) (text first rest : List ℕ) → text ≡ first ++ 10 ∷ rest → has_none 10 first
    ≡ true → line_at line text ≡ Ok (first, rest)
line_again line text first rest is none =
    ap (line_at line) is ∙ ap (first_line line (first ++ 10 ∷ rest)) (part_again 10 first rest none)

fixed_again : (line : ℕ) (piece rest : List ℕ) → has_none 10 piece ≡ true
    → fixed_at line piece (piece ++ 10 ∷ rest) ≡ Ok rest
unfolding fixed_at
fixed_again line piece rest none =
    ap (λ r. r >>= λ first. cond (is_text piece first.0) (Ok first.1) (fault_at line Spelling))
    (line_again line (piece ++ 10 ∷ rest) piece rest refl none)
    ∙ ap (λ t. cond t (Ok rest) (fault_at line Spelling)) (text_again piece)

number_line_again : (line : ℕ) (piece : List ℕ) (least most n : ℕ) (rest : List ℕ)
    → has_none 10 piece ≡ true → least ≤ n → n ≤ most → n < 2 ^ 63
    → number_at line piece least most ((piece ++ decimal n) ++ 10 ∷ rest) ≡ Ok (n, rest)
unfolding number_at
number_line_again line piece least most n rest none low high small =
    ap (λ r. r >>= λ first. wanted line (behind piece first.0)
    >>= λ word. wanted line (number_of word)
    >>= λ m. cond (leb least m && leb m most) (Ok (m, first.1)) (fault_at line OutOfRange))
    (line_again line ((piece ++ decimal n) ++ 10 ∷ rest) (piece ++ decimal n) rest refl
    (none_both 10 piece (decimal n) none (number_none 10 n (omega arith) small)))
    ∙ ap (λ o. wanted line o >>= λ word. wanted line (number_of word)
    >>= λ m. cond (leb least m && leb m most) (Ok (m, rest)) (fault_at line OutOfRange))
    (behind_again piece (decimal n))
    ∙ ap (λ o. wanted line o
    >>= λ m. cond (leb least m && leb m most) (Ok (m, rest)) (fault_at line OutOfRange))
    (number_again n small)
    ∙ ap (λ t. cond t (Ok (n, rest)) (fault_at line OutOfRange))
    (both (leb least n) (leb n most) (le-leb least n low) (le-leb n most high))

plain_again : (line : ℕ) (plain : Bool) (rest : List ℕ)
    → plain_at line (plain_line plain ++ 10 ∷ rest) ≡ Ok (plain, rest)
unfolding plain_at plain_in behind
plain_again line true rest =
    ap (λ r. r >>= λ first. plain_in line first.0 >>= λ plain. Ok (plain, first.1))
    (line_again line (plain_line true ++ 10 ∷ rest) (plain_line true) rest refl refl)
plain_again line false rest =
    ap (λ r. r >>= λ first. plain_in line first.0 >>= λ plain. Ok (plain, first.1))
    (line_again line (plain_line false ++ 10 ∷ rest) (plain_line false) rest refl refl)

pub header_again : (settings : Settings) (rest : List ℕ) → AreInRange settings
    → header_of (header_text settings ++ rest) ≡ Ok (settings_with_weight settings one, rest)
unfolding header_of
header_again settings rest range =
    let s = settings in
    let end : List ℕ = plain_line s.plain ++ 10 ∷ rest in
    let lot : List ℕ = (codes "lot " ++ decimal s.lot) ++ 10 ∷ end in
    let budget : List ℕ = (codes "budget " ++ decimal s.budget) ++ 10 ∷ lot in
    let workers : List ℕ = (codes "workers " ++ decimal s.workers) ++ 10 ∷ budget in
    let wish : List ℕ = (codes "blocks " ++ decimal s.wish) ++ 10 ∷ workers in
    ap header_of
    (header_parts (codes "pbnf-journal 1") (codes "blocks " ++ decimal s.wish)
    (codes "workers " ++ decimal s.workers) (codes "budget " ++ decimal s.budget)
    (codes "lot " ++ decimal s.lot) (plain_line s.plain) rest)
    ∙ ap (λ r. r >>= λ text. number_at 2 (codes "blocks ") 16 4096 text
    >>= λ w. number_at 3 (codes "workers ") 1 64 w.1
    >>= λ k. number_at 4 (codes "budget ") 1 (2 ^ 40) k.1
    >>= λ b. number_at 5 (codes "lot ") 1 (2 ^ 20) b.1 >>= λ l. plain_at 6 l.1
    >>= λ p. read_settings k.0 b.0 l.0 w.0 p) (fixed_again 1 (codes "pbnf-journal 1") wish refl)
    ∙ ap (λ r. r >>= λ w. number_at 3 (codes "workers ") 1 64 w.1
    >>= λ k. number_at 4 (codes "budget ") 1 (2 ^ 40) k.1
    >>= λ b. number_at 5 (codes "lot ") 1 (2 ^ 20) b.1 >>= λ l. plain_at 6 l.1
    >>= λ p. read_settings k.0 b.0 l.0 w.0 p)
    (number_line_again 2 (codes "blocks ") 16 4096 s.wish workers refl range.wish.0 range.wish.1
    (let h = range.wish.1 in omega (arith, h)))
    ∙ ap (λ r. r >>= λ k. number_at 4 (codes "budget ") 1 (2 ^ 40) k.1
    >>= λ b. number_at 5 (codes "lot ") 1 (2 ^ 20) b.1 >>= λ l. plain_at 6 l.1
    >>= λ p. read_settings k.0 b.0 l.0 s.wish p)
    (number_line_again 3
    (codes "workers ") 1 64 s.workers budget refl range.workers.0 range.workers.1
    (let h = range.workers.1 in omega (arith, h)))
    ∙ ap (λ r. r >>= λ b. number_at 5 (codes "lot ") 1 (2 ^ 20) b.1 >>= λ l. plain_at 6 l.1
    >>= λ p. read_settings s.workers b.0 l.0 s.wish p)
    (number_line_again 4
    (codes "budget ") 1 (2 ^ 40) s.budget lot refl range.budget.0 range.budget.1
    (let h = range.budget.1 in omega (arith, h)))
    ∙ ap (λ r. r >>= λ l. plain_at 6 l.1 >>= λ p. read_settings s.workers s.budget l.0 s.wish p)
    (number_line_again 5 (codes "lot ") 1 (2 ^ 20) s.lot end refl range.lot.0 range.lot.1
    (let h = range.lot.1 in omega (arith, h)))
    ∙ ap (λ r. r >>= λ p. read_settings s.workers s.budget s.lot s.wish p)
    (plain_again 6 s.plain rest)
