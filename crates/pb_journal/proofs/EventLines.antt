-- The line of an event: what is read of it, and that it is read again.
use Rattle.std.proofs.Common.{◌≡◌, ℕ, ◌^◌, ◌<◌, Bool, true, false, cond, List, ◌∷◌, ◌++◌, Result, Ok, refl, sym, ap, ◌∙◌, subst, arith}
use Rattle.std.specs.Prelude.{codes}
use Rattle.std.specs.Fmt.{decimal}
use Rattle.pb_machine.specs.declared.event.End.{End}
use Rattle.pb_machine.specs.declared.event.End.TheVariants.{Quiet, Budget, Memory}
use Rattle.pb_machine.specs.declared.event.Event.{Event}
use Rattle.pb_machine.specs.declared.event.Event.TheVariants.{Lease, Renew, Hot, Cold, Release, Off, Ended}
use Rattle.pb_journal.specs.declared.error.Fault.{Fault}
use Rattle.pb_journal.specs.declared.error.Why.TheVariants.{Spelling}
use Rattle.pb_journal.specs.Faults.{◌>>=◌, fault_at, wanted}
use Rattle.pb_lines.specs.Words.{part, behind, is_text, number_of, has_none}
use Rattle.pb_journal.specs.Texts.{report_word, event_line, Fits, IsSpelled}
use Rattle.pb_journal.specs.Reading.{number_before, report_in, lease_in, renewal_in, hot_in, cold_in, release_in, off_in, end_in, event_in}
use Rattle.pb_lines.proofs.Callers.{number_is, number_again, number_none, part_is, text_is, part_again, none_both}
use Rattle.pb_journal.proofs.Chains.{bind_ok, ok_is, wanted_ok, by_word_ok}

-- ---- what is read is spelled so

module _ (line : ℕ) where
  before_is : (words : List ℕ) (x : ℕ × List ℕ) → number_before line words ≡ Ok x
      → (words ≡ decimal x.0 ++ 32 ∷ x.1) × (x.0 < 2 ^ 63)
  unfolding number_before
  before_is words x e =
      let a = bind_ok (wanted line (part 32 words)) _ x e in
      let b = bind_ok (wanted line (number_of a.0.0)) _ x a.2 in
      let n = number_is a.0.0 b.0 (wanted_ok line (number_of a.0.0) b.0 b.1) in
      let whole : words ≡ decimal b.0 ++ 32 ∷ a.0.1 =
      part_is 32 words a.0.0 a.0.1 (wanted_ok line (part 32 words) a.0 a.1)
      ∙ ap (λ (w : List ℕ). w ++ 32 ∷ a.0.1) n.0 in
      subst (λ (y : ℕ × List ℕ). (words ≡ decimal y.0 ++ 32 ∷ y.1) × (y.0 < 2 ^ 63))
      (ok_is (b.0, a.0.1) x b.2) (whole, n.1)

  last_is : (word : List ℕ) (n : ℕ) → wanted line (number_of word) ≡ Ok n → (word ≡ decimal n)
      × (n < 2 ^ 63)
  last_is word n e = number_is word n (wanted_ok line (number_of word) n e)

  report_is : (word : List ℕ) (memory : Bool) → report_in line word ≡ Ok memory → word
      ≡ report_word memory
  unfolding report_in
  report_is word memory e =
      go (is_text (codes "ok") word) (is_text (codes "memory") word) refl refl e
    where
      go : (a b : Bool) → is_text (codes "ok") word ≡ a → is_text (codes "memory") word ≡ b
          → cond a (Ok false) (cond b (Ok true) (fault_at line Spelling)) ≡ Ok memory → word
          ≡ report_word memory
      go true b x y e = text_is (codes "ok") word x ∙ ap report_word (ok_is false memory e)
      go false true x y e = text_is (codes "memory") word y ∙ ap report_word (ok_is true memory e)
      go false false x y e = absurd cc

  lease_is : (words : List ℕ) (e : Event) → lease_in line words ≡ Ok e
      → IsSpelled (codes "lease " ++ words) e
  unfolding lease_in
  lease_is words e is =
      let a = bind_ok (number_before line words) _ e is in
      let b = bind_ok (number_before line a.0.1) _ e a.2 in
      let c = bind_ok (wanted line (number_of b.0.1)) _ e b.2 in
      let worker = before_is words a.0 a.1 in
      let block = before_is a.0.1 b.0 b.1 in
      let quota = last_is b.0.1 c.0 c.1 in
      subst (IsSpelled (codes "lease " ++ words)) (ok_is (Lease a.0.0 b.0.0 c.0) e c.2) (record {
        text = ap (λ (w : List ℕ). codes "lease " ++ w)
            (worker.0
            ∙ ap (λ (w : List ℕ). decimal a.0.0 ++ 32 ∷ w)
            (block.0 ∙ ap (λ (w : List ℕ). decimal b.0.0 ++ 32 ∷ w) quota.0));
        fits = (worker.1, block.1, quota.1);
      })

  renewal_is : (words : List ℕ) (e : Event) → renewal_in line words ≡ Ok e
      → IsSpelled (codes "renew " ++ words) e
  unfolding renewal_in
  renewal_is words e is =
      let a = bind_ok (number_before line words) _ e is in
      let b = bind_ok (number_before line a.0.1) _ e a.2 in
      let c = bind_ok (wanted line (number_of b.0.1)) _ e b.2 in
      let worker = before_is words a.0 a.1 in
      let used = before_is a.0.1 b.0 b.1 in
      let quota = last_is b.0.1 c.0 c.1 in
      subst (IsSpelled (codes "renew " ++ words)) (ok_is (Renew a.0.0 b.0.0 c.0) e c.2) (record {
        text = ap (λ (w : List ℕ). codes "renew " ++ w)
            (worker.0
            ∙ ap (λ (w : List ℕ). decimal a.0.0 ++ 32 ∷ w)
            (used.0 ∙ ap (λ (w : List ℕ). decimal b.0.0 ++ 32 ∷ w) quota.0));
        fits = (worker.1, used.1, quota.1);
      })

  hot_is : (words : List ℕ) (e : Event) → hot_in line words ≡ Ok e
      → IsSpelled (codes "hot " ++ words) e
  unfolding hot_in
  hot_is words e is =
      let a = bind_ok (number_before line words) _ e is in
      let b = bind_ok (wanted line (number_of a.0.1)) _ e a.2 in
      let worker = before_is words a.0 a.1 in
      let block = last_is a.0.1 b.0 b.1 in
      subst (IsSpelled (codes "hot " ++ words)) (ok_is (Hot a.0.0 b.0) e b.2) (record {
        text = ap (λ (w : List ℕ). codes "hot " ++ w)
            (worker.0 ∙ ap (λ (w : List ℕ). decimal a.0.0 ++ 32 ∷ w) block.0);
        fits = (worker.1, block.1);
      })

  cold_is : (words : List ℕ) (e : Event) → cold_in line words ≡ Ok e
      → IsSpelled (codes "cold " ++ words) e
  unfolding cold_in
  cold_is words e is =
      let a = bind_ok (number_before line words) _ e is in
      let b = bind_ok (wanted line (number_of a.0.1)) _ e a.2 in
      let worker = before_is words a.0 a.1 in
      let block = last_is a.0.1 b.0 b.1 in
      subst (IsSpelled (codes "cold " ++ words)) (ok_is (Cold a.0.0 b.0) e b.2) (record {
        text = ap (λ (w : List ℕ). codes "cold " ++ w)
            (worker.0 ∙ ap (λ (w : List ℕ). decimal a.0.0 ++ 32 ∷ w) block.0);
        fits = (worker.1, block.1);
      })

  release_is : (words : List ℕ) (e : Event) → release_in line words ≡ Ok e
      → IsSpelled (codes "release " ++ words) e
  unfolding release_in
  release_is words e is =
      let a = bind_ok (number_before line words) _ e is in
      let b = bind_ok (number_before line a.0.1) _ e a.2 in
      let c = bind_ok (report_in line b.0.1) _ e b.2 in
      let worker = before_is words a.0 a.1 in
      let used = before_is a.0.1 b.0 b.1 in
      subst (IsSpelled (codes "release " ++ words)) (ok_is (Release a.0.0 b.0.0 c.0) e c.2)
      (record {
        text = ap (λ (w : List ℕ). codes "release " ++ w)
            (worker.0
            ∙ ap (λ (w : List ℕ). decimal a.0.0 ++ 32 ∷ w)
            (used.0 ∙ ap (λ (w : List ℕ). decimal b.0.0 ++ 32 ∷ w) (report_is b.0.1 c.0 c.1)));
        fits = (worker.1, used.1);
      })

  off_is : (words : List ℕ) (e : Event) → off_in line words ≡ Ok e
      → IsSpelled (codes "off " ++ words) e
  unfolding off_in
  off_is words e is =
      let a = bind_ok (number_before line words) _ e is in
      let b = bind_ok (report_in line a.0.1) _ e a.2 in
      let worker = before_is words a.0 a.1 in
      subst (IsSpelled (codes "off " ++ words)) (ok_is (Off a.0.0 b.0) e b.2) (record {
        text = ap (λ (w : List ℕ). codes "off " ++ w)
            (worker.0 ∙ ap (λ (w : List ℕ). decimal a.0.0 ++ 32 ∷ w) (report_is a.0.1 b.0 b.1));
        fits = worker.1;
      })

  end_is : (text : List ℕ) (e : Event) → end_in line text ≡ Ok e → IsSpelled text e
  unfolding end_in
  end_is text e is =
      go (is_text (codes "end quiet") text) (is_text (codes "end budget") text)
      (is_text (codes "end memory") text) refl refl refl is
    where
      ended : (end : End) (piece : List ℕ) → piece ≡ event_line (Ended end) → is_text piece text
          ≡ true → ◌≡◌ {A = Result Event Fault} (Ok (Ended end)) (Ok e) → IsSpelled text e
      ended end piece name x is =
          subst (IsSpelled text) (ok_is (Ended end) e is)
          (record { text = text_is piece text x ∙ name; fits = tt })

      go : (a b c : Bool) → is_text (codes "end quiet") text ≡ a
          → is_text (codes "end budget") text ≡ b → is_text (codes "end memory") text ≡ c
          → cond a (Ok (Ended Quiet))
          (cond b (Ok (Ended Budget)) (cond c (Ok (Ended Memory)) (fault_at line Spelling)))
          ≡ Ok e → IsSpelled text e
      go true b c x y z is = ended Quiet (codes "end quiet") refl x is
      go false true c x y z is = ended Budget (codes "end budget") refl y is
      go false false true x y z is = ended Memory (codes "end memory") refl z is
      go false false false x y z is = absurd cc

  moved : (text other : List ℕ) (e : Event) → text ≡ other → IsSpelled other e → IsSpelled text e
  moved text other e is spelled = subst (λ (t : List ℕ). IsSpelled t e) (sym is) spelled

  pub event_spelled : (text : List ℕ) (e : Event) → event_in line text ≡ Ok e → IsSpelled text e
  unfolding event_in
  event_spelled text e is =
      by_word_ok (codes "lease ") text (lease_in line) _ e is
      (λ words at read. moved text (codes "lease " ++ words) e at (lease_is words e read))
      (λ is.
      by_word_ok (codes "renew ") text (renewal_in line) _ e is
      (λ words at read. moved text (codes "renew " ++ words) e at (renewal_is words e read))
      (λ is.
      by_word_ok (codes "hot ") text (hot_in line) _ e is
      (λ words at read. moved text (codes "hot " ++ words) e at (hot_is words e read)) (λ is.
      by_word_ok (codes "cold ") text (cold_in line) _ e is
      (λ words at read. moved text (codes "cold " ++ words) e at (cold_is words e read)) (λ is.
      by_word_ok (codes "release ") text (release_in line) _ e is
      (λ words at read. moved text (codes "release " ++ words) e at (release_is words e read))
      (λ is.
      by_word_ok (codes "off ") text (off_in line) _ e is
      (λ words at read. moved text (codes "off " ++ words) e at (off_is words e read)) (λ is.
      end_is text e is))))))

-- ---- what is spelled so is read

module _ (line : ℕ) where
  before_again : (n : ℕ) (rest : List ℕ) → n < 2 ^ 63 → number_before line (decimal n ++ 32 ∷ rest)
      ≡ Ok (n, rest)
  unfolding number_before
  before_again n rest small =
      ap (λ o. wanted line o >>= λ parts. wanted line (number_of parts.0) >>= λ m. Ok (m, parts.1))
      (part_again 32 (decimal n) rest (number_none 32 n (omega arith) small))
      ∙ ap (λ o. wanted line o >>= λ m. Ok (m, rest)) (number_again n small)

  last_again : (n : ℕ) → n < 2 ^ 63 → wanted line (number_of (decimal n)) ≡ Ok n
  last_again n small = ap (wanted line) (number_again n small)

  report_again : (memory : Bool) → report_in line (report_word memory) ≡ Ok memory
  unfolding report_in behind
  report_again true = refl
  report_again false = refl

  pub event_again : (e : Event) → Fits e → event_in line (event_line e) ≡ Ok e
  unfolding event_in behind lease_in renewal_in hot_in cold_in release_in off_in end_in
  event_again (Lease worker block quota) fits =
      ap (λ r. r >>= λ a. number_before line a.1 >>= λ b. wanted line (number_of b.1)
      >>= λ q. Ok (Lease a.0 b.0 q))
      (before_again worker (decimal block ++ 32 ∷ decimal quota) fits.0)
      ∙ ap (λ r. r >>= λ b. wanted line (number_of b.1) >>= λ q. Ok (Lease worker b.0 q))
      (before_again block (decimal quota) fits.1)
      ∙ ap (λ r. r >>= λ q. Ok (Lease worker block q)) (last_again quota fits.2)
  event_again (Renew worker used quota) fits =
      ap (λ r. r >>= λ a. number_before line a.1 >>= λ b. wanted line (number_of b.1)
      >>= λ q. Ok (Renew a.0 b.0 q))
      (before_again worker (decimal used ++ 32 ∷ decimal quota) fits.0)
      ∙ ap (λ r. r >>= λ b. wanted line (number_of b.1) >>= λ q. Ok (Renew worker b.0 q))
      (before_again used (decimal quota) fits.1)
      ∙ ap (λ r. r >>= λ q. Ok (Renew worker used q)) (last_again quota fits.2)
  event_again (Hot worker block) fits =
      ap (λ r. r >>= λ a. wanted line (number_of a.1) >>= λ b. Ok (Hot a.0 b))
      (before_again worker (decimal block) fits.0)
      ∙ ap (λ r. r >>= λ b. Ok (Hot worker b)) (last_again block fits.1)
  event_again (Cold worker block) fits =
      ap (λ r. r >>= λ a. wanted line (number_of a.1) >>= λ b. Ok (Cold a.0 b))
      (before_again worker (decimal block) fits.0)
      ∙ ap (λ r. r >>= λ b. Ok (Cold worker b)) (last_again block fits.1)
  event_again (Release worker used memory) fits =
      ap (λ r. r >>= λ a. number_before line a.1 >>= λ b. report_in line b.1
      >>= λ m. Ok (Release a.0 b.0 m))
      (before_again worker (decimal used ++ 32 ∷ report_word memory) fits.0)
      ∙ ap (λ r. r >>= λ b. report_in line b.1 >>= λ m. Ok (Release worker b.0 m))
      (before_again used (report_word memory) fits.1)
      ∙ ap (λ r. r >>= λ m. Ok (Release worker used m)) (report_again memory)
  event_again (Off worker memory) fits =
      ap (λ r. r >>= λ a. report_in line a.1 >>= λ m. Ok (Off a.0 m))
      (before_again worker (report_word memory) fits)
      ∙ ap (λ r. r >>= λ m. Ok (Off worker m)) (report_again memory)
  event_again (Ended Quiet) fits = refl
  event_again (Ended Budget) fits = refl
  event_again (Ended Memory) fits = refl

-- ---- no end of a line stands in one

spaced_none : (first rest : List ℕ) → has_none 10 first ≡ true → has_none 10 rest ≡ true
    → has_none 10 (first ++ 32 ∷ rest) ≡ true
spaced_none first rest a b = none_both 10 first (32 ∷ rest) a b

report_none : (memory : Bool) → has_none 10 (report_word memory) ≡ true
report_none true = refl
report_none false = refl

numeral_none : (n : ℕ) → n < 2 ^ 63 → has_none 10 (decimal n) ≡ true
numeral_none n small = number_none 10 n (omega arith) small

pub event_none : (e : Event) → Fits e → has_none 10 (event_line e) ≡ true
event_none (Lease worker block quota) fits =
    spaced_none (decimal worker) (decimal block ++ 32 ∷ decimal quota) (numeral_none worker fits.0)
    (spaced_none (decimal block) (decimal quota) (numeral_none block fits.1)
    (numeral_none quota fits.2))
event_none (Renew worker used quota) fits =
    spaced_none (decimal worker) (decimal used ++ 32 ∷ decimal quota) (numeral_none worker fits.0)
    (spaced_none (decimal used) (decimal quota) (numeral_none used fits.1)
    (numeral_none quota fits.2))
event_none (Hot worker block) fits =
    spaced_none (decimal worker) (decimal block) (numeral_none worker fits.0)
    (numeral_none block fits.1)
event_none (Cold worker block) fits =
    spaced_none (decimal worker) (decimal block) (numeral_none worker fits.0)
    (numeral_none block fits.1)
event_none (Release worker used memory) fits =
    spaced_none (decimal worker) (decimal used ++ 32 ∷ report_word memory)
    (numeral_none worker fits.0)
    (spaced_none (decimal used) (report_word memory) (numeral_none used fits.1)
    (report_none memory))
event_none (Off worker memory) fits =
    spaced_none (decimal worker) (report_word memory) (numeral_none worker fits)
    (report_none memory)
event_none (Ended Quiet) fits = refl
event_none (Ended Budget) fits = refl
event_none (Ended Memory) fits = refl
