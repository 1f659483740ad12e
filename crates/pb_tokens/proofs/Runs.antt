-- Runs of bytes, as a loop goes over them.
use Rattle.std.proofs.Common.{◌≡◌, ℕ, zero, suc, ◌+◌, ◌<◌, ◌≤◌, Bool, true, false, cond, List, [], ◌∷◌, length, drop, get_or, refl, ap, ◌∙◌, arith, add-one}
use Rattle.std.specs.Prelude.{Option, Some, None}
use Rattle.pb_pddl.specs.Tokens.{gap_next, gap_len, run_len, goes_on_word}

pub drop_step : (xs : List ℕ) (i : ℕ) → i < length xs → drop i xs ≡ get_or xs i 0 ∷ drop (i + 1) xs
drop_step [] i lt = absurd (omega arith)
drop_step (x ∷ xs) zero lt = refl
drop_step (x ∷ xs) (suc i) lt = rw add-one (rw add-one at (drop_step xs i (omega arith)))

pub drop_past : (xs : List ℕ) (i : ℕ) → length xs ≤ i → drop i xs ≡ []
drop_past [] zero le = refl
drop_past [] (suc i) le = refl
drop_past (x ∷ xs) zero le = absurd (omega arith)
drop_past (x ∷ xs) (suc i) le = drop_past xs i (omega arith)

gap_cons : (comment next : Bool) (b : ℕ) (bs : List ℕ) → gap_next comment b ≡ Some next → gap_len comment (b ∷ bs) ≡ suc (gap_len next bs)
unfolding gap_len
gap_cons comment next b bs e = ap (λ (o : Option Bool). elim o as (λ _. ℕ) [ None ↦ 0 | Some n ↦ suc (gap_len n bs) ]) e

gap_stop : (comment : Bool) (b : ℕ) (bs : List ℕ) → gap_next comment b ≡ None → gap_len comment (b ∷ bs) ≡ 0
unfolding gap_len
gap_stop comment b bs e = ap (λ (o : Option Bool). elim o as (λ _. ℕ) [ None ↦ 0 | Some n ↦ suc (gap_len n bs) ]) e

gap_none : (comment : Bool) → gap_len comment [] ≡ 0
unfolding gap_len
gap_none comment = refl

pub gap_at_end : (comment : Bool) (bytes : List ℕ) (i : ℕ) → length bytes ≤ i → gap_len comment (drop i bytes) ≡ 0
gap_at_end comment bytes i le = ap (gap_len comment) (drop_past bytes i le) ∙ gap_none comment

pub gap_goes_on : (comment next : Bool) (bytes : List ℕ) (i : ℕ) → i < length bytes → gap_next comment (get_or bytes i 0) ≡ Some next
    → gap_len comment (drop i bytes) ≡ suc (gap_len next (drop (i + 1) bytes))
gap_goes_on comment next bytes i lt e = ap (gap_len comment) (drop_step bytes i lt) ∙ gap_cons comment next (get_or bytes i 0) (drop (i + 1) bytes) e

pub gap_ends : (comment : Bool) (bytes : List ℕ) (i : ℕ) → i < length bytes → gap_next comment (get_or bytes i 0) ≡ None → gap_len comment (drop i bytes) ≡ 0
gap_ends comment bytes i lt e = ap (gap_len comment) (drop_step bytes i lt) ∙ gap_stop comment (get_or bytes i 0) (drop (i + 1) bytes) e

run_cons : (b : ℕ) (bs : List ℕ) → goes_on_word b ≡ true → run_len (b ∷ bs) ≡ suc (run_len bs)
unfolding run_len
run_cons b bs e = ap (λ (t : Bool). cond t (suc (run_len bs)) 0) e

run_stop : (b : ℕ) (bs : List ℕ) → goes_on_word b ≡ false → run_len (b ∷ bs) ≡ 0
unfolding run_len
run_stop b bs e = ap (λ (t : Bool). cond t (suc (run_len bs)) 0) e

run_none : run_len [] ≡ 0
unfolding run_len
run_none = refl

pub run_at_end : (bytes : List ℕ) (i : ℕ) → length bytes ≤ i → run_len (drop i bytes) ≡ 0
run_at_end bytes i le = ap run_len (drop_past bytes i le) ∙ run_none

pub run_goes_on : (bytes : List ℕ) (i : ℕ) → i < length bytes → goes_on_word (get_or bytes i 0) ≡ true → run_len (drop i bytes) ≡ suc (run_len (drop (i + 1) bytes))
run_goes_on bytes i lt e = ap run_len (drop_step bytes i lt) ∙ run_cons (get_or bytes i 0) (drop (i + 1) bytes) e

pub run_ends : (bytes : List ℕ) (i : ℕ) → i < length bytes → goes_on_word (get_or bytes i 0) ≡ false → run_len (drop i bytes) ≡ 0
run_ends bytes i lt e = ap run_len (drop_step bytes i lt) ∙ run_stop (get_or bytes i 0) (drop (i + 1) bytes) e
