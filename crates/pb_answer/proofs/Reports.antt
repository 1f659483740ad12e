-- The text of a report tells what it is made of.
use Rattle.std.proofs.Common.{◌≡◌, ℕ, ◌+◌, ◌%◌, ◌^◌, ◌<◌, ◌==◌, false, List, [], ◌∷◌, ◌++◌, length, codes, refl, sym, ap, ◌∙◌, arith, true≢false, append_assoc, lit<}
use Rattle.std.proofs.lemmas.List.{append_cancel_left}
use Rattle.std.specs.List.{AllByRecursion}
use Rattle.std.specs.Fmt.{decimal}
use Rattle.std.proofs.lemmas.Fmt.{decimal_by_steps, decimal_injective}
use Rattle.std.proofs.lemmas.Bool.Decides.{nat_tests}
use Rattle.pb_model.specs.Texts.{line, lines, spaced, plan_report}
use Rattle.pb_model.proofs.Callers.{equal_self}

-- the byte does not stand in the text
abbrev pub IsFree : (byte : ℕ) → List ℕ → Type 0
IsFree byte text = AllByRecursion (λ b. (b == byte) ≡ false) text

free_append : (byte : ℕ) (xs ys : List ℕ) → IsFree byte xs → IsFree byte ys → IsFree byte (xs ++ ys)
free_append byte [] ys h k = k
free_append byte (x ∷ xs) ys h k = (h.0, free_append byte xs ys h.1 k)

-- what stands before the first such byte, and behind it
pub split : (byte : ℕ) (xs ys rest others : List ℕ) → IsFree byte xs → IsFree byte ys → xs ++ byte ∷ rest ≡ ys ++ byte ∷ others → (xs ≡ ys) × (rest ≡ others)
split byte [] [] rest others h k e = (refl, tail rest others e)
  where
    tail : (rest others : List ℕ) → byte ∷ rest ≡ byte ∷ others → rest ≡ others
    tail rest others e = cc
split byte [] (y ∷ ys) rest others h k e = absurd (true≢false (sym (ap (λ b. b == byte) (first y ys e) ∙ equal_self byte) ∙ k.0))
  where
    first : (y : ℕ) (ys : List ℕ) → byte ∷ rest ≡ y ∷ (ys ++ byte ∷ others) → y ≡ byte
    first y ys e = cc
split byte (x ∷ xs) [] rest others h k e = absurd (true≢false (sym (ap (λ b. b == byte) (first x xs e) ∙ equal_self byte) ∙ h.0))
  where
    first : (x : ℕ) (xs : List ℕ) → x ∷ (xs ++ byte ∷ rest) ≡ byte ∷ others → x ≡ byte
    first x xs e = cc
split byte (x ∷ xs) (y ∷ ys) rest others h k e = go (parts x y xs ys e) (λ f. split byte xs ys rest others h.1 k.1 f)
  where
    parts : (x y : ℕ) (xs ys : List ℕ) → x ∷ (xs ++ byte ∷ rest) ≡ y ∷ (ys ++ byte ∷ others) → (x ≡ y) × (xs ++ byte ∷ rest ≡ ys ++ byte ∷ others)
    parts x y xs ys e = (cc, cc)

    go : ((x ≡ y) × (xs ++ byte ∷ rest ≡ ys ++ byte ∷ others)) → ((xs ++ byte ∷ rest ≡ ys ++ byte ∷ others) → (xs ≡ ys) × (rest ≡ others)) → (x ∷ xs ≡ y ∷ ys) × (rest ≡ others)
    go both more = let s = more both.1 in ((λ i. both.0 i ∷ s.0 i), s.1)

-- ---- numbers

digit_is_not : (byte digit : ℕ) → digit < 10 → byte < 48 → ((48 + digit) == byte) ≡ false
digit_is_not byte digit small low = grind (arith, nat_tests)

-- a number in decimal digits has neither a space nor a line feed
pub decimal_free : (byte n : ℕ) → byte < 48 → n < 2 ^ 64 → IsFree byte (decimal n)
decimal_free byte n low small =
    decimal_by_steps (λ (n : ℕ) (ds : List ℕ). IsFree byte ds)
    (λ n one. (digit_is_not byte n one low, tt))
    (λ n ds ten before. free_append byte ds ((48 + n % 10) ∷ []) before (digit_is_not byte (n % 10) (omega arith) low, tt))
    n small

-- ---- lines

abbrev pub AreFree : (byte : ℕ) → List (List ℕ) → Type 0
AreFree byte texts = AllByRecursion (IsFree byte) texts

-- as many first lines of a text, where none has a line feed in it
pub lines_tell : (xs ys : List (List ℕ)) (rest others : List ℕ) → AreFree 10 xs → AreFree 10 ys → length xs ≡ length ys → lines xs ++ rest ≡ lines ys ++ others → xs ≡ ys
lines_tell [] [] rest others h k same e = refl
lines_tell [] (y ∷ ys) rest others h k same e = absurd (omega (arith, same))
lines_tell (x ∷ xs) [] rest others h k same e = absurd (omega (arith, same))
lines_tell (x ∷ xs) (y ∷ ys) rest others h k same e =
    go (split 10 x y (lines xs ++ rest) (lines ys ++ others) h.0 k.0 (seam x (lines xs) rest ∙ e ∙ sym (seam y (lines ys) others)))
    (λ f. lines_tell xs ys rest others h.1 k.1 (omega (arith, same)) f)
  where
    seam : (x more rest : List ℕ) → x ++ 10 ∷ (more ++ rest) ≡ ((x ++ 10 ∷ []) ++ more) ++ rest
    seam x more rest = sym (append_assoc x (10 ∷ []) (more ++ rest)) ∙ sym (append_assoc (x ++ 10 ∷ []) more rest)

    go : ((x ≡ y) × (lines xs ++ rest ≡ lines ys ++ others)) → (lines xs ++ rest ≡ lines ys ++ others → xs ≡ ys) → x ∷ xs ≡ y ∷ ys
    go both more = let s = more both.1 in λ i. both.0 i ∷ s i

-- ---- the report of a plan

abbrev last_line : (bound : ℕ) → List ℕ
last_line bound = line (spaced (codes "bound") (decimal bound))

-- the report as the words of its first line and what follows
front : (steps : List (List ℕ)) (cost bound : ℕ)
    → plan_report steps cost bound ≡ codes "plan " ++ (decimal cost ++ 32 ∷ (decimal (length steps) ++ 10 ∷ (lines steps ++ last_line bound)))
front steps cost bound = ap (λ t. codes "plan " ++ t) (regroup (decimal cost) (decimal (length steps)) (lines steps) (last_line bound))
  where
    regroup : (xs ys more rest : List ℕ) → (((xs ++ 32 ∷ ys) ++ 10 ∷ []) ++ more) ++ rest ≡ xs ++ 32 ∷ (ys ++ 10 ∷ (more ++ rest))
    regroup xs ys more rest =
        append_assoc ((xs ++ 32 ∷ ys) ++ 10 ∷ []) more rest ∙ append_assoc (xs ++ 32 ∷ ys) (10 ∷ []) (more ++ rest) ∙ append_assoc xs (32 ∷ ys) (10 ∷ (more ++ rest))

-- two reports with one text have one cost, and what follows it is one
parts : (steps others : List (List ℕ)) (cost bound other_cost other_bound : ℕ) → cost < 2 ^ 64 → other_cost < 2 ^ 64
    → plan_report steps cost bound ≡ plan_report others other_cost other_bound
    → (decimal cost ≡ decimal other_cost)
    × (decimal (length steps) ++ 10 ∷ (lines steps ++ last_line bound) ≡ decimal (length others) ++ 10 ∷ (lines others ++ last_line other_bound))
parts steps others cost bound other_cost other_bound small other_small e =
    split 32 (decimal cost) (decimal other_cost) _ _ (decimal_free 32 cost (lit< tt) small) (decimal_free 32 other_cost (lit< tt) other_small)
    (append_cancel_left (codes "plan ") _ _ (sym (front steps cost bound) ∙ e ∙ front others other_cost other_bound))

-- the report tells the cost
pub report_tells_cost : (steps others : List (List ℕ)) (cost bound other_cost other_bound : ℕ) → cost < 2 ^ 64 → other_cost < 2 ^ 64
    → plan_report steps cost bound ≡ plan_report others other_cost other_bound → cost ≡ other_cost
report_tells_cost steps others cost bound other_cost other_bound small other_small e =
    decimal_injective cost other_cost small other_small (parts steps others cost bound other_cost other_bound small other_small e).0

-- the report tells the steps
pub report_tells_steps : (steps others : List (List ℕ)) (cost bound other_cost other_bound : ℕ) → cost < 2 ^ 64 → other_cost < 2 ^ 64
    → length steps < 2 ^ 64 → length others < 2 ^ 64 → AreFree 10 steps → AreFree 10 others
    → plan_report steps cost bound ≡ plan_report others other_cost other_bound → steps ≡ others
report_tells_steps steps others cost bound other_cost other_bound small other_small few other_few h k e =
    let rest = (parts steps others cost bound other_cost other_bound small other_small e).1 in
    let counts = split 10 (decimal (length steps)) (decimal (length others)) (lines steps ++ last_line bound) (lines others ++ last_line other_bound)
    (decimal_free 10 (length steps) (lit< tt) few) (decimal_free 10 (length others) (lit< tt) other_few) rest in
    lines_tell steps others (last_line bound) (last_line other_bound) h k (decimal_injective (length steps) (length others) few other_few counts.0) counts.1
