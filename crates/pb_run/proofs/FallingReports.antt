-- The text of claims tells what they say.
use Rattle.std.proofs.Common.{◌≡◌, ◌≢◌, ℕ, suc, ◌^◌, ◌<◌, ◌==◌, false, List, [], ◌∷◌, ◌++◌, length, map, codes, All, sym, ap, subst, ◌∙◌, arith, append_assoc, length-append, lit<}
use Rattle.std.specs.Fmt.{decimal}
use Rattle.std.proofs.lemmas.List.{append_cancel_left, length-map}
use Rattle.std.proofs.lemmas.Fmt.{decimal_injective}
use Rattle.pb_model.specs.Weight.{Weight}
use Rattle.pb_model.specs.Texts.{line, lines, spaced, plan_report, weight_text}
use Rattle.pb_model.proofs.Callers.{by_cases, equal}
use Rattle.pb_answer.proofs.Callers.{IsFree, AreFree, split, decimal_free, lines_tell}
use Rattle.pb_run.specs.FallingHeadline.{PrintedClaim, printed_text, claims_text}
use Rattle.pb_run.specs.FallingLaws.{ClaimsAreToldByTheirText}

-- ---- numbers

-- what stands before a byte that no number has in it, and behind it
number : (byte : ℕ) → byte < 48 → (a b : ℕ) → a < 2 ^ 64 → b < 2 ^ 64 → (xs ys : List ℕ) → decimal a ++ byte ∷ xs ≡ decimal b ++ byte ∷ ys → (a ≡ b) × (xs ≡ ys)
number byte low a b small other_small xs ys e =
    let parts = split byte (decimal a) (decimal b) xs ys (decimal_free byte a low small) (decimal_free byte b low other_small) e in
    (decimal_injective a b small other_small parts.0, parts.1)

-- ---- the lines of a claim

weight_front : (weight : Weight) (rest : List ℕ) → weight_text weight ++ rest ≡ codes "weight " ++ (decimal weight.num ++ 32 ∷ (decimal weight.den ++ 10 ∷ rest))
weight_front weight rest = ap (λ (t : List ℕ). codes "weight " ++ t) (regroup (decimal weight.num) (decimal weight.den))
  where
    regroup : (xs ys : List ℕ) → ((xs ++ 32 ∷ ys) ++ 10 ∷ []) ++ rest ≡ xs ++ 32 ∷ (ys ++ 10 ∷ rest)
    regroup xs ys = append_assoc (xs ++ 32 ∷ ys) (10 ∷ []) rest ∙ append_assoc xs (32 ∷ ys) (10 ∷ rest)

abbrev last_line : (bound : ℕ) → List ℕ
last_line bound = line (spaced (codes "bound") (decimal bound))

plan_front : (steps : List (List ℕ)) (cost bound : ℕ) (rest : List ℕ)
    → plan_report steps cost bound ++ rest ≡ codes "plan " ++ (decimal cost ++ 32 ∷ (decimal (length steps) ++ 10 ∷ (lines steps ++ (last_line bound ++ rest))))
plan_front steps cost bound rest = ap (λ (t : List ℕ). codes "plan " ++ t) (regroup (decimal cost) (decimal (length steps)) (lines steps) (last_line bound))
  where
    regroup : (xs ys more end : List ℕ) → ((((xs ++ 32 ∷ ys) ++ 10 ∷ []) ++ more) ++ end) ++ rest ≡ xs ++ 32 ∷ (ys ++ 10 ∷ (more ++ (end ++ rest)))
    regroup xs ys more end =
        append_assoc (((xs ++ 32 ∷ ys) ++ 10 ∷ []) ++ more) end rest
        ∙ append_assoc ((xs ++ 32 ∷ ys) ++ 10 ∷ []) more (end ++ rest)
        ∙ append_assoc (xs ++ 32 ∷ ys) (10 ∷ []) (more ++ (end ++ rest))
        ∙ append_assoc xs (32 ∷ ys) (10 ∷ (more ++ (end ++ rest)))

bound_front : (bound : ℕ) (rest : List ℕ) → last_line bound ++ rest ≡ codes "bound " ++ (decimal bound ++ 10 ∷ rest)
bound_front bound rest = ap (λ (t : List ℕ). codes "bound " ++ t) (append_assoc (decimal bound) (10 ∷ []) rest)

-- ---- one claim, and what comes after it

pub record Tells (weight other : Weight) (steps others : List (List ℕ)) (cost other_cost bound other_bound : ℕ) (rest more : List ℕ) : Type 0 where
  pub weights : weight ≡ other
  pub costs : cost ≡ other_cost
  pub names : steps ≡ others
  pub bounds : bound ≡ other_bound
  pub after : rest ≡ more

same_weight : (weight other : Weight) → weight.num ≡ other.num → weight.den ≡ other.den → weight ≡ other
same_weight weight other num den = λ i. record { num = num i; den = den i }

module _ (steps others : List (List ℕ)) (free : AreFree 10 steps) (other_free : AreFree 10 others) (few : length steps < 2 ^ 64) (other_few : length others < 2 ^ 64)
    (cost other_cost bound other_bound : ℕ) (small : cost < 2 ^ 64) (other_small : other_cost < 2 ^ 64) (fits : bound < 2 ^ 64) (other_fits : other_bound < 2 ^ 64) where
  plan_tells : (rest more : List ℕ) → plan_report steps cost bound ++ rest ≡ plan_report others other_cost other_bound ++ more
      → (cost ≡ other_cost) × (steps ≡ others) × (bound ≡ other_bound) × (rest ≡ more)
  plan_tells rest more e =
      let costs = number 32 (lit< tt) cost other_cost small other_small _ _
      (append_cancel_left (codes "plan ") _ _ (sym (plan_front steps cost bound rest) ∙ e ∙ plan_front others other_cost other_bound more)) in
      let counts = number 10 (lit< tt) (length steps) (length others) few other_few _ _ costs.1 in
      let names = lines_tell steps others (last_line bound ++ rest) (last_line other_bound ++ more) free other_free counts.0 counts.1 in
      let behind = append_cancel_left (lines others) (last_line bound ++ rest) (last_line other_bound ++ more)
      (subst (λ (xs : List (List ℕ)). lines xs ++ (last_line bound ++ rest) ≡ lines others ++ (last_line other_bound ++ more)) names counts.1) in
      let bounds = number 10 (lit< tt) bound other_bound fits other_fits rest more
      (append_cancel_left (codes "bound ") _ _ (sym (bound_front bound rest) ∙ behind ∙ bound_front other_bound more)) in
      (costs.0, names, bounds.0, bounds.1)

  claim_tells : (weight other : Weight) → weight.num < 2 ^ 64 → other.num < 2 ^ 64 → weight.den < 2 ^ 64 → other.den < 2 ^ 64 → (rest more : List ℕ)
      → (weight_text weight ++ plan_report steps cost bound) ++ rest ≡ (weight_text other ++ plan_report others other_cost other_bound) ++ more
      → Tells weight other steps others cost other_cost bound other_bound rest more
  claim_tells weight other num other_num den other_den rest more e =
      let all = sym (append_assoc (weight_text weight) (plan_report steps cost bound) rest) ∙ e ∙ append_assoc (weight_text other) (plan_report others other_cost other_bound) more in
      let nums = number 32 (lit< tt) weight.num other.num num other_num _ _
      (append_cancel_left (codes "weight ") _ _
      (sym (weight_front weight (plan_report steps cost bound ++ rest)) ∙ all ∙ weight_front other (plan_report others other_cost other_bound ++ more))) in
      let dens = number 10 (lit< tt) weight.den other.den den other_den _ _ nums.1 in
      let plans = plan_tells rest more dens.1 in
      record { weights = same_weight weight other nums.0 dens.0; costs = plans.0; names = plans.1; bounds = plans.2; after = plans.3 }

-- ---- claims

-- a text isn't longer than itself
no_longer : (text behind rest : List ℕ) → 0 < length text → rest ≡ (text ++ behind) ++ rest → ⊥
no_longer text behind rest some e =
    let lengths = ap length e in
    let joined = length-append (text ++ behind) rest in
    let both = length-append text behind in
    omega (arith, lengths, joined, both, some)

some_text : (name : ℕ → List ℕ) (claim : PrintedClaim) → 0 < length (printed_text name claim)
some_text name claim =
    let first = length-append (weight_text claim.weight) (plan_report (map name claim.plan.actions) claim.plan.cost claim.bound) in
    let head = length-append (codes "weight " ++ (decimal claim.weight.num ++ 32 ∷ decimal claim.weight.den)) (10 ∷ []) in
    omega (arith, first, head)

free_of : (text : List ℕ) → All (λ c. c ≢ 10) text → IsFree 10 text
free_of [] h = tt
free_of (c ∷ cs) h = (other c (h 0 c (omega arith)), free_of cs (λ k d less. h (suc k) d (omega arith)))
  where
    other : (n : ℕ) → n ≢ 10 → (n == 10) ≡ false
    other n apart = by_cases (n == 10) (λ e. absurd (apart (equal n 10 e))) (λ e. e)

names_free : (name : ℕ → List ℕ) → ((action : ℕ) → All (λ c. c ≢ 10) (name action)) → (actions : List ℕ) → AreFree 10 (map name actions)
names_free name free [] = tt
names_free name free (action ∷ actions) = (free_of (name action) (free action), names_free name free actions)

count_of : (name : ℕ → List ℕ) (actions : List ℕ) → length actions < 2 ^ 64 → length (map name actions) < 2 ^ 64
count_of name actions few = subst (λ (n : ℕ). n < 2 ^ 64) (sym (length-map actions name)) few

pub claims_are_told_by_their_text : ClaimsAreToldByTheirText
claims_are_told_by_their_text name [] [] rest free small other_small e = tt
claims_are_told_by_their_text name [] (other ∷ others) rest free small other_small e =
    absurd (no_longer (printed_text name other) (claims_text name others) rest (some_text name other) e)
claims_are_told_by_their_text name (claim ∷ claims) [] rest free small other_small e =
    absurd (no_longer (printed_text name claim) (claims_text name claims) rest (some_text name claim) (sym e))
claims_are_told_by_their_text name (claim ∷ claims) (other ∷ others) rest free small other_small e =
    let one = small.0 in
    let two = other_small.0 in
    let tells = claim_tells (map name claim.plan.actions) (map name other.plan.actions) (names_free name free claim.plan.actions) (names_free name free other.plan.actions)
    (count_of name claim.plan.actions one.steps) (count_of name other.plan.actions two.steps) claim.plan.cost other.plan.cost claim.bound other.bound one.cost two.cost one.bound two.bound
    claim.weight other.weight one.num two.num one.den two.den (claims_text name claims ++ rest) (claims_text name others ++ rest)
    (sym (append_assoc (printed_text name claim) (claims_text name claims) rest) ∙ e ∙ append_assoc (printed_text name other) (claims_text name others) rest) in
    (tells.weights, tells.costs, tells.names, tells.bounds, claims_are_told_by_their_text name claims others rest free small.1 other_small.1 tells.after)
