-- Each step keeps the rule of the second example.
use Rattle.std.proofs.Common.{◌≡◌, ◌≢◌, ℕ, zero, suc, ◌≤◌, min, List, [], ◌∷◌, ◌++◌, set, Option, Some, None, refl, sym, ap, ◌∙◌, subst, arith}
use Rattle.std.proofs.Math.Nat.{min-le_left, min-le_right}
use mathlib.Core.Option.{some, some-injective, some-ne-none}
use lib.ListN.{get_elem?}
use Rattle.pb_test_search.specs.Lowering.{IsAtMost, brought}
use Rattle.pb_turn.proofs.Callers.{Some_same, each_set, each_snoc}

-- what a view says of the number
abbrev Says : ℕ → Option ℕ → Type 0
Says number view = (last : ℕ) → view ≡ Some last → number ≤ last

says_number : (number : ℕ) → Says number (Some number)
says_number number last e = let is = Some_same number last e in omega (arith, is)

says_none : (number : ℕ) → Says number None
says_none number last e = absurd cc

falls : (number lower : ℕ) (view : Option ℕ) → lower ≤ number → Says number view → Says lower view
falls number lower view less says last e = let k = says last e in omega (arith, less, k)

says_least : (number k : ℕ) (view : Option ℕ) → Says number view → Says (min number k) (brought view k)
says_least number k None says last e = let is = Some_same k last e in let r = min-le_right number k in omega (arith, is, r)
says_least number k (Some v) says last e =
    let is = Some_same (min v k) last e in let s = says v refl in go number k v last is s
  where
    go : (number k v last : ℕ) → min v k ≡ last → number ≤ v → min number k ≤ last
    go number k v last is s = omega (arith, is, s)

each_says : (number : ℕ) (views : List (Option ℕ)) → IsAtMost number views → (pass : ℕ) (view : Option ℕ) → get_elem? views pass ≡ some view → Says number view
each_says number views h pass view at last e = h pass last (at ∙ ap some e)

says_each : (number : ℕ) (views : List (Option ℕ)) → ((pass : ℕ) (view : Option ℕ) → get_elem? views pass ≡ some view → Says number view) → IsAtMost number views
says_each number views says pass last at = says pass (Some last) at last refl

pub opens : (number : ℕ) → IsAtMost number (Some number ∷ [])
opens number zero last e = let is = Some_same number last (some-injective (Some number) (Some last) e) in omega (arith, is)
opens number (suc pass) last e = absurd (some-ne-none (Some last) (sym e))

-- the number stays or falls, and one view becomes another
step_keeps : (number lower pass : ℕ) (view : Option ℕ) (views : List (Option ℕ)) → lower ≤ number → Says lower view → IsAtMost number views → IsAtMost lower (set views pass view)
step_keeps number lower pass view views less says h = says_each lower (set views pass view)
    (each_set (λ j v. Says lower v) views pass view says (λ j v apart e. falls number lower v less (each_says number views h j v e)))

pub read_keeps : (number pass : ℕ) (views : List (Option ℕ)) → IsAtMost number views → IsAtMost number (set views pass (Some number))
read_keeps number pass views h = step_keeps number number pass (Some number) views (omega arith) (says_number number) h

pub lower_keeps : (number k pass : ℕ) (view : Option ℕ) (views : List (Option ℕ)) → IsAtMost number views → get_elem? views pass ≡ some view → IsAtMost (min number k) (set views pass (brought view k))
lower_keeps number k pass view views h at = step_keeps number (min number k) pass (brought view k) views (min-le_left number k) (says_least number k view (each_says number views h pass view at)) h

pub stay_keeps : (number pass : ℕ) (view : Option ℕ) (views : List (Option ℕ)) → IsAtMost number views → get_elem? views pass ≡ some view → IsAtMost number (set views pass view)
stay_keeps number pass view views h at = step_keeps number number pass view views (omega arith) (each_says number views h pass view at) h

pub split_keeps : (number pass : ℕ) (view : Option ℕ) (views : List (Option ℕ)) → IsAtMost number views → get_elem? views pass ≡ some view → IsAtMost number (set views pass view ++ view ∷ [])
split_keeps number pass view views h at =
    let mine = each_says number views h pass view at in
    let rest = step_keeps number number pass view views (omega arith) mine h in
    says_each number (set views pass view ++ view ∷ []) (each_snoc (λ j v. Says number v) (set views pass view) view (λ j. mine) (each_says number (set views pass view) rest))

pub meet_keeps : (number pass : ℕ) (view : Option ℕ) (other : ℕ) (views : List (Option ℕ)) → IsAtMost number views → get_elem? views pass ≡ some view → IsAtMost number (set (set views pass view) other None)
meet_keeps number pass view other views h at = step_keeps number number other None (set views pass view) (omega arith) (says_none number) (stay_keeps number pass view views h at)
