use Rattle.std.proofs.Common.{◌≡◌, ℕ, zero, suc, List, [], ◌∷◌, set, sym, ap, subst}
use mathlib.Core.Option.{some, some-injective, some-ne-none}
use lib.ListN.{get_elem?}
use Rattle.pb_turn.specs.Passes.{view, state}
use Rattle.pb_lease.specs.GraphValue.{GraphValue}
use Rattle.pb_yard.specs.declared.view.View.{View}
use Rattle.pb_yard.proofs.Clauses.{Fact}
use Rattle.pb_yard.proofs.tests.hold.Goals as goal

-- what stands at a place, put there again
same_there : {A : Type 0} (l : List A) (i : ℕ) (a : A) → get_elem? l i ≡ some a → set l i a ≡ l
same_there [] i a e = absurd (some-ne-none a (sym e))
same_there (x ∷ xs) zero a e = ap (λ y. y ∷ xs) (sym (some-injective x a e))
same_there (x ∷ xs) (suc i) a e = ap (λ ys. x ∷ ys) (same_there xs i a e)

pub leave-requires-clause-rule : goal.leave-requires-clause-rule
leave-requires-clause-rule g c number views h at =
    let p = c.enter-held.new.pass in
    subst (λ (all : List View). Fact (state c.enter-held.result) number all) (sym (same_there views _ (view p) at))
    (subst (λ (x : GraphValue). Fact x number views) (sym c.enter-held.ensures.won.1) h)
