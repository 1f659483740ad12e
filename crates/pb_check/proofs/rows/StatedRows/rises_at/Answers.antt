use Rattle.std.proofs.Common.{◌≡◌, ◌<◌, ◌≤◌, ◌-◌, ℕ, suc, Bool, true, false, nat_lt, List, length, get_or, refl, arith, ap, sym, ◌∙◌}
use Rattle.std.proofs.lemmas.Bool.Decides.{nat_tests}
use Rattle.pb_packed.specs.Words.{number_of}
use Rattle.pb_model.specs.Certificate.{Line}
use Rattle.pb_check.specs.Rows.{rises_at}
use Rattle.pb_check.proofs.Arrays.{length-rows_of, rises_at-rows_of}
use Rattle.pb_check.proofs.rows.StatedRows.rises_at.Goals as goal

tells : (above : Bool) (n m : ℕ) → (above ≡ true → n < m) → (above ≡ false → m ≤ n) → above ≡ nat_lt n m
tells true n m is_less is_over = let less : n < m = is_less refl in let e : nat_lt n m ≡ true = grind (arith, nat_tests, less) in sym e
tells false n m is_less is_over = let over : m ≤ n = is_over refl in let e : nat_lt n m ≡ false = grind (arith, nat_tests, over) in sym e

pub at-requires : goal.at-requires
at-requires c =
    let all = length-rows_of c.self.inside.states.numbers c.self.inside.costs.items c.self.inside.closed.items c.self.invariant.0 c.self.invariant.1 in
    omega (arith, all, ap length c.self.view_is, c.requires.inside)

pub is_above-requires-clause-inside : goal.is_above-requires-clause-inside
is_above-requires-clause-inside c =
    let all = length-rows_of c.self.inside.states.numbers c.self.inside.costs.items c.self.inside.closed.items c.self.invariant.0 c.self.invariant.1 in
    omega (arith, all, ap length c.self.view_is, c.requires.inside)

pub returns : goal.returns
returns c =
    let states = c.self.inside.states.numbers in
    let i = c.args.i in
    let all = length-rows_of states c.self.inside.costs.items c.self.inside.closed.items c.self.invariant.0 c.self.invariant.1 in
    let here : suc (i - 1) ≡ i = omega (arith, c.requires.some) in
    let within : suc (i - 1) < length states = omega (arith, all, ap length c.self.view_is, c.requires.inside, here) in
    tells c.is_above.result (number_of c.at.result.now) (get_or states i 0) c.is_above.ensures.yes c.is_above.ensures.no
    ∙ ap (λ n. nat_lt n (get_or states i 0)) c.at.ensures.number
    ∙ ap (λ k. nat_lt (get_or states (i - 1) 0) (get_or states k 0)) (sym here)
    ∙ sym (rises_at-rows_of states c.self.inside.costs.items c.self.inside.closed.items (i - 1) c.self.invariant.0 c.self.invariant.1 within)
    ∙ ap (λ (rows : List Line). rises_at rows (i - 1)) c.self.view_is
