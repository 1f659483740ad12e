use Rattle.std.proofs.Common.{◌≡◌, ◌-◌, ◌+◌, suc, false, nat_eq, length, sym, ap, ◌∙◌, arith}
use Rattle.std.proofs.lemmas.Bool.Decides.{nat_tests}
use Rattle.pb_lifted.specs.Tree.{comes_to}
use Rattle.pb_lifted.proofs.Callers.{stays, goes_up}
use Rattle.pb_ground.proofs.fitting.is_below.Goals as goal

pub returns-then-next-now : goal.returns-then-next-now
returns-then-next-now c =
    let other : nat_eq c.loop.now c.args.wanted ≡ false = grind (arith, nat_tests) in
    sym (stays c.args.types.now (length c.args.types.now - c.loop.counter) c.loop.now c.args.wanted (sym c.above-next.ensures ∙ c.if-next-now.true) other) ∙ c.loop.invariant

pub loop-preserved : goal.loop-preserved
loop-preserved c =
    let n = length c.args.types.now in
    let less : n - c.loop.counter ≡ suc (n - (c.loop.counter + 1)) = omega arith in
    let other : nat_eq c.loop.now c.args.wanted ≡ false = grind (arith, nat_tests) in
    ap (λ k. comes_to c.args.types.now (n - (c.loop.counter + 1)) k c.args.wanted) c.above-next.ensures
    ∙ goes_up c.args.types.now (n - (c.loop.counter + 1)) (n - c.loop.counter) c.loop.now c.args.wanted _ less other c.loop.invariant
