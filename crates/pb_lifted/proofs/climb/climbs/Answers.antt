use Rattle.std.proofs.Common.{◌≡◌, ◌-◌, ◌+◌, suc, false, nat_eq, length, sym, ap, ◌∙◌, arith}
use Rattle.std.proofs.lemmas.Bool.Decides.{nat_tests}
use Rattle.pb_lifted.specs.Tree.{comes_to}
use Rattle.pb_lifted.proofs.WaysUp.{stays, goes_up}
use Rattle.pb_lifted.proofs.climb.climbs.Goals as goal

pub returns-then-now-eq0 : goal.returns-then-now-eq0
returns-then-now-eq0 c =
    let other : nat_eq 0 c.args.to ≡ false = grind (arith, nat_tests) in
    sym (stays c.args.parents.now (length c.args.parents.now - c.loop.counter) 0 c.args.to c.requires other)
    ∙ (ap (λ k. comes_to c.args.parents.now (length c.args.parents.now - c.loop.counter) k c.args.to) (sym c.if-now-eq0.true) ∙ c.loop.invariant)

pub loop-preserved : goal.loop-preserved
loop-preserved c =
    let n = length c.args.parents.now in
    let less : n - c.loop.counter ≡ suc (n - (c.loop.counter + 1)) = omega arith in
    let other : nat_eq c.loop.now c.args.to ≡ false = grind (arith, nat_tests) in
    ap (λ k. comes_to c.args.parents.now (n - (c.loop.counter + 1)) k c.args.to) c.at-now.ensures
    ∙ goes_up c.args.parents.now (n - (c.loop.counter + 1)) (n - c.loop.counter) c.loop.now c.args.to _ less other c.loop.invariant
