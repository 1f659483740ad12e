use Rattle.std.proofs.Common.{ℕ, Bool, true, None, Some, get_or, subst, arith, rules}
use Rattle.pb_bundles.specs.Choosing.{IsFirstBy}
use Rattle.pb_bundles.proofs.Callers.{some_within}
use Rattle.pb_lease.proofs.graph.free.prune.Goals as goal

pub is_clear-requires : goal.is_clear-requires
is_clear-requires c =
    let all : ℕ → Bool = λ n. true in
    let first = subst (IsFirstBy all (λ n. get_or c.loop.free n None)) c.in-Some.is (c.first.ensures all (λ block answer lt post. search rules)) in
    let within = some_within c.loop.free c.in-Some.block first.0.1 in
    omega (arith, within, c.loop.invariant.count, c.requires)

pub set-requires : goal.set-requires
set-requires c =
    let all : ℕ → Bool = λ n. true in
    let first = subst (IsFirstBy all (λ n. get_or c.loop.free n None)) c.in-Some.is (c.first.ensures all (λ block answer lt post. search rules)) in
    some_within c.loop.free c.in-Some.block first.0.1
