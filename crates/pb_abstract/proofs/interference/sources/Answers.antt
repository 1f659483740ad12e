use Rattle.std.proofs.Common.{◌≡◌, ◌<◌, All, get_or, length, subst, sym, ◌∙◌, ap, arith}
use Rattle.pb_abstract.proofs.Has.{scope_below}
use Rattle.pb_abstract.proofs.interference.sources.Goals as goal

pub add_to-requires : goal.add_to-requires
add_to-requires c =
    let all : All (λ n. n < length c.args.scopes.now) c.numbers.result.now =
    scope_below c.args.scopes.now c.requires.known c.loop-block.block c.numbers.result.now (omega arith)
    (subst (λ list. list ≡ get_or c.args.scopes.now c.loop-block.block list) (sym c.numbers.ensures.numbers) c.index-scopes-block.is) in
    let many : length c.args.scopes.now ≡ length c.as_mut_slice.result.now = sym (ap length c.as_mut_slice.ensures.value ∙ c.loop-block.invariant.len) in
    subst (λ count. All (λ n. n < count) c.numbers.result.now) many all
