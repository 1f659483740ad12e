use Rattle.std.proofs.Common.{arith, ◌≡◌, ◌-◌, ◌<◌, ◌≤◌, ◌∙◌, get_or, length, length-set, ap}
use Rattle.std.proofs.lemmas.Grind.{get_or_default_zero}
use Rattle.std.proofs.lemmas.List.Elements.{All-get_or}
use Rattle.pb_machine.specs.Tables.{one_if}
use Rattle.pb_lease.proofs.Lists.{fresh, lowered, has_at}
use Rattle.pb_lease.proofs.tables.counters.lower.Goals as goal

pub overflow_sub-index_mut : goal.overflow_sub-index_mut
overflow_sub-index_mut c =
    let near = c.args.near.now in
    let i = c.loop-block.block-index in
    let block = get_or near i 0 in
    let now = c.loop-block.counters.items in
    let there : block < length now = omega (arith, All-get_or (λ b. b < length c.args.counters.now.items) near i 0 c.loop-block-test.true c.requires.inside, c.loop-block.invariant.places) in
    let is : c.index_mut.result.now ≡ get_or now block 0 = c.index_mut.ensures.value ∙ get_or_default_zero now block c.index_mut.result.now there in
    let none = ap one_if (fresh near i c.requires.ascending c.loop-block-test.true) in
    omega (arith, is, c.loop-block.invariant.each block, none, c.requires.some block (has_at near i c.loop-block-test.true))

pub loop-block-preserved : goal.loop-block-preserved
loop-block-preserved c =
    let near = c.args.near.now in
    let i = c.loop-block.block-index in
    let block = get_or near i 0 in
    let now = c.loop-block.counters.items in
    let there : block < length now = omega (arith, All-get_or (λ b. b < length c.args.counters.now.items) near i 0 c.loop-block-test.true c.requires.inside, c.loop-block.invariant.places) in
    let is : c.index_mut.result.now ≡ get_or now block 0 = c.index_mut.ensures.value ∙ get_or_default_zero now block c.index_mut.result.now there in
    let none = ap one_if (fresh near i c.requires.ascending c.loop-block-test.true) in
    let some : 1 ≤ c.index_mut.result.now = omega (arith, is, c.loop-block.invariant.each block, none, c.requires.some block (has_at near i c.loop-block-test.true)) in
    record {
      places = length-set now block _ ∙ c.loop-block.invariant.places;
      each = lowered c.args.counters.now.items now near i (c.index_mut.result.now - 1) c.requires.ascending c.loop-block-test.true there c.loop-block.invariant.each (omega (arith, is, some));
    }
