use Rattle.std.proofs.Common.{◌+◌, ◌/◌, ◌++◌, refl, arith, length}
use Rattle.std.specs.Fork.{AcceptsAt, ChangesAt}
use Rattle.pb_owners.proofs.Halving.{each_high, changes_both, changes_only}
use Rattle.pb_owners.proofs.forking.+halves.Goals as goal

pub calls_from-returns-then-items-eq1 : goal.calls_from-returns-then-items-eq1
calls_from-returns-then-items-eq1 g t c =
    changes_only (ChangesAt g.F.Fn c.args.f.now) c.args.from c.args.items.now c.index-items-0.result c.call.new.item (let one = c.if-items-eq1.true in omega arith) c.call.ensures

pub calls_from-both_halves-requires-clause-high : goal.calls_from-both_halves-requires-clause-high
calls_from-both_halves-requires-clause-high g t c κs within =
    let cut = c.split_at_mut-low in
    each_high (AcceptsAt g.F.Fn c.args.f.now) c.args.from (c.args.from + length c.args.items.now / 2) c.args.items.now cut.result.0.now cut.result.1.now cut.ensures.value (let l = cut.ensures.front_len in omega arith) c.requires.accepts

pub calls_from-returns : goal.calls_from-returns
calls_from-returns g t c =
    let cut = c.split_at_mut-low in
    changes_both (ChangesAt g.F.Fn c.args.f.now) c.args.from (c.args.from + length c.args.items.now / 2) c.args.items.now (c.both_halves.new.low ++ c.both_halves.new.high) cut.result.0.now cut.result.1.now c.both_halves.new.low c.both_halves.new.high cut.ensures.value refl
    (let l = cut.ensures.front_len in omega arith) c.both_halves.ensures.low c.both_halves.ensures.high
