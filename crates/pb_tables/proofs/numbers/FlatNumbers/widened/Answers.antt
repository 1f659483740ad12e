use Rattle.std.proofs.Common.{◌≤◌, ◌*◌, ◌^◌, arith}
use Rattle.pb_tables.proofs.FlatNumbers.{more_than}
use Rattle.pb_tables.proofs.numbers.FlatNumbers.widened.Goals as goal

pub push-requires : goal.push-requires
push-requires c =
    let more : 2 ^ (64 * c.args.self.now.width) ≤ 2 ^ (64 * c.loop-i.wider.width) =
    more_than (64 * c.args.self.now.width) (64 * c.loop-i.wider.width) (omega (arith, c.requires.more, c.loop-i.invariant.width)) in
    record { fits = omega (arith, c.at.ensures.small, c.of_slice-number.ensures, more) }
