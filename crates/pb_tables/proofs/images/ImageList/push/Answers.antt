use Rattle.std.proofs.Common.{◌≤◌, ◌*◌, ◌^◌, arith}
use Rattle.pb_tables.proofs.FlatNumbers.{more_than}
use Rattle.pb_tables.proofs.images.ImageList.push.Goals as goal

pub push-requires : goal.push-requires
push-requires c =
    let more : 2 ^ (64 * c.words_for-width.result) ≤ 2 ^ (64 * c.widen.new.self.width) =
    more_than (64 * c.words_for-width.result) (64 * c.widen.new.self.width) (omega (arith, c.in_ok-widen.ensures.wide)) in
    record { fits = omega (arith, c.words_for-width.ensures.fits, more) }
