use Rattle.std.proofs.Common.{◌≡◌, length, ap, arith}
use Rattle.pb_table_lines.specs.Lines.{Listing, listings, listing_at}
use Rattle.pb_table_lines.proofs.Written.{before_next}
use Rattle.pb_table_lines.proofs.listing.lines_before.Goals as goal

pub loop-number-preserved : goal.loop-number-preserved
loop-number-preserved c =
    let inv = c.loop-number.invariant in
    let one : length c.listing_at-in-loop-number.inside.listed.now ≡ length c.listing_at.result.listed = ap (λ (l : Listing). length l.listed) c.listing_at-in-loop-number.view_is in
    let same : length c.listing_at.result.listed ≡ length (listing_at (listings c.args.tables.now) c.loop-number.number).listed = ap (λ (l : Listing). length l.listed) c.listing_at.ensures.listing in
    let next = before_next c.args.tables.now c.loop-number.number (omega (arith, c.loop-number-test.true, c.requires)) in
    record {
      lines_are = omega (arith, inv.lines_are, one, same, next);
      small = omega (arith, inv.small, one, c.listing_at.ensures.listed);
    }
