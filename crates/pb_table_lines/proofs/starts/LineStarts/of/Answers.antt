use Rattle.std.proofs.Common.{◌≡◌, ◌∷◌, [], ◌++◌, length, ap, ◌∙◌, arith, length-append}
use Rattle.pb_table_lines.specs.Lines.{Listing, listings, listing_at}
use Rattle.pb_table_lines.proofs.Written.{before_next, each_more}
use Rattle.pb_table_lines.proofs.starts.LineStarts.of.Goals as goal

pub loop-list-preserved : goal.loop-list-preserved
loop-list-preserved c =
    let inv = c.loop-list.invariant in
    let one : length c.listing_at-in-loop-list.inside.listed.now ≡ length c.listing_at.result.listed = ap (λ (l : Listing). length l.listed) c.listing_at-in-loop-list.view_is in
    let same : length c.listing_at.result.listed ≡ length (listing_at (listings c.args.tables.now) c.loop-list.list).listed = ap (λ (l : Listing). length l.listed) c.listing_at.ensures.listing in
    let next = before_next c.args.tables.now c.loop-list.list (omega (arith, c.loop-list-test.true, c.count-list-end.ensures.count)) in
    let items : c.push.new.self.items ≡ c.loop-list.starts.items ++ c.loop-list.at ∷ [] = c.in_ok-push.ensures.items in
    let more = length-append c.loop-list.starts.items (c.loop-list.at ∷ []) in
    record {
      long = ap length items ∙ (omega (arith, more, inv.long));
      each = each_more c.args.tables.now c.loop-list.starts.items c.push.new.self.items c.loop-list.at c.loop-list.list items inv.long inv.each inv.at_is;
      at_is = omega (arith, inv.at_is, one, same, next);
      small = omega (arith, inv.small, one, c.listing_at.ensures.listed);
    }
