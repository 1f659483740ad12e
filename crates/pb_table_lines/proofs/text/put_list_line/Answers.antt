use Rattle.std.proofs.Common.{◌≤◌, length, sym, subst, arith}
use Rattle.pb_print.specs.Saved.{PutsLine}
use Rattle.pb_table_lines.specs.Lines.{Listing, listings, listing_at, listing_lines}
use Rattle.pb_table_lines.proofs.Written.{all_counted, lists_put}
use Rattle.pb_table_lines.proofs.text.put_list_line.Goals as goal

pub place_of-list-requires-clause-within : goal.place_of-list-requires-clause-within
place_of-list-requires-clause-within c =
    let all = all_counted c.args.digits c.args.tables.now in
    omega (arith, all, c.requires.within)

pub put_listing-requires-clause-at : goal.put_listing-requires-clause-at
put_listing-requires-clause-at c =
    subst (λ (l : Listing). c.place_of-list.result.1 ≤ length l.listed) (sym c.listing_at.ensures.listing) c.place_of-list.ensures.within

pub returns : goal.returns
returns c =
    let list = c.place_of-list.result.0 in
    let puts : PutsLine c.args.out.now c.put_listing.new.out (listing_lines c.args.digits (listing_at (listings c.args.tables.now) list)) c.place_of-list.result.1 =
    subst (λ (l : Listing). PutsLine c.args.out.now c.put_listing.new.out (listing_lines c.args.digits l) c.place_of-list.result.1) c.listing_at.ensures.listing c.put_listing.ensures in
    lists_put c.args.out.now c.put_listing.new.out c.args.digits c.args.tables.now list c.place_of-list.result.1 c.args.at c.place_of-list.ensures.list c.place_of-list.ensures.line puts
