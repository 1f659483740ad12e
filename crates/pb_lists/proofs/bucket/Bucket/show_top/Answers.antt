use Rattle.pb_lists.specs.Heaped.{is_among, first_of}
use Rattle.pb_lists.specs.Buckets.{has_boxed, top_of_boxed}
use Rattle.pb_lists.proofs.Parts.{two_top}
use Rattle.pb_lists.proofs.bucket.Bucket.show_top.Goals as goal

pub returns : goal.returns
returns c =
    let words = c.args.self.now.words.items in
    let wide = c.args.self.now.wide in
    two_top (λ entry. is_among entry words) (has_boxed wide) (first_of words) (top_of_boxed wide) c.first.ensures.top c.show_wide_top.ensures
