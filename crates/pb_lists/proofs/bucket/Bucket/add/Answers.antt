use Rattle.std.proofs.Common.{◌∙◌, ◌||◌, ap}
use Rattle.pb_lists.specs.Heaped.{Entry, is_same, is_among, first_of, top_of_two}
use Rattle.pb_lists.specs.Buckets.{has_boxed, top_of_boxed}
use Rattle.pb_lists.proofs.Parts.{ok_then, err_then, first_more, second_more}
use Rattle.pb_lists.proofs.bucket.Bucket.add.Goals as goal

pub returns-in-Some-clause-added : goal.returns-in-Some-clause-added
returns-in-Some-clause-added c =
    let words = c.args.self.now.words.items in
    let wide = c.args.self.now.wide in
    ok_then c.push.result (λ added other.
    first_more (is_among other c.push.new.self.items) (is_same other (c.args.h, c.args.state.now, c.args.place)) (is_among other words) (has_boxed wide other)
    (added other ∙ ap (λ (e : Entry). is_same other e || is_among other words) c.in-Some.ensures)) c.push.ensures.added

pub returns-in-None-clause-added : goal.returns-in-None-clause-added
returns-in-None-clause-added c =
    let words = c.args.self.now.words.items in
    let wide = c.args.self.now.wide in
    ok_then c.add_wide.result (λ added other.
    second_more (has_boxed c.add_wide.new.wide other) (is_same other (c.args.h, c.args.state.now, c.args.place)) (is_among other words) (has_boxed wide other) (added other)) c.add_wide.ensures.added

pub returns-in-Some-clause-err : goal.returns-in-Some-clause-err
returns-in-Some-clause-err c = err_then c.push.result (λ same other. ap (λ items. is_among other items || has_boxed c.args.self.now.wide other) same) c.push.ensures.err

pub returns-in-None-clause-err : goal.returns-in-None-clause-err
returns-in-None-clause-err c = err_then c.add_wide.result (λ same other. ap (λ b. is_among other c.args.self.now.words.items || b) (same other)) c.add_wide.ensures.err

pub returns-in-Some-clause-top : goal.returns-in-Some-clause-top
returns-in-Some-clause-top c = err_then c.push.result (λ same. ap (λ items. top_of_two (first_of items) (top_of_boxed c.args.self.now.wide)) same) c.push.ensures.err

pub returns-in-None-clause-top : goal.returns-in-None-clause-top
returns-in-None-clause-top c = err_then c.add_wide.result (λ same. ap (λ top. top_of_two (first_of c.args.self.now.words.items) top) same) c.add_wide.ensures.top
