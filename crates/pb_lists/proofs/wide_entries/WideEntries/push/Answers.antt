use Rattle.std.proofs.Common.{◌∙◌, ◌||◌, ap}
use Rattle.pb_lists.specs.Heaped.{is_same, is_among, first_of, top_of_two}
use Rattle.pb_lists.proofs.Parts.{ok_then, err_then, first_more, second_more}
use Rattle.pb_lists.proofs.wide_entries.WideEntries.push.Goals as goal

pub returns-in-Some-clause-added : goal.returns-in-Some-clause-added
returns-in-Some-clause-added c =
    let few = c.args.self.now.few.items in
    let many = c.args.self.now.many.items in
    ok_then c.push.result (λ added other.
    first_more (is_among other c.push.new.self.items) (is_same other (c.args.h, c.args.state.now, c.args.place)) (is_among other few) (is_among other many)
    (added other ∙ ap (λ n. is_same other (c.args.h, n, c.args.place) || is_among other few) c.in-Some.ensures.some)) c.push.ensures.added

pub returns-in-None-clause-added : goal.returns-in-None-clause-added
returns-in-None-clause-added c =
    let few = c.args.self.now.few.items in
    let many = c.args.self.now.many.items in
    let pushed = c.push-in-None in
    ok_then pushed.result (λ added other.
    second_more (is_among other pushed.new.self.items) (is_same other (c.args.h, c.args.state.now, c.args.place)) (is_among other few) (is_among other many)
    (added other ∙ ap (λ n. is_same other (c.args.h, n, c.args.place) || is_among other many) c.words.ensures)) pushed.ensures.added

pub returns-in-Some-clause-err : goal.returns-in-Some-clause-err
returns-in-Some-clause-err c = err_then c.push.result (λ same other. ap (λ items. is_among other items || is_among other c.args.self.now.many.items) same) c.push.ensures.err

pub returns-in-None-clause-err : goal.returns-in-None-clause-err
returns-in-None-clause-err c =
    err_then c.push-in-None.result (λ same other. ap (λ items. is_among other c.args.self.now.few.items || is_among other items) same) c.push-in-None.ensures.err

pub returns-in-Some-clause-top : goal.returns-in-Some-clause-top
returns-in-Some-clause-top c =
    err_then c.push.result (λ same. ap (λ items. top_of_two (first_of items) (first_of c.args.self.now.many.items)) same) c.push.ensures.err

pub returns-in-None-clause-top : goal.returns-in-None-clause-top
returns-in-None-clause-top c =
    err_then c.push-in-None.result (λ same. ap (λ items. top_of_two (first_of c.args.self.now.few.items) (first_of items)) same) c.push-in-None.ensures.err
