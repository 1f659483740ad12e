use Rattle.std.proofs.Common.{◌≡◌, ◌≤◌, ◌<◌, ◌∙◌, ap, arith, option_copied, sym, subst, Some, slice_get}
use Rattle.pb_model.specs.Work.{offered_row}
use Rattle.pb_lists.specs.Bundle.{Content, put, row_of, SetsRow}
use Rattle.pb_lists.proofs.Entries.{entries_are_rows, put_worse, sets_worse, better_row, there_is}
use Rattle.pb_lists.proofs.bundle.Bundle.offer_at.Goals as goal

pub open_again-requires-clause-place : goal.open_again-requires-clause-place
open_again-requires-clause-place c =
    let there = there_is c.args.self.now.entries c.args.place c.requires in
    let here = subst (λ (x : Content). slice_get x.entries c.args.place ≡ Some (there.0, there.1)) (sym c.self.view_is) there.2 in
    (there.1, subst (λ state. slice_get c.args.self.now.entries c.args.place ≡ Some (state, there.1)) (sym (c.state_at-state.ensures there.0 there.1 here)) there.2)

pub returns-then-g_at-g-clause-put : goal.returns-then-g_at-g-clause-put
returns-then-g_at-g-clause-put c = λ state row found.
    let content = c.args.self.now in
    let here = subst (λ (x : Content). slice_get x.entries c.args.place ≡ Some (state, row)) (sym c.self.view_is) found in
    let is = (entries_are_rows content c.len.ensures.distinct state row).1 (c.args.place, found) in
    put_worse content state c.args.g row.estimate (option_copied c.args.parent) c.args.action row is (subst (λ n. n ≤ c.args.g) (c.g_at.ensures state row here) c.if-g_at-g.true)

pub returns-then-g_at-g-clause-sets : goal.returns-then-g_at-g-clause-sets
returns-then-g_at-g-clause-sets c = λ state row found.
    let content = c.args.self.now in
    let here = subst (λ (x : Content). slice_get x.entries c.args.place ≡ Some (state, row)) (sym c.self.view_is) found in
    let is = (entries_are_rows content c.len.ensures.distinct state row).1 (c.args.place, found) in
    sets_worse content state c.args.g row.estimate (option_copied c.args.parent) c.args.action row is (subst (λ n. n ≤ c.args.g) (c.g_at.ensures state row here) c.if-g_at-g.true)

pub returns-clause-put : goal.returns-clause-put
returns-clause-put c = λ state row found.
    let content = c.args.self.now in
    let here = subst (λ (x : Content). slice_get x.entries c.args.place ≡ Some (state, row)) (sym c.self.view_is) found in
    let low : c.args.g < row.g = let g = c.g_at.ensures state row here in omega (arith, g, c.if-g_at-g.false) in
    let is = better_row c.args.g (option_copied c.args.parent) c.args.action row c.costs_at-estimate.result c.opened_row.result (c.costs_at-estimate.ensures state row here) low c.opened_row.ensures in
    c.in_ok-open_again.ensures.put ∙ (ap (λ s. put content s c.opened_row.result) (c.state_at-state.ensures state row here) ∙ ap (λ r. put content state r) is)

pub returns-clause-sets : goal.returns-clause-sets
returns-clause-sets c = λ state row found.
    let content = c.args.self.now in
    let new = c.open_again.new.self in
    let here = subst (λ (x : Content). slice_get x.entries c.args.place ≡ Some (state, row)) (sym c.self.view_is) found in
    let low : c.args.g < row.g = let g = c.g_at.ensures state row here in omega (arith, g, c.if-g_at-g.false) in
    let is = better_row c.args.g (option_copied c.args.parent) c.args.action row c.costs_at-estimate.result c.opened_row.result (c.costs_at-estimate.ensures state row here) low c.opened_row.ensures in
    subst (λ s. SetsRow (row_of content) (row_of new) s (offered_row c.args.g row.estimate (option_copied c.args.parent) c.args.action (Some row))) (c.state_at-state.ensures state row here)
    (subst (λ r. SetsRow (row_of content) (row_of new) c.state_at-state.result r) is c.in_ok-open_again.ensures.sets)
