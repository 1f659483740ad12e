use Rattle.std.proofs.Common.{◌≡◌, ◌⊎◌, ◌||◌, ◌∙◌, Option, Some, sym, ap, subst, true}
use Rattle.std.specs.Global.{Box}
use Rattle.pb_lists.specs.Heaped.{Entry, is_among, first_of, is_second_first}
use Rattle.pb_lists.specs.Buckets.{has_entry, top_of, has_boxed, top_of_boxed, top_of_wide}
use Rattle.pb_lists.specs.declared.wide_entries.WideEntries.{WideEntries}
use Rattle.pb_lists.proofs.Parts.{first_less}
use Rattle.pb_lists.proofs.bucket.Bucket.pop.Goals as goal

pub returns-else-is_second_first-clause-left : goal.returns-else-is_second_first-clause-left
returns-else-is_second_first-clause-left c =
    let words = c.args.self.now.words.items in
    let wide = c.args.self.now.wide in
    let left = c.pop-else-is_second_first.new.self.items in
    subst
    (λ (w : Option (Box WideEntries)). (other : Entry) → has_entry c.args.self.now other ≡ true → (top_of c.args.self.now ≡ Some other) ⊎ ((is_among other left || has_boxed w other) ≡ true)) c.in-Some.is
    (first_less (λ entry. is_among entry words) (λ entry. is_among entry left) (has_boxed wide) (first_of words) (top_of_boxed wide)
    (ap (λ t. is_second_first t (top_of_boxed wide)) (sym c.top.ensures.first)
    ∙ (ap (λ t. is_second_first c.top.result t) (ap top_of_boxed c.in-Some.is ∙ (ap (λ (w : WideEntries). top_of_wide w) (sym c.deref.ensures) ∙ sym c.top-in-Some.ensures.first))
    ∙ (sym c.is_second_first.ensures ∙ c.if-is_second_first.false)))
    c.pop-else-is_second_first.ensures.left)
