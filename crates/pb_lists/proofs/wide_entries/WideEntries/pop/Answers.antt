use Rattle.std.proofs.Common.{◌∙◌, sym, ap, subst, IsSome, arith, if◌then◌else◌}
use Rattle.pb_lists.specs.Heaped.{is_among, first_of}
use Rattle.pb_lists.proofs.Parts.{first_less, second_less, first_had, second_had}
use Rattle.pb_lists.proofs.wide_entries.WideEntries.pop.Goals as goal

pub returns-then-is_many_first-clause-left : goal.returns-then-is_many_first-clause-left
returns-then-is_many_first-clause-left c =
    let few = c.args.self.now.few.items in
    let many = c.args.self.now.many.items in
    second_less (λ entry. is_among entry few) (λ entry. is_among entry many) (λ entry. is_among entry c.pop.new.self.items) (first_of few) (first_of many)
    (sym c.is_many_first.ensures ∙ c.if-is_many_first.true)
    c.pop.ensures.left

pub returns-then-is_many_first-clause-fewer : goal.returns-then-is_many_first-clause-fewer
returns-then-is_many_first-clause-fewer c = λ some.
    let few = c.args.self.now.few.items in
    let many = c.args.self.now.many.items in
    let is =
    sym c.is_many_first.ensures ∙ c.if-is_many_first.true in
    let less = c.pop.ensures.fewer (subst (λ t. IsSome t) (ap (λ b. if b then first_of many else first_of few) is) some) in
    omega (arith, less)

pub returns-else-is_many_first-clause-left : goal.returns-else-is_many_first-clause-left
returns-else-is_many_first-clause-left c =
    let few = c.args.self.now.few.items in
    let many = c.args.self.now.many.items in
    first_less (λ entry. is_among entry few) (λ entry. is_among entry c.pop-else-is_many_first.new.self.items) (λ entry. is_among entry many) (first_of few) (first_of many)
    (sym c.is_many_first.ensures ∙ c.if-is_many_first.false)
    c.pop-else-is_many_first.ensures.left

pub returns-else-is_many_first-clause-fewer : goal.returns-else-is_many_first-clause-fewer
returns-else-is_many_first-clause-fewer c = λ some.
    let few = c.args.self.now.few.items in
    let many = c.args.self.now.many.items in
    let is =
    sym c.is_many_first.ensures ∙ c.if-is_many_first.false in
    let less = c.pop-else-is_many_first.ensures.fewer (subst (λ t. IsSome t) (ap (λ b. if b then first_of many else first_of few) is) some) in
    omega (arith, less)

pub returns-then-is_many_first-clause-had : goal.returns-then-is_many_first-clause-had
returns-then-is_many_first-clause-had c = λ other has.
    second_had (is_among other c.args.self.now.few.items) (is_among other c.args.self.now.many.items) (is_among other c.pop.new.self.items) (c.pop.ensures.had other) has

pub returns-else-is_many_first-clause-had : goal.returns-else-is_many_first-clause-had
returns-else-is_many_first-clause-had c = λ other has.
    first_had (is_among other c.args.self.now.few.items) (is_among other c.pop-else-is_many_first.new.self.items) (is_among other c.args.self.now.many.items)
    (c.pop-else-is_many_first.ensures.had other) has
