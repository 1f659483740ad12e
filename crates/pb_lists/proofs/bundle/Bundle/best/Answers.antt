use Rattle.std.proofs.Common.{sym, subst, Some}
use Rattle.pb_model.specs.Key.{IsBest}
use Rattle.pb_lists.specs.Bundle.{row_in}
use Rattle.pb_lists.specs.Fields.{weight_of}
use Rattle.pb_lists.proofs.First.{best_at, has_least}
use Rattle.pb_lists.proofs.bundle.Bundle.best.Goals as goal

pub returns-in-Some-first : goal.returns-in-Some-first
returns-in-Some-first c =
    let buckets = c.self.inside.opened in
    let sum = c.in-Some.sum.now in
    let bucket = c.in-Some.bucket.now in
    let weight = weight_of c.self.inside.num c.self.inside.den in
    let entries = c.self.inside.rows.entries in
    rw (← c.self.view_is)
    (subst (λ key. IsBest weight (row_in entries) (Some key)) (sym c.key_from.ensures)
    (best_at weight entries buckets c.self.invariant.filed c.self.invariant.tidy sum bucket c.in-Some.ensures.first c.in-Some.ensures.value c.in-Some.ensures.least
    c.in-Some-first.first c.in-Some-first.ensures.first c.in-Some-first.ensures.top))

pub returns-in-None-first : goal.returns-in-None-first
returns-in-None-first c =
    let buckets = c.self.inside.opened in
    let sum = c.in-Some.sum.now in
    let bucket = c.in-Some.bucket.now in
    let weight = weight_of c.self.inside.num c.self.inside.den in
    let entries = c.self.inside.rows.entries in
    absurd (has_least weight entries buckets c.self.invariant.filed c.self.invariant.tidy sum bucket c.in-Some.ensures.first c.in-Some.ensures.value c.in-Some.ensures.least
    c.in-None-first.ensures.first)
