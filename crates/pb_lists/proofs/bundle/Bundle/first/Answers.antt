use Rattle.std.proofs.Common.{sym, subst, Some}
use Rattle.pb_lists.specs.Fields.{weight_of}
use Rattle.pb_lists.specs.Heaped.{IsTop}
use Rattle.pb_lists.specs.Buckets.{has_entry, top_of}
use Rattle.pb_lists.proofs.First.{first_row}
use Rattle.pb_lists.proofs.bundle.Bundle.first.Goals as goal

pub returns-in-Some-top-clause-some : goal.returns-in-Some-top-clause-some
returns-in-Some-top-clause-some c =
    let buckets = c.self.inside.opened in
    let sum = c.in-Some.field-0-0.now in
    let bucket = c.in-Some.bucket.now in
    let weight = weight_of c.self.inside.num c.self.inside.den in
    let entries = c.self.inside.rows.entries in
    let top : IsTop (has_entry bucket) (Some c.in-Some-top.top) = subst (λ t. IsTop (has_entry bucket) t) (sym c.in-Some-top.ensures.first) c.in-Some-top.ensures.top in
    rw (← c.self.view_is)
    (first_row weight entries buckets c.self.invariant.filed c.self.invariant.tidy sum bucket c.in-Some.ensures.first c.in-Some.ensures.value c.in-Some.ensures.least
    c.in-Some-top.top c.in-Some-top.ensures.first top.least)
