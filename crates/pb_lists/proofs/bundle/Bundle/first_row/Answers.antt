use Rattle.std.proofs.Common.{refl, sym, Some, None}
use Rattle.pb_lists.specs.Fields.{weight_of}
use Rattle.pb_lists.proofs.First.{has_top, has_costs, first_costs}
use Rattle.pb_lists.proofs.bundle.Bundle.first_row.Goals as goal

pub returns-in_err-g-clause-none : goal.returns-in_err-g-clause-none
returns-in_err-g-clause-none c =
    let buckets = c.self.inside.opened in
    let sum = c.in_ok-bucket.field-0-0.now in
    let bucket = c.in_ok-bucket.bucket.now in
    let weight = weight_of c.self.inside.num c.self.inside.den in
    let entries = c.self.inside.rows.entries in
    absurd (has_costs weight entries buckets c.self.invariant.filed c.self.invariant.tidy sum bucket c.in_ok-bucket.ensures.first c.in_ok-bucket.ensures.value c.in_ok-bucket.ensures.least
    (c.in-Some.field-0-0, c.in-Some.word, c.in-Some.at) (sym c.in-Some.ensures.first) c.in-Some.ensures.top c.self.invariant.placed None c.in_err-g.ensures refl)

pub returns-in-Some-clause-some : goal.returns-in-Some-clause-some
returns-in-Some-clause-some c =
    let buckets = c.self.inside.opened in
    let sum = c.in_ok-bucket.field-0-0.now in
    let bucket = c.in_ok-bucket.bucket.now in
    let weight = weight_of c.self.inside.num c.self.inside.den in
    let entries = c.self.inside.rows.entries in
    rw (← c.self.view_is)
    (rw (c.of_word.ensures)
    (first_costs weight entries buckets c.self.invariant.filed c.self.invariant.tidy sum bucket c.in_ok-bucket.ensures.first c.in_ok-bucket.ensures.value c.in_ok-bucket.ensures.least
    (c.in-Some.field-0-0, c.in-Some.word, c.in-Some.at) (sym c.in-Some.ensures.first) c.in-Some.ensures.top c.self.invariant.placed (Some (c.in_ok-g.g, c.in_ok-g.estimate)) c.in_ok-g.ensures
    c.in_ok-g.g c.in_ok-g.estimate refl))

pub returns-in_err-state-clause-none : goal.returns-in_err-state-clause-none
returns-in_err-state-clause-none c =
    let buckets = c.self.inside.opened in
    let sum = c.in_ok-bucket.field-0-0.now in
    let bucket = c.in_ok-bucket.bucket.now in
    let weight = weight_of c.self.inside.num c.self.inside.den in
    let entries = c.self.inside.rows.entries in
    absurd (has_top weight entries buckets c.self.invariant.filed c.self.invariant.tidy sum bucket c.in_ok-bucket.ensures.first c.in_ok-bucket.ensures.value c.in_ok-bucket.ensures.least
    (sym c.in_err-state.ensures.first))

pub returns-in_err-g-2-clause-none : goal.returns-in_err-g-2-clause-none
returns-in_err-g-2-clause-none c =
    let buckets = c.self.inside.opened in
    let sum = c.in_ok-bucket.field-0-0.now in
    let bucket = c.in_ok-bucket.bucket.now in
    let weight = weight_of c.self.inside.num c.self.inside.den in
    let entries = c.self.inside.rows.entries in
    absurd (has_costs weight entries buckets c.self.invariant.filed c.self.invariant.tidy sum bucket c.in_ok-bucket.ensures.first c.in_ok-bucket.ensures.value c.in_ok-bucket.ensures.least
    (c.in_ok-state.field-0-0, c.in_ok-state.state, c.in_ok-state.place) c.in_ok-state.ensures.first c.in_ok-state.ensures.top c.self.invariant.placed None c.in_err-g-2.ensures refl)

pub returns-clause-some : goal.returns-clause-some
returns-clause-some c =
    let buckets = c.self.inside.opened in
    let sum = c.in_ok-bucket.field-0-0.now in
    let bucket = c.in_ok-bucket.bucket.now in
    let weight = weight_of c.self.inside.num c.self.inside.den in
    let entries = c.self.inside.rows.entries in
    rw (← c.self.view_is)
    (first_costs weight entries buckets c.self.invariant.filed c.self.invariant.tidy sum bucket c.in_ok-bucket.ensures.first c.in_ok-bucket.ensures.value c.in_ok-bucket.ensures.least
    (c.in_ok-state.field-0-0, c.in_ok-state.state, c.in_ok-state.place) c.in_ok-state.ensures.first c.in_ok-state.ensures.top c.self.invariant.placed (Some (c.in_ok-g-2.g, c.in_ok-g-2.estimate)) c.in_ok-g-2.ensures
    c.in_ok-g-2.g c.in_ok-g-2.estimate refl)
