use Rattle.std.proofs.Common.{◌≡◌, length, get_or, arith, ap, sym, ◌∙◌}
use Rattle.std.proofs.lemmas.Grind.{get_or_default_zero}
use Rattle.pb_check.proofs.Arrays.{length-rows_of, slice_get-rows_of}
use Rattle.pb_check.proofs.rows.StatedRows.at.Goals as goal

pub at-requires : goal.at-requires
at-requires c =
    let all = length-rows_of c.self.inside.states.numbers c.self.inside.costs.items c.self.inside.closed.items c.self.invariant.0 c.self.invariant.1 in
    omega (arith, all, ap length c.self.view_is, c.requires)

pub index-requires : goal.index-requires
index-requires c =
    let all = length-rows_of c.self.inside.states.numbers c.self.inside.costs.items c.self.inside.closed.items c.self.invariant.0 c.self.invariant.1 in
    omega (arith, all, ap length c.self.view_is, c.requires, c.self.invariant.0)

pub index-requires-2 : goal.index-requires-2
index-requires-2 c =
    let all = length-rows_of c.self.inside.states.numbers c.self.inside.costs.items c.self.inside.closed.items c.self.invariant.0 c.self.invariant.1 in
    omega (arith, all, ap length c.self.view_is, c.requires, c.self.invariant.1)

pub returns : goal.returns
returns c =
    let states = c.self.inside.states.numbers in
    let all = length-rows_of states c.self.inside.costs.items c.self.inside.closed.items c.self.invariant.0 c.self.invariant.1 in
    let state = c.of_slice.result in
    let state_is : state ≡ get_or states c.args.i state = c.of_slice.ensures ∙ c.at.ensures.number ∙ sym (get_or_default_zero states c.args.i state (omega (arith, all, ap length c.self.view_is, c.requires))) in
    rw (← c.self.view_is) (
    slice_get-rows_of states c.self.inside.costs.items c.self.inside.closed.items c.args.i
    (record { state = state; g = c.index.result.now; is_closed = c.index-2.result.now }) c.self.invariant.0 c.self.invariant.1
    (omega (arith, all, ap length c.self.view_is, c.requires)) state_is c.index.ensures c.index-2.ensures
    )
