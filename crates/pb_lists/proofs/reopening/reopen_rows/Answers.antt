use Rattle.std.proofs.Common.{◌≡◌, ◌+◌, sym, ap, subst, ◌∙◌, nat_eq, add-one, length, slice_get, arith}
use Rattle.indexmap.specs.IndexMap.{insert_entry}
use Rattle.pb_lists.specs.Fields.{weight_of}
use Rattle.pb_lists.specs.Reopened.{reopened_at}
use Rattle.pb_lists.proofs.AgainOpened.{so_far, so_far_all, so_far_place, so_far_length, so_far_put}
use Rattle.pb_lists.proofs.Entries.{there_is}
use Rattle.pb_lists.proofs.reopening.reopen_rows.Goals as goal

pub reopen_at-requires-clause-place : goal.reopen_at-requires-clause-place
reopen_at-requires-clause-place c =
    let weight = weight_of c.args.num c.args.den in
    let same = ap length c.places.invariant.written ∙ so_far_length weight c.args.bound c.places.place c.args.rows.now.entries in
    omega (arith, same, c.places-test.true, c.len-place-end.ensures.count)

pub places-preserved : goal.places-preserved
places-preserved c =
    let weight = weight_of c.args.num c.args.den in
    let entries = c.args.rows.now.entries in
    let place = c.places.place in
    let at = there_is entries place (omega (arith, c.places-test.true, c.len-place-end.ensures.count)) in
    let found = ap (λ list. slice_get list place) c.places.invariant.written ∙ so_far_place weight c.args.bound place entries ∙ at.2 in
    record {
      written = c.reopen_at.ensures at.0 at.1 found
          ∙ (ap (λ list. insert_entry nat_eq list at.0 (reopened_at weight c.args.bound at.1)) c.places.invariant.written
          ∙ (so_far_put weight c.args.bound place entries at.0 at.1 c.len-place-end.ensures.distinct at.2
          ∙ ap (λ n. so_far weight c.args.bound n entries) (sym (add-one place))));
    }

pub returns : goal.returns
returns c =
    let weight = weight_of c.args.num c.args.den in
    c.places.invariant.written ∙ so_far_all weight c.args.bound c.places.place c.args.rows.now.entries (omega (arith, c.places-test.false, c.len-place-end.ensures.count))
