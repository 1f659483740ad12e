use Rattle.std.proofs.Common.{◌≡◌, ◌+◌, ◌∙◌, sym, ap, subst, nat_eq, add-one}
use Rattle.indexmap.specs.IndexMap.{insert_entry}
use Rattle.pb_lists.specs.ListedRows.{HasPlaceAt, IsAtLeast}
use Rattle.pb_lists.specs.Rows.{wide_of}
use Rattle.pb_lists.proofs.Tables.{next_written, place_grows}
use Rattle.pb_lists.proofs.wide_rows.widened.Goals as goal

pub entries-preserved : goal.entries-preserved
entries-preserved g c =
    let state = c.at-known.result.0 in
    let row = c.at-known.result.1 in
    record {
      entries = next_written c.args.rows.now.entries c.entries.i (c.entries.i + 1) state row (wide_of c.entries.wide).entries (wide_of c.insert.new.self).entries
          (add-one c.entries.i) c.at-known.ensures.entry (c.insert.ensures.entries ∙ ap (λ entries. insert_entry nat_eq entries state row) c.reserve.ensures.entries)
          c.len.ensures.distinct c.entries.invariant.entries;
      width = c.insert.ensures.width ∙ (c.reserve.ensures.width ∙ c.entries.invariant.width);
    }

pub insert-requires-clause-place : goal.insert-requires-clause-place
insert-requires-clause-place g c =
    place_grows (wide_of c.reserve.new.self).width g.row.W c.at-known.result.0 c.at-known.result.1
    (subst (λ w. IsAtLeast w g.row.W) (sym (c.reserve.ensures.width ∙ c.entries.invariant.width)) c.in_ok-wide.ensures.width) c.at-known.ensures.state c.at-known.ensures.row

pub returns-clause-place : goal.returns-clause-place
returns-clause-place g c = subst (λ w. HasPlaceAt w c.args.state.now c.args.row.now) (sym c.entries.invariant.width) c.in_ok-wide.ensures.place
