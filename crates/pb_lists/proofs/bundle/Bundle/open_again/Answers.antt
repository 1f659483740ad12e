use Rattle.std.proofs.Common.{◌≡◌, ◌∙◌, Some, sym, ap, subst, nat_eq, slice_get}
use Rattle.indexmap.specs.IndexMap.{insert_entry}
use Rattle.pb_lists.specs.Bundle.{row_in, SetsRow}
use Rattle.pb_lists.specs.Fields.{weight_of}
use Rattle.pb_lists.specs.Buckets.{AreFields, HasFiled, HasPlaces}
use Rattle.pb_lists.proofs.Entries.{row_sets}
use Rattle.pb_lists.proofs.Filing.{kept_filed, put_filed, put_places}
use Rattle.pb_lists.proofs.Tables.{put_place}
use Rattle.pb_lists.proofs.bundle.Bundle.open_again.Goals as goal

pub invariant_of-self-in_err-file : goal.invariant_of-self-in_err-file
invariant_of-self-in_err-file c =
    let weight = weight_of c.self.inside.num c.self.inside.den in
    subst (λ entries. AreFields weight entries c.file.new.buckets) (sym c.make_place.ensures.entries) (record {
      filed = kept_filed weight c.self.inside.rows.entries c.self.inside.opened c.file.new.buckets c.file.ensures.kept c.self.invariant.filed;
      tidy = c.in_err-file.ensures.err weight c.self.inside.rows.entries c.self.invariant.tidy;
      placed = c.in_err-file.ensures.same c.self.inside.rows.entries c.self.invariant.placed;
      is_weight = c.self.invariant.is_weight;
    })

pub invariant_of-self-2 : goal.invariant_of-self-2
invariant_of-self-2 c =
    let weight = weight_of c.self.inside.num c.self.inside.den in
    let rows = c.make_place.new.self.entries in
    let was = rw (← c.self.view_is) at c.requires.place in
    let there = subst (λ entries. slice_get entries c.args.place ≡ Some (c.args.state.now, was.0)) (sym c.make_place.ensures.entries) was.1 in
    let filed = subst (λ entries. HasFiled weight entries c.self.inside.opened) (sym c.make_place.ensures.entries) c.self.invariant.filed in
    record {
      filed = c.tidy.ensures.filed
          (put_filed weight rows c.put_at.new.self.entries c.args.state.now c.args.row.now (c.put_at.ensures.updates was.0 there)
          c.self.inside.opened c.file.new.buckets c.key_of-key.result c.key_of-key.ensures (c.args.place, c.in_ok-file.ensures.filed) c.file.ensures.kept filed);
      tidy = c.tidy.ensures.tidy;
      placed = c.tidy.ensures.placed;
      is_weight = c.self.invariant.is_weight;
    }

pub tidy-requires-clause-placed : goal.tidy-requires-clause-placed
tidy-requires-clause-placed c =
    let rows = c.make_place.new.self.entries in
    let was = rw (← c.self.view_is) at c.requires.place in
    let there = subst (λ entries. slice_get entries c.args.place ≡ Some (c.args.state.now, was.0)) (sym c.make_place.ensures.entries) was.1 in
    let new = c.put_at.ensures.entries was.0 there in
    let placed = subst (λ entries. HasPlaces entries c.self.inside.opened) (sym c.make_place.ensures.entries) c.self.invariant.placed in
    let here = put_place rows c.args.state.now c.args.row.now c.args.place c.args.state.now was.0 there in
    c.in_ok-file.ensures.placed c.put_at.new.self.entries (here.0, ap (λ entries. slice_get entries c.args.place) new ∙ here.1)
    (subst (λ entries. HasPlaces entries c.self.inside.opened) (sym new) (put_places rows c.args.state.now c.args.row.now c.self.inside.opened placed))

pub returns-clause-put : goal.returns-clause-put
returns-clause-put c =
    let was = rw (← c.self.view_is) at c.requires.place in
    let there = subst (λ entries. slice_get entries c.args.place ≡ Some (c.args.state.now, was.0)) (sym c.make_place.ensures.entries) was.1 in
    rw (← c.self.view_is)
    (ap (λ entries. record { entries = entries; weight = weight_of c.self.inside.num c.self.inside.den })
    (c.put_at.ensures.entries was.0 there ∙ ap (λ entries. insert_entry nat_eq entries c.args.state.now c.args.row.now) c.make_place.ensures.entries))

pub returns-clause-sets : goal.returns-clause-sets
returns-clause-sets c =
    let was = rw (← c.self.view_is) at c.requires.place in
    let there = subst (λ entries. slice_get entries c.args.place ≡ Some (c.args.state.now, was.0)) (sym c.make_place.ensures.entries) was.1 in
    let sets = row_sets c.make_place.new.self.entries c.put_at.new.self.entries c.args.state.now c.args.row.now (c.put_at.ensures.updates was.0 there) in
    rw (← c.self.view_is)
    (subst (λ entries. SetsRow (row_in entries) (row_in c.put_at.new.self.entries) c.args.state.now c.args.row.now) c.make_place.ensures.entries sets)
