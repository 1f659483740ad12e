use Rattle.std.proofs.Common.{◌≡◌, ◌∙◌, None, Some, sym, ap, subst, slice_get, length}
use Rattle.pb_lists.specs.Bundle.{row_in}
use Rattle.pb_lists.specs.Fields.{weight_of}
use Rattle.pb_lists.specs.Buckets.{AreFields, HasFiled, IsTidy, HasPlaces}
use Rattle.pb_lists.proofs.Filing.{kept_filed, put_filed, tidy_more, live_row, put_places}
use Rattle.pb_lists.proofs.Tables.{put_new}
use Rattle.pb_lists.proofs.bundle.Bundle.add.Goals as goal

pub invariant_of-self-in_err-file : goal.invariant_of-self-in_err-file
invariant_of-self-in_err-file c =
    let weight = weight_of c.self.inside.num c.self.inside.den in
    subst (λ entries. AreFields weight entries c.file.new.buckets) (sym (c.reserve.ensures.entries ∙ c.make_place.ensures.entries)) (record {
      filed = kept_filed weight c.self.inside.rows.entries c.self.inside.opened c.file.new.buckets c.file.ensures.kept c.self.invariant.filed;
      tidy = c.in_err-file.ensures.err weight c.self.inside.rows.entries c.self.invariant.tidy;
      placed = c.in_err-file.ensures.same c.self.inside.rows.entries c.self.invariant.placed;
      is_weight = c.self.invariant.is_weight;
    })

pub invariant_of-self-2 : goal.invariant_of-self-2
invariant_of-self-2 c =
    let weight = weight_of c.self.inside.num c.self.inside.den in
    let rows = c.reserve.new.self.entries in
    let after = c.insert.new.self.entries in
    let sets = c.insert.ensures.updates in
    let new = c.insert.ensures.entries in
    let same = sym (c.reserve.ensures.entries ∙ c.make_place.ensures.entries) in
    let none = rw (← c.self.view_is) at c.requires.absent in
    let absent = subst (λ entries. row_in entries c.args.state.now ≡ None) same none in
    let filed = subst (λ entries. HasFiled weight entries c.self.inside.opened) same c.self.invariant.filed in
    let tidy = subst (λ entries. IsTidy weight entries c.self.inside.opened) same c.self.invariant.tidy in
    let placed = subst (λ entries. HasPlaces entries c.self.inside.opened) same c.self.invariant.placed in
    let here : slice_get after c.len-place.result ≡ Some (c.args.state.now, c.args.row.now) =
    ap (λ n. slice_get after n) c.len-place.ensures.count
    ∙ (ap (λ entries. slice_get entries (length rows)) new ∙ put_new rows c.args.state.now c.args.row.now absent) in
    let live = live_row weight rows after c.args.state.now c.args.row.now sets c.key_of-key.result c.key_of-key.ensures c.requires.opened in
    record {
      filed = put_filed weight rows after c.args.state.now c.args.row.now sets c.self.inside.opened c.file.new.buckets c.key_of-key.result c.key_of-key.ensures
          (c.len-place.result, c.in_ok-file.ensures.filed) c.file.ensures.kept filed;
      tidy = c.in_ok-file.ensures.led weight after live (tidy_more weight rows after c.args.state.now c.args.row.now sets c.self.inside.opened absent tidy);
      placed = c.in_ok-file.ensures.placed after (c.args.row.now, here) (subst (λ entries. HasPlaces entries c.self.inside.opened) (sym new) (put_places rows c.args.state.now c.args.row.now c.self.inside.opened placed));
      is_weight = c.self.invariant.is_weight;
    }
