use Rattle.std.proofs.Common.{◌≡◌, ◌∙◌, ℕ, List, None, Some, sym, ap, refl, subst, slice_get, length, nat_eq, option_copied, if◌then◌else◌}
use Rattle.indexmap.specs.IndexMap.{insert_entry}
use Rattle.pb_model.specs.declared.row.Row.{Row}
use Rattle.pb_model.specs.declared.row.Status.TheVariants.{Opened}
use Rattle.pb_lists.specs.Bundle.{row_in}
use Rattle.pb_lists.specs.Fields.{weight_of}
use Rattle.pb_lists.specs.Buckets.{AreFields, HasFiled, IsTidy, HasPlaces}
use Rattle.pb_lists.proofs.Filing.{kept_filed, put_filed, tidy_more, live_row, put_places}
use Rattle.pb_lists.proofs.Tables.{put_new, put_found}
use Rattle.pb_lists.proofs.bundle.Bundle.offer_new.Goals as goal

-- a row entered at an equal state is that row at this state
entered : (rows after : List (ℕ × Row)) {words state : ℕ} {small row : Row}
    → after ≡ insert_entry nat_eq rows words small → words ≡ state → small ≡ row → after ≡ insert_entry nat_eq rows state row
entered rows after {words} {state} {small} {row} e f g = e ∙ (ap (λ (s : ℕ). insert_entry nat_eq rows s small) f ∙ ap (λ (r : Row). insert_entry nat_eq rows state r) g)

pub invariant_of-self-in_err-file : goal.invariant_of-self-in_err-file
invariant_of-self-in_err-file c =
    let weight = weight_of c.self.inside.num c.self.inside.den in
    subst (λ entries. AreFields weight entries c.file.new.buckets) (sym c.reserve.ensures.entries) (record {
      filed = kept_filed weight c.self.inside.rows.entries c.self.inside.opened c.file.new.buckets c.file.ensures.kept c.self.invariant.filed;
      tidy = c.in_err-file.ensures.err weight c.self.inside.rows.entries c.self.invariant.tidy;
      placed = c.in_err-file.ensures.same c.self.inside.rows.entries c.self.invariant.placed;
      is_weight = c.self.invariant.is_weight;
    })

pub invariant_of-self-2 : goal.invariant_of-self-2
invariant_of-self-2 c =
    let weight = weight_of c.self.inside.num c.self.inside.den in
    let rows = c.reserve.new.self.entries in
    let after = c.insert_small.new.self.entries in
    let state = c.args.state.now in
    let row : Row = record { g = c.args.g; estimate = c.args.estimate; parent = option_copied c.args.parent; action = c.args.action; status = Opened } in
    let new : after ≡ insert_entry nat_eq rows state row = entered rows after c.insert_small.ensures.entries c.in-Some.ensures.state c.in-Some.ensures.row in
    let sets : (other : ℕ) → row_in after other ≡ (if nat_eq state other then Some row else row_in rows other) =
    λ other. ap (λ entries. row_in entries other) new ∙ put_found state row rows other in
    let same = sym c.reserve.ensures.entries in
    let none = rw (← c.self.view_is) at c.requires in
    let absent = subst (λ entries. row_in entries state ≡ None) same none in
    let filed = subst (λ entries. HasFiled weight entries c.self.inside.opened) same c.self.invariant.filed in
    let tidy = subst (λ entries. IsTidy weight entries c.self.inside.opened) same c.self.invariant.tidy in
    let placed = subst (λ entries. HasPlaces entries c.self.inside.opened) same c.self.invariant.placed in
    let here : slice_get after c.len-next.result ≡ Some (state, row) =
    ap (λ n. slice_get after n) c.len-next.ensures.count
    ∙ (ap (λ entries. slice_get entries (length rows)) new ∙ put_new rows state row absent) in
    let live = live_row weight rows after state row sets c.key_of-key.result c.key_of-key.ensures refl in
    record {
      filed = put_filed weight rows after state row sets c.self.inside.opened c.file.new.buckets c.key_of-key.result c.key_of-key.ensures
          (c.len-next.result, c.in_ok-file.ensures.filed) c.file.ensures.kept filed;
      tidy = c.in_ok-file.ensures.led weight after live (tidy_more weight rows after state row sets c.self.inside.opened absent tidy);
      placed = c.in_ok-file.ensures.placed after (row, here) (subst (λ entries. HasPlaces entries c.self.inside.opened) (sym new) (put_places rows state row c.self.inside.opened placed));
      is_weight = c.self.invariant.is_weight;
    }
