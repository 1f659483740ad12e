use Rattle.std.proofs.Common.{◌≡◌, ◌∙◌, Some, sym, ap, subst, nat_eq, slice_get}
use Rattle.std.proofs.lemmas.Cmp.{nat_eq_equiv}
use Rattle.std.proofs.lemmas.Map.Entries.{lookup_from_place}
use Rattle.indexmap.specs.IndexMap.{insert_entry}
use Rattle.pb_model.specs.declared.row.Row.{Row}
use Rattle.pb_lists.specs.Bundle.{row_in}
use Rattle.pb_lists.specs.Fields.{weight_of}
use Rattle.pb_lists.specs.Buckets.{HasPlaces}
use Rattle.pb_lists.proofs.Entries.{status_sets}
use Rattle.pb_lists.proofs.Filing.{settled_filed, tidy_other, top_placed, put_places}
use Rattle.pb_lists.proofs.bundle.Bundle.settle.Goals as goal

pub tidy-requires-clause-placed : goal.tidy-requires-clause-placed
tidy-requires-clause-placed c =
    let entries = c.self.inside.rows.entries in
    let state = c.args.state.now in
    let at = top_placed entries c.self.inside.opened.entries state c.in-Some.place c.self.invariant.placed (sym c.in-Some.ensures) in
    subst (λ after. HasPlaces after c.self.inside.opened) (sym (c.set_status_at.ensures.entries state at.0 at.1))
    (put_places entries state (record at.0 { status = c.args.status }) c.self.inside.opened c.self.invariant.placed)

pub invariant_of-self : goal.invariant_of-self
invariant_of-self c =
    let entries = c.self.inside.rows.entries in
    let state = c.args.state.now in
    let at = top_placed entries c.self.inside.opened.entries state c.in-Some.place c.self.invariant.placed (sym c.in-Some.ensures) in
    record {
      filed = c.tidy.ensures.filed
          (settled_filed (weight_of c.self.inside.num c.self.inside.den) entries c.set_status_at.new.self.entries state (record at.0 { status = c.args.status })
          (c.set_status_at.ensures.updates state at.0 at.1) c.self.inside.opened c.requires.settled c.self.invariant.filed);
      tidy = c.tidy.ensures.tidy;
      placed = c.tidy.ensures.placed;
      is_weight = c.self.invariant.is_weight;
    }

pub returns-in-Some-clause-put : goal.returns-in-Some-clause-put
returns-in-Some-clause-put c = λ row found.
    let entries = c.self.inside.rows.entries in
    let state = c.args.state.now in
    let at = top_placed entries c.self.inside.opened.entries state c.in-Some.place c.self.invariant.placed (sym c.in-Some.ensures) in
    let there : row_in entries state ≡ Some row = rw (← c.self.view_is) at found in
    let both : Some at.0 ≡ Some row = sym (lookup_from_place nat_eq_equiv entries c.in-Some.place state at.0 c.len.ensures.distinct at.1) ∙ there in
    let same : at.0 ≡ row = cc in
    rw (← c.self.view_is)
    (ap (λ entries. record { entries = entries; weight = weight_of c.self.inside.num c.self.inside.den })
    (c.set_status_at.ensures.entries state at.0 at.1 ∙ ap (λ (r : Row). insert_entry nat_eq entries state (record r { status = c.args.status })) same))

pub returns-in-Some-clause-sets : goal.returns-in-Some-clause-sets
returns-in-Some-clause-sets c =
    let entries = c.self.inside.rows.entries in
    let state = c.args.state.now in
    let at = top_placed entries c.self.inside.opened.entries state c.in-Some.place c.self.invariant.placed (sym c.in-Some.ensures) in
    rw (← c.self.view_is)
    (status_sets entries c.set_status_at.new.self.entries state at.0 c.args.status
    (lookup_from_place nat_eq_equiv entries c.in-Some.place state at.0 c.len.ensures.distinct at.1) (c.set_status_at.ensures.updates state at.0 at.1))

pub invariant_of-self-in-None : goal.invariant_of-self-in-None
invariant_of-self-in-None c =
    let opened = rw (← c.self.view_is) at c.requires.opened in
    let entries = c.self.inside.rows.entries in
    let state = c.args.state.now in
    let weight = weight_of c.self.inside.num c.self.inside.den in
    let row = record opened.0 { status = c.args.status } in
    let updates = c.set_status.ensures.updates opened.0 opened.1 in
    record {
      filed = settled_filed weight entries c.set_status.new.self.entries state row updates c.self.inside.opened c.requires.settled c.self.invariant.filed;
      tidy = tidy_other weight entries c.set_status.new.self.entries state row updates c.self.inside.opened.entries c.self.invariant.tidy (sym c.in-None.ensures);
      placed = subst (λ after. HasPlaces after c.self.inside.opened) (sym (c.set_status.ensures.entries opened.0 opened.1)) (put_places entries state row c.self.inside.opened c.self.invariant.placed);
      is_weight = c.self.invariant.is_weight;
    }

pub returns-in-None-clause-sets : goal.returns-in-None-clause-sets
returns-in-None-clause-sets c =
    let opened = rw (← c.self.view_is) at c.requires.opened in
    rw (← c.self.view_is)
    (status_sets c.self.inside.rows.entries c.set_status.new.self.entries c.args.state.now opened.0 c.args.status opened.1 (c.set_status.ensures.updates opened.0 opened.1))
