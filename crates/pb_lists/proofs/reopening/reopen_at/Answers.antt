use Rattle.std.proofs.Common.{◌≡◌, ℕ, sym, ap, ◌∙◌, nat_eq}
use Rattle.std.proofs.lemmas.Cmp.{nat_eq_equiv}
use Rattle.std.proofs.lemmas.Map.Entries.{lookup_from_place}
use Rattle.indexmap.specs.IndexMap.{insert_entry}
use Rattle.pb_model.specs.declared.row.Estimate.{Estimate}
use Rattle.pb_model.specs.declared.row.Status.{Status}
use Rattle.pb_lists.specs.Fields.{weight_of}
use Rattle.pb_lists.proofs.Entries.{put_same}
use Rattle.pb_lists.proofs.AgainOpened.{stays}
use Rattle.pb_lists.proofs.reopening.reopen_at.Goals as goal

pub returns-in_default : goal.returns-in_default
returns-in_default c = λ state row found.
    let entries = c.args.rows.now.entries in
    let weight = weight_of c.args.num c.args.den in
    sym (ap (insert_entry nat_eq entries state) (stays weight c.args.bound row (λ cut. c.in_default.not-Cut (ap (λ (costs : ℕ × Estimate × Status). costs.2) (c.costs_at-costs.ensures state row found) ∙ cut)))
    ∙ put_same state row entries (lookup_from_place nat_eq_equiv entries c.args.place state row c.len.ensures.distinct found))
