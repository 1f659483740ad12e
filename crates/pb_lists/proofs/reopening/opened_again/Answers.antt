use Rattle.std.proofs.Common.{◌≡◌, ◌+◌, refl, sym, ap, subst, ◌∙◌, true≢false, arith}
use Rattle.pb_lists.specs.Fields.{weight_of}
use Rattle.pb_lists.specs.Buckets.{has_in}
use Rattle.pb_lists.proofs.AgainOpened.{none_tidy, none_at, filed_next, filed_fewer, all_filed}
use Rattle.pb_lists.proofs.reopening.opened_again.Goals as goal

pub places-init : goal.places-init
places-init c = record {
  filed = λ place state row less. absurd (omega (arith, less));
  tidy = none_tidy (weight_of c.args.num c.args.den) _ c.new-opened.result c.new-opened.ensures.empty;
  placed = λ sum entry has. absurd (true≢false (sym has ∙ none_at c.new-opened.result c.new-opened.ensures.empty sum entry));
}

pub places-preserved : goal.places-preserved
places-preserved c = record {
  filed = filed_next (weight_of c.args.num c.args.den) c.args.bound c.args.rows.now.entries c.places.opened c.file_at.new.opened c.places.place c.file_at.ensures.kept c.in_ok-file_at.ensures.filed c.places.invariant.filed;
  tidy = c.in_ok-file_at.ensures.tidy c.places.invariant.tidy;
  placed = c.in_ok-file_at.ensures.placed c.places.invariant.placed;
}

pub returns : goal.returns
returns c = record {
  filed = all_filed (weight_of c.args.num c.args.den) c.args.bound c.args.rows.now.entries c.places.opened
      (filed_fewer (weight_of c.args.num c.args.den) c.args.bound c.args.rows.now.entries c.places.opened c.places.place _ (omega (arith, c.places-test.false, c.len-place-end.ensures.count)) c.places.invariant.filed);
  tidy = c.places.invariant.tidy;
  placed = c.places.invariant.placed;
  is_weight = c.requires;
}
