use Rattle.std.proofs.Common.{◌∙◌, refl, subst, arith, length, rules}
use Rattle.std.proofs.lemmas.Option.{slice_get_read, slice_get_within, get_or_from_slice_get}
use Rattle.pb_owners.specs.declared.seat.Seat.{Seat}
use Rattle.pb_owners.specs.Rounds.{HasBegun}
use Rattle.pb_owners.proofs.together.begin_all.Goals as goal

pub for_each_owner-requires-clause-accepts : goal.for_each_owner-requires-clause-accepts
for_each_owner-requires-clause-accepts g c κs within i p less is = (
  (
    (let m = c.requires.many in let f = c.requires.plan.few in omega arith),
    c.requires.plan,
    c.requires.post,
    c.requires.ready.at i p.now (slice_get_read c.args.seats.now (length c.args.seats.now) i p.now refl less is),
  ),
  search rules,
)

pub returns : goal.returns
returns g c =
    let olds = c.args.seats.now in
    let news = c.for_each_owner.new.items in
    record {
      many = c.for_each_owner.auto.items;
      at = λ i x y was is.
          let call = (c.for_each_owner.ensures i x (slice_get_within olds i x was)).1 in
          let old_is = call.argument_is ∙ get_or_from_slice_get olds i x x was in
          let new_is = call.left ∙ get_or_from_slice_get news i y x is in
          subst (λ (s : Seat). HasBegun c.args.plan.now c.args.post.now i x s) new_is (subst (λ (s : Seat). HasBegun c.args.plan.now c.args.post.now i s call.after_call.now) old_is call.call);
    }
