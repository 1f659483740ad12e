use Rattle.std.proofs.Common.{◌∙◌, refl, subst, arith, length, rules}
use Rattle.std.proofs.lemmas.Option.{slice_get_read, slice_get_within, get_or_from_slice_get}
use Rattle.pb_owners.specs.declared.seat.Seat.{Seat}
use Rattle.pb_owners.specs.Rounds.{HasTaken}
use Rattle.pb_owners.proofs.Looking.{pass_of_left, left_still, all_taken}
use Rattle.pb_owners.proofs.together.end_all.Goals as goal

pub with_letters-busy-requires-clause-passes : goal.with_letters-busy-requires-clause-passes
with_letters-busy-requires-clause-passes g c = pass_of_left c.args.plan.now c.args.post.now c.args.seats.now c.requires.ready

pub for_each_owner-requires-clause-accepts : goal.for_each_owner-requires-clause-accepts
for_each_owner-requires-clause-accepts g c κs within i p less is =
    let mids = c.with_letters-busy.new.seats in
    let left = left_still c.args.plan.now c.args.post.now c.args.seats.now mids c.requires.ready c.with_letters-busy.ensures in (
      (
        (let m = c.requires.many in let f = c.requires.plan.few in let s = c.with_letters-busy.ensures.many in omega arith),
        c.requires.plan,
        c.requires.post,
        left.at i p.now (slice_get_read mids (length mids) i p.now refl less is),
      ),
      search rules,
    )

pub returns : goal.returns
returns g c =
    let olds = c.args.seats.now in
    let mids = c.with_letters-busy.new.seats in
    let news = c.for_each_owner.new.items in
    all_taken c.args.plan.now c.args.post.now olds mids news c.with_letters-busy.ensures (record {
      many = c.for_each_owner.auto.items;
      at = λ i x y was is.
          let call = (c.for_each_owner.ensures i x (slice_get_within mids i x was)).1 in
          let old_is = call.argument_is ∙ get_or_from_slice_get mids i x x was in
          let new_is = call.left ∙ get_or_from_slice_get news i y x is in
          subst (λ (s : Seat). HasTaken c.args.plan.now c.args.post.now i x s) new_is (subst (λ (s : Seat). HasTaken c.args.plan.now c.args.post.now i s call.after_call.now) old_is call.call);
    })
