use Rattle.std.proofs.Common.{◌+◌, refl, subst, arith, slice_index_or}
use Rattle.std.specs.Fork.{ChangesAt}
use Rattle.pb_owners.proofs.forking.for_each_owner.Goals as goal

pub returns : goal.returns
returns g c i d less = (
  refl,
  subst (λ n. ChangesAt g.F.Fn c.args.f.now n (slice_index_or c.args.items.now i d) (slice_index_or c.calls_from.new.items i d)) {x = 0 + i} (omega arith) (c.calls_from.ensures.each i d less),
)
