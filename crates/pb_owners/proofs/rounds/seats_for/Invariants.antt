use Rattle.std.proofs.Common.{◌≡◌, ◌++◌, ◌+◌, map, reverse, All, vec_len, vec_capacity}
use Rattle.pb_owner.specs.declared.share.Share.{Share}
use Rattle.pb_owner.specs.Plans.{weight_in}
use Rattle.pb_owners.specs.Plans.{HasTools}
use Rattle.pb_owners.specs.Shares.{share_of}
use Rattle.pb_owners.proofs.rounds.seats_for.Given as goal

abbrev pub invariant-loop-share : goal.invariant-loop-share
invariant-loop-share l = record {
  shares : l.shares.items ++ map share_of (reverse l.seats.items) ≡ l.fn.shares.items;
  tools : All (HasTools l.plan) l.seats.items;
  weights : All (λ (s : Share). s.bundle.weight ≡ weight_in l.plan) l.shares.items;
  room : vec_capacity l.seats ≡ vec_len l.fn.shares;
  many : vec_len l.seats + vec_len l.shares ≡ vec_len l.fn.shares;
}

abbrev pub decreases-loop-share : goal.decreases-loop-share
decreases-loop-share l = vec_len l.shares
