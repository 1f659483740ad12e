use Rattle.std.proofs.Common.{◌≡◌, ◌++◌, ◌+◌, ◌≤◌, map, reverse, vec_len, vec_capacity}
use Rattle.pb_owners.specs.Shares.{share_of}
use Rattle.pb_owners.proofs.rounds.shares_of.Given as goal

abbrev pub invariant-loop-seat : goal.invariant-loop-seat
invariant-loop-seat l = record {
  shares : map share_of l.seats.items ++ reverse l.shares.items ≡ map share_of l.fn.seats.items;
  room : vec_len l.fn.seats ≤ vec_capacity l.shares;
  many : vec_len l.shares + vec_len l.seats ≡ vec_len l.fn.seats;
}

abbrev pub decreases-loop-seat : goal.decreases-loop-seat
decreases-loop-seat l = vec_len l.seats
