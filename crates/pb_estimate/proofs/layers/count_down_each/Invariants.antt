use Rattle.std.proofs.Common.{◌≡◌, ℕ, ◌+◌, ◌⊎◌, get_or, take, All, Contains, true}
use Rattle.pb_estimate.specs.Layers.{is_reached, AreLayers, KeepPlaces}
use Rattle.pb_estimate.specs.Relaxed.{relaxed_at}
use Rattle.pb_estimate.proofs.layers.count_down_each.Given as goal

abbrev pub invariant-loop-user : goal.invariant-loop-user
invariant-loop-user l = record {
  is : AreLayers l.goal l.layers;
  counted : All (λ user. get_or l.counts user 0 + 1 ≡ get_or l.initial.counts user 0) (take l.user-index l.users);
  others : (user : ℕ) → (Contains (take l.user-index l.users) user → ⊥) → get_or l.counts user 0 ≡ get_or l.initial.counts user 0;
  kept : KeepPlaces l.initial.layers l.layers;
  stays : (atom : ℕ) → is_reached l.initial.layers atom ≡ true → is_reached l.layers atom ≡ true;
  reaches : All (λ user. get_or l.counts user 0 ≡ 0 → All (λ atom. is_reached l.layers atom ≡ true) (relaxed_at l.actions user).adds) (take l.user-index l.users);
  only : (atom : ℕ) → is_reached l.layers atom ≡ true
      → (is_reached l.initial.layers atom ≡ true) ⊎ ((user : ℕ) × Contains (take l.user-index l.users) user × (get_or l.counts user 0 ≡ 0) × Contains (relaxed_at l.actions user).adds atom);
}
