use Rattle.std.proofs.Common.{◌≡◌, ℕ, ◌++◌, [], ◌∷◌, length, get_or, take, All, Contains}
use Rattle.pb_estimate.proofs.relaxed.push_each.Given as goal

abbrev pub invariant-loop-atom : goal.invariant-loop-atom
invariant-loop-atom l = record {
  many : length l.lists.items ≡ length l.initial.lists.items;
  pushed : All (λ atom. get_or l.lists.items atom [] ≡ get_or l.initial.lists.items atom [] ++ l.action ∷ []) (take l.atom-index l.atoms);
  others : (atom : ℕ) → (Contains (take l.atom-index l.atoms) atom → ⊥) → get_or l.lists.items atom [] ≡ get_or l.initial.lists.items atom [];
}
