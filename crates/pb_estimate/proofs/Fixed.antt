-- The equation of hmax: the costs after the last round satisfy it, and no others do.
use Rattle.std.proofs.Common.{◌≡◌, ℕ, zero, suc, ◌+◌, ◌<◌, ◌≤◌, Bool, true, false, List, Option, None, Some, if◌then◌else◌, refl, sym, subst, arith, ◌⊎◌, inl, inr}
use Rattle.std.proofs.lemmas.List.Elements.{All-contains}
use Rattle.pb_task.specs.declared.parts.GroundAction.{GroundAction}
use Rattle.pb_task.specs.declared.parts.StripsParts.{StripsParts}
use Rattle.pb_task.specs.Strips.{has_atom, IsGroundAction, IsStrips}
use Rattle.pb_estimate.specs.Hmax.{IsAtMost, cheapest_by, atom_cost, SatisfyHmax}
use Rattle.pb_estimate.specs.Laws.{HmaxIsFixed}
use Rattle.pb_estimate.proofs.Costs.{lesser_right, lesser_cases, same_cost, CostsByOne, cheapest_is, cheapest_from}
use Rattle.pb_estimate.proofs.Rounds.{in_later_rounds, no_cheaper, stays}

-- ---- atoms that hold

pub holds_from : (test : Bool) (cost : ℕ) → test ≡ true → IsAtMost (if test then Some 0 else None) cost
holds_from true cost e = omega arith
holds_from false cost e = cc

pub holds_is : (test : Bool) (cost : ℕ) → IsAtMost (if test then Some 0 else None) cost → test ≡ true
holds_is true cost h = refl
holds_is false cost h = absurd h

-- costs that are no greater than others make what actions add no more expensive
pub cheaper_by : (count : ℕ) (costs costs' : ℕ → Option ℕ) (atom : ℕ) (actions : List GroundAction) (cost : ℕ)
    → ((need c : ℕ) → need < count → IsAtMost (costs need) c → IsAtMost (costs' need) c) → CostsByOne count costs atom actions cost → IsAtMost (cheapest_by count costs' atom actions) cost
cheaper_by count costs costs' atom actions cost no_greater one = cheapest_from count costs' atom actions cost one.action one.among (record {
  adds = one.by.adds;
  needed = one.by.needed;
  needs = λ need less has. no_greater need one.by.needed less (one.by.needs need less has);
  sum = one.by.sum;
})

module _ (strips : StripsParts) (state : ℕ) where
  final : ℕ → Option ℕ
  final atom = atom_cost strips state strips.atoms atom

  by_actions : (costs : ℕ → Option ℕ) (atom : ℕ) → Option ℕ
  by_actions costs atom = cheapest_by strips.atoms costs atom strips.actions

  -- what one round more makes of the last costs is no less than they are
  not_less : (atom cost : ℕ) → atom < strips.atoms → IsAtMost (by_actions final atom) cost → IsAtMost (final atom) cost
  unfolding final by_actions
  not_less atom cost less h =
      no_cheaper strips state (suc strips.atoms) atom cost less
      (lesser_right (atom_cost strips state strips.atoms atom) (cheapest_by strips.atoms (atom_cost strips state strips.atoms) atom strips.actions) cost h)

  pub at_first : (round atom cost : ℕ) → has_atom state atom ≡ true → IsAtMost (atom_cost strips state round atom) cost
  at_first round atom cost has = in_later_rounds strips state atom cost 0 round (omega arith) (holds_from (has_atom state atom) cost has)

  -- an atom that costs something in a round holds, or actions add it at that cost
  reason : (round atom cost : ℕ) → IsAtMost (atom_cost strips state round atom) cost → (has_atom state atom ≡ true) ⊎ IsAtMost (by_actions final atom) cost
  unfolding final by_actions
  reason zero atom cost h = inl (holds_is (has_atom state atom) cost h)
  reason (suc round) atom cost h =
      go (reason round atom cost) (lesser_cases (atom_cost strips state round atom) (cheapest_by strips.atoms (atom_cost strips state round) atom strips.actions) cost h)
    where
      go : (IsAtMost (atom_cost strips state round atom) cost → (has_atom state atom ≡ true) ⊎ IsAtMost (by_actions final atom) cost)
          → IsAtMost (atom_cost strips state round atom) cost ⊎ IsAtMost (cheapest_by strips.atoms (atom_cost strips state round) atom strips.actions) cost
          → (has_atom state atom ≡ true) ⊎ IsAtMost (by_actions final atom) cost
      go rest (inl was) = rest was
      go rest (inr by) =
          inr (cheaper_by strips.atoms (atom_cost strips state round) (atom_cost strips state strips.atoms) atom strips.actions cost
          (λ need c less. no_cheaper strips state round need c less) (cheapest_is strips.atoms (atom_cost strips state round) atom strips.actions cost by))

  pub cause : (round atom cost : ℕ) → IsAtMost (atom_cost strips state round atom) cost
      → (has_atom state atom ≡ true) ⊎ IsAtMost (cheapest_by strips.atoms (atom_cost strips state strips.atoms) atom strips.actions) cost
  unfolding final by_actions
  cause round atom cost h = reason round atom cost h

  satisfied : SatisfyHmax strips state (atom_cost strips state strips.atoms)
  unfolding final by_actions
  satisfied atom less = go (has_atom state atom) refl where
    go : (test : Bool) → has_atom state atom ≡ test → final atom ≡ (if test then Some 0 else by_actions final atom)
    go true has = same_cost (final atom) (Some 0) (λ cost h. omega arith) (λ cost h. at_first strips.atoms atom cost has)
    go false hasn't = same_cost (final atom) (by_actions final atom) (λ cost h. either cost (reason strips.atoms atom cost h)) (λ cost h. not_less atom cost less h) where
      either : (cost : ℕ) → (has_atom state atom ≡ true) ⊎ IsAtMost (by_actions final atom) cost → IsAtMost (by_actions final atom) cost
      either cost (inl has) = cc
      either cost (inr by) = by

  module _ (is : IsStrips strips) (costs : ℕ → Option ℕ) (satisfy : SatisfyHmax strips state costs) where
    -- what holds, or what actions add, costs this much
    enough : (atom cost : ℕ) → atom < strips.atoms → (has_atom state atom ≡ true) ⊎ IsAtMost (by_actions costs atom) cost → IsAtMost (costs atom) cost
    unfolding by_actions
    enough atom cost less h = subst (λ o. IsAtMost o cost) (sym (satisfy atom less)) (go (has_atom state atom) h) where
      go : (test : Bool) → (test ≡ true) ⊎ IsAtMost (by_actions costs atom) cost → IsAtMost (if test then Some 0 else by_actions costs atom) cost
      go true h = omega arith
      go false (inl e) = cc
      go false (inr by) = by

    due : (atom cost : ℕ) → atom < strips.atoms → IsAtMost (costs atom) cost → (has_atom state atom ≡ true) ⊎ IsAtMost (by_actions costs atom) cost
    unfolding by_actions
    due atom cost less h = go (has_atom state atom) (subst (λ o. IsAtMost o cost) (satisfy atom less) h) where
      go : (test : Bool) → IsAtMost (if test then Some 0 else by_actions costs atom) cost → (test ≡ true) ⊎ IsAtMost (by_actions costs atom) cost
      go true h = inl refl
      go false h = inr h

    no_more : (round atom cost : ℕ) → atom < strips.atoms → IsAtMost (atom_cost strips state round atom) cost → IsAtMost (costs atom) cost
    unfolding by_actions
    no_more zero atom cost less h = enough atom cost less (inl (holds_is (has_atom state atom) cost h))
    no_more (suc round) atom cost less h =
        go (no_more round) (lesser_cases (atom_cost strips state round atom) (cheapest_by strips.atoms (atom_cost strips state round) atom strips.actions) cost h)
      where
        go : ((need c : ℕ) → need < strips.atoms → IsAtMost (atom_cost strips state round need) c → IsAtMost (costs need) c)
            → IsAtMost (atom_cost strips state round atom) cost ⊎ IsAtMost (cheapest_by strips.atoms (atom_cost strips state round) atom strips.actions) cost → IsAtMost (costs atom) cost
        go rest (inl was) = rest atom cost less was
        go rest (inr by) =
            enough atom cost less
            (inr (cheaper_by strips.atoms (atom_cost strips state round) costs atom strips.actions cost rest (cheapest_is strips.atoms (atom_cost strips state round) atom strips.actions cost by)))

    -- by induction on the cost, since each action costs something
    no_less : (bound atom cost : ℕ) → cost < bound → atom < strips.atoms → IsAtMost (costs atom) cost → IsAtMost (final atom) cost
    unfolding final by_actions
    no_less zero atom cost below less h = absurd (omega (arith, below))
    no_less (suc bound) atom cost below less h = go (no_less bound) (due atom cost less h) where
      go : ((need c : ℕ) → c < bound → need < strips.atoms → IsAtMost (costs need) c → IsAtMost (final need) c)
          → (has_atom state atom ≡ true) ⊎ IsAtMost (by_actions costs atom) cost → IsAtMost (final atom) cost
      go rest (inl has) = at_first strips.atoms atom cost has
      go rest (inr by) =
          let one : CostsByOne strips.atoms costs atom strips.actions cost = cheapest_is strips.atoms costs atom strips.actions cost by in
          let positive : 1 ≤ one.action.cost = (All-contains (IsGroundAction strips.atoms) strips.actions one.action is.actions one.among).cost.0 in
          let lower : one.by.needed < bound = (let sum : one.action.cost + one.by.needed ≤ cost = one.by.sum in omega (arith, below)) in
          not_less atom cost less
          (cheapest_from strips.atoms final atom strips.actions cost one.action one.among (record {
            adds = one.by.adds;
            needed = one.by.needed;
            needs = λ need need_less has. rest need one.by.needed lower need_less (one.by.needs need need_less has);
            sum = one.by.sum;
          }))

    unique : (atom : ℕ) → atom < strips.atoms → costs atom ≡ atom_cost strips state strips.atoms atom
    unfolding final
    unique atom less =
        same_cost (costs atom) (final atom) (λ cost h. no_less (suc cost) atom cost (omega arith) less h) (λ cost h. no_more strips.atoms atom cost less h)

pub hmax_is_fixed : HmaxIsFixed
hmax_is_fixed strips is state = (satisfied strips state, unique strips state is, λ round atom late less. stays strips state round atom less late)
