-- The atoms in the queue whose costs may be open.
use Rattle.std.proofs.Common.{◌≡◌, ℕ, ◌+◌, ◌-◌, ◌<◌, ◌≤◌, true, false, List, length, get_or, take, drop, min, All, is_some, sym, subst, ap, arith, ◌∙◌, ◌⊎◌, inl, inr}
use Rattle.std.proofs.lemmas.Bool.{cases_lt}
use Rattle.std.proofs.lemmas.List.{get_or_default, get_or-take, get_or-drop, length-take, length-drop}
use Rattle.pb_estimate.specs.declared.exploration.AtomCost.{AtomCost}
use Rattle.pb_estimate.specs.declared.exploration.AtomCost.TheVariants.{Open}
use Rattle.pb_estimate.specs.Exploring.{count, known_cost, final_cost, known_in, cost_in, is_final_in}
use Rattle.pb_estimate.proofs.Rounds.{count_is_small}

-- the atoms from one place of the queue to another
abbrev pub part : (queue : List ℕ) → (first reached : ℕ) → List ℕ
part queue first reached = take (reached - first) (drop first queue)

part_at : (queue : List ℕ) (first reached k d : ℕ) → k < reached - first → get_or (part queue first reached) k d ≡ get_or queue (first + k) d
part_at queue first reached k d less = get_or-take (reached - first) (drop first queue) k d less ∙ get_or-drop first queue k d

part_long : (queue : List ℕ) (first reached : ℕ) → first ≤ reached → reached ≤ length queue → length (part queue first reached) ≡ reached - first
part_long queue first reached le room = let e : length (part queue first reached) ≡ min (reached - first) (length (drop first queue)) = length-take (reached - first) (drop first queue) in
    let rest : length (drop first queue) ≡ length queue - first = length-drop first queue in
    omega arith

-- what was reached has a place
pub at_place : (costs : List AtomCost) (queue : List ℕ) (reached at : ℕ) → length queue ≡ length costs → reached ≡ count (λ atom. is_some (cost_in costs atom)) (length costs) → at < reached → at < length queue
at_place costs queue reached at places many less =
    let few : count (λ atom. is_some (cost_in costs atom)) (length costs) ≤ length costs = count_is_small (λ atom. is_some (cost_in costs atom)) (length costs) in omega (arith, places, many, less, few)

module _ (costs : List AtomCost) (queue : List ℕ) (first reached : ℕ) (le : first ≤ reached) (room : reached ≤ length queue) where
  pub part_inside : ((k : ℕ) → k < reached → get_or queue k 0 < length costs) → All (λ atom. atom < length costs) (part queue first reached)
  part_inside inside k d less =
      let long : length (part queue first reached) ≡ reached - first = part_long queue first reached le room in
      let k_less : k < reached - first = omega arith in
      subst (λ atom. atom < length costs) (sym (part_at queue first reached k d k_less ∙ get_or_default queue (first + k) d 0 (omega arith)))
      (inside (first + k) (omega arith))

  -- what holds for the atoms in the part holds for each atom whose cost is open
  pub open_in_part : (P : ℕ → Type 0) → ((atom : ℕ) → is_some (cost_in costs atom) ≡ true → (k : ℕ) × (k < reached) × (get_or queue k 0 ≡ atom))
      → ((k : ℕ) → k < first → is_final_in costs (get_or queue k 0) ≡ true) → All P (part queue first reached) → (atom c : ℕ) → known_in costs atom ≡ Open c → P atom
  open_in_part P all passed each atom c is =
      go (all atom (ap (λ known. is_some (known_cost known)) is))
    where
      late : (k : ℕ) → get_or queue k 0 ≡ atom → k < first → ⊥
      late k at less =
          let wrong : false ≡ true = sym (ap (λ known. is_some (final_cost known)) is) ∙ ap (λ a. is_final_in costs a) (sym at) ∙ passed k less in cc

      here : (k : ℕ) → k < reached → get_or queue k 0 ≡ atom → first ≤ k → P atom
      here k less at from =
          let long : length (part queue first reached) ≡ reached - first = part_long queue first reached le room in
          let k_less : k - first < reached - first = omega arith in
          let same : first + (k - first) ≡ k = omega arith in
          subst P (part_at queue first reached (k - first) 0 k_less ∙ ap (λ j. get_or queue j 0) same ∙ at) (each (k - first) 0 (omega arith))

      go : (k : ℕ) × (k < reached) × (get_or queue k 0 ≡ atom) → P atom
      go (k, less, at) = either (cases_lt k first) where
        either : (k < first) ⊎ (first ≤ k) → P atom
        either (inl early) = absurd (late k at early)
        either (inr from) = here k less at from
