-- Rules over a few atoms, by the bits of numbers.
use Rattle.std.proofs.Common.{◌≡◌, ℕ, ◌^◌, ◌<◌, ◌≤◌, Bool, true, false, ◌&&◌, ◌||◌, ◌==◌, List, [], ◌∷◌, zero, suc, length, map, Option, None, Some, option_map, if◌then◌else◌, get_or, bit_and, bit_or, refl, sym, ap, ◌∙◌, subst, arith}
use Rattle.std.specs.Prelude.{slice_get}
use Rattle.std.specs.Int.{bit_not, w32}
use Rattle.std.proofs.Math.Nat.{pow-le-pow_right}
use Rattle.std.proofs.lemmas.Bool.{eqb-true, eq-eqb, lt-ltb, ltb-true}
use Rattle.std.proofs.lemmas.Option.{slice_get-map, slice_get-get_or}
use Rattle.std.proofs.lemmas.List.{length-map}
use Rattle.std.proofs.lemmas.List.Elements.{All-get_or}
use Rattle.std.proofs.lemmas.Nat.{or_lt, and_le_l}
use Rattle.pb_model.specs.Space.{IsProper}
use Rattle.pb_task.specs.declared.parts.TaskParts.TheVariants.{Strips}
use Rattle.pb_task.specs.declared.parts.GroundAction.{GroundAction}
use Rattle.pb_task.specs.Strips.{has_atom, is_within, is_strips_goal, holds_after, state_after, step_by, strips_step, IsGroundAction}
use Rattle.pb_task.proofs.Callers.{all_common, any_atom, both_atoms, common_all, from_within, no_atom, same_atoms, sets_are_of_atoms, tasks_are_proper, to_within}
use Rattle.pb_pattern.specs.declared.sets.Rule.{Rule}
use Rattle.pb_pattern.specs.declared.sets.Sets.{Sets}
use Rattle.pb_pattern.specs.Least.{HasStatesBelow}
use Rattle.pb_pattern.specs.Graphs.{action_of, parts_of, sets_space, IsSets}

-- a set is within another where their common atoms are its own
within_test : (count small large : ℕ) → small < 2 ^ count → (bit_and small large == small) ≡ is_within count small large
within_test count small large fits = go (bit_and small large == small) refl (is_within count small large) refl where
  go : (one : Bool) → (bit_and small large == small) ≡ one → (other : Bool) → is_within count small large ≡ other → one ≡ other
  go true e true k = refl
  go false e false k = refl
  go true e false k = let yes : is_within count small large ≡ true = to_within count small large (λ atom less has. common_all small large (eqb-true (bit_and small large) small e) atom has) in cc
  go false e true k = let yes : (bit_and small large == small) ≡ true = eq-eqb (bit_and small large) small (all_common count small large fits (from_within count small large k)) in cc

module _ (sets : Sets) (is : IsSets sets) where
  pub rules_are_proper : IsProper (sets_space sets) (2 ^ 20)
  rules_are_proper = (tasks_are_proper (Strips (parts_of sets)) is.parts).0

  pub rules_below : HasStatesBelow (sets_space sets) (2 ^ sets.atoms)
  rules_below set at = ltb-true set (2 ^ sets.atoms) at

  pub few_images : 2 ^ sets.atoms ≤ 65536
  few_images = let up : 2 ^ sets.atoms ≤ 2 ^ 12 = pow-le-pow_right {n = 2} (omega arith) {i = sets.atoms} {j = 12} is.atoms in omega (arith, up)

  pub goal_test : (image : ℕ) → (bit_and sets.goal image == sets.goal) ≡ is_strips_goal (parts_of sets) image
  goal_test image = within_test sets.atoms sets.goal image is.parts.goal

  -- ---- a step

  rule_is : (action : ℕ) (d : Rule) → action < length sets.rules.items → IsGroundAction sets.atoms (action_of (get_or sets.rules.items action d))
  rule_is action d less =
      let e : slice_get (map action_of sets.rules.items) action ≡ Some (action_of (get_or sets.rules.items action d)) = slice_get-map action_of sets.rules.items action ∙ ap (option_map action_of) (slice_get-get_or sets.rules.items action d less) in
      let again : get_or (map action_of sets.rules.items) action (action_of (get_or sets.rules.items action d)) ≡ action_of (get_or sets.rules.items action d) =
      get_or_is (map action_of sets.rules.items) action (action_of (get_or sets.rules.items action d)) e in
      subst (IsGroundAction sets.atoms) again
      (All-get_or (IsGroundAction sets.atoms) (map action_of sets.rules.items) action (action_of (get_or sets.rules.items action d)) (let long : length (map action_of sets.rules.items) ≡ length sets.rules.items = length-map sets.rules.items action_of in omega (arith, long, less)) is.parts.actions)
    where
      get_or_is : (xs : List GroundAction) (i : ℕ) (x : GroundAction) → slice_get xs i ≡ Some x → get_or xs i x ≡ x
      get_or_is [] i x e = cc
      get_or_is (y ∷ xs) zero x e = cc
      get_or_is (y ∷ xs) (suc i) x e = get_or_is xs i x e

  after_is : (action : GroundAction) (image : ℕ) → IsGroundAction sets.atoms action → image < 2 ^ sets.atoms
      → bit_or action.adds (bit_and image (bit_not w32 action.deletes)) ≡ state_after sets.atoms action image
  after_is action image g small =
      let adds : action.adds < 2 ^ sets.atoms = g.adds in
      let kept : bit_and image (bit_not w32 action.deletes) < 2 ^ sets.atoms = (let le : bit_and image (bit_not w32 action.deletes) ≤ image = and_le_l image (bit_not w32 action.deletes) in omega (arith, le, small)) in
      let made = sets_are_of_atoms.0 sets.atoms (holds_after action image) in
      same_atoms sets.atoms (bit_or action.adds (bit_and image (bit_not w32 action.deletes))) (state_after sets.atoms action image) (or_lt sets.atoms action.adds (bit_and image (bit_not w32 action.deletes)) adds kept) made.0
      (λ atom less.
      any_atom action.adds (bit_and image (bit_not w32 action.deletes)) atom
      ∙ ap (λ b. has_atom action.adds atom || b) (both_atoms image (bit_not w32 action.deletes) atom)
      ∙ ap (λ b. has_atom action.adds atom || (has_atom image atom && b)) (no_atom w32 action.deletes atom (let del : action.deletes < 2 ^ sets.atoms = g.deletes in let few = few_images in omega (arith, del, few)) (let few : sets.atoms ≤ 12 = is.atoms in omega (arith, few, less)))
      ∙ sym (made.1 atom less))

  step_of : (image action : ℕ) (d : Rule) → image < 2 ^ sets.atoms → action < length sets.rules.items
      → strips_step (parts_of sets) image action ≡ step_by sets.atoms (Some (action_of (get_or sets.rules.items action d))) image
  step_of image action d small less =
      ap (λ test. if test then step_by sets.atoms (slice_get (map action_of sets.rules.items) action) image else None) (lt-ltb image (2 ^ sets.atoms) small)
      ∙ ap (λ a. step_by sets.atoms a image) (slice_get-map action_of sets.rules.items action ∙ ap (option_map action_of) (slice_get-get_or sets.rules.items action d less))

  pub step_there : (image action : ℕ) (rule : Rule) (d : Rule) → rule ≡ get_or sets.rules.items action d → image < 2 ^ sets.atoms → action < length sets.rules.items → bit_and rule.needs image ≡ rule.needs
      → ◌≡◌ {A = Option (ℕ × ℕ)} (Some (bit_or rule.adds (bit_and image (bit_not w32 rule.deletes)), rule.cost)) (strips_step (parts_of sets) image action)
  step_there image action rule d e small less needed =
      let g : IsGroundAction sets.atoms (action_of rule) = subst (λ r. IsGroundAction sets.atoms (action_of r)) (sym e) (rule_is action d less) in
      ap (λ n. Some (n, rule.cost)) (after_is (action_of rule) image g small)
      ∙ ap (λ test. if test then Some (state_after sets.atoms (action_of rule) image, rule.cost) else None) (sym (eq-eqb (bit_and rule.needs image) rule.needs needed) ∙ within_test sets.atoms rule.needs image g.needs)
      ∙ ap (λ r. step_by sets.atoms (Some (action_of r)) image) e
      ∙ sym (step_of image action d small less)

  pub step_missing : (image action : ℕ) (rule : Rule) (d : Rule) → rule ≡ get_or sets.rules.items action d → image < 2 ^ sets.atoms → action < length sets.rules.items → (bit_and rule.needs image == rule.needs) ≡ false
      → ◌≡◌ {A = Option (ℕ × ℕ)} None (strips_step (parts_of sets) image action)
  step_missing image action rule d e small less unmet =
      let g : IsGroundAction sets.atoms (action_of rule) = subst (λ r. IsGroundAction sets.atoms (action_of r)) (sym e) (rule_is action d less) in
      ap (λ test. if test then Some (state_after sets.atoms (action_of rule) image, rule.cost) else None) (sym unmet ∙ within_test sets.atoms rule.needs image g.needs)
      ∙ ap (λ r. step_by sets.atoms (Some (action_of r)) image) e
      ∙ sym (step_of image action d small less)
