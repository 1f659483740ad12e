-- The edges of blocks of STRIPS tasks are those that their steps make.
use Rattle.std.proofs.Common.{◌≡◌, ℕ, zero, suc, ◌^◌, ◌<◌, Bool, true, false, not, ◌&&◌, ◌||◌, ◌==◌, IsTrue, List, [], ◌∷◌, Option, None, Some, length, get_or, map, slice_get, refl, sym, ap, subst, ◌∙◌, arith}
use Rattle.std.specs.Prelude.{option_map}
use Rattle.std.proofs.lemmas.Bool.{and_from, or_left}
use Rattle.std.proofs.lemmas.Option.{slice_get-map, same_Some}
use Rattle.std.proofs.lemmas.List.Elements.{All-get_or}
use Rattle.pb_model.specs.Space.{Steps}
use Rattle.pb_model.proofs.Callers.{and_true, equal, equal_self}
use Rattle.pb_machine.specs.Tables.{any_below}
use Rattle.pb_machine.proofs.Callers.{any_some, any_at}
use Rattle.pb_task.specs.declared.parts.GroundAction.{GroundAction}
use Rattle.pb_task.specs.declared.parts.StripsParts.{StripsParts}
use Rattle.pb_task.specs.Strips.{has_atom, set_of, holds_after, strips_space, Acts}
use Rattle.pb_task.proofs.Callers.{sets_are_of_atoms, strips_act}
use Rattle.pb_abstract.specs.Tracked.{AreDifferent, AreAtoms, tracked_set, tracked_action, tracked_task, IsTrackedEdge}
use Rattle.pb_abstract.proofs.Members.{same_tests}
use Rattle.pb_abstract.proofs.TrackedSets.{set_small, has_tracked, tracked_is}

-- ---- a step is an edge

-- a tracked atom holds after the action with all other atoms left out where it holds after the action
after_tracked : (atoms : List ℕ) (act : GroundAction) (set at : ℕ) → at < length atoms → holds_after (tracked_action atoms act) (tracked_set atoms set) at ≡ holds_after act set (get_or atoms at 0)
after_tracked atoms act set at less =
    ap (λ b. b || (has_atom (tracked_set atoms set) at && not (has_atom (tracked_set atoms act.deletes) at))) (has_tracked atoms act.adds at less)
    ∙ ap (λ b. has_atom act.adds (get_or atoms at 0) || (b && not (has_atom (tracked_set atoms act.deletes) at))) (has_tracked atoms set at less)
    ∙ ap (λ b. has_atom act.adds (get_or atoms at 0) || (has_atom set (get_or atoms at 0) && not b)) (has_tracked atoms act.deletes at less)

pub step_edge : (strips : StripsParts) (atoms : List ℕ) → AreAtoms strips atoms → (from action to cost : ℕ) → Steps (strips_space strips) from action to cost
    → IsTrackedEdge strips atoms (tracked_set atoms from) (tracked_set atoms to)
step_edge strips atoms are from action to cost step =
    let a : Acts strips from action to cost = (strips_act strips from action to cost).0 step in
    let known = λ (at : ℕ) (less : at < length atoms). All-get_or (λ n. n < strips.atoms) atoms at 0 less are.below in
    let acts : Acts (tracked_task atoms strips) (tracked_set atoms from) action (tracked_set atoms to) cost = record {
      act = tracked_action atoms a.act;
      is = slice_get-map (tracked_action atoms) strips.actions action ∙ ap (option_map (tracked_action atoms)) a.is;
      from_set = set_small atoms from;
      needed = λ at less needs. has_tracked atoms from at less ∙ a.needed (get_or atoms at 0) (known at less) (sym (has_tracked atoms a.act.needs at less) ∙ needs);
      to_set = set_small atoms to;
      result = λ at less. has_tracked atoms to at less ∙ a.result (get_or atoms at 0) (known at less) ∙ sym (after_tracked atoms a.act from at less);
      price = a.price;
    } in
    record { action = action; cost = cost; steps = (strips_act (tracked_task atoms strips) (tracked_set atoms from) action (tracked_set atoms to) cost).1 acts }

-- ---- an edge is a step

-- an atom stands in a list of different atoms once
stands_once : (atoms : List ℕ) → AreDifferent atoms → (i j : ℕ) → i < length atoms → j < length atoms → get_or atoms i 0 ≡ get_or atoms j 0 → i ≡ j
stands_once [] apart i j less less' same = absurd (omega arith)
stands_once (atom ∷ atoms) apart zero zero less less' same = refl
stands_once (atom ∷ atoms) apart zero (suc j) less less' same = absurd (apart.0 j 0 (omega arith) (sym same))
stands_once (atom ∷ atoms) apart (suc i) zero less less' same = absurd (apart.0 i 0 (omega arith) same)
stands_once (atom ∷ atoms) apart (suc i) (suc j) less less' same = ap suc (stands_once atoms apart.1 i j (omega arith) (omega arith) same)

-- an atom is a tracked one that is in the block
unfoldable in_block : (atoms : List ℕ) (block atom : ℕ) → Bool
in_block atoms block atom = any_below (length atoms) (λ at. get_or atoms at 0 == atom && has_atom block at)

in_block_at : (atoms : List ℕ) → AreDifferent atoms → (block at : ℕ) → at < length atoms → in_block atoms block (get_or atoms at 0) ≡ has_atom block at
unfolding in_block
in_block_at atoms apart block at less = same_tests (in_block atoms block (get_or atoms at 0)) (has_atom block at) forth back where
  from : ((i : ℕ) × (i < length atoms) × ((get_or atoms i 0 == get_or atoms at 0 && has_atom block i) ≡ true)) → has_atom block at ≡ true
  from (i, within, e) =
      let two = and_true (get_or atoms i 0 == get_or atoms at 0) (has_atom block i) e in
      subst (λ n. has_atom block n ≡ true) (stands_once atoms apart i at within less (equal (get_or atoms i 0) (get_or atoms at 0) two.0)) two.1

  forth : in_block atoms block (get_or atoms at 0) ≡ true → has_atom block at ≡ true
  forth e = from (any_some (length atoms) (λ i. get_or atoms i 0 == get_or atoms at 0 && has_atom block i) e)

  back : has_atom block at ≡ true → in_block atoms block (get_or atoms at 0) ≡ true
  back e = any_at (length atoms) at (λ i. get_or atoms i 0 == get_or atoms at 0 && has_atom block i) less (and_from (get_or atoms at 0 == get_or atoms at 0) (has_atom block at) (equal_self (get_or atoms at 0)) e)

-- the action that a tracked action comes from
pub record IsFrom (strips : StripsParts) (atoms : List ℕ) (action : ℕ) (tracked : GroundAction) : Type 0 where
  pub act : GroundAction
  pub is : slice_get strips.actions action ≡ Some act
  pub same : tracked_action atoms act ≡ tracked

pub comes_from : (strips : StripsParts) (atoms : List ℕ) (action : ℕ) (tracked : GroundAction) → slice_get (map (tracked_action atoms) strips.actions) action ≡ Some tracked → IsFrom strips atoms action tracked
comes_from strips atoms action tracked e = go (slice_get strips.actions action) refl (sym (slice_get-map (tracked_action atoms) strips.actions action) ∙ e) where
  go : (act : Option GroundAction) → slice_get strips.actions action ≡ act → option_map (tracked_action atoms) act ≡ Some tracked → IsFrom strips atoms action tracked
  go None is same = cc
  go (Some act) is same = record { act = act; is = is; same = same_Some (tracked_action atoms act) tracked same }

or_same : (a b : Bool) → (a ≡ true → b ≡ true) → (a || b) ≡ b
or_same true b f = sym (f refl)
or_same false b f = refl

module _ (strips : StripsParts) (atoms : List ℕ) (are : AreAtoms strips atoms) (block : ℕ) (small : block < 2 ^ length atoms) (act : GroundAction)
    (needed : (at : ℕ) → at < length atoms → IsTrue (has_atom (tracked_set atoms act.needs) at) → IsTrue (has_atom block at)) where
  -- a state of the block in which the action is applicable: the tracked atoms of the block, and all that the action needs
  abbrev accepts : (atom : ℕ) → Bool
  accepts atom = has_atom act.needs atom || in_block atoms block atom

  abbrev from : ℕ
  from = set_of strips.atoms accepts

  -- the state that the action leads to
  abbrev to : ℕ
  to = set_of strips.atoms (holds_after act from)

  known : (at : ℕ) → at < length atoms → get_or atoms at 0 < strips.atoms
  known at less = All-get_or (λ n. n < strips.atoms) atoms at 0 less are.below

  from_at : (at : ℕ) → at < length atoms → has_atom from (get_or atoms at 0) ≡ has_atom block at
  from_at at less =
      (sets_are_of_atoms.0 strips.atoms accepts).1 (get_or atoms at 0) (known at less)
      ∙ ap (λ b. has_atom act.needs (get_or atoms at 0) || b) (in_block_at atoms are.different block at less)
      ∙ or_same (has_atom act.needs (get_or atoms at 0)) (has_atom block at) (λ e. needed at less (has_tracked atoms act.needs at less ∙ e))

  from_is : tracked_set atoms from ≡ block
  from_is = tracked_is atoms from block small from_at

  to_is : (other : ℕ) → other < 2 ^ length atoms → ((at : ℕ) → at < length atoms → has_atom other at ≡ holds_after (tracked_action atoms act) block at) → tracked_set atoms to ≡ other
  to_is other small' result =
      tracked_is atoms to other small'
      (λ at less. (sets_are_of_atoms.0 strips.atoms (holds_after act from)).1 (get_or atoms at 0) (known at less) ∙ sym (after_tracked atoms act from at less)
      ∙ ap (λ set. holds_after (tracked_action atoms act) set at) from_is ∙ sym (result at less))

  leads : (action cost : ℕ) → slice_get strips.actions action ≡ Some act → cost ≡ act.cost → Steps (strips_space strips) from action to cost
  leads action cost is price = (strips_act strips from action to cost).1 (record {
    act = act;
    is = is;
    from_set = (sets_are_of_atoms.0 strips.atoms accepts).0;
    needed = λ atom less e. (sets_are_of_atoms.0 strips.atoms accepts).1 atom less ∙ or_left (has_atom act.needs atom) (in_block atoms block atom) e;
    to_set = (sets_are_of_atoms.0 strips.atoms (holds_after act from)).0;
    result = (sets_are_of_atoms.0 strips.atoms (holds_after act from)).1;
    price = price;
  })

abbrev pub Step : (strips : StripsParts) (atoms : List ℕ) (block other : ℕ) → Type 0
Step strips atoms block other =
    (from : ℕ) × (action : ℕ) × (to : ℕ) × (cost : ℕ) × Steps (strips_space strips) from action to cost × (tracked_set atoms from ≡ block) × (tracked_set atoms to ≡ other)

pub edge_step : (strips : StripsParts) (atoms : List ℕ) → AreAtoms strips atoms → (block other : ℕ) → IsTrackedEdge strips atoms block other → Step strips atoms block other
edge_step strips atoms are block other edge =
    let t : Acts (tracked_task atoms strips) block edge.action other edge.cost = (strips_act (tracked_task atoms strips) block edge.action other edge.cost).0 edge.steps in
    let f : IsFrom strips atoms edge.action t.act = comes_from strips atoms edge.action t.act t.is in
    let needed : (at : ℕ) → at < length atoms → IsTrue (has_atom (tracked_set atoms f.act.needs) at) → IsTrue (has_atom block at) =
    λ at less e. t.needed at less (ap (λ (a : GroundAction). has_atom a.needs at) (sym f.same) ∙ e) in
    let result : (at : ℕ) → at < length atoms → has_atom other at ≡ holds_after (tracked_action atoms f.act) block at =
    λ at less. t.result at less ∙ ap (λ a. holds_after a block at) (sym f.same) in (
      from strips atoms are block t.from_set f.act needed,
      edge.action,
      to strips atoms are block t.from_set f.act needed,
      edge.cost,
      leads strips atoms are block t.from_set f.act needed edge.action edge.cost f.is (t.price ∙ ap (λ (a : GroundAction). a.cost) (sym f.same)),
      from_is strips atoms are block t.from_set f.act needed,
      to_is strips atoms are block t.from_set f.act needed other t.to_set result,
    )
