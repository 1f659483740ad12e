-- The steps of STRIPS: they are by actions that there are, lead from sets of atoms to sets of atoms, and are those by which an action acts.
use Rattle.std.proofs.Common.{◌≡◌, ℕ, zero, suc, ◌*◌, ◌^◌, ◌<◌, ◌≤◌, ◌↔◌, List, [], ◌∷◌, length, Bool, true, false, not, IsTrue, ◌&&◌, ◌||◌, Option, None, Some, slice_get, if◌then◌else◌, refl, sym, subst, ap, arith, ◌∙◌}
use Rattle.std.proofs.lemmas.Bool.{ltb-true, lt-ltb}
use Rattle.std.proofs.lemmas.Option.{slice_get_within, get_or_from_slice_get}
use Rattle.std.proofs.lemmas.List.Elements.{All-get_or}
use Rattle.pb_packed.specs.Sizes.{most_atoms, state_bits}
use Rattle.pb_model.specs.Space.{Steps, IsProper}
use Rattle.pb_task.specs.Strips.{has_atom, is_within, holds_after, state_after, step_by, is_atom_set, strips_step, strips_space, IsGroundAction, IsStrips, Acts, action_at}
use Rattle.pb_task.specs.Laws.{StripsAreProper, StripsAct}
use Rattle.pb_task.specs.Parts.{greatest_cost}
use Rattle.pb_task.specs.declared.parts.GroundAction.{GroundAction}
use Rattle.pb_task.specs.declared.parts.StripsParts.{StripsParts}
use Rattle.pb_task.proofs.AtomSets.{from_within, to_within, same_atoms, sets_are_of_atoms, accepted_is, not_above, more_than, within_is}

-- what a step is: the action that there is, and that what it needs holds
pub record IsStep (strips : StripsParts) (from action to cost : ℕ) : Type 0 where
  pub act : GroundAction
  pub is : slice_get strips.actions action ≡ Some act
  pub from_set : from < 2 ^ strips.atoms
  pub needed : is_within strips.atoms act.needs from ≡ true
  pub result : to ≡ state_after strips.atoms act from
  pub price : cost ≡ act.cost

by_action : (strips : StripsParts) (from action to cost : ℕ) (act : Option GroundAction) → slice_get strips.actions action ≡ act → from < 2 ^ strips.atoms
    → step_by strips.atoms act from ≡ Some (to, cost) → IsStep strips from action to cost
by_action strips from action to cost None is small e = cc
by_action strips from action to cost (Some act) is small e = go (is_within strips.atoms act.needs from) refl e where
  go : (test : Bool) → is_within strips.atoms act.needs from ≡ test
      → ◌≡◌ {A = Option (ℕ × ℕ)} (if test then Some (state_after strips.atoms act from, act.cost) else None) (Some (to, cost)) → IsStep strips from action to cost
  go false within e = cc
  go true within e =
      let same : ◌≡◌ {A = ℕ × ℕ} (state_after strips.atoms act from, act.cost) (to, cost) = cc in
      record {
        act = act;
        is = is;
        from_set = small;
        needed = within;
        result = sym (ap (λ (p : ℕ × ℕ). p.0) same);
        price = sym (ap (λ (p : ℕ × ℕ). p.1) same);
      }

pub step_is : (strips : StripsParts) (from action to cost : ℕ) → Steps (strips_space strips) from action to cost → IsStep strips from action to cost
step_is strips from action to cost step = go (is_atom_set strips.atoms from) refl step where
  go : (test : Bool) → is_atom_set strips.atoms from ≡ test
      → ◌≡◌ {A = Option (ℕ × ℕ)} (if test then step_by strips.atoms (slice_get strips.actions action) from else None) (Some (to, cost)) → IsStep strips from action to cost
  go false small e = cc
  go true small e = by_action strips from action to cost (slice_get strips.actions action) refl (ltb-true from (2 ^ strips.atoms) small) e

-- the step by an action that there is
pub step_from : (strips : StripsParts) (from action : ℕ) (act : Option GroundAction) → is_atom_set strips.atoms from ≡ true → slice_get strips.actions action ≡ act
    → strips_step strips from action ≡ step_by strips.atoms act from
step_from strips from action act small is =
    ap (λ test. if test then step_by strips.atoms (slice_get strips.actions action) from else None) small ∙ ap (λ a. step_by strips.atoms a from) is

pub step_taken : (count from : ℕ) (act : GroundAction) (test : Bool) → is_within count act.needs from ≡ test
    → step_by count (Some act) from ≡ (if test then Some (state_after count act from, act.cost) else None)
step_taken count from act test within = ap (λ t. if t then Some (state_after count act from, act.cost) else None) within

-- ---- the state space is proper

state_is_set : (count state : ℕ) → state < 2 ^ count → is_atom_set count state ≡ true
state_is_set count state small = lt-ltb state (2 ^ count) small

after_is_set : (count state : ℕ) (act : GroundAction) → state_after count act state < 2 ^ count
after_is_set count state act = (sets_are_of_atoms.0 count (holds_after act state)).0

pub known_action : (strips : StripsParts) → IsStrips strips → (action : ℕ) (act : GroundAction) → slice_get strips.actions action ≡ Some act → IsGroundAction strips.atoms act
known_action strips is action act e =
    subst (IsGroundAction strips.atoms) (get_or_from_slice_get strips.actions action act act e)
    (All-get_or (IsGroundAction strips.atoms) strips.actions action act (slice_get_within strips.actions action act e) is.actions)

pub strips_is_proper : (strips : StripsParts) → IsStrips strips → IsProper (strips_space strips) greatest_cost
strips_is_proper strips is = record {
  start = state_is_set strips.atoms strips.start is.start;
  action = λ from action to cost step. slice_get_within strips.actions action (step_is strips from action to cost step).act (step_is strips from action to cost step).is;
  from_state = λ from action to cost step. state_is_set strips.atoms from (step_is strips from action to cost step).from_set;
  to_state = λ from action to cost step.
      let s : IsStep strips from action to cost = step_is strips from action to cost step in
      subst (λ state. is_atom_set strips.atoms state ≡ true) (sym s.result) (state_is_set strips.atoms (state_after strips.atoms s.act from) (after_is_set strips.atoms from s.act));
  positive = λ from action to cost step.
      let s : IsStep strips from action to cost = step_is strips from action to cost step in
      let known : IsGroundAction strips.atoms s.act = known_action strips is action s.act s.is in
      omega (arith, s.price, known.cost.0);
  bounded = λ from action to cost step.
      let s : IsStep strips from action to cost = step_is strips from action to cost step in
      let known : IsGroundAction strips.atoms s.act = known_action strips is action s.act s.is in
      omega (arith, s.price, known.cost.1);
}

pub sets_are_small : (strips : StripsParts) → IsStrips strips → (state : ℕ) → IsTrue (is_atom_set strips.atoms state) → state < 2 ^ most_atoms
sets_are_small strips is state e = omega (arith, ltb-true state (2 ^ strips.atoms) e, more_than strips.atoms most_atoms is.atoms)

pub strips_are_proper : StripsAreProper
strips_are_proper strips is = (strips_is_proper strips is, sets_are_small strips is)

-- ---- a step is one by which an action acts

acts : (strips : StripsParts) (from action to cost : ℕ) → Steps (strips_space strips) from action to cost → Acts strips from action to cost
acts strips from action to cost step =
    let s : IsStep strips from action to cost = step_is strips from action to cost step in
    record {
      act = s.act;
      is = s.is;
      from_set = s.from_set;
      needed = from_within strips.atoms s.act.needs from s.needed;
      to_set = subst (λ state. state < 2 ^ strips.atoms) (sym s.result) (after_is_set strips.atoms from s.act);
      result = λ atom less. ap (λ state. has_atom state atom) s.result ∙ (sets_are_of_atoms.0 strips.atoms (holds_after s.act from)).1 atom less;
      price = s.price;
    }

steps_where_acts : (strips : StripsParts) (from action to cost : ℕ) → Acts strips from action to cost → Steps (strips_space strips) from action to cost
steps_where_acts strips from action to cost a =
    let made = sets_are_of_atoms.0 strips.atoms (holds_after a.act from) in
    let there : state_after strips.atoms a.act from ≡ to =
    same_atoms strips.atoms (state_after strips.atoms a.act from) to made.0 a.to_set (λ atom less. made.1 atom less ∙ sym (a.result atom less)) in
    step_from strips from action (Some a.act) (state_is_set strips.atoms from a.from_set) a.is
    ∙ step_taken strips.atoms from a.act true (to_within strips.atoms a.act.needs from a.needed)
    ∙ ap (λ state. Some (state, a.act.cost)) there ∙ ap (λ price. Some (to, price)) (sym a.price)

pub strips_act : StripsAct
strips_act strips from action to cost = (acts strips from action to cost, steps_where_acts strips from action to cost)

-- ---- the state after an action

nowhere : (adds state deletes : Bool) → adds ≡ false → state ≡ false → (adds || (state && not deletes)) ≡ false
nowhere true state deletes a s = a
nowhere false true deletes a s = absurd (let e : true ≡ false = s in cc)
nowhere false false deletes a s = refl

pub after_is : (count state after : ℕ) (act : GroundAction) → count ≤ most_atoms → act.adds < 2 ^ count → state < 2 ^ count → after < 2 ^ state_bits
    → ((atom : ℕ) → has_atom after atom ≡ holds_after act state atom) → after ≡ state_after count act state
after_is count state after act few adds small fits has =
    accepted_is (holds_after act state) after count state_bits (omega (arith, few)) fits has
    (λ atom above. nowhere (has_atom act.adds atom) (has_atom state atom) (has_atom act.deletes atom) (not_above act.adds count atom adds above) (not_above state count atom small above))

-- ---- the step by the action of a number

pub known_at : (actions : List GroundAction) (at : ℕ) → at < length actions → slice_get actions at ≡ Some (action_at actions at)
known_at [] at less = absurd (omega (arith, less))
known_at (action ∷ actions) zero less = refl
known_at (action ∷ actions) (suc at) less = known_at actions at (omega (arith, less))

pub step_at : (strips : StripsParts) → IsStrips strips → (from action : ℕ) → IsTrue (is_atom_set strips.atoms from) → action < length strips.actions
    → (test : Bool) → IsTrue test ↔ ((atom : ℕ) → IsTrue (has_atom (action_at strips.actions action).needs atom) → IsTrue (has_atom from atom))
    → strips_step strips from action
    ≡ (if test then Some (state_after strips.atoms (action_at strips.actions action) from, (action_at strips.actions action).cost) else None)
step_at strips is from action small less test decides =
    let act = action_at strips.actions action in
    let here : slice_get strips.actions action ≡ Some act = known_at strips.actions action less in
    let known : IsGroundAction strips.atoms act = known_action strips is action act here in
    step_from strips from action (Some act) small here ∙ step_taken strips.atoms from act test (sym (within_is test strips.atoms act.needs from known.needs decides))

-- the state that an action leads to is known by its atoms
pub state_at : (strips : StripsParts) → IsStrips strips → (from action to : ℕ) → IsTrue (is_atom_set strips.atoms from) → action < length strips.actions
    → to < 2 ^ state_bits → ((atom : ℕ) → has_atom to atom ≡ holds_after (action_at strips.actions action) from atom)
    → to ≡ state_after strips.atoms (action_at strips.actions action) from
state_at strips is from action to small less fits has =
    let act = action_at strips.actions action in
    let known : IsGroundAction strips.atoms act = known_action strips is action act (known_at strips.actions action less) in
    after_is strips.atoms from to act is.atoms known.adds (ltb-true from (2 ^ strips.atoms) small) fits has

-- ---- states and sets of a task whose atoms fit so many words

-- a number that is a set of the task's atoms
pub fits_words : (count width set number : ℕ) → count ≤ 64 * width → number ≡ set → set < 2 ^ count → number < 2 ^ (64 * width)
fits_words count width set number few is small = omega (arith, is, small, more_than count (64 * width) few)

pub state_fits : (strips : StripsParts) (width from : ℕ) → strips.atoms ≤ 64 * width → IsTrue (is_atom_set strips.atoms from) → from < 2 ^ (64 * width)
state_fits strips width from few small = fits_words strips.atoms width from from few refl (ltb-true from (2 ^ strips.atoms) small)

-- the sets of the action of a number are of the task's atoms
pub action_known : (strips : StripsParts) → IsStrips strips → (action : ℕ) → action < length strips.actions → IsGroundAction strips.atoms (action_at strips.actions action)
action_known strips is action less = known_action strips is action (action_at strips.actions action) (known_at strips.actions action less)
