-- What actions do to the tracked atoms, and the edges that it makes.
use Rattle.std.proofs.Common.{◌≡◌, ℕ, ◌^◌, ◌<◌, ◌≤◌, Bool, true, false, not, ◌||◌, ◌==◌, ◌&&◌, ◌+◌, ◌++◌, take, List, [], ◌∷◌, None, Some, if◌then◌else◌, IsTrue, length, slice_get, refl, sym, ap, subst, ◌∙◌, arith, bit_and, bit_or, ◌↔◌, ◌⊎◌, inl, inr, true≢false}
use Rattle.std.specs.Prelude.{option_map}
use Rattle.std.specs.Int.{bit_not, w32}
use Rattle.std.specs.List.{list_any, dedup, dedup_from, Any}
use Rattle.std.proofs.Math.Pow.{pow_mono}
use Rattle.std.proofs.lemmas.Bool.{and_from, or_left, or_right}
use Rattle.std.proofs.lemmas.Nat.{and_le_l, or_lt}
use Rattle.std.proofs.lemmas.Nat.Bits.{bit_at-zero}
use Rattle.std.proofs.lemmas.Option.{slice_get-map, slice_get-get_or, slice_get_within, get_or_from_slice_get}
use Rattle.std.proofs.lemmas.List.{take_more}
use Rattle.std.proofs.lemmas.List.Folds.{Any-from_list_any, list_any_at, list_any-append}
use Rattle.pb_model.proofs.Callers.{and_true, or_true, by_cases, equal, equal_self, not_false}
use Rattle.pb_task.specs.declared.parts.GroundAction.{GroundAction}
use Rattle.pb_task.specs.declared.parts.StripsParts.{StripsParts}
use Rattle.pb_task.specs.Strips.{action_at, has_atom, holds_after, Acts}
use Rattle.pb_task.proofs.Callers.{same_atoms, both_atoms, any_atom, no_atom, common_all, all_common, strips_act}
use Rattle.pb_abstract.specs.declared.changes.Change.{Change}
use Rattle.pb_abstract.specs.Tracked.{AreAtoms, tracked_set, tracked_action, tracked_task, IsTrackedEdge}
use Rattle.pb_abstract.specs.Borders.{is_number}
use Rattle.pb_abstract.specs.Changes.{change_of, changes_some, block_after}
use Rattle.pb_abstract.specs.Graph.{has}
use Rattle.pb_abstract.proofs.TrackedSets.{set_small}
use Rattle.pb_abstract.proofs.TrackedSteps.{IsFrom, comes_from}

-- ---- each change once

module _ {X : Type 0} (same : X → X → Bool) (is : (x y : X) → same x y ≡ true → x ≡ y) (test : X → Bool) where
  once : (a rest : Bool) → (a || (a || rest)) ≡ (a || rest)
  once true rest = refl
  once false rest = refl

  any_from : (x : X) (xs : List X) → list_any test (dedup_from same x xs) ≡ (test x || list_any test xs)
  any_from x [] = refl
  any_from x (y ∷ ys) = go (same y x) refl (any_from x ys) (any_from y ys) where
    go : (again : Bool) → same y x ≡ again → list_any test (dedup_from same x ys) ≡ (test x || list_any test ys) → list_any test (dedup_from same y ys) ≡ (test y || list_any test ys)
        → list_any test (if again then dedup_from same x ys else x ∷ dedup_from same y ys) ≡ (test x || (test y || list_any test ys))
    go true e one other = one ∙ sym (once (test x) (list_any test ys)) ∙ ap (λ z. test x || (test z || list_any test ys)) (sym (is y x e))
    go false e one other = ap (λ rest. test x || rest) other

  -- a list has an item that passes where it has one without those that stand twice
  pub any_dedup : (xs : List X) → list_any test (dedup same xs) ≡ list_any test xs
  any_dedup [] = refl
  any_dedup (x ∷ xs) = any_from x xs

pub same_change : (x y : Change) → (x.needs == y.needs && (x.adds == y.adds && x.deletes == y.deletes)) ≡ true → x ≡ y
same_change x y e =
    let first = and_true (x.needs == y.needs) (x.adds == y.adds && x.deletes == y.deletes) e in
    let rest = and_true (x.adds == y.adds) (x.deletes == y.deletes) first.1 in
    ap (λ n. let change : Change = record { needs = n; adds = x.adds; deletes = x.deletes } in change) (equal x.needs y.needs first.0)
    ∙ ap (λ n. let change : Change = record { needs = y.needs; adds = n; deletes = x.deletes } in change) (equal x.adds y.adds rest.0)
    ∙ ap (λ n. let change : Change = record { needs = y.needs; adds = y.adds; deletes = n } in change) (equal x.deletes y.deletes rest.1)

-- ---- sets of at most 32 atoms, by their bits

-- the set after a change
abbrev after : (adds block deletes : ℕ) → ℕ
after adds block deletes = bit_or adds (bit_and block (bit_not w32 deletes))

after_small : (count adds block deletes : ℕ) → adds < 2 ^ count → block < 2 ^ count → after adds block deletes < 2 ^ count
after_small count adds block deletes small small' =
    let le : bit_and block (bit_not w32 deletes) ≤ block = and_le_l block (bit_not w32 deletes) in
    or_lt count adds (bit_and block (bit_not w32 deletes)) small (omega arith)

after_has : (adds block deletes at : ℕ) → deletes < 2 ^ 32 → at < 32 → has_atom (after adds block deletes) at ≡ (has_atom adds at || (has_atom block at && not (has_atom deletes at)))
after_has adds block deletes at small less =
    any_atom adds (bit_and block (bit_not w32 deletes)) at ∙ ap (λ b. has_atom adds at || b) (both_atoms block (bit_not w32 deletes) at)
    ∙ ap (λ b. has_atom adds at || (has_atom block at && b)) (no_atom w32 deletes at small less)

-- ---- changes that lead to a block

leads_parts : (change : Change) (block c : ℕ) → is_number (block_after change block) c ≡ true → (bit_and change.needs block ≡ change.needs) × (after change.adds block change.deletes ≡ c)
leads_parts change block c e = go (bit_and change.needs block == change.needs) refl e where
  go : (test : Bool) → (bit_and change.needs block == change.needs) ≡ test → is_number (if test then Some (after change.adds block change.deletes) else None) c ≡ true
      → (bit_and change.needs block ≡ change.needs) × (after change.adds block change.deletes ≡ c)
  go true within e = (equal (bit_and change.needs block) change.needs within, equal (after change.adds block change.deletes) c e)
  go false within e = absurd (true≢false (sym e))

parts_lead : (change : Change) (block c : ℕ) → bit_and change.needs block ≡ change.needs → after change.adds block change.deletes ≡ c → is_number (block_after change block) c ≡ true
parts_lead change block c needs leads =
    let within : (bit_and change.needs block == change.needs) ≡ true = ap (λ n. n == change.needs) needs ∙ equal_self change.needs in
    ap (λ test. is_number (if test then Some (after change.adds block change.deletes) else None) c) within ∙ ap (λ n. n == c) leads ∙ equal_self c

module _ (strips : StripsParts) (atoms : List ℕ) (are : AreAtoms strips atoms) (block : ℕ) (small : block < 2 ^ length atoms) where
  below_32 : (set : ℕ) → tracked_set atoms set < 2 ^ 32
  below_32 set =
      let less : tracked_set atoms set < 2 ^ length atoms = set_small atoms set in
      let up : 2 ^ length atoms ≤ 2 ^ 32 = pow_mono {i = length atoms} {j = 32} (let few : length atoms ≤ 12 = are.few in omega arith) in
      omega arith

  change_has : (act : GroundAction) (at : ℕ) → at < length atoms
      → has_atom (after (change_of atoms act).adds block (change_of atoms act).deletes) at ≡ holds_after (tracked_action atoms act) block at
  change_has act at less = after_has (tracked_set atoms act.adds) block (tracked_set atoms act.deletes) at (below_32 act.deletes) (let few : length atoms ≤ 12 = are.few in omega arith)

  -- where a change leads, a step of the task of the tracked atoms does
  change_edge : (action : ℕ) (act : GroundAction) (c : ℕ) → slice_get strips.actions action ≡ Some act → is_number (block_after (change_of atoms act) block) c ≡ true → IsTrackedEdge strips atoms block c
  change_edge action act c is e =
      let parts = leads_parts (change_of atoms act) block c e in
      let acts : Acts (tracked_task atoms strips) block action c act.cost = record {
        act = tracked_action atoms act;
        is = slice_get-map (tracked_action atoms) strips.actions action ∙ ap (option_map (tracked_action atoms)) is;
        from_set = small;
        needed = λ at less needs. common_all (tracked_set atoms act.needs) block parts.0 at needs;
        to_set = subst (λ n. n < 2 ^ length atoms) parts.1 (after_small (length atoms) (tracked_set atoms act.adds) block (tracked_set atoms act.deletes) (set_small atoms act.adds) small);
        result = λ at less. ap (λ n. has_atom n at) (sym parts.1) ∙ change_has act at less;
        price = refl;
      } in
      record { action = action; cost = act.cost; steps = (strips_act (tracked_task atoms strips) block action c act.cost).1 acts }

  abbrev leads : (c : ℕ) → GroundAction → Bool
  leads c action = changes_some (change_of atoms action) && is_number (block_after (change_of atoms action) block) c

  found_edge : (c : ℕ) → list_any (leads c) strips.actions ≡ true → IsTrackedEdge strips atoms block c
  found_edge c e = at (Any-from_list_any (leads c) strips.actions e) where
    at : Any (λ action. leads c action ≡ true) strips.actions → IsTrackedEdge strips atoms block c
    at (k, act, less, is, passes) =
        change_edge k act c (slice_get-get_or strips.actions k act less ∙ ap (λ a. Some a) is)
        (and_true (changes_some (change_of atoms act)) (is_number (block_after (change_of atoms act) block) c) passes).1

  -- what neither adds nor deletes a tracked atom leads to the block itself
  stays : (act : GroundAction) (c : ℕ) → c < 2 ^ length atoms → changes_some (change_of atoms act) ≡ false → ((at : ℕ) → at < length atoms → has_atom c at ≡ holds_after (tracked_action atoms act) block at)
      → block ≡ c
  stays act c small' none result = same_atoms (length atoms) block c small small' (λ at less. sym (result at less ∙ kept at)) where
    both : (tracked_set atoms act.adds == 0 && tracked_set atoms act.deletes == 0) ≡ true
    both = not_false (tracked_set atoms act.adds == 0 && tracked_set atoms act.deletes == 0) none

    empty : (set at : ℕ) → (set == 0) ≡ true → has_atom set at ≡ false
    empty set at e = ap (λ n. has_atom n at) (equal set 0 e) ∙ ap (λ bit. bit == 1) (bit_at-zero at)

    plain : (b : Bool) → (false || (b && not false)) ≡ b
    plain true = refl
    plain false = refl

    kept : (at : ℕ) → holds_after (tracked_action atoms act) block at ≡ has_atom block at
    kept at =
        let two = and_true (tracked_set atoms act.adds == 0) (tracked_set atoms act.deletes == 0) both in
        ap (λ b. b || (has_atom block at && not (has_atom (tracked_set atoms act.deletes) at))) (empty (tracked_set atoms act.adds) at two.0)
        ∙ ap (λ b. false || (has_atom block at && not b)) (empty (tracked_set atoms act.deletes) at two.1) ∙ plain (has_atom block at)

  edge_found : (c : ℕ) → IsTrackedEdge strips atoms block c → (block ≡ c) ⊎ (list_any (leads c) strips.actions ≡ true)
  edge_found c edge =
      let t : Acts (tracked_task atoms strips) block edge.action c edge.cost = (strips_act (tracked_task atoms strips) block edge.action c edge.cost).0 edge.steps in
      let f : IsFrom strips atoms edge.action t.act = comes_from strips atoms edge.action t.act t.is in
      let result : (at : ℕ) → at < length atoms → has_atom c at ≡ holds_after (tracked_action atoms f.act) block at =
      λ at less. t.result at less ∙ ap (λ a. holds_after a block at) (sym f.same) in
      by_cases (changes_some (change_of atoms f.act))
      (λ some. inr (
      let there : after (tracked_set atoms f.act.adds) block (tracked_set atoms f.act.deletes) ≡ c =
      same_atoms (length atoms) (after (tracked_set atoms f.act.adds) block (tracked_set atoms f.act.deletes)) c
      (after_small (length atoms) (tracked_set atoms f.act.adds) block (tracked_set atoms f.act.deletes) (set_small atoms f.act.adds) small) t.to_set
      (λ at less. change_has f.act at less ∙ sym (result at less)) in
      let needed : bit_and (tracked_set atoms f.act.needs) block ≡ tracked_set atoms f.act.needs =
      all_common (length atoms) (tracked_set atoms f.act.needs) block (set_small atoms f.act.needs) (λ at less e. t.needed at less (ap (λ (a : GroundAction). has_atom a.needs at) (sym f.same) ∙ e)) in
      let passes : leads c f.act ≡ true = and_from (changes_some (change_of atoms f.act)) (is_number (block_after (change_of atoms f.act) block) c) some (parts_lead (change_of atoms f.act) block c needed there) in
      list_any_at (leads c) strips.actions edge.action f.act (slice_get_within strips.actions edge.action f.act f.is)
      (ap (leads c) (get_or_from_slice_get strips.actions edge.action f.act f.act f.is) ∙ passes)))
      (λ none. inl (stays f.act c t.to_set none result))

  -- the blocks that a scope has are the block and those that an edge leads to
  pub scope_is : (changes : List Change) (list : List ℕ) → ((test : Change → Bool) → list_any test changes ≡ list_any (λ action. changes_some (change_of atoms action) && test (change_of atoms action)) strips.actions)
      → ((c : ℕ) → has list c ≡ ((block == c) || list_any (λ change. is_number (block_after change block) c) changes)) → (c : ℕ) → IsTrue (has list c) ↔ ((block ≡ c) ⊎ IsTrackedEdge strips atoms block c)
  scope_is changes list all holds c = (λ e. forth (or_true (block == c) (list_any (leads c) strips.actions) (sym is ∙ e)), back) where
    is : has list c ≡ ((block == c) || list_any (leads c) strips.actions)
    is = holds c ∙ ap (λ b. (block == c) || b) (all (λ change. is_number (block_after change block) c))

    forth : ((block == c) ≡ true) ⊎ (list_any (leads c) strips.actions ≡ true) → (block ≡ c) ⊎ IsTrackedEdge strips atoms block c
    forth (inl e) = inl (equal block c e)
    forth (inr e) = inr (found_edge c e)

    here : block ≡ c → IsTrue (has list c)
    here e = is ∙ or_left (block == c) (list_any (leads c) strips.actions) (ap (λ n. n == c) e ∙ equal_self c)

    there : (block ≡ c) ⊎ (list_any (leads c) strips.actions ≡ true) → IsTrue (has list c)
    there (inl e) = here e
    there (inr e) = is ∙ or_right (block == c) (list_any (leads c) strips.actions) e

    back : (block ≡ c) ⊎ IsTrackedEdge strips atoms block c → IsTrue (has list c)
    back (inl e) = here e
    back (inr edge) = there (edge_found c edge)

-- ---- one more action

no_more : (any : Bool) → (any || (false || false)) ≡ any
no_more true = refl
no_more false = refl

-- what the actions do, with one more of them, which may change nothing
pub any_more : (atoms : List ℕ) (actions : List GroundAction) (at : ℕ) (test : Change → Bool) (changes after : List Change) → at < length actions
    → list_any test changes ≡ list_any (λ action. changes_some (change_of atoms action) && test (change_of atoms action)) (take at actions)
    → after ≡ (if changes_some (change_of atoms (action_at actions at)) then changes ++ change_of atoms (action_at actions at) ∷ [] else changes)
    → list_any test after ≡ list_any (λ action. changes_some (change_of atoms action) && test (change_of atoms action)) (take (at + 1) actions)
any_more atoms actions at test changes after less so_far is = go (changes_some change) refl is where
  change : Change
  change = change_of atoms (action_at actions at)

  counts : GroundAction → Bool
  counts action = changes_some (change_of atoms action) && test (change_of atoms action)

  all : list_any counts (take (at + 1) actions) ≡ (list_any counts (take at actions) || (counts (action_at actions at) || false))
  all =
      ap (list_any counts) (take_more actions at (record { name = []; needs = 0; adds = 0; deletes = 0; cost = 1 }) less)
      ∙ list_any-append counts (take at actions) (action_at actions at ∷ [])

  go : (some : Bool) → changes_some change ≡ some → after ≡ (if some then changes ++ change ∷ [] else changes) → list_any test after ≡ list_any counts (take (at + 1) actions)
  go true e here =
      ap (list_any test) here ∙ list_any-append test changes (change ∷ []) ∙ ap (λ any. any || (test change || false)) so_far
      ∙ ap (λ some. list_any counts (take at actions) || ((some && test change) || false)) (sym e) ∙ sym all
  go false e here =
      ap (list_any test) here ∙ so_far ∙ sym (no_more (list_any counts (take at actions)))
      ∙ ap (λ some. list_any counts (take at actions) || ((some && test change) || false)) (sym e) ∙ sym all
