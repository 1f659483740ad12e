use Rattle.std.proofs.Common.{◌≡◌, ◌<◌, ◌/◌, ◌%◌, ℕ, length, List, sym, ap, ◌∙◌, subst, get_or}
use Rattle.std.proofs.lemmas.List.{length-map}
use Rattle.pb_lifted.specs.Tree.{climb, followed}
use Rattle.pb_lifted.proofs.WaysUp.{followed_root, even_each, odd_each}
use Rattle.pb_lifted.proofs.climb.far_up.Goals as goal
use Rattle.pb_lifted.proofs.climb.far_up.Goals.{then-left-eq1+in_ok-far-2, else-left-eq1}

-- what the loop keeps, of lists
record Kept (parents f s : List ℕ) (n left : ℕ) : Type 0 where
  far : length f ≡ length parents
  step : length s ≡ length parents
  root : get_or s 0 0 ≡ 0
  each : (i : ℕ) → i < length f → climb s left (get_or f i 0) ≡ climb parents n i

even : (parents far step next : List ℕ) (n left : ℕ) → (left % 2 ≡ 1 → ⊥) → next ≡ followed step step → Kept parents far step n left → Kept parents far next n (left / 2)
even parents far step next n left odd e k =
    subst (λ (s : List ℕ). Kept parents far s n (left / 2)) (sym e) (record {
      far = k.far;
      step = length-map step _ ∙ k.step;
      root = followed_root step k.root;
      each = even_each parents far step n left k.root odd k.each;
    })

odd : (parents far step further next : List ℕ) (n left : ℕ) → left % 2 ≡ 1 → further ≡ followed far step → next ≡ followed step step → Kept parents far step n left
    → Kept parents further next n (left / 2)
odd parents far step further next n left is_odd f e k =
    subst (λ (s : List ℕ). Kept parents further s n (left / 2)) (sym e) (subst (λ (g : List ℕ). Kept parents g (followed step step) n (left / 2)) (sym f) (record {
      far = length-map far _ ∙ k.far;
      step = length-map step _ ∙ k.step;
      root = followed_root step k.root;
      each = λ i h. odd_each parents far step n left k.root is_odd k.each i (subst (λ (m : ℕ). i < m) (length-map far _) h);
    }))

now : (c : goal.After-drop-step-in-loop-left) → Kept c.args.parents.now c.loop-left.far.items c.loop-left.step.items (length c.args.parents.now) c.loop-left.left
now c = record { far = c.loop-left.invariant.far; step = c.loop-left.invariant.step; root = c.loop-left.invariant.root; each = c.loop-left.invariant.each }

next_is : (c : goal.After-drop-step-in-loop-left) → c.in_ok-step-2.step.items ≡ followed c.loop-left.step.items c.loop-left.step.items
next_is c =
    c.in_ok-step-2.ensures ∙ (ap (λ first. followed first c.as_slice-in-loop-left-2.result.now) c.as_slice-in-loop-left.ensures.value
    ∙ ap (λ second. followed c.loop-left.step.items second) c.as_slice-in-loop-left-2.ensures.value)

after : (c : goal.After-drop-step-in-loop-left) → Kept c.args.parents.now c.if-left-eq1.far.items c.in_ok-step-2.step.items (length c.args.parents.now) (c.loop-left.left / 2)
after c = elim c.if-left-eq1.branch [
  | then-left-eq1+in_ok-far-2 w ↦
      odd c.args.parents.now c.loop-left.far.items c.loop-left.step.items c.if-left-eq1.far.items c.in_ok-step-2.step.items (length c.args.parents.now) c.loop-left.left w.if-left-eq1.true
      (ap (λ v. v.items) w.far-is ∙ (w.in_ok-far-2.ensures ∙ (ap (λ first. followed first w.as_slice-then-left-eq1.result.now) w.as_slice.ensures.value
      ∙ ap (λ second. followed c.loop-left.far.items second) w.as_slice-then-left-eq1.ensures.value))) (next_is c) (now c)
  | else-left-eq1 w ↦
      subst (λ (f : List ℕ). Kept c.args.parents.now f c.in_ok-step-2.step.items (length c.args.parents.now) (c.loop-left.left / 2)) (sym (ap (λ v. v.items) w.far-is))
      (even c.args.parents.now c.loop-left.far.items c.loop-left.step.items c.in_ok-step-2.step.items (length c.args.parents.now) c.loop-left.left w.if-left-eq1.false (next_is c) (now c))
]

pub loop-left-preserved : goal.loop-left-preserved
loop-left-preserved c = let k = after c in record { far = k.far; step = k.step; root = k.root; each = k.each }
