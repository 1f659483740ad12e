use Rattle.std.proofs.Common.{◌≡◌, ℕ, ◌+◌, ◌-◌, ◌<◌, ◌≤◌, List, [], length, get_or, All, sym, subst, ap, arith, ◌∙◌, inl, inr}
use Rattle.std.proofs.lemmas.List.{get_or_read}
use Rattle.pb_packed.specs.Sizes.{most_atoms}
use Rattle.pb_task.specs.Strips.{has_atom}
use Rattle.pb_estimate.specs.Exploring.{count}
use Rattle.pb_estimate.specs.Layers.{is_in}
use Rattle.pb_estimate.specs.Tables.{IsRelaxed, AreFree, AreUsers}
use Rattle.pb_estimate.proofs.Counts.{count_same}
use Rattle.pb_estimate.proofs.Steps.{actions_are_relaxed}
use Rattle.pb_estimate.proofs.Passing.{ArePassed, begun, place_inside, is_atom, level_is_small, is_dead, is_met, renewed, all_wait, passed_on}
use Rattle.pb_estimate.proofs.layers.goal_cost.Goals as goal
use Rattle.pb_estimate.proofs.layers.goal_cost.Goals.{then-first-end, else-first-end}

pub begin-requires-clause-wanted : goal.begin-requires-clause-wanted
begin-requires-clause-wanted c =
    let value : c.as_slice-goal.result.now ≡ c.args.task.now.goal.items = c.as_slice-goal.ensures.value in
    let flags : (atom : ℕ) → atom < c.args.strips.now.atoms → is_in c.as_slice-goal.result.now atom ≡ has_atom c.args.strips.now.goal atom = λ atom less. ap (λ xs. is_in xs atom) value ∙ c.requires.goal.flags atom less in
    let long : length c.as_slice-goal.result.now ≡ c.args.strips.now.atoms = ap length value ∙ c.requires.goal.long in
    c.requires.goal.wanted ∙ count_same (has_atom c.args.strips.now.goal) (is_in c.as_slice-goal.result.now) c.args.strips.now.atoms (λ a less. sym (flags a less))
    ∙ ap (λ n. count (is_in c.as_slice-goal.result.now) n) (sym long)

pub loop-layers-init : goal.loop-layers-init
loop-layers-init c = record {
  is = c.begin.ensures.is;
  passed = record {
    merged = c.requires.actions.merged;
    stand = c.requires.actions.stand;
    relaxed = c.requires.actions.relaxed;
    passing = begun c.args.strips.now c.args.state.now c.requires.strips c.requires.actions.merged c.requires.actions.stand c.args.task.now.actions c.requires.actions.relaxed.relaxed c.requires.layered.0
        (subst (λ (free : List ℕ). AreFree c.args.strips.now.atoms c.requires.actions.merged free) c.requires.layered.1 c.requires.actions.relaxed.free)
        c.args.counts.now (c.requires.counts ∙ c.requires.actions.relaxed.needs)
        c.begin.new.self.marks.items c.begin.new.self.queue.items c.begin.new.self.reached c.begin.ensures.holds c.begin.ensures.only;
  };
}

pub returns-then-first-layers-clause-cost : goal.returns-then-first-layers-clause-cost
returns-then-first-layers-clause-cost c =
    let value : c.as_slice-goal.result.now ≡ c.args.task.now.goal.items = c.as_slice-goal.ensures.value in
    let flags : (atom : ℕ) → atom < c.args.strips.now.atoms → is_in c.as_slice-goal.result.now atom ≡ has_atom c.args.strips.now.goal atom = λ atom less. ap (λ xs. is_in xs atom) value ∙ c.requires.goal.flags atom less in
    let long : length c.as_slice-goal.result.now ≡ c.args.strips.now.atoms = ap length value ∙ c.requires.goal.long in
    is_dead c.args.strips.now c.args.state.now c.requires.strips c.args.task.now c.requires.layered.0 c.as_slice-goal.result.now flags long c.loop-layers.first c.loop-layers.end c.loop-layers.level c.loop-layers.counts c.loop-layers.layers c.loop-layers.invariant.passed c.loop-layers.invariant.is c.if-first-layers.true (λ e. absurd (omega (arith, c.loop-layers-test.true, e)))

pub overflow_add-level : goal.overflow_add-level
overflow_add-level c =
    let value : c.as_slice-goal.result.now ≡ c.args.task.now.goal.items = c.as_slice-goal.ensures.value in
    let flags : (atom : ℕ) → atom < c.args.strips.now.atoms → is_in c.as_slice-goal.result.now atom ≡ has_atom c.args.strips.now.goal atom = λ atom less. ap (λ xs. is_in xs atom) value ∙ c.requires.goal.flags atom less in
    let long : length c.as_slice-goal.result.now ≡ c.args.strips.now.atoms = ap length value ∙ c.requires.goal.long in
    let small : c.loop-layers.level ≤ most_atoms = level_is_small c.args.strips.now c.args.state.now c.requires.strips c.args.task.now c.requires.layered.0 c.as_slice-goal.result.now flags long c.loop-layers.first c.loop-layers.end c.loop-layers.level c.loop-layers.counts c.loop-layers.layers c.loop-layers.invariant.passed c.loop-layers.invariant.is in
    omega arith

pub index-requires : goal.index-requires
index-requires c =
    let value : c.as_slice-goal.result.now ≡ c.args.task.now.goal.items = c.as_slice-goal.ensures.value in
    let flags : (atom : ℕ) → atom < c.args.strips.now.atoms → is_in c.as_slice-goal.result.now atom ≡ has_atom c.args.strips.now.goal atom = λ atom less. ap (λ xs. is_in xs atom) value ∙ c.requires.goal.flags atom less in
    let long : length c.as_slice-goal.result.now ≡ c.args.strips.now.atoms = ap length value ∙ c.requires.goal.long in
    let inside : c.loop-layers.first < length c.loop-layers.layers.queue.items = place_inside c.args.strips.now c.args.state.now c.requires.strips c.args.task.now c.requires.layered.0 c.as_slice-goal.result.now flags long c.loop-layers.first c.loop-layers.end c.loop-layers.level c.loop-layers.counts c.loop-layers.layers c.loop-layers.invariant.passed c.loop-layers.invariant.is c.if-first-layers.false in
    omega (arith, inside, c.loop-layers.layers.queue.ok.0)

pub at-users-requires : goal.at-users-requires
at-users-requires c =
    let value : c.as_slice-goal.result.now ≡ c.args.task.now.goal.items = c.as_slice-goal.ensures.value in
    let flags : (atom : ℕ) → atom < c.args.strips.now.atoms → is_in c.as_slice-goal.result.now atom ≡ has_atom c.args.strips.now.goal atom = λ atom less. ap (λ xs. is_in xs atom) value ∙ c.requires.goal.flags atom less in
    let long : length c.as_slice-goal.result.now ≡ c.args.strips.now.atoms = ap length value ∙ c.requires.goal.long in
    let atom : c.index.result.now ≡ get_or c.loop-layers.layers.queue.items c.loop-layers.first 0 =
    get_or_read c.loop-layers.layers.queue.items c.loop-layers.first c.index.result.now (place_inside c.args.strips.now c.args.state.now c.requires.strips c.args.task.now c.requires.layered.0 c.as_slice-goal.result.now flags long c.loop-layers.first c.loop-layers.end c.loop-layers.level c.loop-layers.counts c.loop-layers.layers c.loop-layers.invariant.passed c.loop-layers.invariant.is c.if-first-layers.false) c.index.ensures 0 in
    let less : get_or c.loop-layers.layers.queue.items c.loop-layers.first 0 < c.args.strips.now.atoms = is_atom c.args.strips.now c.args.state.now c.requires.strips c.args.task.now c.requires.layered.0 c.as_slice-goal.result.now flags long c.loop-layers.first c.loop-layers.end c.loop-layers.level c.loop-layers.counts c.loop-layers.layers c.loop-layers.invariant.passed c.loop-layers.invariant.is c.if-first-layers.false in
    let many : length c.args.task.now.users ≡ c.args.strips.now.atoms = c.requires.actions.relaxed.many in
    omega (arith, atom, less, many)

pub count_down_each-requires-clause-actions : goal.count_down_each-requires-clause-actions
count_down_each-requires-clause-actions c =
    let value : c.as_slice-goal.result.now ≡ c.args.task.now.goal.items = c.as_slice-goal.ensures.value in
    let flags : (atom : ℕ) → atom < c.args.strips.now.atoms → is_in c.as_slice-goal.result.now atom ≡ has_atom c.args.strips.now.goal atom = λ atom less. ap (λ xs. is_in xs atom) value ∙ c.requires.goal.flags atom less in
    let long : length c.as_slice-goal.result.now ≡ c.args.strips.now.atoms = ap length value ∙ c.requires.goal.long in
    subst (λ n. All (IsRelaxed n) c.args.task.now.actions) (sym long)
    (actions_are_relaxed c.args.strips.now c.args.state.now c.requires.strips c.requires.actions.merged c.requires.actions.stand c.args.task.now.actions c.requires.actions.relaxed.relaxed)

pub count_down_each-requires-clause-users : goal.count_down_each-requires-clause-users
count_down_each-requires-clause-users c =
    let value : c.as_slice-goal.result.now ≡ c.args.task.now.goal.items = c.as_slice-goal.ensures.value in
    let flags : (atom : ℕ) → atom < c.args.strips.now.atoms → is_in c.as_slice-goal.result.now atom ≡ has_atom c.args.strips.now.goal atom = λ atom less. ap (λ xs. is_in xs atom) value ∙ c.requires.goal.flags atom less in
    let long : length c.as_slice-goal.result.now ≡ c.args.strips.now.atoms = ap length value ∙ c.requires.goal.long in
    let now : ArePassed c.args.strips.now c.args.state.now c.args.task.now c.loop-layers.first c.if-first-end.end c.if-first-end.level c.loop-layers.counts c.loop-layers.layers × (c.loop-layers.first < c.if-first-end.end) =
    renewed c.args.strips.now c.args.state.now c.requires.strips c.args.task.now c.requires.layered.0 c.as_slice-goal.result.now flags long c.loop-layers.first c.loop-layers.end c.loop-layers.level c.loop-layers.counts c.loop-layers.layers c.loop-layers.invariant.passed c.loop-layers.invariant.is c.if-first-end.end c.if-first-end.level
    (elim c.if-first-end.branch [
      | then-first-end w ↦ inl (w.if-first-end.true, w.end-is, w.level-is)
      | else-first-end w ↦ inr (w.if-first-end.false, w.end-is, w.level-is)
    ]) c.if-first-layers.false (λ e. absurd (omega (arith, c.loop-layers-test.true, e))) in
    let atom : c.index.result.now ≡ get_or c.loop-layers.layers.queue.items c.loop-layers.first 0 =
    get_or_read c.loop-layers.layers.queue.items c.loop-layers.first c.index.result.now (place_inside c.args.strips.now c.args.state.now c.requires.strips c.args.task.now c.requires.layered.0 c.as_slice-goal.result.now flags long c.loop-layers.first c.loop-layers.end c.loop-layers.level c.loop-layers.counts c.loop-layers.layers c.loop-layers.invariant.passed c.loop-layers.invariant.is c.if-first-layers.false) c.index.ensures 0 in
    let are : AreUsers now.0.merged (get_or c.loop-layers.layers.queue.items c.loop-layers.first 0) c.at-users.result.now =
    subst (λ (users : List ℕ). AreUsers now.0.merged (get_or c.loop-layers.layers.queue.items c.loop-layers.first 0) users) (sym (c.at-users.ensures ∙ ap (λ a. get_or c.args.task.now.users a []) atom))
    (now.0.relaxed.users (get_or c.loop-layers.layers.queue.items c.loop-layers.first 0) (is_atom c.args.strips.now c.args.state.now c.requires.strips c.args.task.now c.requires.layered.0 c.as_slice-goal.result.now flags long c.loop-layers.first c.loop-layers.end c.loop-layers.level c.loop-layers.counts c.loop-layers.layers c.loop-layers.invariant.passed c.loop-layers.invariant.is c.if-first-layers.false)) in
    all_wait c.args.strips.now c.args.state.now c.requires.strips c.args.task.now c.requires.layered.0 c.as_slice-goal.result.now flags long c.loop-layers.first c.if-first-end.end c.if-first-end.level c.loop-layers.counts c.loop-layers.layers now.0 c.loop-layers.invariant.is now.1 c.at-users.result.now are

pub count_down_each-requires-clause-ascend : goal.count_down_each-requires-clause-ascend
count_down_each-requires-clause-ascend c =
    let value : c.as_slice-goal.result.now ≡ c.args.task.now.goal.items = c.as_slice-goal.ensures.value in
    let flags : (atom : ℕ) → atom < c.args.strips.now.atoms → is_in c.as_slice-goal.result.now atom ≡ has_atom c.args.strips.now.goal atom = λ atom less. ap (λ xs. is_in xs atom) value ∙ c.requires.goal.flags atom less in
    let long : length c.as_slice-goal.result.now ≡ c.args.strips.now.atoms = ap length value ∙ c.requires.goal.long in
    let now : ArePassed c.args.strips.now c.args.state.now c.args.task.now c.loop-layers.first c.if-first-end.end c.if-first-end.level c.loop-layers.counts c.loop-layers.layers × (c.loop-layers.first < c.if-first-end.end) =
    renewed c.args.strips.now c.args.state.now c.requires.strips c.args.task.now c.requires.layered.0 c.as_slice-goal.result.now flags long c.loop-layers.first c.loop-layers.end c.loop-layers.level c.loop-layers.counts c.loop-layers.layers c.loop-layers.invariant.passed c.loop-layers.invariant.is c.if-first-end.end c.if-first-end.level
    (elim c.if-first-end.branch [
      | then-first-end w ↦ inl (w.if-first-end.true, w.end-is, w.level-is)
      | else-first-end w ↦ inr (w.if-first-end.false, w.end-is, w.level-is)
    ]) c.if-first-layers.false (λ e. absurd (omega (arith, c.loop-layers-test.true, e))) in
    let atom : c.index.result.now ≡ get_or c.loop-layers.layers.queue.items c.loop-layers.first 0 =
    get_or_read c.loop-layers.layers.queue.items c.loop-layers.first c.index.result.now (place_inside c.args.strips.now c.args.state.now c.requires.strips c.args.task.now c.requires.layered.0 c.as_slice-goal.result.now flags long c.loop-layers.first c.loop-layers.end c.loop-layers.level c.loop-layers.counts c.loop-layers.layers c.loop-layers.invariant.passed c.loop-layers.invariant.is c.if-first-layers.false) c.index.ensures 0 in
    let are : AreUsers now.0.merged (get_or c.loop-layers.layers.queue.items c.loop-layers.first 0) c.at-users.result.now =
    subst (λ (users : List ℕ). AreUsers now.0.merged (get_or c.loop-layers.layers.queue.items c.loop-layers.first 0) users) (sym (c.at-users.ensures ∙ ap (λ a. get_or c.args.task.now.users a []) atom))
    (now.0.relaxed.users (get_or c.loop-layers.layers.queue.items c.loop-layers.first 0) (is_atom c.args.strips.now c.args.state.now c.requires.strips c.args.task.now c.requires.layered.0 c.as_slice-goal.result.now flags long c.loop-layers.first c.loop-layers.end c.loop-layers.level c.loop-layers.counts c.loop-layers.layers c.loop-layers.invariant.passed c.loop-layers.invariant.is c.if-first-layers.false)) in
    are.ascend

pub loop-layers-smaller : goal.loop-layers-smaller
loop-layers-smaller c =
    let value : c.as_slice-goal.result.now ≡ c.args.task.now.goal.items = c.as_slice-goal.ensures.value in
    let flags : (atom : ℕ) → atom < c.args.strips.now.atoms → is_in c.as_slice-goal.result.now atom ≡ has_atom c.args.strips.now.goal atom = λ atom less. ap (λ xs. is_in xs atom) value ∙ c.requires.goal.flags atom less in
    let long : length c.as_slice-goal.result.now ≡ c.args.strips.now.atoms = ap length value ∙ c.requires.goal.long in
    let inside : c.loop-layers.first < length c.loop-layers.layers.queue.items = place_inside c.args.strips.now c.args.state.now c.requires.strips c.args.task.now c.requires.layered.0 c.as_slice-goal.result.now flags long c.loop-layers.first c.loop-layers.end c.loop-layers.level c.loop-layers.counts c.loop-layers.layers c.loop-layers.invariant.passed c.loop-layers.invariant.is c.if-first-layers.false in
    let smaller : length c.count_down_each.new.layers.queue.items - (c.loop-layers.first + 1) < length c.loop-layers.layers.queue.items - c.loop-layers.first =
    omega (arith, inside, c.count_down_each.ensures.is.places, c.loop-layers.invariant.is.places) in
    smaller

pub loop-layers-preserved : goal.loop-layers-preserved
loop-layers-preserved c =
    let value : c.as_slice-goal.result.now ≡ c.args.task.now.goal.items = c.as_slice-goal.ensures.value in
    let flags : (atom : ℕ) → atom < c.args.strips.now.atoms → is_in c.as_slice-goal.result.now atom ≡ has_atom c.args.strips.now.goal atom = λ atom less. ap (λ xs. is_in xs atom) value ∙ c.requires.goal.flags atom less in
    let long : length c.as_slice-goal.result.now ≡ c.args.strips.now.atoms = ap length value ∙ c.requires.goal.long in
    let now : ArePassed c.args.strips.now c.args.state.now c.args.task.now c.loop-layers.first c.if-first-end.end c.if-first-end.level c.loop-layers.counts c.loop-layers.layers × (c.loop-layers.first < c.if-first-end.end) =
    renewed c.args.strips.now c.args.state.now c.requires.strips c.args.task.now c.requires.layered.0 c.as_slice-goal.result.now flags long c.loop-layers.first c.loop-layers.end c.loop-layers.level c.loop-layers.counts c.loop-layers.layers c.loop-layers.invariant.passed c.loop-layers.invariant.is c.if-first-end.end c.if-first-end.level
    (elim c.if-first-end.branch [
      | then-first-end w ↦ inl (w.if-first-end.true, w.end-is, w.level-is)
      | else-first-end w ↦ inr (w.if-first-end.false, w.end-is, w.level-is)
    ]) c.if-first-layers.false (λ e. absurd (omega (arith, c.loop-layers-test.true, e))) in
    let atom : c.index.result.now ≡ get_or c.loop-layers.layers.queue.items c.loop-layers.first 0 =
    get_or_read c.loop-layers.layers.queue.items c.loop-layers.first c.index.result.now (place_inside c.args.strips.now c.args.state.now c.requires.strips c.args.task.now c.requires.layered.0 c.as_slice-goal.result.now flags long c.loop-layers.first c.loop-layers.end c.loop-layers.level c.loop-layers.counts c.loop-layers.layers c.loop-layers.invariant.passed c.loop-layers.invariant.is c.if-first-layers.false) c.index.ensures 0 in
    let are : AreUsers now.0.merged (get_or c.loop-layers.layers.queue.items c.loop-layers.first 0) c.at-users.result.now =
    subst (λ (users : List ℕ). AreUsers now.0.merged (get_or c.loop-layers.layers.queue.items c.loop-layers.first 0) users) (sym (c.at-users.ensures ∙ ap (λ a. get_or c.args.task.now.users a []) atom))
    (now.0.relaxed.users (get_or c.loop-layers.layers.queue.items c.loop-layers.first 0) (is_atom c.args.strips.now c.args.state.now c.requires.strips c.args.task.now c.requires.layered.0 c.as_slice-goal.result.now flags long c.loop-layers.first c.loop-layers.end c.loop-layers.level c.loop-layers.counts c.loop-layers.layers c.loop-layers.invariant.passed c.loop-layers.invariant.is c.if-first-layers.false)) in
    record {
      is = c.count_down_each.ensures.is;
      passed = passed_on c.args.strips.now c.args.state.now c.requires.strips c.args.task.now c.requires.layered.0 c.as_slice-goal.result.now flags long c.loop-layers.first c.if-first-end.end c.if-first-end.level c.loop-layers.counts c.loop-layers.layers now.0 c.loop-layers.invariant.is now.1 c.at-users.result.now are c.count_down_each.new.counts c.count_down_each.new.layers c.count_down_each.auto.counts
          c.count_down_each.ensures.counted c.count_down_each.ensures.others c.count_down_each.ensures.kept c.count_down_each.ensures.stays c.count_down_each.ensures.reaches c.count_down_each.ensures.only;
    }

pub returns-clause-cost : goal.returns-clause-cost
returns-clause-cost c =
    let value : c.as_slice-goal.result.now ≡ c.args.task.now.goal.items = c.as_slice-goal.ensures.value in
    let flags : (atom : ℕ) → atom < c.args.strips.now.atoms → is_in c.as_slice-goal.result.now atom ≡ has_atom c.args.strips.now.goal atom = λ atom less. ap (λ xs. is_in xs atom) value ∙ c.requires.goal.flags atom less in
    let long : length c.as_slice-goal.result.now ≡ c.args.strips.now.atoms = ap length value ∙ c.requires.goal.long in
    is_met c.args.strips.now c.args.state.now c.requires.strips c.args.task.now c.requires.layered.0 c.as_slice-goal.result.now flags long c.loop-layers.first c.loop-layers.end c.loop-layers.level c.loop-layers.counts c.loop-layers.layers c.loop-layers.invariant.passed c.loop-layers.invariant.is (omega (arith, c.loop-layers-test.false))
