use Rattle.std.proofs.Common.{◌≡◌, ◌<◌, ◌≤◌, ℕ, suc, List, [], length, get_or, set, All, Contains, true, false, sym, subst, ap, arith, ◌∙◌, ◌⊎◌}
use Rattle.std.proofs.lemmas.List.{get_or_read}
use Rattle.pb_task.specs.Strips.{has_atom}
use Rattle.pb_estimate.specs.declared.exploration.AtomCost.{AtomCost}
use Rattle.pb_estimate.specs.declared.exploration.AtomCost.TheVariants.{Final}
use Rattle.pb_estimate.specs.Exploring.{cost_in, waiting, AreNoLess, HaveSameFinals, FinalsAreWithin}
use Rattle.pb_estimate.specs.Hmax.{IsAtMost}
use Rattle.pb_estimate.specs.Tables.{IsRelaxed, IsAddedBy, AreFree, AreUsers}
use Rattle.pb_estimate.proofs.Sets.{many_in}
use Rattle.pb_estimate.proofs.Underway.{waiting_drops, waiting_stays, finals_within, same_waiting, goal_is, goal_is_dead, opens_from}
use Rattle.pb_estimate.proofs.Steps.{actions_are_relaxed, begun, waiting_at_first, begun_counts, not_below, rest_waits, level_is_small, users_wait, counted_on, goes_on}
use Rattle.pb_estimate.proofs.strips.goal_cost.Goals as goal
use Rattle.pb_estimate.proofs.strips.goal_cost.Goals.{then-index+else-wanted-eq0, else-index}

pub lower_free-requires-clause-actions : goal.lower_free-requires-clause-actions
lower_free-requires-clause-actions c =
    subst (λ n. All (IsRelaxed n) c.args.task.now.actions) (sym c.begin.ensures.long)
    (actions_are_relaxed c.args.strips.now c.args.state.now c.requires.strips c.requires.actions.merged c.requires.actions.stand c.args.task.now.actions c.requires.actions.relaxed.relaxed)

pub loop-atom-init : goal.loop-atom-init
loop-atom-init c =
    let strips = c.args.strips.now in
    let are : AreFree c.args.strips.now.atoms c.requires.actions.merged c.as_slice.result.now =
    subst (λ (f : List ℕ). AreFree c.args.strips.now.atoms c.requires.actions.merged f) (sym c.as_slice.ensures) c.requires.actions.relaxed.free in
    record {
      is = c.lower_free.ensures.is;
      way = record {
        merged = c.requires.actions.merged;
        stand = c.requires.actions.stand;
        relaxed = c.requires.actions.relaxed;
        underway = begun c.args.strips.now c.args.state.now c.requires.strips c.requires.actions.merged c.requires.actions.stand c.args.task.now.actions c.requires.actions.relaxed.relaxed c.as_slice.result.now are
            c.begin.new.self.costs.items c.lower_free.new.exploration.costs.items (c.lower_free.ensures.long ∙ c.begin.ensures.long) c.begin.ensures.holds c.begin.ensures.only c.begin.ensures.finals
            c.lower_free.ensures.finals c.lower_free.ensures.falls c.lower_free.ensures.reaches c.lower_free.ensures.only;
        counted = begun_counts c.args.strips.now c.args.state.now c.requires.strips c.requires.actions.merged c.requires.actions.stand c.args.task.now.actions c.requires.actions.relaxed.relaxed c.as_slice.result.now are
            c.begin.new.self.costs.items c.lower_free.new.exploration.costs.items (c.lower_free.ensures.long ∙ c.begin.ensures.long) c.begin.ensures.holds c.begin.ensures.only c.begin.ensures.finals
            c.lower_free.ensures.finals c.lower_free.ensures.falls c.lower_free.ensures.reaches c.lower_free.ensures.only c.args.counts.now (c.requires.counts ∙ c.requires.actions.relaxed.needs);
      };
      wanted = c.requires.goal.wanted ∙ sym (many_in c.args.strips.now.goal c.args.strips.now.atoms)
          ∙ waiting_at_first c.args.strips.now c.args.state.now c.requires.strips c.requires.actions.merged c.requires.actions.stand c.args.task.now.actions c.requires.actions.relaxed.relaxed c.as_slice.result.now are
          c.begin.new.self.costs.items c.lower_free.new.exploration.costs.items (c.lower_free.ensures.long ∙ c.begin.ensures.long) c.begin.ensures.holds c.begin.ensures.only c.begin.ensures.finals
          c.lower_free.ensures.finals c.lower_free.ensures.falls c.lower_free.ensures.reaches c.lower_free.ensures.only c.args.strips.now.goal;
      some = c.requires.some;
    }

pub next-requires-clause-level : goal.next-requires-clause-level
next-requires-clause-level c = opens_from c.args.strips.now c.args.state.now c.loop-atom.invariant.way.merged c.loop-atom.level c.loop-atom.exploration.costs.items c.loop-atom.invariant.way.underway

pub returns-then-wanted-eq0-clause-cost : goal.returns-then-wanted-eq0-clause-cost
returns-then-wanted-eq0-clause-cost c =
    let inside : c.in-Some.atom < length c.loop-atom.exploration.costs.items = c.in-Some.ensures.least.inside in
    let less : c.in-Some.atom < c.args.strips.now.atoms = omega (arith, c.loop-atom.invariant.way.underway.long, inside) in
    let has : has_atom c.args.strips.now.goal c.in-Some.atom ≡ true =
    sym (c.requires.goal.flags c.in-Some.atom less) ∙ sym (get_or_read c.args.task.now.goal.items c.in-Some.atom c.index.result.now (omega (arith, c.requires.goal.long, less)) c.index.ensures false) ∙ c.if-index.true in
    let drop : waiting (has_atom c.args.strips.now.goal) c.loop-atom.exploration.costs.items c.args.strips.now.atoms
    ≡ suc (waiting (has_atom c.args.strips.now.goal) (set c.loop-atom.exploration.costs.items c.in-Some.atom (Final c.in-Some.cost)) c.args.strips.now.atoms) =
    waiting_drops c.loop-atom.exploration.costs.items c.in-Some.atom c.in-Some.cost c.in-Some.ensures.least (has_atom c.args.strips.now.goal) c.args.strips.now.atoms less has in
    let wanted : c.loop-atom.wanted ≡ waiting (has_atom c.args.strips.now.goal) c.loop-atom.exploration.costs.items c.args.strips.now.atoms = c.loop-atom.invariant.wanted in
    goal_is c.args.strips.now c.args.state.now c.loop-atom.invariant.way.merged c.loop-atom.invariant.way.stand c.loop-atom.level c.in-Some.atom c.in-Some.cost c.loop-atom.exploration.costs.items c.loop-atom.invariant.way.underway c.in-Some.ensures.least less
    (not_below c.args.strips.now c.args.state.now c.requires.strips c.loop-atom.invariant.way.merged c.loop-atom.invariant.way.stand c.args.task.now.actions c.loop-atom.invariant.way.relaxed.relaxed c.loop-atom.level c.in-Some.atom c.in-Some.cost
    c.loop-atom.exploration.costs.items c.loop-atom.invariant.way.underway c.in-Some.ensures.least c.loop-atom.counts c.loop-atom.invariant.way.counted
    (get_or c.args.task.now.users c.in-Some.atom []) (c.loop-atom.invariant.way.relaxed.users c.in-Some.atom less))
    has (omega (arith, drop, wanted, c.if-wanted-eq0.true))

pub count_down_each-requires-clause-actions : goal.count_down_each-requires-clause-actions
count_down_each-requires-clause-actions c =
    subst (λ n. All (IsRelaxed n) c.args.task.now.actions) (sym (c.next.ensures.long ∙ c.loop-atom.invariant.way.underway.long))
    (actions_are_relaxed c.args.strips.now c.args.state.now c.requires.strips c.loop-atom.invariant.way.merged c.loop-atom.invariant.way.stand c.args.task.now.actions c.loop-atom.invariant.way.relaxed.relaxed)

pub count_down_each-requires-clause-users : goal.count_down_each-requires-clause-users
count_down_each-requires-clause-users c =
    let inside : c.in-Some.atom < length c.loop-atom.exploration.costs.items = c.in-Some.ensures.least.inside in
    let less : c.in-Some.atom < c.args.strips.now.atoms = omega (arith, c.loop-atom.invariant.way.underway.long, inside) in
    let are : AreUsers c.loop-atom.invariant.way.merged c.in-Some.atom c.at.result.now =
    subst (λ (users : List ℕ). AreUsers c.loop-atom.invariant.way.merged c.in-Some.atom users) (sym c.at.ensures)
    (c.loop-atom.invariant.way.relaxed.users c.in-Some.atom less) in
    users_wait c.args.strips.now c.args.state.now c.requires.strips c.loop-atom.invariant.way.merged c.loop-atom.invariant.way.stand c.args.task.now.actions c.loop-atom.invariant.way.relaxed.relaxed c.loop-atom.level c.in-Some.atom c.in-Some.cost
    c.loop-atom.exploration.costs.items c.loop-atom.invariant.way.underway c.in-Some.ensures.least c.loop-atom.counts c.loop-atom.invariant.way.counted c.at.result.now are

pub count_down_each-requires-clause-ascend : goal.count_down_each-requires-clause-ascend
count_down_each-requires-clause-ascend c =
    let inside : c.in-Some.atom < length c.loop-atom.exploration.costs.items = c.in-Some.ensures.least.inside in
    let less : c.in-Some.atom < c.args.strips.now.atoms = omega (arith, c.loop-atom.invariant.way.underway.long, inside) in
    let are : AreUsers c.loop-atom.invariant.way.merged c.in-Some.atom c.at.result.now =
    subst (λ (users : List ℕ). AreUsers c.loop-atom.invariant.way.merged c.in-Some.atom users) (sym c.at.ensures)
    (c.loop-atom.invariant.way.relaxed.users c.in-Some.atom less) in
    are.ascend

pub count_down_each-requires-clause-level : goal.count_down_each-requires-clause-level
count_down_each-requires-clause-level c =
    let inside : c.in-Some.atom < length c.loop-atom.exploration.costs.items = c.in-Some.ensures.least.inside in
    let less : c.in-Some.atom < c.args.strips.now.atoms = omega (arith, c.loop-atom.invariant.way.underway.long, inside) in
    let are : AreUsers c.loop-atom.invariant.way.merged c.in-Some.atom c.at.result.now =
    subst (λ (users : List ℕ). AreUsers c.loop-atom.invariant.way.merged c.in-Some.atom users) (sym c.at.ensures)
    (c.loop-atom.invariant.way.relaxed.users c.in-Some.atom less) in
    level_is_small c.args.strips.now c.args.state.now c.requires.strips c.loop-atom.invariant.way.merged c.loop-atom.invariant.way.stand c.args.task.now.actions c.loop-atom.invariant.way.relaxed.relaxed c.loop-atom.level c.in-Some.atom c.in-Some.cost
    c.loop-atom.exploration.costs.items c.loop-atom.invariant.way.underway c.in-Some.ensures.least c.loop-atom.counts c.loop-atom.invariant.way.counted c.at.result.now are

pub count_down_each-requires-clause-finals : goal.count_down_each-requires-clause-finals
count_down_each-requires-clause-finals c =
    let inside : c.in-Some.atom < length c.loop-atom.exploration.costs.items = c.in-Some.ensures.least.inside in
    let less : c.in-Some.atom < c.args.strips.now.atoms = omega (arith, c.loop-atom.invariant.way.underway.long, inside) in
    let are : AreUsers c.loop-atom.invariant.way.merged c.in-Some.atom c.at.result.now =
    subst (λ (users : List ℕ). AreUsers c.loop-atom.invariant.way.merged c.in-Some.atom users) (sym c.at.ensures)
    (c.loop-atom.invariant.way.relaxed.users c.in-Some.atom less) in
    subst (λ (xs : List AtomCost). FinalsAreWithin c.in-Some.cost xs) (sym c.in-Some.ensures.made)
    (finals_within c.loop-atom.exploration.costs.items c.in-Some.atom c.in-Some.cost c.in-Some.ensures.least c.loop-atom.level
    (not_below c.args.strips.now c.args.state.now c.requires.strips c.loop-atom.invariant.way.merged c.loop-atom.invariant.way.stand c.args.task.now.actions c.loop-atom.invariant.way.relaxed.relaxed c.loop-atom.level c.in-Some.atom c.in-Some.cost
    c.loop-atom.exploration.costs.items c.loop-atom.invariant.way.underway c.in-Some.ensures.least c.loop-atom.counts c.loop-atom.invariant.way.counted c.at.result.now are)
    c.loop-atom.invariant.way.underway.finals)

pub loop-atom-smaller : goal.loop-atom-smaller
loop-atom-smaller c =
    let inside : c.in-Some.atom < length c.loop-atom.exploration.costs.items = c.in-Some.ensures.least.inside in
    let less : c.in-Some.atom < c.args.strips.now.atoms = omega (arith, c.loop-atom.invariant.way.underway.long, inside) in
    let are : AreUsers c.loop-atom.invariant.way.merged c.in-Some.atom c.at.result.now =
    subst (λ (users : List ℕ). AreUsers c.loop-atom.invariant.way.merged c.in-Some.atom users) (sym c.at.ensures)
    (c.loop-atom.invariant.way.relaxed.users c.in-Some.atom less) in
    let made : c.next.new.self.costs.items ≡ set c.loop-atom.exploration.costs.items c.in-Some.atom (Final c.in-Some.cost) = c.in-Some.ensures.made in
    let drop : waiting (λ _. true) c.loop-atom.exploration.costs.items c.args.strips.now.atoms
    ≡ suc (waiting (λ _. true) (set c.loop-atom.exploration.costs.items c.in-Some.atom (Final c.in-Some.cost)) c.args.strips.now.atoms) =
    rest_waits c.args.strips.now c.args.state.now c.requires.strips c.loop-atom.invariant.way.merged c.loop-atom.invariant.way.stand c.args.task.now.actions c.loop-atom.invariant.way.relaxed.relaxed c.loop-atom.level c.in-Some.atom c.in-Some.cost
    c.loop-atom.exploration.costs.items c.loop-atom.invariant.way.underway c.in-Some.ensures.least c.loop-atom.counts c.loop-atom.invariant.way.counted c.at.result.now are in
    let still : waiting (λ _. true) c.count_down_each.new.exploration.costs.items c.args.strips.now.atoms
    ≡ waiting (λ _. true) (set c.loop-atom.exploration.costs.items c.in-Some.atom (Final c.in-Some.cost)) c.args.strips.now.atoms =
    same_waiting (λ _. true) (set c.loop-atom.exploration.costs.items c.in-Some.atom (Final c.in-Some.cost)) c.count_down_each.new.exploration.costs.items c.args.strips.now.atoms
    (subst (λ (xs : List AtomCost). HaveSameFinals xs c.count_down_each.new.exploration.costs.items) made c.count_down_each.ensures.finals) in
    let smaller : waiting (λ _. true) c.count_down_each.new.exploration.costs.items c.args.strips.now.atoms < waiting (λ _. true) c.loop-atom.exploration.costs.items c.args.strips.now.atoms = omega (arith, drop, still) in
    smaller

pub loop-atom-preserved : goal.loop-atom-preserved
loop-atom-preserved c =
    let inside : c.in-Some.atom < length c.loop-atom.exploration.costs.items = c.in-Some.ensures.least.inside in
    let less : c.in-Some.atom < c.args.strips.now.atoms = omega (arith, c.loop-atom.invariant.way.underway.long, inside) in
    let are : AreUsers c.loop-atom.invariant.way.merged c.in-Some.atom c.at.result.now =
    subst (λ (users : List ℕ). AreUsers c.loop-atom.invariant.way.merged c.in-Some.atom users) (sym c.at.ensures)
    (c.loop-atom.invariant.way.relaxed.users c.in-Some.atom less) in
    let made : c.next.new.self.costs.items ≡ set c.loop-atom.exploration.costs.items c.in-Some.atom (Final c.in-Some.cost) = c.in-Some.ensures.made in
    let still : waiting (has_atom c.args.strips.now.goal) c.count_down_each.new.exploration.costs.items c.args.strips.now.atoms
    ≡ waiting (has_atom c.args.strips.now.goal) (set c.loop-atom.exploration.costs.items c.in-Some.atom (Final c.in-Some.cost)) c.args.strips.now.atoms =
    same_waiting (has_atom c.args.strips.now.goal) (set c.loop-atom.exploration.costs.items c.in-Some.atom (Final c.in-Some.cost)) c.count_down_each.new.exploration.costs.items c.args.strips.now.atoms
    (subst (λ (xs : List AtomCost). HaveSameFinals xs c.count_down_each.new.exploration.costs.items) made c.count_down_each.ensures.finals) in
    let before : c.loop-atom.wanted ≡ waiting (has_atom c.args.strips.now.goal) c.loop-atom.exploration.costs.items c.args.strips.now.atoms = c.loop-atom.invariant.wanted in
    let is : c.index.result.now ≡ has_atom c.args.strips.now.goal c.in-Some.atom =
    get_or_read c.args.task.now.goal.items c.in-Some.atom c.index.result.now (omega (arith, c.requires.goal.long, less)) c.index.ensures false ∙ c.requires.goal.flags c.in-Some.atom less in
    let both : (c.if-index.wanted ≡ waiting (has_atom c.args.strips.now.goal) c.count_down_each.new.exploration.costs.items c.args.strips.now.atoms) × (1 ≤ c.if-index.wanted) =
    elim c.if-index.branch [
      | then-index+else-wanted-eq0 w ↦
          let drop : waiting (has_atom c.args.strips.now.goal) c.loop-atom.exploration.costs.items c.args.strips.now.atoms
          ≡ suc (waiting (has_atom c.args.strips.now.goal) (set c.loop-atom.exploration.costs.items c.in-Some.atom (Final c.in-Some.cost)) c.args.strips.now.atoms) =
          waiting_drops c.loop-atom.exploration.costs.items c.in-Some.atom c.in-Some.cost c.in-Some.ensures.least (has_atom c.args.strips.now.goal) c.args.strips.now.atoms less
          (sym is ∙ w.if-index.true) in
          (omega (arith, drop, still, before, w.wanted-is), omega (arith, w.wanted-is, w.if-wanted-eq0.false))
      | else-index w ↦
          let same : waiting (has_atom c.args.strips.now.goal) (set c.loop-atom.exploration.costs.items c.in-Some.atom (Final c.in-Some.cost)) c.args.strips.now.atoms
          ≡ waiting (has_atom c.args.strips.now.goal) c.loop-atom.exploration.costs.items c.args.strips.now.atoms =
          waiting_stays c.loop-atom.exploration.costs.items c.in-Some.atom c.in-Some.cost c.in-Some.ensures.least (has_atom c.args.strips.now.goal) c.args.strips.now.atoms
          (sym is ∙ w.if-index.false) in
          (omega (arith, same, still, before, w.wanted-is), omega (arith, w.wanted-is, c.loop-atom.invariant.some))
    ] in
    record {
      is = c.count_down_each.ensures.is;
      way = record {
        merged = c.loop-atom.invariant.way.merged;
        stand = c.loop-atom.invariant.way.stand;
        relaxed = c.loop-atom.invariant.way.relaxed;
        underway = goes_on c.args.strips.now c.args.state.now c.requires.strips c.loop-atom.invariant.way.merged c.loop-atom.invariant.way.stand c.args.task.now.actions c.loop-atom.invariant.way.relaxed.relaxed c.loop-atom.level c.in-Some.atom c.in-Some.cost
            c.loop-atom.exploration.costs.items c.loop-atom.invariant.way.underway c.in-Some.ensures.least c.loop-atom.counts c.loop-atom.invariant.way.counted c.at.result.now are
            c.count_down_each.new.counts c.count_down_each.new.exploration.costs.items (c.count_down_each.ensures.long ∙ ap length made) c.count_down_each.auto.counts
            c.count_down_each.ensures.counted c.count_down_each.ensures.others
            (subst (λ (xs : List AtomCost). HaveSameFinals xs c.count_down_each.new.exploration.costs.items) made c.count_down_each.ensures.finals)
            (subst (λ (xs : List AtomCost). AreNoLess (cost_in xs) (cost_in c.count_down_each.new.exploration.costs.items)) made c.count_down_each.ensures.falls) c.count_down_each.ensures.reaches
            (subst (λ (xs : List AtomCost). (atom cost : ℕ) → IsAtMost (cost_in c.count_down_each.new.exploration.costs.items atom) cost → IsAtMost (cost_in xs atom) cost
            ⊎ ((user : ℕ) × Contains c.at.result.now user × IsAddedBy c.args.task.now.actions c.in-Some.cost c.count_down_each.new.counts user atom cost)) made c.count_down_each.ensures.only);
        counted = counted_on c.args.strips.now c.args.state.now c.requires.strips c.loop-atom.invariant.way.merged c.loop-atom.invariant.way.stand c.args.task.now.actions c.loop-atom.invariant.way.relaxed.relaxed c.loop-atom.level c.in-Some.atom c.in-Some.cost
            c.loop-atom.exploration.costs.items c.loop-atom.invariant.way.underway c.in-Some.ensures.least c.loop-atom.counts c.loop-atom.invariant.way.counted c.at.result.now are
            c.count_down_each.new.counts c.count_down_each.new.exploration.costs.items (c.count_down_each.ensures.long ∙ ap length made) c.count_down_each.auto.counts
            c.count_down_each.ensures.counted c.count_down_each.ensures.others
            (subst (λ (xs : List AtomCost). HaveSameFinals xs c.count_down_each.new.exploration.costs.items) made c.count_down_each.ensures.finals)
            (subst (λ (xs : List AtomCost). AreNoLess (cost_in xs) (cost_in c.count_down_each.new.exploration.costs.items)) made c.count_down_each.ensures.falls) c.count_down_each.ensures.reaches
            (subst (λ (xs : List AtomCost). (atom cost : ℕ) → IsAtMost (cost_in c.count_down_each.new.exploration.costs.items atom) cost → IsAtMost (cost_in xs atom) cost
            ⊎ ((user : ℕ) × Contains c.at.result.now user × IsAddedBy c.args.task.now.actions c.in-Some.cost c.count_down_each.new.counts user atom cost)) made c.count_down_each.ensures.only);
      };
      wanted = both.0;
      some = both.1;
    }

pub returns-clause-cost : goal.returns-clause-cost
returns-clause-cost c =
    goal_is_dead c.args.strips.now c.args.state.now c.loop-atom.invariant.way.merged c.loop-atom.invariant.way.stand c.loop-atom.level c.loop-atom.exploration.costs.items c.loop-atom.invariant.way.underway
    c.in_default.ensures.none (omega (arith, c.loop-atom.invariant.wanted, c.loop-atom.invariant.some))
