use Rattle.std.proofs.Common.{◌≡◌, ◌+◌, ◌<◌, ◌≤◌, List, length, set, refl, arith, subst, sym, ap, ◌∙◌}
use Rattle.std.proofs.lemmas.List.{get_or_read}
use Rattle.pb_packed.specs.Sizes.{most_atoms}
use Rattle.pb_estimate.specs.declared.exploration.AtomCost.{AtomCost}
use Rattle.pb_estimate.specs.declared.exploration.AtomCost.TheVariants.{Unreached, Open, Final}
use Rattle.pb_estimate.specs.Hmax.{IsAtMost}
use Rattle.pb_estimate.specs.Exploring.{known_in, known_cost, final_cost, AreEntries}
use Rattle.pb_estimate.proofs.Lowered.{room, same_length, pushed, lowered_none, IsQueue}
use Rattle.pb_estimate.proofs.exploration.Exploration.lower_open.Goals as goal

pub index_mut-requires-in-Unreached : goal.index_mut-requires-in-Unreached
index_mut-requires-in-Unreached c =
    let un : known_in c.args.self.now.costs.items c.args.atom ≡ Unreached = sym (get_or_read c.args.self.now.costs.items c.args.atom c.index.result.now c.requires.inside c.index.ensures Unreached) ∙ sym c.read.ensures ∙ c.in-Unreached.is in
    let small : c.args.self.now.reached < length c.args.self.now.costs.items = room c.args.self.now.costs.items c.args.atom (Open c.args.cost) c.requires.inside c.args.self.now.reached un refl c.requires.is.reached in
    omega (arith, c.args.self.now.queue.ok.0, c.requires.is.places)

pub overflow_add-self : goal.overflow_add-self
overflow_add-self c =
    let un : known_in c.args.self.now.costs.items c.args.atom ≡ Unreached = sym (get_or_read c.args.self.now.costs.items c.args.atom c.index.result.now c.requires.inside c.index.ensures Unreached) ∙ sym c.read.ensures ∙ c.in-Unreached.is in
    let small : c.args.self.now.reached < length c.args.self.now.costs.items = room c.args.self.now.costs.items c.args.atom (Open c.args.cost) c.requires.inside c.args.self.now.reached un refl c.requires.is.reached in
    let few : length c.args.self.now.costs.items ≤ most_atoms = c.requires.is.few in
    omega arith

pub returns-in-Unreached-clause-is : goal.returns-in-Unreached-clause-is
returns-in-Unreached-clause-is c =
    let un : known_in c.args.self.now.costs.items c.args.atom ≡ Unreached = sym (get_or_read c.args.self.now.costs.items c.args.atom c.index.result.now c.requires.inside c.index.ensures Unreached) ∙ sym c.read.ensures ∙ c.in-Unreached.is in
    let q = subst (λ (known : AtomCost). IsQueue (set c.args.self.now.costs.items c.args.atom known) (set c.args.self.now.queue.items c.args.self.now.reached c.args.atom) c.args.self.now.first (c.args.self.now.reached + 1)) (sym c.open.ensures)
    (pushed c.args.self.now.costs.items c.args.self.now.queue.items c.args.self.now.first c.args.self.now.reached c.args.atom c.args.cost c.requires.inside c.requires.is.places c.requires.is.reached c.requires.is.inside c.requires.is.all c.requires.is.first c.requires.is.passed un) in
    record {
      few = subst (λ n. n ≤ most_atoms) (sym (same_length c.args.self.now.costs.items c.args.atom c.open.result)) c.requires.is.few;
      places = q.0;
      reached = q.1;
      inside = q.2;
      all = q.3;
      first = q.4;
      passed = q.5;
      entered = subst (λ (known : AtomCost). AreEntries (set c.args.self.now.costs.items c.args.atom known) c.enter.new.self.places.items c.enter.new.self.filled.items c.enter.new.self.is_lost) (sym c.open.ensures)
          (subst (λ (costs : List AtomCost). AreEntries (set costs c.args.atom (Open c.args.cost)) c.enter.new.self.places.items c.enter.new.self.filled.items c.enter.new.self.is_lost) c.as_slice.ensures.value c.enter.ensures);
    }

pub returns-in-Final-clause-lowered : goal.returns-in-Final-clause-lowered
returns-in-Final-clause-lowered c =
    let is : known_in c.args.self.now.costs.items c.args.atom ≡ Final c.in-Final.field-0 = sym (get_or_read c.args.self.now.costs.items c.args.atom c.index.result.now c.requires.inside c.index.ensures Unreached) ∙ sym c.read.ensures ∙ c.in-Final.is in
    lowered_none c.args.self.now.costs.items c.args.atom c.args.cost c.requires.inside
    (subst (λ known. IsAtMost (known_cost known) c.args.cost) (sym is) (c.requires.finals c.args.atom c.in-Final.field-0 (ap final_cost is)))
