use Rattle.std.proofs.Common.{◌≡◌, ◌<◌, ◌≤◌, ◌%◌, ◌-◌, ◌+◌, ◌*◌, List, get_or, set, length, is_some, rules, subst, sym, ap, arith, inr, ◌∙◌}
use Rattle.std.proofs.lemmas.List.{get_or_read}
use Rattle.std.proofs.lemmas.Nat.{mod_below}
use Rattle.pb_packed.specs.Sizes.{most_atoms}
use Rattle.pb_estimate.specs.declared.exploration.AtomCost.{AtomCost}
use Rattle.pb_estimate.specs.declared.exploration.AtomCost.TheVariants.{Unreached, Open, Final}
use Rattle.pb_estimate.specs.Exploring.{known_cost, final_cost, known_in, entry, ArePassed, AreEntries}
use Rattle.pb_estimate.proofs.Lowered.{same_length, changed}
use Rattle.pb_estimate.proofs.Entries.{taken}
use Rattle.pb_estimate.proofs.exploration.Exploration.take_from_bucket.Goals as goal

pub returns-clause-is : goal.returns-clause-is
returns-clause-is c =
    let left_less : c.left_in-left.result - 1 < get_or c.args.self.now.buckets.filled.items (c.args.cost % 64) 0 = omega (arith, c.left_in-left.ensures.few, c.if-left-eq0.false) in
    let room : get_or c.args.self.now.buckets.filled.items (c.args.cost % 64) 0 ≤ length c.args.self.now.costs.items = c.requires.is.entered.room (c.args.cost % 64) (mod_below c.args.cost 64 (omega arith)) in
    let place : (c.left_in-left.result - 1) * 64 + c.args.cost % 64 < length c.args.self.now.buckets.places.items = omega (arith, left_less, room, mod_below c.args.cost 64 (omega arith), c.requires.is.entered.rows) in
    let at : entry c.args.self.now.buckets.places.items (c.args.cost % 64) (c.left_in-left.result - 1) ≡ c.index-atom.result.now =
    sym (get_or_read c.args.self.now.buckets.places.items ((c.left_in-left.result - 1) * 64 + c.args.cost % 64) c.index-atom.result.now place c.index-atom.ensures 0) in
    let less : c.index-atom.result.now < length c.args.self.now.costs.items =
    subst (λ a. a < length c.args.self.now.costs.items) at (c.requires.is.entered.inside (c.args.cost % 64) (c.left_in-left.result - 1) (mod_below c.args.cost 64 (omega arith)) left_less) in
    let open_cost : c.index-known.result.now ≡ Open c.args.cost = search rules in
    let is : known_in c.args.self.now.costs.items c.index-atom.result.now ≡ Open c.args.cost =
    sym (get_or_read c.args.self.now.costs.items c.index-atom.result.now c.index-known.result.now less c.index-known.ensures Unreached) ∙ open_cost in
    let final : c.as_final.result ≡ Final c.args.cost = c.as_final.ensures c.args.cost open_cost in
    let some : 1 ≤ c.left_in-left.result = omega (arith, c.if-left-eq0.false) in
    let passed : ArePassed c.args.self.now.costs.items c.args.self.now.buckets.places.items (c.args.cost % 64) c.left_in-left.result (get_or c.args.self.now.buckets.filled.items (c.args.cost % 64) 0) =
    subst (λ (costs : List AtomCost). ArePassed costs c.args.self.now.buckets.places.items (c.args.cost % 64) c.left_in-left.result (get_or c.args.self.now.buckets.filled.items (c.args.cost % 64) 0)) c.as_slice.ensures.value c.left_in-left.ensures.passed in
    let q = changed c.args.self.now.costs.items c.args.self.now.queue.items c.args.self.now.first c.args.self.now.reached c.index-atom.result.now c.args.cost less c.requires.is.places
    c.requires.is.reached c.requires.is.inside c.requires.is.all c.requires.is.first c.requires.is.passed c.as_final.result
    (ap (λ known. is_some (known_cost known)) is) (ap (λ known. is_some (known_cost known)) final) (inr (ap (λ known. is_some (final_cost known)) final)) in
    record {
      few = subst (λ n. n ≤ most_atoms) (sym (same_length c.args.self.now.costs.items c.index-atom.result.now c.as_final.result)) c.requires.is.few;
      places = q.0;
      reached = q.1;
      inside = q.2;
      all = q.3;
      first = q.4;
      passed = q.5;
      entered = subst (λ (known : AtomCost). AreEntries (set c.args.self.now.costs.items c.index-atom.result.now known) c.args.self.now.buckets.places.items
          (set c.args.self.now.buckets.filled.items (c.args.cost % 64) (c.left_in-left.result - 1)) c.args.self.now.buckets.is_lost) (sym final)
          (taken c.args.self.now.costs.items c.args.self.now.buckets.places.items c.args.self.now.buckets.filled.items c.args.self.now.buckets.is_lost c.requires.is.entered (c.args.cost % 64) c.left_in-left.result
          c.index-atom.result.now c.args.cost (mod_below c.args.cost 64 (omega arith)) some c.left_in-left.ensures.few passed at less);
    }
