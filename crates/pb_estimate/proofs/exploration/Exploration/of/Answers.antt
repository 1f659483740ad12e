use Rattle.std.proofs.Common.{◌≡◌, ◌≤◌, ℕ, length, replicate, subst, sym, ap, arith, rules, ◌∙◌}
use Rattle.pb_packed.specs.Sizes.{most_atoms}
use Rattle.pb_estimate.specs.declared.exploration.AtomCost.TheVariants.{Unreached}
use Rattle.pb_estimate.specs.Exploring.{known_in}
use Rattle.pb_estimate.proofs.Lowered.{all_unreached, none_reached, not_reached}
use Rattle.pb_estimate.proofs.exploration.Exploration.of.Goals as goal

pub returns-clause-is : goal.returns-clause-is
returns-clause-is c =
    let none : (atom : ℕ) → known_in c.in_ok-vec.field-0.items atom ≡ Unreached = all_unreached c.in_ok-vec.field-0.items c.args.count (c.in_ok-vec.ensures.items_if_clones_equal (λ y e. e) ∙ ap (replicate c.args.count) c.unreached.ensures) in
    let long : length c.in_ok-vec.field-0.items ≡ c.args.count = search rules in
    let places : length c.in_ok-vec-2.field-0.items ≡ c.args.count = search rules in
    record {
      few = subst (λ n. n ≤ most_atoms) (sym long) c.requires;
      places = places ∙ sym long;
      reached = none_reached c.in_ok-vec.field-0.items none;
      inside = λ k less. absurd (omega (arith, less));
      all = λ atom is_so. absurd (not_reached c.in_ok-vec.field-0.items atom (none atom) is_so);
      first = omega arith;
      passed = λ k less. absurd (omega (arith, less));
      entered = c.in_ok-of.ensures.are c.in_ok-vec.field-0.items long none;
    }
