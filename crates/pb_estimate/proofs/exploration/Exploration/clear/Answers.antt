use Rattle.std.proofs.Common.{◌≡◌, ◌≤◌, ℕ, length, replicate, subst, sym, ap, arith, rules, ◌∙◌, vec_len}
use Rattle.pb_packed.specs.Sizes.{most_atoms}
use Rattle.pb_estimate.specs.declared.exploration.AtomCost.TheVariants.{Unreached}
use Rattle.pb_estimate.specs.Exploring.{known_in}
use Rattle.pb_estimate.proofs.Lowered.{all_unreached, none_reached, not_reached}
use Rattle.pb_estimate.proofs.exploration.Exploration.clear.Goals as goal

pub returns-clause-is : goal.returns-clause-is
returns-clause-is c =
    let none : (atom : ℕ) → known_in c.fill.new.self.items atom ≡ Unreached = all_unreached c.fill.new.self.items (vec_len c.args.self.now.costs) (c.fill.ensures.items (λ y e. e) ∙ ap (replicate (vec_len c.args.self.now.costs)) c.unreached.ensures) in
    let long : length c.fill.new.self.items ≡ length c.args.self.now.costs.items = search rules in
    record {
      few = subst (λ n. n ≤ most_atoms) (sym long) c.requires.is.few;
      places = c.requires.is.places ∙ sym long;
      reached = none_reached c.fill.new.self.items none;
      inside = λ k less. absurd (omega (arith, less));
      all = λ atom is_so. absurd (not_reached c.fill.new.self.items atom (none atom) is_so);
      first = omega arith;
      passed = λ k less. absurd (omega (arith, less));
      entered = c.clear.ensures.are c.args.self.now.costs.items c.fill.new.self.items c.requires.is.entered long none;
    }
