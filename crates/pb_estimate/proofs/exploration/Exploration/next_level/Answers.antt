use Rattle.std.proofs.Common.{◌≡◌, ◌<◌, ◌≤◌, ℕ, length, List, All, IfNone, is_some, subst, sym, ap, inr, ◌∙◌}
use Rattle.std.proofs.lemmas.List.{get_or_read}
use Rattle.pb_packed.specs.Sizes.{most_atoms}
use Rattle.pb_estimate.specs.declared.exploration.AtomCost.{AtomCost}
use Rattle.pb_estimate.specs.declared.exploration.AtomCost.TheVariants.{Unreached, Open, Final}
use Rattle.pb_estimate.specs.Exploring.{known_cost, final_cost, known_in}
use Rattle.pb_estimate.proofs.Least.{IsNoMore, HasNone}
use Rattle.pb_estimate.proofs.Lowered.{same_length, changed}
use Rattle.pb_estimate.proofs.Entries.{closed}
use Rattle.pb_estimate.proofs.Queue.{part, part_inside, open_in_part}
use Rattle.pb_estimate.proofs.exploration.Exploration.next_level.Goals as goal

pub least-requires-clause-inside : goal.least-requires-clause-inside
least-requires-clause-inside c =
    subst (λ (q : List ℕ). All (λ atom. atom < length c.as_slice-2.result.now) (part q c.first_open-self.result c.args.self.now.reached)) (sym c.as_slice.ensures.value)
    (subst (λ (costs : List AtomCost). All (λ atom. atom < length costs) (part c.args.self.now.queue.items c.first_open-self.result c.args.self.now.reached)) (sym c.as_slice-2.ensures.value)
    (part_inside c.args.self.now.costs.items c.args.self.now.queue.items c.first_open-self.result c.args.self.now.reached c.first_open-self.ensures.reached c.first_open-self.ensures.places
    c.requires.is.inside))

pub returns-in_err-atom-clause-none : goal.returns-in_err-atom-clause-none
returns-in_err-atom-clause-none c =
    let none : HasNone c.args.self.now.costs.items (part c.args.self.now.queue.items c.first_open-self.result c.args.self.now.reached) =
    subst (λ (q : List ℕ). HasNone c.args.self.now.costs.items (part q c.first_open-self.result c.args.self.now.reached)) c.as_slice.ensures.value
    (subst (λ (costs : List AtomCost). HasNone costs (part c.as_slice.result.now c.first_open-self.result c.args.self.now.reached)) c.as_slice-2.ensures.value c.in_err-atom.ensures.none) in
    subst (λ o. IfNone o ((atom cost : ℕ) → known_in c.args.self.now.costs.items atom ≡ Open cost → ⊥)) (sym c.from_residual.ensures)
    (λ atom cost is. open_in_part c.args.self.now.costs.items c.args.self.now.queue.items c.first_open-self.result c.args.self.now.reached c.first_open-self.ensures.reached
    c.first_open-self.ensures.places (λ a. (c' : ℕ) → known_in c.args.self.now.costs.items a ≡ Open c' → ⊥) c.requires.is.all c.first_open-self.ensures.passed none atom cost is cost is)

pub returns-clause-is : goal.returns-clause-is
returns-clause-is c =
    let less : c.in_ok-atom.atom < length c.args.self.now.costs.items =
    subst (λ (costs : List AtomCost). c.in_ok-atom.atom < length costs) c.as_slice-2.ensures.value c.in_ok-atom.ensures.found.0 in
    let is : known_in c.args.self.now.costs.items c.in_ok-atom.atom ≡ Open c.in_ok-atom.cost =
    subst (λ (costs : List AtomCost). known_in costs c.in_ok-atom.atom ≡ Open c.in_ok-atom.cost) c.as_slice-2.ensures.value c.in_ok-atom.ensures.found.1 in
    let final : c.as_final.result ≡ Final c.in_ok-atom.cost =
    c.as_final.ensures c.in_ok-atom.cost (get_or_read c.args.self.now.costs.items c.in_ok-atom.atom c.index-open.result.now less c.index-open.ensures Unreached ∙ is) in
    let q = changed c.args.self.now.costs.items c.args.self.now.queue.items c.first_open-self.result c.args.self.now.reached c.in_ok-atom.atom c.in_ok-atom.cost less c.requires.is.places
    c.requires.is.reached c.requires.is.inside c.requires.is.all c.first_open-self.ensures.reached c.first_open-self.ensures.passed c.as_final.result
    (ap (λ known. is_some (known_cost known)) is) (ap (λ known. is_some (known_cost known)) final) (inr (ap (λ known. is_some (final_cost known)) final)) in
    record {
      few = subst (λ n. n ≤ most_atoms) (sym (same_length c.args.self.now.costs.items c.in_ok-atom.atom c.as_final.result)) c.requires.is.few;
      places = q.0;
      reached = q.1;
      inside = q.2;
      all = q.3;
      first = q.4;
      passed = q.5;
      entered = closed c.args.self.now.costs.items c.args.self.now.buckets.places.items c.args.self.now.buckets.filled.items c.args.self.now.buckets.is_lost c.requires.is.entered c.in_ok-atom.atom c.as_final.result less
          (λ cost e. let wrong : ◌≡◌ {A = AtomCost} (Final c.in_ok-atom.cost) (Open cost) = sym final ∙ e in cc);
    }

pub returns-clause-least : goal.returns-clause-least
returns-clause-least c =
    let least : IsNoMore c.args.self.now.costs.items (part c.args.self.now.queue.items c.first_open-self.result c.args.self.now.reached) c.in_ok-atom.cost =
    subst (λ (q : List ℕ). IsNoMore c.args.self.now.costs.items (part q c.first_open-self.result c.args.self.now.reached) c.in_ok-atom.cost) c.as_slice.ensures.value
    (subst (λ (costs : List AtomCost). IsNoMore costs (part c.as_slice.result.now c.first_open-self.result c.args.self.now.reached) c.in_ok-atom.cost) c.as_slice-2.ensures.value
    c.in_ok-atom.ensures.least) in
    record {
      inside = subst (λ (costs : List AtomCost). c.in_ok-atom.atom < length costs) c.as_slice-2.ensures.value c.in_ok-atom.ensures.found.0;
      is = subst (λ (costs : List AtomCost). known_in costs c.in_ok-atom.atom ≡ Open c.in_ok-atom.cost) c.as_slice-2.ensures.value c.in_ok-atom.ensures.found.1;
      least = λ atom cost is. open_in_part c.args.self.now.costs.items c.args.self.now.queue.items c.first_open-self.result c.args.self.now.reached c.first_open-self.ensures.reached
          c.first_open-self.ensures.places (λ a. (c' : ℕ) → known_in c.args.self.now.costs.items a ≡ Open c' → c.in_ok-atom.cost ≤ c') c.requires.is.all c.first_open-self.ensures.passed
          least atom cost is cost is;
    }
