use Rattle.std.proofs.Common.{◌≡◌, ◌<◌, ◌≤◌, get_or, set, length, is_some, subst, sym, ap, arith, inr, ◌∙◌}
use Rattle.std.proofs.lemmas.List.{get_or_read}
use Rattle.pb_packed.specs.Sizes.{most_atoms}
use Rattle.pb_estimate.specs.declared.exploration.AtomCost.{AtomCost}
use Rattle.pb_estimate.specs.declared.exploration.AtomCost.TheVariants.{Unreached, Open, Final}
use Rattle.pb_estimate.specs.Exploring.{known_cost, final_cost, known_in}
use Rattle.pb_estimate.proofs.Lowered.{same_length, changed}
use Rattle.pb_estimate.proofs.Queue.{at_place}
use Rattle.pb_estimate.proofs.Entries.{closed}
use Rattle.pb_estimate.proofs.exploration.Exploration.take.Goals as goal

pub index-atom-requires : goal.index-atom-requires
index-atom-requires c =
    let inside : c.args.at < length c.args.self.now.queue.items = at_place c.args.self.now.costs.items c.args.self.now.queue.items c.args.self.now.reached c.args.at c.requires.is.places c.requires.is.reached c.requires.at in
    omega (arith, inside, c.args.self.now.queue.ok.0)

pub index-open-requires : goal.index-open-requires
index-open-requires c =
    let atom : c.index-atom.result.now ≡ get_or c.args.self.now.queue.items c.args.at 0 = get_or_read c.args.self.now.queue.items c.args.at c.index-atom.result.now (at_place c.args.self.now.costs.items c.args.self.now.queue.items c.args.self.now.reached c.args.at c.requires.is.places c.requires.is.reached c.requires.at) c.index-atom.ensures 0 in
    let less : c.index-atom.result.now < length c.args.self.now.costs.items = subst (λ n. n < length c.args.self.now.costs.items) (sym atom) (c.requires.is.inside c.args.at c.requires.at) in
    omega (arith, less, c.args.self.now.costs.ok.0)

pub as_final-requires : goal.as_final-requires
as_final-requires c =
    let atom : c.index-atom.result.now ≡ get_or c.args.self.now.queue.items c.args.at 0 = get_or_read c.args.self.now.queue.items c.args.at c.index-atom.result.now (at_place c.args.self.now.costs.items c.args.self.now.queue.items c.args.self.now.reached c.args.at c.requires.is.places c.requires.is.reached c.requires.at) c.index-atom.ensures 0 in
    let less : c.index-atom.result.now < length c.args.self.now.costs.items = subst (λ n. n < length c.args.self.now.costs.items) (sym atom) (c.requires.is.inside c.args.at c.requires.at) in
    let is : known_in c.args.self.now.costs.items c.index-atom.result.now ≡ Open c.args.level = ap (known_in c.args.self.now.costs.items) atom ∙ c.requires.open in
    let open_cost : c.index-open.result.now ≡ Open c.args.level = get_or_read c.args.self.now.costs.items c.index-atom.result.now c.index-open.result.now less c.index-open.ensures Unreached ∙ is in
    (c.args.level, open_cost)

pub index_mut-requires : goal.index_mut-requires
index_mut-requires c =
    let atom : c.index-atom.result.now ≡ get_or c.args.self.now.queue.items c.args.at 0 = get_or_read c.args.self.now.queue.items c.args.at c.index-atom.result.now (at_place c.args.self.now.costs.items c.args.self.now.queue.items c.args.self.now.reached c.args.at c.requires.is.places c.requires.is.reached c.requires.at) c.index-atom.ensures 0 in
    let less : c.index-atom.result.now < length c.args.self.now.costs.items = subst (λ n. n < length c.args.self.now.costs.items) (sym atom) (c.requires.is.inside c.args.at c.requires.at) in
    omega (arith, less, c.args.self.now.costs.ok.0)

pub returns-clause-is : goal.returns-clause-is
returns-clause-is c =
    let atom : c.index-atom.result.now ≡ get_or c.args.self.now.queue.items c.args.at 0 = get_or_read c.args.self.now.queue.items c.args.at c.index-atom.result.now (at_place c.args.self.now.costs.items c.args.self.now.queue.items c.args.self.now.reached c.args.at c.requires.is.places c.requires.is.reached c.requires.at) c.index-atom.ensures 0 in
    let less : c.index-atom.result.now < length c.args.self.now.costs.items = subst (λ n. n < length c.args.self.now.costs.items) (sym atom) (c.requires.is.inside c.args.at c.requires.at) in
    let is : known_in c.args.self.now.costs.items c.index-atom.result.now ≡ Open c.args.level = ap (known_in c.args.self.now.costs.items) atom ∙ c.requires.open in
    let open_cost : c.index-open.result.now ≡ Open c.args.level = get_or_read c.args.self.now.costs.items c.index-atom.result.now c.index-open.result.now less c.index-open.ensures Unreached ∙ is in
    let final : c.as_final.result ≡ Final c.args.level = c.as_final.ensures c.args.level open_cost in
    let q = changed c.args.self.now.costs.items c.args.self.now.queue.items c.args.self.now.first c.args.self.now.reached c.index-atom.result.now c.args.level less c.requires.is.places
    c.requires.is.reached c.requires.is.inside c.requires.is.all c.requires.is.first c.requires.is.passed c.as_final.result
    (ap (λ known. is_some (known_cost known)) is) (ap (λ known. is_some (known_cost known)) final) (inr (ap (λ known. is_some (final_cost known)) final)) in
    record {
      few = subst (λ n. n ≤ most_atoms) (sym (same_length c.args.self.now.costs.items c.index-atom.result.now c.as_final.result)) c.requires.is.few;
      places = q.0;
      reached = q.1;
      inside = q.2;
      all = q.3;
      first = q.4;
      passed = q.5;
      entered = closed c.args.self.now.costs.items c.args.self.now.buckets.places.items c.args.self.now.buckets.filled.items c.args.self.now.buckets.is_lost c.requires.is.entered c.index-atom.result.now c.as_final.result less
          (λ cost e. let wrong : ◌≡◌ {A = AtomCost} (Final c.args.level) (Open cost) = sym final ∙ e in cc);
    }

pub returns-clause-least : goal.returns-clause-least
returns-clause-least c =
    let atom : c.index-atom.result.now ≡ get_or c.args.self.now.queue.items c.args.at 0 = get_or_read c.args.self.now.queue.items c.args.at c.index-atom.result.now (at_place c.args.self.now.costs.items c.args.self.now.queue.items c.args.self.now.reached c.args.at c.requires.is.places c.requires.is.reached c.requires.at) c.index-atom.ensures 0 in
    let less : c.index-atom.result.now < length c.args.self.now.costs.items = subst (λ n. n < length c.args.self.now.costs.items) (sym atom) (c.requires.is.inside c.args.at c.requires.at) in
    let is : known_in c.args.self.now.costs.items c.index-atom.result.now ≡ Open c.args.level = ap (known_in c.args.self.now.costs.items) atom ∙ c.requires.open in
    record { inside = less; is = is; least = c.requires.level }

pub returns-clause-made : goal.returns-clause-made
returns-clause-made c =
    let atom : c.index-atom.result.now ≡ get_or c.args.self.now.queue.items c.args.at 0 = get_or_read c.args.self.now.queue.items c.args.at c.index-atom.result.now (at_place c.args.self.now.costs.items c.args.self.now.queue.items c.args.self.now.reached c.args.at c.requires.is.places c.requires.is.reached c.requires.at) c.index-atom.ensures 0 in
    let less : c.index-atom.result.now < length c.args.self.now.costs.items = subst (λ n. n < length c.args.self.now.costs.items) (sym atom) (c.requires.is.inside c.args.at c.requires.at) in
    let is : known_in c.args.self.now.costs.items c.index-atom.result.now ≡ Open c.args.level = ap (known_in c.args.self.now.costs.items) atom ∙ c.requires.open in
    let open_cost : c.index-open.result.now ≡ Open c.args.level = get_or_read c.args.self.now.costs.items c.index-atom.result.now c.index-open.result.now less c.index-open.ensures Unreached ∙ is in
    let final : c.as_final.result ≡ Final c.args.level = c.as_final.ensures c.args.level open_cost in
    ap (λ (known : AtomCost). set c.args.self.now.costs.items c.index-atom.result.now known) final
