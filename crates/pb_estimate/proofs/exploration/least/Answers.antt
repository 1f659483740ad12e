use Rattle.std.proofs.Common.{◌≡◌, ◌+◌, ◌-◌, ◌^◌, ◌<◌, ◌≤◌, ◌⊎◌, ◌∙◌, ℕ, get_or, take, All, length, subst, sym, arith}
use Rattle.std.proofs.lemmas.List.{take_all, get_or_read}
use Rattle.pb_estimate.specs.declared.exploration.AtomCost.{AtomCost}
use Rattle.pb_estimate.specs.declared.exploration.AtomCost.TheVariants.{Unreached, Open}
use Rattle.pb_estimate.specs.Exploring.{known_in}
use Rattle.pb_estimate.proofs.Least.{IsFound, IsFrom, found_here, from_more, none_from, least_from}
use Rattle.pb_estimate.proofs.exploration.least.Goals as goal
use Rattle.pb_estimate.proofs.exploration.least.Goals.{then-word-best, else-word-best}

pub loop-atom-preserved : goal.loop-atom-preserved
loop-atom-preserved c =
    let inside : get_or c.args.atoms.now c.loop-atom.atom-index 0 < length c.args.costs.now = c.requires.inside c.loop-atom.atom-index 0 c.loop-atom-test.true in
    let known : known_in c.args.costs.now (get_or c.args.atoms.now c.loop-atom.atom-index 0) ≡ c.index-costs-atom.result =
    sym (get_or_read c.args.costs.now (get_or c.args.atoms.now c.loop-atom.atom-index 0) c.index-costs-atom.result inside c.index-costs-atom.is Unreached) in
    let open_is : (cost : ℕ) → known_in c.args.costs.now (get_or c.args.atoms.now c.loop-atom.atom-index 0) ≡ Open cost → (c.open_word-word.result ≡ 2 ^ 31 + cost) × (cost < 2 ^ 31 - 1) =
    (λ cost e. c.open_word-word.ensures.open cost (sym known ∙ e)) in
    elim c.if-word-best.branch [
      | then-word-best w ↦ record {
        found = subst (λ best. IsFound c.args.costs.now best c.if-word-best.found) (sym w.best-is) (subst (λ found. IsFound c.args.costs.now c.open_word-word.result found) (sym w.found-is)
            (found_here c.args.costs.now c.open_word-word.result (get_or c.args.atoms.now c.loop-atom.atom-index 0) inside (subst (λ (cost : AtomCost). (c.open_word-word.result ≡ 2 ^ 32 - 1) ⊎ ((2 ^ 31 ≤ c.open_word-word.result) × (cost ≡ Open (c.open_word-word.result - 2 ^ 31)))) (sym known) c.open_word-word.ensures.is)));
        least = from_more c.args.costs.now c.args.atoms.now c.loop-atom.atom-index c.loop-atom-test.true c.loop-atom.best c.open_word-word.result c.if-word-best.best open_is (omega (arith, w.best-is, w.if-word-best.true)) (omega (arith, w.best-is)) c.loop-atom.invariant.least;
      }
      | else-word-best w ↦ record {
        found = subst (λ best. IsFound c.args.costs.now best c.if-word-best.found) (sym w.best-is) (subst (λ found. IsFound c.args.costs.now c.loop-atom.best found) (sym w.found-is)
            c.loop-atom.invariant.found);
        least = from_more c.args.costs.now c.args.atoms.now c.loop-atom.atom-index c.loop-atom-test.true c.loop-atom.best c.open_word-word.result c.if-word-best.best open_is (omega (arith, w.best-is)) (omega (arith, w.best-is, w.if-word-best.false)) c.loop-atom.invariant.least;
      }
    ]

pub returns-then-best-clause-none : goal.returns-then-best-clause-none
returns-then-best-clause-none c =
    let all : take c.loop-atom.atom-index c.args.atoms.now ≡ c.args.atoms.now = take_all c.loop-atom.atom-index c.args.atoms.now c.loop-atom-test.false in
    none_from c.args.costs.now c.args.atoms.now (subst (λ atoms. All (IsFrom c.args.costs.now (2 ^ 32 - 1)) atoms) all (subst (λ best. All (IsFrom c.args.costs.now best) (take c.loop-atom.atom-index c.args.atoms.now)) c.if-best.true c.loop-atom.invariant.least))

pub returns-clause-least : goal.returns-clause-least
returns-clause-least c =
    let all : take c.loop-atom.atom-index c.args.atoms.now ≡ c.args.atoms.now = take_all c.loop-atom.atom-index c.args.atoms.now c.loop-atom-test.false in
    least_from c.args.costs.now c.args.atoms.now c.loop-atom.best (subst (λ atoms. All (IsFrom c.args.costs.now c.loop-atom.best) atoms) all c.loop-atom.invariant.least)
