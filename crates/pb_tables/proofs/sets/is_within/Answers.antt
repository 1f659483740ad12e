use Rattle.std.proofs.Common.{ℕ, ◌↔◌, IsTrue, subst}
use Rattle.pb_packed.specs.Words.{number_of}
use Rattle.pb_task.specs.Strips.{has_atom}
use Rattle.pb_tables.proofs.AtomSets.{within_is}
use Rattle.pb_tables.proofs.sets.is_within.Goals as goal

pub returns : goal.returns
returns c =
    let answer = c.are_within.result in
    let small = subst (λ (n : ℕ). IsTrue answer ↔ ((atom : ℕ) → IsTrue (has_atom n atom) → IsTrue (has_atom (number_of c.to_words-2.result) atom))) c.to_words.ensures.number c.are_within.ensures in
    within_is answer c.args.count c.args.small.now c.args.large.now c.requires
    (subst (λ (n : ℕ). IsTrue answer ↔ ((atom : ℕ) → IsTrue (has_atom c.args.small.now atom) → IsTrue (has_atom n atom))) c.to_words-2.ensures.number small)
