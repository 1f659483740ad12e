use Rattle.std.proofs.Common.{rules, ◌≡◌, ◌<◌, ◌*◌, ◌^◌, ◌||◌, ℕ, length, ap, subst, ◌∙◌, arith}
use Rattle.pb_packed.specs.Words.{number_of}
use Rattle.pb_task.specs.Strips.{has_atom}
use Rattle.pb_task.proofs.FlatWords.{below}
use Rattle.pb_task.proofs.sets.after.Goals as goal

pub returns-clause-atoms : goal.returns-clause-atoms
returns-clause-atoms g c = λ atom.
    ap (λ (n : ℕ). has_atom n atom) (c.from_words.ensures ∙ c.of_slice.ensures) ∙ c.put_in.ensures.atoms atom
    ∙ ap (λ t. has_atom (number_of c.args.adds.now) atom || t) (c.take_out.ensures.atoms atom)

pub of_slice-requires : goal.of_slice-requires
of_slice-requires g c =
    let long : length c.take_out.new.words ≡ g.row.W = omega arith in
    (omega (arith, c.requires.most), (search rules, subst (λ k. number_of c.put_in.new.words < 2 ^ (64 * k)) long (below (length c.take_out.new.words) c.put_in.new.words c.put_in.ensures.words)))
