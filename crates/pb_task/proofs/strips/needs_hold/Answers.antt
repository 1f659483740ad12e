use Rattle.std.proofs.Common.{ℕ, ◌↔◌, IsTrue, subst, ◌∙◌}
use Rattle.pb_packed.specs.Words.{number_of}
use Rattle.pb_task.specs.Strips.{has_atom}
use Rattle.pb_task.proofs.Acting.{fits_words, action_known}
use Rattle.pb_task.proofs.strips.needs_hold.Goals as goal

-- what an action needs fits the words that the task's atoms fit
pub first_words-needs-requires-clause-fits : goal.first_words-needs-requires-clause-fits
first_words-needs-requires-clause-fits g c =
    fits_words c.args.strips.now.atoms g.row.W _ _ c.requires.fits c.words_of_needs.ensures.set
    (action_known c.args.strips.now c.requires.strips c.args.action c.requires.action).needs

pub returns : goal.returns
returns g c =
    subst (λ (n : ℕ). IsTrue c.is_within.result ↔ ((atom : ℕ) → IsTrue (has_atom n atom) → IsTrue (has_atom (number_of c.args.held.now) atom)))
    (c.first_words-needs.ensures.set ∙ c.words_of_needs.ensures.set) c.is_within.ensures
