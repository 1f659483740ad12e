use Rattle.std.proofs.Common.{ℕ, ◌&&◌, ◌||◌, not, ap, ◌∙◌}
use Rattle.pb_packed.specs.Words.{number_of}
use Rattle.pb_task.specs.Strips.{action_at, has_atom}
use Rattle.pb_task.proofs.Acting.{state_at, fits_words, action_known}
use Rattle.pb_task.proofs.strips.state_after.Goals as goal

-- what an action adds and deletes fits the words that the task's atoms fit

pub first_words-adds-requires-clause-fits : goal.first_words-adds-requires-clause-fits
first_words-adds-requires-clause-fits g c =
    fits_words c.args.strips.now.atoms g.row.W _ _ c.requires.fits c.words_of_adds.ensures.set
    (action_known c.args.strips.now c.requires.strips c.args.action c.requires.action).adds

pub first_words-deletes-requires-clause-fits : goal.first_words-deletes-requires-clause-fits
first_words-deletes-requires-clause-fits g c =
    fits_words c.args.strips.now.atoms g.row.W _ _ c.requires.fits c.words_of_deletes.ensures.set
    (action_known c.args.strips.now c.requires.strips c.args.action c.requires.action).deletes

pub returns : goal.returns
returns g c =
    let strips = c.args.strips.now in
    let from = number_of c.args.held.now in
    let act = action_at strips.actions c.args.action in
    state_at strips c.requires.strips from c.args.action c.after.result c.requires.state c.requires.action c.after.ensures.bits
    (λ atom. c.after.ensures.atoms atom
    ∙ ap (λ (n : ℕ). has_atom n atom || (has_atom from atom && not (has_atom (number_of c.first_words-deletes.result.now) atom))) (c.first_words-adds.ensures.set ∙ c.words_of_adds.ensures.set)
    ∙ ap (λ (n : ℕ). has_atom act.adds atom || (has_atom from atom && not (has_atom n atom))) (c.first_words-deletes.ensures.set ∙ c.words_of_deletes.ensures.set))
