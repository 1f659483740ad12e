use Rattle.std.proofs.Common.{ℕ, IsTrue, sym, ap, subst, ◌∙◌, arith}
use Rattle.pb_task.specs.Strips.{is_atom_set, strips_step}
use Rattle.pb_task.proofs.Acting.{state_fits}
use Rattle.pb_task.proofs.strips.step_in.Goals as goal

pub in_words-requires : goal.in_words-requires
in_words-requires g c = (omega (arith, c.requires.most), (c.requires.some, state_fits c.args.strips.now g.row.W c.args.from.now c.requires.fits c.requires.state))

pub step_from-requires : goal.step_from-requires
step_from-requires g c =
    let state = subst (λ (state : ℕ). IsTrue (is_atom_set c.args.strips.now.atoms state)) (sym (c.to_array-held.ensures.number ∙ c.in_words.ensures)) c.requires.state in
    (omega (arith, c.requires.most), (c.requires.some, (c.requires.most, (c.requires.fits, (c.requires.strips, (c.to_array-held.ensures.words, state))))))

pub returns : goal.returns
returns g c = c.step_from.ensures ∙ ap (λ (state : ℕ). strips_step c.args.strips.now state c.args.action) (c.to_array-held.ensures.number ∙ c.in_words.ensures)
