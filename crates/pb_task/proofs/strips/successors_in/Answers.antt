use Rattle.std.proofs.Common.{ℕ, IsTrue, ◌++◌, sym, ap, subst, ◌∙◌, refl, arith}
use Rattle.pb_model.specs.Space.{successor_list}
use Rattle.pb_task.specs.Strips.{is_atom_set, strips_space, strips_step}
use Rattle.pb_task.proofs.Acting.{state_fits}
use Rattle.pb_task.proofs.Successors.{one_more}
use Rattle.pb_task.proofs.strips.successors_in.Goals as goal

pub in_words-requires : goal.in_words-requires
in_words-requires g c = (omega (arith, c.requires.most), (c.requires.some, state_fits c.args.strips.now g.row.W c.args.from.now c.requires.fits c.requires.state))

-- the words spell the state
pub push_step-requires : goal.push_step-requires
push_step-requires g c =
    let state = subst (λ (state : ℕ). IsTrue (is_atom_set c.args.strips.now.atoms state)) (sym (c.to_array-held.ensures.number ∙ c.in_words.ensures)) c.requires.state in
    (omega (arith, c.requires.most), (c.requires.some, (c.requires.most, (c.requires.fits, (c.requires.strips, (c.to_array-held.ensures.words, (state, (omega arith, omega arith))))))))

pub loop-action-preserved : goal.loop-action-preserved
loop-action-preserved g c = record {
  successors = one_more (strips_space c.args.strips.now) c.args.from.now c.loop-action.action c.loop-action.out.items c.push_step.new.out.items
      (strips_step c.args.strips.now c.args.from.now c.loop-action.action) c.loop-action.invariant.successors refl
      (c.push_step.ensures.items ∙ ap (λ (state : ℕ). c.loop-action.out.items ++ successor_list c.loop-action.action (strips_step c.args.strips.now state c.loop-action.action)) (c.to_array-held.ensures.number ∙ c.in_words.ensures));
  few = omega arith;
  room = omega arith;
  kept = omega arith;
}
