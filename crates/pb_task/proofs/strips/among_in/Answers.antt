use Rattle.std.proofs.Common.{◌++◌, ℕ, IsTrue, sym, ap, subst, ◌∙◌, refl, arith}
use Rattle.pb_model.specs.Space.{successor_list}
use Rattle.pb_task.specs.Strips.{is_atom_set, strips_space, strips_step}
use Rattle.pb_task.proofs.Acting.{state_fits}
use Rattle.pb_task.proofs.Successors.{steps_past, steps_more}
use Rattle.pb_task.proofs.strips.among_in.Goals as goal

pub in_words-requires : goal.in_words-requires
in_words-requires g c = (omega (arith, c.requires.most), (c.requires.some, state_fits c.args.strips.now g.row.W c.args.from.now c.requires.fits c.requires.state))

-- the words spell the state
pub push_step-requires : goal.push_step-requires
push_step-requires g c =
    let state = subst (λ (state : ℕ). IsTrue (is_atom_set c.args.strips.now.atoms state)) (sym (c.to_array-held.ensures.number ∙ c.in_words.ensures)) c.requires.state in
    (omega (arith, c.requires.most), (c.requires.some, (c.requires.most, (c.requires.fits, (c.requires.strips, (c.to_array-held.ensures.words, (state, (omega arith, omega arith))))))))

pub loop-action-init : goal.loop-action-init
loop-action-init g c =
    let next = c.next_marked-action in
    record {
      most = next.ensures.most;
      successors = c.clear.ensures.items
          ∙ steps_past (strips_space c.args.strips.now) c.args.from.now 0 next.result (omega arith) (λ action above less.
          c.requires.others action (omega (arith, less, next.ensures.most, c.actions-count.ensures)) (next.ensures.none action above less));
      few = omega (arith, c.clear.ensures.len);
      room = omega (arith, c.clear.ensures.capacity, c.requires.room);
      kept = omega (arith, c.clear.ensures.capacity);
    }

pub loop-action-preserved : goal.loop-action-preserved
loop-action-preserved g c =
    let next = c.next_marked-action-in-loop-action in
    let added = c.push_step.ensures.items
    ∙ ap (λ (state : ℕ). c.loop-action.out.items ++ successor_list c.loop-action.action (strips_step c.args.strips.now state c.loop-action.action)) (c.to_array-held.ensures.number ∙ c.in_words.ensures) in
    record {
      most = next.ensures.most;
      successors = steps_more (strips_space c.args.strips.now) c.args.from.now c.loop-action.action next.result c.loop-action.out.items c.push_step.new.out.items
          (strips_step c.args.strips.now c.args.from.now c.loop-action.action) c.loop-action.invariant.successors refl added next.ensures.from (λ action above less.
          c.requires.others action (omega (arith, less, next.ensures.most, c.actions-count.ensures)) (next.ensures.none action above less));
      few = omega (arith, c.push_step.ensures.len, c.loop-action.invariant.few, next.ensures.from);
      room = omega (arith, c.push_step.ensures.room, c.loop-action.invariant.room);
      kept = omega (arith, c.push_step.ensures.room, c.loop-action.invariant.kept);
    }
