use Rattle.std.proofs.Common.{◌≡◌, IsTrue, None, arith, ap, sym, subst, ◌∙◌}
use Rattle.pb_task.specs.Tiles.{cell_count, board_of, blank_of, is_board_state, tiles_space}
use Rattle.pb_task.proofs.Successors.{one_more}
use Rattle.pb_task.proofs.Sliding.{few_cells, step_from}
use Rattle.pb_task.proofs.Exchanges.{word_of_state, no_steps}
use Rattle.pb_task.proofs.tiles.successors.Goals as goal

pub returns-in_default-clause-successors : goal.returns-in_default-clause-successors
returns-in_default-clause-successors c =
    let word = c.bits-word.ensures ∙ word_of_state (cell_count c.args.tiles.now) c.args.from.now (few_cells c.args.tiles.now c.requires.tiles) c.requires.state in
    let none : blank_of (board_of (cell_count c.args.tiles.now) c.args.from.now) ≡ None =
    ap (λ n. blank_of (board_of (cell_count c.args.tiles.now) n)) (sym word) ∙ sym c.blank_in.ensures ∙ c.in_default.is in
    c.clear.ensures.items ∙ sym (no_steps c.args.tiles.now c.args.from.now 4 c.requires.state none)

pub slide_word-step-requires-clause-state : goal.slide_word-step-requires-clause-state
slide_word-step-requires-clause-state c =
    let word = c.bits-word.ensures ∙ word_of_state (cell_count c.args.tiles.now) c.args.from.now (few_cells c.args.tiles.now c.requires.tiles) c.requires.state in
    subst (λ n. IsTrue (is_board_state (cell_count c.args.tiles.now) n)) (sym word) c.requires.state

pub loop-action-preserved : goal.loop-action-preserved
loop-action-preserved c =
    let word = c.bits-word.ensures ∙ word_of_state (cell_count c.args.tiles.now) c.args.from.now (few_cells c.args.tiles.now c.requires.tiles) c.requires.state in
    record {
      successors = one_more (tiles_space c.args.tiles.now) c.args.from.now c.loop-action.action c.loop-action.out.items c.push_step.new.out.items c.slide_word-step.result c.loop-action.invariant.successors
          (c.slide_word-step.ensures ∙ step_from c.args.tiles.now c.args.from.now c.loop-action.action _ c.requires.state (ap (board_of (cell_count c.args.tiles.now)) word))
          c.push_step.ensures.items;
      few = omega arith;
      room = omega arith;
      kept = omega arith;
    }
