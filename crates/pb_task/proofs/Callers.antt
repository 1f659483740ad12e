-- What proofs of other crates may cite. All else in proofs/ is private to this crate.
pub use Rattle.pb_task.proofs.Acting.{strips_act}
pub use Rattle.pb_task.proofs.AtomSets.{Within, all_common, any_atom, both_atoms, common_all}
pub use Rattle.pb_task.proofs.AtomSets.{from_within, no_atom, same_atoms, sets_are_of_atoms}
pub use Rattle.pb_task.proofs.AtomSets.{to_within}
pub use Rattle.pb_task.proofs.Boards.{Listed, all_below_more, board_in, boards_are_packed}
pub use Rattle.pb_task.proofs.Boards.{is_board_by, is_board_swapped, listed, next_digit, number_at}
pub use Rattle.pb_task.proofs.Boards.{state_of_board, to_distinct, whole}
pub use Rattle.pb_task.proofs.Degrees.{few_below}
pub use Rattle.pb_task.proofs.FlatActions.{many_sets, set_added, set_at, within}
pub use Rattle.pb_task.proofs.FlatWords.{appended, below, dropped, held_by, taken}
pub use Rattle.pb_task.proofs.Grids.{class_of_cell, on_map, passable_from, passable_to}
pub use Rattle.pb_task.proofs.Grids.{tasks_are_proper, x_of, y_of}
pub use Rattle.pb_task.proofs.Slides.{blank_is_there, tiles_slide}
pub use Rattle.pb_task.proofs.Sliding.{IsStep, Moves, few_cells, four_moves, neighbour_within}
pub use Rattle.pb_task.proofs.Sliding.{step_is}
pub use Rattle.pb_task.proofs.Widths.{states_fit_their_width}
