use Rattle.pb_pattern.proofs.pieces.+are_cells.Given as goal

abbrev pub decreases-are_cells : goal.decreases-are_cells
decreases-are_cells l = l.count
