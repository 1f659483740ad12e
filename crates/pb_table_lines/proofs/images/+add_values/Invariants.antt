use Rattle.pb_table_lines.proofs.images.+add_values.Given as goal

abbrev pub decreases-add_values : goal.decreases-add_values
decreases-add_values l = l.count
