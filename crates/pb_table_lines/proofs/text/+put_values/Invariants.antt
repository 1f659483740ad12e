use Rattle.std.proofs.Common.{length}
use Rattle.pb_table_lines.proofs.text.+put_values.Given as goal

abbrev pub decreases-put_values : goal.decreases-put_values
decreases-put_values l = length l.values.now
