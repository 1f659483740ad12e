-- What the answers of the work on a lease mean.
use Rattle.std.specs.Prelude.{ℕ, Bool, true, false}
use Rattle.pb_expand.specs.declared.working.Worked.{Worked}
use Rattle.pb_expand.specs.declared.working.Worked.TheVariants.{Spent, Empty, Memory}

-- how many expansions were broken off
abbrev pub broken_by : Worked → ℕ
broken_by Spent = 0
broken_by Empty = 0
broken_by Memory = 1

-- whether the last read came after the last turn
abbrev pub ends_with_read : Worked → Bool
ends_with_read Spent = true
ends_with_read Empty = true
ends_with_read Memory = false
