-- Why an owner's work ended.
use Rattle.std.specs.Prelude.{ℕ}
use Rattle.pb_owner.specs.declared.working.WorkEnd.{WorkEnd}
use Rattle.pb_owner.specs.declared.working.WorkEnd.TheVariants.{Spent, Empty, Memory}

-- how many expansions were broken off
abbrev pub broken_at : WorkEnd → ℕ
broken_at Spent = 0
broken_at Empty = 0
broken_at Memory = 1
