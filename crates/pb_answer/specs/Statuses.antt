-- The exit statuses.
use Rattle.std.specs.Prelude.{ℕ}
use Rattle.pb_answer.specs.declared.status.Status.{Status}
use Rattle.pb_answer.specs.declared.status.Status.TheVariants.{Success, NoPlan, Stopped, Rejected, WordsRefused, InputRefused, OutOfMemory, ShelfFailed, SinkFailed}

abbrev pub number_of : Status → ℕ
number_of Success = 0
number_of NoPlan = 1
number_of Stopped = 2
number_of Rejected = 3
number_of WordsRefused = 64
number_of InputRefused = 65
number_of OutOfMemory = 71
number_of ShelfFailed = 73
number_of SinkFailed = 74
