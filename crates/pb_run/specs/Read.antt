-- What the words ask for, as the program keeps it once it has read them.
use Rattle.pb_command.specs.Meaning.{Reading, Refused, Read, IsInRange}
use Rattle.pb_command.specs.Causes.{meaning_of, IsPrinted}
use Rattle.pb_run.specs.declared.asked.Asked.{Asked}
use Rattle.pb_run.specs.declared.asked.Asked.TheVariants.{Command, NoCommand}

abbrev pub reading_of : Asked → Reading
reading_of (Command command) = Read (meaning_of command)
reading_of (NoCommand fault message) = Refused fault

-- a command's values lie in their ranges, and words that are none have their text
abbrev pub IsRead : Asked → Type 0
IsRead (Command command) = IsInRange (meaning_of command)
IsRead (NoCommand fault message) = IsPrinted fault message
