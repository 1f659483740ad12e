-- What holds if the arguments are one command, by cases of what they are.
use Rattle.pb_command.specs.declared.refusal.CommandFault.{CommandFault}
use Rattle.pb_command.specs.Meaning.{Reading, Refused, Read, Solve, Falling, Check, Journal, Make, SolveMeaning, FallingMeaning, CheckMeaning, JournalMeaning, MakeMeaning}
use Rattle.pb_run.specs.Outcome.{IfRefused, IfSolve, IfFalling, IfCheck, IfJournal, IfMake}

-- what holds of every such command holds if the arguments are one

pub if_solve : (r : Reading) (P : SolveMeaning → Type 0) → ((solve : SolveMeaning) → P solve) → IfSolve r P
if_solve (Refused fault) P f = tt
if_solve (Read (Solve solve)) P f = f solve
if_solve (Read (Falling falling)) P f = tt
if_solve (Read (Check check)) P f = tt
if_solve (Read (Journal journal)) P f = tt
if_solve (Read (Make make)) P f = tt

pub if_falling : (r : Reading) (P : FallingMeaning → Type 0) → ((falling : FallingMeaning) → P falling) → IfFalling r P
if_falling (Refused fault) P f = tt
if_falling (Read (Solve solve)) P f = tt
if_falling (Read (Falling falling)) P f = f falling
if_falling (Read (Check check)) P f = tt
if_falling (Read (Journal journal)) P f = tt
if_falling (Read (Make make)) P f = tt

pub if_check : (r : Reading) (P : CheckMeaning → Type 0) → ((check : CheckMeaning) → P check) → IfCheck r P
if_check (Refused fault) P f = tt
if_check (Read (Solve solve)) P f = tt
if_check (Read (Falling falling)) P f = tt
if_check (Read (Check check)) P f = f check
if_check (Read (Journal journal)) P f = tt
if_check (Read (Make make)) P f = tt

pub if_journal : (r : Reading) (P : JournalMeaning → Type 0) → ((journal : JournalMeaning) → P journal) → IfJournal r P
if_journal (Refused fault) P f = tt
if_journal (Read (Solve solve)) P f = tt
if_journal (Read (Falling falling)) P f = tt
if_journal (Read (Check check)) P f = tt
if_journal (Read (Journal journal)) P f = f journal
if_journal (Read (Make make)) P f = tt

pub if_make : (r : Reading) (P : MakeMeaning → Type 0) → ((make : MakeMeaning) → P make) → IfMake r P
if_make (Refused fault) P f = tt
if_make (Read (Solve solve)) P f = tt
if_make (Read (Falling falling)) P f = tt
if_make (Read (Check check)) P f = tt
if_make (Read (Journal journal)) P f = tt
if_make (Read (Make make)) P f = f make

-- what holds of the answer to such a command holds if the arguments are one

module _ (Answers : Reading → Type 0) where
  pub of_refused : (P : CommandFault → Type 0) → ((fault : CommandFault) → Answers (Refused fault) → P fault) → (r : Reading) → Answers r → IfRefused r P
  of_refused P f (Refused fault) answers = f fault answers
  of_refused P f (Read meaning) answers = tt

  pub of_solve : (P : SolveMeaning → Type 0) → ((solve : SolveMeaning) → Answers (Read (Solve solve)) → P solve) → (r : Reading) → Answers r → IfSolve r P
  of_solve P f (Refused fault) answers = tt
  of_solve P f (Read (Solve solve)) answers = f solve answers
  of_solve P f (Read (Falling falling)) answers = tt
  of_solve P f (Read (Check check)) answers = tt
  of_solve P f (Read (Journal journal)) answers = tt
  of_solve P f (Read (Make make)) answers = tt

  pub of_falling : (P : FallingMeaning → Type 0) → ((falling : FallingMeaning) → Answers (Read (Falling falling)) → P falling) → (r : Reading) → Answers r → IfFalling r P
  of_falling P f (Refused fault) answers = tt
  of_falling P f (Read (Solve solve)) answers = tt
  of_falling P f (Read (Falling falling)) answers = f falling answers
  of_falling P f (Read (Check check)) answers = tt
  of_falling P f (Read (Journal journal)) answers = tt
  of_falling P f (Read (Make make)) answers = tt

  pub of_check : (P : CheckMeaning → Type 0) → ((check : CheckMeaning) → Answers (Read (Check check)) → P check) → (r : Reading) → Answers r → IfCheck r P
  of_check P f (Refused fault) answers = tt
  of_check P f (Read (Solve solve)) answers = tt
  of_check P f (Read (Falling falling)) answers = tt
  of_check P f (Read (Check check)) answers = f check answers
  of_check P f (Read (Journal journal)) answers = tt
  of_check P f (Read (Make make)) answers = tt

  pub of_journal : (P : JournalMeaning → Type 0) → ((journal : JournalMeaning) → Answers (Read (Journal journal)) → P journal) → (r : Reading) → Answers r → IfJournal r P
  of_journal P f (Refused fault) answers = tt
  of_journal P f (Read (Solve solve)) answers = tt
  of_journal P f (Read (Falling falling)) answers = tt
  of_journal P f (Read (Check check)) answers = tt
  of_journal P f (Read (Journal journal)) answers = f journal answers
  of_journal P f (Read (Make make)) answers = tt

  pub of_make : (P : MakeMeaning → Type 0) → ((make : MakeMeaning) → Answers (Read (Make make)) → P make) → (r : Reading) → Answers r → IfMake r P
  of_make P f (Refused fault) answers = tt
  of_make P f (Read (Solve solve)) answers = tt
  of_make P f (Read (Falling falling)) answers = tt
  of_make P f (Read (Check check)) answers = tt
  of_make P f (Read (Journal journal)) answers = tt
  of_make P f (Read (Make make)) answers = f make answers
