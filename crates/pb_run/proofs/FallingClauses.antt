-- What is promised of falling weights for each kind of task, if the words ask for them.
use Rattle.pb_grid.specs.Laws.{ReadAsSpelled}
use Rattle.pb_tiles.specs.Laws.{ReadingsAreSpelled}
use Rattle.pb_command.specs.Meaning.{Reading, Refused, Read, Solve, Falling, Check, Journal, Make, FallingMeaning}
use Rattle.pb_run.specs.Outcome.{Outcome, IfFalling}
use Rattle.pb_run.specs.FallingHeadline.{FallingHolds, FallingsHold}
use Rattle.pb_run.specs.FallingKinds.{FallingMapsHold, FallingBoardsHold, FallingNamedHold}
use Rattle.pb_run.specs.FallingLaws.{FallingHoldsByKind}
use Rattle.pb_run.proofs.FallingByKind.{map_holds, board_holds}
use Rattle.pb_run.proofs.FallingByNames.{named_holds}

-- what follows for all falling weights follows if the words ask for them
pub if_falling : (r : Reading) (P Q : FallingMeaning → Type 0) → ((falling : FallingMeaning) → P falling → Q falling) → IfFalling r P → IfFalling r Q
if_falling (Refused fault) P Q f holds = tt
if_falling (Read (Solve solve)) P Q f holds = tt
if_falling (Read (Falling falling)) P Q f holds = f falling holds
if_falling (Read (Check check)) P Q f holds = tt
if_falling (Read (Journal journal)) P Q f holds = tt
if_falling (Read (Make make)) P Q f holds = tt

pub falling_maps : ReadAsSpelled → (it : Outcome) → FallingsHold it → FallingMapsHold it
falling_maps law it = if_falling it.asked (λ falling. FallingHolds falling it) _ (λ falling holds. map_holds falling it holds law)

pub falling_boards : ReadingsAreSpelled → (it : Outcome) → FallingsHold it → FallingBoardsHold it
falling_boards law it = if_falling it.asked (λ falling. FallingHolds falling it) _ (λ falling holds. board_holds falling it holds law)

pub falling_named : (it : Outcome) → FallingsHold it → FallingNamedHold it
falling_named it = if_falling it.asked (λ falling. FallingHolds falling it) _ (λ falling holds. named_holds falling it holds)

pub falling_holds_by_kind : ReadAsSpelled → ReadingsAreSpelled → FallingHoldsByKind
falling_holds_by_kind maps boards it holds = (falling_maps maps it holds, falling_boards boards it holds, falling_named it holds)
