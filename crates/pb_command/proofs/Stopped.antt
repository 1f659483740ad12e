-- The walk over the program's own words: it stops at the subcommand, whose words are all that come after.
use Rattle.std.proofs.Common.{◌≡◌, ◌∙◌, ◌++◌, List, [], ◌∷◌, Some, refl, sym, ap, append_assoc, append-nil}
use Rattle.std.specs.Prelude.{fold}
use Rattle.clap.specs.Walk.{Rule, Names, Text, Walk, walked}
use Rattle.clap.specs.Simple.{Shape}
use Rattle.clap.specs.Faults.{walk_fault}

abbrev pub stopped_at : Walk → Text → List Text → Walk
stopped_at w name words = record w { stopped = Some (name, words) }

pub stays_stopped : (rules : List Rule) (names : Names) (w : Walk) (name : Text) (before words : List Text)
    → fold (walked rules names) (stopped_at w name before) words ≡ stopped_at w name (before ++ words)
unfolding walked
stays_stopped rules names w name before [] = ap (stopped_at w name) (sym (append-nil before))
stays_stopped rules names w name before (word ∷ rest) =
    stays_stopped rules names w name (before ++ word ∷ []) rest ∙ ap (stopped_at w name) (append_assoc before (word ∷ []) rest)

pub no_fault_when_stopped : (s : Shape) (names : Names) (w : Walk) (name : Text) (before words : List Text) → walk_fault s names (stopped_at w name before) words ≡ []
unfolding walked walk_fault
no_fault_when_stopped s names w name before [] = refl
no_fault_when_stopped s names w name before (word ∷ rest) = no_fault_when_stopped s names w name (before ++ word ∷ []) rest
