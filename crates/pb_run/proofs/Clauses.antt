-- The clauses of `run`, from how a call of the program goes.
use Rattle.std.proofs.Common.{◌≡◌, ◌⊎◌, inl, inr, ◌↔◌, ◌∙◌, ℕ, ◌≤◌, IsTrue, false, Option, None, Some, List, [], sym, subst}
use Rattle.pb_outside.specs.Outside.{Files, IfTold, KeepsAll, Rose}
use Rattle.pb_outside.specs.Calls.{Call}
use Rattle.pb_grid.specs.Laws.{ReadAsSpelled}
use Rattle.pb_tiles.specs.Laws.{ReadingsAreSpelled}
use Rattle.pb_command.specs.Meaning.{Reading, reading_of_words}
use Rattle.pb_run.specs.Asked.{files_of}
use Rattle.pb_run.specs.Calls.{calls_since, loaded_texts, outputs_in, put_bytes, have_failed}
use Rattle.pb_run.specs.Loads.{AreLoaded}
use Rattle.pb_run.specs.Course.{Does}
use Rattle.pb_run.specs.Contents.{SavesIn, LeavesPart, Goes, GoesBy, WritesPut}
use Rattle.pb_run.specs.Outcome.{Outcome, outcome_by, outcome, IsAnswer}
use Rattle.pb_run.specs.Headline.{PlanIsPlan, NoneIsCheaper, CertificateHolds, NoneMeansNone, StopHasCause}
use Rattle.pb_run.specs.Kinds.{MapsHold, BoardsHold, NamedHolds}
use Rattle.pb_run.specs.Commands.{SolvesHold, ChecksHold, JournalsHold, MakesHold, RefusalHolds}
use Rattle.pb_run.specs.Served.{IsHandedOutIfItFits, AnswersWhatFits, CanServe, IsAnswered, IsComplete}
use Rattle.pb_run.specs.Whole.{CallsHold, AnswersIfServed, BreaksOnlyBy, ContentsHold}
use Rattle.pb_run.specs.FallingHeadline.{FallingsHold}
use Rattle.pb_run.specs.FallingKinds.{FallingMapsHold, FallingBoardsHold, FallingNamedHold}
use Rattle.pb_run.proofs.ByKind.{maps_hold, boards_hold, named_hold}
use Rattle.pb_run.proofs.FallingHolds.{calls_give_falling}
use Rattle.pb_run.proofs.FallingClauses as weights
use Rattle.pb_run.proofs.Told as told
use Rattle.pb_run.proofs.Doing as doing

-- whatever is decided fits, so there is an answer, or memory ran out
sure_if_it_fits : (reading : Reading) (n looks : ℕ) (files : Option Files) (can_load : List ℕ → Type 0) (can_hold : List ℕ → ℕ → Type 0) (can_take : ℕ → Type 0)
    → AnswersWhatFits reading n looks files can_load can_hold can_take → CanServe reading files can_load can_hold can_take → IsAnswer n ⊎ (n ≡ 71)
sure_if_it_fits reading n looks None can_load can_hold can_take fits can = absurd can
sure_if_it_fits reading n looks (Some told_files) can_load can_hold can_take fits can = go (fits can.0)
  where
    go : IsHandedOutIfItFits reading told_files n looks can_hold can_take → IsAnswer n ⊎ (n ≡ 71)
    go (inl is) = inr is
    go (inr (texts, loads, inl all)) =
        inl (subst IsAnswer (sym (all.if_they_fit (can.1 texts loads looks all.parts (inl (all.said, all.answers, all.parts_are, all.looks_is))))) (told.known texts all.said reading all.answers))
    go (inr (texts, loads, inr first)) = absurd (first.do_not_fit (can.1 texts loads looks first.parts (inr first.parts_are)))

module _ (words : List (List ℕ)) (n looks : ℕ) (files files' : Option Files) (shelf shelf' sink sink' : List Call)
    (goes : Goes (reading_of_words words) n looks files files' shelf shelf' sink sink') (status : ℕ) (is : status ≡ n) where
  abbrev asked : Reading
  asked = reading_of_words words

  abbrev it : Outcome
  it = outcome words status looks shelf shelf' sink sink'

  since : (P : ℕ → List Call → List Call → Type 0) → (GoesBy asked n looks files files' goes.0 goes.1 → P n goes.0 goes.1) → P status (calls_since shelf shelf') (calls_since sink sink')
  since P f = doing.since asked n looks files files' shelf shelf' sink sink' goes P status is f

  does : GoesBy asked n looks files files' goes.0 goes.1 → Does asked n looks goes.0 goes.1
  does by = doing.does asked n looks goes.0 goes.1 files files' by

  promised : (P : Outcome → Type 0) → ((m l : ℕ) (own out : List Call) → Does asked m l own out → P (outcome_by asked m l own out)) → P it
  promised P f = doing.promised asked n looks files files' shelf shelf' sink sink' goes P f status is

  -- ---- promise by promise

  pub plan : PlanIsPlan it
  plan = promised PlanIsPlan (doing.plan asked)

  pub cheapest : NoneIsCheaper it
  cheapest = promised NoneIsCheaper (doing.cheapest asked)

  pub certified : CertificateHolds it
  certified = promised CertificateHolds (doing.certified asked)

  pub none : NoneMeansNone it
  none = promised NoneMeansNone (doing.none asked)

  pub stopped : StopHasCause it
  stopped = promised StopHasCause (doing.stopped asked)

  pub solve : SolvesHold it
  solve = promised SolvesHold (doing.solved asked)

  pub check : ChecksHold it
  check = promised ChecksHold (doing.checked_text asked)

  pub journal : JournalsHold it
  journal = promised JournalsHold (doing.judged_text asked)

  pub make : MakesHold it
  make = promised MakesHold (doing.made asked)

  pub falling : FallingsHold it
  falling = promised FallingsHold (calls_give_falling asked)

  pub refused : ReadAsSpelled → ReadingsAreSpelled → RefusalHolds it
  refused maps boards = promised RefusalHolds (doing.refused maps boards asked)

  -- ---- kind by kind

  pub maps : ReadAsSpelled → MapsHold it
  maps law = maps_hold it law solve none

  pub boards : ReadingsAreSpelled → BoardsHold it
  boards law = boards_hold it law solve none

  pub named : NamedHolds it
  named = named_hold it solve none check

  pub falling_maps : ReadAsSpelled → FallingMapsHold it
  falling_maps law = weights.falling_maps law it falling

  pub falling_boards : ReadingsAreSpelled → FallingBoardsHold it
  falling_boards law = weights.falling_boards law it falling

  pub falling_named : FallingNamedHold it
  falling_named = weights.falling_named it falling

  -- ---- of every call

  pub calls : CallsHold words status looks shelf shelf' sink sink'
  calls = record {
    in_order = doing.does_since asked n looks files files' shelf shelf' sink sink' goes status is;
    shelf_fault = since (λ m own out. m ≡ 73 ↔ IsTrue (have_failed own)) (λ by. doing.shelf_fails asked n looks goes.0 goes.1 (does by));
    sink_fault = since (λ m own out. m ≡ 74 ↔ IsTrue (have_failed out)) (λ by. doing.sink_fails asked n looks goes.0 goes.1 (does by));
    answered = since (λ m own out. have_failed own ≡ false → have_failed out ≡ false → IsAnswered asked (loaded_texts own) (outcome_by asked m looks own out).said) (λ by. doing.done_is_answered asked n looks goes.0 goes.1 (does by));
    named = since (λ m own out. doing.AreNamed asked m looks own out) (λ by. doing.outputs_are_named asked n looks goes.0 goes.1 (does by));
  }

  pub answered : (can_load : List ℕ → Type 0) (can_hold : List ℕ → ℕ → Type 0) (can_take : ℕ → Type 0) → AnswersWhatFits asked n looks files can_load can_hold can_take
      → AnswersIfServed it files can_load can_hold can_take
  answered can_load can_hold can_take fits = record {
    served = λ can.
        let sure = sure_if_it_fits asked n looks files can_load can_hold can_take fits can in
        record {
          complete = since (λ m own out. IsComplete asked files (outcome_by asked m looks own out).said) (λ by. doing.complete asked n looks goes.0 goes.1 files files' by sure);
          answered = subst (λ (m : ℕ). IsAnswer m ⊎ (m ≡ 71)) (sym is) sure;
        };
    fits = subst (λ (m : ℕ). AnswersWhatFits asked m looks files can_load can_hold can_take) (sym is) fits;
  }

  module _ (faults faults' puts puts' : ℕ) (shelf_rose : n ≡ 73 → Rose faults faults') (sink_rose : n ≡ 74 → Rose puts puts')
      (shelf_later : faults ≤ faults') (sink_later : puts ≤ puts') where
    pub broken : BreaksOnlyBy it faults faults' puts puts'
    broken = record {
      unsaved = λ one. since (λ m own out. m ≡ 71 → outputs_in own ≡ []) (λ by. doing.nothing_saved asked n looks goes.0 goes.1 one (does by));
      silent = λ one. since (λ m own out. (m ≡ 71) ⊎ (m ≡ 73) → put_bytes out ≡ []) (λ by. doing.silent asked n looks goes.0 goes.1 one (does by));
      shelf_rose = λ e. shelf_rose (sym is ∙ e);
      sink_rose = λ e. sink_rose (sym is ∙ e);
      shelf_later = shelf_later;
      sink_later = sink_later;
    }

  pub contents : (written written' : Option (List ℕ)) → WritesPut written written' sink sink' → ContentsHold it files files' written written'
  contents written written' puts = record {
    loaded = since (λ m own out. IsAnswer m → AreLoaded files (files_of asked) (loaded_texts own)) (λ by. doing.texts_loaded asked n looks goes.0 goes.1 files files' by);
    saved = since (λ m own out. IsAnswer m ⊎ ((m ≡ 71) ⊎ (m ≡ 74)) → IfTold files files' (SavesIn (outputs_in own))) (λ by. doing.files_saved asked n looks goes.0 goes.1 files files' by);
    kept = λ one. since (λ m own out. m ≡ 71 → IfTold files files' KeepsAll) (λ by. doing.files_kept asked n looks goes.0 goes.1 files files' one by);
    left = since (λ m own out. m ≡ 73 → IfTold files files' (λ before after. (KeepsAll before after × (put_bytes out ≡ [])) ⊎ LeavesPart asked (loaded_texts own) looks (put_bytes out) before after))
        (λ by. doing.files_left asked n looks goes.0 goes.1 files files' by);
    others = doing.others_stay asked n looks goes.0 goes.1 files files' goes.4;
    printed = doing.puts_since written written' sink sink' puts;
  }
