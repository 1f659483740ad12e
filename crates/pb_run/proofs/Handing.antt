-- The whole way of a call of the program, exit by exit.
use Rattle.std.proofs.Common.{◌≡◌, inl, inr, ℕ, ◌≤◌, Option, None, Some, IfSome, IsSome, List, [], ◌∷◌, ◌++◌, length, refl, sym, ap, ◌∙◌, append_assoc, append-nil}
use Rattle.pb_outside.specs.Outside.{Files, IfTold, Appends, KeepsAll, KeepsOthers, KeepsHolds}
use Rattle.pb_outside.specs.Calls.{Call, IsNoFault}
use Rattle.pb_outside.proofs.Callers.{told_then, told_both, told_as}
use Rattle.pb_outside.specs.declared.shelf.Load.{Load}
use Rattle.pb_outside.specs.declared.shelf.Load.TheVariants.{Failed}
use Rattle.pb_command.specs.Meaning.{Reading}
use Rattle.pb_outside.specs.Saves.{IsPartSaved}
use Rattle.pb_run.specs.Asked.{files_of, CanLoad}
use Rattle.pb_answer.specs.Statuses.{number_of}
use Rattle.pb_answer.specs.Outputs.{output}
use Rattle.pb_answer.specs.Parts.{AnswerPart, outputs_of}
use Rattle.pb_run.specs.Calls.{outputs_in, load_calls, CanHold}
use Rattle.pb_run.specs.Loads.{loads_of, AreLoaded}
use Rattle.pb_answer.specs.Answer.{Said}
use Rattle.pb_run.specs.Answers.{AnswersReading}
use Rattle.pb_answer.specs.FallingRuns.{part_of}
use Rattle.pb_run.specs.Parted.{AreAllParts, AreFirstParts, AreDecided}
use Rattle.pb_run.specs.Handing.{HandsOutParts}
use Rattle.pb_run.specs.Course.{HasAnswered}
use Rattle.pb_run.specs.Served.{PartsFit, HandsOutIfPartsFit, IsHandedOutIfItFits, AnswersWhatFits}
use Rattle.pb_run.specs.Fit.{IfShelf, status_of}
use Rattle.pb_run.specs.Contents.{SavesIn, SavesPartIn, SavesPartsIn, LoadsAll, LoadsUpTo, Hands, HandsTold, Goes, WritesPut}
use Rattle.pb_run.specs.PartByPart.{HandsParts, EndsParts, HandsOutTexts}
use Rattle.pb_run.specs.Begun.{IsOnePart}
use Rattle.pb_run.specs.declared.load.Fault.{Fault}
use Rattle.pb_run.specs.declared.load.Fault.TheVariants.{OutOfMemory, ShelfFailed}
use Rattle.pb_run.specs.declared.output.Ending.{Ending}
use Rattle.pb_run.specs.declared.output.Ending.TheVariants.{Done, NotSaved, NotPrinted}
use Rattle.pb_run.proofs.CallLists.{ended_few, ended_no_fault}
use Rattle.pb_run.proofs.Parted.{no_parts}
use Rattle.pb_run.proofs.Fitting.{fits_whole, parts_still_fit}
use Rattle.pb_run.proofs.PartByPart.{one_done, one_not_saved, one_not_printed, parts_kept}
use Rattle.pb_run.proofs.Saving.{after_kept}

-- ---- one file that is saved

pub saved_one : (files files' : Option Files) (name text : List ℕ) → IfTold files files' (λ before after. after name ≡ Some text) → IfTold files files' (λ before after. KeepsOthers before after name)
    → IfTold files files' (SavesIn (output name text ∷ []))
saved_one files files' name text here others = told_both files files' _ _ (SavesIn (output name text ∷ [])) here others (λ x y h o. (y, h, o, λ other. refl))

pub part_of_one : (files files' : Option Files) (name text : List ℕ) → IfTold files files' (λ before after. IsPartSaved before after name text) → IfTold files files' (λ before after. KeepsOthers before after name)
    → IfTold files files' (SavesPartIn (output name text ∷ []))
part_of_one files files' name text part others = told_both files files' _ _ (SavesPartIn (output name text ∷ [])) part others (λ x y p o. inl (p, o))

-- ---- nothing is put

pub writes_none : (written : Option (List ℕ)) (sink : List Call) → WritesPut written written sink sink
writes_none written sink = ([], sym (append-nil sink), same written)
  where
    same : (w : Option (List ℕ)) → IfTold w w (λ before after. Appends before after [])
    same None = tt
    same (Some text) = sym (append-nil text)

-- ---- the exits

module _ (reading : Reading) (looks : ℕ) (files files' : Option Files) (shelf shelf' sink : List Call) where
  -- memory ran out before the first part
  goes_before : (texts : List (List ℕ)) (unloaded : Option Load) (n : ℕ) → n ≡ 71 → length texts ≤ length (files_of reading) → IfSome unloaded IsNoFault
      → shelf' ≡ shelf ++ load_calls (files_of reading) texts unloaded → IfTold files files' KeepsAll → Goes reading n looks files files' shelf shelf' sink sink
  goes_before texts unloaded n is few no_fault are kept =
      let loads = load_calls (files_of reading) texts unloaded in (
        loads,
        [],
        are,
        sym (append-nil sink),
        inl (
          record {
            texts = texts;
            unloaded = unloaded;
            few = few;
            no_fault = no_fault;
            status_is = is;
            parts = [];
            parts_are = no_parts reading texts;
            loaded = inl refl;
            saves = [];
            shelf_is = sym (append-nil loads);
            hands = (refl, refl);
          },
          told_as files files' KeepsAll (SavesIn []) kept (λ x y h. h),
        ),
      )

  pub goes_failed : (fault : Fault) (n : ℕ) → n ≡ number_of (status_of fault) → LoadsUpTo shelf shelf' (files_of reading) fault → IfTold files files' KeepsAll → Goes reading n looks files files' shelf shelf' sink sink
  goes_failed OutOfMemory n is (texts, unloaded, few, none, are) kept = goes_before texts unloaded n is few none are kept
  goes_failed ShelfFailed n is (texts, few, are) kept =
      (load_calls (files_of reading) texts (Some Failed), [], are, sym (append-nil sink), inr (inl (record { texts = texts; few = few; status_is = is; shelf_is = refl; sink_is = refl }, kept)))

  pub goes_full : (texts : List (List ℕ)) (n : ℕ) → n ≡ 71 → LoadsAll shelf shelf' (files_of reading) texts → IfTold files files' KeepsAll → Goes reading n looks files files' shelf shelf' sink sink
  goes_full texts n is (unloaded, ends, are) kept =
      goes_before texts unloaded n is (ended_few (files_of reading) texts unloaded ends) (ended_no_fault (files_of reading) texts unloaded ends) are kept

pub fits_failed : (reading : Reading) (looks : ℕ) (files : Option Files) (can_load : List ℕ → Type 0) (can_hold : List ℕ → ℕ → Type 0) (can_take : ℕ → Type 0) (fault : Fault) (n : ℕ) → n ≡ number_of (status_of fault)
    → (CanLoad can_load (files_of reading) → IfShelf fault ⊥) → AnswersWhatFits reading n looks files can_load can_hold can_take
fits_failed reading looks None can_load can_hold can_take fault n is sure = tt
fits_failed reading looks (Some told_files) can_load can_hold can_take OutOfMemory n is sure = λ can. inl is
fits_failed reading looks (Some told_files) can_load can_hold can_take ShelfFailed n is sure = λ can. absurd (sure can)

pub fits_full : (reading : Reading) (looks : ℕ) (files : Option Files) (can_load : List ℕ → Type 0) (can_hold : List ℕ → ℕ → Type 0) (can_take : ℕ → Type 0) (n : ℕ) → n ≡ 71
    → AnswersWhatFits reading n looks files can_load can_hold can_take
fits_full reading looks None can_load can_hold can_take n is = tt
fits_full reading looks (Some told_files) can_load can_hold can_take n is = λ can. inl is

-- ---- after the loads: parts are handed out

module _ (reading : Reading) (looks : ℕ) (files between files' : Option Files) (shelf mid shelf' sink sink' : List Call) (written written' : Option (List ℕ)) (texts : List (List ℕ))
    (loads : LoadsAll shelf mid (files_of reading) texts) (are : AreLoaded files (files_of reading) texts) (kept : IfTold files between KeepsAll) (parts : List AnswerPart) where
  abbrev To : Ending → Type 0
  To ending = HandsParts ending parts between files' mid shelf' sink sink' written written'

  all_calls : (saves : List Call) → shelf' ≡ mid ++ saves → shelf' ≡ shelf ++ (load_calls (files_of reading) texts loads.0 ++ saves)
  all_calls saves is = is ∙ ap (λ (calls : List Call). calls ++ saves) loads.2 ∙ append_assoc shelf (load_calls (files_of reading) texts loads.0) saves

  kept_then : (P : Files → Files → Type 0) → ((x y z : Files) → KeepsAll x y → P y z → P x z) → IfTold between files' P → IfTold files files' P
  kept_then P f h = told_then files between files' KeepsAll P P kept h f

  -- parts were handed out as far as these calls go
  abbrev handed : (n : ℕ) (saves puts : List Call) → HandsOutParts reading texts parts n looks saves puts
      → HasAnswered reading n looks (load_calls (files_of reading) texts loads.0 ++ saves) puts
  handed n saves puts hands = record { texts = texts; unloaded = loads.0; ends = loads.1; parts = parts; saves = saves; shelf_is = refl; hands = hands }

  -- the parts of an answer were handed out
  goes_whole : (said : Said) → AnswersReading reading texts said → AreAllParts reading texts said parts → (n : ℕ) → n ≡ said.status → looks ≡ said.looks → To Done → Goes reading n looks files files' shelf shelf' sink sink'
  goes_whole said answers parts_are n is counted to = (
    load_calls (files_of reading) texts loads.0 ++ to.saves,
    to.puts,
    all_calls to.saves to.shelf_is,
    to.sink_is,
    inr (inr (
      handed n to.saves to.puts (inl (record { said = said; answers = answers; parts_are = parts_are; status_is = is; looks_is = counted; hands = to.hands })),
      are,
      kept_then (SavesIn (outputs_of parts)) (after_kept (outputs_of parts)) to.told,
    )),
  )

  -- a file of the part in hand wasn't saved
  goes_unsaved : AreDecided reading texts looks parts → (n : ℕ) → n ≡ 73 → To NotSaved → Goes reading n looks files files' shelf shelf' sink sink'
  goes_unsaved decided n is to = (
    load_calls (files_of reading) texts loads.0 ++ to.saves,
    to.puts,
    all_calls to.saves to.shelf_is,
    to.sink_is,
    inr (inr (
      handed n to.saves to.puts (inr (inl (record { status_is = is; decided = decided; hands = to.hands }))),
      are,
      kept_then (SavesPartsIn parts to.puts) (parts_kept parts to.puts) to.told,
    )),
  )

  -- the piece of the part in hand wasn't put
  goes_unput : AreDecided reading texts looks parts → (n : ℕ) → n ≡ 74 → To NotPrinted → Goes reading n looks files files' shelf shelf' sink sink'
  goes_unput decided n is to = (
    load_calls (files_of reading) texts loads.0 ++ to.saves,
    to.puts,
    all_calls to.saves to.shelf_is,
    to.sink_is,
    inr (inr (
      handed n to.saves to.puts (inr (inr (record { status_is = is; decided = decided; hands = to.hands }))),
      are,
      kept_then (SavesIn (outputs_in to.saves)) (after_kept (outputs_in to.saves)) to.told,
    )),
  )

  -- memory ran out before the next part was decided
  goes_between : AreFirstParts reading texts parts → (n : ℕ) → n ≡ 71 → To Done → Goes reading n looks files files' shelf shelf' sink sink'
  goes_between first n is to = (
    load_calls (files_of reading) texts loads.0 ++ to.saves,
    to.puts,
    all_calls to.saves to.shelf_is,
    to.sink_is,
    inl (
      record {
        texts = texts;
        unloaded = loads.0;
        few = ended_few (files_of reading) texts loads.0 loads.1;
        no_fault = ended_no_fault (files_of reading) texts loads.0 loads.1;
        status_is = is;
        parts = parts;
        parts_are = first;
        loaded = inr loads.1;
        saves = to.saves;
        shelf_is = refl;
        hands = to.hands;
      },
      kept_then (SavesIn (outputs_of parts)) (after_kept (outputs_of parts)) to.told,
    ),
  )

  pub goes_by : (ending : Ending) (n : ℕ) → EndsParts reading texts ending parts n looks → To ending → Goes reading n looks files files' shelf shelf' sink sink'
  goes_by Done n (inl (said, answers, parts_are, is, counted)) to = goes_whole said answers parts_are n is counted to
  goes_by Done n (inr (is, first)) to = goes_between first n is to
  goes_by NotSaved n (is, decided) to = goes_unsaved decided n is to
  goes_by NotPrinted n (is, decided) to = goes_unput decided n is to

module _ (reading : Reading) (looks : ℕ) (files between files' : Option Files) (shelf mid shelf' sink sink' : List Call) (written written' : Option (List ℕ)) (texts : List (List ℕ)) (n : ℕ) where
  pub goes_handed : LoadsAll shelf mid (files_of reading) texts → AreLoaded files (files_of reading) texts → IfTold files between KeepsAll
      → HandsOutTexts reading texts n looks between files' mid shelf' sink sink' written written' → Goes reading n looks files files' shelf shelf' sink sink'
  goes_handed loads are kept it =
      goes_by reading looks files between files' shelf mid shelf' sink sink' written written' texts loads are kept it.parts it.ending n it.ends it.hands

  -- what fits before the loads fits after them
  pub fits_handed : AreLoaded files (files_of reading) texts → IfTold files between KeepsAll → (can_load : List ℕ → Type 0) (before now : List ℕ → ℕ → Type 0) (can_take : ℕ → Type 0) → KeepsHolds before now
      → (IsSome between → HandsOutIfPartsFit reading texts n looks now can_take) → AnswersWhatFits reading n looks files can_load before can_take
  fits_handed are kept can_load before now can_take keeps fits = go files between kept are fits
    where
      by : (told : Files) → loads_of told (files_of reading) ≡ Some texts → HandsOutIfPartsFit reading texts n looks now can_take → IsHandedOutIfItFits reading told n looks before can_take
      by told loads (inl is) = inl is
      by told loads (inr (inl all)) = inr (
        texts,
        loads,
        inl (record {
          said = all.said;
          answers = all.answers;
          looks_is = all.looks_is;
          parts = all.parts;
          parts_are = all.parts_are;
          if_they_fit = λ fit. all.if_they_fit (parts_still_fit before now can_take keeps all.parts fit);
        }),
      )
      by told loads (inr (inr first)) = inr (
        texts,
        loads,
        inr (record {
          broke = first.broke;
          parts = first.parts;
          parts_are = first.parts_are;
          do_not_fit = λ fit. first.do_not_fit (parts_still_fit before now can_take keeps first.parts fit);
        }),
      )

      go : (f b : Option Files) → IfTold f b KeepsAll → AreLoaded f (files_of reading) texts → (IsSome b → HandsOutIfPartsFit reading texts n looks now can_take)
          → AnswersWhatFits reading n looks f can_load before can_take
      go None b k l fit = tt
      go (Some x) None k l fit = absurd k
      go (Some x) (Some y) k l fit = λ can. by x l (fit refl)

-- ---- an answer is handed out in one part

module _ (reading : Reading) (texts : List (List ℕ)) (said : Said) (answer : IsOnePart reading texts said) where
  module _ (files files' : Option Files) (shelf shelf' sink sink' : List Call) (written written' : Option (List ℕ)) where
    abbrev HandsOut : ℕ → Type 0
    HandsOut n = HandsOutTexts reading texts n said.looks files files' shelf shelf' sink sink' written written'

    pub hands_done : (n : ℕ) → n ≡ said.status → Hands said Done shelf shelf' sink sink' written written' → HandsTold said Done files files' → HandsOut n
    hands_done n is hands tells = record {
      ending = Done;
      parts = part_of said ∷ [];
      hands = one_done said files files' shelf shelf' sink sink' written written' hands tells;
      ends = inl (said, answer.0, answer.1, is, refl);
    }

    pub hands_not_saved : Hands said NotSaved shelf shelf' sink sink' written written' → HandsTold said NotSaved files files' → HandsOut 73
    hands_not_saved hands tells = record {
      ending = NotSaved;
      parts = part_of said ∷ [];
      hands = one_not_saved said files files' shelf shelf' sink sink' written written' hands tells;
      ends = (refl, inl (said, answer.0, answer.1, refl));
    }

    pub hands_not_printed : Hands said NotPrinted shelf shelf' sink sink' written written' → HandsTold said NotPrinted files files' → HandsOut 74
    hands_not_printed hands tells = record {
      ending = NotPrinted;
      parts = part_of said ∷ [];
      hands = one_not_printed said files files' shelf shelf' sink sink' written written' hands tells;
      ends = (refl, inl (said, answer.0, answer.1, refl));
    }

  module _ (n : ℕ) (can_hold : List ℕ → ℕ → Type 0) (can_take : ℕ → Type 0) where
    if_fits : (PartsFit can_hold can_take (part_of said ∷ []) → n ≡ said.status) → HandsOutIfPartsFit reading texts n said.looks can_hold can_take
    if_fits fits = inr (inl (record { said = said; answers = answer.0; looks_is = refl; parts = part_of said ∷ []; parts_are = answer.1; if_they_fit = fits }))

    pub one_fits : n ≡ said.status → HandsOutIfPartsFit reading texts n said.looks can_hold can_take
    one_fits is = if_fits (λ fit. is)

    -- it wasn't handed out, so the shelf couldn't hold it, or the sink couldn't take it
    pub one_fits_not : (CanHold can_hold said.outputs → can_take (length said.report) → ⊥) → HandsOutIfPartsFit reading texts n said.looks can_hold can_take
    one_fits_not never = if_fits (λ fit. let all = fits_whole can_hold can_take said fit in absurd (never all.0 all.1))
