-- What is promised of falling weights for maps and boards, from what is promised of every task.
use Rattle.std.proofs.Common.{◌≡◌, ◌⊎◌, inl, inr, ℕ, List, [], ◌++◌, Ok, slice_get, ◌∷◌, sym, ap, ◌∙◌, append-nil, append_assoc}
use Rattle.pb_model.specs.Plan.{HasNoPlan}
use Rattle.pb_model.specs.Texts.{none_report, stopped_report}
use Rattle.pb_task.specs.declared.parts.TaskParts.{TaskParts}
use Rattle.pb_task.specs.declared.parts.TaskParts.TheVariants as kinds
use Rattle.pb_task.specs.Parts.{space_of, action_name}
use Rattle.pb_grid.specs.Laws.{ReadAsSpelled}
use Rattle.pb_tiles.specs.Laws.{ReadingsAreSpelled}
use Rattle.pb_command.specs.Values.{InputNames, Grid, Tiles, Strips}
use Rattle.pb_command.specs.Meaning.{FallingMeaning}
use Rattle.pb_answer.specs.Loaded.{input_task, OfTexts}
use Rattle.pb_answer.specs.Spelled.{OfGrid, OfTiles}
use Rattle.pb_answer.specs.Stops.{InputMayStop, StopsSolve}
use Rattle.pb_estimate.specs.Choices.{Choice}
use Rattle.pb_answer.proofs.Callers.{task_read, of_grid, of_tiles}
use Rattle.pb_run.specs.Outcome.{Outcome}
use Rattle.pb_run.specs.Kinds.{weight_of_words, IfMap, IfBoard}
use Rattle.pb_run.specs.FallingHeadline.{PrintedClaim, printed_text, claims_text, EndsProved, EndsNone, EndsStopped, EndsShort, EndsUnsaved, EndsUnprinted, IsNext, IsSilent, IsRefusedInPart, IsStoppedInPart, FallingHolds}
use Rattle.pb_run.specs.FallingKinds.{PrintsClaims, PrintsInPart, PrintsCheapestLast, FallingMapHolds, FallingBoardHolds}

module _ (falling : FallingMeaning) (it : Outcome) where
  -- ---- of a task, by the names of its actions

  abbrev pub Last : TaskParts → Type 0
  Last task = PrintsCheapestLast it.said.report (space_of task) (action_name task) (weight_of_words falling.solve) falling.steps

  abbrev pub Claims : (rest : List ℕ) → TaskParts → Type 0
  Claims rest task = PrintsClaims it.said.report (space_of task) (action_name task) (weight_of_words falling.solve) falling.steps rest

  abbrev pub InPart : TaskParts → Type 0
  InPart task = PrintsInPart it.said.report (space_of task) (action_name task) (weight_of_words falling.solve) falling.steps falling.solve.settings.budget

  abbrev pub budget_line : List ℕ
  budget_line = stopped_report falling.solve.settings.budget

  abbrev pub Of : (P : TaskParts → Type 0) → Type 0
  Of P = OfTexts falling.solve it.texts (λ choice task. P task)

  -- what follows for every task, whatever the choice of an estimate, holds of the one that the texts spell
  of_every : (P : Choice → TaskParts → Type 0) (Q : TaskParts → Type 0) → ((choice : Choice) (task : TaskParts) → P choice task → Q task) → OfTexts falling.solve it.texts P → Of Q
  of_every P Q f (read, is, (choice, asked, holds)) = (read, is, (choice, asked, f choice read.0 holds))

  abbrev pub IsHalted : Type 0
  IsHalted = StopsSolve falling.solve it.texts it.said

  abbrev MayHalt : InputNames → Type 0
  MayHalt input = InputMayStop input falling.solve.options 0 it.texts

  -- one more claim at the end, and nothing after it
  one_more : (name : ℕ → List ℕ) (claims : List PrintedClaim) (claim : PrintedClaim)
      → claims_text name claims ++ printed_text name claim ≡ claims_text name (claims ++ claim ∷ []) ++ []
  one_more name [] claim = sym (append-nil (printed_text name claim)) ∙ sym (append-nil (printed_text name claim ++ []))
  one_more name (first ∷ claims) claim =
      append_assoc (printed_text name first) (claims_text name claims) (printed_text name claim) ∙ ap (λ (t : List ℕ). printed_text name first ++ t) (one_more name claims claim)
      ∙ sym (append_assoc (printed_text name first) (claims_text name (claims ++ claim ∷ [])) [])

  last_of : (choice : Choice) (task : TaskParts) → EndsProved falling.solve falling.steps it.said choice task → Last task
  last_of choice task e = (e.claims, e.last, e.are, e.printed, e.improvable, e.proved, e.least)

  stop_of : (choice : Choice) (task : TaskParts) → EndsStopped falling.solve falling.steps it.said choice task → Claims budget_line task
  stop_of choice task e = (e.claims, e.so_far.are, e.printed ∙ ap (λ (text : List ℕ). text ++ budget_line) e.so_far.printed)

  short_of : (choice : Choice) (task : TaskParts) → EndsShort falling.solve falling.steps it.said choice task → Claims [] task
  short_of choice task e = (e.claims, e.so_far.are, e.so_far.printed ∙ sym (append-nil (claims_text (action_name task) e.claims)))

  unsaved_of : (choice : Choice) (task : TaskParts) → EndsUnsaved falling.solve falling.steps it.said choice task → Claims [] task
  unsaved_of choice task e = (e.claims, e.so_far.are, e.so_far.printed ∙ sym (append-nil (claims_text (action_name task) e.claims)))

  -- the claims before, and then the text of the part in hand, of which a first part is printed
  whole_of : (choice : Choice) (task : TaskParts) (e : EndsUnprinted falling.solve falling.steps it.said choice task) → it.said.report ++ e.rest ≡ claims_text (action_name task) e.claims ++ e.part.report
  whole_of choice task e =
      ap (λ (t : List ℕ). t ++ e.rest) e.printed ∙ append_assoc e.report e.kept e.rest ∙ ap (λ (t : List ℕ). e.report ++ t) (sym e.is_kept)
      ∙ ap (λ (t : List ℕ). t ++ e.part.report) e.so_far.printed

  unprinted_of : (choice : Choice) (task : TaskParts) → EndsUnprinted falling.solve falling.steps it.said choice task → InPart task
  unprinted_of choice task e = (e.rest, go e.next)
    where
      name : ℕ → List ℕ
      name = action_name task

      Whole : (rest : List ℕ) → Type 0
      Whole rest = PrintsClaims (it.said.report ++ e.rest) (space_of task) name (weight_of_words falling.solve) falling.steps rest

      go : IsNext falling.solve choice task falling.steps e.claims e.part
          → Whole [] ⊎ (Whole budget_line ⊎ ((it.said.report ++ e.rest ≡ none_report) × HasNoPlan (space_of task)))
      go (inl (claim, are, searched, text, saves)) =
          inl (
            e.claims ++ claim ∷ [],
            are,
            whole_of choice task e ∙ ap (λ (t : List ℕ). claims_text name e.claims ++ t) text ∙ one_more name e.claims claim,
          )
      go (inr (inl (first, none, text, saves))) =
          inr (inr (whole_of choice task e ∙ ap (λ (c : List PrintedClaim). claims_text name c ++ e.part.report) first ∙ text, none))
      go (inr (inr (spent, text, nothing))) =
          inr (inl (e.claims, e.so_far.are, whole_of choice task e ∙ ap (λ (t : List ℕ). claims_text name e.claims ++ t) text))

  module _ (holds : FallingHolds falling it) where
    pub proved : it.said.status ≡ 0 → Of Last
    proved e = of_every (EndsProved falling.solve falling.steps it.said) Last last_of (holds.proved e)

    pub none : it.said.status ≡ 1 → Of (λ task. HasNoPlan (space_of task))
    none e = of_every (EndsNone falling.solve it.said) (λ task. HasNoPlan (space_of task)) (λ choice task n. n.no_plan) (holds.none e)

    pub stopped : it.said.status ≡ 2 → Of (Claims budget_line) ⊎ IsHalted
    stopped e = go (holds.stopped e)
      where
        go : OfTexts falling.solve it.texts (EndsStopped falling.solve falling.steps it.said) ⊎ IsHalted → Of (Claims budget_line) ⊎ IsHalted
        go (inl ends) = inl (of_every (EndsStopped falling.solve falling.steps it.said) (Claims budget_line) stop_of ends)
        go (inr stop) = inr stop

    pub short : it.said.status ≡ 71 → (it.said.report ≡ []) ⊎ Of (Claims [])
    short e = go (holds.short e)
      where
        go : IsSilent it.said ⊎ OfTexts falling.solve it.texts (EndsShort falling.solve falling.steps it.said) → (it.said.report ≡ []) ⊎ Of (Claims [])
        go (inl silent) = inl silent.0
        go (inr ends) = inr (of_every (EndsShort falling.solve falling.steps it.said) (Claims []) short_of ends)

    pub unsaved : it.said.status ≡ 73 → (it.said.report ≡ []) ⊎ Of (Claims [])
    unsaved e = go (holds.unsaved e)
      where
        go : IsSilent it.said ⊎ OfTexts falling.solve it.texts (EndsUnsaved falling.solve falling.steps it.said) → (it.said.report ≡ []) ⊎ Of (Claims [])
        go (inl silent) = inl silent.0
        go (inr ends) = inr (of_every (EndsUnsaved falling.solve falling.steps it.said) (Claims []) unsaved_of ends)

    pub unprinted : it.said.status ≡ 74 → IsRefusedInPart falling.solve it.texts it.said ⊎ (IsStoppedInPart falling.solve it.texts it.said ⊎ Of InPart)
    unprinted e = go (holds.unprinted e)
      where
        go : IsRefusedInPart falling.solve it.texts it.said ⊎ (IsStoppedInPart falling.solve it.texts it.said ⊎ OfTexts falling.solve it.texts (EndsUnprinted falling.solve falling.steps it.said))
            → IsRefusedInPart falling.solve it.texts it.said ⊎ (IsStoppedInPart falling.solve it.texts it.said ⊎ Of InPart)
        go (inl refused) = inl refused
        go (inr (inl stopped)) = inr (inl stopped)
        go (inr (inr ends)) = inr (inr (of_every (EndsUnprinted falling.solve falling.steps it.said) InPart unprinted_of ends))

    -- ---- maps

    abbrev OfMap : (P : TaskParts → Type 0) → Type 0
    OfMap P = OfGrid (slice_get it.texts 0) (slice_get it.texts 1) falling.solve.options (λ grid. P (kinds.Grid grid))

    of_map : ReadAsSpelled → (P : TaskParts → Type 0) → Of P → IfMap falling.solve.input (OfMap P)
    of_map law P (read, reads, (choice, asked, p)) = go falling.solve.input (task_read falling.solve it.texts read reads)
      where
        go : (input : InputNames) → input_task input falling.solve.options 0 it.texts ≡ Ok read.0 → IfMap input (OfMap P)
        go (Grid names) is = of_grid read.0 P p law (slice_get it.texts 0) (slice_get it.texts 1) falling.solve.options is
        go (Tiles board) is = tt
        go (Strips names) is = tt

    -- a map isn't grounded
    never_map : (P : TaskParts → Type 0) → MayHalt falling.solve.input → IfMap falling.solve.input (OfMap P)
    never_map P due = go falling.solve.input due
      where
        go : (input : InputNames) → MayHalt input → IfMap input (OfMap P)
        go (Grid names) due = absurd due
        go (Tiles board) due = tt
        go (Strips names) due = tt

    pub map_holds : ReadAsSpelled → IfMap falling.solve.input (FallingMapHolds falling it)
    map_holds law = go falling.solve.input (λ e. of_map law Last (proved e)) (λ e. of_map law (λ task. HasNoPlan (space_of task)) (none e))
        (λ e. stop (stopped e)) (λ e. either (short e)) (λ e. either (unsaved e)) (λ e. part (unprinted e))
      where
        either : (it.said.report ≡ []) ⊎ Of (Claims []) → (it.said.report ≡ []) ⊎ IfMap falling.solve.input (OfMap (Claims []))
        either (inl silent) = inl silent
        either (inr of) = inr (of_map law (Claims []) of)

        stop : Of (Claims budget_line) ⊎ IsHalted → IfMap falling.solve.input (OfMap (Claims budget_line))
        stop (inl of) = of_map law (Claims budget_line) of
        stop (inr halted) = never_map (Claims budget_line) halted.1.due

        part : IsRefusedInPart falling.solve it.texts it.said ⊎ (IsStoppedInPart falling.solve it.texts it.said ⊎ Of InPart) → IsRefusedInPart falling.solve it.texts it.said ⊎ IfMap falling.solve.input (OfMap InPart)
        part (inl refused) = inl refused
        part (inr (inl stopped)) = inr (never_map InPart stopped.2)
        part (inr (inr of)) = inr (of_map law InPart of)

        go : (input : InputNames) → (it.said.status ≡ 0 → IfMap input (OfMap Last)) → (it.said.status ≡ 1 → IfMap input (OfMap (λ task. HasNoPlan (space_of task))))
            → (it.said.status ≡ 2 → IfMap input (OfMap (Claims budget_line))) → (it.said.status ≡ 71 → (it.said.report ≡ []) ⊎ IfMap input (OfMap (Claims [])))
            → (it.said.status ≡ 73 → (it.said.report ≡ []) ⊎ IfMap input (OfMap (Claims []))) → (it.said.status ≡ 74 → IsRefusedInPart falling.solve it.texts it.said ⊎ IfMap input (OfMap InPart))
            → IfMap input (FallingMapHolds falling it)
        go (Grid names) zero one two memory shelf sink = record { proved = zero; none = one; stopped = two; short = memory; unsaved = shelf; unprinted = sink }
        go (Tiles board) zero one two memory shelf sink = tt
        go (Strips names) zero one two memory shelf sink = tt

    -- ---- boards

    abbrev OfBoard : (P : TaskParts → Type 0) → Type 0
    OfBoard P = OfTiles (slice_get it.texts 0) (λ tiles. P (kinds.Tiles tiles))

    of_board : ReadingsAreSpelled → (P : TaskParts → Type 0) → Of P → IfBoard falling.solve.input (OfBoard P)
    of_board law P (read, reads, (choice, asked, p)) = go falling.solve.input (task_read falling.solve it.texts read reads)
      where
        go : (input : InputNames) → input_task input falling.solve.options 0 it.texts ≡ Ok read.0 → IfBoard input (OfBoard P)
        go (Grid names) is = tt
        go (Tiles board) is = of_tiles read.0 P p law (slice_get it.texts 0) is
        go (Strips names) is = tt

    -- a board isn't grounded
    never_board : (P : TaskParts → Type 0) → MayHalt falling.solve.input → IfBoard falling.solve.input (OfBoard P)
    never_board P due = go falling.solve.input due
      where
        go : (input : InputNames) → MayHalt input → IfBoard input (OfBoard P)
        go (Grid names) due = tt
        go (Tiles board) due = absurd due
        go (Strips names) due = tt

    pub board_holds : ReadingsAreSpelled → IfBoard falling.solve.input (FallingBoardHolds falling it)
    board_holds law = go falling.solve.input (λ e. of_board law Last (proved e)) (λ e. of_board law (λ task. HasNoPlan (space_of task)) (none e))
        (λ e. stop (stopped e)) (λ e. either (short e)) (λ e. either (unsaved e)) (λ e. part (unprinted e))
      where
        either : (it.said.report ≡ []) ⊎ Of (Claims []) → (it.said.report ≡ []) ⊎ IfBoard falling.solve.input (OfBoard (Claims []))
        either (inl silent) = inl silent
        either (inr of) = inr (of_board law (Claims []) of)

        stop : Of (Claims budget_line) ⊎ IsHalted → IfBoard falling.solve.input (OfBoard (Claims budget_line))
        stop (inl of) = of_board law (Claims budget_line) of
        stop (inr halted) = never_board (Claims budget_line) halted.1.due

        part : IsRefusedInPart falling.solve it.texts it.said ⊎ (IsStoppedInPart falling.solve it.texts it.said ⊎ Of InPart) → IsRefusedInPart falling.solve it.texts it.said ⊎ IfBoard falling.solve.input (OfBoard InPart)
        part (inl refused) = inl refused
        part (inr (inl stopped)) = inr (never_board InPart stopped.2)
        part (inr (inr of)) = inr (of_board law InPart of)

        go : (input : InputNames) → (it.said.status ≡ 0 → IfBoard input (OfBoard Last)) → (it.said.status ≡ 1 → IfBoard input (OfBoard (λ task. HasNoPlan (space_of task))))
            → (it.said.status ≡ 2 → IfBoard input (OfBoard (Claims budget_line))) → (it.said.status ≡ 71 → (it.said.report ≡ []) ⊎ IfBoard input (OfBoard (Claims [])))
            → (it.said.status ≡ 73 → (it.said.report ≡ []) ⊎ IfBoard input (OfBoard (Claims []))) → (it.said.status ≡ 74 → IsRefusedInPart falling.solve it.texts it.said ⊎ IfBoard input (OfBoard InPart))
            → IfBoard input (FallingBoardHolds falling it)
        go (Grid names) zero one two memory shelf sink = tt
        go (Tiles board) zero one two memory shelf sink = record { proved = zero; none = one; stopped = two; short = memory; unsaved = shelf; unprinted = sink }
        go (Strips names) zero one two memory shelf sink = tt
