-- What is asked of files and output in memory is that they have room.
use Rattle.std.proofs.Common.{◌≡◌, inl, inr, ℕ, Some, List, [], ◌∷◌, ◌++◌}
use Rattle.pb_outside.specs.Memory.{ShelfView, SinkView, file_of, HasFile, HasRoom, CanTake}
use Rattle.pb_command.specs.Meaning.{Reading}
use Rattle.pb_answer.specs.Outputs.{Output}
use Rattle.pb_answer.specs.Parts.{AnswerPart, outputs_of}
use Rattle.pb_run.specs.Asked.{Wanted, files_of, CanLoad}
use Rattle.pb_run.specs.Calls.{CanHold}
use Rattle.pb_run.specs.Served.{CanTakeAll, PartsFit, IsHandedOutIfItFits, AnswersWhatFits}
use Rattle.pb_run.specs.InMemory.{HaveFiles, HasRoomFor, HasRoomToPut}

module _ (shelf : ShelfView) (sink : SinkView) (listed : shelf.calls.listed ≡ [])
    (sink_listed : sink.calls.listed ≡ []) where
  pub can_load : (files : List Wanted) → HaveFiles shelf files → CanLoad (HasFile shelf) files
  can_load [] have = tt
  can_load (file ∷ files) have = ((listed, have.0), can_load files have.1)

  pub can_hold : (outputs : List Output) → CanHold (HasRoomFor shelf) outputs
      → CanHold (HasRoom shelf) outputs
  can_hold [] holds = tt
  can_hold (first ∷ outputs) holds = ((listed, holds.0), can_hold outputs holds.1)

  can_take : (before : List ℕ) (parts : List AnswerPart) → CanTakeAll (HasRoomToPut sink) before parts
      → CanTakeAll (CanTake sink) before parts
  can_take before [] takes = tt
  can_take before (part ∷ parts) takes =
      ((sink_listed, takes.0), can_take (before ++ part.report) parts takes.1)

  parts_fit : (parts : List AnswerPart) → PartsFit (HasRoomFor shelf) (HasRoomToPut sink) parts
      → PartsFit (HasRoom shelf) (CanTake sink) parts
  parts_fit parts fit =
      record { held = can_hold (outputs_of parts) fit.held; taken = can_take [] parts fit.taken }

  pub handed_out_if_it_fits : (reading : Reading) (status looks : ℕ) → HaveFiles shelf (files_of reading)
      → AnswersWhatFits reading status looks (Some (file_of shelf)) (HasFile shelf) (HasRoom shelf)
      (CanTake sink)
      → IsHandedOutIfItFits reading (file_of shelf) status looks (HasRoomFor shelf) (HasRoomToPut sink)
  handed_out_if_it_fits reading status looks have fits = go (fits (can_load (files_of reading) have))
    where
      go : IsHandedOutIfItFits reading (file_of shelf) status looks (HasRoom shelf) (CanTake sink)
          → IsHandedOutIfItFits reading (file_of shelf) status looks (HasRoomFor shelf) (HasRoomToPut sink)
      go (inl memory) = inl memory
      go (inr (texts, loaded, inl it)) = inr (
        texts,
        loaded,
        inl (record {
          said = it.said;
          answers = it.answers;
          looks_is = it.looks_is;
          parts = it.parts;
          parts_are = it.parts_are;
          if_they_fit = λ fit. it.if_they_fit (parts_fit it.parts fit);
        }),
      )
      go (inr (texts, loaded, inr it)) = inr (
        texts,
        loaded,
        inr (record {
          broke = it.broke;
          parts = it.parts;
          parts_are = it.parts_are;
          do_not_fit = λ fit. it.do_not_fit (parts_fit it.parts fit);
        }),
      )
