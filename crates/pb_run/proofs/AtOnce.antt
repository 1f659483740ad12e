-- An answer in one part is handed out at once.
use Rattle.std.proofs.Common.{◌≡◌, inl, inr, ℕ, true, Some, List, [], ◌∷◌, ◌++◌, refl, sym, ap, subst, ◌∙◌, append-nil}
use Rattle.pb_outside.specs.declared.shelf.Load.TheVariants.{Failed}
use Rattle.pb_outside.specs.Calls.{Call, Put}
use Rattle.pb_command.specs.Meaning.{Reading}
use Rattle.pb_answer.specs.Answer.{Said}
use Rattle.pb_answer.specs.Parts.{AnswerPart}
use Rattle.pb_run.specs.Asked.{files_of}
use Rattle.pb_run.specs.Calls.{load_calls, SaveAll, FailToSaveAll}
use Rattle.pb_run.specs.Answers.{AnswersReading}
use Rattle.pb_answer.specs.FallingRuns.{part_of}
use Rattle.pb_run.specs.Parted.{asks_one_part, AreDecided}
use Rattle.pb_run.specs.Handing.{HandsOutAll, FailsInSaves, FailsInPuts, FailsInOnePut, HandsOutParts}
use Rattle.pb_run.specs.AtOnce.{SavesThenPuts, OnePartIsHandedOutAtOnce}
use Rattle.pb_run.proofs.Parted.{all_are_one, none_are_first}
use Rattle.pb_run.proofs.Handed.{none_before}

-- ---- the calls of one part

module _ (said : Said) (saves sink : List Call) where
  all_of : HandsOutAll (part_of said ∷ []) saves sink → SaveAll saves said.outputs × (sink ≡ Put said.report ∷ [])
  all_of (saves', sink', one, (no_saves, no_sink)) =
      let own_is : saves ≡ one.own = one.saves_are ∙ ap (λ (calls : List Call). one.own ++ calls) no_saves ∙ append-nil one.own in (
        subst (λ (calls : List Call). SaveAll calls said.outputs) (sym own_is) one.saved,
        one.sink_is ∙ ap (λ (calls : List Call). Put said.report ∷ calls) no_sink,
      )

  unsaved_of : FailsInSaves (part_of said ∷ []) saves sink → FailToSaveAll saves said.outputs × (sink ≡ [])
  unsaved_of (inl failed) = failed
  unsaved_of (inr (saves', sink', one, more)) = absurd more

  unput_of : FailsInPuts (part_of said ∷ []) saves sink → SaveAll saves said.outputs × FailsInOnePut said.report sink
  unput_of (inl failed) = failed
  unput_of (inr (saves', sink', one, more)) = absurd more

-- ---- of an answer that was handed out

module _ (reading : Reading) (one : asks_one_part reading ≡ true) (n looks : ℕ) (texts : List (List ℕ)) (parts : List AnswerPart) (saves sink : List Call) where
  abbrev AtOnce : Type 0
  AtOnce = (said : Said) × AnswersReading reading texts said × (looks ≡ said.looks) × SavesThenPuts said n saves sink

  unsaved_at_once : n ≡ 73 → AreDecided reading texts looks parts → FailsInSaves parts saves sink → AtOnce
  unsaved_at_once is (inl (said, answers, are, counted)) fails =
      let failed = unsaved_of said saves sink (subst (λ (ps : List AnswerPart). FailsInSaves ps saves sink) (all_are_one reading texts said parts one are) fails) in
      (said, answers, counted, inr (inl (is, failed.0, failed.1)))
  unsaved_at_once is (inr first) fails = absurd (subst (λ (ps : List AnswerPart). FailsInSaves ps saves sink) (none_are_first reading texts parts one first) fails)

  unput_at_once : n ≡ 74 → AreDecided reading texts looks parts → FailsInPuts parts saves sink → AtOnce
  unput_at_once is (inl (said, answers, are, counted)) fails =
      let failed = unput_of said saves sink (subst (λ (ps : List AnswerPart). FailsInPuts ps saves sink) (all_are_one reading texts said parts one are) fails) in
      (said, answers, counted, inr (inr (is, failed.0, failed.1)))
  unput_at_once is (inr first) fails = absurd (subst (λ (ps : List AnswerPart). FailsInPuts ps saves sink) (none_are_first reading texts parts one first) fails)

  at_once_by : HandsOutParts reading texts parts n looks saves sink → AtOnce
  at_once_by (inl h) =
      let all = all_of h.said saves sink (subst (λ (ps : List AnswerPart). HandsOutAll ps saves sink) (all_are_one reading texts h.said parts one h.parts_are) h.hands) in
      (h.said, h.answers, h.looks_is, inl (h.status_is, all.0, all.1))
  at_once_by (inr (inl f)) = unsaved_at_once f.status_is f.decided f.hands
  at_once_by (inr (inr f)) = unput_at_once f.status_is f.decided f.hands

pub at_once : OnePartIsHandedOutAtOnce
at_once reading n looks shelf sink one (inl out) =
    let none = none_before reading one out.texts out.parts out.saves sink out.parts_are out.hands in
    (out.texts, out.unloaded, out.saves, out.shelf_is, inl (inl (out.status_is, out.few, out.no_fault), none.0, none.1))
at_once reading n looks shelf sink one (inr (inl failed)) = (
  failed.texts,
  Some Failed,
  [],
  failed.shelf_is ∙ sym (append-nil (load_calls (files_of reading) failed.texts (Some Failed))),
  inl (inr (failed.status_is, failed.few, refl), refl, failed.sink_is),
)
at_once reading n looks shelf sink one (inr (inr a)) =
    (a.texts, a.unloaded, a.saves, a.shelf_is, inr (a.ends, at_once_by reading one n looks a.texts a.parts a.saves sink a.hands))
