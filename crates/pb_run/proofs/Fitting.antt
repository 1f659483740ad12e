-- Parts that fit: what the shelf can hold, and what the sink can take.
use Rattle.std.proofs.Common.{◌≡◌, inl, inr, ℕ, ◌+◌, true, List, [], ◌∷◌, ◌++◌, length, refl, sym, ap, subst, ◌∙◌, arith, append_assoc, append-nil}
use Rattle.std.proofs.lemmas.List.{length-append}
use Rattle.pb_outside.specs.Outside.{KeepsHolds}
use Rattle.pb_outside.specs.Calls.{KeepsTakes}
use Rattle.pb_command.specs.Meaning.{Reading}
use Rattle.pb_answer.specs.Outputs.{Output}
use Rattle.pb_answer.specs.Answer.{Said}
use Rattle.pb_answer.specs.Parts.{AnswerPart, outputs_of, report_of}
use Rattle.pb_run.specs.Calls.{CanHold}
use Rattle.pb_run.specs.Answers.{AnswersReading}
use Rattle.pb_answer.specs.FallingRuns.{part_of}
use Rattle.pb_run.specs.Parted.{asks_one_part, AreDecided}
use Rattle.pb_run.specs.Served.{CanTakeAll, PartsFit, CanHandOut}
use Rattle.pb_run.specs.PartByPart.{StillFits}
use Rattle.pb_run.proofs.Parted.{all_are_one, none_are_first}
use Rattle.pb_run.proofs.Saving.{holds_first, holds_more}

-- ---- parts one after another

pub outputs_joined : (parts more : List AnswerPart) → outputs_of (parts ++ more) ≡ outputs_of parts ++ outputs_of more
outputs_joined [] more = refl
outputs_joined (part ∷ parts) more = ap (λ (os : List Output). part.outputs ++ os) (outputs_joined parts more) ∙ sym (append_assoc part.outputs (outputs_of parts) (outputs_of more))

pub report_joined : (parts more : List AnswerPart) → report_of (parts ++ more) ≡ report_of parts ++ report_of more
report_joined [] more = refl
report_joined (part ∷ parts) more = ap (λ (text : List ℕ). part.report ++ text) (report_joined parts more) ∙ sym (append_assoc part.report (report_of parts) (report_of more))

-- ---- the promises of shelf and sink as they go on

pub still_held : (before now : List ℕ → ℕ → Type 0) → KeepsHolds before now → (outputs : List Output) → CanHold before outputs → CanHold now outputs
still_held before now keeps [] h = tt
still_held before now keeps (first ∷ outputs) h = (keeps first.name (length first.text) h.0, still_held before now keeps outputs h.1)

pub takes_then : (old between new : ℕ → Type 0) (first second : ℕ) → KeepsTakes old between first → KeepsTakes between new second → KeepsTakes old new (first + second)
takes_then old between new first second keeps then = λ n h.
    let joined : (first + second) + n ≡ first + (second + n) = omega arith in
    then n (keeps (second + n) (subst old joined h))

-- ---- one part

module _ (can_hold : List ℕ → ℕ → Type 0) (can_take : ℕ → Type 0) (said : Said) where
  pub whole_fits : CanHold can_hold said.outputs × can_take (length said.report) → PartsFit can_hold can_take (part_of said ∷ [])
  whole_fits (holds, takes) = record {
    held = subst (λ (os : List Output). CanHold can_hold os) (sym (append-nil said.outputs)) holds;
    taken = (takes, tt);
  }

  pub fits_whole : PartsFit can_hold can_take (part_of said ∷ []) → CanHold can_hold said.outputs × can_take (length said.report)
  fits_whole fit = (subst (λ (os : List Output). CanHold can_hold os) (append-nil said.outputs) fit.held, fit.taken.0)

pub one_part_fits : (reading : Reading) (texts : List (List ℕ)) (can_hold : List ℕ → ℕ → Type 0) (can_take : ℕ → Type 0) → asks_one_part reading ≡ true
    → ((said : Said) → AnswersReading reading texts said → CanHold can_hold said.outputs × can_take (length said.report)) → CanHandOut reading texts can_hold can_take
one_part_fits reading texts can_hold can_take one fits looks = go
  where
    go : (parts : List AnswerPart) → AreDecided reading texts looks parts → PartsFit can_hold can_take parts
    go parts (inl (said, answers, are, counted)) = subst (λ (ps : List AnswerPart). PartsFit can_hold can_take ps) (sym (all_are_one reading texts said parts one are)) (whole_fits can_hold can_take said (fits said answers))
    go parts (inr first) = subst (λ (ps : List AnswerPart). PartsFit can_hold can_take ps) (sym (none_are_first reading texts parts one first)) (record { held = tt; taken = tt })

-- ---- the next part

taken_next : (can_take : ℕ → Type 0) (before : List ℕ) (parts : List AnswerPart) (part : AnswerPart) → CanTakeAll can_take before (parts ++ part ∷ [])
    → can_take (length ((before ++ report_of parts) ++ part.report))
taken_next can_take before [] part takes = subst (λ (text : List ℕ). can_take (length (text ++ part.report))) (sym (append-nil before)) takes.0
taken_next can_take before (first ∷ parts) part takes =
    subst (λ (text : List ℕ). can_take (length (text ++ part.report))) (append_assoc before first.report (report_of parts))
    (taken_next can_take (before ++ first.report) parts part takes.1)

-- after the parts before it, the shelf can hold the files of a part that fits, and the sink can take its piece
pub next_fits : (before now : List ℕ → ℕ → Type 0) (old new : ℕ → Type 0) (parts : List AnswerPart) (part : AnswerPart) → KeepsHolds before now
    → KeepsTakes old new (length (report_of parts)) → PartsFit before old (parts ++ part ∷ []) → CanHold now part.outputs × new (length part.report)
next_fits before now old new parts part holds takes fit =
    let all = subst (λ (os : List Output). CanHold before os) (outputs_joined parts (part ∷ [])) fit.held in
    let own = holds_first part.outputs [] before (holds_more (outputs_of parts) (part.outputs ++ []) before all) in (
      still_held before now holds part.outputs own,
      takes (length part.report) (subst old (length-append (report_of parts) part.report) (taken_next old [] parts part fit.taken)),
    )

-- ---- after one part more

module _ (first before now : List ℕ → ℕ → Type 0) (old between new : ℕ → Type 0) (parts : List AnswerPart) (part : AnswerPart) where
  pub still_fits : StillFits parts first before old between → KeepsHolds before now → KeepsTakes between new (length part.report) → StillFits (parts ++ part ∷ []) first now old new
  still_fits still holds takes =
      let whole : report_of (parts ++ part ∷ []) ≡ report_of parts ++ part.report =
      report_joined parts (part ∷ []) ∙ ap (λ (text : List ℕ). report_of parts ++ text) (append-nil part.report) in
      let long : length (report_of (parts ++ part ∷ [])) ≡ length (report_of parts) + length part.report = ap length whole ∙ length-append (report_of parts) part.report in
      record {
        holds = λ name n h. holds name n (still.holds name n h);
        takes = subst (λ (k : ℕ). KeepsTakes old new k) (sym long) (takes_then old between new (length (report_of parts)) (length part.report) still.takes takes);
      }

pub nothing_used : (can_hold : List ℕ → ℕ → Type 0) (can_take : ℕ → Type 0) → StillFits [] can_hold can_hold can_take can_take
nothing_used can_hold can_take = record { holds = λ name n h. h; takes = λ n h. subst can_take (none_more n) h }
  where
    none_more : (n : ℕ) → length (report_of []) + n ≡ n
    none_more n = omega arith

-- ---- what fits before the loads

pub parts_still_fit : (before now : List ℕ → ℕ → Type 0) (can_take : ℕ → Type 0) → KeepsHolds before now → (parts : List AnswerPart) → PartsFit before can_take parts → PartsFit now can_take parts
parts_still_fit before now can_take keeps parts fit = record { held = still_held before now keeps (outputs_of parts) fit.held; taken = fit.taken }
