-- What the program claims of a task, by the text that it prints and the certificate that it saves
-- or checks.
use Rattle.std.specs.Prelude.{◌≡◌, ℕ, ◌^◌, ◌<◌, Option, None, Some, List, [], ◌∷◌, ◌++◌, Ok, Err}
use Rattle.pb_model.specs.Weight.{Weight}
use Rattle.pb_model.specs.Guide.{Guide}
use Rattle.pb_model.specs.Store.{Store}
use Rattle.pb_model.specs.Plan.{Plan, IsPlan, NoneCheaper, IsBound}
use Rattle.pb_model.specs.Texts.{plan_report}
use Rattle.pb_machine.specs.declared.event.End.TheVariants.{Quiet, Budget}
use Rattle.pb_machine.specs.declared.event.Event.{Event}
use Rattle.pb_machine.specs.declared.settings.Settings.{Settings}
use Rattle.pb_task.specs.declared.parts.TaskParts.{TaskParts}
use Rattle.pb_task.specs.Parts.{space_of}
use Rattle.pb_estimate.specs.Choices.{Choice}
use Rattle.pb_journal.specs.Texts.{journal_text}
use Rattle.pb_check.specs.declared.fault.CertificateFault.{CertificateFault}
use Rattle.pb_check.specs.declared.fault.Verdict.{Verdict}
use Rattle.pb_check.specs.Judging.{checked}
use Rattle.pb_check.specs.Shown.{IsAccepted, ShowsClaim, VerdictHolds}
use Rattle.pb_cert.specs.Found.{IsCertificateOf}
use Rattle.pb_cert.specs.Rewritten.{rewritten_text}
use Rattle.pb_report.specs.Texts.{plan_text, verdict_text, fault_text}
use Rattle.pb_command.specs.Meaning.{SolveMeaning, CheckMeaning}
use Rattle.pb_answer.specs.Outputs.{Output, output}
use Rattle.pb_answer.specs.Searches.{settings_of, weight_asked}
use Rattle.pb_answer.specs.Engines.{engine_asked, Left, SearchLeaves, FindsIn}

-- ---- of a search

-- What is saved is the text of a certificate of the task, if it has a name, and else nothing. The
-- certificate states the task's grounding and this choice of an estimate. It has the lines of all
-- rows of this store, and this plan, or none. It is valid by the stated estimate, and its text is
-- accepted.
abbrev pub IsCertificate : (name : Option (List ℕ)) → TaskParts → Choice → Weight → Guide → Store
    → Option Plan → List Output → Type 0
IsCertificate None parts choice weight guide store plan outputs = outputs ≡ []
IsCertificate (Some name) parts choice weight guide store plan outputs =
    (text : List ℕ) × IsCertificateOf parts choice weight guide store plan text
    × (outputs ≡ output name text ∷ [])

-- the text of a journal of these settings and events, if it has a name
abbrev pub journal_outputs : (name : Option (List ℕ)) → Settings → List Event → List Output
journal_outputs None settings journal = []
journal_outputs (Some name) settings journal = output name (journal_text settings journal) ∷ []

-- the same, if the engine keeps a journal
abbrev pub journal_outputs_if_any : (name : Option (List ℕ)) → Settings → Option (List Event)
    → List Output
journal_outputs_if_any name settings None = []
journal_outputs_if_any name settings (Some journal) = journal_outputs name settings journal

-- A search of the task, as the words ask for it, came to a quiet end. It found this plan, which is
-- the one that its rows lead to, or it found none. What is saved is its certificate and, after
-- that, its journal, each if it has a name. The search went by this choice of an estimate, and the
-- certificate states it.
abbrev pub Certifies : (saves : List Output → Type 0) → SolveMeaning → Choice → TaskParts
    → Option Plan → Type 0
Certifies saves solve choice parts plan =
    (left : Left)
    × SearchLeaves (engine_asked solve) parts choice (settings_of solve) Quiet left
    × FindsIn (space_of parts) left plan
    × (outputs : List Output)
    × IsCertificate solve.certificate parts choice (weight_asked solve) left.guide left.store plan
    outputs
    × saves (outputs ++ journal_outputs_if_any solve.journal (settings_of solve) left.journal)

-- A search of the task, as the words ask for it and by this choice of an estimate, came to the end
-- of its budget. What is saved is its journal, if it has a name.
abbrev pub Stops : (saves : List Output → Type 0) → SolveMeaning → Choice → TaskParts → Type 0
Stops saves solve choice parts =
    (left : Left)
    × SearchLeaves (engine_asked solve) parts choice (settings_of solve) Budget left
    × saves (journal_outputs_if_any solve.journal (settings_of solve) left.journal)

-- All of one plan: it is printed with its cost and bound and is a plan of the task. Its cost is at
-- most num / den times that of any plan, at the weight num / den. The rows of a search as the words
-- ask for it, by this choice of an estimate, lead to it, and it is saved in the certificate of that
-- search. Its cost is a number of 64 bits.
abbrev pub Solves : (says : List ℕ → Type 0) → (saves : List Output → Type 0) → SolveMeaning
    → Choice → TaskParts → Type 0
Solves says saves solve choice parts =
    (plan : Plan) × (bound : ℕ) × says (plan_text parts plan bound) × IsPlan (space_of parts) plan
    × IsBound (weight_asked solve) plan.cost bound
    × NoneCheaper (space_of parts) (weight_asked solve) plan.cost
    × Certifies saves solve choice parts (Some plan) × (plan.cost < 2 ^ 64)

-- A plan of the task is printed, with its cost and bound.
abbrev pub PrintsPlan : (says : List ℕ → Type 0) → TaskParts → Weight → Type 0
PrintsPlan says parts weight =
    (plan : Plan) × (bound : ℕ) × says (plan_text parts plan bound) × IsPlan (space_of parts) plan
    × IsBound weight plan.cost bound

-- The cost that is printed is at most num / den times that of any plan of the task, at the weight
-- num / den. For every plan of cost f, den * cost <= num * f.
abbrev pub PrintsLeastCost : (says : List ℕ → Type 0) → TaskParts → Weight → Type 0
PrintsLeastCost says parts weight =
    (steps : List (List ℕ)) (cost bound : ℕ) → cost < 2 ^ 64 → says (plan_report steps cost bound)
    → NoneCheaper (space_of parts) weight cost

-- The saved certificate is that of the search and is accepted, and its plan is the one that is
-- printed.
abbrev pub SavesPlan : (says : List ℕ → Type 0) → (saves : List Output → Type 0) → SolveMeaning
    → Choice → TaskParts → Type 0
SavesPlan says saves solve choice parts =
    (plan : Plan) (bound : ℕ) → IsPlan (space_of parts) plan → plan.cost < 2 ^ 64
    → says (plan_text parts plan bound) → Certifies saves solve choice parts (Some plan)

-- ---- of a certificate that is checked

-- this text, if it has a name
abbrev pub text_outputs : (name : Option (List ℕ)) → (text : List ℕ) → List Output
text_outputs None text = []
text_outputs (Some name) text = output name text ∷ []

-- what is saved of an accepted certificate, if it is to be saved anew: the same certificate, one of
-- version 1 in version 2
abbrev pub rewritten_outputs : CheckMeaning → TaskParts → (certificate : List ℕ) → List Output
rewritten_outputs check parts certificate =
    text_outputs check.rewrite (rewritten_text parts certificate)

-- The text is that of a valid certificate of the task, its verdict is printed, and what the
-- certificate claims is true of the task. Every plan of a cost f has num * f >= den * C, for the
-- certificate's cost C and its weight num / den; or there is no plan.
abbrev pub Accepts : (says : List ℕ → Type 0) → TaskParts → (certificate : List ℕ) → Type 0
Accepts says parts certificate =
    (verdict : Verdict) × says (verdict_text verdict)
    × (checked parts certificate ≡ Ok verdict)
    × IsAccepted parts certificate verdict
    × ShowsClaim parts certificate verdict
    × VerdictHolds (space_of parts) verdict

-- The text is that of no valid certificate of the task, and its first fault is printed.
abbrev pub Rejects : (says : List ℕ → Type 0) → TaskParts → (certificate : List ℕ) → Type 0
Rejects says parts certificate =
    (fault : CertificateFault) × says (fault_text fault)
    × (checked parts certificate ≡ Err fault)
    × ((verdict : Verdict) → IsAccepted parts
    certificate verdict → ⊥)
