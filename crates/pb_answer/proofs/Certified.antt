-- What a search shows that came to a quiet end is an answer to the words, whichever engine searched.
use Rattle.std.proofs.Common.{◌≡◌, ◌⊎◌, inl, inr, ℕ, ◌^◌, ◌<◌, ◌≤◌, true, Option, Some, None, List, [], ◌∷◌, length, Result, Ok, Err, IfOk, ◌++◌, refl, sym, ap, subst, arith, le_trans, mul-le-mul_left}
use Rattle.pb_model.specs.Weight.{Weight}
use Rattle.pb_model.specs.Store.{Store}
use Rattle.pb_model.specs.Plan.{Plan, NoneCheaper, IncumbentHolds, IsBound}
use Rattle.pb_model.specs.Certificate.{IsBackedBy}
use Rattle.pb_task.specs.declared.parts.TaskParts.{TaskParts}
use Rattle.pb_task.specs.Parts.{space_of, IsTask}
use Rattle.pb_tables.specs.Tables.{TablesValue}
use Rattle.pb_estimate.specs.Spelling.{IsSpelling, spelling_of}
use Rattle.pb_estimate.specs.Choices.{Choice}
use Rattle.pb_estimate.specs.Estimates.{suits}
use Rattle.pb_lists.specs.Store.{IsQuietEnd}
use Rattle.pb_cert.specs.Stated.{SpelledCertificate, text_of}
use Rattle.pb_cert.specs.Found.{IsPlanOf}
use Rattle.pb_cert.proofs.Callers as quiet
use Rattle.pb_command.specs.Meaning.{SolveMeaning, IsSolveInRange}
use Rattle.pb_report.specs.Texts.{plan_text}
use Rattle.pb_answer.specs.Searches.{weight_asked, IsChoiceAsked}
use Rattle.pb_answer.specs.Named.{NamesTell}
use Rattle.pb_answer.specs.Outputs.{Output, output}
use Rattle.pb_answer.specs.Claims.{IsCertificate, Certifies, Solves}
use Rattle.pb_answer.specs.Ended.{guide_by, left_with, LeavesQuietRows, CanBeCertified}
use Rattle.pb_answer.specs.declared.answer.Answer.{Answer}
use Rattle.pb_answer.specs.Answer.{Said, Says, Saves, IsSolved, IsUnsolvable, IsStopped, IsFound, IsFoundOf, said_of}
use Rattle.pb_answer.proofs.Groups.{prints_least_cost, saves_plan}

-- ---- what is saved of a certificate

module _ (solve : SolveMeaning) (parts : TaskParts) (choice : Choice) (homes : ℕ → ℕ)
    (store : Store) (end : IsQuietEnd (space_of parts) (guide_by parts choice homes) store)
    (weight : store.weight ≡ weight_asked solve) where
  -- a certificate that was made of the rows
  pub is_certificate : IsTask parts → IsSolveInRange solve → suits parts choice ≡ true
      → IsSpelling (spelling_of parts choice) → (c : SpelledCertificate)
      (plan : Option Plan) (name : List ℕ) → solve.certificate ≡ Some name
      → c.spelling ≡ spelling_of parts choice
      → c.certificate.weight ≡ store.weight → c.certificate.plan ≡ plan
      → length c.certificate.lines < 2 ^ 63
      → quiet.HasLines parts (guide_by parts choice homes) store end c
      → quiet.IsValidFor parts (guide_by parts choice homes) store end plan c
      → CanBeCertified parts store plan
      → IsCertificate solve.certificate parts choice (weight_asked solve)
      (guide_by parts choice homes) store plan (output name (text_of c) ∷ [])
  is_certificate lawful range suit known c plan name named spelling w p count lines valid stated =
      let num : solve.settings.num ≤ 1000 = range.settings.weight.small in
      let den : solve.settings.den ≤ solve.settings.num = range.settings.weight.at_least_one in
      subst (λ (n : Option (List ℕ)). IsCertificate n parts choice (weight_asked solve)
      (guide_by parts choice homes) store plan (output name (text_of c) ∷ []))
      (sym named) (
        text_of c,
        quiet.states_certificate parts (guide_by parts choice homes) store end lawful choice refl
            suit known (weight_asked solve) weight (omega (arith, num)) (omega (arith, num, den)) c plan
            (text_of c) refl spelling w p count lines valid stated.is_plan stated.backed
            stated.fits,
        refl,
      )

-- none, without a name
pub no_certificate : (solve : SolveMeaning) (parts : TaskParts) (choice : Choice) (homes : ℕ → ℕ)
    (store : Store) (plan : Option Plan) → solve.certificate ≡ None
    → IsCertificate solve.certificate parts choice (weight_asked solve)
    (guide_by parts choice homes) store plan []
no_certificate solve parts choice homes store plan named =
    subst (λ (n : Option (List ℕ)). IsCertificate n parts choice (weight_asked solve)
    (guide_by parts choice homes) store plan [])
    (sym named) refl

-- ---- the answer

module _ (solve : SolveMeaning) (parts : TaskParts) (choice : Choice) (homes : ℕ → ℕ)
    (store : Store) (journal : List Output)
    (left : LeavesQuietRows solve parts choice homes store journal) where
  -- a plan that the rows lead to, or none
  abbrev pub IsPlanOfRows : Option Plan → Type 0
  IsPlanOfRows plan = IsPlanOf parts (guide_by parts choice homes) store plan

  -- which its certificate can state
  pub can_be_stated : (plan : Option Plan) → IsPlanOfRows plan → CanBeCertified parts store plan
  can_be_stated plan best =
      record { is_plan = best.is_plan; backed = best.backed; fits = best.fits }

  pub holds : (incumbent : Option ℕ) → store.incumbent ≡ incumbent
      → IncumbentHolds (space_of parts) (weight_asked solve) incumbent
  holds incumbent known =
      subst (λ (o : Option ℕ). IncumbentHolds (space_of parts) (weight_asked solve) o) known
      (subst (λ (w : Weight). IncumbentHolds (space_of parts) w store.incumbent) left.weight
      left.end.holds)

  -- What is saved, with the journal behind it, is that of the search.
  pub certifies : (plan : Option Plan) (certificate : List Output) → IsPlanOfRows plan
      → IsCertificate solve.certificate parts choice (weight_asked solve)
      (guide_by parts choice homes) store plan certificate
      → Certifies (λ outputs. ◌≡◌ {A = List Output} (certificate ++ journal) outputs) solve choice parts plan
  certifies plan certificate best is = (
    left_with (guide_by parts choice homes) store left.journal,
    left.leaves,
    record { backed = best.backed; traced = best.traced },
    certificate,
    is,
    ap (λ (j : List Output). certificate ++ j) left.saved_is,
  )

  -- of a search that knows an incumbent
  pub solved : (lawful : IsTask parts) → NamesTell parts → (cost : ℕ)
      → store.incumbent ≡ Some cost → (plan : Plan) → IsPlanOfRows (Some plan) → (bound : ℕ)
      → IsBound (weight_asked solve) plan.cost bound → (said : Said) → said.status ≡ 0
      → said.report ≡ plan_text parts plan bound → plan.cost < 2 ^ 64
      → Certifies (Saves said) solve choice parts (Some plan)
      → IsSolved solve choice parts said
  solved lawful names cost known plan best bound bounded said status says fits_it saved =
      let weight = weight_asked solve in
      let within : plan.cost ≤ cost =
      subst (λ (o : Option ℕ). IsBackedBy o (Some plan)) known best.backed in
      let least : NoneCheaper (space_of parts) weight plan.cost =
      λ other other_is. le_trans (mul-le-mul_left weight.den within)
      ((holds (Some cost) known).1 other other_is) in
      let solves : Solves (Says said) (Saves said) solve choice parts = (
        plan,
        bound,
        says,
        best.is_plan,
        bounded,
        least,
        saved,
        fits_it,
      ) in (
        status,
        solves,
        prints_least_cost parts lawful names said.report (Saves said) solve choice solves,
        saves_plan parts lawful names said.report (Saves said) solve choice solves,
      )

-- what a quiet search of the task shows is an answer to the words
pub found : {E : Type 0} → (solve : SolveMeaning) (choice : Choice) (parts task : TaskParts)
    → parts ≡ task → (result : Result Answer E)
    → IfOk result (λ a. IsSolved solve choice parts (said_of a)
    ⊎ IsUnsolvable solve choice parts (said_of a))
    → IfOk result (λ a. IsFound solve choice task (said_of a))
found solve choice parts task same (Err e) h = tt
found solve choice parts task same (Ok a) (inl h) =
    inl (subst (λ (p : TaskParts). IsSolved solve choice p (said_of a)) same h)
found solve choice parts task same (Ok a) (inr h) =
    inr (inl (subst (λ (p : TaskParts). IsUnsolvable solve choice p (said_of a)) same h))

-- what a search that stopped shows is an answer to the words
pub stop_found : {E : Type 0} → (solve : SolveMeaning) (choice : Choice) (parts task : TaskParts)
    → parts ≡ task → (result : Result Answer E)
    → IfOk result (λ a. IsStopped solve choice parts (said_of a))
    → IfOk result (λ a. IsFound solve choice task (said_of a))
stop_found solve choice parts task same (Err e) h = tt
stop_found solve choice parts task same (Ok a) h =
    inr (inr (subst (λ (p : TaskParts). IsStopped solve choice p (said_of a)) same h))

-- what a search by a choice that the words ask for shows
pub found_by : {E : Type 0} → (solve : SolveMeaning) (read : TaskParts × Option TablesValue)
    (parts : TaskParts) → parts ≡ read.0 → (choice : Choice)
    → IsChoiceAsked solve read.1 parts choice → (result : Result Answer E)
    → IfOk result (λ a. IsFound solve choice parts (said_of a))
    → IfOk result (λ a. IsFoundOf solve read (said_of a))
found_by solve read parts same choice asked (Err e) h = tt
found_by solve read parts same choice asked (Ok a) h = (
  choice,
  subst (λ (p : TaskParts). IsChoiceAsked solve read.1 p choice) same asked,
  subst (λ (p : TaskParts). IsFound solve choice p (said_of a)) same h,
)
