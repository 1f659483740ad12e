-- Under which names the certificates of a search with falling weights are saved. `pb_run` cites this
-- module.
use Rattle.std.proofs.Common.{◌≡◌, ◌⊎◌, inl, inr, ◌≤◌, ◌+◌, ℕ, zero, suc, Option, None, Some, List, [], ◌∷◌, ◌++◌, length, map, option_map, refl, sym, ap, ◌∙◌, subst, arith}
use Rattle.pb_model.specs.Weight.{Weight}
use Rattle.pb_model.specs.Guide.{Guide}
use Rattle.pb_model.specs.Store.{Store}
use Rattle.pb_model.specs.Plan.{Plan}
use Rattle.pb_machine.specs.Machine.{Machine}
use Rattle.pb_task.specs.declared.parts.TaskParts.{TaskParts}
use Rattle.pb_estimate.specs.Choices.{Choice}
use Rattle.pb_abstract.specs.Graph.{AbstractGraph}
use Rattle.pb_falling.specs.Falling.{Claim}
use Rattle.pb_command.specs.Meaning.{SolveMeaning}
use Rattle.pb_answer.specs.Outputs.{Output, output}
use Rattle.pb_answer.specs.Claims.{IsCertificate}
use Rattle.pb_answer.specs.Answer.{Said}
use Rattle.pb_answer.specs.Parts.{AnswerPart, outputs_of}
use Rattle.pb_answer.specs.Falling.{numbered, SaysClaim, SayClaims, SaysNone, IsProvedCheapest, IsFallingNone, IsFallingStop, AreClaimParts, IsFallingFound}
use Rattle.pb_answer.specs.FallingRuns.{FallingValue, claim_now, IsFalling, part_of, SaysNow}

-- the names of files, in order
abbrev pub names_of : List Output → List (List ℕ)
names_of outputs = map (λ (file : Output). file.name) outputs

-- the names of the certificates of so many runs, from that of this number on, if a name is given
abbrev pub run_names : Option (List ℕ) → (run runs : ℕ) → List (List ℕ)
run_names None run runs = []
run_names (Some name) run zero = []
run_names (Some name) run (suc runs) = numbered name run ∷ run_names (Some name) (suc run) runs

-- the one file of a run, with the number of the run in its name, or none if no name is given
abbrev pub IsFileOfRun : Option (List ℕ) → (run : ℕ) → List Output → Type 0
IsFileOfRun None run outputs = outputs ≡ []
IsFileOfRun (Some name) run outputs = (text : List ℕ) × (outputs ≡ output (numbered name run) text ∷ [])

-- ---- of one part

certificate_file : (name : Option (List ℕ)) (run : ℕ) (parts : TaskParts) (choice : Choice) (weight : Weight) (guide : Guide) (store : Store) (plan : Option Plan) (outputs : List Output)
    → IsCertificate (option_map (λ n. numbered n run) name) parts choice weight guide store plan outputs → IsFileOfRun name run outputs
certificate_file None run parts choice weight guide store plan outputs is = is
certificate_file (Some name) run parts choice weight guide store plan outputs (text, is, saved) = (text, saved)

pub claim_file : (solve : SolveMeaning) (parts : TaskParts) (abstraction : AbstractGraph) (choice : Choice) (steps run : ℕ) (claim : Claim) (part : AnswerPart)
    → SaysClaim solve parts abstraction choice steps run claim part → IsFileOfRun solve.certificate run part.outputs
claim_file solve parts abstraction choice steps run claim part says = certificate_file solve.certificate run parts _ _ _ _ _ part.outputs says.outputs

pub none_file : (solve : SolveMeaning) (parts : TaskParts) (abstraction : AbstractGraph) (choice : Choice) (steps : ℕ) (part : AnswerPart)
    → SaysNone solve parts abstraction choice steps part → IsFileOfRun solve.certificate 0 part.outputs
none_file solve parts abstraction choice steps part says = certificate_file solve.certificate 0 parts _ _ _ _ _ part.outputs says.4

-- ---- of what is handed out after a run

-- nothing is saved, or one file with the number of the run in its name
abbrev pub SavesAtMost : Option (List ℕ) → (run : ℕ) → List Output → Type 0
SavesAtMost given run outputs =
    (outputs ≡ []) ⊎ ((name : List ℕ) × (text : List ℕ) × (given ≡ Some name) × (outputs ≡ output (numbered name run) text ∷ []))

saves_at_most : (given : Option (List ℕ)) (run : ℕ) (outputs : List Output) → IsFileOfRun given run outputs → SavesAtMost given run outputs
saves_at_most None run outputs is = inl is
saves_at_most (Some name) run outputs (text, is) = inr (name, text, refl, is)

module _ (before : List Claim) (machine : Machine) (search : FallingValue) (f : IsFalling before machine search) (said : Said) where
  -- at most the one file of the run is saved
  pub now_saves : SaysNow before machine search said → SavesAtMost search.solve.certificate search.run said.outputs
  now_saves (inl (plan, is, status, says, falling)) =
      saves_at_most search.solve.certificate search.run said.outputs (claim_file search.solve search.parts search.graph.table.abstraction search.graph.choice search.steps search.run (claim_now search machine plan) (part_of said) says)
  now_saves (inr (inl (none, first, status, says))) =
      let run : search.run ≡ 0 = sym f.count ∙ ap (λ (c : List Claim). length c) first in
      subst (λ n. SavesAtMost search.solve.certificate n said.outputs) (sym run)
      (saves_at_most search.solve.certificate 0 said.outputs (none_file search.solve search.parts search.graph.table.abstraction search.graph.choice search.steps (part_of said) says))
  now_saves (inr (inr (none, status, says, falling))) = inl says.2

  -- the status is that of a claim, of no plan or of a stop
  pub now_status : SaysNow before machine search said → (said.status ≡ 0) ⊎ ((said.status ≡ 1) ⊎ (said.status ≡ 2))
  now_status (inl (plan, is, status, says, falling)) = inl status
  now_status (inr (inl (none, first, status, says))) = inr (inl status)
  now_status (inr (inr (none, status, says, falling))) = inr (inr status)

-- ---- of all parts

-- the names of a run's file come before those of later runs
one_more_run : (given : Option (List ℕ)) (run runs : ℕ) (outputs rest : List Output) → IsFileOfRun given run outputs → names_of rest ≡ run_names given (suc run) runs
    → names_of (outputs ++ rest) ≡ run_names given run (suc runs)
one_more_run None run runs outputs rest is names = ap (λ (o : List Output). names_of (o ++ rest)) is ∙ names
one_more_run (Some name) run runs outputs rest (text, is) names =
    ap (λ (o : List Output). names_of (o ++ rest)) is ∙ ap (λ (n : List (List ℕ)). numbered name run ∷ n) names

no_runs : (given : Option (List ℕ)) (run : ℕ) → run_names given run 0 ≡ []
no_runs None run = refl
no_runs (Some name) run = refl

-- claims have the names of their runs
pub claims_names : (solve : SolveMeaning) (parts : TaskParts) (abstraction : AbstractGraph) (choice : Choice) (steps run : ℕ) (claims : List Claim) (handed_out : List AnswerPart)
    → SayClaims solve parts abstraction choice steps run claims handed_out → names_of (outputs_of handed_out) ≡ run_names solve.certificate run (length claims)
claims_names solve parts abstraction choice steps run [] [] say = sym (no_runs solve.certificate run)
claims_names solve parts abstraction choice steps run [] (part ∷ rest) say = absurd say
claims_names solve parts abstraction choice steps run (claim ∷ claims) [] say = absurd say
claims_names solve parts abstraction choice steps run (claim ∷ claims) (part ∷ rest) say =
    let next : run + 1 ≡ suc run = omega arith in
    one_more_run solve.certificate run (length claims) part.outputs (outputs_of rest) (claim_file solve parts abstraction choice steps run claim part say.0)
    (claims_names solve parts abstraction choice steps (run + 1) claims rest say.1 ∙ ap (λ n. run_names solve.certificate n (length claims)) next)

-- a part without files changes nothing
without_last : (said : List AnswerPart) (last : AnswerPart) → last.outputs ≡ [] → outputs_of (said ++ last ∷ []) ≡ outputs_of said
without_last [] last none = ap (λ (o : List Output). o ++ []) none
without_last (part ∷ said) last none = ap (λ (o : List Output). part.outputs ++ o) (without_last said last none)

-- the files are those of so many first runs
abbrev pub AreOfFirstRuns : SolveMeaning → (steps : ℕ) → List Output → Type 0
AreOfFirstRuns solve steps outputs = (runs : ℕ) × (runs ≤ steps + 1) × (names_of outputs ≡ run_names solve.certificate 0 runs)

module _ (solve : SolveMeaning) (choice : Choice) (parts : TaskParts) (steps : ℕ) where
  pub names_of_first : (handed_out : List AnswerPart) → AreClaimParts solve choice parts steps handed_out → AreOfFirstRuns solve steps (outputs_of handed_out)
  names_of_first handed_out first = (length first.claims, first.falling.few, claims_names solve parts first.abstraction choice steps 0 first.claims handed_out first.say)

  names_of_cheapest : (abstraction : AbstractGraph) (handed_out : List AnswerPart) → IsProvedCheapest solve parts abstraction choice steps handed_out → AreOfFirstRuns solve steps (outputs_of handed_out)
  names_of_cheapest abstraction handed_out (claims, last, falling, say, improvable, bound, cheapest) =
      (length (claims ++ last ∷ []), falling.few, claims_names solve parts abstraction choice steps 0 (claims ++ last ∷ []) handed_out say)

  names_of_none : (abstraction : AbstractGraph) (handed_out : List AnswerPart) → IsFallingNone solve parts abstraction choice steps handed_out → AreOfFirstRuns solve steps (outputs_of handed_out)
  names_of_none abstraction handed_out (part, says, is) =
      subst (λ (h : List AnswerPart). AreOfFirstRuns solve steps (outputs_of h)) (sym is)
      (1, omega arith, one_more_run solve.certificate 0 0 part.outputs [] (none_file solve parts abstraction choice steps part says) (sym (no_runs solve.certificate 1)))

  names_of_stop : (abstraction : AbstractGraph) (handed_out : List AnswerPart) → IsFallingStop solve parts abstraction choice steps handed_out → AreOfFirstRuns solve steps (outputs_of handed_out)
  names_of_stop abstraction handed_out (claims, said, last, falling, say, improvable, stops, is) =
      subst (λ (h : List AnswerPart). AreOfFirstRuns solve steps (outputs_of h)) (sym is) (
        length claims,
        falling.few,
        ap names_of (without_last said last stops.2) ∙ claims_names solve parts abstraction choice steps 0 claims said say,
      )

  pub names_of_found : (said : Said) (handed_out : List AnswerPart) → IsFallingFound solve choice parts steps said handed_out → AreOfFirstRuns solve steps (outputs_of handed_out)
  names_of_found said handed_out all = go all.found
    where
      go : ((said.status ≡ 0) × IsProvedCheapest solve parts all.abstraction choice steps handed_out)
          ⊎ (((said.status ≡ 1) × IsFallingNone solve parts all.abstraction choice steps handed_out)
          ⊎ ((said.status ≡ 2) × IsFallingStop solve parts all.abstraction choice steps handed_out)) → AreOfFirstRuns solve steps (outputs_of handed_out)
      go (inl (status, found)) = names_of_cheapest all.abstraction handed_out found
      go (inr (inl (status, found))) = names_of_none all.abstraction handed_out found
      go (inr (inr (status, found))) = names_of_stop all.abstraction handed_out found

  -- the status of all that is handed out
  pub found_status : (said : Said) (handed_out : List AnswerPart) → IsFallingFound solve choice parts steps said handed_out → (said.status ≡ 0) ⊎ ((said.status ≡ 1) ⊎ (said.status ≡ 2))
  found_status said handed_out all = go all.found
    where
      go : ((said.status ≡ 0) × IsProvedCheapest solve parts all.abstraction choice steps handed_out)
          ⊎ (((said.status ≡ 1) × IsFallingNone solve parts all.abstraction choice steps handed_out)
          ⊎ ((said.status ≡ 2) × IsFallingStop solve parts all.abstraction choice steps handed_out)) → (said.status ≡ 0) ⊎ ((said.status ≡ 1) ⊎ (said.status ≡ 2))
      go (inl found) = inl found.0
      go (inr (inl found)) = inr (inl found.0)
      go (inr (inr found)) = inr (inr found.0)
