-- All that is handed out of a search with falling weights, from what is handed out after each run.
use Rattle.std.proofs.Common.{◌≡◌, ◌⊎◌, inl, inr, ◌≤◌, ◌+◌, ℕ, Option, Some, List, [], ◌∷◌, ◌++◌, length, refl, ap, ◌∙◌, subst, arith}
use Rattle.std.specs.List.{AllByRecursion}
use Rattle.pb_model.specs.Plan.{Plan, IsPlan, NoneCheaper, IsBound}
use Rattle.pb_machine.specs.Machine.{Machine}
use Rattle.pb_task.specs.declared.parts.TaskParts.{TaskParts}
use Rattle.pb_task.specs.Parts.{space_of}
use Rattle.pb_estimate.specs.Choices.{Choice}
use Rattle.pb_abstract.specs.Graph.{AbstractGraph}
use Rattle.pb_falling.specs.Falling.{Claim}
use Rattle.pb_command.specs.Meaning.{SolveMeaning}
use Rattle.pb_answer.specs.Answer.{Said}
use Rattle.pb_answer.specs.Parts.{AnswerPart, outputs_of, report_of}
use Rattle.pb_answer.specs.Falling.{SaysClaim, SayClaims, IsProvedCheapest, IsFallingNone, IsFallingStop, IsFallingFound}
use Rattle.pb_answer.specs.FallingRuns.{FallingValue, weight_now, claim_now, IsFalling, IsLastAt, IsLast, part_of, SaysNow}

-- one more claim is handed out
pub say_more : (solve : SolveMeaning) (parts : TaskParts) (abstraction : AbstractGraph) (choice : Choice) (steps run : ℕ) (claims : List Claim) (handed_out : List AnswerPart) (claim : Claim) (part : AnswerPart)
    → SayClaims solve parts abstraction choice steps run claims handed_out → SaysClaim solve parts abstraction choice steps (run + length claims) claim part
    → SayClaims solve parts abstraction choice steps run (claims ++ claim ∷ []) (handed_out ++ part ∷ [])
say_more solve parts abstraction choice steps run [] [] claim part say says = (subst (λ n. SaysClaim solve parts abstraction choice steps n claim part) (let same : run + 0 ≡ run = omega arith in same) says, tt)
say_more solve parts abstraction choice steps run [] (first ∷ rest) claim part say says = absurd say
say_more solve parts abstraction choice steps run (one ∷ claims) [] claim part say says = absurd say
say_more solve parts abstraction choice steps run (one ∷ claims) (first ∷ rest) claim part say says = (
  say.0,
  say_more solve parts abstraction choice steps (run + 1) claims rest claim part say.1
      (subst (λ n. SaysClaim solve parts abstraction choice steps n claim part) (let same : run + length (one ∷ claims) ≡ (run + 1) + length claims = omega arith in same) says),
)

-- of no claims nothing is handed out
say_nothing : (solve : SolveMeaning) (parts : TaskParts) (abstraction : AbstractGraph) (choice : Choice) (steps run : ℕ) (handed_out : List AnswerPart) → SayClaims solve parts abstraction choice steps run [] handed_out → handed_out ≡ []
say_nothing solve parts abstraction choice steps run [] say = refl
say_nothing solve parts abstraction choice steps run (first ∷ rest) say = absurd say

-- what holds of all holds of the last one
holds_of_last : (P : Claim → Type 0) (claims : List Claim) (last : Claim) → AllByRecursion P (claims ++ last ∷ []) → P last
holds_of_last P [] last all = all.0
holds_of_last P (claim ∷ claims) last all = holds_of_last P claims last all.1

module _ (before : List Claim) (machine : Machine) (search : FallingValue) (f : IsFalling before machine search) (handed_out : List AnswerPart)
    (say : SayClaims search.solve search.parts search.graph.table.abstraction search.graph.choice search.steps 0 before handed_out) where
  -- the claim after the run is one more
  pub claim_handed_out : (plan : Plan) (part : AnswerPart) → SaysClaim search.solve search.parts search.graph.table.abstraction search.graph.choice search.steps search.run (claim_now search machine plan) part
      → SayClaims search.solve search.parts search.graph.table.abstraction search.graph.choice search.steps 0 (before ++ claim_now search machine plan ∷ []) (handed_out ++ part ∷ [])
  claim_handed_out plan part says =
      let count : search.run ≡ 0 + length before = omega (arith, f.count) in
      say_more search.solve search.parts search.graph.table.abstraction search.graph.choice search.steps 0 before handed_out (claim_now search machine plan) part say
      (subst (λ n. SaysClaim search.solve search.parts search.graph.table.abstraction search.graph.choice search.steps n (claim_now search machine plan) part) count says)

  -- what is handed out last makes all of it
  pub all_found : (said : Said) → SaysNow before machine search said → IsLast search → (all : Said) → all.status ≡ said.status
      → all.report ≡ report_of (handed_out ++ part_of said ∷ []) → all.outputs ≡ outputs_of (handed_out ++ part_of said ∷ [])
      → IsFallingFound search.solve search.graph.choice search.parts search.steps all (handed_out ++ part_of said ∷ [])
  all_found said now last all status report outputs = record {
    report = report;
    outputs = outputs;
    abstraction = search.graph.table.abstraction;
    graph_of = f.graph_of;
    finest = f.finest;
    found = go now;
  }
    where
      bound : (plan : Plan) → search.plan ≡ Some plan → IsBound (weight_now search) plan.cost plan.cost
      bound plan is = subst (λ (p : Option Plan). IsLastAt (weight_now search) p) is last

      cheapest : (plan : Plan) → search.plan ≡ Some plan → NoneCheaper (space_of search.parts) (weight_now search) plan.cost → (other : Plan) → IsPlan (space_of search.parts) other → plan.cost ≤ other.cost
      cheapest plan is none other a_plan = (bound plan is).least other.cost (none other a_plan)

      go : SaysNow before machine search said
          → ((all.status ≡ 0) × IsProvedCheapest search.solve search.parts search.graph.table.abstraction search.graph.choice search.steps (handed_out ++ part_of said ∷ []))
          ⊎ (((all.status ≡ 1) × IsFallingNone search.solve search.parts search.graph.table.abstraction search.graph.choice search.steps (handed_out ++ part_of said ∷ []))
          ⊎ ((all.status ≡ 2) × IsFallingStop search.solve search.parts search.graph.table.abstraction search.graph.choice search.steps (handed_out ++ part_of said ∷ [])))
      go (inl (plan, is, succeeds, says, falling)) =
          inl (
            status ∙ succeeds,
            (
              before,
              claim_now search machine plan,
              falling,
              claim_handed_out plan (part_of said) says,
              f.improvable,
              bound plan is,
              cheapest plan is (holds_of_last (λ c. IsPlan (space_of search.parts) c.plan × NoneCheaper (space_of search.parts) c.weight c.plan.cost) before (claim_now search machine plan) falling.hold).1,
            ),
          )
      go (inr (inl (none, first, fails, says))) =
          let nothing = say_nothing search.solve search.parts search.graph.table.abstraction search.graph.choice search.steps 0 handed_out
          (subst (λ (c : List Claim). SayClaims search.solve search.parts search.graph.table.abstraction search.graph.choice search.steps 0 c handed_out) first say) in
          inr (inl (status ∙ fails, (part_of said, says, ap (λ (h : List AnswerPart). h ++ part_of said ∷ []) nothing)))
      go (inr (inr (none, stops, says, falling))) = inr (inr (status ∙ stops, (before, handed_out, part_of said, falling, say, f.improvable, says, refl)))
