-- What is promised of falling weights by the names of a domain and a problem, from what is promised of
-- their packed task.
use Rattle.std.proofs.Common.{◌≡◌, ◌⊎◌, inl, inr, ℕ, ◌+◌, ◌^◌, ◌<◌, ◌≤◌, List, [], ◌∷◌, ◌++◌, length, refl, sym, ap, subst, ◌∙◌, arith}
use Rattle.std.specs.List.{AllByRecursion}
use Rattle.pb_model.specs.Weight.{Weight}
use Rattle.pb_model.specs.Plan.{IsPlan as IsPackedPlan, NoneCheaper, HasNoPlan, IsBound}
use Rattle.pb_model.specs.Texts.{weight_text, stopped_report}
use Rattle.pb_task.specs.declared.parts.TaskParts.{TaskParts}
use Rattle.pb_task.specs.declared.parts.TaskParts.TheVariants as kinds
use Rattle.pb_task.specs.Parts.{space_of, action_name}
use Rattle.pb_pddl.specs.declared.tree.Domain.{Domain}
use Rattle.pb_pddl.specs.declared.tree.Problem.{Problem}
use Rattle.pb_lifted.specs.Plans.{IsPlan, plan_cost}
use Rattle.pb_task.specs.declared.grounding.Grounding.{Grounding}
use Rattle.pb_strips.specs.Grounding.{strips_with}
use Rattle.pb_command.specs.Meaning.{FallingMeaning}
use Rattle.pb_answer.specs.Named.{OfTrees, NoneCheaperByNames, HasNoNamedPlan}
use Rattle.pb_answer.proofs.Callers.{AreTask, texts_by_names, plan_by_names, none_below_by_names, no_named_plan}
use Rattle.pb_run.specs.Outcome.{Outcome}
use Rattle.pb_run.specs.Kinds.{weight_of_words}
use Rattle.pb_run.specs.FallingHeadline.{PrintedClaim, printed_text, claims_text, AreAtWeights, CostsNeverRise, AreClaimsOf, MayBeCheaper, IsRefusedInPart, IsStoppedInPart, FallingHolds}
use Rattle.pb_run.specs.FallingKinds.{PrintsClaims, PrintsInPart, PrintsCheapestLast, NamedClaim, named_text, named_claims_text, NamedAtWeights, NamedNeverRise, NamedMayBeCheaper, AreNamedClaims, PrintsNamedClaims, PrintsNamedInPart, PrintsNamedLast, FallingNamedHolds}
use Rattle.pb_run.proofs.FallingTold.{all_first, all_last}
use Rattle.pb_run.proofs.FallingByKind as kind

module _ (grounding : Grounding) (domain : Domain) (problem : Problem) (are : AreTask grounding domain problem) where
  abbrev task : TaskParts
  task = kinds.Strips (strips_with grounding domain problem)

  -- ---- a claim by names

  pub record IsNamed (claim : PrintedClaim) (named : NamedClaim) : Type 0 where
    pub weight : named.weight ≡ claim.weight
    pub cost : claim.plan.cost ≡ plan_cost domain problem named.actions
    pub bound : named.bound ≡ claim.bound
    pub text : printed_text (action_name task) claim ≡ named_text domain problem named
    pub is_plan : IsPlan domain problem named.actions
    pub bounded : IsBound named.weight (plan_cost domain problem named.actions) named.bound
    pub cheapest : NoneCheaperByNames domain problem named.weight (plan_cost domain problem named.actions)

  abbrev Holds : PrintedClaim → Type 0
  Holds claim = IsPackedPlan (space_of task) claim.plan × IsBound claim.weight claim.plan.cost claim.bound

  abbrev Least : PrintedClaim → Type 0
  Least claim = NoneCheaper (space_of task) claim.weight claim.plan.cost

  name_claim : (claim : PrintedClaim) → Holds claim → Least claim → (named : NamedClaim) × IsNamed claim named
  name_claim claim (is, bounded) least =
      let found = plan_by_names grounding domain problem are claim.weight claim.plan claim.bound is bounded least in (
        record { weight = claim.weight; actions = found.0; bound = claim.bound },
        record {
          weight = refl;
          cost = found.2;
          bound = refl;
          text = ap (λ (t : List ℕ). weight_text claim.weight ++ t) found.1;
          is_plan = found.3;
          bounded = found.4;
          cheapest = found.5;
        },
      )

  -- ---- claims by names

  abbrev AreNamed : List PrintedClaim → List NamedClaim → Type 0
  AreNamed [] [] = Unit {0}
  AreNamed [] (named ∷ others) = ⊥
  AreNamed (claim ∷ claims) [] = ⊥
  AreNamed (claim ∷ claims) (named ∷ others) = IsNamed claim named × AreNamed claims others

  name_claims : (claims : List PrintedClaim) → AllByRecursion Holds claims → AllByRecursion Least claims → (others : List NamedClaim) × AreNamed claims others
  name_claims [] holds least = ([], tt)
  name_claims (claim ∷ claims) holds least =
      let one = name_claim claim holds.0 least.0 in
      let more = name_claims claims holds.1 least.1 in
      (one.0 ∷ more.0, (one.1, more.1))

  joined : (claims more : List PrintedClaim) (others behind : List NamedClaim) → AreNamed claims others → AreNamed more behind → AreNamed (claims ++ more) (others ++ behind)
  joined [] more [] behind are also = also
  joined [] more (named ∷ others) behind are also = absurd are
  joined (claim ∷ claims) more [] behind are also = absurd are
  joined (claim ∷ claims) more (named ∷ others) behind (is, are) also = (is, joined claims more others behind are also)

  weights : (weight : Weight) (steps run : ℕ) (claims : List PrintedClaim) (others : List NamedClaim) → AreNamed claims others → AreAtWeights weight steps run claims → NamedAtWeights weight steps run others
  weights weight steps run [] [] are at = tt
  weights weight steps run [] (named ∷ others) are at = absurd are
  weights weight steps run (claim ∷ claims) [] are at = absurd are
  weights weight steps run (claim ∷ claims) (named ∷ others) (is, are) at = (is.weight ∙ at.0, weights weight steps (run + 1) claims others are at.1)

  count : (claims : List PrintedClaim) (others : List NamedClaim) → AreNamed claims others → length others ≡ length claims
  count [] [] are = refl
  count [] (named ∷ others) are = absurd are
  count (claim ∷ claims) [] are = absurd are
  count (claim ∷ claims) (named ∷ others) (is, are) = let same = count claims others are in omega (arith, same)

  every : (P : NamedClaim → Type 0) → ((claim : PrintedClaim) (named : NamedClaim) → IsNamed claim named → P named) → (claims : List PrintedClaim) (others : List NamedClaim) → AreNamed claims others → AllByRecursion P others
  every P f [] [] are = tt
  every P f [] (named ∷ others) are = absurd are
  every P f (claim ∷ claims) [] are = absurd are
  every P f (claim ∷ claims) (named ∷ others) (is, are) = (f claim named is, every P f claims others are)

  every_with : (Q : PrintedClaim → Type 0) (P : NamedClaim → Type 0) → ((claim : PrintedClaim) (named : NamedClaim) → IsNamed claim named → Q claim → P named)
      → (claims : List PrintedClaim) (others : List NamedClaim) → AreNamed claims others → AllByRecursion Q claims → AllByRecursion P others
  every_with Q P f [] [] are all = tt
  every_with Q P f [] (named ∷ others) are all = absurd are
  every_with Q P f (claim ∷ claims) [] are all = absurd are
  every_with Q P f (claim ∷ claims) (named ∷ others) (is, are) all = (f claim named is all.0, every_with Q P f claims others are all.1)

  falls : (claims : List PrintedClaim) (others : List NamedClaim) → AreNamed claims others → CostsNeverRise claims → NamedNeverRise domain problem others
  falls [] [] are fall = tt
  falls [] (named ∷ others) are fall = absurd are
  falls (claim ∷ claims) [] are fall = absurd are
  falls (claim ∷ []) (named ∷ []) are fall = tt
  falls (claim ∷ []) (named ∷ next ∷ others) (is, are) fall = absurd are
  falls (claim ∷ one ∷ claims) (named ∷ []) (is, are) fall = absurd are
  falls (claim ∷ one ∷ claims) (named ∷ next ∷ others) (is, (also, are)) fall =
      let below : one.plan.cost ≤ claim.plan.cost = fall.0 in
      let before = is.cost in
      let now = also.cost in
      (omega (arith, below, before, now), falls (one ∷ claims) (next ∷ others) (also, are) fall.1)

  texts : (claims : List PrintedClaim) (others : List NamedClaim) → AreNamed claims others → claims_text (action_name task) claims ≡ named_claims_text domain problem others
  texts [] [] are = refl
  texts [] (named ∷ others) are = absurd are
  texts (claim ∷ claims) [] are = absurd are
  texts (claim ∷ claims) (named ∷ others) (is, are) = λ i. is.text i ++ texts claims others are i

  are_named_claims : (weight : Weight) (steps : ℕ) (claims : List PrintedClaim) (others : List NamedClaim) → AreNamed claims others → AreClaimsOf (space_of task) weight steps claims
      → AreNamedClaims domain problem weight steps others
  are_named_claims weight steps claims others named of = record {
    weights = weights weight steps 0 claims others named of.weights;
    few = let same = count claims others named in omega (arith, same, of.few);
    plans = every (λ n. IsPlan domain problem n.actions × IsBound n.weight (plan_cost domain problem n.actions) n.bound) (λ claim n is. (is.is_plan, is.bounded)) claims others named;
    cheapest = every (λ n. NoneCheaperByNames domain problem n.weight (plan_cost domain problem n.actions)) (λ claim n is. is.cheapest) claims others named;
    fall = falls claims others named of.fall;
    fit = every_with (λ claim. claim.plan.cost < 2 ^ 64) (λ n. plan_cost domain problem n.actions < 2 ^ 64) (λ claim n is fits. subst (λ (c : ℕ). c < 2 ^ 64) is.cost fits)
        claims others named of.fit;
  }

  -- ---- what is printed

  pub named_claims : (report : List ℕ) (weight : Weight) (steps : ℕ) (rest : List ℕ) → PrintsClaims report (space_of task) (action_name task) weight steps rest → PrintsNamedClaims report weight steps rest domain problem
  named_claims report weight steps rest (claims, of, text) =
      let named = name_claims claims of.plans of.cheapest in (
        named.0,
        are_named_claims weight steps claims named.0 named.1 of,
        text ∙ ap (λ (t : List ℕ). t ++ rest) (texts claims named.0 named.1),
      )

  pub named_last : (report : List ℕ) (weight : Weight) (steps : ℕ) → PrintsCheapestLast report (space_of task) (action_name task) weight steps → PrintsNamedLast report weight steps domain problem
  named_last report weight steps (claims, last, of, text, improvable, proved, least) =
      let before = name_claims claims (all_first Holds claims (last ∷ []) of.plans) (all_first Least claims (last ∷ []) of.cheapest) in
      let final = name_claim last (all_last Holds claims last of.plans) (all_last Least claims last of.cheapest) in
      let named = joined claims (last ∷ []) before.0 (final.0 ∷ []) before.1 (final.1, tt) in
      let cost : last.plan.cost ≡ plan_cost domain problem final.0.actions = final.1.cost in (
        before.0,
        final.0,
        are_named_claims weight steps (claims ++ last ∷ []) (before.0 ++ final.0 ∷ []) named of,
        text ∙ texts (claims ++ last ∷ []) (before.0 ++ final.0 ∷ []) named,
        every_with MayBeCheaper (NamedMayBeCheaper domain problem) (λ claim n is more same. more (sym is.bound ∙ same ∙ sym is.cost)) claims before.0 before.1 improvable,
        final.1.bound ∙ proved ∙ cost,
        none_below_by_names grounding domain problem are (plan_cost domain problem final.0.actions)
            (λ other is. subst (λ (n : ℕ). n ≤ other.cost) cost (least other is)),
      )

  pub named_in_part : (report : List ℕ) (weight : Weight) (steps budget : ℕ) → PrintsInPart report (space_of task) (action_name task) weight steps budget
      → PrintsNamedInPart report weight steps budget domain problem
  named_in_part report weight steps budget (rest, inl claims) = (rest, inl (named_claims (report ++ rest) weight steps [] claims))
  named_in_part report weight steps budget (rest, inr (inl claims)) = (rest, inr (inl (named_claims (report ++ rest) weight steps (stopped_report budget) claims)))
  named_in_part report weight steps budget (rest, inr (inr (text, none))) = (rest, inr (inr (text, no_named_plan grounding domain problem are none)))

-- ---- of what the texts spell

-- what follows by names from what holds of the task that the texts spell
by_names : (falling : FallingMeaning) (it : Outcome) (P : TaskParts → Type 0) (Q : Domain → Problem → Type 0)
    → ((grounding : Grounding) (domain : Domain) (problem : Problem) → AreTask grounding domain problem → P (kinds.Strips (strips_with grounding domain problem)) → Q domain problem)
    → kind.Of falling it P → OfTrees falling.solve.input 0 it.texts Q
by_names falling it P Q f = texts_by_names it.texts (λ choice task. P task) Q (λ choice. f) falling.solve

pub named_holds : (falling : FallingMeaning) (it : Outcome) → FallingHolds falling it → FallingNamedHolds falling it
named_holds falling it holds = record {
  proved = λ e. by_names falling it (kind.Last falling it) (PrintsNamedLast it.said.report (weight_of_words falling.solve) falling.steps)
      (λ grounding domain problem are last. named_last grounding domain problem are it.said.report (weight_of_words falling.solve) falling.steps last)
      (kind.proved falling it holds e);
  none = λ e. by_names falling it (λ task. HasNoPlan (space_of task)) HasNoNamedPlan no_named_plan (kind.none falling it holds e);
  stopped = λ e. stop (kind.stopped falling it holds e);
  short = λ e. go (kind.short falling it holds e);
  unsaved = λ e. go (kind.unsaved falling it holds e);
  unprinted = λ e. part (kind.unprinted falling it holds e);
}
  where
    go : (it.said.report ≡ []) ⊎ kind.Of falling it (kind.Claims falling it [])
        → (it.said.report ≡ []) ⊎ OfTrees falling.solve.input 0 it.texts (PrintsNamedClaims it.said.report (weight_of_words falling.solve) falling.steps [])
    go (inl silent) = inl silent
    go (inr claims) = inr (by_names falling it (kind.Claims falling it []) (PrintsNamedClaims it.said.report (weight_of_words falling.solve) falling.steps [])
        (λ grounding domain problem are c. named_claims grounding domain problem are it.said.report (weight_of_words falling.solve) falling.steps [] c) claims)

    stop : kind.Of falling it (kind.Claims falling it (kind.budget_line falling it)) ⊎ kind.IsHalted falling it
        → OfTrees falling.solve.input 0 it.texts (PrintsNamedClaims it.said.report (weight_of_words falling.solve) falling.steps (kind.budget_line falling it)) ⊎ kind.IsHalted falling it
    stop (inl claims) = inl (by_names falling it (kind.Claims falling it (kind.budget_line falling it))
        (PrintsNamedClaims it.said.report (weight_of_words falling.solve) falling.steps (kind.budget_line falling it))
        (λ grounding domain problem are c. named_claims grounding domain problem are it.said.report (weight_of_words falling.solve) falling.steps (kind.budget_line falling it) c)
        claims)
    stop (inr halted) = inr halted

    part : IsRefusedInPart falling.solve it.texts it.said ⊎ (IsStoppedInPart falling.solve it.texts it.said ⊎ kind.Of falling it (kind.InPart falling it))
        → IsRefusedInPart falling.solve it.texts it.said
        ⊎ (IsStoppedInPart falling.solve it.texts it.said
        ⊎ OfTrees falling.solve.input 0 it.texts (PrintsNamedInPart it.said.report (weight_of_words falling.solve) falling.steps falling.solve.settings.budget))
    part (inl refused) = inl refused
    part (inr (inl stopped)) = inr (inl stopped)
    part (inr (inr begun)) = inr (inr (by_names falling it (kind.InPart falling it)
        (PrintsNamedInPart it.said.report (weight_of_words falling.solve) falling.steps falling.solve.settings.budget)
        (λ grounding domain problem are b. named_in_part grounding domain problem are it.said.report (weight_of_words falling.solve) falling.steps falling.solve.settings.budget b) begun))
