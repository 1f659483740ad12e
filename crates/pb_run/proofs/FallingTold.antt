-- The claims of the runs of a search, as they are printed.
use Rattle.std.proofs.Common.{◌≡◌, ℕ, ◌+◌, ◌^◌, ◌<◌, ◌≤◌, Option, None, Some, option_map, List, [], ◌∷◌, ◌++◌, length, refl, sym, ap, subst, ◌∙◌, arith, append_assoc, length-append}
use Rattle.std.specs.List.{AllByRecursion}
use Rattle.pb_model.specs.Weight.{Weight}
use Rattle.pb_model.specs.Guide.{Guide}
use Rattle.pb_model.specs.Store.{Store}
use Rattle.pb_model.specs.Plan.{Plan, IsPlan, NoneCheaper, IsBound}
use Rattle.pb_machine.specs.Machine.{Setup, Machine, opening_machine}
use Rattle.pb_machine.specs.Lawful.{reopened_machine, reopened_setup}
use Rattle.pb_task.specs.declared.parts.TaskParts.{TaskParts}
use Rattle.pb_task.specs.Parts.{space_of, action_name}
use Rattle.pb_estimate.specs.Choices.{Choice}
use Rattle.pb_abstract.specs.Projection.{IsFinest}
use Rattle.pb_abstract.specs.Graph.{AbstractGraph, IsGraphOf}
use Rattle.pb_falling.specs.Falling.{Claim, AreClaims, HaveWeights, CostsFall}
use Rattle.pb_command.specs.Meaning.{SolveMeaning}
use Rattle.pb_answer.specs.Outputs.{Output, output}
use Rattle.pb_answer.specs.Searches.{weight_asked}
use Rattle.pb_answer.specs.Claims.{IsCertificate}
use Rattle.pb_answer.specs.Parts.{AnswerPart, outputs_of, report_of}
use Rattle.pb_answer.specs.Falling.{numbered, first_setup, AreOfQuietRuns, AreFalling, MayBeImproved, SaysClaim, SayClaims}
use Rattle.pb_run.specs.FallingHeadline.{PrintedClaim, claims_text, AreAtWeights, CostsNeverRise, AreClaimsOf, MayBeCheaper, SavesOne, AreNumberedFiles, SavesEach, AreOfRuns, AreSearched, HaveClaimed, IsOneMoreClaim}

-- ---- lists

pub all_joined : {A : Type 0} (P : A → Type 0) (xs ys : List A) → AllByRecursion P xs → AllByRecursion P ys → AllByRecursion P (xs ++ ys)
all_joined P [] ys h k = k
all_joined P (x ∷ xs) ys h k = (h.0, all_joined P xs ys h.1 k)

pub all_first : {A : Type 0} (P : A → Type 0) (xs ys : List A) → AllByRecursion P (xs ++ ys) → AllByRecursion P xs
all_first P [] ys h = tt
all_first P (x ∷ xs) ys h = (h.0, all_first P xs ys h.1)

pub all_last : {A : Type 0} (P : A → Type 0) (xs : List A) (y : A) → AllByRecursion P (xs ++ y ∷ []) → P y
all_last P [] y h = h.0
all_last P (x ∷ xs) y h = all_last P xs y h.1

-- ---- claims of runs

-- its bound is that of its cost, which is a number of 64 bits
abbrev pub IsBounded : PrintedClaim → Type 0
IsBounded claim = IsBound claim.weight claim.plan.cost claim.bound × (claim.plan.cost < 2 ^ 64)

-- the claim of a run, as it is printed with this bound
abbrev pub printed_of : Claim → (bound : ℕ) → PrintedClaim
printed_of run bound = record { weight = run.weight; plan = run.plan; bound = bound }

pub of_runs_joined : (runs more : List Claim) (claims others : List PrintedClaim) → AreOfRuns runs claims → AreOfRuns more others → AreOfRuns (runs ++ more) (claims ++ others)
of_runs_joined [] more [] others are also = also
of_runs_joined [] more (claim ∷ claims) others are also = absurd are
of_runs_joined (run ∷ runs) more [] others are also = absurd are
of_runs_joined (run ∷ runs) more (claim ∷ claims) others (weight, plan, are) also = (weight, plan, of_runs_joined runs more claims others are also)

pub of_runs_count : (runs : List Claim) (claims : List PrintedClaim) → AreOfRuns runs claims → length claims ≡ length runs
of_runs_count [] [] are = refl
of_runs_count [] (claim ∷ claims) are = absurd are
of_runs_count (run ∷ runs) [] are = absurd are
of_runs_count (run ∷ runs) (claim ∷ claims) (weight, plan, are) = let same = of_runs_count runs claims are in omega (arith, same)

weights_are : (weight : Weight) (steps run : ℕ) (runs : List Claim) (claims : List PrintedClaim) → AreOfRuns runs claims → HaveWeights weight steps run runs → AreAtWeights weight steps run claims
weights_are weight steps run [] [] are have = tt
weights_are weight steps run [] (claim ∷ claims) are have = absurd are
weights_are weight steps run (one ∷ runs) [] are have = absurd are
weights_are weight steps run (one ∷ runs) (claim ∷ claims) (same, plan, are) have = (same ∙ have.0, weights_are weight steps (run + 1) runs claims are have.1)

-- what follows of each claim from what holds of its run
pub all_of : (P : Claim → Type 0) (Q : PrintedClaim → Type 0) → ((run : Claim) (claim : PrintedClaim) → claim.weight ≡ run.weight → claim.plan ≡ run.plan → IsBounded claim → P run → Q claim)
    → (runs : List Claim) (claims : List PrintedClaim) → AreOfRuns runs claims → AllByRecursion IsBounded claims → AllByRecursion P runs → AllByRecursion Q claims
all_of P Q f [] [] are bounded h = tt
all_of P Q f [] (claim ∷ claims) are bounded h = absurd are
all_of P Q f (run ∷ runs) [] are bounded h = absurd are
all_of P Q f (run ∷ runs) (claim ∷ claims) (weight, plan, are) bounded h = (f run claim weight plan bounded.0 h.0, all_of P Q f runs claims are bounded.1 h.1)

costs_after : (run : Claim) (claim : PrintedClaim) (runs : List Claim) (claims : List PrintedClaim) → claim.plan ≡ run.plan → AreOfRuns runs claims → CostsFall (Some run.plan) runs → CostsNeverRise (claim ∷ claims)
costs_after run claim [] [] same are fall = tt
costs_after run claim [] (next ∷ claims) same are fall = absurd are
costs_after run claim (one ∷ runs) [] same are fall = absurd are
costs_after run claim (one ∷ runs) (next ∷ claims) same (weight, plan, are) (falls, fall) = (
  (let before : claim.plan.cost ≡ run.plan.cost = ap (λ (p : Plan). p.cost) same in
      let now : next.plan.cost ≡ one.plan.cost = ap (λ (p : Plan). p.cost) plan in
      omega (arith, falls, before, now)),
  costs_after one next runs claims plan are fall,
)

costs_fall : (runs : List Claim) (claims : List PrintedClaim) → AreOfRuns runs claims → CostsFall None runs → CostsNeverRise claims
costs_fall [] [] are fall = tt
costs_fall [] (claim ∷ claims) are fall = absurd are
costs_fall (run ∷ runs) [] are fall = absurd are
costs_fall (run ∷ runs) (claim ∷ claims) (weight, plan, are) fall = costs_after run claim runs claims plan are fall

pub may_be_cheaper : (run : Claim) (claim : PrintedClaim) → claim.weight ≡ run.weight → claim.plan ≡ run.plan → IsBounded claim → MayBeImproved run → MayBeCheaper claim
may_be_cheaper run claim weight plan bounded may = λ e.
    may (subst (λ (w : Weight). IsBound w run.plan.cost run.plan.cost) weight
    (subst (λ (p : Plan). IsBound claim.weight p.cost p.cost) plan
    (subst (λ (n : ℕ). IsBound claim.weight claim.plan.cost n) e bounded.0)))

-- ---- the first claims of more

claims_first : (setup : Setup) (begin : Machine) (before : Option Plan) (runs more : List Claim) → AreClaims setup begin before (runs ++ more) → AreClaims setup begin before runs
claims_first setup begin before [] more are = tt
claims_first setup begin before (one ∷ []) [] are = are
claims_first setup begin before (one ∷ []) (next ∷ more) are = are.0
claims_first setup begin before (one ∷ two ∷ runs) more are =
    (are.0, claims_first (reopened_setup setup two.weight) (reopened_machine setup two.weight one.machine) (Some one.plan) (two ∷ runs) more are.1)

quiet_first : (setup : Setup) (begin : Machine) (runs more : List Claim) → AreOfQuietRuns setup begin (runs ++ more) → AreOfQuietRuns setup begin runs
quiet_first setup begin [] more are = tt
quiet_first setup begin (one ∷ []) [] are = are
quiet_first setup begin (one ∷ []) (next ∷ more) are = are.0
quiet_first setup begin (one ∷ two ∷ runs) more are =
    (are.0, quiet_first (reopened_setup setup two.weight) (reopened_machine setup two.weight one.machine) (two ∷ runs) more are.1)

weights_first : (weight : Weight) (steps run : ℕ) (runs more : List Claim) → HaveWeights weight steps run (runs ++ more) → HaveWeights weight steps run runs
weights_first weight steps run [] more have = tt
weights_first weight steps run (one ∷ runs) more have = (have.0, weights_first weight steps (run + 1) runs more have.1)

costs_first : (before : Option Plan) (runs more : List Claim) → CostsFall before (runs ++ more) → CostsFall before runs
costs_first before [] more fall = tt
costs_first None (one ∷ runs) more fall = costs_first (Some one.plan) runs more fall
costs_first (Some plan) (one ∷ runs) more fall = (fall.0, costs_first (Some one.plan) runs more fall.1)

pub falling_first : (solve : SolveMeaning) (task : TaskParts) (abstraction : AbstractGraph) (choice : Choice) (steps : ℕ) (runs more : List Claim) → AreFalling solve task abstraction choice steps (runs ++ more) → AreFalling solve task abstraction choice steps runs
falling_first solve task abstraction choice steps runs more falling = record {
  are = claims_first (first_setup solve task abstraction choice) (opening_machine (first_setup solve task abstraction choice)) None runs more falling.are;
  quiet_runs = quiet_first (first_setup solve task abstraction choice) (opening_machine (first_setup solve task abstraction choice)) runs more falling.quiet_runs;
  few = let few : length (runs ++ more) ≤ steps + 1 = falling.few in let joined = length-append runs more in omega (arith, few, joined);
  weights = weights_first (weight_asked solve) steps 0 runs more falling.weights;
  hold = all_first (λ run. IsPlan (space_of task) run.plan × NoneCheaper (space_of task) run.weight run.plan.cost) runs more falling.hold;
  fall = costs_first None runs more falling.fall;
}

-- ---- files

-- the file of a run
pub saves_one : (given : Option (List ℕ)) (run : ℕ) (task : TaskParts) (choice : Choice) (weight : Weight) (guide : Guide) (store : Store) (plan : Option Plan) (files : List Output)
    → IsCertificate (option_map (λ name. numbered name run) given) task choice weight guide store plan files → SavesOne given run task choice weight plan files
saves_one None run task choice weight guide store plan files is = is
saves_one (Some name) run task choice weight guide store plan files (text, certificate, is) = (output (numbered name run) text, (refl, guide, store, certificate), is)

-- the files of the runs from this number on
abbrev pub SavesFrom : (given : Option (List ℕ)) → (run : ℕ) → TaskParts → Choice → List PrintedClaim → List Output → Type 0
SavesFrom None run task choice claims files = files ≡ []
SavesFrom (Some name) run task choice claims files = AreNumberedFiles name run task choice claims files

pub no_files : (given : Option (List ℕ)) (run : ℕ) (task : TaskParts) (choice : Choice) → SavesFrom given run task choice [] []
no_files None run task choice = refl
no_files (Some name) run task choice = tt

more_files : (given : Option (List ℕ)) (run : ℕ) (task : TaskParts) (choice : Choice) (claim : PrintedClaim) (claims : List PrintedClaim) (own rest : List Output)
    → SavesOne given run task choice claim.weight (Some claim.plan) own → SavesFrom given (run + 1) task choice claims rest → SavesFrom given run task choice (claim ∷ claims) (own ++ rest)
more_files None run task choice claim claims own rest one others = ap (λ (files : List Output). files ++ rest) one ∙ others
more_files (Some name) run task choice claim claims own rest (file, is, are) others =
    subst (λ (files : List Output). AreNumberedFiles name run task choice (claim ∷ claims) (files ++ rest)) (sym are) (is, others)

pub each_file : (given : Option (List ℕ)) (task : TaskParts) (choice : Choice) (claims : List PrintedClaim) (files : List Output) → SavesFrom given 0 task choice claims files → SavesEach given task choice claims files
each_file None task choice claims files saves = saves
each_file (Some name) task choice claims files saves = saves

-- ---- parts that say claims

module _ (solve : SolveMeaning) (task : TaskParts) (abstraction : AbstractGraph) (choice : Choice) (steps : ℕ) where
  pub record Told (run : ℕ) (runs : List Claim) (parts : List AnswerPart) : Type 0 where
    pub claims : List PrintedClaim
    pub are_of : AreOfRuns runs claims
    pub bounded : AllByRecursion IsBounded claims
    pub printed : report_of parts ≡ claims_text (action_name task) claims
    pub files : SavesFrom solve.certificate run task choice claims (outputs_of parts)

  pub told : (run : ℕ) (runs : List Claim) (parts : List AnswerPart) → SayClaims solve task abstraction choice steps run runs parts → Told run runs parts
  told run [] [] say = record { claims = []; are_of = tt; bounded = tt; printed = refl; files = no_files solve.certificate run task choice }
  told run [] (part ∷ parts) say = absurd say
  told run (one ∷ runs) [] say = absurd say
  told run (one ∷ runs) (part ∷ parts) (says, say) =
      let later = told (run + 1) runs parts say in
      record {
        claims = printed_of one says.bound ∷ later.claims;
        are_of = (refl, refl, later.are_of);
        bounded = ((says.bounded, says.fits), later.bounded);
        printed = λ i. says.report i ++ later.printed i;
        files = more_files solve.certificate run task choice (printed_of one says.bound) later.claims part.outputs (outputs_of parts)
            (saves_one solve.certificate run task choice one.weight _ _ (Some one.plan) part.outputs says.outputs) later.files;
      }

  -- the part among them that stands behind others says a claim too
  pub record SplitClaims (run : ℕ) (runs : List Claim) (before : List AnswerPart) (part : AnswerPart) : Type 0 where
    pub first : List Claim
    pub claim : Claim
    pub rest : List Claim
    pub runs_are : runs ≡ first ++ claim ∷ rest
    pub say : SayClaims solve task abstraction choice steps run first before
    pub says : SaysClaim solve task abstraction choice steps (run + length first) claim part

  pub split_claims : (run : ℕ) (runs : List Claim) (before : List AnswerPart) (part : AnswerPart) (after : List AnswerPart)
      → SayClaims solve task abstraction choice steps run runs (before ++ part ∷ after) → SplitClaims run runs before part
  split_claims run [] [] part after say = absurd say
  split_claims run [] (one ∷ before) part after say = absurd say
  split_claims run (claim ∷ runs) [] part after (says, say) = record {
    first = [];
    claim = claim;
    rest = runs;
    runs_are = refl;
    say = tt;
    says = subst (λ (n : ℕ). SaysClaim solve task abstraction choice steps n claim part) (let same : run ≡ run + 0 = omega arith in same) says;
  }
  split_claims run (claim ∷ runs) (one ∷ before) part after (says, say) =
      let later = split_claims (run + 1) runs before part after say in
      record {
        first = claim ∷ later.first;
        claim = later.claim;
        rest = later.rest;
        runs_are = ap (λ (rs : List Claim). claim ∷ rs) later.runs_are;
        say = (says, later.say);
        says = subst (λ (n : ℕ). SaysClaim solve task abstraction choice steps n later.claim part)
            (let same : (run + 1) + length later.first ≡ run + length (claim ∷ later.first) = omega arith in same) later.says;
      }

  -- ---- what is promised of them

  pub are_claims : (runs : List Claim) (claims : List PrintedClaim) → AreFalling solve task abstraction choice steps runs → AreOfRuns runs claims → AllByRecursion IsBounded claims
      → AreClaimsOf (space_of task) (weight_asked solve) steps claims
  are_claims runs claims falling are bounded = record {
    weights = weights_are (weight_asked solve) steps 0 runs claims are falling.weights;
    plans = all_of (λ run. IsPlan (space_of task) run.plan × NoneCheaper (space_of task) run.weight run.plan.cost)
        (λ claim. IsPlan (space_of task) claim.plan × IsBound claim.weight claim.plan.cost claim.bound)
        (λ run claim weight plan bound h. (subst (λ (p : Plan). IsPlan (space_of task) p) (sym plan) h.0, bound.0))
        runs claims are bounded falling.hold;
    cheapest = all_of (λ run. IsPlan (space_of task) run.plan × NoneCheaper (space_of task) run.weight run.plan.cost)
        (λ claim. NoneCheaper (space_of task) claim.weight claim.plan.cost)
        (λ run claim weight plan bound h. subst (λ (w : Weight). NoneCheaper (space_of task) w claim.plan.cost) (sym weight)
        (subst (λ (p : Plan). NoneCheaper (space_of task) run.weight p.cost) (sym plan) h.1))
        runs claims are bounded falling.hold;
    fall = costs_fall runs claims are falling.fall;
    few = let same = of_runs_count runs claims are in omega (arith, same, falling.few);
    fit = all_of (λ run. IsPlan (space_of task) run.plan × NoneCheaper (space_of task) run.weight run.plan.cost) (λ claim. claim.plan.cost < 2 ^ 64)
        (λ run claim weight plan bound h. bound.1) runs claims are bounded falling.hold;
  }

  module _ (graph_of : IsGraphOf task abstraction) (finest : IsFinest task solve.settings.wish abstraction.projection) where
    abbrev pub searched : (runs : List Claim) (claims : List PrintedClaim) → AreFalling solve task abstraction choice steps runs → AreOfRuns runs claims → AreSearched solve choice task steps claims
    searched runs claims falling are = record { abstraction = abstraction; graph_of = graph_of; finest = finest; runs = runs; falling = falling; are_of = are }

    abbrev pub have_claimed : (runs : List Claim) (parts : List AnswerPart) (say : SayClaims solve task abstraction choice steps 0 runs parts) → AreFalling solve task abstraction choice steps runs → AllByRecursion MayBeImproved runs
        → HaveClaimed solve choice task steps (told 0 runs parts say).claims (report_of parts) (outputs_of parts)
    have_claimed runs parts say falling improvable =
        let t = told 0 runs parts say in
        record {
          are = are_claims runs t.claims falling t.are_of t.bounded;
          searched = searched runs t.claims falling t.are_of;
          improvable = all_of MayBeImproved MayBeCheaper may_be_cheaper runs t.claims t.are_of t.bounded improvable;
          printed = t.printed;
          certified = each_file solve.certificate task choice t.claims (outputs_of parts) t.files;
        }

    -- and one more claim after them
    pub one_more : (first : List Claim) (claim : Claim) (rest : List Claim) (before : List AnswerPart) (part : AnswerPart) (say : SayClaims solve task abstraction choice steps 0 first before)
        → SaysClaim solve task abstraction choice steps (0 + length first) claim part → AreFalling solve task abstraction choice steps (first ++ claim ∷ rest)
        → IsOneMoreClaim solve choice task steps (told 0 first before say).claims part
    one_more first claim rest before part say says falling =
        let t = told 0 first before say in
        let counted = of_runs_count first t.claims t.are_of in
        let number : 0 + length first ≡ length t.claims = omega (arith, counted) in
        let all = falling_first solve task abstraction choice steps (first ++ claim ∷ []) rest
        (subst (λ (rs : List Claim). AreFalling solve task abstraction choice steps rs) (sym (append_assoc first (claim ∷ []) rest)) falling) in
        let one = printed_of claim says.bound in
        let are = of_runs_joined first (claim ∷ []) t.claims (one ∷ []) t.are_of (refl, refl, tt) in (
          one,
          are_claims (first ++ claim ∷ []) (t.claims ++ one ∷ []) all are (all_joined IsBounded t.claims (one ∷ []) t.bounded ((says.bounded, says.fits), tt)),
          searched (first ++ claim ∷ []) (t.claims ++ one ∷ []) all are,
          says.report,
          subst (λ (n : ℕ). SavesOne solve.certificate n task choice claim.weight (Some claim.plan) part.outputs) number
              (saves_one solve.certificate (0 + length first) task choice claim.weight _ _ (Some claim.plan) part.outputs says.outputs),
        )
