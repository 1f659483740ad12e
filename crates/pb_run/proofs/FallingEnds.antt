-- What is out of a search with falling weights, by how it ended: all of it, or the claims before a part
-- that broke off.
use Rattle.std.proofs.Common.{◌≡◌, ◌⊎◌, inl, inr, ℕ, ◌≤◌, Option, None, Some, List, [], ◌∷◌, ◌++◌, length, refl, sym, ap, subst, ◌∙◌, arith, append_assoc, append-nil}
use Rattle.std.specs.List.{AllByRecursion}
use Rattle.pb_model.specs.Weight.{Weight}
use Rattle.pb_model.specs.Plan.{Plan, IsBound}
use Rattle.pb_task.specs.declared.parts.TaskParts.{TaskParts}
use Rattle.pb_task.specs.Parts.{space_of, action_name}
use Rattle.pb_estimate.specs.Choices.{Choice}
use Rattle.pb_abstract.specs.Projection.{IsFinest}
use Rattle.pb_abstract.specs.Graph.{AbstractGraph, IsGraphOf}
use Rattle.pb_falling.specs.Falling.{Claim}
use Rattle.pb_command.specs.Meaning.{SolveMeaning}
use Rattle.pb_answer.specs.Outputs.{Output}
use Rattle.pb_answer.specs.Searches.{weight_asked}
use Rattle.pb_answer.specs.Answer.{Said}
use Rattle.pb_answer.specs.Parts.{AnswerPart, outputs_of, report_of}
use Rattle.pb_answer.specs.Falling.{AreFalling, MayBeImproved, SayClaims, IsProvedCheapest, IsFallingNone, IsFallingStop, AreClaimParts, IsFallingFound}
use Rattle.pb_run.specs.FallingHeadline.{PrintedClaim, claims_text, AreClaimsOf, MayBeCheaper, SavesOne, SavesEach, AreOfRuns, HaveClaimed, IsNext, EndsProved, EndsNone, EndsStopped, EndsShort}
use Rattle.pb_run.proofs.FallingTold.{all_first, all_last, IsBounded, all_of, may_be_cheaper, falling_first, no_files, each_file, saves_one, told, split_claims, are_claims, searched, have_claimed, one_more}

-- ---- parts after others

pub reports_joined : (parts more : List AnswerPart) → report_of (parts ++ more) ≡ report_of parts ++ report_of more
reports_joined [] more = refl
reports_joined (part ∷ parts) more =
    ap (λ (text : List ℕ). part.report ++ text) (reports_joined parts more) ∙ sym (append_assoc part.report (report_of parts) (report_of more))

pub files_joined : (parts more : List AnswerPart) → outputs_of (parts ++ more) ≡ outputs_of parts ++ outputs_of more
files_joined [] more = refl
files_joined (part ∷ parts) more =
    ap (λ (files : List Output). part.outputs ++ files) (files_joined parts more) ∙ sym (append_assoc part.outputs (outputs_of parts) (outputs_of more))

-- the same claims, printed and saved as these
abbrev pub claimed_as : (solve : SolveMeaning) (choice : Choice) (task : TaskParts) (steps : ℕ) (claims : List PrintedClaim) (report other : List ℕ) (files others : List Output) → other ≡ report → others ≡ files
    → HaveClaimed solve choice task steps claims report files → HaveClaimed solve choice task steps claims other others
claimed_as solve choice task steps claims report other files others is are have = record {
  are = have.are;
  searched = have.searched;
  improvable = have.improvable;
  printed = is ∙ have.printed;
  certified = subst (λ (os : List Output). SavesEach solve.certificate task choice claims os) (sym are) have.certified;
}

-- ---- the last claim

pub record SplitLast (runs : List Claim) (last : Claim) (claims : List PrintedClaim) : Type 0 where
  pub first : List PrintedClaim
  pub final : PrintedClaim
  pub claims_are : claims ≡ first ++ final ∷ []
  pub are_of : AreOfRuns runs first
  pub weight : final.weight ≡ last.weight
  pub plan : final.plan ≡ last.plan

split_last : (runs : List Claim) (last : Claim) (claims : List PrintedClaim) → AreOfRuns (runs ++ last ∷ []) claims → SplitLast runs last claims
split_last [] last [] are = absurd are
split_last [] last (claim ∷ []) (weight, plan, are) = record { first = []; final = claim; claims_are = refl; are_of = tt; weight = weight; plan = plan }
split_last [] last (claim ∷ next ∷ claims) (weight, plan, are) = absurd are
split_last (run ∷ runs) last [] are = absurd are
split_last (run ∷ runs) last (claim ∷ claims) (weight, plan, are) =
    let later = split_last runs last claims are in
    record {
      first = claim ∷ later.first;
      final = later.final;
      claims_are = ap (λ (cs : List PrintedClaim). claim ∷ cs) later.claims_are;
      are_of = (weight, plan, later.are_of);
      weight = later.weight;
      plan = later.plan;
    }

-- a cost has one bound
one_bound : (weight : Weight) (cost a b : ℕ) → IsBound weight cost a → IsBound weight cost b → a ≡ b
one_bound weight cost a b one other =
    let above = one.least b other.enough in
    let below = other.least a one.enough in
    omega (arith, above, below)

-- ---- lists of parts

abbrev Behind : {A : Type 0} → (before : List A) → (part : A) → (after said : List A) → (last : A) → Type 0
Behind {A = A} before part after said last =
    ((more : List A) × (said ≡ before ++ part ∷ more)) ⊎ ((before ≡ said) × (part ≡ last))

-- a part of a list is its last one, or one of those before
where_in : {A : Type 0} (before : List A) (part : A) (after said : List A) (last : A) → before ++ part ∷ after ≡ said ++ last ∷ [] → Behind before part after said last
where_in {A = A} [] part after [] last e = inr (refl, same part after last e)
  where
    same : (part : A) (after : List A) (last : A) → part ∷ after ≡ last ∷ [] → part ≡ last
    same part after last e = cc
where_in {A = A} [] part after (one ∷ said) last e = inl (said, ap (λ (a : A). a ∷ said) (same e))
  where
    same : part ∷ after ≡ one ∷ (said ++ last ∷ []) → one ≡ part
    same e = cc
where_in {A = A} (b ∷ []) part after [] last e = absurd (none e)
  where
    none : b ∷ part ∷ after ≡ last ∷ [] → ⊥
    none e = cc
where_in {A = A} (b ∷ c ∷ before) part after [] last e = absurd (none (before ++ part ∷ after) e)
  where
    none : (rest : List A) → b ∷ c ∷ rest ≡ last ∷ [] → ⊥
    none rest e = cc
where_in {A = A} (b ∷ before) part after (one ∷ said) last e = go (where_in before part after said last (tail (before ++ part ∷ after) (said ++ last ∷ []) e))
  where
    tail : (xs ys : List A) → b ∷ xs ≡ one ∷ ys → xs ≡ ys
    tail xs ys e = cc

    head : (xs ys : List A) → b ∷ xs ≡ one ∷ ys → b ≡ one
    head xs ys e = cc

    same : b ≡ one
    same = head (before ++ part ∷ after) (said ++ last ∷ []) e

    go : Behind before part after said last → Behind (b ∷ before) part after (one ∷ said) last
    go (inl (more, is)) = inl (more, λ i. sym same i ∷ is i)
    go (inr (is, also)) = inr ((λ i. same i ∷ is i), also)

-- what holds of all but the last holds of all that stand before another
all_before : {A : Type 0} (P : A → Type 0) (xs : List A) (last : A) (first : List A) (one : A) (rest : List A) → xs ++ last ∷ [] ≡ first ++ one ∷ rest → AllByRecursion P xs → AllByRecursion P first
all_before {A = A} P xs last first one rest e h = go (where_in first one rest xs last (sym e))
  where
    go : Behind first one rest xs last → AllByRecursion P first
    go (inl (more, is)) = all_first P first (one ∷ more) (subst (AllByRecursion P) is h)
    go (inr (is, also)) = subst (AllByRecursion P) (sym is) h

module _ (solve : SolveMeaning) (choice : Choice) (task : TaskParts) (steps : ℕ) where
  -- ---- up to a part that broke off

  -- the parts before it are claims, and it is what comes next
  pub record Broken (before : List AnswerPart) (part : AnswerPart) : Type 0 where
    pub claims : List PrintedClaim
    pub so_far : HaveClaimed solve choice task steps claims (report_of before) (outputs_of before)
    pub next : IsNext solve choice task steps claims part

  module _ (abstraction : AbstractGraph) (graph_of : IsGraphOf task abstraction) (finest : IsFinest task solve.settings.wish abstraction.projection) where
    abbrev Say : List Claim → List AnswerPart → Type 0
    Say runs parts = SayClaims solve task abstraction choice steps 0 runs parts

    abbrev Fall : List Claim → Type 0
    Fall runs = AreFalling solve task abstraction choice steps runs

    broken_claim : (runs : List Claim) (before : List AnswerPart) (part : AnswerPart) (after : List AnswerPart) → Fall runs → Say runs (before ++ part ∷ after)
        → ((first : List Claim) (one : Claim) (rest : List Claim) → runs ≡ first ++ one ∷ rest → AllByRecursion MayBeImproved first) → Broken before part
    broken_claim runs before part after falling say improvable =
        let s = split_claims solve task abstraction choice steps 0 runs before part after say in
        let all = subst (λ (rs : List Claim). Fall rs) s.runs_are falling in
        let some = improvable s.first s.claim s.rest s.runs_are in
        record {
          claims = (told solve task abstraction choice steps 0 s.first before s.say).claims;
          so_far = have_claimed solve task abstraction choice steps graph_of finest s.first before s.say (first_falling s.first s.claim s.rest all) some;
          next = inl (one_more solve task abstraction choice steps graph_of finest s.first s.claim s.rest before part s.say s.says all);
        }
      where
        first_falling : (first : List Claim) (one : Claim) (rest : List Claim) → Fall (first ++ one ∷ rest) → Fall first
        first_falling first one rest all = falling_first solve task abstraction choice steps first (one ∷ rest) all

    broken_proved : (before : List AnswerPart) (part : AnswerPart) (after : List AnswerPart) → IsProvedCheapest solve task abstraction choice steps (before ++ part ∷ after) → Broken before part
    broken_proved before part after (runs, last, falling, say, improvable, bound, least) =
        broken_claim (runs ++ last ∷ []) before part after falling say (λ first one rest is. all_before MayBeImproved runs last first one rest is improvable)

    broken_first : (runs : List Claim) (before : List AnswerPart) (part : AnswerPart) (after : List AnswerPart) → Fall runs → Say runs (before ++ part ∷ after) → AllByRecursion MayBeImproved runs → Broken before part
    broken_first runs before part after falling say improvable =
        broken_claim runs before part after falling say (λ first one rest is. all_first MayBeImproved first (one ∷ rest) (subst (AllByRecursion MayBeImproved) is improvable))

    no_claims : Fall []
    no_claims = record { are = tt; quiet_runs = tt; few = omega arith; weights = tt; hold = tt; fall = tt }

    abbrev nothing_claimed : HaveClaimed solve choice task steps [] [] []
    nothing_claimed = record {
      are = are_claims solve task abstraction choice steps [] [] no_claims tt tt;
      searched = searched solve task abstraction choice steps graph_of finest [] [] no_claims tt;
      improvable = tt;
      printed = refl;
      certified = each_file solve.certificate task choice [] [] (no_files solve.certificate 0 task choice);
    }

    broken_none : (before : List AnswerPart) (part : AnswerPart) (after : List AnswerPart) → IsFallingNone solve task abstraction choice steps (before ++ part ∷ after) → Broken before part
    broken_none before part after (one, (none, report, moves, run, saved), are) = go (where_in before part after [] one are)
      where
        go : Behind before part after [] one → Broken before part
        go (inl (more, is)) = absurd (never before more is)
          where
            never : (before more : List AnswerPart) → [] ≡ before ++ part ∷ more → ⊥
            never [] more is = cc
            never (b ∷ before) more is = cc
        go (inr (is, also)) = record {
          claims = [];
          so_far = claimed_as solve choice task steps [] [] (report_of before) [] (outputs_of before) (ap report_of is) (ap outputs_of is) nothing_claimed;
          next = inr (inl (
            refl,
            none,
            ap (λ (p : AnswerPart). p.report) also ∙ report,
            subst (λ (p : AnswerPart). SavesOne solve.certificate 0 task choice (weight_asked solve) None p.outputs) (sym also)
                (saves_one solve.certificate 0 task choice (weight_asked solve) _ _ None one.outputs saved),
          ));
        }

    broken_stop : (before : List AnswerPart) (part : AnswerPart) (after : List AnswerPart) → IsFallingStop solve task abstraction choice steps (before ++ part ∷ after) → Broken before part
    broken_stop before part after (runs, said, last, falling, say, improvable, stop, are) = go (where_in before part after said last are)
      where
        go : Behind before part after said last → Broken before part
        go (inl (more, is)) = broken_first runs before part more falling (subst (λ (parts : List AnswerPart). Say runs parts) is say) improvable
        go (inr (is, also)) =
            let t = told solve task abstraction choice steps 0 runs said say in
            record {
              claims = t.claims;
              so_far = claimed_as solve choice task steps t.claims (report_of said) (report_of before) (outputs_of said) (outputs_of before) (ap report_of is) (ap outputs_of is)
                  (have_claimed solve task abstraction choice steps graph_of finest runs said say falling improvable);
              next = inr (inr (
                (searched solve task abstraction choice steps graph_of finest runs t.claims falling t.are_of, stop.0),
                ap (λ (p : AnswerPart). p.report) also ∙ stop.1,
                ap (λ (p : AnswerPart). p.outputs) also ∙ stop.2,
              ));
            }

    -- ---- all of it

    ends_proved : (said : Said) (parts : List AnswerPart) → said.report ≡ report_of parts → said.outputs ≡ outputs_of parts → IsProvedCheapest solve task abstraction choice steps parts → EndsProved solve steps said choice task
    ends_proved said parts report outputs (runs, last, falling, say, improvable, bound, least) =
        let all = runs ++ last ∷ [] in
        let t = told solve task abstraction choice steps 0 all parts say in
        let s = split_last runs last t.claims t.are_of in
        let bounded = subst (λ (cs : List PrintedClaim). AllByRecursion IsBounded cs) s.claims_are t.bounded in
        let last_bound : IsBound s.final.weight s.final.plan.cost s.final.plan.cost =
        subst (λ (w : Weight). IsBound w s.final.plan.cost s.final.plan.cost) (sym s.weight)
        (subst (λ (p : Plan). IsBound last.weight p.cost p.cost) (sym s.plan) bound) in
        record {
          claims = s.first;
          last = s.final;
          are = subst (λ (cs : List PrintedClaim). AreClaimsOf (space_of task) (weight_asked solve) steps cs) s.claims_are
              (are_claims solve task abstraction choice steps all t.claims falling t.are_of t.bounded);
          searched = searched solve task abstraction choice steps graph_of finest all (s.first ++ s.final ∷ []) falling
              (subst (λ (cs : List PrintedClaim). AreOfRuns all cs) s.claims_are t.are_of);
          printed = report ∙ t.printed ∙ ap (claims_text (action_name task)) s.claims_are;
          certified = subst (λ (os : List Output). SavesEach solve.certificate task choice (s.first ++ s.final ∷ []) os) (sym outputs)
              (subst (λ (cs : List PrintedClaim). SavesEach solve.certificate task choice cs (outputs_of parts)) s.claims_are
              (each_file solve.certificate task choice t.claims (outputs_of parts) t.files));
          improvable = all_of MayBeImproved MayBeCheaper may_be_cheaper runs s.first s.are_of (all_first IsBounded s.first (s.final ∷ []) bounded) improvable;
          proved = one_bound s.final.weight s.final.plan.cost s.final.bound s.final.plan.cost (all_last IsBounded s.first s.final bounded).0 last_bound;
          least = λ plan is. subst (λ (p : Plan). p.cost ≤ plan.cost) (sym s.plan) (least plan is);
        }

    ends_none : (said : Said) (parts : List AnswerPart) → said.report ≡ report_of parts → said.outputs ≡ outputs_of parts → IsFallingNone solve task abstraction choice steps parts → EndsNone solve said choice task
    ends_none said parts report outputs (one, (none, text, moves, run, saved), are) =
        let files : said.outputs ≡ one.outputs = outputs ∙ ap outputs_of are ∙ append-nil one.outputs in
        record {
          printed = report ∙ ap report_of are ∙ append-nil one.report ∙ text;
          no_plan = none;
          certified = subst (λ (os : List Output). SavesOne solve.certificate 0 task choice (weight_asked solve) None os) (sym files)
              (saves_one solve.certificate 0 task choice (weight_asked solve) _ _ None one.outputs saved);
        }

    ends_stopped : (said : Said) (parts : List AnswerPart) → said.report ≡ report_of parts → said.outputs ≡ outputs_of parts → IsFallingStop solve task abstraction choice steps parts → EndsStopped solve steps said choice task
    ends_stopped said parts report outputs (runs, first, last, falling, say, improvable, stop, are) =
        let t = told solve task abstraction choice steps 0 runs first say in
        let files : said.outputs ≡ outputs_of first =
        outputs ∙ ap outputs_of are ∙ files_joined first (last ∷ []) ∙ ap (λ (os : List Output). outputs_of first ++ (os ++ [])) stop.2 ∙ append-nil (outputs_of first) in
        record {
          claims = t.claims;
          report = report_of first;
          so_far = claimed_as solve choice task steps t.claims (report_of first) (report_of first) (outputs_of first) said.outputs refl files
              (have_claimed solve task abstraction choice steps graph_of finest runs first say falling improvable);
          printed = report ∙ ap report_of are ∙ reports_joined first (last ∷ [])
              ∙ ap (λ (text : List ℕ). report_of first ++ text) (append-nil last.report ∙ stop.1);
          spent = (searched solve task abstraction choice steps graph_of finest runs t.claims falling t.are_of, stop.0);
        }

  -- what comes next has one file at most
  one_or_none : (given : Option (List ℕ)) (run : ℕ) (weight : Weight) (plan : Option Plan) (files : List Output) → SavesOne given run task choice weight plan files
      → (files ≡ []) ⊎ ((file : Output) × (files ≡ file ∷ []))
  one_or_none None run weight plan files none = inl none
  one_or_none (Some name) run weight plan files (file, is, are) = inr (file, are)

  pub one_file : (claims : List PrintedClaim) (part : AnswerPart) → IsNext solve choice task steps claims part → (part.outputs ≡ []) ⊎ ((file : Output) × (part.outputs ≡ file ∷ []))
  one_file claims part (inl (claim, are, of, text, saves)) = one_or_none solve.certificate (length claims) claim.weight (Some claim.plan) part.outputs saves
  one_file claims part (inr (inl (none, no_plan, text, saves))) = one_or_none solve.certificate 0 (weight_asked solve) None part.outputs saves
  one_file claims part (inr (inr (spent, text, none))) = inl none

  -- ---- by how it was found

  pub broken : (said : Said) (before : List AnswerPart) (part : AnswerPart) (after : List AnswerPart) → IsFallingFound solve choice task steps said (before ++ part ∷ after) → Broken before part
  broken said before part after found = go found.found
    where
      go : ((said.status ≡ 0) × IsProvedCheapest solve task found.abstraction choice steps (before ++ part ∷ after))
          ⊎ (((said.status ≡ 1) × IsFallingNone solve task found.abstraction choice steps (before ++ part ∷ after))
          ⊎ ((said.status ≡ 2) × IsFallingStop solve task found.abstraction choice steps (before ++ part ∷ after))) → Broken before part
      go (inl (status, proved)) = broken_proved found.abstraction found.graph_of found.finest before part after proved
      go (inr (inl (status, none))) = broken_none found.abstraction found.graph_of found.finest before part after none
      go (inr (inr (status, stop))) = broken_stop found.abstraction found.graph_of found.finest before part after stop

  pub broken_among : (before : List AnswerPart) (part : AnswerPart) (after : List AnswerPart) → AreClaimParts solve choice task steps (before ++ part ∷ after) → Broken before part
  broken_among before part after are = broken_first are.abstraction are.graph_of are.finest are.claims before part after are.falling are.say are.improvable

  -- the claims so far, and nothing else
  pub ends_short : (said : Said) (parts : List AnswerPart) → said.report ≡ report_of parts → said.outputs ≡ outputs_of parts → AreClaimParts solve choice task steps parts → EndsShort solve steps said choice task
  ends_short said parts report outputs are =
      let t = told solve task are.abstraction choice steps 0 are.claims parts are.say in
      record {
        claims = t.claims;
        so_far = claimed_as solve choice task steps t.claims (report_of parts) said.report (outputs_of parts) said.outputs report outputs
            (have_claimed solve task are.abstraction choice steps are.graph_of are.finest are.claims parts are.say are.falling are.improvable);
      }

  module _ (said : Said) (parts : List AnswerPart) (found : IsFallingFound solve choice task steps said parts) where
    by_status : (Q : Type 0) → (said.status ≡ 0 → Q) → (said.status ≡ 1 → Q) → (said.status ≡ 2 → Q) → Q
    by_status Q zero one two = go found.found
      where
        go : ((said.status ≡ 0) × IsProvedCheapest solve task found.abstraction choice steps parts)
            ⊎ (((said.status ≡ 1) × IsFallingNone solve task found.abstraction choice steps parts)
            ⊎ ((said.status ≡ 2) × IsFallingStop solve task found.abstraction choice steps parts)) → Q
        go (inl h) = zero h.0
        go (inr (inl h)) = one h.0
        go (inr (inr h)) = two h.0

    pub at_zero : said.status ≡ 0 → EndsProved solve steps said choice task
    at_zero e = go found.found
      where
        go : ((said.status ≡ 0) × IsProvedCheapest solve task found.abstraction choice steps parts)
            ⊎ (((said.status ≡ 1) × IsFallingNone solve task found.abstraction choice steps parts)
            ⊎ ((said.status ≡ 2) × IsFallingStop solve task found.abstraction choice steps parts)) → EndsProved solve steps said choice task
        go (inl (status, proved)) = ends_proved found.abstraction found.graph_of found.finest said parts found.report found.outputs proved
        go (inr (inl (status, none))) = absurd (omega (arith, e, status))
        go (inr (inr (status, stop))) = absurd (omega (arith, e, status))

    pub at_one : said.status ≡ 1 → EndsNone solve said choice task
    at_one e = go found.found
      where
        go : ((said.status ≡ 0) × IsProvedCheapest solve task found.abstraction choice steps parts)
            ⊎ (((said.status ≡ 1) × IsFallingNone solve task found.abstraction choice steps parts)
            ⊎ ((said.status ≡ 2) × IsFallingStop solve task found.abstraction choice steps parts)) → EndsNone solve said choice task
        go (inl (status, proved)) = absurd (omega (arith, e, status))
        go (inr (inl (status, none))) = ends_none found.abstraction found.graph_of found.finest said parts found.report found.outputs none
        go (inr (inr (status, stop))) = absurd (omega (arith, e, status))

    pub at_two : said.status ≡ 2 → EndsStopped solve steps said choice task
    at_two e = go found.found
      where
        go : ((said.status ≡ 0) × IsProvedCheapest solve task found.abstraction choice steps parts)
            ⊎ (((said.status ≡ 1) × IsFallingNone solve task found.abstraction choice steps parts)
            ⊎ ((said.status ≡ 2) × IsFallingStop solve task found.abstraction choice steps parts)) → EndsStopped solve steps said choice task
        go (inl (status, proved)) = absurd (omega (arith, e, status))
        go (inr (inl (status, none))) = absurd (omega (arith, e, status))
        go (inr (inr (status, stop))) = ends_stopped found.abstraction found.graph_of found.finest said parts found.report found.outputs stop

    pub which : (said.status ≡ 0) ⊎ ((said.status ≡ 1) ⊎ (said.status ≡ 2))
    which = by_status ((said.status ≡ 0) ⊎ ((said.status ≡ 1) ⊎ (said.status ≡ 2))) inl (λ e. inr (inl e)) (λ e. inr (inr e))
