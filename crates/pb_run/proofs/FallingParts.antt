-- What is handed out of a search with falling weights: one part more, and how it ends.
use Rattle.std.proofs.Common.{◌≡◌, ◌⊎◌, ◌↔◌, inl, inr, ℕ, zero, suc, ◌+◌, ◌-◌, ◌<◌, ◌≤◌, Bool, true, false, true≢false, IsTrue, Option, None, Some, IsSome, List, [], ◌∷◌, ◌++◌, length, refl, sym, ap, subst, arith}
use Rattle.std.specs.List.{AllByRecursion}
use Rattle.pb_machine.specs.Machine.{Machine}
use Rattle.pb_outside.specs.Outside.{Files}
use Rattle.pb_outside.specs.Calls.{Call, KeepsTakes}
use Rattle.pb_model.specs.Plan.{Plan}
use Rattle.pb_task.specs.declared.parts.TaskParts.{TaskParts}
use Rattle.pb_estimate.specs.Choices.{Choice}
use Rattle.pb_abstract.specs.Graph.{AbstractGraph}
use Rattle.pb_falling.specs.Falling.{Claim}
use Rattle.pb_command.specs.Meaning.{SolveMeaning}
use Rattle.pb_answer.specs.Answer.{Said}
use Rattle.pb_answer.specs.Parts.{AnswerPart, outputs_of, report_of}
use Rattle.pb_answer.specs.Falling.{AreFalling, SayClaims, MayBeImproved, AreClaimParts, IsFallingFound}
use Rattle.pb_answer.specs.FallingRuns.{FallingValue, weight_now, claim_now, IsFalling, IsLastAt, IsLast, part_of, SaysNow, GoesOn}
use Rattle.pb_answer.proofs.Callers.{all_found, claim_handed_out}
use Rattle.pb_run.specs.Calls.{CanHold}
use Rattle.pb_run.specs.Served.{PartsFit}
use Rattle.pb_run.specs.PartByPart.{HandsParts, SavesUpTo, StillFits}
use Rattle.pb_run.specs.FallingParts.{AreFallingParts, HandsOutFalling, ClaimsIfTheyFit, FitsNow, EndsIfItFits, HandedOutBefore, HandedOutNow, AfterRun}
use Rattle.pb_run.specs.declared.output.Ending.{Ending}
use Rattle.pb_run.specs.declared.output.Ending.TheVariants.{Done, NotSaved, NotPrinted}
use Rattle.pb_run.proofs.Saving.{still_told}
use Rattle.pb_run.proofs.Fitting.{next_fits}
use Rattle.pb_run.proofs.PartByPart.{hands_then}

-- ---- what is claimed after the run in hand

-- one claim more that may be improved
all_improvable : (claims : List Claim) (last : Claim) → AllByRecursion MayBeImproved claims → MayBeImproved last → AllByRecursion MayBeImproved (claims ++ last ∷ [])
all_improvable [] last all may = (may, tt)
all_improvable (claim ∷ claims) last all may = (all.0, all_improvable claims last all.1 may)

-- whether it is the last one was tested
pub tested : (b : Bool) (P : Type 0) → (IsTrue b ↔ P) → P ⊎ (P → ⊥)
tested true P same = inl (same.0 refl)
tested false P same = inr (λ h. true≢false (sym (same.1 h)))

module _ (search : FallingValue) (parts : List AnswerPart) (has : HandedOutBefore search parts) (said : Said) where
  abbrev task : TaskParts
  task = search.parts

  abbrev blocks : AbstractGraph
  blocks = search.graph.table.abstraction

  -- with what is claimed now
  abbrev more : List AnswerPart
  more = parts ++ part_of said ∷ []

  abbrev total : Said
  total = record { status = said.status; report = report_of more; outputs = outputs_of more; looks = said.looks }

  abbrev Says : Type 0
  Says = SaysNow has.before has.machine search said

  -- whether it is the last one
  abbrev Decided : Type 0
  Decided = IsLast search ⊎ (IsLast search → ⊥)

  pub found : IsLast search → Says → IsFallingFound search.solve search.graph.choice task search.steps total more
  found last says = all_found has.before has.machine search has.run parts has.say said says last total refl refl refl

  -- nothing comes after a search where nothing is claimed
  no_plan_is_last : search.plan ≡ None → IsLast search
  no_plan_is_last none = subst (IsLastAt (weight_now search)) (sym none) tt

  -- if it isn't the last one, it is a claim that may be improved
  more_claims : (IsLast search → ⊥) → Says → AreClaimParts search.solve search.graph.choice task search.steps more
  more_claims not_last (inl (plan, plan_is, status, says, falling)) = record {
    abstraction = blocks;
    graph_of = has.run.graph_of;
    finest = has.run.finest;
    claims = has.before ++ claim_now search has.machine plan ∷ [];
    falling = falling;
    say = claim_handed_out has.before has.machine search has.run parts has.say plan (part_of said) says;
    improvable = all_improvable has.before (claim_now search has.machine plan) has.run.improvable
        (λ bound. not_last (subst (IsLastAt (weight_now search)) (sym plan_is) bound));
  }
  more_claims not_last (inr (inl none)) = absurd (not_last (no_plan_is_last none.0))
  more_claims not_last (inr (inr stop)) = absurd (not_last (no_plan_is_last stop.0))

  pub decided : Decided → Says → AreFallingParts search.solve search.graph.choice task search.steps more
  decided (inl last) says = inl (total, found last says)
  decided (inr not_last) says = inr (more_claims not_last says)

  pub claimed : Says → (IsLast search → ⊥) → (search.run ≡ search.steps → ⊥) → HandedOutNow search more
  claimed (inl (plan, plan_is, status, says, falling)) not_last goes_on = record {
    before = has.before;
    machine = has.machine;
    run = has.run;
    plan = plan;
    plan_is = plan_is;
    falling = falling;
    say = claim_handed_out has.before has.machine search has.run parts has.say plan (part_of said) says;
    not_last = not_last;
    more = goes_on;
  }
  claimed (inr (inl none)) not_last goes_on = absurd (not_last (no_plan_is_last none.0))
  claimed (inr (inr stop)) not_last goes_on = absurd (not_last (no_plan_is_last stop.0))

-- ---- the run in hand

module _ (search : FallingValue) (parts : List AnswerPart) (has : HandedOutBefore search parts)
    (files between files' : Option Files) (calls mid calls' puts put puts' : List Call) (written so_far written' : Option (List ℕ))
    (hands : HandsParts Done parts files between calls mid puts put written so_far) where
  abbrev Next : Said → Ending → Type 0
  Next said ending = HandsParts ending (part_of said ∷ []) between files' mid calls' put puts' so_far written'

  abbrev All : Said → Ending → Type 0
  All said ending = HandsParts ending (parts ++ part_of said ∷ []) files files' calls calls' puts puts' written written'

  all : (said : Said) (ending : Ending) → Next said ending → All said ending
  all said ending next = hands_then ending parts (part_of said ∷ []) files between files' calls mid calls' puts put puts' written so_far written' hands next

  abbrev Ends : ℕ → Type 0
  Ends status = HandsOutFalling search.solve search.graph.choice search.parts search.steps status files files' calls calls' puts puts' written written'

  pub ends_done : (said : Said) → SaysNow has.before has.machine search said → IsLast search → Next said Done → Ends said.status
  ends_done said says last next = record {
    ending = Done;
    parts = parts ++ part_of said ∷ [];
    hands = all said Done next;
    ends = inl (total search parts has said, found search parts has said last says, refl);
  }

  pub ends_unsaved : (said : Said) → Decided search parts has said → SaysNow has.before has.machine search said → Next said NotSaved → Ends 73
  ends_unsaved said last says next = record {
    ending = NotSaved;
    parts = parts ++ part_of said ∷ [];
    hands = all said NotSaved next;
    ends = (refl, decided search parts has said last says);
  }

  pub ends_unput : (said : Said) → Decided search parts has said → SaysNow has.before has.machine search said → Next said NotPrinted → Ends 74
  ends_unput said last says next = record {
    ending = NotPrinted;
    parts = parts ++ part_of said ∷ [];
    hands = all said NotPrinted next;
    ends = (refl, decided search parts has said last says);
  }

  pub goes_on_after : (said : Said) → SaysNow has.before has.machine search said → (IsLast search → ⊥) → (search.run ≡ search.steps → ⊥) → Next said Done
      → (can_take can_take' : ℕ → Type 0) → KeepsTakes can_take can_take' (length said.report)
      → AfterRun search parts None files files' calls calls' puts puts' written written' can_take can_take'
  goes_on_after said says not_last goes_on next can_take can_take' takes = (said, all said Done next, claimed search parts has said says not_last goes_on, takes)

-- ---- what fits

-- files that were known are known still
pub known_still : (parts : List AnswerPart) (files files' : Option Files) (calls calls' puts puts' : List Call) (written written' : Option (List ℕ))
    → HandsParts Done parts files files' calls calls' puts puts' written written' → IsSome files → IsSome files'
known_still parts files files' calls calls' puts puts' written written' hands is = still_told files files' (SavesUpTo Done parts hands.saves hands.puts) hands.told is

module _ (search : FallingValue) (parts : List AnswerPart) (has : HandedOutBefore search parts) (said : Said) (can_hold : List ℕ → ℕ → Type 0) (can_take : ℕ → Type 0) where
  -- all was handed out
  pub fits_done : SaysNow has.before has.machine search said → IsLast search → (status : ℕ) → status ≡ said.status → EndsIfItFits search parts status can_hold can_take
  fits_done says last status is = inr (said, inl (total search parts has said, found search parts has said last says, λ fit. is))

  -- the part in hand wasn't handed out, so it doesn't fit
  pub fits_not : Decided search parts has said → SaysNow has.before has.machine search said → (status : ℕ) → (status ≡ 73) ⊎ (status ≡ 74)
      → (CanHold can_hold said.outputs → can_take (length said.report) → ⊥) → EndsIfItFits search parts status can_hold can_take
  fits_not last says status broke never = inr (said, go (decided search parts has said last says))
    where
      go : AreFallingParts search.solve search.graph.choice search.parts search.steps (parts ++ part_of said ∷ [])
          → ((all : Said) × IsFallingFound search.solve search.graph.choice search.parts search.steps all (parts ++ part_of said ∷ []) × (FitsNow can_hold can_take said → status ≡ all.status))
          ⊎ (AreClaimParts search.solve search.graph.choice search.parts search.steps (parts ++ part_of said ∷ []) × ((status ≡ 73) ⊎ (status ≡ 74)) × (FitsNow can_hold can_take said → ⊥))
      go (inl (all, is_found)) = inl (all, is_found, λ fit. absurd (never fit.0 fit.1))
      go (inr claims) = inr (claims, broke, λ fit. never fit.0 fit.1)

-- what fits after the parts before is what fits with them
pub ends_fit : (search : FallingValue) (parts : List AnswerPart) (can_hold can_hold' : List ℕ → ℕ → Type 0) (can_take can_take' : ℕ → Type 0) → StillFits parts can_hold can_hold' can_take can_take'
    → (status : ℕ) → EndsIfItFits search parts status can_hold' can_take' → ClaimsIfTheyFit search.solve search.graph.choice search.parts search.steps status can_hold can_take
ends_fit search parts can_hold can_hold' can_take can_take' still status ends = go ends
  where
    now : (said : Said) → PartsFit can_hold can_take (parts ++ part_of said ∷ []) → FitsNow can_hold' can_take' said
    now said fit = next_fits can_hold can_hold' can_take can_take' parts (part_of said) still.holds still.takes fit

    go : EndsIfItFits search parts status can_hold' can_take' → ClaimsIfTheyFit search.solve search.graph.choice search.parts search.steps status can_hold can_take
    go (inl is) = inl is
    go (inr (said, inl (all, is_found, fits))) = inr (inl (record { said = all; parts = parts ++ part_of said ∷ []; found = is_found; if_they_fit = λ fit. fits (now said fit) }))
    go (inr (said, inr (claims, broke, never))) = inr (inr (record { broke = broke; parts = parts ++ part_of said ∷ []; parts_are = claims; do_not_fit = λ fit. never (now said fit) }))

-- memory ran out with these parts
pub ends_without_memory : (search : FallingValue) (parts : List AnswerPart) → HandedOutBefore search parts → (files files' : Option Files) (calls calls' puts puts' : List Call) (written written' : Option (List ℕ))
    → HandsParts Done parts files files' calls calls' puts puts' written written'
    → HandsOutFalling search.solve search.graph.choice search.parts search.steps 71 files files' calls calls' puts puts' written written'
ends_without_memory search parts has files files' calls calls' puts puts' written written' hands =
    record {
      ending = Done;
      parts = parts;
      hands = hands;
      ends = inr (
        refl,
        record {
          abstraction = search.graph.table.abstraction;
          graph_of = has.run.graph_of;
          finest = has.run.finest;
          claims = has.before;
          falling = has.falling;
          say = has.say;
          improvable = has.run.improvable;
        },
      );
    }

-- the same after the claim of the run in hand
pub ends_between_claims : (search : FallingValue) (parts : List AnswerPart) → HandedOutNow search parts → (files files' : Option Files) (calls calls' puts puts' : List Call) (written written' : Option (List ℕ))
    → HandsParts Done parts files files' calls calls' puts puts' written written'
    → HandsOutFalling search.solve search.graph.choice search.parts search.steps 71 files files' calls calls' puts puts' written written'
ends_between_claims search parts has files files' calls calls' puts puts' written written' hands =
    record {
      ending = Done;
      parts = parts;
      hands = hands;
      ends = inr (
        refl,
        record {
          abstraction = search.graph.table.abstraction;
          graph_of = has.run.graph_of;
          finest = has.run.finest;
          claims = has.before ++ claim_now search has.machine has.plan ∷ [];
          falling = has.falling;
          say = has.say;
          improvable = all_improvable has.before (claim_now search has.machine has.plan) has.run.improvable
              (λ bound. has.not_last (subst (IsLastAt (weight_now search)) (sym has.plan_is) bound));
        },
      );
    }

-- ---- the next run

same_plan : (search : Option Plan) (a b : Plan) → search ≡ Some a → search ≡ Some b → a ≡ b
same_plan search a b x y = cc

pub next_claimed : (search next : FallingValue) (parts : List AnswerPart) (has : HandedOutNow search parts) → GoesOn has.before has.machine search next
    → next.solve ≡ search.solve → next.parts ≡ search.parts → next.steps ≡ search.steps → HandedOutBefore next parts
next_claimed search next parts has goes solve_is task_is steps_is =
    let same = same_plan search.plan goes.plan has.plan goes.plan_is has.plan_is in
    let claims = has.before ++ claim_now search has.machine has.plan ∷ [] in
    record {
      before = claims;
      machine = goes.last;
      run = subst (λ (plan : Plan). IsFalling (has.before ++ claim_now search has.machine plan ∷ []) goes.last next) same goes.falling;
      falling = same_search (λ solve task blocks choice steps. AreFalling solve task blocks choice steps claims) has.falling;
      say = same_search (λ solve task blocks choice steps. SayClaims solve task blocks choice steps 0 claims parts) has.say;
    }
  where
    same_search : (P : SolveMeaning → TaskParts → AbstractGraph → Choice → ℕ → Type 0) → P search.solve search.parts search.graph.table.abstraction search.graph.choice search.steps
        → P next.solve next.parts next.graph.table.abstraction next.graph.choice next.steps
    same_search P h =
        subst (λ (s : SolveMeaning). P s next.parts next.graph.table.abstraction next.graph.choice next.steps) (sym solve_is)
        (subst (λ (t : TaskParts). P search.solve t next.graph.table.abstraction next.graph.choice next.steps) (sym task_is)
        (subst (λ (a : AbstractGraph). P search.solve search.parts a next.graph.choice next.steps) (sym goes.blocks)
        (subst (λ (c : Choice). P search.solve search.parts search.graph.table.abstraction c next.steps) (sym goes.choice)
        (subst (λ (k : ℕ). P search.solve search.parts search.graph.table.abstraction search.graph.choice k) (sym steps_is) h))))

-- ---- the first run, and the search of all runs

pub first_claimed : (search : FallingValue) → (machine : Machine) × IsFalling [] machine search → HandedOutBefore search []
first_claimed search (machine, run) = record {
  before = [];
  machine = machine;
  run = run;
  falling = record { are = tt; quiet_runs = tt; few = omega arith; weights = tt; hold = tt; fall = tt };
  say = tt;
}

-- what holds of what is asked for now, and of the choice of an estimate, held of both at first
pub of_first : (search first : FallingValue) → search.solve ≡ first.solve → search.graph.choice ≡ first.graph.choice → search.parts ≡ first.parts → search.steps ≡ first.steps
    → (P : SolveMeaning → Choice → TaskParts → ℕ → Type 0) → P search.solve search.graph.choice search.parts search.steps → P first.solve first.graph.choice first.parts first.steps
of_first search first solve_is choice_is task_is steps_is P h =
    subst (λ (s : SolveMeaning). P s first.graph.choice first.parts first.steps) solve_is
    (subst (λ (c : Choice). P search.solve c first.parts first.steps) choice_is
    (subst (λ (t : TaskParts). P search.solve search.graph.choice t first.steps) task_is
    (subst (λ (k : ℕ). P search.solve search.graph.choice search.parts k) steps_is h)))

-- a run that isn't the last one is nearer to it
pub comes_nearer : (steps run next_steps next_run : ℕ) → run ≤ steps → (run ≡ steps → ⊥) → next_steps ≡ steps → next_run ≡ run + 1 → next_steps - next_run < steps - run
comes_nearer steps run next_steps next_run within other steps_is run_is =
    let less = below steps run within other in
    omega (arith, less, steps_is, run_is)
  where
    below : (steps run : ℕ) → run ≤ steps → (run ≡ steps → ⊥) → run < steps
    below zero zero within other = absurd (other refl)
    below zero (suc run) within other = absurd (omega (arith, within))
    below (suc steps) zero within other = omega arith
    below (suc steps) (suc run) within other =
        let less = below steps run (omega (arith, within)) (λ e. other (ap suc e)) in
        omega (arith, less)
