-- What a store shows of a search that came to a quiet end: its plan and its certificate. Other crates
-- cite this module too.
use Rattle.std.proofs.Common.{◌≡◌, ℕ, ◌^◌, ◌<◌, ◌≤◌, IsTrue, true, Option, None, Some, List, [], ◌∷◌, length, Result, Ok, Err, refl, ap, sym, ◌∙◌, subst, arith}
use Rattle.std.specs.List.{AllByRecursion}
use Rattle.std.proofs.lemmas.List.Elements.{All-from_recursion}
use Rattle.pb_model.specs.declared.row.Estimate.{Estimate}
use Rattle.pb_model.specs.declared.row.Row.{Row}
use Rattle.pb_model.specs.Space.{Space, IsProper}
use Rattle.pb_model.specs.Weight.{Weight}
use Rattle.pb_model.specs.Guide.{Guide}
use Rattle.pb_model.specs.Plan.{Plan, Walk, IsPlan}
use Rattle.pb_model.specs.Store.{Store, IsQuiet}
use Rattle.pb_model.specs.Sound.{IsSound}
use Rattle.pb_model.specs.Trace.{TracesBack}
use Rattle.pb_model.specs.Certificate.{Line, Certificate, AreLinesOf, IsValid, IsPlanIfAny, IsBackedBy}
use Rattle.pb_task.specs.declared.grounding.Grounding.{Grounding}
use Rattle.pb_task.specs.declared.grounding.Grounding.TheVariants.{All, Reachable}
use Rattle.pb_task.specs.declared.parts.TaskParts.{TaskParts}
use Rattle.pb_task.specs.declared.parts.TaskParts.TheVariants.{Grid, Tiles, Strips}
use Rattle.pb_task.specs.Parts.{space_of, IsTask, greatest_cost}
use Rattle.pb_task.specs.Groundings.{grounding_of}
use Rattle.pb_task.specs.Widths.{width_of}
use Rattle.pb_task.proofs.Callers.{states_fit_their_width, tasks_are_proper}
use Rattle.pb_estimate.specs.Choices.{Choice, Plain, Pattern, Tables}
use Rattle.pb_estimate.specs.declared.spelling.Spelling.{Spelling}
use Rattle.pb_estimate.specs.Estimates.{estimate_by, suits}
use Rattle.pb_estimate.specs.Spelling.{IsSpelling, version_of, spelling_of, spelled_text}
use Rattle.pb_lists.specs.Store.{store_with, guide_to, IsPlaced, IsSoundAt, IsQuietEnd}
use Rattle.pb_check.specs.declared.fault.CertificateFault.{CertificateFault}
use Rattle.pb_check.specs.declared.fault.Verdict.{Verdict}
use Rattle.pb_check.specs.declared.fault.CheckError.TheVariants as errors
use Rattle.pb_check.specs.Judging.{checked, verdict_of}
use Rattle.pb_check.specs.Shown.{IsAccepted}
use Rattle.pb_check.specs.Spelling.{PlanFits, PlanFitsIfAny, Fits, HasWidthOf}
use Rattle.pb_check.proofs.Callers.{gives_accepted}
use Rattle.pb_cert.specs.Traced.{HasGoal, IsTrace}
use Rattle.pb_cert.specs.Stated.{SpelledCertificate, text_of}
use Rattle.pb_cert.specs.Found.{IsPlanOf, certificate_of, IsCertificateOf}
use Rattle.pb_cert.proofs.Shown.{shown_rows_can_be_traced}

-- a task has few actions
few_actions : (parts : TaskParts) → IsTask parts → (space_of parts).actions ≤ 65536
few_actions (Grid grid) lawful = omega arith
few_actions (Tiles tiles) lawful = omega arith
few_actions (Strips strips) lawful = lawful.few

module _ (space : Space) (most : ℕ) (proper : IsProper space most) where
  -- a plan's actions are those of the space
  pub walk_actions : (actions : List ℕ) (from cost to : ℕ) → Walk space from actions cost to
      → AllByRecursion (λ action. action < space.actions) actions
  walk_actions [] from cost to walk = tt
  walk_actions (action ∷ actions) from cost to walk = (
    proper.action from action walk.0 walk.1 walk.3,
    walk_actions actions walk.0 walk.2 to walk.4,
  )

  -- each step costs at least 1
  pub walk_length : (actions : List ℕ) (from cost to : ℕ) → Walk space from actions cost to
      → length actions ≤ cost
  walk_length [] from cost to walk = omega arith
  walk_length (action ∷ actions) from cost to walk =
      let rest = walk_length actions walk.0 walk.2 to walk.4 in
      let first = proper.positive from action walk.0 walk.1 walk.3 in
      omega (arith, rest, first, walk.5)

-- a certificate that is written says how many digits a state of its task has
same_width : (parts : TaskParts) (grounding : Grounding) (choice : Choice)
    → HasWidthOf parts (version_of grounding choice) (width_of parts)
same_width parts All Plain = refl
same_width parts All (Pattern number) = refl
same_width parts All (Tables tables) = refl
same_width parts Reachable choice = refl

-- the text of a valid certificate whose numbers can be stated is accepted, if the choice that it
-- states suits
text_is_accepted : (parts : TaskParts) (choice : Choice) (certificate : Certificate)
    → IsSpelling (spelling_of parts choice) → suits parts choice ≡ true
    → IsValid (space_of parts) (estimate_by parts choice) certificate
    → Fits (width_of parts) certificate
    → checked parts (spelled_text (spelling_of parts choice) certificate)
    ≡ Ok (verdict_of certificate.weight certificate.plan)
text_is_accepted parts choice certificate known stated valid fits =
    go (checked parts bytes) refl
  where
    bytes : List ℕ
    bytes = spelled_text (spelling_of parts choice) certificate

    accepted : IsAccepted parts bytes (verdict_of certificate.weight certificate.plan)
    accepted = record {
      spelling = spelling_of parts choice;
      certificate = certificate;
      spelled = record {
        known = known;
        text = refl;
        fits = fits;
      };
      kind = refl;
      width = same_width parts (grounding_of parts) choice;
      grounding = refl;
      stated = stated;
      valid = valid;
      verdict_is = refl;
    }

    go : (r : Result Verdict CertificateFault) → checked parts bytes ≡ r
        → checked parts bytes ≡ Ok (verdict_of certificate.weight certificate.plan)
    go (Ok verdict) e =
        e ∙ sym (gives_accepted parts bytes (Ok verdict) e
        (verdict_of certificate.weight certificate.plan) accepted)
    go (Err fault) e =
        let bad : ◌≡◌ {A = Result Verdict CertificateFault}
        (Ok (verdict_of certificate.weight certificate.plan)) (Err fault) =
        gives_accepted parts bytes (Err (errors.Fault fault)) e
        (verdict_of certificate.weight certificate.plan) accepted in cc

-- ---- the way back to the start

-- it goes by homes and rows alone, and not by estimates or incumbents
traces_by_rows : (space : Space) (guide other : Guide) (store there : Store) (state : ℕ)
    (actions : List ℕ) → other.home ≡ guide.home → there.rows ≡ store.rows
    → TracesBack space guide store state actions → TracesBack space other there state actions
traces_by_rows space guide other store there state [] home rows back = back
traces_by_rows space guide other store there state (action ∷ actions) home rows back =
    let step = back.1 in (
      back.0,
      (
        step.0,
        step.1,
        (λ i. rows i (home i state) state) ∙ step.2,
        step.3,
        step.4,
        traces_by_rows space guide other store there step.1 actions home rows step.5,
      ),
    )

-- ---- a store at the quiet end of a search

module _ (parts : TaskParts) (guide : Guide) (store : Store)
    (end : IsQuietEnd (space_of parts) guide store) where
  -- with an incumbent a plan can be traced
  pub can_be_traced : (cost : ℕ) → store.incumbent ≡ Some cost
      → IsSoundAt (space_of parts) guide.home store.rows store.weight
      × HasGoal (space_of parts) store.rows
  can_be_traced cost known =
      shown_rows_can_be_traced (space_of parts) guide store.rows store.weight store.incumbent cost
      end.sound end.shown known

  small_row : (home state : ℕ) (row : Row) → store.rows home state ≡ Some row → row.g < 2 ^ 63
  small_row home state row found =
      let small = end.small home state row found in omega (arith, small)

  -- ---- the plan

  -- the numbers of a plan that costs no more than a goal's row can be stated
  plan_is_small : IsTask parts → (plan : Plan) → IsPlan (space_of parts) plan → plan.cost < 2 ^ 63
      → PlanFits plan
  plan_is_small lawful plan a_plan small =
      let proper = (tasks_are_proper parts lawful).0 in
      let start = (space_of parts).start in
      let short = walk_length (space_of parts) greatest_cost proper plan.actions start plan.cost
      a_plan.0 a_plan.1 in
      let few = few_actions parts lawful in
      record {
        count = omega (arith, short, small);
        actions = λ k d less.
            let action = All-from_recursion (λ (action : ℕ). action < (space_of parts).actions)
            plan.actions
            (walk_actions (space_of parts) greatest_cost proper plan.actions start plan.cost a_plan.0
            a_plan.1) k d less in
            omega (arith, action, few);
        cost = small;
      }

  -- a plan that was traced
  pub traced_plan : IsTask parts → (cost : ℕ) → store.incumbent ≡ Some cost → (plan : Plan)
      → IsPlan (space_of parts) plan
      → ((home goal : ℕ) (row : Row) → store.rows home goal ≡ Some row
      → IsTrue ((space_of parts).is_goal goal) → plan.cost ≤ row.g)
      → IsTrace (space_of parts) (guide_to guide.home) (store_with store.rows store.weight None)
      plan.actions
      → IsPlanOf parts guide store (Some plan)
  traced_plan lawful cost known plan a_plan cheapest trace =
      let goal = end.shown cost known in
      let home = guide.home goal.0 in
      let under = cheapest home goal.0 goal.2.0 goal.2.1 goal.1 in
      let within : plan.cost ≤ cost = omega (arith, under, goal.2.2) in
      let low = small_row home goal.0 goal.2.0 goal.2.1 in
      let small : plan.cost < 2 ^ 63 = omega (arith, under, low) in
      record {
        is_plan = a_plan;
        backed = subst (λ (o : Option ℕ). IsBackedBy o (Some plan)) (sym known) within;
        traced = record {
          goal = trace.goal;
          g = trace.g;
          first = trace.first;
          back = traces_by_rows (space_of parts) (guide_to guide.home) guide
              (store_with store.rows store.weight None) store trace.goal _ refl refl trace.back;
        };
        fits = plan_is_small lawful plan a_plan small;
      }

  pub no_plan : store.incumbent ≡ None → IsPlanOf parts guide store None
  no_plan known = record {
    is_plan = tt;
    backed = subst (λ (o : Option ℕ). IsBackedBy o None) (sym known) tt;
    traced = tt;
    fits = tt;
  }

  -- ---- the certificate

  -- a certificate is valid whatever the incumbent that backs its plan
  abbrev pub IsValidFor : Option Plan → SpelledCertificate → Type 0
  IsValidFor plan c = (space : Space) (guide : Guide) (incumbent : Option ℕ)
      → IsSound space guide (store_with store.rows store.weight incumbent)
      → IsQuiet (store_with store.rows store.weight incumbent)
      → IsPlanIfAny space plan → IsBackedBy incumbent plan
      → IsValid space guide.estimate c.certificate

  -- what is said of a certificate's lines
  abbrev pub HasLines : SpelledCertificate → Type 0
  HasLines c = (guide : Guide) → IsPlaced guide.home store.rows
      → AreLinesOf guide store.rows c.certificate.lines

  home_lines : (c : SpelledCertificate) → HasLines c → AreLinesOf guide store.rows c.certificate.lines
  home_lines c lines = lines guide (λ home state row found. (end.sound.place home state row found).0)

  same_certificate : (weight : Weight) (c : SpelledCertificate) (plan : Option Plan)
      → c.certificate.weight ≡ weight → c.certificate.plan ≡ plan
      → c.certificate ≡ certificate_of weight plan c.certificate.lines
  same_certificate weight c plan w p =
      λ i. record {
        weight = w i;
        plan = p i;
        lines = c.certificate.lines;
      }

  -- the numbers of a certificate can be stated
  fits : IsTask parts → (estimate : ℕ → Estimate) (weight : Weight) → weight.num < 2 ^ 63
      → weight.den < 2 ^ 63 → (c : SpelledCertificate) (plan : Option Plan)
      → IsValid (space_of parts) estimate (certificate_of weight plan c.certificate.lines)
      → length c.certificate.lines < 2 ^ 63 → HasLines c → PlanFitsIfAny plan
      → Fits (width_of parts) (certificate_of weight plan c.certificate.lines)
  fits lawful estimate weight num den c plan valid count lines plan_fits =
      let are = home_lines c lines in
      record {
        weight = (num, den);
        plan = plan_fits;
        count = count;
        lines = λ k d less.
            let line = are.sound k d less in
            let state = (states_fit_their_width parts lawful).2 _ (valid.states k d less) in (
              state,
              subst (λ (l : Line). l.g < 2 ^ 63) (sym line.2) (small_row _ _ line.0 line.1),
            );
      }

  -- the text of a certificate that was made of the rows, at this weight and by this choice; its plan
  -- costs no more than the incumbent and can be stated, whether the rows lead to it or not
  pub states_certificate : IsTask parts → (choice : Choice)
      → guide.estimate ≡ estimate_by parts choice → suits parts choice ≡ true
      → IsSpelling (spelling_of parts choice)
      → (weight : Weight) → store.weight ≡ weight → weight.num < 2 ^ 63 → weight.den < 2 ^ 63
      → (c : SpelledCertificate) (plan : Option Plan) (text : List ℕ) → text ≡ text_of c
      → c.spelling ≡ spelling_of parts choice
      → c.certificate.weight ≡ store.weight → c.certificate.plan ≡ plan
      → length c.certificate.lines < 2 ^ 63 → HasLines c → IsValidFor plan c
      → IsPlanIfAny (space_of parts) plan → IsBackedBy store.incumbent plan → PlanFitsIfAny plan
      → IsCertificateOf parts choice weight guide store plan text
  states_certificate lawful choice estimates stated known weight weighs num den c plan text said
      spelling w p count lines valid a_plan backed plan_fits =
      let made : Certificate = certificate_of weight plan c.certificate.lines in
      let same : c.certificate ≡ made = same_certificate weight c plan (w ∙ weighs) p in
      let estimate : ℕ → Estimate = estimate_by parts choice in
      let here : IsValid (space_of parts) estimate made =
      subst (λ (e : ℕ → Estimate). IsValid (space_of parts) e made) estimates
      (subst (λ (k : Certificate). IsValid (space_of parts) guide.estimate k) same
      (valid (space_of parts) guide store.incumbent end.sound end.quiet a_plan backed)) in
      let is : text ≡ spelled_text (spelling_of parts choice) made =
      said ∙ ap (λ (s : Spelling). spelled_text s c.certificate) spelling
      ∙ ap (λ (k : Certificate). spelled_text (spelling_of parts choice) k) same in
      record {
        lines = c.certificate.lines;
        are_lines = home_lines c lines;
        estimates = estimates;
        valid = here;
        text_is = is;
        accepted = ap (λ (bytes : List ℕ). checked parts bytes) is
            ∙ text_is_accepted parts choice made known stated here
            (fits lawful estimate weight num den c plan here count lines plan_fits);
      }

  -- the same of a plan that the rows lead to
  pub is_certificate : IsTask parts → (choice : Choice) → guide.estimate ≡ estimate_by parts choice
      → suits parts choice ≡ true → IsSpelling (spelling_of parts choice)
      → (weight : Weight) → store.weight ≡ weight → weight.num < 2 ^ 63 → weight.den < 2 ^ 63
      → (c : SpelledCertificate) (plan : Option Plan) (text : List ℕ) → text ≡ text_of c
      → c.spelling ≡ spelling_of parts choice
      → c.certificate.weight ≡ store.weight → c.certificate.plan ≡ plan
      → length c.certificate.lines < 2 ^ 63 → HasLines c → IsValidFor plan c
      → IsPlanOf parts guide store plan
      → IsCertificateOf parts choice weight guide store plan text
  is_certificate lawful choice estimates stated known weight weighs num den c plan text said spelling
      w p count lines valid best =
      states_certificate lawful choice estimates stated known weight weighs num den c plan text said
      spelling w p count lines valid best.is_plan best.backed best.fits
